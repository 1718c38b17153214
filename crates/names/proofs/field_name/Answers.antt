use Rattle.names.proofs.Fields.{field_got}
use Rattle.names.proofs.field_name.Goals as goal

pub returns : goal.returns
returns c = field_got (λ s. s.now) c.names.result.1.now c.args.byte c.args.i c.get.result c.copied.result c.names.ensures.1 c.get.ensures.lookup c.copied.ensures
