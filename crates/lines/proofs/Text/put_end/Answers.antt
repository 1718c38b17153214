use Rattle.lines.proofs.Writing.{wrote_then, end_parts}
use Rattle.lines.proofs.Text.put_end.Goals as goal

pub returns : goal.returns
returns c =
    rw (← end_parts c.args.commands c.args.refused)
    (wrote_then c.args.self.now c.put_bytes.new.self c.put.new.self _ _ c.put_bytes.ensures (wrote_then c.put_bytes.new.self c.put_numbers.new.self c.put.new.self _ _ c.put_numbers.ensures c.put.ensures))
