use Rattle.std.proofs.Common.{◌^◌, ltb, ◌∙◌, refl, rules, tests}
use Rattle.std.proofs.lemmas.Iterator.{YieldsList-from_slice, YieldsList-from_zip}
use Rattle.std.proofs.lemmas.Iterator.Search.{all_from_yields_List}
use Rattle.request.specs.Fields.{four, row}
use Rattle.writer.proofs.Rows.{fits_row}
use Rattle.writer.proofs.fit.Goals as goal

pub returns : goal.returns
unfolding four
returns c =
    all_from_yields_List (λ p. ltb p.0 (256 ^ p.1)) c.all.new.self _ c.all.result c.all.ensures.ran (YieldsList-from_zip {ys = four (row c.args.wide c.args.command.byte)} (YieldsList-from_slice c.from-fields.result cc) (YieldsList-from_slice (four (row c.args.wide c.args.command.byte)) (search rules))) (λ x b q k. search (rules, tests))
    ∙ fits_row _ _ _ _ _ refl c.from-fields.ensures
