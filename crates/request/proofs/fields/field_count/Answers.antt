use Rattle.std.proofs.Common.{◌≡◌, ◌∙◌, false, length, nat_lt, rules, tests}
use Rattle.std.proofs.lemmas.Iterator.{YieldsList-from_slice}
use Rattle.std.proofs.lemmas.Iterator.Consumers.{count_from_yields_List, YieldsList-from_filter}
use Rattle.request.specs.Fields.{row}
use Rattle.request.proofs.ByWidths.{row_plain, fields_counted}
use Rattle.request.proofs.fields.field_count.Goals as goal

pub returns : goal.returns
returns c =
    let counted : c.count.result ≡ length (row false c.args.byte) =
    count_from_yields_List c.filter.result _ c.count.ensures.ran (YieldsList-from_filter _ (nat_lt 0) (YieldsList-from_slice c.widths_of-widths.result cc) c.filter.ensures.closure (λ x r q k. search (rules, tests)))
    ∙ fields_counted _ _ c.widths_of-widths.ensures (row_plain _ _)
    in search (rules, counted)
