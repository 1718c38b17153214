use Rattle.std.proofs.Common.{add-one, ◌∙◌}
use Rattle.parse.proofs.Reading.{fields_next}
use Rattle.parse.proofs.fields.Goals as goal

pub loop-i-preserved : goal.loop-i-preserved
loop-i-preserved c =
    rw (add-one, c.split_word.ensures.behind, c.skip_blanks.ensures)
    (c.loop-i.invariant
    ∙ fields_next c.args.wide c.args.byte c.field_count-count.result c.loop-i.i _ c.loop-i.left.now c.loop-i-test.true c.field.result
    (rw (← c.skip_blanks.ensures, ← c.split_word.ensures.word) c.field.ensures) _ c.in-Some.is)
