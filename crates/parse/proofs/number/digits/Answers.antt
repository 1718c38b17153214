use Rattle.std.proofs.Common.{rules, ◌∙◌}
use native.Mathlib.Numerals.{unary_clauses}
use Rattle.parse.proofs.Numbers.{digit_more}
use Rattle.parse.proofs.number.digits.Goals as goal

pub loop-byte-preserved : goal.loop-byte-preserved
loop-byte-preserved c = simp unary_clauses
    (c.loop-byte.invariant
    ∙ digit_more c.args.hexadecimal c.args.word.now c.loop-byte.byte-index c.loop-byte.n c.digit.result (search rules) c.digit.ensures
    c.in_ok-digit.field-0 c.next.result c.next.ensures (search rules) c.in_ok-n.n (search rules))
