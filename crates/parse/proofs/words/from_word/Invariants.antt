use mathlib.Core.Path.{◌≡◌}
use Prim.Native.Nat.{◌-◌}
use Rattle.parse.specs.Words.{from_word}
use Rattle.parse.proofs.words.from_word.Given as goal

abbrev pub invariant-loop-i : goal.invariant-loop-i
invariant-loop-i l = from_word l.i l.text ≡ from_word (l.i - l._i) l.left
