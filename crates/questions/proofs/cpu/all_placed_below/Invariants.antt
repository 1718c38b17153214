use mathlib.Core.Path.{◌≡◌}
use Prim.Native.Nat.{◌≤◌}
use Rattle.questions.specs.Questions.{all_placed_below}
use Rattle.questions.proofs.cpu.all_placed_below.Given as goal

abbrev pub invariant-loop-n : goal.invariant-loop-n
invariant-loop-n l = (l.n ≤ l.end) × (l.answer ≡ all_placed_below l.cpus l.n)
