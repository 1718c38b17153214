-- What a CPU runs, in the line; and the limit of CPUs.
use Prim.Native.Nat.{ℕ, ◌≤◌, ◌<◌}
use Rattle.std.specs.Prelude.{◌≡◌, ltb, Option, None, Some}
use Rattle.std.proofs.Math.Path.{refl}
use Rattle.std.proofs.Common.{ne_eqb, ltb-false}
use native.Mathlib.Omega.{arith}
use Rattle.rules.proofs.Laws.Line.{both}
use Rattle.rules.specs.Commands.{running_of}
use Rattle.thread.specs.Thread.{NONE}
use Rattle.represents.specs.World.{number_or_none}
use Rattle.topology.specs.CpuSet.{max_cpu_id}
use Rattle.topology.specs.Node.{lesser}
use Rattle.outcome.specs.Answer.{running_in}

-- ---- the line: what a CPU runs

pub running_same : (o : Option ℕ) → ((x : ℕ) → o ≡ Some x → x < NONE) → running_in (number_or_none o) ≡ running_of o
unfolding running_in number_or_none running_of
running_same None h = refl
running_same (Some x) h = let l : x < NONE = h x refl in rw (ne_eqb x NONE (λ e. omega arith))

-- a limit that a set of CPUs can hold is not cut
pub uncut : (n : ℕ) → n ≤ max_cpu_id → lesser n max_cpu_id ≡ n
unfolding lesser
uncut n h = both (ltb n max_cpu_id) (λ e. rw e) (λ e. rw e (let l : max_cpu_id ≤ n = ltb-false _ _ e in omega arith))
