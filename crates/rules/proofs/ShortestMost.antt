-- The User timeslice at the largest figure.
use Rattle.std.specs.Prelude.{ℕ, ◌<◌, ◌≡◌}
use Rattle.std.proofs.Common.{arith}
use Rattle.rules.specs.declared.PriorityClass.TheVariants as class
use Rattle.rules.specs.Times.{timeslice}
use Rattle.rules.specs.Questions.{most_shortest}
use Rattle.rules.proofs.ShortestSlices.{at_least_the_figure, at_most_32}

-- at the largest figure every load above 0 has the same
pub at_32 : (load : ℕ) → 0 < load → timeslice 32 class.User load ≡ 32
unfolding most_shortest
at_32 load h = omega (arith, at_least_the_figure 32 load h, at_most_32 32 (omega arith) load h)
