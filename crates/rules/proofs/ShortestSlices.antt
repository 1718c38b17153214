-- The User timeslice by its load, for any figure. 2026-07: "Timeslices at timeshare load 0 are still 100."
use Rattle.std.specs.Prelude.{ℕ, ◌≤◌, ◌<◌, ◌≡◌}
use Rattle.std.proofs.Math.Path.{refl}
use Rattle.rules.specs.declared.PriorityClass.TheVariants as class
use Rattle.rules.specs.Times.{timeslice}
use Rattle.rules.specs.Questions.{most_shortest}
use Rattle.rules.proofs.Laws.Shortest as laws

module _ (shortest : ℕ) where
  abbrev slice : ℕ → ℕ
  slice load = timeslice shortest class.User load

  -- "Timeslices at timeshare load 0 are still 100."
  pub at_load_0 : slice 0 ≡ 100
  unfolding timeslice
  at_load_0 = refl

  -- at any other load: the figure at least, 32 at most, and never more where the load is larger
  pub at_least_the_figure : (load : ℕ) → 0 < load → shortest ≤ slice load
  at_least_the_figure load h = laws.slice_least shortest load h

  pub at_most_32 : shortest ≤ most_shortest → (load : ℕ) → 0 < load → slice load ≤ 32
  at_most_32 r load h = laws.slice_most shortest r load h

  pub never_grows : (load more : ℕ) → 0 < load → load ≤ more → slice more ≤ slice load
  never_grows load more h k = laws.slice_falls shortest load more h k
