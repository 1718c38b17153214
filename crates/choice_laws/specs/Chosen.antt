-- On words that are a tree of nodes and show the CPUs of a world, each choice is the choice of the rules.
use Prim.Native.Nat.{ℕ, ◌^◌, ◌<◌}
use Rattle.std.specs.Prelude.{◌≡◌}
use mathlib.Core.List.{List}
use Rattle.rules.specs.Queue.{load}
use Rattle.rules.specs.State.{Limits}
use Rattle.rules.specs.Schedule.{World, with_cpu, with_draws, current_load, current_priority, movable_on}
use Rattle.choice.specs.Reads.{load_at, priority_at, queue_load_at, movable_at}

-- ---- what the words must say of the CPUs of a world

-- Of each CPU below the limit its load, how many wait, how many of them are not pinned, and its priority; no load is so large that a score wraps.
pub record ChoiceReads (limits : Limits) (cpus : List (List ℕ)) (w : World) : Type 0 where
  pub loads : (c : ℕ) → c < limits.cpus → load_at cpus c ≡ current_load (w.cpus c)
  pub waiting : (c : ℕ) → c < limits.cpus → queue_load_at cpus c ≡ load (w.cpus c).queue
  pub movables : (c : ℕ) → c < limits.cpus → movable_at cpus c ≡ movable_on w c
  pub priorities : (c : ℕ) → c < limits.cpus → priority_at cpus c ≡ current_priority (w.cpus c)
  pub small : (c : ℕ) → c < limits.cpus → current_load (w.cpus c) < 2 ^ 56

-- ---- `select_cpu`

-- the world with another draw state of CPU us
unfoldable pub drawn : ℕ → World → ℕ → World
drawn us w draws = with_cpu w us (with_draws (w.cpus us) draws)
