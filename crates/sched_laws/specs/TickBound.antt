-- NO CPU'S LAST HARD TICK IS PAST THE TICK, whatever calls are made.
use Rattle.std.specs.Prelude.{ℕ, ◌≤◌}
use Rattle.rules.specs.State.{State}

pub record TickBound (s : State) : Type 0 where
  pub last : (c : ℕ) → (s.cpus c).last_tick ≤ s.tick
