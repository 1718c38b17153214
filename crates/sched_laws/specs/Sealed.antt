-- ONCE SEALED, EVERY DECLARED CPU IS ON A NODE, whatever calls are made.
use Rattle.std.specs.Prelude.{ℕ, ◌<◌, ◌≡◌, true, is_some}
use Rattle.rules.specs.State.{State}

-- what is asked of a sealed topology
pub record Sealed (s : State) : Type 0 where
  pub on_node : s.sealed ≡ true → (c : ℕ) → c < s.limits.cpus → s.topology.declared c ≡ true → is_some (s.topology.placed c) ≡ true
