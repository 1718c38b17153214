-- What questions 3 and 4 answered yes give of a command that a CPU runs: the CPU is one of the CPUs, on a node.
use Rattle.std.specs.Prelude.{ℕ, ◌<◌, ◌≡◌, Some}
use Rattle.rules.specs.State.{State}

pub record On (s : State) (c : ℕ) : Type 0 where
  pub near : c < s.limits.cpus
  pub node : ℕ
  pub put_on : s.topology.placed c ≡ Some node
