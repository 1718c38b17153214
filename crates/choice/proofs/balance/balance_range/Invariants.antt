use Prim.Native.Nat.{◌-◌}
use Rattle.choice.specs.Reads.{weight_at}
use Rattle.topology.specs.Node.{contains_at}
use Rattle.topology.specs.Walk.{those_from}
use Rattle.rules.specs.Choice.{extremes}
use Rattle.topology.specs.CpuSet.{contains}
use mathlib.Core.Path.{◌≡◌}
use Rattle.choice.proofs.balance.balance_range.Given as goal

abbrev pub invariant-loop-c : goal.invariant-loop-c
invariant-loop-c l = extremes l.us (contains l.allowed) (weight_at l.cpus) (those_from (contains_at l.nodes l.n) l.from (l.to - l.from)) l.initial.e ≡ extremes l.us (contains l.allowed) (weight_at l.cpus) (those_from (contains_at l.nodes l.n) l.c (l.to - l.c)) l.e
