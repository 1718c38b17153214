use Rattle.std.proofs.Common.{length}
use Prim.Native.Nat.{◌-◌}
use Rattle.choice.specs.Reads.{load_at, movable_at}
use Rattle.topology.specs.Walk.{cpus_at, nearest_at, to_root}
use Rattle.rules.specs.Choice.{first_that, may_steal_from}
use Rattle.rules.specs.State.{join_all}
use mathlib.Core.Path.{◌≡◌}
use Rattle.choice.proofs.steal.choose_cpu_steal_via_topo.Given as goal

abbrev pub invariant-loop-i : goal.invariant-loop-i
invariant-loop-i l = first_that (may_steal_from l.us (load_at l.cpus) (movable_at l.cpus)) (nearest_at l.nodes l.limit l.node) ≡ first_that (may_steal_from l.us (load_at l.cpus) (movable_at l.cpus)) (join_all (cpus_at l.nodes l.limit) (to_root l.nodes 1 (length l.nodes - l._i) l.n))
