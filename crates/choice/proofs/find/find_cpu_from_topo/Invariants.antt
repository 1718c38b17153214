use Rattle.std.proofs.Common.{length}
use Prim.Native.Nat.{◌-◌}
use Rattle.choice.specs.Found.{begun}
use Rattle.choice.specs.Reads.{skips_at, weight_at}
use Rattle.topology.specs.Walk.{leaf_cpus, to_root, visited_at}
use Rattle.rules.specs.Choice.{find_cpu}
use Rattle.rules.specs.State.{join_all}
use mathlib.Core.Path.{◌≡◌}
use Rattle.choice.proofs.find.find_cpu_from_topo.Given as goal

abbrev pub invariant-loop-i : goal.invariant-loop-i
invariant-loop-i l = find_cpu l.us (skips_at l.cpus l.pri) (weight_at l.cpus) (visited_at l.nodes l.limit) (begun l.draws) ≡ find_cpu l.us (skips_at l.cpus l.pri) (weight_at l.cpus) (join_all (leaf_cpus l.nodes l.limit) (to_root l.nodes 5 (length l.nodes - l._i) l.n)) l.f
