use Prim.Native.Nat.{◌-◌}
use Rattle.choice.specs.Reads.{skips_at, weight_at}
use Rattle.topology.specs.Node.{contains_at}
use Rattle.topology.specs.Walk.{those_from}
use Rattle.rules.specs.Choice.{find_cpu}
use mathlib.Core.Path.{◌≡◌}
use Rattle.choice.proofs.find.search_range.Given as goal

abbrev pub invariant-loop-c : goal.invariant-loop-c
invariant-loop-c l = find_cpu l.us (skips_at l.cpus l.pri) (weight_at l.cpus) (those_from (contains_at l.nodes l.n) l.from (l.to - l.from)) l.initial.f ≡ find_cpu l.us (skips_at l.cpus l.pri) (weight_at l.cpus) (those_from (contains_at l.nodes l.n) l.c (l.to - l.c)) l.f
