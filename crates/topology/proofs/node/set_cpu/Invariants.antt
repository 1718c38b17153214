use Rattle.std.proofs.Common.{◌≡◌, ◌-◌, length}
use Rattle.topology.specs.Node.{set_cpu, set_cpu_up}
use Rattle.topology.proofs.node.set_cpu.Given as goal

abbrev pub invariant-loop-i : goal.invariant-loop-i
invariant-loop-i l =
    (length l.nodes ≡ length l.initial.nodes) × (set_cpu l.initial.nodes l.node l.cpu ≡ set_cpu_up (length l.nodes - l._i) l.nodes l.n l.cpu)
