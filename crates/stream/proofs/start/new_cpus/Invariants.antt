use Rattle.std.proofs.Common.{◌≡◌, ◌≤◌}
use Rattle.stream.specs.Start.{new_cpus}
use Rattle.stream.proofs.start.new_cpus.Given as goal

abbrev pub invariant-loop-c : goal.invariant-loop-c
invariant-loop-c l = (l.c ≤ 64) × (l.cpus ≡ new_cpus l.c l.initial.cpus)
