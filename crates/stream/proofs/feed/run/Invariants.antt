use Rattle.std.proofs.Common.{◌-◌}
use Rattle.stream.proofs.Feeding.{Inv}
use Rattle.stream.specs.Feed.{world_of_def}
use Rattle.stream.proofs.feed.run.Given as goal

abbrev pub invariant-loop-reading : goal.invariant-loop-reading
invariant-loop-reading l =
    Inv l.n l.input l.n l.last (world_of_def l.initial.threads l.initial.cpus l.initial.nodes l.initial.output l.initial.f)
    (world_of_def l.threads l.cpus l.nodes l.output l.f)

abbrev pub decreases-loop-reading : goal.decreases-loop-reading
decreases-loop-reading l = l.n - l.f.at
