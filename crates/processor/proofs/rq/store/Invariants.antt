use Rattle.std.proofs.Common.{◌≡◌, ◌≤◌}
use Rattle.processor.specs.Window.{place_n}
use Rattle.processor.proofs.rq.store.Given as goal

abbrev pub invariant-loop-i : goal.invariant-loop-i
invariant-loop-i l = (l.i ≤ 8) × (l.row ≡ place_n l.initial.row l.at l.v l.i)
