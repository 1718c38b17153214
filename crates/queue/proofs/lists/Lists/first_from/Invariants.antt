use Rattle.std.proofs.Common.{◌≡◌, ◌+◌, ◌-◌, ◌≤◌}
use Rattle.queue.specs.Lists.{first_from, scan_heads}
use Rattle.queue.proofs.lists.Lists.first_from.Given as goal

abbrev pub invariant-loop-i : goal.invariant-loop-i
invariant-loop-i l = (l.i ≤ 8) × (first_from l.self l.from ≡ scan_heads 8 l.self.heads (l.start + l.i) (8 - l.i))
