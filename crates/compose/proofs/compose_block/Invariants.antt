use Prim.Native.Nat.{◌≤◌}
use lib.ListN.{length}
use Rattle.compose.proofs.compose_block.Given as goal

abbrev pub invariant-loop-end : goal.invariant-loop-end
invariant-loop-end g l = length l.rest ≤ length l.block

abbrev pub decreases-loop-end : goal.decreases-loop-end
decreases-loop-end g l = length l.rest
