use Prim.Native.Nat.{◌≤◌}
use lib.ListN.{length}
use Rattle.explain.proofs.list_block.Given as goal

abbrev pub invariant-loop-rest : goal.invariant-loop-rest
invariant-loop-rest g l = length l.rest ≤ length l.block

abbrev pub decreases-loop-rest : goal.decreases-loop-rest
decreases-loop-rest g l = length l.rest
