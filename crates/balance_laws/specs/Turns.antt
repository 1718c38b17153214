-- The turns of the rules' `balance`: twenty are enough, wherever one begins to count.
use Rattle.std.specs.Prelude.{Bool, ◌&&◌}
use Rattle.std.proofs.Math.Dec.{ltb}
use Rattle.rules.specs.Schedule.{Balancing}

-- another turn is due
unfoldable pub going : Balancing → Bool
going b = b.goes_on && ltb b.steps 20
