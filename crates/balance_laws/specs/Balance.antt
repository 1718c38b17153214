-- `balance`: TWICE THE CHOICES UNTIL ONE MOVES A THREAD, AND THE MOVE, ARE THE RULES' TURNS.
use Prim.Native.Nat.{ℕ}
use Rattle.std.specs.Prelude.{◌≡◌, Bool, List}
use Rattle.rules.specs.Puts.{PutOrTake}
use Rattle.rules.specs.State.{Limits, Topology}
use Rattle.rules.specs.Schedule.{World}
use Rattle.rules.proofs.Laws.Sound.{Sound}
use Rattle.rules.proofs.Laws.Steps.{nobody_but}
use Rattle.represents.specs.World.{WorldRep}
use Rattle.processor.specs.Left.{Left}
use Rattle.records.specs.Left.{Memory}

-- Memory that a function leaves shows what the rules leave, and the wake-ups are the rules'.
pub record BalanceLeft (limits : Limits) (topology : Topology) (known active : ℕ → Bool) (H : ℕ → List PutOrTake) (m : Left ℕ Memory) (w : World) : Type 0 where
  pub shows : WorldRep limits topology known active m.memory.threads m.memory.cpus w
  pub safe : Sound limits known H nobody_but w
  pub counted : m.answer ≡ w.wakeups
