-- THREADS GO INTO QUEUES AND COME OUT OF THEM: puts on a CPU, takes for a CPU, steals.
use Rattle.std.specs.Prelude.{ℕ, Bool}
use Rattle.rules.specs.State.{Limits, Topology}
use Rattle.rules.specs.Schedule.{World}
use Rattle.records.specs.Left.{Memory}
use Rattle.represents.specs.World.{WorldRep}

abbrev pub MemoryRep : Limits → Topology → (ℕ → Bool) → (ℕ → Bool) → Memory → World → Type 0
MemoryRep limits topology known active m w = WorldRep limits topology known active m.threads m.cpus w
