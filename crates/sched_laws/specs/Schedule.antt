-- `do_schedule`, `schedule` AND `schedule_thread` OVER RECORDS AND WORDS ARE THE RULES'.
use Rattle.std.specs.Prelude.{ℕ, ◌≡◌, Bool}
use Rattle.rules.specs.State.{Limits, Topology}
use Rattle.rules.specs.Schedule.{World, Flags}
use Rattle.sched_words.specs.declared.context.SchedFlags.{SchedFlags}
use Rattle.processor.specs.Left.{Left}
use Rattle.records.specs.Left.{Memory}
use Rattle.sched_laws.specs.Switch.{Ends}

-- the flags as the rules have them
unfoldable pub flags_in : SchedFlags → Flags
flags_in f = record { yield = f.yields; preempt = f.preempt; again = f.reinsert }

-- What a command's function leaves: records, words and the count of wake-ups.
pub record Leaves (limits : Limits) (topology : Topology) (known : ℕ → Bool) (d : Left ℕ Memory) (v : World) : Type 0 where
  pub ends : Ends limits topology known d.memory.threads d.memory.cpus v
  pub counted : d.answer ≡ v.wakeups
