-- The preemption mark obeyed.
use Rattle.std.specs.Prelude.{ℕ, true, false, cond}
use Rattle.processor.specs.Left.{Words, Left}
use Rattle.records.specs.Left.{Memory}
use Rattle.sched_words.specs.Preempt.{swapped}
use Rattle.sched_words.specs.declared.context.Context.{Context}
use Rattle.sched_words.specs.declared.context.SchedFlags.{SchedFlags}
use Rattle.sched.specs.Schedule.{schedule_def}

-- the flags of a preemption
abbrev pub preempting : SchedFlags
preempting = record { yields = false; preempt = true; reinsert = true }

-- the mark is cleared, and obeyed
abbrev pub swapped_in : ℕ → Memory → Memory
swapped_in us m = record { threads = m.threads; cpus = (swapped us m.cpus).memory }

unfoldable pub schedule_maybe_preempt_def : Context → ℕ → Words → Memory → Left ℕ Memory
schedule_maybe_preempt_def k wakeups ns m =
    cond (swapped k.us m.cpus).answer (schedule_def k preempting wakeups ns (swapped_in k.us m)) (record { answer = wakeups; memory = swapped_in k.us m })
