-- Hard ticks, and the preemption mark set.
use Rattle.std.specs.Prelude.{ℕ, true, cond, List, set, eqb}
use Rattle.thread.specs.declared.Thread.{Thread}
use Rattle.thread.specs.Thread.{NONE}
use Rattle.thread.specs.Time.{pay_ticks}
use Rattle.processor.specs.Left.{Words, Left}
use Rattle.records.specs.Left.{Memory}
use Rattle.records.specs.Rq.{record_at, hardtick_def}
use Rattle.sched_words.specs.Preempt.{needs_reschedule_def, allowed_at, idle_paid, expires, rescheds}
use Rattle.sched_words.specs.Running.{running_at}
use Rattle.sched_words.specs.declared.context.Context.{Context}

-- the thread running, cur, pays for the ticks that passed; resched: it has to give way anyhow
unfoldable pub paid_by_def : Context → ℕ → Left ℕ Words → Memory → Memory
paid_by_def k cur h m =
    cond (eqb cur NONE)
    (record {
      threads = m.threads;
      cpus =
          expires (idle_paid k.us k.shortest h.answer h.memory).memory k.us (needs_reschedule_def m.cpus k.us (record_at m.threads cur) true)
          (idle_paid k.us k.shortest h.answer h.memory).answer;
    })
    (record {
      threads = set m.threads cur (pay_ticks (record_at m.threads cur) h.answer (allowed_at h.memory k.us k.shortest (record_at m.threads cur))).thread;
      cpus =
          expires h.memory k.us (needs_reschedule_def m.cpus k.us (record_at m.threads cur) true)
          (pay_ticks (record_at m.threads cur) h.answer (allowed_at h.memory k.us k.shortest (record_at m.threads cur))).expired;
    })

unfoldable pub schedule_hardtick_def : Context → Memory → Memory
schedule_hardtick_def k m = paid_by_def k (running_at m.cpus k.us) (hardtick_def k.us k.tick m.cpus) m

unfoldable pub schedule_resched_def : ℕ → List Thread → Words → Words
schedule_resched_def us ts cs = rescheds cs us (record_at ts (running_at cs us))
