-- Whom a donation signals.
use Rattle.std.specs.Prelude.{ℕ, Bool, cond, not, ◌&&◌, List, ◌==◌, Option, Some, None}
use Rattle.rules.specs.Priority.{from_raw, less}
use Rattle.rules.specs.Times.{effective_priority}
use Rattle.thread.specs.declared.Thread.{Thread}
use Rattle.thread.specs.declared.priority.Donation.{Donation}
use Rattle.thread.specs.Reads.{reads, cpu_in}
use Rattle.runqueue.specs.RunQueue.{rq_empty}
use Rattle.processor.specs.Queue.{queue_at}
use Rattle.sched_words.specs.Running.{running_at}
use Rattle.sched_words.specs.Signal.{signal}

-- somebody waits in the queue of CPU c, and it advertises more than the thread's priority
unfoldable pub wakeup_due : List (List ℕ) → ℕ → Thread → Bool
wakeup_due cs c t = not (rq_empty (queue_at cs c)) && less (effective_priority (reads t)) (from_raw (queue_at cs c).current_priority)

unfoldable pub woken_in : List (List ℕ) → ℕ → ℕ → Thread → ℕ → ℕ
woken_in cs us c t wakeups = signal wakeups us c (wakeup_due cs c t)

-- the CPU in whose queue the thread was put is signalled, if there is one
unfoldable pub maybe_reschedule : List (List ℕ) → ℕ → Thread → ℕ → Option ℕ → ℕ
maybe_reschedule cs us t wakeups (Some c) = woken_in cs us c t wakeups
maybe_reschedule cs us t wakeups None = wakeups

-- nobody is signalled if the donation does not raise the thread, or the thread runs on CPU us itself
unfoldable pub donation_signals : List (List ℕ) → ℕ → ℕ → Donation → ℕ → ℕ
donation_signals cs us x d wakeups =
    cond d.needs_resched
    (cond (running_at cs us == x) wakeups (maybe_reschedule cs us d.thread wakeups (cpu_in d.thread.current_processor_queue))) wakeups
