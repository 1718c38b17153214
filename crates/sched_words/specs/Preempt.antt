-- Whether the thread running has to give way, the mark that says so, and what a thread pays at a hard tick.
use Rattle.std.specs.Prelude.{ℕ, Bool, true, false, cond, not, ◌&&◌, ◌||◌, List, ◌==◌}
use Rattle.rules.specs.declared.Priority.{Priority}
use Rattle.rules.specs.Priority.{from_raw, less, at_most}
use Rattle.rules.specs.Times.{timeslice, effective_priority}
use Rattle.thread.specs.declared.Thread.{Thread}
use Rattle.thread.specs.Thread.{NONE, blank, with_timeslice}
use Rattle.thread.specs.Reads.{reads, critical_in}
use Rattle.thread.specs.Time.{pay_ticks}
use Rattle.runqueue.specs.RunQueue.{rq_empty}
use Rattle.processor.specs.Left.{Words, Left}
use Rattle.processor.specs.Words.{word, put_word}
use Rattle.processor.specs.Word.{PREEMPT, IDLE_TIMESLICE}
use Rattle.processor.specs.Queue.{queue_at}
use Rattle.sched_words.specs.Running.{running_at}

-- what is advertised is above the priority; with eq, or equal to it
unfoldable pub higher : Priority → Priority → Bool → Bool
higher said own eq = less own said || (eq && at_most own said)

unfoldable pub rq_has_higher : List (List ℕ) → ℕ → Thread → Bool → Bool
rq_has_higher cs us t eq = higher (from_raw (queue_at cs us).current_priority) (effective_priority (reads t)) eq

unfoldable pub needs_reschedule_def : List (List ℕ) → ℕ → Thread → Bool → Bool
needs_reschedule_def cs us t ticking = not (critical_in t.critical) && (not (rq_empty (queue_at cs us)) && rq_has_higher cs us t ticking)

unfoldable pub marked : List (List ℕ) → ℕ → Bool → List (List ℕ)
marked cs us mark = cond mark (put_word cs us PREEMPT 1) cs

-- the mark, which is then cleared
unfoldable pub swapped : ℕ → Words → Left Bool Words
swapped us cs = cond (word cs us PREEMPT == 0) (record { answer = false; memory = cs }) (record { answer = true; memory = put_word cs us PREEMPT 0 })

-- the timeslice that a thread with this record is allowed
unfoldable pub allowed_at : List (List ℕ) → ℕ → ℕ → Thread → ℕ
allowed_at cs us shortest t = timeslice shortest (effective_priority (reads t)).class (queue_at cs us).timeshare_load

-- the idle thread with what it has paid; it pays too
unfoldable pub idle_payer : List (List ℕ) → ℕ → Thread
idle_payer cs us = with_timeslice blank (word cs us IDLE_TIMESLICE)

unfoldable pub idle_paid : ℕ → ℕ → ℕ → Words → Left Bool Words
idle_paid us shortest ticks cs = record {
  answer = (pay_ticks (idle_payer cs us) ticks (allowed_at cs us shortest (idle_payer cs us))).expired;
  memory = put_word cs us IDLE_TIMESLICE (pay_ticks (idle_payer cs us) ticks (allowed_at cs us shortest (idle_payer cs us))).thread.timeslice;
}

unfoldable pub expires : List (List ℕ) → ℕ → Bool → Bool → List (List ℕ)
expires cs us resched expired = marked cs us (resched || expired)

unfoldable pub rescheds : List (List ℕ) → ℕ → Thread → List (List ℕ)
rescheds cs us t = marked cs us (running_at cs us == NONE || needs_reschedule_def cs us t false)
