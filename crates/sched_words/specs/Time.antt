-- The times of a thread that goes into a queue, and whether its CPU is signalled.
use Rattle.std.specs.Prelude.{ℕ, ◌%◌, ◌^◌, Bool, not, ◌&&◌, ◌||◌, List, ◌==◌}
use Rattle.rules.specs.declared.PriorityClass.{PriorityClass}
use Rattle.rules.specs.Priority.{from_raw, at_most}
use Rattle.rules.specs.Times.{deadline_distance, effective_priority}
use Rattle.thread.specs.declared.Thread.{Thread}
use Rattle.thread.specs.Reads.{reads}
use Rattle.thread.specs.Time.{moving_to_queue, set_deadline, reset_timeslice}
use Rattle.queue.specs.Num.{sum}
use Rattle.runqueue.specs.RunQueue.{rq_empty}
use Rattle.processor.specs.Queue.{queue_at}

-- "Deadline distance = timeslice × queue load", from the tick
unfoldable pub deadline_at : List (List ℕ) → ℕ → ℕ → ℕ → PriorityClass → ℕ
deadline_at cs c tick shortest class =
    sum tick (deadline_distance shortest class (queue_at cs c).timeshare_load (queue_at cs c).load % 2 ^ 64)

unfoldable pub reset_time_def : List (List ℕ) → ℕ → ℕ → ℕ → Thread → Thread
reset_time_def cs c tick shortest t = reset_timeslice (set_deadline t (deadline_at cs c tick shortest (effective_priority (reads t)).class))

-- the record of a thread that is about to go into the queue of CPU c
unfoldable pub moved_to : List (List ℕ) → ℕ → ℕ → ℕ → Thread → Thread
moved_to cs c tick shortest t = reset_time_def cs c tick shortest (moving_to_queue t c)

-- a put signals if the queue is another CPU's and is empty or advertises at most the thread's priority
unfoldable pub should_signal_def : List (List ℕ) → ℕ → ℕ → Thread → Bool
should_signal_def cs us c t =
    not (c == us) && (rq_empty (queue_at cs c) || at_most (from_raw (queue_at cs c).current_priority) (effective_priority (reads t)))
