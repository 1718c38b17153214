-- Put, take (own and stealing), clock and hard tick of the run queues in lent memory: one interface over the thread records ts and the words cs of the
-- CPUs. Each is total: past the end of the slice a record is blank and a write does nothing, and so with the words of a CPU.
use Rattle.std.specs.Prelude.{ℕ, Bool, List, get_or, set, leb, Option, Some, None}
use Rattle.rules.specs.declared.Part.{Part}
use Rattle.rules.specs.declared.Part.TheVariants as part
use Rattle.rules.specs.Priority.{from_raw}
use Rattle.rules.specs.Times.{effective_priority, pinned}
use Rattle.thread.specs.declared.Thread.{Thread}
use Rattle.thread.specs.Thread.{blank, NONE, RUNNING, WAITING, with_place, with_next}
use Rattle.thread.specs.Priority.{stable_effective_priority}
use Rattle.thread.specs.Reads.{reads}
use Rattle.runqueue.specs.declared.rq.Arrival.{Arrival}
use Rattle.runqueue.specs.declared.rq.Put.{Put}
use Rattle.runqueue.specs.declared.rq.RunQueue.{RunQueue}
use Rattle.runqueue.specs.declared.rq.Front.{Front}
use Rattle.runqueue.specs.RunQueue.{rq_insert, rq_front, rq_taken, rq_clock, rq_hardtick}
use Rattle.processor.specs.Queue.{queue_at, queue_stored}
use Rattle.processor.specs.Left.{Words, Left}
use Rattle.records.specs.Left.{Memory}

-- the record of thread x
abbrev pub record_at : List Thread → ℕ → Thread
record_at ts x = get_or ts x blank

-- ---- a put

-- what the queue is told of thread x, whose record is t; due: "its deadline is not past the tick"
unfoldable pub arrival_of : Thread → ℕ → ℕ → Bool → Arrival
arrival_of t x tick current = record { thread = x; priority = effective_priority (reads t); current = current; due = leb t.deadline tick; pinned = pinned (reads t) }

-- a put into timeshare keeps the effective priority as the stable one
unfoldable pub steady_in : Part → Thread → Thread
steady_in part.Realtime t = t
steady_in part.Timeshare t = (stable_effective_priority t).thread
steady_in part.Idle t = t

-- the record of a thread that came into part p: it waits, the last of its list
unfoldable pub put_in_def : Thread → Part → Thread
put_in_def t p = steady_in p (with_next (with_place t WAITING) NONE)

-- the link of the thread that x stands behind points to x; x stands behind nobody where it is the first of its list
unfoldable pub link_behind : List Thread → Option ℕ → ℕ → List Thread
link_behind ts None x = ts
link_behind ts (Some b) x = set ts b (with_next (record_at ts b) x)

-- the put that thread x makes into the queue of CPU c
abbrev pub put_of_def : ℕ → ℕ → ℕ → Bool → Memory → Put
put_of_def c x tick current m = rq_insert (queue_at m.cpus c) (arrival_of (record_at m.threads x) x tick current)

unfoldable pub insert_def : ℕ → ℕ → ℕ → Bool → Memory → Memory
insert_def c x tick current m = record {
  threads = link_behind (set m.threads x (put_in_def (record_at m.threads x) (put_of_def c x tick current m).part)) (put_of_def c x tick current m).behind x;
  cpus = queue_stored m.cpus c (put_of_def c x tick current m).queue;
}

-- ---- a take

-- the queue that the thread with record t, which it found, has left: it was the head of its list, so nobody stands before it
unfoldable pub left_by_def : RunQueue → Option Front → Thread → RunQueue
left_by_def q f t = rq_taken q f NONE t.next (from_raw t.stable_priority).value (pinned (reads t))

-- the thread that the queue found is handed out, to run; where it found none, nothing changes
unfoldable pub took_from_def : ℕ → Option Front → Memory → Left (Option ℕ) Memory
took_from_def c None m = record { answer = None; memory = m }
took_from_def c (Some f) m = record {
  answer = Some f.thread;
  memory = record {
    threads = set m.threads f.thread (with_place (record_at m.threads f.thread) RUNNING);
    cpus = queue_stored m.cpus c (left_by_def (queue_at m.cpus c) (Some f) (record_at m.threads f.thread));
  };
}

unfoldable pub take_def : ℕ → Bool → Memory → Left (Option ℕ) Memory
take_def c stealing m = took_from_def c (rq_front (queue_at m.cpus c) stealing) m

-- ---- clock and hard tick

unfoldable pub clock_def : ℕ → Words → Words
clock_def c cs = queue_stored cs c (rq_clock (queue_at cs c))

unfoldable pub hardtick_def : ℕ → ℕ → Words → Left ℕ Words
hardtick_def c tick cs = record { answer = (rq_hardtick (queue_at cs c) tick).ticks; memory = queue_stored cs c (rq_hardtick (queue_at cs c) tick).queue }
