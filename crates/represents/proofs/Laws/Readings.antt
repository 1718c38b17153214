-- The rules' operations on what is read off a run queue, and the marks of the records after a put.
use Rattle.std.specs.Prelude.{ℕ, ◌≡◌, Option, None, Some}
use Rattle.rules.specs.declared.Part.{Part}
use Rattle.rules.specs.declared.Part.TheVariants as part
use Rattle.rules.specs.Priority.{from_raw}
use Rattle.rules.specs.Queue.{no_queue, insert, Next, nobody, next_in, leave, advance_insert_index, said_after_put, said_after_take}
use Rattle.rules.specs.Queue.{Arrival as Arrivalₗ}
use Rattle.rules.specs.State.{at, idle_priority}
use Rattle.thread.specs.Thread.{NONE}
use Rattle.runqueue.specs.declared.rq.RunQueue.{RunQueue}
use Rattle.runqueue.specs.declared.rq.Arrival.{Arrival}
use Rattle.runqueue.specs.declared.rq.Put.{Put}
use Rattle.runqueue.specs.declared.rq.Front.{Front}
use Rattle.runqueue.specs.RunQueue.{rq_taken}
use Rattle.represents.proofs.Laws.Linked.{link_after}
use Rattle.represents.specs.QueueRead.{Marks, queue_read}
use Rattle.represents.specs.Queue.{QueueReading, QueueRep}

-- ---- the reading, computed: a walk along the links of at most `limit` threads from each head

unfoldable pub reading : ℕ → Marks → RunQueue → QueueReading
reading limit m q = record { queue = queue_read limit m q; advertised = from_raw q.current_priority; last_tick = q.last_tick }

-- ---- the rules' operations on what is read

unfoldable pub new_reading : QueueReading
new_reading = record { queue = no_queue; advertised = idle_priority; last_tick = 0 }

-- a put
unfoldable pub as_arrival : Arrival → Arrivalₗ
as_arrival a = record { thread = a.thread; class = a.priority.class; value = a.priority.value; current = a.current; due = a.due }

unfoldable pub put_reading : QueueReading → Arrival → QueueReading
put_reading R a = record { queue = insert R.queue (as_arrival a); advertised = said_after_put R.advertised a.priority; last_tick = R.last_tick }

-- a take of the oldest of bucket j of part p
unfoldable pub take_reading : (ℕ → ℕ) → QueueReading → Part → ℕ → QueueReading
take_reading value R p j = record {
  queue = leave p R.queue j;
  advertised = said_after_take p value R.advertised (leave p R.queue j);
  last_tick = R.last_tick;
}

unfoldable pub clock_reading : QueueReading → QueueReading
clock_reading R = record { queue = advance_insert_index R.queue; advertised = R.advertised; last_tick = R.last_tick }

unfoldable pub hardtick_reading : QueueReading → ℕ → QueueReading
hardtick_reading R now = record { queue = R.queue; advertised = R.advertised; last_tick = now }

-- ---- the records' marks after a put: the thread leads nowhere, whoever it stands behind leads to it, and in timeshare its value is kept

unfoldable pub value_after : Part → (ℕ → ℕ) → ℕ → ℕ → ℕ → ℕ
value_after part.Realtime value x v = value
value_after part.Timeshare value x v = at value x v
value_after part.Idle value x v = value

unfoldable pub marks_after : Marks → Put → Arrival → Marks
marks_after m u a = record {
  next = link_after m.next u.behind a.thread;
  pinned = m.pinned;
  value = value_after u.part m.value a.thread a.priority.value;
}

-- ---- what the code's `front` answers is what the rules ask for, and what `taken` leaves reads as what the rules leave

unfoldable pub Follows : ℕ → Marks → RunQueue → QueueReading → Option Front → Next → Type 0
Follows limit m q R None n = n ≡ nobody
Follows limit m q R (Some f) n =
    (n ≡ next_in f.part f.bucket f.thread) × QueueRep limit m (rq_taken q (Some f) NONE (m.next f.thread) (m.value f.thread) (m.pinned f.thread)) (take_reading m.value R f.part f.bucket)
