-- The run queue as the code has it.
use Rattle.std.specs.Prelude.{◌≡◌, refl, ℕ, Bool, true, cond, ◌&&◌, ◌==◌, Option, None, Some}
use Rattle.std.proofs.Common.{◌∙◌}
use Rattle.rules.specs.declared.PriorityClass.TheVariants as class
use Rattle.rules.specs.declared.Priority.{Priority}
use Rattle.rules.specs.declared.Part.{Part}
use Rattle.rules.specs.declared.Part.TheVariants as part
use Rattle.rules.specs.Priority.{priority, from_raw, raw, less}
use Rattle.rules.specs.Queue.{is_class, part_of}
use Rattle.queue.specs.declared.lists.Found.{Found}
use Rattle.queue.specs.declared.lists.Put as part_put
use Rattle.queue.specs.declared.pq.PriorityQueue.{PriorityQueue}
use Rattle.queue.specs.declared.timeshare.TimeshareQueue.{TimeshareQueue}
use Rattle.queue.specs.Num.{sum, difference}
use Rattle.queue.specs.Timeshare.{no_timeshare, ts_empty, ts_highest, ts_insert, ts_front, ts_taken, ts_advance}
use Rattle.queue.specs.PriorityQueue.{no_priority, pq_empty, pq_highest, pq_insert, pq_front, pq_taken}
use Rattle.runqueue.specs.declared.rq.RunQueue.{RunQueue}
use Rattle.runqueue.specs.declared.rq.Arrival.{Arrival}
use Rattle.runqueue.specs.declared.rq.Put.{Put}
use Rattle.runqueue.specs.declared.rq.Front.{Front}
use Rattle.runqueue.specs.declared.rq.Hardtick.{Hardtick}

-- newly made
unfoldable pub no_run_queue : RunQueue
no_run_queue =
    record { realtime = no_priority; timeshare = no_timeshare; idle = no_priority; current_priority = 0; load = 0; timeshare_load = 0; movable = 0; last_tick = 0 }

-- nobody waits in any part
unfoldable pub rq_empty : RunQueue → Bool
rq_empty q = pq_empty q.realtime && (ts_empty q.timeshare && pq_empty q.idle)

-- ---- one field changed

unfoldable pub with_realtime : RunQueue → PriorityQueue → RunQueue
with_realtime q p = record {
  realtime = p;
  timeshare = q.timeshare;
  idle = q.idle;
  current_priority = q.current_priority;
  load = q.load;
  timeshare_load = q.timeshare_load;
  movable = q.movable;
  last_tick = q.last_tick;
}

-- the timeshare part, and the timeshare load
unfoldable pub with_timeshare : RunQueue → TimeshareQueue → ℕ → RunQueue
with_timeshare q t s = record {
  realtime = q.realtime;
  timeshare = t;
  idle = q.idle;
  current_priority = q.current_priority;
  load = q.load;
  timeshare_load = s;
  movable = q.movable;
  last_tick = q.last_tick;
}

unfoldable pub with_idle : RunQueue → PriorityQueue → RunQueue
with_idle q p = record {
  realtime = q.realtime;
  timeshare = q.timeshare;
  idle = p;
  current_priority = q.current_priority;
  load = q.load;
  timeshare_load = q.timeshare_load;
  movable = q.movable;
  last_tick = q.last_tick;
}

unfoldable pub advertising : RunQueue → ℕ → RunQueue
advertising q r = record {
  realtime = q.realtime;
  timeshare = q.timeshare;
  idle = q.idle;
  current_priority = r;
  load = q.load;
  timeshare_load = q.timeshare_load;
  movable = q.movable;
  last_tick = q.last_tick;
}

-- ---- what is advertised, raw

-- once a thread of priority p came in
unfoldable pub raised : ℕ → Priority → ℕ
raised said p = cond (less (from_raw said) p) (raw p) said

-- once a thread has left the realtime part, of which `left` is left
unfoldable pub said_realtime_def : ℕ → PriorityQueue → ℕ
said_realtime_def said left =
    cond (is_class class.Realtime (from_raw said))
    (cond (pq_empty left) (raw (priority class.User 127)) (raw (priority class.Realtime (pq_highest left)))) said

-- the same of the timeshare part, beside which `idle` is the idle part
unfoldable pub said_timeshare_def : ℕ → TimeshareQueue → PriorityQueue → ℕ
said_timeshare_def said left idle =
    cond (is_class class.User (from_raw said))
    (cond (ts_empty left) (raw (priority class.Idle (pq_highest idle))) (raw (priority class.User (ts_highest left)))) said

-- ---- a put

-- one more waits: what every put does first
unfoldable pub counted : RunQueue → Priority → Bool → RunQueue
counted q p pinned = record {
  realtime = q.realtime;
  timeshare = q.timeshare;
  idle = q.idle;
  current_priority = raised q.current_priority p;
  load = sum q.load 1;
  timeshare_load = q.timeshare_load;
  movable = cond pinned q.movable (sum q.movable 1);
  last_tick = q.last_tick;
}

unfoldable pub rq_insert_realtime : RunQueue → Arrival → Put
rq_insert_realtime q a =
    let u : part_put.Put PriorityQueue = pq_insert q.realtime a.thread a.priority.class a.priority.value in
    record { queue = with_realtime (counted q a.priority a.pinned) u.queue; behind = u.behind; part = part.Realtime }

unfoldable pub rq_insert_timeshare : RunQueue → Arrival → Put
rq_insert_timeshare q a =
    let u : part_put.Put TimeshareQueue = ts_insert q.timeshare a.thread a.priority.value a.current in
    record { queue = with_timeshare (counted q a.priority a.pinned) u.queue (sum q.timeshare_load 1); behind = u.behind; part = part.Timeshare }

unfoldable pub rq_insert_idle : RunQueue → Arrival → Put
rq_insert_idle q a =
    let u : part_put.Put PriorityQueue = pq_insert q.idle a.thread a.priority.class a.priority.value in
    record { queue = with_idle (counted q a.priority a.pinned) u.queue; behind = u.behind; part = part.Idle }

unfoldable pub rq_insert_into : Part → RunQueue → Arrival → Put
rq_insert_into part.Realtime q a = rq_insert_realtime q a
rq_insert_into part.Timeshare q a = rq_insert_timeshare q a
rq_insert_into part.Idle q a = rq_insert_idle q a

-- a put, into the part that document 01 gives
unfoldable pub rq_insert : RunQueue → Arrival → Put
rq_insert q a = rq_insert_into (part_of a.priority.class a.due) q a

-- ---- who leaves next

-- who leaves: a thread at the head of a bucket of a part
abbrev pub front_at : Part → ℕ → ℕ → Option Front
front_at p b x = Some (record { part = p; bucket = b; thread = x })

-- what a part's front is of the run queue: where it has none, the next part's
unfoldable pub first_in_def : Part → Option Found → Option Front → Option Front
first_in_def p (Some f) later = front_at p f.bucket f.thread
first_in_def p None later = later

-- who leaves next from one part
unfoldable pub front_of : Part → RunQueue → Option Front
front_of part.Realtime q = first_in_def part.Realtime (pq_front q.realtime) None
front_of part.Timeshare q = first_in_def part.Timeshare (ts_front q.timeshare) None
front_of part.Idle q = first_in_def part.Idle (pq_front q.idle) None

unfoldable pub rq_front_idle : RunQueue → Option Front
rq_front_idle q = first_in_def part.Idle (pq_front q.idle) None

unfoldable pub rq_front_timeshare : RunQueue → Option Front
rq_front_timeshare q = first_in_def part.Timeshare (ts_front q.timeshare) (rq_front_idle q)

unfoldable pub rq_front_realtime : RunQueue → Option Front
rq_front_realtime q = first_in_def part.Realtime (pq_front q.realtime) (rq_front_timeshare q)

-- "a stealing take finds nothing only at movable count 0"
unfoldable pub rq_front : RunQueue → Bool → Option Front
rq_front q stealing = cond stealing (cond (q.movable == 0) None (rq_front_realtime q)) (rq_front_realtime q)

-- ---- a thread has left

-- one less waits: what every take does
unfoldable pub uncounted : RunQueue → Bool → RunQueue
uncounted q pinned = record {
  realtime = q.realtime;
  timeshare = q.timeshare;
  idle = q.idle;
  current_priority = q.current_priority;
  load = difference q.load 1;
  timeshare_load = q.timeshare_load;
  movable = cond pinned q.movable (difference q.movable 1);
  last_tick = q.last_tick;
}

unfoldable pub rq_taken_realtime : RunQueue → ℕ → ℕ → ℕ → Bool → RunQueue
rq_taken_realtime q b previous next pinned =
    let p : PriorityQueue = pq_taken q.realtime b previous next in
    advertising (with_realtime (uncounted q pinned) p) (said_realtime_def q.current_priority p)

-- `recalc_priority_timeshare`
unfoldable pub rq_recalc : RunQueue → RunQueue
rq_recalc q = advertising q (said_timeshare_def q.current_priority q.timeshare q.idle)

unfoldable pub rq_taken_timeshare : RunQueue → ℕ → ℕ → ℕ → ℕ → Bool → RunQueue
rq_taken_timeshare q b previous next v pinned =
    rq_recalc (with_timeshare (uncounted q pinned) (ts_taken q.timeshare b previous next v) (difference q.timeshare_load 1))

unfoldable pub rq_taken_idle : RunQueue → ℕ → ℕ → ℕ → Bool → RunQueue
rq_taken_idle q b previous next pinned =
    let p : PriorityQueue = pq_taken q.idle b previous next in
    advertising (with_idle (uncounted q pinned) p) (raw (priority class.Idle (pq_highest p)))

unfoldable pub rq_taken_from : Part → RunQueue → ℕ → ℕ → ℕ → ℕ → Bool → RunQueue
rq_taken_from part.Realtime q b previous next v pinned = rq_taken_realtime q b previous next pinned
rq_taken_from part.Timeshare q b previous next v pinned = rq_taken_timeshare q b previous next v pinned
rq_taken_from part.Idle q b previous next v pinned = rq_taken_idle q b previous next pinned

-- the thread that `front` answered has left from behind `previous`: its link was `next`, its value when it was put in v
unfoldable pub rq_taken : RunQueue → Option Front → ℕ → ℕ → ℕ → Bool → RunQueue
rq_taken q (Some f) previous next v pinned = rq_taken_from f.part q f.bucket previous next v pinned
rq_taken q None previous next v pinned = q

-- ---- clock and hard tick

-- `clock` advances the insert index by one
unfoldable pub rq_clock : RunQueue → RunQueue
rq_clock q = with_timeshare q (ts_advance q.timeshare 1 true) q.timeshare_load

-- the ticks since the last hard tick, modulo 2^64
unfoldable pub rq_hardtick : RunQueue → ℕ → Hardtick
rq_hardtick q now = record {
  queue = record {
    realtime = q.realtime;
    timeshare = q.timeshare;
    idle = q.idle;
    current_priority = q.current_priority;
    load = q.load;
    timeshare_load = q.timeshare_load;
    movable = q.movable;
    last_tick = now;
  };
  ticks = difference now q.last_tick;
}

-- ---- for the proofs of the code

first_had : (p : Part) (f : Option Found) (later : Option Front) (x : Front) → first_in_def p f None ≡ Some x → first_in_def p f later ≡ Some x
unfolding first_in_def
first_had p (Some f) later x e = e
first_had p None later x e = cc

first_not : (p : Part) (f : Option Found) (later : Option Front) → first_in_def p f None ≡ None → first_in_def p f later ≡ later
unfolding first_in_def
first_not p (Some f) later e = cc
first_not p None later e = refl

-- the front of the queue is that of the first part that has one
pub front_first : (q : RunQueue) (x : Front) → front_of part.Realtime q ≡ Some x → rq_front_realtime q ≡ Some x
unfolding front_of rq_front_realtime
front_first q x e = first_had part.Realtime (pq_front q.realtime) (rq_front_timeshare q) x e

pub front_second : (q : RunQueue) (x : Front) → front_of part.Realtime q ≡ None → front_of part.Timeshare q ≡ Some x → rq_front_realtime q ≡ Some x
unfolding front_of rq_front_realtime rq_front_timeshare
front_second q x e f =
    first_not part.Realtime (pq_front q.realtime) (rq_front_timeshare q) e ∙ first_had part.Timeshare (ts_front q.timeshare) (rq_front_idle q) x f

pub front_third : (q : RunQueue) → front_of part.Realtime q ≡ None → front_of part.Timeshare q ≡ None → rq_front_realtime q ≡ front_of part.Idle q
unfolding front_of rq_front_realtime rq_front_timeshare rq_front_idle
front_third q e f =
    first_not part.Realtime (pq_front q.realtime) (rq_front_timeshare q) e ∙ first_not part.Timeshare (ts_front q.timeshare) (rq_front_idle q) f
