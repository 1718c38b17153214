-- One part of a run queue and its numbers, stored into the words of its CPU: where an operation changes no other part, this stores the queue.
use Rattle.std.specs.Prelude.{◌≡◌, ℕ, ◌+◌, ◌≤◌, Bool, true, List, [], set, ◌==◌, slice_index_or, refl, Option, false, ◌&&◌, None}
use Rattle.std.proofs.Common.{sym, ap, ◌∙◌, arith}
use Rattle.rules.proofs.Laws.Line.{both}
use Rattle.rules.specs.declared.Part.{Part}
use Rattle.rules.specs.declared.Part.TheVariants as part
use Rattle.queue.specs.declared.lists.Lists.{Lists}
use Rattle.queue.specs.declared.timeshare.TimeshareQueue.{TimeshareQueue}
use Rattle.queue.specs.Timeshare.{ts_step, ts_advance}
use Rattle.runqueue.specs.declared.rq.RunQueue.{RunQueue}
use Rattle.runqueue.specs.declared.rq.Arrival.{Arrival}
use Rattle.runqueue.specs.declared.rq.Front.{Front}
use Rattle.runqueue.specs.RunQueue.{front_at, with_realtime, with_timeshare, with_idle, advertising, counted, uncounted, rq_recalc, rq_front, rq_front_realtime}
use Rattle.runqueue.specs.RunQueue.{rq_insert_realtime, rq_insert_timeshare, rq_insert_idle, rq_insert_into}
use Rattle.runqueue.specs.RunQueue.{rq_taken_realtime, rq_taken_timeshare, rq_taken_idle, rq_taken_from, rq_taken, rq_clock, rq_hardtick}
use Rattle.processor.specs.Window.{load_n, place_n, load_later, place_loaded}
use Rattle.processor.specs.Queue.{lists_at, lists_stored_def, built_of, queue_from, stored_from, queue_in_def, queue_into, queue_at, queue_stored}
use Rattle.processor.specs.Parts.{lists_stored, numbers_into, numbers_stored, part_into, part_stored}

-- ---- words that a row ws holds, stored into a row us that holds the same there

place_held : (ws us : List ℕ) (at : ℕ) → load_n us at 8 8 ≡ load_n ws at 8 8 → place_n us at (load_n ws at 8 8) 8 ≡ us
place_held ws us at e = rw (← e) (place_loaded us at 8)

lists_held : (ws us : List ℕ) (at : ℕ) → lists_at us at ≡ lists_at ws at → lists_stored_def us at (lists_at ws at) ≡ us
unfolding lists_stored_def lists_at
lists_held ws us at e =
    ap (λ (l : Lists). lists_stored_def us at l) (sym e) ∙ ap (λ (vs : List ℕ). place_n vs (at + 8) (load_n us (at + 8) 8 8) 8) (place_loaded us at 8) ∙ place_loaded us (at + 8) 8

-- reads behind a store
lists_later : (ws : List ℕ) (at b : ℕ) (v : List ℕ) → at + 8 ≤ b → lists_at (place_n ws at v 8) b ≡ lists_at ws b
unfolding lists_at
lists_later ws at b v h = rw (load_later ws at b v 8 8 h, load_later ws at (b + 8) v 8 8 (omega arith))

lists_later_lists : (ws : List ℕ) (at b : ℕ) (l : Lists) → at + 16 ≤ b → lists_at (lists_stored_def ws at l) b ≡ lists_at ws b
unfolding lists_stored_def
lists_later_lists ws at b l h = lists_later (place_n ws at l.heads 8) (at + 8) b l.tails (omega arith) ∙ lists_later ws at b l.heads (omega arith)

load_later_lists : (ws : List ℕ) (at b : ℕ) (l : Lists) → at + 16 ≤ b → load_n (lists_stored_def ws at l) b 8 8 ≡ load_n ws b 8 8
unfolding lists_stored_def
load_later_lists ws at b l h = load_later (place_n ws at l.heads 8) (at + 8) b l.tails 8 8 (omega arith) ∙ load_later ws at b l.heads 8 8 (omega arith)

module _ (row : List ℕ) where
  but_realtime : (a : Lists) → lists_stored row a (load_n row 16 8 8) (lists_at row 24) (lists_at row 40) ≡ lists_stored_def row 0 a
  but_realtime a =
      rw (
        place_held row (lists_stored_def row 0 a) 16 (load_later_lists row 0 16 a (omega arith)),
        lists_held row (lists_stored_def row 0 a) 24 (lists_later_lists row 0 24 a (omega arith)),
      )
      (lists_held row (lists_stored_def row 0 a) 40 (lists_later_lists row 0 40 a (omega arith)))

  but_timeshare : (c : List ℕ) (d : Lists) → lists_stored row (lists_at row 0) c d (lists_at row 40) ≡ lists_stored_def (place_n row 16 c 8) 24 d
  but_timeshare c d =
      rw (lists_held row row 0 refl)
      (lists_held row (lists_stored_def (place_n row 16 c 8) 24 d) 40 (lists_later_lists (place_n row 16 c 8) 24 40 d (omega arith) ∙ lists_later row 16 40 c (omega arith)))

  but_idle : (f : Lists) → lists_stored row (lists_at row 0) (load_n row 16 8 8) (lists_at row 24) f ≡ lists_stored_def row 40 f
  but_idle f = rw (lists_held row row 0 refl, place_held row row 16 refl, lists_held row row 24 refl)

-- ---- the operations

-- a put changes the part that it goes into
put_into : (p : Part) (row : List ℕ) (a : Arrival) → part_into p row (rq_insert_into p (queue_in_def row) a).queue ≡ queue_into row (rq_insert_into p (queue_in_def row) a).queue
unfolding part_into queue_into stored_from numbers_into rq_insert_into queue_in_def queue_from built_of counted rq_insert_realtime rq_insert_timeshare rq_insert_idle with_realtime with_timeshare with_idle
put_into part.Realtime row a =
    ap (λ (us : List ℕ). numbers_into us (rq_insert_realtime (queue_in_def row) a).queue) (sym (but_realtime row (rq_insert_realtime (queue_in_def row) a).queue.realtime.queues))
put_into part.Timeshare row a = ap (λ (us : List ℕ). numbers_into us (rq_insert_timeshare (queue_in_def row) a).queue)
    (sym (but_timeshare row (rq_insert_timeshare (queue_in_def row) a).queue.timeshare.priorities (rq_insert_timeshare (queue_in_def row) a).queue.timeshare.queues))
put_into part.Idle row a =
    ap (λ (us : List ℕ). numbers_into us (rq_insert_idle (queue_in_def row) a).queue) (sym (but_idle row (rq_insert_idle (queue_in_def row) a).queue.idle.queues))

pub put_stored : (p : Part) (cs : List (List ℕ)) (c : ℕ) (a : Arrival)
    → part_stored p cs c (rq_insert_into p (queue_at cs c) a).queue ≡ queue_stored cs c (rq_insert_into p (queue_at cs c) a).queue
unfolding part_stored queue_stored queue_at
put_stored p cs c a = ap (λ (row : List ℕ). set cs c row) (put_into p (slice_index_or cs c []) a)

-- a take changes the part that it comes from
left_of : (p : Part) (row : List ℕ) (b previous next v : ℕ) (pinned : Bool)
    → part_into p row (rq_taken_from p (queue_in_def row) b previous next v pinned) ≡ queue_into row (rq_taken_from p (queue_in_def row) b previous next v pinned)
unfolding part_into queue_into stored_from numbers_into rq_taken_from queue_in_def queue_from built_of uncounted rq_taken_realtime rq_taken_timeshare rq_taken_idle rq_recalc with_realtime with_timeshare with_idle advertising
left_of part.Realtime row b previous next v pinned = ap (λ (us : List ℕ). numbers_into us (rq_taken_realtime (queue_in_def row) b previous next pinned))
    (sym (but_realtime row (rq_taken_realtime (queue_in_def row) b previous next pinned).realtime.queues))
left_of part.Timeshare row b previous next v pinned = ap (λ (us : List ℕ). numbers_into us (rq_taken_timeshare (queue_in_def row) b previous next v pinned))
    (sym (but_timeshare row (rq_taken_timeshare (queue_in_def row) b previous next v pinned).timeshare.priorities (rq_taken_timeshare (queue_in_def row) b previous next v pinned).timeshare.queues))
left_of part.Idle row b previous next v pinned = ap (λ (us : List ℕ). numbers_into us (rq_taken_idle (queue_in_def row) b previous next pinned))
    (sym (but_idle row (rq_taken_idle (queue_in_def row) b previous next pinned).idle.queues))

pub left_stored : (p : Part) (cs : List (List ℕ)) (c b previous next v : ℕ) (pinned : Bool)
    → part_stored p cs c (rq_taken_from p (queue_at cs c) b previous next v pinned) ≡ queue_stored cs c (rq_taken_from p (queue_at cs c) b previous next v pinned)
unfolding part_stored queue_stored queue_at
left_stored p cs c b previous next v pinned = ap (λ (row : List ℕ). set cs c row) (left_of p (slice_index_or cs c []) b previous next v pinned)

-- the front that was answered is taken from its part
pub took_stored : (cs : List (List ℕ)) (c : ℕ) (f : Option Front) (p r : Part) (b x previous next v : ℕ) (pinned : Bool) → f ≡ front_at p b x → p ≡ r
    → queue_stored cs c (rq_taken_from r (queue_at cs c) b previous next v pinned) ≡ queue_stored cs c (rq_taken (queue_at cs c) f previous next v pinned)
unfolding rq_taken
took_stored cs c f p r b x previous next v pinned e h = rw (e, h)

-- what changes no list

lists_kept : (row : List ℕ) (a : Lists) (c : List ℕ) (d f : Lists) → a ≡ lists_at row 0 → c ≡ load_n row 16 8 8 → d ≡ lists_at row 24 → f ≡ lists_at row 40
    → lists_stored row a c d f ≡ row
lists_kept row a c d f p q r s = rw (p, q, r, s) (but_idle row (lists_at row 40) ∙ lists_held row row 40 refl)

numbers_alone : (row : List ℕ) (q : RunQueue) → q.realtime.queues ≡ lists_at row 0 → q.timeshare.priorities ≡ load_n row 16 8 8 → q.timeshare.queues ≡ lists_at row 24
    → q.idle.queues ≡ lists_at row 40 → numbers_into row q ≡ queue_into row q
unfolding queue_into stored_from numbers_into
numbers_alone row q a c d f =
    ap (λ (us : List ℕ). numbers_into us q) (sym (lists_kept row q.realtime.queues q.timeshare.priorities q.timeshare.queues q.idle.queues a c d f))

pub again_stored : (cs : List (List ℕ)) (c : ℕ) → numbers_stored cs c (queue_at cs c) ≡ queue_stored cs c (queue_at cs c)
unfolding numbers_stored queue_stored queue_at queue_in_def queue_from built_of
again_stored cs c = ap (λ (row : List ℕ). set cs c row) (numbers_alone (slice_index_or cs c []) (queue_in_def (slice_index_or cs c [])) refl refl refl refl)

pub hardtick_stored : (cs : List (List ℕ)) (c now : ℕ) → numbers_stored cs c (rq_hardtick (queue_at cs c) now).queue ≡ queue_stored cs c (rq_hardtick (queue_at cs c) now).queue
unfolding numbers_stored queue_stored queue_at queue_in_def queue_from built_of rq_hardtick
hardtick_stored cs c now = ap (λ (row : List ℕ). set cs c row) (numbers_alone (slice_index_or cs c []) (rq_hardtick (queue_in_def (slice_index_or cs c [])) now).queue refl refl refl refl)

-- the clock moves the filling index alone
advance_keeps : {X : Type 0} (f : TimeshareQueue → X) (t : TimeshareQueue) (steps : ℕ) (force : Bool) → f (ts_step t steps) ≡ f t → f (ts_advance t steps force) ≡ f t
unfolding ts_advance
advance_keeps f t steps force h =
    both (t.count == 0) (λ a. rw a)
    (λ a. both (t.insert_idx == t.take_idx) (λ b. rw (a, b) h) (λ b. both force (λ c. rw (a, b, c) h) (λ c. rw (a, b, c))))

pub clock_stored : (cs : List (List ℕ)) (c : ℕ) → numbers_stored cs c (rq_clock (queue_at cs c)) ≡ queue_stored cs c (rq_clock (queue_at cs c))
unfolding numbers_stored queue_stored queue_at queue_in_def queue_from built_of rq_clock with_timeshare ts_step
clock_stored cs c =
    let t : TimeshareQueue = (queue_in_def (slice_index_or cs c [])).timeshare in
    ap (λ (row : List ℕ). set cs c row)
    (numbers_alone (slice_index_or cs c []) (rq_clock (queue_in_def (slice_index_or cs c []))) refl (advance_keeps (λ (u : TimeshareQueue). u.priorities) t 1 true refl)
    (advance_keeps (λ (u : TimeshareQueue). u.queues) t 1 true refl) refl)

-- ---- who leaves next, if a thread is asked of a queue

pub front_kept : (q : RunQueue) (stealing : Bool) → (stealing && q.movable == 0) ≡ true → None ≡ rq_front q stealing
unfolding rq_front
front_kept q true e = rw e
front_kept q false e = cc

pub front_open : (q : RunQueue) (stealing : Bool) → (stealing && q.movable == 0) ≡ false → rq_front_realtime q ≡ rq_front q stealing
unfolding rq_front
front_open q true e = rw e
front_open q false e = refl
