-- THE LAWS OF ONE RUN QUEUE: what a put, a look, a take, a clock and a hard tick of the code's run queue do is what the rules' do.
use Prim.Native.Nat.{ℕ, zero, suc, ◌+◌, ◌-◌, ◌*◌, ◌/◌, ◌%◌, ◌^◌, ◌≤◌, ◌<◌}
use Rattle.std.specs.Prelude.{◌≡◌, Bool, cond, ◌&&◌, ◌||◌, List, [], ◌∷◌, ◌++◌, map, length, get_or, eqb, ltb, None}
use Rattle.std.proofs.Math.Path.{refl, sym, ap}
use Rattle.std.proofs.Common.{◌∙◌, true≢false, eq-eqb, ne_eqb, mod-eq_of_lt, div-le_self, arith}
use Rattle.std.proofs.Math.Bool.{true, false}
use Rattle.std.proofs.Math.ListN.{length-append}
use Rattle.rules.specs.declared.PriorityClass.{PriorityClass}
use Rattle.rules.specs.declared.PriorityClass.TheVariants as class
use Rattle.rules.specs.declared.Priority.{Priority}
use Rattle.rules.specs.declared.Part.{Part}
use Rattle.rules.specs.declared.Part.TheVariants as part
use Rattle.rules.specs.Line.{has, Distinct, Below}
use Rattle.rules.proofs.Laws.Line.{both, Comes, comes_length, comes_has, comes_distinct, comes_below, has_left, has_right, distinct_left, distinct_right, distinct_apart, distinct_length}
use Rattle.rules.specs.Buckets.{Buckets, bucket, nothing, found, scan, pop}
use Rattle.rules.proofs.Laws.Buckets.{scan_found}
use Rattle.rules.specs.Buckets.{Found as Foundₗ}
use Rattle.rules.specs.Priority.{nr_values, priority, from_raw, raw, class_at, cut}
use Rattle.rules.specs.Queue.{Queue, nr_buckets, width, no_queue, realtime_line, timeshare_line, idle_line, order, load, timeshare_load, empty, movable, part_of, part_for, class_bucket, value_bucket, timeshare_bucket, bucket_for, join_in, insert}
use Rattle.rules.specs.Queue.{Next, nobody, next_in, first_in, next_idle, next_timeshare, next, leave, asked, advance_insert_index, said_after_put, highest_bucket, highest_value, is_class, said_realtime, said_idle, said_timeshare, said_after_take}
use Rattle.rules.specs.Times.{timeslice, deadline_distance}
use Rattle.rules.specs.State.{at, idle_priority}
use Rattle.rules.proofs.Laws.Effect.{Shape, start_order, bucket_for_in, class_bucket_in, timeshare_bucket_in, join_comes, NextIs, next_nobody, next_head, next_is}
use Rattle.rules.proofs.Laws.Held.{has_head}
use Rattle.rules.specs.Waits.{Under}
use Rattle.thread.specs.Thread.{NONE}
use Rattle.queue.specs.declared.lists.Lists.{Lists}
use Rattle.queue.specs.declared.pq.PriorityQueue.{PriorityQueue}
use Rattle.queue.specs.declared.timeshare.TimeshareQueue.{TimeshareQueue}
use Rattle.runqueue.specs.declared.rq.RunQueue.{RunQueue}
use Rattle.runqueue.specs.declared.rq.Arrival.{Arrival}
use Rattle.queue.specs.Num.{sum, difference, difference_exact, half_product}
use Rattle.queue.specs.Lists.{push_back}
use Rattle.queue.specs.PriorityQueue.{pq_highest, pq_insert}
use Rattle.queue.specs.Timeshare.{no_timeshare, ts_index, ts_bucket, ts_insert, ts_taken}
use Rattle.runqueue.specs.RunQueue.{no_run_queue, rq_empty, raised, said_realtime_def, said_timeshare_def, counted, with_realtime, with_timeshare, with_idle, advertising, rq_insert_realtime, rq_insert_timeshare, rq_insert_idle, rq_insert_into, rq_insert, first_in_def, rq_front_idle, rq_front_timeshare, rq_front_realtime, rq_front}
use Rattle.runqueue.specs.RunQueue.{uncounted, rq_taken_realtime, rq_recalc, rq_taken_timeshare, rq_taken_idle, rq_taken_from, rq_taken, rq_clock, rq_hardtick}
use Rattle.thread.specs.Priority.{raw_again}
use Rattle.represents.proofs.Laws.Linked.{link_after, Alike, has_later, walk_chain}
use Rattle.represents.specs.QueueRead.{walk}
use Rattle.represents.specs.Linked.{ListsRep}
use Rattle.represents.proofs.Laws.Lists.{as_found, push_in, push_alike, no_bucket, below_bucket, distinct_bucket}
use Rattle.represents.proofs.Laws.Counts.{up_one, down_one, movable_comes, movable_most, moved_up, moved_down}
use Rattle.represents.specs.Queue.{line, PartRep, TimeshareRep}
use Rattle.represents.proofs.Laws.Parts.{no_part, part_frame, part_front, part_empty, part_highest, part_push, part_taken, no_share, share_frame, share_front, share_empty, share_highest, share_push, share_taken, share_step, share_advance}
use Rattle.represents.specs.QueueRead.{Marks, queue_read}
use Rattle.represents.specs.Queue.{QueueReading, QueueRep}
use Rattle.represents.proofs.Laws.Readings.{reading, new_reading, as_arrival, put_reading, take_reading, clock_reading, hardtick_reading, value_after, marks_after, Follows}

-- ---- small facts

pub well_shape : {limit : ℕ} {m : Marks} {q : RunQueue} {R : QueueReading} → QueueRep limit m q R → Shape R.queue
well_shape w = record {
  realtime_full = w.realtime.shown.full;
  timeshare_full = w.timeshare.shown.full;
  idle_full = w.idle.shown.full;
  take_idx_in = w.timeshare.take_in;
}

pub below_more : (n k : ℕ) (l : List ℕ) → n ≤ k → Below n l → Below k l
unfolding Below
below_more n k [] h b = tt
below_more n k (x ∷ l) h b = (omega (arith, b.0), below_more n k l h b.1)

below_left : (n : ℕ) (l k : List ℕ) → Below n (l ++ k) → Below n l
unfolding Below
below_left n [] k b = tt
below_left n (x ∷ l) k b = (b.0, below_left n l k b.1)

below_right : (n : ℕ) (l k : List ℕ) → Below n (l ++ k) → Below n k
unfolding Below
below_right n [] k b = b
below_right n (x ∷ l) k b = below_right n l k b.1

-- who stands in one of two lines
no_left : (z : ℕ) (l k : List ℕ) → has z (l ++ k) ≡ false → has z l ≡ false
no_left z l k h = both (has z l) (λ e. absurd (true≢false (sym (has_left z l k e) ∙ h))) (λ e. e)

no_right : (z : ℕ) (l k : List ℕ) → has z (l ++ k) ≡ false → has z k ≡ false
no_right z l k h = both (has z k) (λ e. absurd (true≢false (sym (has_right z l k e) ∙ h))) (λ e. e)

distinct_other : (z : ℕ) (l k : List ℕ) → Distinct (l ++ k) → has z l ≡ true → has z k ≡ false
distinct_other z l k d h = both (has z k) (λ e. absurd (true≢false (sym h ∙ distinct_apart z l k d e))) (λ e. e)

-- the three lines are parts of the order
module _ (Q : Queue) where
  pub in_rt : (z : ℕ) → has z (realtime_line Q) ≡ true → has z (order Q) ≡ true
  unfolding order
  in_rt z h = has_left z (realtime_line Q) _ h

  pub in_ts : (z : ℕ) → has z (timeshare_line Q) ≡ true → has z (order Q) ≡ true
  unfolding order
  in_ts z h = has_right z (realtime_line Q) _ (has_left z (timeshare_line Q) _ h)

  pub in_il : (z : ℕ) → has z (idle_line Q) ≡ true → has z (order Q) ≡ true
  unfolding order
  in_il z h = has_right z (realtime_line Q) _ (has_right z (timeshare_line Q) _ h)

  lengths : length (order Q) ≡ length (realtime_line Q) + (length (timeshare_line Q) + length (idle_line Q))
  unfolding order
  lengths = length-append (realtime_line Q) _ ∙ omega (arith, length-append (timeshare_line Q) (idle_line Q))

-- the three lines of a queue whose threads are numbered below the limit
module _ (limit : ℕ) (small : limit ≤ NONE) (Q : Queue) (numbered : Below limit (order Q)) where
  below_all : Below NONE (order Q)
  below_all = below_more limit NONE (order Q) small numbered

  pub rt_below : Below NONE (realtime_line Q)
  unfolding order
  rt_below = below_left NONE (realtime_line Q) _ below_all

  pub ts_below : Below NONE (timeshare_line Q)
  unfolding order
  ts_below = below_left NONE (timeshare_line Q) _ (below_right NONE (realtime_line Q) _ below_all)

  pub il_below : Below NONE (idle_line Q)
  unfolding order
  il_below = below_right NONE (timeshare_line Q) _ (below_right NONE (realtime_line Q) _ below_all)

  module _ (once : Distinct (order Q)) where
    room_all : length (order Q) ≤ NONE
    room_all = omega (arith, distinct_length limit (order Q) once numbered)

    rt_most : length (realtime_line Q) ≤ NONE
    rt_most = omega (arith, room_all, lengths Q)

    ts_most : length (timeshare_line Q) ≤ NONE
    ts_most = omega (arith, room_all, lengths Q)

    il_most : length (idle_line Q) ≤ NONE
    il_most = omega (arith, room_all, lengths Q)

pub movable_same : (f g : ℕ → Bool) (l : List ℕ) → ((z : ℕ) → has z l ≡ true → f z ≡ g z) → movable f l ≡ movable g l
unfolding movable has
movable_same f g [] h = refl
movable_same f g (x ∷ l) h = rw (h x (has_head x l), movable_same f g l (λ z e. h z (has_later z x l e)))

-- ---- what is advertised

raw_cond : (t : Bool) (a b : ℕ) → from_raw (cond t a b) ≡ cond t (from_raw a) (from_raw b)
raw_cond true a b = refl
raw_cond false a b = refl

highest_in : (bs : Buckets) (k : ℕ) → k ≤ nr_buckets → highest_bucket bs k < nr_values
unfolding highest_bucket nr_buckets width nr_values
highest_in bs zero h = omega arith
highest_in bs (suc k) h = both (empty (bucket 8 bs k)) (λ e. rw e (highest_in bs k (omega arith))) (λ e. rw e (omega arith))

value_in : (value : ℕ → ℕ) (l : List ℕ) → ((x : ℕ) → has x l ≡ true → value x < nr_values) → highest_value value l < nr_values
unfolding highest_value nr_values width
value_in value [] h = omega arith
value_in value (x ∷ l) h =
    let i : highest_value value l < 128 = value_in value l (λ z e. h z (has_later z x l e)) in
    let j : value x < 128 = h x (has_head x l) in
    both (ltb (highest_value value l) (value x / 16 * 16)) (λ e. rw e (omega arith)) (λ e. rw e i)

idle_says : (f : ℕ → ℕ) (p : PriorityQueue) (bs : Buckets) → PartRep f p bs → Below NONE (line bs 0)
    → from_raw (raw (priority class.Idle (pq_highest p))) ≡ priority class.Idle (highest_bucket bs nr_buckets)
idle_says f p bs w b = rw (part_highest f p bs w b) (raw_again _ (highest_in bs nr_buckets (omega arith)))

realtime_says : (f : ℕ → ℕ) (p : PriorityQueue) (bs : Buckets) (said : ℕ) → PartRep f p bs → Below NONE (line bs 0)
    → from_raw (said_realtime_def said p)
    ≡ cond (is_class class.Realtime (from_raw said)) (cond (empty (line bs 0)) (priority class.User 127) (priority class.Realtime (highest_bucket bs nr_buckets))) (from_raw said)
unfolding said_realtime_def
realtime_says f p bs said w b =
    rw (
      part_empty f p bs w,
      part_highest f p bs w b,
      raw_cond,
      raw_cond,
      raw_again (priority class.User 127) (unfold nr_values in omega arith),
      raw_again (priority class.Realtime (highest_bucket bs nr_buckets)) (highest_in bs nr_buckets (omega arith)),
    )

timeshare_says : (f value : ℕ → ℕ) (t : TimeshareQueue) (bs : Buckets) (ins tk : ℕ) (p : PriorityQueue) (cs : Buckets) (said : ℕ) → TimeshareRep f value t bs ins tk → PartRep f p cs → Below NONE (line cs 0)
    → from_raw (said_timeshare_def said t p)
    ≡ cond (is_class class.User (from_raw said)) (cond (empty (line bs tk)) (priority class.Idle (highest_bucket cs nr_buckets)) (priority class.User (highest_value value (line bs tk)))) (from_raw said)
unfolding said_timeshare_def
timeshare_says f value t bs ins tk p cs said w v b =
    rw (
      share_empty f value t bs ins tk w,
      share_highest f value t bs ins tk w,
      part_highest f p cs v b,
      raw_cond,
      raw_cond,
      raw_again (priority class.Idle (highest_bucket cs nr_buckets)) (highest_in cs nr_buckets (omega arith)),
      raw_again (priority class.User (highest_value value (line bs tk))) (value_in value (line bs tk) w.values_in),
    )

put_says : (said : ℕ) (p : Priority) → p.value < nr_values → from_raw (raised said p) ≡ said_after_put (from_raw said) p
unfolding raised said_after_put
put_says said p h = rw (raw_cond, raw_again p h)

-- a bound on timeslices, which is any that the shortest and 100 keep
pub slice_most : (most shortest : ℕ) (c : PriorityClass) (tl : ℕ) → 100 ≤ most → shortest ≤ most → timeslice shortest c tl ≤ most
unfolding timeslice
slice_most most shortest class.User tl k h =
    both (eqb tl 0) (λ e. rw e k) (λ e. rw e
    (both (ltb (32 / tl) shortest) (λ f. rw f h) (λ f. rw f (omega (arith, div-le_self 32 tl)))))
slice_most most shortest class.Realtime tl k h = k
slice_most most shortest class.Background tl k h = k
slice_most most shortest class.Idle tl k h = k

empty_both : (l k : List ℕ) → empty (l ++ k) ≡ (empty l && empty k)
unfolding empty
empty_both [] k = refl
empty_both (x ∷ l) k = refl

map_is : (g : ℕ → List ℕ) (hs : List ℕ) (bs : Buckets) → length hs ≡ length bs → ((i : ℕ) → i < length bs → g (get_or hs i 0) ≡ get_or bs i []) → map g hs ≡ bs
map_is g [] [] e h = refl
map_is g [] (b ∷ bs) e h = absurd (omega arith)
map_is g (x ∷ hs) [] e h = absurd (omega arith)
map_is g (x ∷ hs) (b ∷ bs) e h = rw (h 0 (omega arith), map_is g hs bs (omega arith) (λ i k. h (suc i) (omega arith)))

-- ---- a frame: other threads' marks may change

pub well_frame : {limit : ℕ} {m : Marks} {q : RunQueue} {R : QueueReading} (m' : Marks) → QueueRep limit m q R
    → Alike m'.next m.next (order R.queue) → ((z : ℕ) → has z (order R.queue) ≡ true → m'.pinned z ≡ m.pinned z) → Alike m'.value m.value (order R.queue)
    → QueueRep limit m' q R
unfolding realtime_line timeshare_line idle_line
well_frame {limit} {m} {q} {R} m' w a p v = record {
  realtime = part_frame _ _ _ w.realtime m'.next (λ z h. a z (in_rt R.queue z h));
  timeshare = share_frame _ _ _ _ _ _ w.timeshare m'.next m'.value (λ z h. a z (in_ts R.queue z h)) (λ z h. v z (in_ts R.queue z h));
  idle = part_frame _ _ _ w.idle m'.next (λ z h. a z (in_il R.queue z h));
  once = w.once;
  numbered = w.numbered;
  load_is = w.load_is;
  timeshare_load_is = w.timeshare_load_is;
  movable_is = w.movable_is ∙ sym (movable_same m'.pinned m.pinned (order R.queue) p);
  advertised_is = w.advertised_is;
  last_tick_is = w.last_tick_is;
}

-- ---- a look, and a take

module _ (limit : ℕ) (small : limit ≤ NONE) (m : Marks) (q : RunQueue) (R : QueueReading) (w : QueueRep limit m q R) where
  abbrev Q : Queue
  Q = R.queue

  -- what all takes leave
  module _ (Q' : Queue) (x : ℕ) (o : order Q ≡ x ∷ order Q') where
    left_once : Distinct (order Q')
    unfolding Distinct
    left_once = (rw o at w.once).1

    left_numbered : Below limit (order Q')
    unfolding Below
    left_numbered = (rw o at w.numbered).1

    left_room : length (order Q') < NONE
    left_room = let n : length (order Q) ≡ suc (length (order Q')) = ap length o in omega (arith, distinct_length limit (order Q) w.once w.numbered)

    left_load : difference q.load 1 ≡ load Q'
    unfolding load
    left_load = rw (w.load_is, o) (down_one (length (order Q')) left_room)

    left_movable : cond (m.pinned x) q.movable (difference q.movable 1) ≡ movable m.pinned (order Q')
    unfolding movable
    left_movable = moved_down (m.pinned x) q.movable _ (omega (arith, movable_most m.pinned (order Q'), left_room)) (rw o at w.movable_is)

  -- the thread found is the head of the order
  pub taken_order : (p : Part) (j x : ℕ) → next Q ≡ next_in p j x → order Q ≡ x ∷ order (leave p Q j)
  taken_order p j x e = go (next_is Q (well_shape w))
    where
      go : NextIs Q (next Q) → order Q ≡ x ∷ order (leave p Q j)
      go (next_nobody a b) = let z : ◌≡◌ {A = Next} nobody (next_in p j x) = sym a ∙ e in cc
      go (next_head p' j' x' rest a b c d s) =
          let z : next_in p' j' x' ≡ next_in p j x = sym a ∙ e in
          let u : x' ≡ x = cc in
          let v : p' ≡ p = cc in
          let k : j' ≡ j = cc in
          rw (← u, ← v, ← k) d

  idle_follows : (f : Foundₗ) → scan nr_buckets Q.idle 0 nr_buckets ≡ f → next Q ≡ first_in part.Idle f nobody
      → Follows limit m q R (first_in_def part.Idle (as_found f) None) (first_in part.Idle f nobody)
  unfolding Follows first_in_def as_found first_in leave take_reading said_after_take said_idle rq_taken rq_taken_from rq_taken_idle advertising with_idle uncounted realtime_line timeshare_line idle_line timeshare_load
  idle_follows nothing e t = refl
  idle_follows (found j x) e t =
      let Q' : Queue = leave part.Idle Q j in
      let o : order Q ≡ x ∷ order Q' = taken_order part.Idle j x t in
      let new = part_taken m.next q.idle Q.idle w.idle j x (scan_found nr_buckets Q.idle 0 nr_buckets j x e) (il_most limit small Q w.numbered w.once) in (
        refl,
        record {
          realtime = w.realtime;
          timeshare = w.timeshare;
          idle = new;
          once = left_once Q' x o;
          numbered = left_numbered Q' x o;
          load_is = left_load Q' x o;
          timeshare_load_is = w.timeshare_load_is;
          movable_is = left_movable Q' x o;
          advertised_is = idle_says m.next _ (pop Q.idle j) new (il_below limit small Q' (left_numbered Q' x o));
          last_tick_is = w.last_tick_is;
        },
      )

  timeshare_follows : (f : Foundₗ) → scan nr_buckets Q.timeshare Q.take_idx nr_buckets ≡ f → next Q ≡ first_in part.Timeshare f (next_idle Q)
      → Follows limit m q R (first_in_def part.Timeshare (as_found f) (first_in_def part.Idle (as_found (scan nr_buckets Q.idle 0 nr_buckets)) None)) (first_in part.Timeshare f (next_idle Q))
  unfolding Follows first_in_def as_found first_in next_idle leave take_reading said_after_take said_timeshare said_idle rq_taken rq_taken_from rq_taken_timeshare rq_recalc advertising with_timeshare uncounted realtime_line timeshare_line idle_line timeshare_load
  timeshare_follows nothing e t = idle_follows (scan nr_buckets Q.idle 0 nr_buckets) refl t
  timeshare_follows (found j x) e t =
      let Q' : Queue = leave part.Timeshare Q j in
      let o : order Q ≡ x ∷ order Q' = taken_order part.Timeshare j x t in
      let new = share_taken m.next m.value q.timeshare Q.timeshare Q.insert_idx Q.take_idx w.timeshare j x (scan_found nr_buckets Q.timeshare Q.take_idx nr_buckets j x e) (ts_below limit small Q w.numbered) (ts_most limit small Q w.numbered w.once) in (
        refl,
        record {
          realtime = w.realtime;
          timeshare = new;
          idle = w.idle;
          once = left_once Q' x o;
          numbered = left_numbered Q' x o;
          load_is = left_load Q' x o;
          timeshare_load_is = ap (λ (n : ℕ). difference n 1) (w.timeshare_load_is ∙ sym w.timeshare.counted) ∙ (unfold ts_taken in new.counted);
          movable_is = left_movable Q' x o;
          advertised_is = timeshare_says m.next m.value _ _ _ _ q.idle Q.idle q.current_priority new w.idle (il_below limit small Q w.numbered) ∙ rw w.advertised_is;
          last_tick_is = w.last_tick_is;
        },
      )

  realtime_follows : (f : Foundₗ) → scan nr_buckets Q.realtime 0 nr_buckets ≡ f → next Q ≡ first_in part.Realtime f (next_timeshare Q)
      → Follows limit m q R (first_in_def part.Realtime (as_found f) (first_in_def part.Timeshare (as_found (scan nr_buckets Q.timeshare Q.take_idx nr_buckets)) (first_in_def part.Idle (as_found (scan nr_buckets Q.idle 0 nr_buckets)) None)))
      (first_in part.Realtime f (next_timeshare Q))
  unfolding Follows first_in_def as_found first_in next_timeshare leave take_reading said_after_take said_realtime rq_taken rq_taken_from rq_taken_realtime advertising with_realtime uncounted realtime_line timeshare_line idle_line timeshare_load
  realtime_follows nothing e t = timeshare_follows (scan nr_buckets Q.timeshare Q.take_idx nr_buckets) refl t
  realtime_follows (found j x) e t =
      let Q' : Queue = leave part.Realtime Q j in
      let o : order Q ≡ x ∷ order Q' = taken_order part.Realtime j x t in
      let new = part_taken m.next q.realtime Q.realtime w.realtime j x (scan_found nr_buckets Q.realtime 0 nr_buckets j x e) (rt_most limit small Q w.numbered w.once) in (
        refl,
        record {
          realtime = new;
          timeshare = w.timeshare;
          idle = w.idle;
          once = left_once Q' x o;
          numbered = left_numbered Q' x o;
          load_is = left_load Q' x o;
          timeshare_load_is = w.timeshare_load_is;
          movable_is = left_movable Q' x o;
          advertised_is = realtime_says m.next _ (pop Q.realtime j) q.current_priority new (rt_below limit small Q' (left_numbered Q' x o)) ∙ rw w.advertised_is;
          last_tick_is = w.last_tick_is;
        },
      )

  next_follows : Follows limit m q R (rq_front_realtime q) (next Q)
  unfolding rq_front_realtime rq_front_timeshare rq_front_idle next realtime_line timeshare_line idle_line
  next_follows =
      rw (
        part_front m.next q.realtime Q.realtime w.realtime (rt_below limit small Q w.numbered),
        share_front m.next m.value q.timeshare Q.timeshare Q.insert_idx Q.take_idx w.timeshare (ts_below limit small Q w.numbered),
        part_front m.next q.idle Q.idle w.idle (il_below limit small Q w.numbered),
      )
      (realtime_follows (scan nr_buckets Q.realtime 0 nr_buckets) refl refl)

  -- A LOOK AND A TAKE
  pub take_follows : (stealing : Bool) → Follows limit m q R (rq_front q stealing) (asked m.pinned Q stealing)
  unfolding rq_front asked Follows
  take_follows false = next_follows
  take_follows true = rw (← w.movable_is) (both (eqb q.movable 0) (λ e. rw e) (λ e. rw e next_follows))

  -- ---- a clock, a hard tick

  clock_empty : empty (timeshare_line Q) ≡ true → rq_clock q ≡ q
  unfolding rq_clock with_timeshare timeshare_line
  clock_empty e = rw (share_advance m.next m.value q.timeshare Q.timeshare Q.insert_idx Q.take_idx w.timeshare true e)

  abbrev advanced : Queue
  advanced = record { realtime = Q.realtime; timeshare = Q.timeshare; insert_idx = suc Q.insert_idx % nr_buckets; take_idx = Q.take_idx; idle = Q.idle }

  clock_full : empty (timeshare_line Q) ≡ false → QueueRep limit m (rq_clock q) (record { queue = advanced; advertised = R.advertised; last_tick = R.last_tick })
  unfolding rq_clock with_timeshare timeshare_line realtime_line idle_line order load timeshare_load
  clock_full e =
      rw (share_advance m.next m.value q.timeshare Q.timeshare Q.insert_idx Q.take_idx w.timeshare false e)
      (record {
        realtime = w.realtime;
        timeshare = share_step m.next m.value q.timeshare Q.timeshare Q.insert_idx Q.take_idx w.timeshare;
        idle = w.idle;
        once = w.once;
        numbered = w.numbered;
        load_is = w.load_is;
        timeshare_load_is = w.timeshare_load_is;
        movable_is = w.movable_is;
        advertised_is = w.advertised_is;
        last_tick_is = w.last_tick_is;
      })

  -- A CLOCK
  pub clock_follows : QueueRep limit m (rq_clock q) (clock_reading R)
  unfolding clock_reading advance_insert_index
  clock_follows = both (empty (timeshare_line Q)) (λ e. rw (e, clock_empty e) w) (λ e. rw e (clock_full e))

  -- A HARD TICK
  pub hardtick_follows : (now : ℕ) → QueueRep limit m (rq_hardtick q now).queue (hardtick_reading R now)
  unfolding rq_hardtick hardtick_reading
  hardtick_follows now = record {
    realtime = w.realtime;
    timeshare = w.timeshare;
    idle = w.idle;
    once = w.once;
    numbered = w.numbered;
    load_is = w.load_is;
    timeshare_load_is = w.timeshare_load_is;
    movable_is = w.movable_is;
    advertised_is = w.advertised_is;
    last_tick_is = refl;
  }

  -- its ticks, on a tick that is not below the last
  pub hardtick_ticks : (now : ℕ) → now < 2 ^ 64 → R.last_tick ≤ now → (rq_hardtick q now).ticks ≡ now - R.last_tick
  unfolding rq_hardtick
  hardtick_ticks now h l = rw (← w.last_tick_is) (difference_exact now q.last_tick h (rw w.last_tick_is l))

  -- ---- a put

  module _ (a : Arrival) (vn : a.priority.value < nr_values) (tn : a.thread < limit) (free : has a.thread (order Q) ≡ false) (pin : m.pinned a.thread ≡ a.pinned) where
    abbrev y : ℕ
    y = a.thread

    abbrev v : ℕ
    v = a.priority.value

    -- the bucket of part p, the queue after it, and its order
    abbrev place : Part → ℕ
    place p = bucket_for p Q (as_arrival a)

    abbrev into : Part → Queue
    into p = join_in p Q (place p) y

    module _ (p : Part) where
      comes : Comes y (order Q) (order (into p))
      unfolding as_arrival
      comes = join_comes p Q (place p) y (well_shape w) (bucket_for_in p Q (as_arrival a) (well_shape w) vn)

      put_once : Distinct (order (into p))
      put_once = comes_distinct comes free w.once

      put_numbered : Below limit (order (into p))
      put_numbered = comes_below comes limit tn w.numbered

      room : length (order Q) < NONE
      room = omega (arith, distinct_length limit (order (into p)) put_once put_numbered, comes_length comes)

      put_load : sum q.load 1 ≡ load (into p)
      unfolding load
      put_load = rw (w.load_is, up_one (length (order Q)) room) (sym (comes_length comes))

      put_movable : cond a.pinned q.movable (sum q.movable 1) ≡ movable m.pinned (order (into p))
      put_movable =
          moved_up a.pinned q.movable _ (rw w.movable_is (omega (arith, movable_most m.pinned (order Q), room)))
          (movable_comes m.pinned comes ∙ rw (pin, w.movable_is))

    other : (z : ℕ) → has z (order Q) ≡ true → eqb z y ≡ false
    other z h = ne_eqb z y (λ e. true≢false (sym h ∙ rw e free))

    rt_room : length (realtime_line Q) < NONE
    rt_room = omega (arith, room part.Realtime, lengths Q)

    ts_room : length (timeshare_line Q) < NONE
    ts_room = omega (arith, room part.Realtime, lengths Q)

    il_room : length (idle_line Q) < NONE
    il_room = omega (arith, room part.Realtime, lengths Q)

    index_same : ts_index q.timeshare v ≡ value_bucket Q v
    unfolding ts_index value_bucket
    index_same = rw w.timeshare.insert_is

    share_same : (current : Bool) → ts_bucket q.timeshare v current ≡ timeshare_bucket Q v current
    unfolding ts_bucket timeshare_bucket
    share_same true = w.timeshare.take_is
    share_same false =
        rw (index_same, w.timeshare.take_is, w.timeshare.insert_is)
        (both (eqb (value_bucket Q v) Q.take_idx) (λ e. rw e (both (eqb Q.insert_idx Q.take_idx) (λ f. rw f) (λ f. rw f))) (λ e. rw e))

    -- the lines do not meet
    rt_free : has y (realtime_line Q) ≡ false
    unfolding order
    rt_free = no_left y (realtime_line Q) _ free

    ts_free : has y (timeshare_line Q) ≡ false
    unfolding order
    ts_free = no_left y (timeshare_line Q) _ (no_right y (realtime_line Q) _ free)

    il_free : has y (idle_line Q) ≡ false
    unfolding order
    il_free = no_right y (timeshare_line Q) _ (no_right y (realtime_line Q) _ free)

    rt_once : Distinct (realtime_line Q)
    unfolding order
    rt_once = distinct_left (realtime_line Q) _ w.once

    later_once : Distinct (timeshare_line Q ++ idle_line Q)
    unfolding order
    later_once = distinct_right (realtime_line Q) _ w.once

    ts_once : Distinct (timeshare_line Q)
    ts_once = distinct_left (timeshare_line Q) _ later_once

    il_once : Distinct (idle_line Q)
    il_once = distinct_right (timeshare_line Q) _ later_once

    not_rt : (z : ℕ) → has z (timeshare_line Q ++ idle_line Q) ≡ true → has z (realtime_line Q) ≡ false
    unfolding order
    not_rt z h = distinct_apart z (realtime_line Q) _ w.once h

    rt_not : (z : ℕ) → has z (realtime_line Q) ≡ true → has z (timeshare_line Q ++ idle_line Q) ≡ false
    unfolding order
    rt_not z h = distinct_other z (realtime_line Q) _ w.once h

    rt_b : Below NONE (realtime_line Q)
    rt_b = rt_below limit small Q w.numbered

    ts_b : Below NONE (timeshare_line Q)
    ts_b = ts_below limit small Q w.numbered

    il_b : Below NONE (idle_line Q)
    il_b = il_below limit small Q w.numbered

    says : from_raw (raised q.current_priority a.priority) ≡ said_after_put R.advertised a.priority
    says = put_says q.current_priority a.priority vn ∙ rw w.advertised_is

    -- what is read after a put into part p
    abbrev read : Part → QueueReading
    read p = record { queue = into p; advertised = said_after_put R.advertised a.priority; last_tick = R.last_tick }

    put_realtime : QueueRep limit (record { next = link_after m.next (rq_insert_realtime q a).behind y; pinned = m.pinned; value = m.value }) (rq_insert_realtime q a).queue (read part.Realtime)
    unfolding rq_insert_realtime pq_insert with_realtime counted join_in bucket_for as_arrival realtime_line timeshare_line idle_line timeshare_load
    put_realtime =
        let j : ℕ = class_bucket a.priority.class v in
        let jn : j < nr_buckets = class_bucket_in a.priority.class v vn in
        let links : ℕ → ℕ = link_after m.next (push_back q.realtime.queues j y).behind y in
        let alike : (z : ℕ) → has z (realtime_line Q) ≡ false → has z (order Q) ≡ true → links z ≡ m.next z =
        λ z n h. push_alike m.next q.realtime.queues Q.realtime 0 w.realtime.shown j y jn rt_once rt_b rt_free z (no_bucket nr_buckets Q.realtime 0 j z jn n) (other z h) in
        record {
          realtime = part_push m.next q.realtime Q.realtime w.realtime j y jn rt_once rt_b rt_free rt_room;
          timeshare = share_frame _ _ _ _ _ _ w.timeshare links m.value (λ z h. alike z (not_rt z (has_left z (timeshare_line Q) _ h)) (in_ts Q z h)) (λ z h. refl);
          idle = part_frame _ _ _ w.idle links (λ z h. alike z (not_rt z (has_right z (timeshare_line Q) _ h)) (in_il Q z h));
          once = put_once part.Realtime;
          numbered = put_numbered part.Realtime;
          load_is = put_load part.Realtime;
          timeshare_load_is = w.timeshare_load_is;
          movable_is = put_movable part.Realtime;
          advertised_is = says;
          last_tick_is = w.last_tick_is;
        }

    put_idle : QueueRep limit (record { next = link_after m.next (rq_insert_idle q a).behind y; pinned = m.pinned; value = m.value }) (rq_insert_idle q a).queue (read part.Idle)
    unfolding rq_insert_idle pq_insert with_idle counted join_in bucket_for as_arrival realtime_line timeshare_line idle_line timeshare_load
    put_idle =
        let j : ℕ = class_bucket a.priority.class v in
        let jn : j < nr_buckets = class_bucket_in a.priority.class v vn in
        let links : ℕ → ℕ = link_after m.next (push_back q.idle.queues j y).behind y in
        let alike : (z : ℕ) → has z (idle_line Q) ≡ false → has z (order Q) ≡ true → links z ≡ m.next z =
        λ z n h. push_alike m.next q.idle.queues Q.idle 0 w.idle.shown j y jn il_once il_b il_free z (no_bucket nr_buckets Q.idle 0 j z jn n) (other z h) in
        record {
          realtime = part_frame _ _ _ w.realtime links (λ z h. alike z (no_right z (timeshare_line Q) _ (rt_not z h)) (in_rt Q z h));
          timeshare = share_frame _ _ _ _ _ _ w.timeshare links m.value (λ z h. alike z (distinct_other z (timeshare_line Q) _ later_once h) (in_ts Q z h)) (λ z h. refl);
          idle = part_push m.next q.idle Q.idle w.idle j y jn il_once il_b il_free il_room;
          once = put_once part.Idle;
          numbered = put_numbered part.Idle;
          load_is = put_load part.Idle;
          timeshare_load_is = w.timeshare_load_is;
          movable_is = put_movable part.Idle;
          advertised_is = says;
          last_tick_is = w.last_tick_is;
        }

    put_timeshare : QueueRep limit (record { next = link_after m.next (rq_insert_timeshare q a).behind y; pinned = m.pinned; value = at m.value y v }) (rq_insert_timeshare q a).queue (read part.Timeshare)
    unfolding rq_insert_timeshare ts_insert with_timeshare counted join_in bucket_for as_arrival realtime_line timeshare_line idle_line timeshare_load
    put_timeshare =
        let j : ℕ = timeshare_bucket Q v a.current in
        let jn : j < nr_buckets = timeshare_bucket_in Q v a.current (well_shape w) in
        let links : ℕ → ℕ = link_after m.next (push_back q.timeshare.queues j y).behind y in
        let value : ℕ → ℕ = at m.value y v in
        let alike : (z : ℕ) → has z (timeshare_line Q) ≡ false → has z (order Q) ≡ true → links z ≡ m.next z =
        λ z n h. push_alike m.next q.timeshare.queues Q.timeshare Q.take_idx w.timeshare.shown j y jn ts_once ts_b ts_free z (no_bucket nr_buckets Q.timeshare Q.take_idx j z jn n) (other z h) in
        let known : TimeshareRep m.next value q.timeshare Q.timeshare Q.insert_idx Q.take_idx =
        share_frame _ _ _ _ _ _ w.timeshare m.next value (λ z h. refl) (λ z h. unfold at in rw (other z (in_ts Q z h))) in
        let new = share_push m.next value q.timeshare Q.timeshare Q.insert_idx Q.take_idx known j y v jn vn (unfold at in rw (eq-eqb y y refl)) ts_once ts_b ts_free ts_room in
        rw (share_same a.current) (record {
          realtime = part_frame _ _ _ w.realtime links (λ z h. alike z (no_left z (timeshare_line Q) _ (rt_not z h)) (in_rt Q z h));
          timeshare = new;
          idle = part_frame _ _ _ w.idle links (λ z h. alike z (distinct_apart z (timeshare_line Q) _ later_once h) (in_il Q z h));
          once = put_once part.Timeshare;
          numbered = put_numbered part.Timeshare;
          load_is = put_load part.Timeshare;
          timeshare_load_is = ap (λ (n : ℕ). sum n 1) (w.timeshare_load_is ∙ sym w.timeshare.counted) ∙ new.counted;
          movable_is = put_movable part.Timeshare;
          advertised_is = says;
          last_tick_is = w.last_tick_is;
        })

    -- links of who waits elsewhere stay
    links_stay : (p : Part) (z : ℕ) → has z (order Q) ≡ false → eqb z y ≡ false → link_after m.next (rq_insert_into p q a).behind y z ≡ m.next z
    unfolding rq_insert_into rq_insert_realtime rq_insert_timeshare rq_insert_idle pq_insert ts_insert order realtime_line timeshare_line idle_line
    links_stay part.Realtime z n e =
        let j : ℕ = class_bucket a.priority.class v in
        let jn : j < nr_buckets = class_bucket_in a.priority.class v vn in
        push_alike m.next q.realtime.queues Q.realtime 0 w.realtime.shown j y jn rt_once rt_b rt_free z
        (no_bucket nr_buckets Q.realtime 0 j z jn (no_left z (realtime_line Q) _ n)) e
    links_stay part.Timeshare z n e =
        let j : ℕ = timeshare_bucket Q v a.current in
        let jn : j < nr_buckets = timeshare_bucket_in Q v a.current (well_shape w) in
        rw (share_same a.current) (push_alike m.next q.timeshare.queues Q.timeshare Q.take_idx w.timeshare.shown j y jn ts_once ts_b ts_free z
        (no_bucket nr_buckets Q.timeshare Q.take_idx j z jn (no_left z (timeshare_line Q) _ (no_right z (realtime_line Q) _ n))) e)
    links_stay part.Idle z n e =
        let j : ℕ = class_bucket a.priority.class v in
        let jn : j < nr_buckets = class_bucket_in a.priority.class v vn in
        push_alike m.next q.idle.queues Q.idle 0 w.idle.shown j y jn il_once il_b il_free z
        (no_bucket nr_buckets Q.idle 0 j z jn (no_right z (timeshare_line Q) _ (no_right z (realtime_line Q) _ n))) e

    part_behind : (p : Part) → Under limit (rq_insert_into p q a).behind
    unfolding rq_insert_into rq_insert_realtime rq_insert_timeshare rq_insert_idle pq_insert ts_insert order realtime_line timeshare_line idle_line
    part_behind part.Realtime =
        push_in m.next q.realtime.queues Q.realtime 0 w.realtime.shown (class_bucket a.priority.class v) y
        (class_bucket_in a.priority.class v vn) rt_once rt_b rt_free limit (below_left limit (realtime_line Q) _ w.numbered)
    part_behind part.Timeshare =
        rw (share_same a.current) (push_in m.next q.timeshare.queues Q.timeshare Q.take_idx w.timeshare.shown (timeshare_bucket Q v a.current) y
        (timeshare_bucket_in Q v a.current (well_shape w)) ts_once ts_b ts_free limit (below_left limit (timeshare_line Q) _ (below_right limit (realtime_line Q) _ w.numbered)))
    part_behind part.Idle =
        push_in m.next q.idle.queues Q.idle 0 w.idle.shown (class_bucket a.priority.class v) y
        (class_bucket_in a.priority.class v vn) il_once il_b il_free limit (below_right limit (timeshare_line Q) _ (below_right limit (realtime_line Q) _ w.numbered))

    -- WHOSE LINK IS TO BE SET is a thread of the queue, so its record is there
    pub put_behind : Under limit (rq_insert q a).behind
    unfolding rq_insert
    put_behind = part_behind (part_of a.priority.class a.due)

    values_stay : (p : Part) (z : ℕ) → eqb z y ≡ false → value_after p m.value y v z ≡ m.value z
    unfolding value_after at
    values_stay part.Realtime z e = refl
    values_stay part.Timeshare z e = rw e
    values_stay part.Idle z e = refl

    -- OTHERS' MARKS STAY
    pub put_next_stays : (z : ℕ) → has z (order Q) ≡ false → eqb z y ≡ false → (marks_after m (rq_insert q a) a).next z ≡ m.next z
    unfolding marks_after rq_insert
    put_next_stays z n e = links_stay (part_of a.priority.class a.due) z n e

    pub put_value_stays : (z : ℕ) → eqb z y ≡ false → (marks_after m (rq_insert q a) a).value z ≡ m.value z
    unfolding marks_after
    put_value_stays z e = values_stay (rq_insert q a).part z e

    pub put_has : (z : ℕ) → has z (order (put_reading R a).queue) ≡ (eqb y z || has z (order Q))
    unfolding put_reading insert as_arrival
    put_has z = comes_has (comes (part_for (as_arrival a))) z

    put_in : (p : Part) → QueueRep limit (marks_after m (rq_insert_into p q a) a) (rq_insert_into p q a).queue (read p)
    unfolding rq_insert_into value_after marks_after rq_insert_realtime rq_insert_timeshare rq_insert_idle
    put_in part.Realtime = put_realtime
    put_in part.Timeshare = put_timeshare
    put_in part.Idle = put_idle

    -- A PUT
    pub put_follows : QueueRep limit (marks_after m (rq_insert q a) a) (rq_insert q a).queue (put_reading R a)
    unfolding rq_insert put_reading insert part_for as_arrival
    put_follows = put_in (part_of a.priority.class a.due)

  -- ---- the reading is what is computed

  part_lists : (l : Lists) (bs : Buckets) (s : ℕ) → ListsRep m.next l bs → Distinct (line bs s) → Below limit (line bs s) → map (walk m.next limit) l.heads ≡ bs
  part_lists l bs s k d b = map_is (walk m.next limit) l.heads bs (k.heads_full ∙ sym k.full)
      (λ i h. let j : i < nr_buckets = rw (← k.full) h in
      walk_chain m.next limit _ (get_or bs i []) (k.linked i j).runs (below_bucket nr_buckets bs NONE s i j (below_more limit NONE _ small b))
      (distinct_length limit (get_or bs i []) (distinct_bucket nr_buckets bs s i j d) (below_bucket nr_buckets bs limit s i j b)))

  queue_same : queue_read limit m q ≡ Q
  unfolding queue_read order realtime_line timeshare_line idle_line
  queue_same =
      let d = w.once in
      let b = w.numbered in
      let r = part_lists _ _ 0 w.realtime.shown (distinct_left (realtime_line Q) _ d) (below_left limit (realtime_line Q) _ b) in
      let d' = distinct_right (realtime_line Q) _ d in
      let b' = below_right limit (realtime_line Q) _ b in
      let t = part_lists _ _ Q.take_idx w.timeshare.shown (distinct_left (timeshare_line Q) _ d') (below_left limit (timeshare_line Q) _ b') in
      let l = part_lists _ _ 0 w.idle.shown (distinct_right (timeshare_line Q) _ d') (below_right limit (timeshare_line Q) _ b') in
      λ i. record { realtime = r i; timeshare = t i; insert_idx = w.timeshare.insert_is i; take_idx = w.timeshare.take_is i; idle = l i }

  -- WHAT IS WELL FORMED READS AS R
  pub reading_is : reading limit m q ≡ R
  unfolding reading
  reading_is = λ i. record { queue = queue_same i; advertised = w.advertised_is i; last_tick = w.last_tick_is i }

  -- NOTHING WRAPS: the deadline distance is the rules' product
  pub deadline_exact : (shortest : ℕ) (c : PriorityClass) → shortest < 4294967296 → limit < 4294967296
      → deadline_distance shortest c q.timeshare_load q.load % 2 ^ 64 ≡ deadline_distance shortest c (timeshare_load Q) (load Q)
  unfolding deadline_distance load
  deadline_exact shortest c h l =
      rw (w.load_is, w.timeshare_load_is)
      (mod-eq_of_lt (half_product (timeslice shortest c (timeshare_load Q)) (length (order Q)) (omega (arith, slice_most 4294967295 shortest c (timeshare_load Q) (omega arith) (omega arith))) (omega (arith, distinct_length limit (order Q) w.once w.numbered))))

  -- nobody waits exactly as the counts say
  pub empty_is : rq_empty q ≡ empty (order Q)
  unfolding rq_empty order realtime_line timeshare_line idle_line
  empty_is = rw (part_empty _ _ _ w.realtime, share_empty _ _ _ _ _ _ w.timeshare, part_empty _ _ _ w.idle) (sym (empty_both (line Q.realtime 0) _ ∙ ap (λ (b : Bool). empty (line Q.realtime 0) && b) (empty_both (line Q.timeshare Q.take_idx) (line Q.idle 0))))

-- ---- a newly made queue

pub new_well : (limit : ℕ) (m : Marks) → QueueRep limit m no_run_queue new_reading
unfolding new_reading no_queue no_run_queue no_timeshare timeshare_line movable load timeshare_load idle_priority from_raw class_at cut nr_values
new_well limit m = record {
  realtime = no_part m.next;
  timeshare = no_share m.next m.value;
  idle = no_part m.next;
  once = rw start_order (unfold Distinct in tt);
  numbered = rw start_order (unfold Below in tt);
  load_is = rw start_order;
  timeshare_load_is = (no_share m.next m.value).counted;
  movable_is = rw start_order;
  advertised_is = refl;
  last_tick_is = refl;
}
