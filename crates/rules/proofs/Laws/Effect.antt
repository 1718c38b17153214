-- What a put, a leaving and `advance_insert_index` do to a queue's buckets and to its order.
use Rattle.std.specs.Prelude.{ℕ, zero, suc, ◌+◌, ◌%◌, ◌<◌, ◌≤◌, ◌≡◌, refl, Bool, true, false, not, ◌&&◌, List, [], ◌∷◌, ◌++◌, length, eqb, ltb}
use Rattle.std.proofs.Common.{sym, ap, ◌∙◌, ltb-true}
use Rattle.std.proofs.lemmas.Bool.{false≢true}
use Rattle.std.proofs.lemmas.List.{get_or-replicate}
use Rattle.std.proofs.Math.Nat.{mod-lt}
use native.Mathlib.Omega.{arith}
use Rattle.std.specs.Cmp.{first_so}
use Rattle.rules.specs.declared.PriorityClass.{PriorityClass}
use Rattle.rules.specs.declared.PriorityClass.TheVariants as class
use Rattle.rules.specs.declared.Part.{Part}
use Rattle.rules.specs.declared.Part.TheVariants as part
use Rattle.rules.proofs.Laws.Line.{both, Comes, comes_behind, comes_before}
use Rattle.rules.specs.Buckets.{Buckets, bucket, around, Found, nothing, found, scan, pop}
use Rattle.rules.proofs.Laws.Buckets.{Hit, scan_nothing, scan_found}
use Rattle.rules.proofs.Laws.Buckets.{around_join, around_pop, around_pop_there, around_pop_next, length_join, length_pop, bucket_mod}
use Rattle.rules.specs.Priority.{nr_values, cut}
use Rattle.rules.specs.Queue.{Queue, nr_buckets, width, no_queue, realtime_line, timeshare_line, idle_line, order, empty}
use Rattle.rules.specs.Queue.{Arrival, realtime_bucket, class_bucket, indexes_differ, step_back, offset, value_bucket, timeshare_bucket, bucket_for, join_in}
use Rattle.rules.specs.Queue.{Next, nobody, next_in, first_in, next_idle, next_timeshare, next, next_take_idx, leave, advance_insert_index}
use Rattle.rules.specs.Ahead.{first_bucket}

-- what every event keeps
pub record Shape (q : Queue) : Type 0 where
  pub realtime_full : length q.realtime ≡ nr_buckets
  pub timeshare_full : length q.timeshare ≡ nr_buckets
  pub idle_full : length q.idle ≡ nr_buckets
  pub take_idx_in : q.take_idx < nr_buckets

pub some_bucket : 0 < nr_buckets
unfolding nr_buckets
some_bucket = omega arith

pub start_shape : Shape no_queue
unfolding no_queue nr_buckets
start_shape = record { realtime_full = refl; timeshare_full = refl; idle_full = refl; take_idx_in = omega arith }

pub start_order : order no_queue ≡ []
unfolding no_queue nr_buckets order realtime_line timeshare_line idle_line around bucket
start_order = refl

-- ---- the parts alike

unfoldable pub buckets_of : Part → Queue → Buckets
buckets_of part.Realtime q = q.realtime
buckets_of part.Timeshare q = q.timeshare
buckets_of part.Idle q = q.idle

abbrev pub first_of : Part → Queue → ℕ
first_of p q = first_bucket p q.take_idx

abbrev pub line_of : Part → Queue → List ℕ
line_of p q = around nr_buckets (buckets_of p q) (first_of p q) nr_buckets

pub full : (p : Part) (q : Queue) → Shape q → length (buckets_of p q) ≡ nr_buckets
unfolding buckets_of
full part.Realtime q s = s.realtime_full
full part.Timeshare q s = s.timeshare_full
full part.Idle q s = s.idle_full

pub first_of_in : (p : Part) (q : Queue) → Shape q → first_of p q < nr_buckets
unfolding first_bucket
first_of_in part.Realtime q s = some_bucket
first_of_in part.Timeshare q s = s.take_idx_in
first_of_in part.Idle q s = some_bucket

pub start_bucket : (p : Part) (i : ℕ) → bucket nr_buckets (buckets_of p no_queue) i ≡ []
unfolding no_queue buckets_of bucket
start_bucket part.Realtime i = get_or-replicate nr_buckets (i % nr_buckets) [] [] (mod-lt i some_bucket)
start_bucket part.Timeshare i = get_or-replicate nr_buckets (i % nr_buckets) [] [] (mod-lt i some_bucket)
start_bucket part.Idle i = get_or-replicate nr_buckets (i % nr_buckets) [] [] (mod-lt i some_bucket)

-- ---- a put

pub cut_below : (v : ℕ) → cut v < nr_values
unfolding cut nr_values
cut_below v = both (ltb v 128) (λ p. rw p (ltb-true v 128 p)) (λ p. rw p (omega arith))

-- the two numbers of every value are numbers of buckets
pub realtime_bucket_in : (v : ℕ) → realtime_bucket v < nr_buckets
unfolding realtime_bucket nr_buckets nr_values width
realtime_bucket_in v = omega (arith, cut_below v)

pub offset_past : (v : ℕ) → nr_values ≤ v → offset v ≡ 0
unfolding offset nr_values width
offset_past zero h = absurd (omega arith)
offset_past (suc v) h = omega arith

pub class_bucket_in : (c : PriorityClass) (v : ℕ) → v < nr_values → class_bucket c v < nr_buckets
unfolding class_bucket
class_bucket_in class.User v h = unfold nr_buckets in omega arith
class_bucket_in class.Realtime v h = realtime_bucket_in v
class_bucket_in class.Background v h = realtime_bucket_in v
class_bucket_in class.Idle v h = realtime_bucket_in v

step_back_in : (j : ℕ) → j < nr_buckets → step_back j < nr_buckets
unfolding step_back
step_back_in zero h = omega (arith, some_bucket)
step_back_in (suc j) h = omega arith

pub timeshare_bucket_in : (q : Queue) (v : ℕ) (c : Bool) → Shape q → timeshare_bucket q v c < nr_buckets
unfolding timeshare_bucket
timeshare_bucket_in q v true s = s.take_idx_in
timeshare_bucket_in q v false s =
    let h : value_bucket q v < nr_buckets = unfold value_bucket in mod-lt (q.insert_idx + offset v) some_bucket in
    both (eqb (value_bucket q v) q.take_idx && indexes_differ q) (λ p. rw p (step_back_in (value_bucket q v) h)) (λ p. rw p h)

pub bucket_for_in : (p : Part) (q : Queue) (a : Arrival) → Shape q → a.value < nr_values → bucket_for p q a < nr_buckets
unfolding bucket_for
bucket_for_in part.Realtime q a s h = class_bucket_in a.class a.value h
bucket_for_in part.Timeshare q a s h = timeshare_bucket_in q a.value a.current s
bucket_for_in part.Idle q a s h = class_bucket_in a.class a.value h

-- a thread that is put in comes into the order, and the others keep theirs
pub join_comes : (p : Part) (q : Queue) (j x : ℕ) → Shape q → j < nr_buckets → Comes x (order q) (order (join_in p q j x))
unfolding join_in order realtime_line timeshare_line idle_line
join_comes part.Realtime q j x s h =
    comes_before (around_join nr_buckets q.realtime 0 j x s.realtime_full h) (timeshare_line q ++ idle_line q)
join_comes part.Timeshare q j x s h =
    comes_behind (comes_before (around_join nr_buckets q.timeshare q.take_idx j x s.timeshare_full h) (idle_line q)) (realtime_line q)
join_comes part.Idle q j x s h =
    comes_behind (comes_behind (around_join nr_buckets q.idle 0 j x s.idle_full h) (timeshare_line q)) (realtime_line q)

pub join_shape : (p : Part) (q : Queue) (j x : ℕ) → Shape q → Shape (join_in p q j x)
unfolding join_in
join_shape part.Realtime q j x s =
    record { realtime_full = length_join nr_buckets _ _ _ s.realtime_full; timeshare_full = s.timeshare_full; idle_full = s.idle_full; take_idx_in = s.take_idx_in }
join_shape part.Timeshare q j x s =
    record { realtime_full = s.realtime_full; timeshare_full = length_join nr_buckets _ _ _ s.timeshare_full; idle_full = s.idle_full; take_idx_in = s.take_idx_in }
join_shape part.Idle q j x s =
    record { realtime_full = s.realtime_full; timeshare_full = s.timeshare_full; idle_full = length_join nr_buckets _ _ _ s.idle_full; take_idx_in = s.take_idx_in }

-- ---- a leaving

pub empty_true : (l : List ℕ) → empty l ≡ true → l ≡ []
unfolding empty
empty_true [] e = refl
empty_true (x ∷ l) e = absurd (false≢true e)

pub next_take_idx_in : (f : ℕ) (ts : Buckets) (j : ℕ) → j < nr_buckets → next_take_idx f ts j < nr_buckets
unfolding next_take_idx
next_take_idx_in f ts j h = both (empty (bucket nr_buckets ts j) && not (eqb j f)) (λ p. rw p (mod-lt (suc j) some_bucket)) (λ p. rw p h)

-- where the emptying index moves, it passes nobody
pub around_next_take_idx : (f : ℕ) (bs : Buckets) (i j x : ℕ) → length bs ≡ nr_buckets → Hit nr_buckets bs i nr_buckets j x
    → around nr_buckets (pop bs j) (next_take_idx f (pop bs j) j) nr_buckets ≡ around nr_buckets (pop bs j) i nr_buckets
unfolding next_take_idx
around_next_take_idx f bs i j x l h =
    both (empty (bucket nr_buckets (pop bs j) j) && not (eqb j f))
    (λ p. rw p (around_pop_next nr_buckets bs i j x l h (empty_true _ (first_so _ _ p))))
    (λ p. rw p (around_pop_there nr_buckets bs i j x l h))

pub hit_in : {bs : Buckets} {i k j x : ℕ} → Hit nr_buckets bs i k j x → j < nr_buckets
hit_in {i = i} h = rw h.place (mod-lt (i + h.passed) some_bucket)

hit_holds : {bs : Buckets} {i k j x : ℕ} (h : Hit nr_buckets bs i k j x) → bucket nr_buckets bs j ≡ x ∷ h.rest
hit_holds {bs} {i} h = rw (h.place, bucket_mod) h.holds

-- Who is next: nobody, and nobody waits; or the head of the order, the oldest of its bucket, and its tail is left.
pub data NextIs (q : Queue) (n : Next) : Type 0 where
  next_nobody : n ≡ nobody → order q ≡ [] → NextIs q n
  next_head : (p : Part) (j x : ℕ) (rest : List ℕ) → n ≡ next_in p j x → j < nr_buckets → bucket nr_buckets (buckets_of p q) j ≡ x ∷ rest → order q ≡ x ∷ order (leave p q j)
      → Shape (leave p q j) → NextIs q n

next_idle_is : (q : Queue) → Shape q → realtime_line q ≡ [] → timeshare_line q ≡ [] → (f : Found) → scan nr_buckets q.idle 0 nr_buckets ≡ f → NextIs q (first_in part.Idle f nobody)
unfolding first_in leave order realtime_line timeshare_line idle_line buckets_of
next_idle_is q s r t nothing e = next_nobody refl (rw (r, t) (scan_nothing nr_buckets q.idle 0 nr_buckets e))
next_idle_is q s r t (found j x) e =
    let hit = scan_found nr_buckets q.idle 0 nr_buckets j x e in
    next_head part.Idle j x hit.rest refl (hit_in hit) (hit_holds hit)
    (rw (r, t) (around_pop nr_buckets q.idle 0 j x s.idle_full hit))
    (record { realtime_full = s.realtime_full; timeshare_full = s.timeshare_full; idle_full = length_pop nr_buckets _ _ s.idle_full; take_idx_in = s.take_idx_in })

-- the line of the timeshare part, when its head has left
timeshare_tail : (q : Queue) → Shape q → (j x : ℕ) → Hit nr_buckets q.timeshare q.take_idx nr_buckets j x → timeshare_line q ≡ x ∷ timeshare_line (leave part.Timeshare q j)
unfolding leave timeshare_line
timeshare_tail q s j x hit =
    around_pop nr_buckets q.timeshare q.take_idx j x s.timeshare_full hit
    ∙ ap (λ (l : List ℕ). x ∷ l) (sym (around_next_take_idx q.insert_idx q.timeshare q.take_idx j x s.timeshare_full hit))

timeshare_head : (q : Queue) → Shape q → realtime_line q ≡ [] → (j x : ℕ) → Hit nr_buckets q.timeshare q.take_idx nr_buckets j x
    → order q ≡ x ∷ order (leave part.Timeshare q j)
unfolding order leave realtime_line idle_line
timeshare_head q s r j x hit = rw (r, timeshare_tail q s j x hit)

next_timeshare_is : (q : Queue) → Shape q → realtime_line q ≡ [] → (f : Found) → scan nr_buckets q.timeshare q.take_idx nr_buckets ≡ f
    → NextIs q (first_in part.Timeshare f (next_idle q))
unfolding first_in next_idle leave order realtime_line timeshare_line idle_line buckets_of
next_timeshare_is q s r nothing e =
    next_idle_is q s r (scan_nothing nr_buckets q.timeshare q.take_idx nr_buckets e) (scan nr_buckets q.idle 0 nr_buckets) refl
next_timeshare_is q s r (found j x) e =
    let hit = scan_found nr_buckets q.timeshare q.take_idx nr_buckets j x e in
    next_head part.Timeshare j x hit.rest refl (hit_in hit) (hit_holds hit)
    (timeshare_head q s r j x hit)
    (record {
      realtime_full = s.realtime_full;
      timeshare_full = length_pop nr_buckets _ _ s.timeshare_full;
      idle_full = s.idle_full;
      take_idx_in = next_take_idx_in _ _ _ (hit_in hit);
    })

next_realtime_is : (q : Queue) → Shape q → (f : Found) → scan nr_buckets q.realtime 0 nr_buckets ≡ f → NextIs q (first_in part.Realtime f (next_timeshare q))
unfolding first_in next_timeshare leave order realtime_line timeshare_line idle_line buckets_of
next_realtime_is q s nothing e =
    next_timeshare_is q s (scan_nothing nr_buckets q.realtime 0 nr_buckets e) (scan nr_buckets q.timeshare q.take_idx nr_buckets) refl
next_realtime_is q s (found j x) e =
    let hit = scan_found nr_buckets q.realtime 0 nr_buckets j x e in
    next_head part.Realtime j x hit.rest refl (hit_in hit) (hit_holds hit)
    (rw (around_pop nr_buckets q.realtime 0 j x s.realtime_full hit))
    (record { realtime_full = length_pop nr_buckets _ _ s.realtime_full; timeshare_full = s.timeshare_full; idle_full = s.idle_full; take_idx_in = s.take_idx_in })

pub next_is : (q : Queue) → Shape q → NextIs q (next q)
unfolding next
next_is q s = next_realtime_is q s (scan nr_buckets q.realtime 0 nr_buckets) refl

-- ---- `advance_insert_index`

pub advance_order : (q : Queue) → order (advance_insert_index q) ≡ order q
unfolding advance_insert_index order realtime_line timeshare_line idle_line
advance_order q = both (empty (timeshare_line q)) (λ p. rw p) (λ p. rw p)

pub advance_buckets : (p : Part) (q : Queue) → buckets_of p (advance_insert_index q) ≡ buckets_of p q
unfolding buckets_of advance_insert_index
advance_buckets part.Realtime q = both (empty (timeshare_line q)) (λ p. rw p) (λ p. rw p)
advance_buckets part.Timeshare q = both (empty (timeshare_line q)) (λ p. rw p) (λ p. rw p)
advance_buckets part.Idle q = both (empty (timeshare_line q)) (λ p. rw p) (λ p. rw p)

pub advance_shape : (q : Queue) → Shape q → Shape (advance_insert_index q)
unfolding advance_insert_index
advance_shape q s =
    both (empty (timeshare_line q)) (λ p. rw p s)
    (λ p. rw p (record { realtime_full = s.realtime_full; timeshare_full = s.timeshare_full; idle_full = s.idle_full; take_idx_in = s.take_idx_in }))
