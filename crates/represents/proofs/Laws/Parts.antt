-- The parts of a run queue, with their counts: what a put, a take and a look do to them.
use Prim.Native.Nat.{ℕ, zero, suc, ◌+◌, ◌*◌, ◌/◌, ◌%◌, ◌≤◌, ◌<◌}
use Rattle.std.specs.Prelude.{◌≡◌, Bool, cond, set, replicate, ltb, None}
use Rattle.std.proofs.Math.Path.{refl, ap}
use Rattle.std.proofs.Common.{sym, ◌∙◌, get_or-set_other, zero-add, mod-eq_of_lt, mul-le-mul_right, add-one, arith}
use Rattle.std.proofs.Math.Bool.{true, false}
use Rattle.std.proofs.lemmas.Bool.{false≢true}
use mathlib.Core.List.{List, [], ◌∷◌}
use Rattle.std.proofs.Math.ListN.{length, get_or, length-set, get_or-replicate}
use Rattle.std.proofs.Math.Seq.{get_or-set_same}
use Rattle.std.proofs.Math.Dec.{eqb}
use borrow.Author.Tests.{eqb-true, eqb-false, eq-eqb, ne_eqb, lt-ltb, le-ltb, ltb-true, ltb-false}
use Rattle.std.proofs.Math.Nat.{mod-lt}
use Rattle.rules.specs.Line.{has, count, Distinct, Below}
use Rattle.rules.proofs.Laws.Line.{both, Comes, comes_length, comes_has}
use Rattle.rules.specs.Buckets.{Buckets, bucket, around, nothing, found, scan, join, pop}
use Rattle.rules.proofs.Laws.Buckets.{Hit, scan_found, around_join, around_pop, bucket_pop}
use Rattle.rules.specs.Buckets.{Found as Foundₗ}
use Rattle.rules.specs.Priority.{nr_values}
use Rattle.rules.specs.Queue.{nr_buckets, width, empty, next_take_idx, highest_bucket, highest_value}
use Rattle.rules.proofs.Laws.Effect.{some_bucket, empty_true, hit_in, next_take_idx_in, around_next_take_idx}
use Rattle.rules.proofs.Laws.Held.{has_head}
use Rattle.thread.specs.Thread.{NONE}
use Rattle.queue.specs.declared.lists.Lists.{Lists}
use Rattle.queue.specs.declared.lists.Put.{Put}
use Rattle.queue.specs.declared.pq.PriorityQueue.{PriorityQueue}
use Rattle.queue.specs.declared.timeshare.TimeshareQueue.{TimeshareQueue}
use Rattle.queue.specs.Num.{sum}
use Rattle.queue.specs.Lists.{push_back, first_from, highest_held}
use Rattle.queue.specs.PriorityQueue.{no_priority, pq_empty, pq_highest, pq_front, pq_taken}
use Rattle.queue.specs.Timeshare.{no_timeshare, ts_empty, top_counts_def, ts_highest, ts_front, ts_next, slot, less_one_def, ts_taken, ts_step, ts_advance}
use Rattle.represents.proofs.Laws.Linked.{link_after, Alike, has_later, linked_none, linked_pop}
use Rattle.represents.specs.Linked.{ListsRep}
use Rattle.represents.proofs.Laws.Lists.{as_found, no_lists, shown_frame, shown_push, shown_pop, scan_same, top_same, below_bucket, has_bucket}
use Rattle.represents.specs.Queue.{tally}
use Rattle.represents.proofs.Laws.Counts.{up_one, down_one, less_one, tally_comes, tally_same, tally_most}
use Rattle.represents.specs.Queue.{line, PartRep, TimeshareRep}

value_bound : (v : ℕ) → v < nr_values → v / width < nr_buckets
unfolding nr_values width nr_buckets
value_bound v h = omega arith

pub slot_is : (v : ℕ) → v < nr_values → slot v ≡ v / width
unfolding slot
slot_is v h = mod-eq_of_lt (value_bound v h)

below_tail : (n x : ℕ) (l : List ℕ) → Below n (x ∷ l) → Below n l
unfolding Below
below_tail n x l b = b.1

tally_first : (value : ℕ → ℕ) (k x : ℕ) (l : List ℕ) → tally value k (x ∷ l) ≡ count (eqb (value x / width) k) + tally value k l
unfolding tally
tally_first value k x l = refl

-- ---- the highest sixteen of which one waits

-- the greater of two numbers, as highest_value takes it
abbrev greater : ℕ → ℕ → ℕ
greater a b = cond (ltb a b) b a

greater_right : (a b : ℕ) → a ≤ b → greater a b ≡ b
greater_right a b h = both (ltb a b) (λ e. rw e) (λ e. rw e (omega (arith, ltb-false a b e)))

greater_left : (a b : ℕ) → b ≤ a → greater a b ≡ a
greater_left a b h = rw (le-ltb a b h)

-- the least value of the highest of the first k sixteens of which one waits
unfoldable top_value : (ℕ → ℕ) → List ℕ → ℕ → ℕ
top_value value l zero = 0
top_value value l (suc k) = cond (eqb (tally value k l) 0) (top_value value l k) (k * width)

top_most : (value : ℕ → ℕ) (l : List ℕ) (k : ℕ) → top_value value l (suc k) ≤ k * width
unfolding top_value
top_most value l zero = both (eqb (tally value 0 l) 0) (λ e. rw e (omega arith)) (λ e. rw e (omega arith))
top_most value l (suc k) = both (eqb (tally value (suc k) l) 0)
    (λ e. rw e (let m : top_value value l (suc k) ≤ k * width = top_most value l k in let n : k * width ≤ suc k * width = mul-le-mul_right width (omega arith) in omega arith))
    (λ e. rw e (omega arith))

value_none : (value : ℕ → ℕ) (k : ℕ) → top_value value [] k ≡ 0
unfolding top_value tally
value_none value zero = refl
value_none value (suc k) = value_none value k

next_test : (v k : ℕ) → ¬ (v ≡ k) → ltb v (suc k) ≡ ltb v k
next_test v k n = both (ltb v k) (λ e. rw e (lt-ltb v (suc k) (let h : v < k = ltb-true v k e in omega arith)))
    (λ e. rw e (le-ltb v (suc k) (let h : k ≤ v = ltb-false v k e in omega arith)))

-- one more in front
top_first : (value : ℕ → ℕ) (x : ℕ) (l : List ℕ) (k : ℕ)
    → top_value value (x ∷ l) k ≡ cond (ltb (value x / width) k) (greater (top_value value l k) (value x / width * width)) (top_value value l k)
unfolding top_value tally
top_first value x l zero = both (ltb (value x / width) 0) (λ e. absurd (omega (arith, ltb-true (value x / width) 0 e))) (λ e. rw e)
top_first value x l (suc k) =
    let v : ℕ = value x / width in
    both (eqb v k)
    (λ e.
    let s : value x / width ≡ k = eqb-true v k e in
    let m : top_value value l (suc k) ≤ k * width = top_most value l k in
    rw (e, ne_eqb (1 + tally value k l) 0 (λ z. omega arith), s, lt-ltb k (suc k) (omega arith)) (sym (greater_right _ _ m)))
    (λ e.
    let n : ¬ (value x / width ≡ k) = eqb-false v k e in
    rw (e, zero-add)
    (both (eqb (tally value k l) 0)
    (λ p. rw (p, top_first value x l k, next_test (value x / width) k n))
    (λ p. rw p
    (both (ltb (value x / width) (suc k))
    (λ q. rw q (sym (greater_left _ _ (mul-le-mul_right width (let r : value x / width < suc k = ltb-true _ _ q in omega arith)))))
    (λ q. rw q)))))

top_is_highest : (value : ℕ → ℕ) (l : List ℕ) → ((x : ℕ) → has x l ≡ true → value x < nr_values) → top_value value l nr_buckets ≡ highest_value value l
unfolding highest_value has
top_is_highest value [] h = value_none value nr_buckets
top_is_highest value (x ∷ l) h =
    rw (top_first value x l nr_buckets, lt-ltb (value x / width) nr_buckets (value_bound (value x) (h x (rw (eq-eqb x x refl)))))
    (rw (top_is_highest value l (λ z e. h z (has_later z x l e))))

-- ---- both kinds

-- a look at the first bucket that holds a thread
look : (f : ℕ → ℕ) (l : Lists) (bs : Buckets) (s c : ℕ) → ListsRep f l bs → s < nr_buckets → Below NONE (line bs s) → c ≡ length (line bs s)
    → cond (eqb c 0) None (first_from l s) ≡ as_found (scan nr_buckets bs s nr_buckets)
look f l bs s c w h b e =
    both (eqb c 0) (λ p. rw p (go (scan nr_buckets bs s nr_buckets) refl (eqb-true c 0 p)))
    (λ p. rw p (unfold first_from in rw (mod-eq_of_lt h) (scan_same f l bs s w b s nr_buckets)))
  where
    go : (o : Foundₗ) → scan nr_buckets bs s nr_buckets ≡ o → c ≡ 0 → None ≡ as_found o
    go nothing q z = unfold as_found in refl
    go (found j x) q z =
        let g = around_pop nr_buckets bs s j x w.full (scan_found nr_buckets bs s nr_buckets j x q) in
        let k : length (line bs s) ≡ suc (length (line (pop bs j) s)) = ap length g in
        absurd (omega arith)

top_none : (bs : Buckets) (k : ℕ) → k ≤ nr_buckets → ((i : ℕ) → i < nr_buckets → get_or bs i [] ≡ []) → highest_bucket bs k ≡ 0
unfolding highest_bucket bucket empty
top_none bs zero n h = refl
top_none bs (suc k) n h = rw (h (k % nr_buckets) (mod-lt k some_bucket)) (top_none bs k (omega arith) h)

none_in : (bs : Buckets) (s i : ℕ) → i < nr_buckets → line bs s ≡ [] → get_or bs i [] ≡ []
none_in bs s i h e = go (get_or bs i []) refl
  where
    go : (l : List ℕ) → get_or bs i [] ≡ l → get_or bs i [] ≡ []
    go [] q = q
    go (x ∷ l) q = absurd (false≢true (unfold has in rw e at (has_bucket nr_buckets bs s i x h (rw q (has_head x l)))))

-- ---- realtime and idle

pub no_part : (next : ℕ → ℕ) → PartRep next no_priority (replicate nr_buckets [])
unfolding no_priority nr_buckets around bucket
no_part next = record { shown = no_lists next; counted = refl }

none_counted : (l : List ℕ) → eqb (length l) 0 ≡ empty l
unfolding empty
none_counted [] = refl
none_counted (x ∷ l) = ne_eqb (suc (length l)) 0 (λ e. omega arith)

module _ (f : ℕ → ℕ) (p : PriorityQueue) (bs : Buckets) (w : PartRep f p bs) where
  pub part_frame : (g : ℕ → ℕ) → Alike g f (line bs 0) → PartRep g p bs
  part_frame g a = record { shown = shown_frame f p.queues bs 0 w.shown g a; counted = w.counted }

  pub part_front : Below NONE (line bs 0) → pq_front p ≡ as_found (scan nr_buckets bs 0 nr_buckets)
  unfolding pq_front
  part_front b = look f p.queues bs 0 p.count w.shown some_bucket b w.counted

  pub part_empty : pq_empty p ≡ empty (line bs 0)
  unfolding pq_empty
  part_empty = rw w.counted (none_counted (line bs 0))

  pub part_highest : Below NONE (line bs 0) → pq_highest p ≡ highest_bucket bs nr_buckets
  unfolding pq_highest highest_held pq_empty
  part_highest b =
      rw (part_empty, top_same f p.queues bs 0 w.shown b nr_buckets (omega arith))
      (both (empty (line bs 0)) (λ e. rw e (sym (top_none bs nr_buckets (omega arith) (λ i h. none_in bs 0 i h (empty_true _ e))))) (λ e. rw e))

  pub part_push : (j y : ℕ) → j < nr_buckets → Distinct (line bs 0) → Below NONE (line bs 0) → has y (line bs 0) ≡ false → length (line bs 0) < NONE
      → (let u : Put Lists = push_back p.queues j y in
      PartRep (link_after f u.behind y) (record { count = sum p.count 1; queues = u.queue }) (join bs j y))
  part_push j y h d b n c = record {
    shown = shown_push f p.queues bs 0 w.shown j y h d b n;
    counted = rw (w.counted, up_one (length (line bs 0)) c) (sym (comes_length (around_join nr_buckets bs 0 j y w.shown.full h)));
  }

  pub part_taken : (j x : ℕ) → Hit nr_buckets bs 0 nr_buckets j x → length (line bs 0) ≤ NONE → PartRep f (pq_taken p j NONE (f x)) (pop bs j)
  unfolding pq_taken
  part_taken j x hit room =
      let e : get_or bs j [] ≡ x ∷ hit.rest = rw hit.place (unfold bucket in hit.holds) in
      let g = around_pop nr_buckets bs 0 j x w.shown.full hit in
      record {
        shown = shown_pop f p.queues bs 0 w.shown j x hit.rest (hit_in hit) e;
        counted = rw (w.counted, g) (down_one (length (line (pop bs j) 0)) (let n : length (line bs 0) ≡ suc (length (line (pop bs j) 0)) = ap length g in omega arith));
      }

-- ---- timeshare

pub no_share : (next value : ℕ → ℕ) → TimeshareRep next value no_timeshare (replicate nr_buckets []) 0 0
unfolding no_timeshare nr_buckets around bucket tally
no_share next value = record {
  shown = no_lists next;
  counted = refl;
  insert_is = refl;
  take_is = refl;
  insert_in = omega arith;
  take_in = omega arith;
  values_in = λ x h. absurd (false≢true (unfold has in h));
  priorities_full = refl;
  priorities_are = λ k h. get_or-replicate 8 k 0 0 h;
}

module _ (f value : ℕ → ℕ) (t : TimeshareQueue) (bs : Buckets) (fl em : ℕ) (w : TimeshareRep f value t bs fl em) where
  pub share_frame : (g value' : ℕ → ℕ) → Alike g f (line bs em) → Alike value' value (line bs em) → TimeshareRep g value' t bs fl em
  share_frame g value' a v = record {
    shown = shown_frame f t.queues bs em w.shown g a;
    counted = w.counted;
    insert_is = w.insert_is;
    take_is = w.take_is;
    insert_in = w.insert_in;
    take_in = w.take_in;
    values_in = λ x h. rw (v x h) (w.values_in x h);
    priorities_full = w.priorities_full;
    priorities_are = λ k h. w.priorities_are k h ∙ sym (tally_same value value' k (line bs em) v);
  }

  pub share_front : Below NONE (line bs em) → ts_front t ≡ as_found (scan nr_buckets bs em nr_buckets)
  unfolding ts_front
  share_front b = rw w.take_is (look f t.queues bs em t.count w.shown w.take_in b w.counted)

  pub share_empty : ts_empty t ≡ empty (line bs em)
  unfolding ts_empty
  share_empty = rw w.counted (none_counted (line bs em))

  top_counts : (k : ℕ) → k ≤ nr_buckets → top_counts_def t.priorities k ≡ top_value value (line bs em) k
  unfolding top_counts_def top_value
  top_counts zero h = refl
  top_counts (suc k) h = rw (w.priorities_are k (omega arith), top_counts k (omega arith))

  pub share_highest : ts_highest t ≡ highest_value value (line bs em)
  unfolding ts_highest ts_empty
  share_highest =
      rw (share_empty, top_counts nr_buckets (omega arith), ← top_is_highest value (line bs em) w.values_in)
      (both (empty (line bs em)) (λ e. rw (e, empty_true (line bs em) e) (sym (value_none value nr_buckets))) (λ e. rw e))

  pub share_push : (j y v : ℕ) → j < nr_buckets → v < nr_values → value y ≡ v
      → Distinct (line bs em) → Below NONE (line bs em) → has y (line bs em) ≡ false → length (line bs em) < NONE
      → (let u : Put Lists = push_back t.queues j y in
      TimeshareRep (link_after f u.behind y) value (record {
        count = sum t.count 1;
        priorities = set t.priorities (slot v) (sum (get_or t.priorities (slot v) 0) 1);
        insert_idx = t.insert_idx;
        take_idx = t.take_idx;
        queues = u.queue;
      }) (join bs j y) fl em)
  share_push j y v h vn e d b n c =
      let comes : Comes y (line bs em) (line (join bs j y) em) = around_join nr_buckets bs em j y w.shown.full h in
      record {
        shown = shown_push f t.queues bs em w.shown j y h d b n;
        counted = rw (w.counted, up_one (length (line bs em)) c) (sym (comes_length comes));
        insert_is = w.insert_is;
        take_is = w.take_is;
        insert_in = w.insert_in;
        take_in = w.take_in;
        values_in = λ x q. both (eqb y x) (λ r. rw (← eqb-true y x r, e) vn) (λ r. w.values_in x (rw (comes_has comes x, r) at q));
        priorities_full = length-set t.priorities _ _ ∙ w.priorities_full;
        priorities_are = λ k q. rw (slot_is v vn, tally_comes value k comes, e)
            (both (eqb (v / width) k)
            (λ r. rw (r, eqb-true (v / width) k r, get_or-set_same t.priorities k (sum (get_or t.priorities k 0) 1) 0 (rw w.priorities_full q), w.priorities_are k q)
            (up_one (tally value k (line bs em)) (omega (arith, tally_most value k (line bs em))) ∙ omega arith))
            (λ r. rw (r, get_or-set_other t.priorities (v / width) k (sum (get_or t.priorities (v / width) 0) 1) 0 (λ z. eqb-false (v / width) k r (sym z)), w.priorities_are k q) (omega arith)));
      }

  next_same : (j x : ℕ) (hit : Hit nr_buckets bs em nr_buckets j x) → eqb (f x) NONE ≡ empty hit.rest → ts_next t j NONE (f x) ≡ next_take_idx fl (pop bs j) j
  unfolding ts_next next_take_idx
  next_same j x hit e =
      rw (e, w.insert_is, bucket_pop nr_buckets bs em j x w.shown.full hit, add-one)
      (both (empty hit.rest) (λ p. rw p (both (eqb j fl) (λ q. rw q) (λ q. rw q))) (λ p. rw p))

  pub share_taken : (j x : ℕ) → Hit nr_buckets bs em nr_buckets j x → Below NONE (line bs em)
      → length (line bs em) ≤ NONE → TimeshareRep f value (ts_taken t j NONE (f x) (value x)) (pop bs j) fl (next_take_idx fl (pop bs j) j)
  unfolding ts_taken
  share_taken j x hit b room =
      let jn : j < nr_buckets = hit_in hit in
      let e : get_or bs j [] ≡ x ∷ hit.rest = rw hit.place (unfold bucket in hit.holds) in
      let g : line bs em ≡ x ∷ line (pop bs j) em = around_pop nr_buckets bs em j x w.shown.full hit in
      let k : line (pop bs j) (next_take_idx fl (pop bs j) j) ≡ line (pop bs j) em = around_next_take_idx fl bs em j x w.shown.full hit in
      let xv : value x < nr_values = w.values_in x (rw g (has_head x (line (pop bs j) em))) in
      record {
        shown = shown_pop f t.queues bs em w.shown j x hit.rest jn e;
        counted = rw (k, w.counted, g) (down_one (length (line (pop bs j) em)) (let n : length (line bs em) ≡ suc (length (line (pop bs j) em)) = ap length g in omega arith));
        insert_is = w.insert_is;
        take_is = next_same j x hit (linked_none f (f x) _ hit.rest (linked_pop f _ _ x hit.rest (rw e at (w.shown.linked j jn))) (below_tail NONE x hit.rest (rw e at (below_bucket nr_buckets bs NONE em j jn b))));
        insert_in = w.insert_in;
        take_in = next_take_idx_in fl (pop bs j) j jn;
        values_in = λ z q. w.values_in z (rw g (has_later z x (line (pop bs j) em) (rw k at q)));
        priorities_full = length-set t.priorities _ _ ∙ w.priorities_full;
        priorities_are = λ i q. rw (slot_is (value x) xv, k)
            (let s : get_or t.priorities i 0 ≡ count (eqb (value x / width) i) + tally value i (line (pop bs j) em) = (rw g at (w.priorities_are i q)) ∙ tally_first value i x (line (pop bs j) em) in
            both (eqb (value x / width) i)
            (λ r. rw (eqb-true (value x / width) i r, get_or-set_same t.priorities i (less_one_def (get_or t.priorities i 0)) 0 (rw w.priorities_full q), s, r)
            (less_one (tally value i (line (pop bs j) em))))
            (λ r. rw (get_or-set_other t.priorities (value x / width) i (less_one_def (get_or t.priorities (value x / width) 0)) 0 (λ z. eqb-false (value x / width) i r (sym z)), s, r) (omega arith)));
      }

  -- the insert index moves on
  pub share_step : TimeshareRep f value (ts_step t 1) bs (suc fl % nr_buckets) em
  unfolding ts_step
  share_step = record {
    shown = w.shown;
    counted = w.counted;
    insert_is = rw (w.insert_is, add-one);
    take_is = w.take_is;
    insert_in = mod-lt (suc fl) some_bucket;
    take_in = w.take_in;
    values_in = w.values_in;
    priorities_full = w.priorities_full;
    priorities_are = w.priorities_are;
  }

  pub share_advance : (e : Bool) → empty (line bs em) ≡ e → ts_advance t 1 true ≡ cond e t (ts_step t 1)
  unfolding ts_advance ts_empty
  share_advance true e = rw (share_empty ∙ e)
  share_advance false e = rw (share_empty ∙ e) (both (eqb t.insert_idx t.take_idx) (λ p. rw p) (λ p. rw p))
