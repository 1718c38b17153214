-- The queue's order is that of being ahead.
use Rattle.std.specs.Prelude.{ℕ, ◌≤◌, ◌<◌, ◌≡◌, ◌↔◌, ◌⊎◌, Bool, true, false, List, [], ◌∷◌, eqb, ltb}
use Rattle.std.proofs.Common.{sym, inl, inr, eqb-true, eq-eqb, ltb-true, ltb-false, lt-ltb, le-ltb, arith}
use Rattle.std.proofs.lemmas.Bool.{false≢true}
use Rattle.rules.specs.Line.{ahead}
use Rattle.rules.proofs.Laws.Line.{both}
use Rattle.rules.specs.Queue.{Queue, order}
use Rattle.rules.specs.Puts.{PutOrTake}
use Rattle.rules.specs.Ahead.{Wait, who_waits, In, how_many, rank, earlier_part, same_part, how_far, ahead_of}
use Rattle.rules.proofs.Laws.Waiting.{waiting_rising, placed}
use Rattle.rules.proofs.Laws.Held.{same_part_of, place}
use Rattle.rules.proofs.Laws.Kept.{Fits}

-- ---- counting

how_many_most : (s t : Wait → Bool) (ws : List Wait) → ((u : Wait) → s u ≡ true → t u ≡ true) → how_many s ws ≤ how_many t ws
unfolding how_many
how_many_most s t [] h = omega arith
how_many_most s t (w ∷ ws) h =
    both (s w) (λ e. rw (e, h w e) (omega (arith, how_many_most s t ws h))) (λ e. rw e (omega (arith, how_many_most s t ws h)))

how_many_less : (s t : Wait → Bool) (v : Wait) (ws : List Wait) → ((u : Wait) → s u ≡ true → t u ≡ true) → In v ws → s v ≡ false → t v ≡ true → how_many s ws < how_many t ws
unfolding how_many In
how_many_less s t v [] h i a b = absurd i
how_many_less s t v (w ∷ ws) h (inl e) a b = rw (e, a, b) (omega (arith, how_many_most s t ws h))
how_many_less s t v (w ∷ ws) h (inr i) a b =
    let m = how_many_less s t v ws h i a b in
    both (s w) (λ e. rw (e, h w e) (omega arith)) (λ e. rw e (omega arith))

-- ---- the three numbers by which one is ahead

abbrev part_number : Wait → ℕ
part_number v = rank v.put.part

abbrev bucket_number : ℕ → Wait → ℕ
bucket_number i v = how_far i v v

data Earlier (i : ℕ) (v w : Wait) : Type 0 where
  by_part : part_number v < part_number w → Earlier i v w
  by_bucket : part_number v ≡ part_number w → bucket_number i v < bucket_number i w → Earlier i v w
  by_time : part_number v ≡ part_number w → bucket_number i v ≡ bucket_number i w → v.time < w.time → Earlier i v w

-- in one part the buckets are counted from one place
far_own : (i : ℕ) (v w : Wait) → part_number v ≡ part_number w → how_far i w v ≡ how_far i v v
unfolding how_far
far_own i v w e = rw (same_part_of w.put.part v.put.part e)

earlier : (i : ℕ) (v w : Wait) → ahead_of i v w ≡ true → Earlier i v w
unfolding ahead_of earlier_part same_part
earlier i v w h =
    both (ltb (part_number v) (part_number w)) (λ p. by_part (ltb-true _ _ p)) λ p.
    both (eqb (part_number v) (part_number w))
    (λ s.
    let e : part_number v ≡ part_number w = eqb-true _ _ s in
    let f = far_own i v w e in
    both (ltb (how_far i w v) (how_far i w w)) (λ b. let z : how_far i w v < how_far i w w = ltb-true _ _ b in by_bucket e (omega arith)) λ b.
    both (eqb (how_far i w v) (how_far i w w))
    (λ c. let z : how_far i w v ≡ how_far i w w = eqb-true _ _ c in by_time e (omega arith) (ltb-true _ _ (rw (p, s, b, c) at h)))
    (λ c. absurd (false≢true (rw (p, s, b, c) at h))))
    (λ s. absurd (false≢true (rw (p, s) at h)))

is_ahead : (i : ℕ) (v w : Wait) → Earlier i v w → ahead_of i v w ≡ true
unfolding ahead_of earlier_part same_part
is_ahead i v w (by_part p) = rw (lt-ltb (part_number v) (part_number w) p)
is_ahead i v w (by_bucket e b) =
    let f = far_own i v w e in
    rw (le-ltb (part_number v) (part_number w) (omega arith), eq-eqb (part_number v) (part_number w) e, lt-ltb (how_far i w v) (how_far i w w) (omega arith))
is_ahead i v w (by_time e b t) =
    let f = far_own i v w e in
    rw (le-ltb (part_number v) (part_number w) (omega arith), eq-eqb (part_number v) (part_number w) e, le-ltb (how_far i w v) (how_far i w w) (omega arith), eq-eqb (how_far i w v) (how_far i w w) (omega arith), lt-ltb v.time w.time t)

-- w is not earlier than v
data NotLater (i : ℕ) (v w : Wait) : Type 0 where
  in_part : part_number v < part_number w → NotLater i v w
  in_bucket : part_number v ≡ part_number w → bucket_number i v < bucket_number i w → NotLater i v w
  in_time : part_number v ≡ part_number w → bucket_number i v ≡ bucket_number i w → v.time ≤ w.time → NotLater i v w

not_later : (i : ℕ) (v w : Wait) → Earlier i v w → NotLater i v w
not_later i v w (by_part p) = in_part p
not_later i v w (by_bucket e b) = in_bucket e b
not_later i v w (by_time e b t) = in_time e b (omega arith)

compare : (i : ℕ) (v w : Wait) → Earlier i v w ⊎ NotLater i w v
compare i v w =
    both (ltb (part_number v) (part_number w)) (λ p. inl (by_part (ltb-true _ _ p))) λ p.
    both (ltb (part_number w) (part_number v)) (λ s. inr (in_part (ltb-true _ _ s))) λ s.
    let e : part_number v ≡ part_number w = omega (arith, ltb-false (part_number v) (part_number w) p, ltb-false (part_number w) (part_number v) s) in
    both (ltb (bucket_number i v) (bucket_number i w)) (λ b. inl (by_bucket e (ltb-true _ _ b))) λ b.
    both (ltb (bucket_number i w) (bucket_number i v)) (λ c. inr (in_bucket (sym e) (ltb-true _ _ c))) λ c.
    let f : bucket_number i v ≡ bucket_number i w = omega (arith, ltb-false (bucket_number i v) (bucket_number i w) b, ltb-false (bucket_number i w) (bucket_number i v) c) in
    both (ltb v.time w.time) (λ t. inl (by_time e f (ltb-true _ _ t))) (λ t. inr (in_time (sym e) (sym f) (ltb-false _ _ t)))

later : (i : ℕ) (u v w : Wait) → Earlier i u v → NotLater i v w → Earlier i u w
later i u v w (by_part p) (in_part n) = by_part (omega arith)
later i u v w (by_part p) (in_bucket n m) = by_part (omega arith)
later i u v w (by_part p) (in_time n m o) = by_part (omega arith)
later i u v w (by_bucket e b) (in_part n) = by_part (omega arith)
later i u v w (by_bucket e b) (in_bucket n m) = by_bucket (omega arith) (omega arith)
later i u v w (by_bucket e b) (in_time n m o) = by_bucket (omega arith) (omega arith)
later i u v w (by_time e b t) (in_part n) = by_part (omega arith)
later i u v w (by_time e b t) (in_bucket n m) = by_bucket (omega arith) (omega arith)
later i u v w (by_time e b t) (in_time n m o) = by_time (omega arith) (omega arith) (omega arith)

not_self : (i : ℕ) (v : Wait) → Earlier i v v → ⊥
not_self i v (by_part p) = omega arith
not_self i v (by_bucket e b) = omega arith
not_self i v (by_time e b t) = omega arith

-- ---- THE ORDER: of two that wait the one that is ahead has fewer before it in the queue
pub by_ahead : {limit : ℕ} {q : Queue} {l : List PutOrTake} → Fits limit q l → (v w : Wait) → In v (who_waits l) → In w (who_waits l)
    → (ahead v.put.thread (order q) < ahead w.put.thread (order q)) ↔ (ahead_of q.take_idx v w ≡ true)
by_ahead {limit} {q} {l} f v w iv iw = (λ h. go h (compare i v w), λ h. less (earlier i v w h))
  where
    i : ℕ
    i = q.take_idx

    count_of : (u : Wait) → In u (who_waits l) → ahead u.put.thread (order q) ≡ how_many (λ z. ahead_of i z u) (who_waits l)
    count_of u iu = (place q (who_waits l) u f.shape f.held f.once f.apart (placed u (who_waits l) (waiting_rising 0 l) iu)).1

    go : ahead v.put.thread (order q) < ahead w.put.thread (order q) → Earlier i v w ⊎ NotLater i w v → ahead_of i v w ≡ true
    go h (inl e) = is_ahead i v w e
    go h (inr n) =
        let m = how_many_most (λ z. ahead_of i z w) (λ z. ahead_of i z v) (who_waits l) (λ u a. is_ahead i u v (later i u w v (earlier i u w a) n)) in
        absurd (omega (arith, count_of v iv, count_of w iw))

    less : Earlier i v w → ahead v.put.thread (order q) < ahead w.put.thread (order q)
    less e =
        let m = how_many_less (λ z. ahead_of i z v) (λ z. ahead_of i z w) v (who_waits l) (λ u a. is_ahead i u w (later i u v w (earlier i u v a) (not_later i v w e))) iv
        (both (ahead_of i v v) (λ a. absurd (not_self i v (earlier i v v a))) (λ a. a)) (is_ahead i v w e) in
        omega (arith, count_of v iv, count_of w iw)
