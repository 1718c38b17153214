-- How long a timeshare thread can wait: at most k threads leave until it has left, and k falls with each of them.
use Prim.Native.Nat.{ℕ, zero, suc, ◌+◌, ◌-◌, ◌*◌, ◌≤◌, ◌<◌}
use Rattle.std.specs.Prelude.{◌≡◌, ◌≢◌, Bool, true, false, ◌&&◌, ◌||◌, List, [], ◌∷◌, ◌++◌, eqb}
use Rattle.std.proofs.Math.Path.{refl, ap}
use Rattle.std.proofs.Common.{sym, ◌∙◌, append_assoc, length-append, eqb-true, eq-eqb, ne_eqb, mod-eq_of_lt, add-zero, arith}
use Rattle.std.proofs.Math.Bool.{not, and-true}
use Rattle.std.proofs.lemmas.Bool.{false≢true, eqb-false}
use Rattle.std.proofs.Math.ListN.{length}
use Rattle.std.specs.Cmp.{first_so}
use Rattle.rules.specs.declared.Part.{Part}
use Rattle.rules.specs.declared.Part.TheVariants as part
use Rattle.rules.specs.Line.{has, ahead}
use Rattle.rules.proofs.Laws.Line.{both, ahead_lt, has_append}
use Rattle.rules.specs.Buckets.{bucket, around, Found, nothing, found, scan, join, pop}
use Rattle.rules.proofs.Laws.Buckets.{Hit, scan_nothing, scan_found, around_pop, around_at, round_meets}
use Rattle.rules.proofs.Laws.Distance.{Near, near_join, near_there, near_next, bucket_clear, bucket_join, bucket_length, ahead_first, room}
use Rattle.rules.specs.Queue.{Queue, nr_buckets, realtime_line, timeshare_line, idle_line, order, empty, is_timeshare, Arrival, part_for, bucket_for, step_back, value_bucket, timeshare_bucket, join_in}
use Rattle.rules.specs.Queue.{Next, nobody, next_in, first_in, next_idle, next_timeshare, next, next_take_idx, leave, advance_insert_index}
use Rattle.rules.specs.Puts.{put_made}
use Rattle.rules.specs.Ahead.{calm_in}
use Rattle.rules.proofs.Laws.Effect.{Shape, some_bucket, empty_true}

-- x waits in timeshare, and at most k leave until x has left: those in realtime, and those of a bucket for each bucket before its own
pub record Soon (limit x : ℕ) (q : Queue) (k : ℕ) : Type 0 where
  rest : ℕ
  near : Near nr_buckets limit q.timeshare q.take_idx x rest
  sum : k ≡ length (realtime_line q) + rest

-- ---- x leaves after fewer than k

ahead_append : (x : ℕ) (l m : List ℕ) → ahead x (l ++ m) ≤ length l + ahead x m
unfolding ahead
ahead_append x [] m = omega arith
ahead_append x (y ∷ l) m = both (eqb y x) (λ p. rw p (omega arith)) (λ p. rw p (omega (arith, ahead_append x l m)))

first_bucket_of : (q : Queue) → (r : List ℕ) × (order q ≡ realtime_line q ++ (bucket nr_buckets q.timeshare q.take_idx ++ r))
unfolding order timeshare_line around
first_bucket_of q =
    let k : ℕ = nr_buckets - 1 in
    let f : nr_buckets ≡ 0 + suc k = omega (arith, some_bucket) in
    let l : List ℕ = around nr_buckets q.timeshare (suc (q.take_idx + 0)) k in
    (l ++ idle_line q, rw (around_at nr_buckets q.timeshare q.take_idx nr_buckets 0 k f, add-zero, append_assoc))

pub soon_now : (limit x : ℕ) (q : Queue) (k : ℕ) → length (order q) ≤ limit → has x (order q) ≡ true → Soon limit x q k → ahead x (order q) + 1 ≤ k
soon_now limit x q k w h s = go s.near.far refl
  where
    go : (f : ℕ) → s.near.far ≡ f → ahead x (order q) + 1 ≤ k
    go zero e =
        let (r, f) = first_bucket_of q in
        let b : List ℕ = bucket nr_buckets q.timeshare q.take_idx in
        rw f (omega (arith, ahead_append x (realtime_line q) (b ++ r), ahead_first x b r (rw (e, add-zero) at s.near.there), rw e at s.near.most, s.sum))
    go (suc f) e = omega (arith, ahead_lt x (order q) h, rw e at s.near.most, s.sum)

-- ---- a put

step_back_other : (j : ℕ) → step_back j ≢ j
unfolding step_back nr_buckets
step_back_other zero e = omega arith
step_back_other (suc j) e = omega arith

-- a thread that is put in by its value does not join the emptying bucket, if the indexes differ
not_emptying : (q : Queue) (v : ℕ) → q.insert_idx ≢ q.take_idx → q.take_idx ≢ timeshare_bucket q v false
unfolding timeshare_bucket
not_emptying q v h e =
    let d : not (eqb q.insert_idx q.take_idx) ≡ true = rw (ne_eqb q.insert_idx q.take_idx h) in
    both (eqb (value_bucket q v) q.take_idx)
    (λ p.
    let f : q.take_idx ≡ step_back (value_bucket q v) = rw (p, d) at e in
    step_back_other (value_bucket q v) (sym f ∙ sym (eqb-true _ _ p)))
    (λ p.
    let f : q.take_idx ≡ value_bucket q v = rw p at e in
    eqb-false _ _ p (sym f))

calm_other : (q : Queue) (v : ℕ) (c : Bool) → ((not c && not (eqb q.insert_idx q.take_idx)) || not (eqb (timeshare_bucket q v c) q.take_idx)) ≡ true
    → q.take_idx ≢ timeshare_bucket q v c
calm_other q v true h e = absurd (false≢true (rw (eq-eqb (timeshare_bucket q v true) q.take_idx (sym e)) at h))
calm_other q v false h e =
    both (eqb q.insert_idx q.take_idx)
    (λ f. absurd (false≢true (rw (f, eq-eqb (timeshare_bucket q v false) q.take_idx (sym e)) at h)))
    (λ f. not_emptying q v (eqb-false _ _ f) e)

-- in timeshare a thread comes in as the current thread if it is said to be
calm_current : (q : Queue) (a : Arrival)
    → ((not (a.current && true) && not (eqb q.insert_idx q.take_idx)) || not (eqb (timeshare_bucket q a.value a.current) q.take_idx)) ≡ true
    → ((not a.current && not (eqb q.insert_idx q.take_idx)) || not (eqb (timeshare_bucket q a.value a.current) q.take_idx)) ≡ true
calm_current q a c = rw and-true at c

pub soon_join : {limit x k : ℕ} (p : Part) (q : Queue) (a : Arrival) (pinned : Bool) → part_for a ≡ p → Shape q → calm_in p (put_made pinned q a) ≡ true → Soon limit x q k
    → Soon limit x (join_in p q (bucket_for p q a) a.thread) k
unfolding calm_in put_made join_in realtime_line bucket_for is_timeshare
soon_join part.Realtime q a pinned e h c s = absurd (false≢true c)
soon_join part.Timeshare q a pinned e h c s = record {
  rest = s.rest;
  near = near_join nr_buckets (timeshare_bucket q a.value a.current) a.thread h.timeshare_full
      (rw (mod-eq_of_lt h.take_idx_in) (calm_other q a.value a.current (calm_current q a (rw e at c)))) s.near;
  sum = s.sum;
}
soon_join part.Idle q a pinned e h c s = record { rest = s.rest; near = s.near; sum = s.sum }

-- a thread put into timeshare: at most a round of full buckets
timeshare_fits : (q : Queue) → length (realtime_line q) + length (timeshare_line q) ≤ length (order q)
unfolding order
timeshare_fits q = simp length-append (omega arith)

crowd_bucket : (limit : ℕ) (q : Queue) → length (order q) ≤ limit → length (realtime_line q) + length (bucket nr_buckets q.timeshare q.take_idx) ≤ limit
unfolding timeshare_line
crowd_bucket limit q w = omega (arith, rw add-zero at (bucket_length nr_buckets q.timeshare q.take_idx 0 some_bucket), timeshare_fits q)

has_last : (x : ℕ) (l : List ℕ) → has x (l ++ (x ∷ [])) ≡ true
unfolding has
has_last x l = has_append x l (x ∷ []) ∙ rw (eq-eqb x x refl) (both (has x l) (λ e. rw e) (λ e. rw e))

pub soon_in : (limit : ℕ) (q : Queue) (j x : ℕ) → Shape q → j < nr_buckets → length (order (join_in part.Timeshare q j x)) ≤ limit
    → (k : ℕ) × Soon limit x (join_in part.Timeshare q j x) k × (k ≤ limit * nr_buckets)
unfolding join_in
soon_in limit q j x h b w =
    let (m, l, f) = round_meets nr_buckets q.take_idx j b in
    let q' : Queue = join_in part.Timeshare q j x in
    let s : ℕ = length (bucket nr_buckets (join q.timeshare j x) q.take_idx) in
    let c = crowd_bucket limit q' w in (
      length (realtime_line q') + (limit * m + s),
      record {
        rest = limit * m + s;
        near = record {
          far = m;
          far_in = l;
          there = rw (bucket_join nr_buckets q.timeshare (q.take_idx + m) j x h.timeshare_full some_bucket f) (has_last x (bucket nr_buckets q.timeshare (q.take_idx + m)));
          most = refl;
        };
        sum = refl;
      },
      omega (arith, room limit m nr_buckets (length (realtime_line q') + s) l (omega arith)),
    )

-- ---- a leaving

-- the bound falls with each thread that leaves, as long as it is not x
unfoldable pub Falls : ℕ → ℕ → ℕ → Queue → Next → Type 0
Falls limit x k q nobody = Unit
Falls limit x k q (next_in p j y) = eqb y x ≡ false → (k' : ℕ) × Soon limit x (leave p q j) k' × (k' < k)

module _ (limit x k : ℕ) (q : Queue) (h : Shape q) (w : length (order q) ≤ limit) (s : Soon limit x q k) where
  near_after : (j y : ℕ) → Hit nr_buckets q.timeshare q.take_idx nr_buckets j y → eqb y x ≡ false
      → (r : ℕ) × Near nr_buckets limit (pop q.timeshare j) (next_take_idx q.insert_idx (pop q.timeshare j) j) x r × (r < s.rest)
  unfolding next_take_idx timeshare_line
  near_after j y hit other =
      let fits : length (timeshare_line q) ≤ limit = omega (arith, timeshare_fits q) in
      both (empty (bucket nr_buckets (pop q.timeshare j) j) && not (eqb j q.insert_idx))
      (λ t. rw t (near_next nr_buckets limit q.timeshare q.take_idx j x y h.timeshare_full fits hit other (empty_true _ (first_so _ _ t)) s.near))
      (λ t. rw t (near_there nr_buckets limit q.timeshare q.take_idx j x y h.timeshare_full fits hit other s.near))

  falls_timeshare : (f : Found) → scan nr_buckets q.timeshare q.take_idx nr_buckets ≡ f → Falls limit x k q (first_in part.Timeshare f (next_idle q))
  unfolding first_in Falls leave realtime_line has
  falls_timeshare nothing e =
      let z = bucket_clear nr_buckets q.timeshare q.take_idx nr_buckets s.near.far (scan_nothing nr_buckets q.timeshare q.take_idx nr_buckets e) s.near.far_in in
      absurd (false≢true (rw z at s.near.there))
  falls_timeshare (found j y) e = λ other.
      let (r, n, l) = near_after j y (scan_found nr_buckets q.timeshare q.take_idx nr_buckets j y e) other in
      (length (realtime_line q) + r, record { rest = r; near = n; sum = refl }, omega (arith, s.sum))

  falls_realtime : (f : Found) → scan nr_buckets q.realtime 0 nr_buckets ≡ f → Falls limit x k q (first_in part.Realtime f (next_timeshare q))
  unfolding first_in next_timeshare Falls leave realtime_line
  falls_realtime nothing e = falls_timeshare (scan nr_buckets q.timeshare q.take_idx nr_buckets) refl
  falls_realtime (found j y) e = λ other.
      let hit = scan_found nr_buckets q.realtime 0 nr_buckets j y e in
      let q' : Queue = leave part.Realtime q j in
      let fewer : length (realtime_line q) ≡ suc (length (realtime_line q')) = ap length (around_pop nr_buckets q.realtime 0 j y h.realtime_full hit) in
      (length (realtime_line q') + s.rest, record { rest = s.rest; near = s.near; sum = refl }, omega (arith, s.sum))

  pub falls : Falls limit x k q (next q)
  unfolding next
  falls = falls_realtime (scan nr_buckets q.realtime 0 nr_buckets) refl

-- ---- `advance_insert_index`

pub soon_advance : {limit x k : ℕ} (q : Queue) → Soon limit x q k → Soon limit x (advance_insert_index q) k
unfolding advance_insert_index realtime_line
soon_advance q s = both (empty (timeshare_line q)) (λ t. rw t s) (λ t. rw t (record { rest = s.rest; near = s.near; sum = s.sum }))
