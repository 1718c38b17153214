-- A queue's buckets hold the threads of the puts that wait, each in the part and bucket of its put, oldest first; and so how many stand before a thread in the
-- queue's order is how many are ahead of it by document 01.
use Rattle.std.specs.Prelude.{ℕ, zero, suc, ◌+◌, ◌-◌, ◌%◌, ◌≤◌, ◌<◌, ◌≡◌, refl, Bool, true, false, cond, ◌&&◌, ◌||◌, List, [], ◌∷◌, ◌++◌, length, eqb, ltb}
use Rattle.std.proofs.Common.{sym, ◌∙◌, append-nil, length-append, eqb-true, eq-eqb, ne_eqb, ltb-true, ltb-false, lt-ltb, le-ltb, mod-lt, mod-eq_of_lt, arith}
use Rattle.std.proofs.lemmas.Bool.{eqb-false}
use Rattle.std.proofs.Math.Nat.{mod-add-mod, add-mod_right}
use Rattle.std.specs.Cmp.{first_so, second_so}
use Rattle.rules.specs.declared.Part.{Part}
use Rattle.rules.specs.declared.Part.TheVariants as part
use Rattle.rules.specs.Line.{has, ahead, count, Distinct}
use Rattle.rules.proofs.Laws.Line.{both, has_left, has_right, ahead_left, ahead_right, distinct_apart, distinct_left, distinct_right, without, without_absent}
use Rattle.rules.specs.Buckets.{Buckets, bucket, around, join, pop}
use Rattle.rules.proofs.Laws.Buckets.{round_once, around_at}
use Rattle.rules.proofs.Laws.Distance.{bucket_cong, bucket_join, bucket_join_other, bucket_pop_same, bucket_pop_other}
use Rattle.rules.specs.Queue.{Queue, nr_buckets, no_queue, realtime_line, timeshare_line, idle_line, order, join_in, leave}
use Rattle.rules.specs.Ahead.{Wait, threads, how_many, rank, first_bucket, onward, earlier_part, same_part, how_far, ahead_of}
use Rattle.rules.proofs.Laws.Effect.{Shape, some_bucket, buckets_of, first_of, line_of, full, first_of_in, start_bucket}
use Rattle.rules.proofs.Laws.Waiting.{pick, others, threads_append, pick_append, how_many_append, pick_length, pick_absent, pick_distinct, pick_both, pick_others}
use Rattle.rules.proofs.Laws.Waiting.{Older, Newer, Placed}

-- the put stands in part p, in the bucket at index i counted round
unfoldable pub stands : Part → ℕ → Wait → Bool
stands p i w = eqb (rank w.put.part) (rank p) && eqb (w.put.bucket % nr_buckets) (i % nr_buckets)

abbrev pub Held : Queue → List Wait → Type 0
Held q ws = (p : Part) (i : ℕ) → bucket nr_buckets (buckets_of p q) i ≡ threads (pick (stands p i) ws)

pub held_start : Held no_queue []
unfolding pick threads
held_start p i = start_bucket p i

-- ---- a put

join_buckets : (r p : Part) (q : Queue) (j x : ℕ) → buckets_of r (join_in p q j x) ≡ cond (eqb (rank p) (rank r)) (join (buckets_of r q) j x) (buckets_of r q)
unfolding buckets_of join_in rank
join_buckets part.Realtime part.Realtime q j x = refl
join_buckets part.Realtime part.Timeshare q j x = refl
join_buckets part.Realtime part.Idle q j x = refl
join_buckets part.Timeshare part.Realtime q j x = refl
join_buckets part.Timeshare part.Timeshare q j x = refl
join_buckets part.Timeshare part.Idle q j x = refl
join_buckets part.Idle part.Realtime q j x = refl
join_buckets part.Idle part.Timeshare q j x = refl
join_buckets part.Idle part.Idle q j x = refl

pub held_join : (q : Queue) (ws : List Wait) (w : Wait) → Shape q → w.put.bucket < nr_buckets → Held q ws
    → Held (join_in w.put.part q w.put.bucket w.put.thread) (ws ++ (w ∷ []))
unfolding pick threads stands
held_join q ws w s h held r i =
    rw (join_buckets r w.put.part q w.put.bucket w.put.thread, pick_append, threads_append, ← (held r i))
    (both (eqb (rank w.put.part) (rank r))
    (λ e. both (eqb (w.put.bucket % nr_buckets) (i % nr_buckets))
    (λ f. rw (e, f) (bucket_join nr_buckets (buckets_of r q) i w.put.bucket w.put.thread (full r q s) some_bucket (sym (eqb-true _ _ f) ∙ mod-eq_of_lt h)))
    (λ f. rw (e, f, append-nil) (bucket_join_other nr_buckets (buckets_of r q) i w.put.bucket w.put.thread
    (λ g. eqb-false _ _ f (mod-eq_of_lt h ∙ sym g)))))
    (λ e. rw (e, append-nil)))

-- ---- a leaving: of a thread anywhere in the order

-- x has left its bucket, wherever it stood in it, and the others are as they were
abbrev pub Left : ℕ → Queue → Queue → Type 0
Left x q q' = (p : Part) (i : ℕ) → bucket nr_buckets (buckets_of p q') i ≡ without x (bucket nr_buckets (buckets_of p q) i)

pub held_left : (x : ℕ) (q q' : Queue) (ws : List Wait) → Held q ws → Left x q q' → Held q' (others x ws)
held_left x q q' ws held left p i = left p i ∙ rw (held p i) (sym (pick_others (stands p i) x ws))

leave_buckets : (r p : Part) (q : Queue) (j : ℕ) → buckets_of r (leave p q j) ≡ cond (eqb (rank p) (rank r)) (pop (buckets_of r q) j) (buckets_of r q)
unfolding buckets_of leave rank
leave_buckets part.Realtime part.Realtime q j = refl
leave_buckets part.Realtime part.Timeshare q j = refl
leave_buckets part.Realtime part.Idle q j = refl
leave_buckets part.Timeshare part.Realtime q j = refl
leave_buckets part.Timeshare part.Timeshare q j = refl
leave_buckets part.Timeshare part.Idle q j = refl
leave_buckets part.Idle part.Realtime q j = refl
leave_buckets part.Idle part.Timeshare q j = refl
leave_buckets part.Idle part.Idle q j = refl

stands_part : (p : Part) (i : ℕ) (w : Wait) → stands p i w ≡ true → rank w.put.part ≡ rank p
unfolding stands
stands_part p i w s = eqb-true _ _ (first_so (eqb (rank w.put.part) (rank p)) (eqb (w.put.bucket % nr_buckets) (i % nr_buckets)) s)

stands_bucket : (p : Part) (i : ℕ) (w : Wait) → stands p i w ≡ true → w.put.bucket % nr_buckets ≡ i % nr_buckets
unfolding stands
stands_bucket p i w s = eqb-true _ _ (second_so (eqb (rank w.put.part) (rank p)) (eqb (w.put.bucket % nr_buckets) (i % nr_buckets)) s)

-- who stands in one bucket stands in no other
one_bucket : (q : Queue) (ws : List Wait) (x : ℕ) (p r : Part) (i j : ℕ) → Held q ws → Distinct (threads ws) → has x (bucket nr_buckets (buckets_of p q) i) ≡ true
    → has x (bucket nr_buckets (buckets_of r q) j) ≡ true → (rank p ≡ rank r) × (i % nr_buckets ≡ j % nr_buckets)
one_bucket q ws x p r i j held d h k =
    let (w, s, t) = pick_both (stands p i) (stands r j) x ws d (rw (held p i) at h) (rw (held r j) at k) in
    (sym (stands_part p i w s) ∙ stands_part r j w t, sym (stands_bucket p i w s) ∙ stands_bucket r j w t)

without_head : (x : ℕ) (l : List ℕ) → Distinct (x ∷ l) → l ≡ without x (x ∷ l)
unfolding Distinct without
without_head x l d = rw (eq-eqb x x refl) (sym (without_absent x l d.0))

pub has_head : (x : ℕ) (l : List ℕ) → has x (x ∷ l) ≡ true
unfolding has
has_head x l = rw (eq-eqb x x refl)

pub same_part_of : (r p : Part) → rank p ≡ rank r → p ≡ r
unfolding rank
same_part_of part.Realtime part.Realtime e = refl
same_part_of part.Timeshare part.Timeshare e = refl
same_part_of part.Idle part.Idle e = refl
same_part_of part.Realtime part.Timeshare e = absurd (omega arith)
same_part_of part.Realtime part.Idle e = absurd (omega arith)
same_part_of part.Timeshare part.Realtime e = absurd (omega arith)
same_part_of part.Timeshare part.Idle e = absurd (omega arith)
same_part_of part.Idle part.Realtime e = absurd (omega arith)
same_part_of part.Idle part.Timeshare e = absurd (omega arith)

-- the oldest of a bucket leaves
pub leave_left : (q : Queue) (ws : List Wait) (p : Part) (j x : ℕ) (rest : List ℕ) → Shape q → Held q ws → Distinct (threads ws) → j < nr_buckets
    → bucket nr_buckets (buckets_of p q) j ≡ x ∷ rest → Left x q (leave p q j)
leave_left q ws p j x rest s held d h e r i =
    rw (leave_buckets r p q j)
    (both (eqb (rank p) (rank r))
    (λ f. both (eqb (i % nr_buckets) (j % nr_buckets))
    (λ g.
    let k : i % nr_buckets ≡ j = eqb-true _ _ g ∙ mod-eq_of_lt h in
    let b : bucket nr_buckets (buckets_of r q) i ≡ x ∷ rest = there r i (eqb-true _ _ f) (eqb-true _ _ g) in
    rw (f, bucket_pop_same nr_buckets (buckets_of r q) i j (full r q s) some_bucket k, b) (without_head x rest (rw (sym (held p j) ∙ e) at (pick_distinct (stands p j) ws d))))
    (λ g. rw (f, bucket_pop_other nr_buckets (buckets_of r q) i j (λ k. eqb-false _ _ g (k ∙ sym (mod-eq_of_lt h))))
    (sym (without_absent x _ (absent r i (λ m n. eqb-false _ _ g n))))))
    (λ f. rw f (sym (without_absent x _ (absent r i (λ m n. eqb-false _ _ f (sym m)))))))
  where
    there : (r : Part) (i : ℕ) → rank p ≡ rank r → i % nr_buckets ≡ j % nr_buckets → bucket nr_buckets (buckets_of r q) i ≡ x ∷ rest
    there r i m n = rw (← (same_part_of r p m)) (bucket_cong nr_buckets (buckets_of p q) i j n ∙ e)

    absent : (r : Part) (i : ℕ) → (rank r ≡ rank p → i % nr_buckets ≡ j % nr_buckets → ⊥) → has x (bucket nr_buckets (buckets_of r q) i) ≡ false
    absent r i no_match =
        both (has x (bucket nr_buckets (buckets_of r q) i))
        (λ k. let o = one_bucket q ws x r p i j held d k (rw e (has_head x rest)) in absurd (no_match o.0 o.1))
        (λ k. k)

-- ---- counting

how_many_same : (s t : Wait → Bool) (ws : List Wait) → ((v : Wait) → s v ≡ t v) → how_many s ws ≡ how_many t ws
unfolding how_many
how_many_same s t [] e = refl
how_many_same s t (w ∷ ws) e = rw (e w, how_many_same s t ws e)

how_many_sum : (u s t : Wait → Bool) (ws : List Wait) → ((v : Wait) → count (u v) ≡ count (s v) + count (t v)) → how_many u ws ≡ how_many s ws + how_many t ws
unfolding how_many
how_many_sum u s t [] e = omega arith
how_many_sum u s t (w ∷ ws) e = omega (arith, e w, how_many_sum u s t ws e)

how_many_none : (s : Wait → Bool) (ws : List Wait) → ((v : Wait) → s v ≡ false) → how_many s ws ≡ 0
unfolding how_many
how_many_none s [] e = refl
how_many_none s (w ∷ ws) e = rw (e w, how_many_none s ws e)

how_many_older : (s : Wait → Bool) (t : ℕ) (ws : List Wait) → Older t ws → how_many (λ v. s v && ltb v.time t) ws ≡ how_many s ws
unfolding how_many Older
how_many_older s t [] o = refl
how_many_older s t (w ∷ ws) o = rw (lt-ltb w.time t o.0, how_many_older s t ws o.1) (both (s w) (λ e. rw e) (λ e. rw e))

how_many_newer : (s : Wait → Bool) (t : ℕ) (ws : List Wait) → Newer t ws → how_many (λ v. s v && ltb v.time t) ws ≡ 0
unfolding how_many Newer
how_many_newer s t [] o = refl
how_many_newer s t (w ∷ ws) o =
    let h : t < w.time = o.0 in
    rw (le-ltb w.time t (omega arith), how_many_newer s t ws o.1) (both (s w) (λ e. rw e) (λ e. rw e))

-- ---- how far

onward_in : (i j : ℕ) → onward i j < nr_buckets
unfolding onward
onward_in i j = mod-lt (j + (nr_buckets - i)) some_bucket

onward_meets : (i j : ℕ) → i < nr_buckets → (i + onward i j) % nr_buckets ≡ j % nr_buckets
unfolding onward
onward_meets i j h =
    let m : ℕ = j + (nr_buckets - i) in
    let e : i + m % nr_buckets ≡ m % nr_buckets + i = omega arith in
    let f : m + i ≡ j + nr_buckets = omega arith in
    rw e (mod-add-mod m nr_buckets i ∙ rw f (add-mod_right j nr_buckets))

onward_is : (i j d : ℕ) → i < nr_buckets → d < nr_buckets → eqb (j % nr_buckets) ((i + d) % nr_buckets) ≡ eqb (onward i j) d
onward_is i j d h k =
    both (eqb (onward i j) d)
    (λ e. rw e (eq-eqb (j % nr_buckets) ((i + d) % nr_buckets) (rw (← (eqb-true (onward i j) d e)) (sym (onward_meets i j h)))))
    (λ e. rw e (ne_eqb (j % nr_buckets) ((i + d) % nr_buckets) (λ f. eqb-false _ _ e (round_once nr_buckets i (onward i j) d (onward_in i j) k (onward_meets i j h ∙ f)))))

count_suc : (o k : ℕ) → count (ltb o (suc k)) ≡ count (ltb o k) + count (eqb o k)
count_suc o k =
    both (ltb o k)
    (λ e. let h : o < k = ltb-true o k e in rw (e, lt-ltb o (suc k) (omega arith), ne_eqb o k (λ f. omega arith)))
    (λ e.
    let h : k ≤ o = ltb-false o k e in
    both (eqb o k)
    (λ f. let g : o ≡ k = eqb-true o k f in rw (e, f, lt-ltb o (suc k) (omega arith)))
    (λ f. let g : o ≡ k → ⊥ = eqb-false o k f in rw (e, f, le-ltb o (suc k) (omega arith))))

-- ---- how many stand in a part, and in its first k buckets

stands_is : (p : Part) (i k : ℕ) (v : Wait) → i < nr_buckets → k < nr_buckets
    → stands p (i + k) v ≡ (eqb (rank v.put.part) (rank p) && eqb (onward i v.put.bucket) k)
unfolding stands
stands_is p i k v h l = rw (onward_is i v.put.bucket k h l)

first_length : (p : Part) (q : Queue) (ws : List Wait) (i k : ℕ) → Held q ws → i < nr_buckets → k ≤ nr_buckets
    → length (around nr_buckets (buckets_of p q) i k) ≡ how_many (λ v. eqb (rank v.put.part) (rank p) && ltb (onward i v.put.bucket) k) ws
unfolding around
first_length p q ws i zero held h l = sym (how_many_none _ ws (λ v. rw (le-ltb (onward i v.put.bucket) 0 (omega arith)) (both (eqb (rank v.put.part) (rank p)) (λ e. rw e) (λ e. rw e))))
first_length p q ws i (suc k) held h l =
    rw (around_at nr_buckets (buckets_of p q) i (suc k) k 0 (omega arith), held p (i + k), append-nil, length-append, pick_length, first_length p q ws i k held h (omega arith))
    (sym (how_many_sum _ _ _ ws (λ v. rw (stands_is p i k v h l) (both (eqb (rank v.put.part) (rank p)) (λ e. rw e (count_suc (onward i v.put.bucket) k)) (λ e. rw e (omega arith))))))

line_length : (p : Part) (q : Queue) (ws : List Wait) → Shape q → Held q ws → length (line_of p q) ≡ how_many (λ v. eqb (rank v.put.part) (rank p)) ws
line_length p q ws s held =
    first_length p q ws (first_of p q) nr_buckets held (first_of_in p q s) (omega arith)
    ∙ how_many_same _ _ ws
    (λ v. rw (lt-ltb (onward (first_of p q) v.put.bucket) nr_buckets (onward_in _ _)) (both (eqb (rank v.put.part) (rank p)) (λ e. rw e) (λ e. rw e)))

-- ---- where a thread stands

before_realtime : (p : Part) → ltb (rank p) (rank part.Realtime) ≡ false
unfolding rank
before_realtime part.Realtime = refl
before_realtime part.Timeshare = refl
before_realtime part.Idle = refl

before_timeshare : (p : Part) → ltb (rank p) (rank part.Timeshare) ≡ eqb (rank p) (rank part.Realtime)
unfolding rank
before_timeshare part.Realtime = refl
before_timeshare part.Timeshare = refl
before_timeshare part.Idle = refl

before_idle : (p : Part) → count (ltb (rank p) (rank part.Idle)) ≡ count (eqb (rank p) (rank part.Realtime)) + count (eqb (rank p) (rank part.Timeshare))
unfolding rank
before_idle part.Realtime = refl
before_idle part.Timeshare = refl
before_idle part.Idle = refl

-- behind those of the parts before its own, and of its own part those before it
in_order : (p : Part) (q : Queue) (ws : List Wait) (x : ℕ) → Shape q → Held q ws → Distinct (order q) → has x (line_of p q) ≡ true
    → ahead x (order q) ≡ how_many (λ v. ltb (rank v.put.part) (rank p)) ws + ahead x (line_of p q)
unfolding order realtime_line timeshare_line idle_line buckets_of first_bucket
in_order part.Realtime q ws x s held d h = ahead_left x (line_of part.Realtime q) _ h ∙ omega (arith, how_many_none (λ v. ltb (rank v.put.part) (rank part.Realtime)) ws (λ v. before_realtime v.put.part))
in_order part.Timeshare q ws x s held d h =
    ahead_right x (line_of part.Realtime q) _ (distinct_apart x (line_of part.Realtime q) _ d (has_left x (line_of part.Timeshare q) _ h))
    ∙ rw (ahead_left x (line_of part.Timeshare q) (idle_line q) h, line_length part.Realtime q ws s held) (omega (arith, how_many_same (λ v. ltb (rank v.put.part) (rank part.Timeshare)) (λ v. eqb (rank v.put.part) (rank part.Realtime)) ws (λ v. before_timeshare v.put.part)))
in_order part.Idle q ws x s held d h =
    ahead_right x (line_of part.Realtime q) _ (distinct_apart x (line_of part.Realtime q) _ d (has_right x (line_of part.Timeshare q) _ h))
    ∙ rw (ahead_right x (line_of part.Timeshare q) (line_of part.Idle q) (distinct_apart x (line_of part.Timeshare q) _ (distinct_right (line_of part.Realtime q) _ d) h), line_length part.Realtime q ws s held, line_length part.Timeshare q ws s held) (omega (arith, how_many_sum (λ v. ltb (rank v.put.part) (rank part.Idle)) (λ v. eqb (rank v.put.part) (rank part.Realtime)) (λ v. eqb (rank v.put.part) (rank part.Timeshare)) ws (λ v. before_idle v.put.part)))

-- behind those of the buckets before its own, and of its own bucket those before it
in_line : (p : Part) (q : Queue) (ws : List Wait) (x d : ℕ) → Shape q → Held q ws → Distinct (line_of p q) → d < nr_buckets
    → has x (bucket nr_buckets (buckets_of p q) (first_of p q + d)) ≡ true
    → ahead x (line_of p q)
    ≡ how_many (λ v. eqb (rank v.put.part) (rank p) && ltb (onward (first_of p q) v.put.bucket) d) ws + ahead x (bucket nr_buckets (buckets_of p q) (first_of p q + d))
in_line p q ws x d s held dis h k =
    let m : ℕ = nr_buckets - suc d in
    let i : ℕ = first_of p q in
    let b : List ℕ = bucket nr_buckets (buckets_of p q) (i + d) in
    let e = around_at nr_buckets (buckets_of p q) i nr_buckets d m (omega arith) in
    rw (e)
    (ahead_right x (around nr_buckets (buckets_of p q) i d) _ (distinct_apart x (around nr_buckets (buckets_of p q) i d) _ (rw e at dis) (has_left x b _ k))
    ∙ rw (ahead_left x b _ k, first_length p q ws i d held (first_of_in p q s) (omega arith)))

-- behind those of its bucket that were put in earlier
in_bucket : (t : Wait → Bool) (w : Wait) (front back : List Wait) → t w ≡ true → Distinct (threads (front ++ (w ∷ back))) → Older w.time front → Newer w.time back
    → ahead w.put.thread (threads (pick t (front ++ (w ∷ back)))) ≡ how_many (λ v. t v && ltb v.time w.time) (front ++ (w ∷ back))
unfolding threads pick how_many ahead
in_bucket t w front back h d o n =
    let x : ℕ = w.put.thread in
    rw (how_many_append (λ v. t v && ltb v.time w.time) front (w ∷ back), how_many_older t w.time front o, how_many_newer t w.time back n, le-ltb w.time w.time (omega arith))
    (rw (pick_append t front (w ∷ back), h, threads_append (pick t front) (w ∷ pick t back))
    (ahead_right x (threads (pick t front)) _ (pick_absent t x front (distinct_apart x (threads front) (threads (w ∷ back)) (rw (threads_append front (w ∷ back)) at d) (has_head x (threads back))))
    ∙ rw (pick_length t front, eq-eqb x x refl)))

line_distinct : (p : Part) (q : Queue) → Distinct (order q) → Distinct (line_of p q)
unfolding buckets_of first_bucket order realtime_line timeshare_line idle_line
line_distinct part.Realtime q d = distinct_left (realtime_line q) _ d
line_distinct part.Timeshare q d = distinct_left (timeshare_line q) _ (distinct_right (realtime_line q) _ d)
line_distinct part.Idle q d = distinct_right (timeshare_line q) _ (distinct_right (realtime_line q) _ d)

pub has_around : (n : ℕ) (bs : Buckets) (i w d x : ℕ) → d < w → has x (bucket n bs (i + d)) ≡ true → has x (around n bs i w) ≡ true
has_around n bs i w d x h k =
    let r : ℕ = w - suc d in
    rw (around_at n bs i w d r (omega arith)) (has_right x (around n bs i d) _ (has_left x (bucket n bs (i + d)) _ k))

-- the three ways of being ahead exclude each other
ahead_count : (i : ℕ) (v w : Wait)
    → count (ahead_of i v w)
    ≡ count (earlier_part v w)
    + count ((same_part v w && ltb (how_far i w v) (how_far i w w)) || (same_part v w && eqb (how_far i w v) (how_far i w w) && ltb v.time w.time))
unfolding ahead_of earlier_part same_part
ahead_count i v w =
    both (ltb (rank v.put.part) (rank w.put.part))
    (λ e.
    let h : rank v.put.part < rank w.put.part = ltb-true _ _ e in
    rw (e, ne_eqb (rank v.put.part) (rank w.put.part) (λ f. omega arith)))
    (λ e. rw e (both (eqb (rank v.put.part) (rank w.put.part)) (λ f. rw f (omega arith)) (λ f. rw f)))

bucket_count : (i : ℕ) (v w : Wait)
    → count ((same_part v w && ltb (how_far i w v) (how_far i w w)) || (same_part v w && eqb (how_far i w v) (how_far i w w) && ltb v.time w.time))
    ≡ count (same_part v w && ltb (how_far i w v) (how_far i w w)) + count (same_part v w && eqb (how_far i w v) (how_far i w w) && ltb v.time w.time)
bucket_count i v w =
    both (ltb (how_far i w v) (how_far i w w))
    (λ e.
    let h : how_far i w v < how_far i w w = ltb-true _ _ e in
    rw (e, ne_eqb (how_far i w v) (how_far i w w) (λ f. omega arith)) (both (same_part v w) (λ f. rw f) (λ f. rw f)))
    (λ e. rw e (both (same_part v w) (λ f. rw f (omega arith)) (λ f. rw f)))

in_own_bucket : (t : Wait → Bool) (w : Wait) (ws : List Wait) → t w ≡ true → Distinct (threads ws) → Placed w ws
    → (has w.put.thread (threads (pick t ws)) ≡ true) × (ahead w.put.thread (threads (pick t ws)) ≡ how_many (λ v. t v && ltb v.time w.time) ws)
unfolding pick threads
in_own_bucket t w ws h d pl = (
  rw (pl.whole, pick_append t pl.front (w ∷ pl.back), h, threads_append (pick t pl.front) (w ∷ pick t pl.back))
      (has_right w.put.thread (threads (pick t pl.front)) _ (has_head w.put.thread _)),
  rw pl.whole (in_bucket t w pl.front pl.back h (rw pl.whole at d) pl.older pl.newer),
)

ahead_sum : (i : ℕ) (w : Wait) (ws : List Wait)
    → how_many (λ v. ahead_of i v w) ws
    ≡ how_many (λ v. earlier_part v w) ws
    + (how_many (λ v. same_part v w && ltb (how_far i w v) (how_far i w w)) ws
    + how_many (λ v. same_part v w && eqb (how_far i w v) (how_far i w w) && ltb v.time w.time) ws)
ahead_sum i w ws =
    let s : Wait → Bool = λ v. same_part v w && ltb (how_far i w v) (how_far i w w) in
    let t : Wait → Bool = λ v. same_part v w && eqb (how_far i w v) (how_far i w w) && ltb v.time w.time in
    let a = how_many_sum (λ v. ahead_of i v w) (λ v. earlier_part v w) (λ v. s v || t v) ws (λ v. ahead_count i v w) in
    let b = how_many_sum (λ v. s v || t v) s t ws (λ v. bucket_count i v w) in
    omega arith

has_order : (p : Part) (q : Queue) (x : ℕ) → has x (line_of p q) ≡ true → has x (order q) ≡ true
unfolding buckets_of first_bucket order realtime_line timeshare_line idle_line
has_order part.Realtime q x k = has_left x (realtime_line q) _ k
has_order part.Timeshare q x k = has_right x (realtime_line q) _ (has_left x (timeshare_line q) _ k)
has_order part.Idle q x k = has_right x (realtime_line q) _ (has_right x (timeshare_line q) _ k)

-- ---- THE PLACE: as many stand before a thread in the queue's order as are ahead of it
pub place : (q : Queue) (ws : List Wait) (w : Wait) → Shape q → Held q ws → Distinct (order q) → Distinct (threads ws) → Placed w ws
    → (has w.put.thread (order q) ≡ true) × (ahead w.put.thread (order q) ≡ how_many (λ v. ahead_of q.take_idx v w) ws)
unfolding earlier_part same_part how_far
place q ws w s held d dw pl =
    let x : ℕ = w.put.thread in
    let r : Part = w.put.part in
    let i : ℕ = first_of r q in
    let f : ℕ = onward i w.put.bucket in
    let f_in : f < nr_buckets = onward_in i w.put.bucket in
    let t : Wait → Bool = stands r (i + f) in
    let tw : t w ≡ true = stands_is r i f w (first_of_in r q s) f_in ∙ rw (eq-eqb (rank r) (rank r) refl, eq-eqb f f refl) in
    let own = in_own_bucket t w ws tw dw pl in
    let there : has x (bucket nr_buckets (buckets_of r q) (i + f)) ≡ true = rw (held r (i + f)) own.0 in
    let line : has x (line_of r q) ≡ true = has_around nr_buckets (buckets_of r q) i nr_buckets f x f_in there in
    let a = in_order r q ws x s held d line in
    let b = in_line r q ws x f s held (line_distinct r q d) f_in there in
    let c : ahead x (bucket nr_buckets (buckets_of r q) (i + f)) ≡ how_many (λ v. t v && ltb v.time w.time) ws = rw (held r (i + f)) own.1 in
    let e : how_many (λ v. t v && ltb v.time w.time) ws
    ≡ how_many (λ v. eqb (rank v.put.part) (rank r) && eqb (onward i v.put.bucket) f && ltb v.time w.time) ws =
    how_many_same _ _ ws (λ v. rw (stands_is r i f v (first_of_in r q s) f_in)) in
    (has_order r q x line, a ∙ rw (b, c, e) (sym (ahead_sum q.take_idx w ws)))
