-- Lemmas about Buckets.
use Prim.Native.Nat.{ℕ, zero, suc, ◌+◌, ◌-◌, ◌%◌, ◌≤◌, ◌<◌}
use Rattle.std.proofs.Math.Path.{◌≡◌, refl, ap}
use Rattle.std.proofs.Common.{sym, ◌∙◌, inl, inr, get_or-set_other, ltb-true, ltb-false, zero-add, mod-lt, mod-eq_of_lt, add-one, arith}
use Rattle.std.specs.Prelude.{◌≢◌, ◌⊎◌, length, set, ltb}
use mathlib.Core.List.{List, [], ◌∷◌, ◌++◌, append_assoc, append-nil}
use Rattle.std.proofs.Math.ListN.{length-set}
use Rattle.std.proofs.Math.Seq.{get_or-set_same}
use Rattle.std.proofs.Math.Nat.{suc-add, add-suc, add-zero, add-mod_right, mod-mod, suc-mod, mod-eq-sub-mod, mod-add-mod}
use Rattle.rules.proofs.Laws.Line.{Comes, both}
use Rattle.rules.specs.Buckets.{Buckets, bucket, around, oldest, scan, join, pop, nothing, found}

-- ---- counting round

-- below twice n, the remainder is the number, or n less
wrap : (n s : ℕ) → s < n + n → ((s < n) × (s % n ≡ s)) ⊎ ((n ≤ s) × (s % n + n ≡ s))
wrap n s h =
    both (ltb s n)
    (λ p. inl (ltb-true s n p, mod-eq_of_lt (ltb-true s n p)))
    (λ p.
    let q : n ≤ s = ltb-false s n p in
    let r : s - n < n = omega arith in
    inr (q, rw (mod-eq-sub-mod q, mod-eq_of_lt r) (omega arith)))

-- each bucket is met in a round, and once
pub round_meets : (n i j : ℕ) → j < n → (m : ℕ) × (m < n) × ((i + m) % n ≡ j)
round_meets n i j h =
    let pos : 0 < n = omega arith in
    let e : i % n < n = mod-lt i pos in
    both (ltb j (i % n))
    (λ p.
    let q : j < i % n = ltb-true j (i % n) p in
    let m : ℕ = (n + j) - i % n in
    let s : i % n + m ≡ j + n = omega arith in
    (m, omega arith, sym (mod-add-mod i n m) ∙ (rw (s, add-mod_right, mod-eq_of_lt h))))
    (λ p.
    let q : i % n ≤ j = ltb-false j (i % n) p in
    let m : ℕ = j - i % n in
    let s : i % n + m ≡ j = omega arith in
    (m, omega arith, sym (mod-add-mod i n m) ∙ (rw (s, mod-eq_of_lt h))))

pub round_once : (n i m k : ℕ) → m < n → k < n → (i + m) % n ≡ (i + k) % n → m ≡ k
round_once n i m k p q e =
    let r : i % n < n = mod-lt i (omega arith) in
    go (wrap n (i % n + m) (omega arith)) (wrap n (i % n + k) (omega arith)) (mod-add-mod i n m ∙ e ∙ sym (mod-add-mod i n k))
  where
    go : ((i % n + m < n) × ((i % n + m) % n ≡ i % n + m)) ⊎ ((n ≤ i % n + m) × ((i % n + m) % n + n ≡ i % n + m))
        → ((i % n + k < n) × ((i % n + k) % n ≡ i % n + k)) ⊎ ((n ≤ i % n + k) × ((i % n + k) % n + n ≡ i % n + k))
        → (i % n + m) % n ≡ (i % n + k) % n → m ≡ k
    go (inl a) (inl b) f = omega arith
    go (inl a) (inr b) f = omega arith
    go (inr a) (inl b) f = omega arith
    go (inr a) (inr b) f = omega arith

-- ---- reading round

module _ (n : ℕ) where
  -- two indexes that stand for one bucket read alike
  pub around_mod : (bs : Buckets) (i j k : ℕ) → i % n ≡ j % n → around n bs i k ≡ around n bs j k
  unfolding around bucket
  around_mod bs i j zero e = refl
  around_mod bs i j (suc k) e = rw (e, around_mod bs (suc i) (suc j) k (rw (suc-mod i n, e, ← suc-mod j n)))

  pub around_split : (bs : Buckets) (i m k : ℕ) → around n bs i (m + k) ≡ around n bs i m ++ around n bs (i + m) k
  unfolding around
  around_split bs i zero k = rw (zero-add, add-zero)
  around_split bs i (suc m) k = rw (suc-add, add-suc, around_split bs (suc i) m k, suc-add, append_assoc)

  -- a bucket that is not met does not matter
  around_set : (bs : Buckets) (j : ℕ) (v : List ℕ) (i k : ℕ) → ((t : ℕ) → t < k → (i + t) % n ≢ j) → around n (set bs j v) i k ≡ around n bs i k
  unfolding around bucket
  around_set bs j v i zero h = refl
  around_set bs j v i (suc k) h =
      rw (get_or-set_other bs j (i % n) v [] (rw add-zero at (h 0 (omega arith))), around_set bs j v (suc i) k (λ t l. rw (suc-add, ← add-suc) (h (suc t) (omega arith))))

  -- a round is: the buckets before the one at i + m, that bucket, and the others
  pub around_at : (bs : Buckets) (i w m k : ℕ) → w ≡ m + suc k → around n bs i w ≡ around n bs i m ++ (bucket n bs (i + m) ++ around n bs (suc (i + m)) k)
  unfolding around
  around_at bs i w m k e = ap (around n bs i) e ∙ around_split bs i m (suc k)

  around_before : (bs : Buckets) (v : List ℕ) (i m : ℕ) → m < n → around n (set bs ((i + m) % n) v) i m ≡ around n bs i m
  around_before bs v i m l = around_set bs ((i + m) % n) v i m
      (λ t h f. let z : t ≡ m = round_once n i t m (omega arith) (omega arith) f in omega arith)

  around_behind : (bs : Buckets) (v : List ℕ) (i m k : ℕ) → n ≡ m + suc k → around n (set bs ((i + m) % n) v) (suc (i + m)) k ≡ around n bs (suc (i + m)) k
  around_behind bs v i m k e = around_set bs ((i + m) % n) v (suc (i + m)) k
      (λ t h f.
      let s : suc (i + m) + t ≡ i + (m + suc t) = omega arith in
      let z : m + suc t ≡ m = round_once n i (m + suc t) m (omega arith) (omega arith) (rw s at f) in
      omega arith)

  pub bucket_mod : (bs : Buckets) (i : ℕ) → bucket n bs (i % n) ≡ bucket n bs i
  unfolding bucket
  bucket_mod bs i = rw mod-mod

  pub bucket_set : (bs : Buckets) (v : List ℕ) (i : ℕ) → length bs ≡ n → 0 < n → bucket n (set bs (i % n) v) i ≡ v
  unfolding bucket
  bucket_set bs v i l h = get_or-set_same bs (i % n) v [] (rw l (mod-lt i h))

  around_set_at : (bs : Buckets) (v : List ℕ) (i m k : ℕ) → length bs ≡ n → n ≡ m + suc k
      → around n (set bs ((i + m) % n) v) i n ≡ around n bs i m ++ (v ++ around n bs (suc (i + m)) k)
  around_set_at bs v i m k l e =
      around_at (set bs ((i + m) % n) v) i n m k e
      ∙ rw (around_before bs v i m (omega arith), around_behind bs v i m k e, bucket_set bs v (i + m) l (omega arith))

  join_at : (bs : Buckets) (i j x m k : ℕ) → length bs ≡ n → n ≡ m + suc k → (i + m) % n ≡ j → Comes x (around n bs i n) (around n (join bs j x) i n)
  unfolding join bucket
  join_at bs i j x m k l e q = record {
    front = around n bs i m ++ bucket n bs (i + m);
    back = around n bs (suc (i + m)) k;
    before = around_at bs i n m k e ∙ simp append_assoc;
    after = rw (← q) (around_set_at bs (bucket n bs (i + m) ++ (x ∷ [])) i m k l e ∙ simp append_assoc);
  }

  -- a thread that joins comes into the line behind those of its bucket, and nobody else moves
  pub around_join : (bs : Buckets) (i j x : ℕ) → length bs ≡ n → j < n → Comes x (around n bs i n) (around n (join bs j x) i n)
  around_join bs i j x l h = let (m, p, q) = round_meets n i j h in join_at bs i j x m (n - suc m) l (omega arith) q

  pub length_join : (bs : Buckets) (j x : ℕ) → length bs ≡ n → length (join bs j x) ≡ n
  unfolding join
  length_join bs j x l = length-set bs j _ ∙ l

  pub length_pop : (bs : Buckets) (j : ℕ) → length bs ≡ n → length (pop bs j) ≡ n
  unfolding pop
  length_pop bs j l = length-set bs j _ ∙ l

  -- what a scan found: it passed some empty buckets
  pub record Hit (bs : Buckets) (i k j x : ℕ) : Type 0 where
    pub passed : ℕ
    pub rest : List ℕ
    pub short : passed < k
    pub place : j ≡ (i + passed) % n
    pub holds : bucket n bs (i + passed) ≡ x ∷ rest
    pub clear : around n bs i passed ≡ []

  pub scan_nothing : (bs : Buckets) (i k : ℕ) → scan n bs i k ≡ nothing → around n bs i k ≡ []
  unfolding scan around oldest
  scan_nothing bs i zero e = refl
  scan_nothing bs i (suc k) e = go (bucket n bs i) refl (scan_nothing bs (suc i) k)
    where
      go : (l : List ℕ) → bucket n bs i ≡ l → (scan n bs (suc i) k ≡ nothing → around n bs (suc i) k ≡ []) → bucket n bs i ++ around n bs (suc i) k ≡ []
      go [] f ih = rw f (ih (rw f at e))
      go (x ∷ l) f ih = let z : found (i % n) x ≡ nothing = rw f at e in cc

  pub scan_found : (bs : Buckets) (i k j x : ℕ) → scan n bs i k ≡ found j x → Hit bs i k j x
  unfolding scan around oldest
  scan_found bs i zero j x e = let z : ◌≡◌ {A = ℕ} 0 1 = cc in absurd (omega arith)
  scan_found bs i (suc k) j x e = go (bucket n bs i) refl (scan_found bs (suc i) k j x)
    where
      go : (l : List ℕ) → bucket n bs i ≡ l → (scan n bs (suc i) k ≡ found j x → Hit bs (suc i) k j x) → Hit bs i (suc k) j x
      go [] f ih =
          let h : Hit bs (suc i) k j x = ih (rw f at e) in
          record {
            passed = suc h.passed;
            rest = h.rest;
            short = omega (arith, h.short);
            place = rw (add-suc, ← suc-add) h.place;
            holds = rw (add-suc, ← suc-add) h.holds;
            clear = rw f h.clear;
          }
      go (y ∷ l) f ih =
          let z : found (i % n) y ≡ found j x = rw f at e in
          record {
            passed = 0;
            rest = l;
            short = omega arith;
            place = rw add-zero (cc);
            holds = rw add-zero (cc);
            clear = refl;
          }

  -- empty buckets may be passed over
  pub around_turn : (bs : Buckets) (i m : ℕ) → m ≤ n → around n bs i m ≡ [] → around n bs (i + m) n ≡ around n bs i n
  around_turn bs i m h e =
      let k : ℕ = n - m in
      let p : n ≡ k + m = omega arith in
      let q : n ≡ m + k = omega arith in
      let s : i + m + k ≡ i + n = omega arith in
      ap (around n bs (i + m)) p ∙ around_split bs (i + m) k m
      ∙ rw (s, around_mod bs (i + n) i m (add-mod_right i n), e, append-nil) (sym (ap (around n bs i) q ∙ around_split bs i m k ∙ rw e))

  module _ (bs : Buckets) (i j x : ℕ) (l : length bs ≡ n) (hit : Hit bs i n j x) where
    pub pop_is : pop bs j ≡ set bs ((i + hit.passed) % n) hit.rest
    unfolding pop bucket
    pop_is = rw (hit.place, hit.holds)

    -- the thread found is the head of the line, and what is left is the tail
    pub around_pop : around n bs i n ≡ x ∷ around n (pop bs j) i n
    around_pop =
        let m : ℕ = hit.passed in
        let k : ℕ = n - suc m in
        let s : m < n = hit.short in
        let e : n ≡ m + suc k = omega arith in
        around_at bs i n m k e ∙ rw (hit.clear, hit.holds, pop_is, around_set_at bs hit.rest i m k l e, hit.clear)

    -- the bucket found keeps its younger threads
    pub bucket_pop : bucket n (pop bs j) j ≡ hit.rest
    bucket_pop = let s : hit.passed < n = hit.short in
        rw (pop_is, hit.place, bucket_mod) (bucket_set bs hit.rest (i + hit.passed) l (omega arith))

    -- the index may move to the bucket found
    pub around_pop_there : around n (pop bs j) j n ≡ around n (pop bs j) i n
    around_pop_there =
        let m : ℕ = hit.passed in
        let s : m < n = hit.short in
        around_mod (pop bs j) j (i + m) n (rw (hit.place, mod-mod))
        ∙ around_turn (pop bs j) i m (omega arith) (rw (pop_is, around_before bs hit.rest i m s, hit.clear))

    -- and one further if that bucket is now empty
    pub around_pop_next : bucket n (pop bs j) j ≡ [] → around n (pop bs j) (suc j % n) n ≡ around n (pop bs j) i n
    unfolding around
    around_pop_next e =
        let s : hit.passed < n = hit.short in
        around_mod (pop bs j) (suc j % n) (j + 1) n (rw (mod-mod, add-one)) ∙ around_turn (pop bs j) j 1 (omega arith) (rw e) ∙ around_pop_there
