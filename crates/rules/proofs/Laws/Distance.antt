-- How far a thread's bucket is from the index that a round starts at, and how that falls. Any number of buckets.
use Prim.Native.Nat.{ℕ, zero, suc, ◌+◌, ◌-◌, ◌*◌, ◌%◌, ◌≤◌, ◌<◌}
use Rattle.std.specs.Prelude.{◌≡◌, refl, ◌≢◌, true, false, set, eqb, leb}
use Rattle.std.proofs.Math.Path.{sym, ap}
use Rattle.std.proofs.Common.{◌∙◌, length-append, get_or-set_same, eqb-true, leb-true, leb-false, mod-lt}
use Rattle.std.proofs.Math.Bool.{false≢true}
use mathlib.Core.List.{List, [], ◌∷◌, ◌++◌, tail}
use Rattle.std.proofs.Math.ListN.{length}
use Rattle.std.proofs.Math.Seq.{get_or-set_other}
use Rattle.std.proofs.lemmas.Bool.{eqb-false}
use Rattle.std.proofs.Math.Nat.{mod-add-mod, add-zero}
use native.Mathlib.Omega.{arith}
use Rattle.rules.specs.Line.{has, ahead}
use Rattle.rules.proofs.Laws.Line.{both, has_append}
use Rattle.rules.specs.Buckets.{Buckets, bucket, around, join, pop}
use Rattle.rules.proofs.Laws.Buckets.{Hit, round_once, around_at, bucket_set, pop_is, bucket_pop}

-- full buckets before it, and one more
pub room : (l f n b : ℕ) → f < n → b ≤ l → l * f + b ≤ l * n
room l f n b h k =
    let m : ℕ = n - suc f in
    let e : n ≡ suc f + m = omega arith in
    rw e (omega arith)

-- who stands in the first of two lines has only those of that line before it
pub ahead_first : (x : ℕ) (l m : List ℕ) → has x l ≡ true → ahead x (l ++ m) < length l
unfolding has ahead
ahead_first x [] m h = absurd (false≢true h)
ahead_first x (y ∷ l) m h = both (eqb y x) (λ p. rw p (omega arith)) (λ p. rw p (omega (arith, ahead_first x l m (rw p at h))))

nil_left : (l m : List ℕ) → l ++ m ≡ [] → l ≡ []
nil_left [] m e = refl
nil_left (x ∷ l) m e = cc

nil_right : (l m : List ℕ) → l ++ m ≡ [] → m ≡ []
nil_right [] m e = e
nil_right (x ∷ l) m e = cc

module _ (n : ℕ) where
  pub bucket_cong : (bs : Buckets) (i j : ℕ) → i % n ≡ j % n → bucket n bs i ≡ bucket n bs j
  unfolding bucket
  bucket_cong bs i j e = rw e

  pub bucket_clear : (bs : Buckets) (i m t : ℕ) → around n bs i m ≡ [] → t < m → bucket n bs (i + t) ≡ []
  bucket_clear bs i m t e h =
      let k : ℕ = m - suc t in
      nil_left (bucket n bs (i + t)) (around n bs (suc (i + t)) k) (nil_right (around n bs i t) _ (sym (around_at n bs i m t k (omega arith)) ∙ e))

  -- no bucket holds more than the line
  pub bucket_length : (bs : Buckets) (i t : ℕ) → t < n → length (bucket n bs (i + t)) ≤ length (around n bs i n)
  bucket_length bs i t h =
      let k : ℕ = n - suc t in
      rw (around_at n bs i n t k (omega arith)) (simp length-append (omega arith))

  bucket_set_other : (bs : Buckets) (v : List ℕ) (i m t : ℕ) → m < n → t < n → t ≢ m → bucket n (set bs ((i + m) % n) v) (i + t) ≡ bucket n bs (i + t)
  unfolding bucket
  bucket_set_other bs v i m t p q h = get_or-set_other bs ((i + m) % n) ((i + t) % n) v [] (λ e. h (round_once n i t m q p e))

  -- a thread that joins another bucket leaves this one as it was
  pub bucket_join_other : (bs : Buckets) (i j x : ℕ) → i % n ≢ j → bucket n (join bs j x) i ≡ bucket n bs i
  unfolding bucket join
  bucket_join_other bs i j x h = get_or-set_other bs j (i % n) _ [] h

  pub bucket_join : (bs : Buckets) (i j x : ℕ) → length bs ≡ n → 0 < n → i % n ≡ j → bucket n (join bs j x) i ≡ bucket n bs i ++ (x ∷ [])
  unfolding bucket join
  bucket_join bs i j x l p e = rw (← e) (get_or-set_same bs (i % n) _ [] (rw l (mod-lt i p)))

  pub bucket_pop_other : (bs : Buckets) (i j : ℕ) → i % n ≢ j → bucket n (pop bs j) i ≡ bucket n bs i
  unfolding bucket pop
  bucket_pop_other bs i j h = get_or-set_other bs j (i % n) _ [] h

  pub bucket_pop_same : (bs : Buckets) (i j : ℕ) → length bs ≡ n → 0 < n → i % n ≡ j → bucket n (pop bs j) i ≡ tail (bucket n bs i)
  unfolding bucket pop
  bucket_pop_same bs i j l p e = rw (← e) (get_or-set_same bs (i % n) _ [] (rw l (mod-lt i p)))

  -- x stands in the bucket that is far from index i, and p bounds how many can leave until it has left
  pub record Near (limit : ℕ) (bs : Buckets) (i x p : ℕ) : Type 0 where
    pub far : ℕ
    pub far_in : far < n
    pub there : has x (bucket n bs (i + far)) ≡ true
    pub most : p ≡ limit * far + length (bucket n bs i)

  has_join : (bs : Buckets) (i j x y : ℕ) → length bs ≡ n → 0 < n → has x (bucket n bs i) ≡ true → has x (bucket n (join bs j y) i) ≡ true
  has_join bs i j x y l p h =
      both (eqb (i % n) j)
      (λ e. rw (bucket_join bs i j y l p (eqb-true _ _ e), has_append, h))
      (λ e. rw (bucket_join_other bs i j y (eqb-false _ _ e)) h)

  -- one who joins any bucket but that at the index changes nothing
  pub near_join : {limit : ℕ} {bs : Buckets} {i x p : ℕ} (j y : ℕ) → length bs ≡ n → i % n ≢ j → Near limit bs i x p → Near limit (join bs j y) i x p
  near_join {limit} {bs} {i} {x} {p} j y l h c = record {
    far = c.far;
    far_in = c.far_in;
    there = has_join bs (i + c.far) j x y l (omega (arith, c.far_in)) c.there;
    most = rw (bucket_join_other bs i j y h) c.most;
  }

  module _ (limit : ℕ) (bs : Buckets) (i j x y : ℕ) (l : length bs ≡ n) (fits : length (around n bs i n) ≤ limit) (hit : Hit n bs i n j y) (other : eqb y x ≡ false) where
    -- the scan does not pass the bucket where x stands
    not_passed : (f : ℕ) → has x (bucket n bs (i + f)) ≡ true → (hit.passed ≤ f → ⊥) → ⊥
    unfolding has
    not_passed f h k =
        let z : bucket n bs (i + f) ≡ [] = bucket_clear bs i hit.passed f hit.clear (omega arith) in
        false≢true (rw z at h)

    -- the buckets but the one found are as they were
    pop_other : (t : ℕ) → t < n → t ≢ hit.passed → bucket n (pop bs j) (i + t) ≡ bucket n bs (i + t)
    pop_other t h k = rw (pop_is n bs i j y l hit) (bucket_set_other bs hit.rest i hit.passed t hit.short h k)

    -- counted from the bucket found, and from the next
    from_there : (t : ℕ) → (j + t) % n ≡ (i + (hit.passed + t)) % n
    from_there t = let e : i + (hit.passed + t) ≡ (i + hit.passed) + t = omega arith in rw (e, hit.place, mod-add-mod)

    from_next : (t : ℕ) → (suc j % n + t) % n ≡ (i + (hit.passed + suc t)) % n
    from_next t =
        let e : suc j + t ≡ j + suc t = omega arith in
        rw (mod-add-mod, e) (from_there (suc t))

    held : suc (length hit.rest) ≤ limit
    held =
        let e : length (bucket n bs (i + hit.passed)) ≡ suc (length hit.rest) = rw hit.holds in
        omega (arith, bucket_length bs i hit.passed hit.short)

    -- what the scan cost: nothing but the thread found, or the buckets passed, which were empty
    cost : (f : ℕ) → limit * f + suc (length hit.rest) ≤ limit * (hit.passed + f) + length (bucket n bs i)
    cost f = go hit.passed refl
      where
        go : (m : ℕ) → hit.passed ≡ m → limit * f + suc (length hit.rest) ≤ limit * (hit.passed + f) + length (bucket n bs i)
        go zero e =
            let z : length (bucket n bs i) ≡ suc (length hit.rest) = ap length (rw (e, add-zero) at hit.holds) in
            rw e (omega arith)
        go (suc m) e = rw e (omega (arith, held))

    -- the bucket found is x's, or one before it
    split : (p : ℕ) (c : Near limit bs i x p) → (f : ℕ) × (c.far ≡ hit.passed + f)
    split p c =
        both (leb hit.passed c.far)
        (λ e. let h : hit.passed ≤ c.far = leb-true _ _ e in (c.far - hit.passed, omega arith))
        (λ e. let h : c.far < hit.passed = leb-false _ _ e in absurd (not_passed c.far c.there (λ k. omega arith)))

    -- x waits yet in its bucket
    has_rest : has x (bucket n bs (i + hit.passed)) ≡ true → has x hit.rest ≡ true
    unfolding has
    has_rest h = rw (hit.holds, other) at h

    pop_has : (t : ℕ) → t < n → has x (bucket n bs (i + t)) ≡ true → has x (bucket n (pop bs j) (i + t)) ≡ true
    pop_has t h k =
        both (eqb t hit.passed)
        (λ e.
        let z : t ≡ hit.passed = eqb-true _ _ e in
        rw (z, pop_is n bs i j y l hit, bucket_set n bs hit.rest (i + hit.passed) l (omega arith)) (has_rest (rw z at k)))
        (λ e. rw (pop_other t h (eqb-false _ _ e)) k)

    -- the bound has come down: the index stays at the bucket found
    pub near_there : {p : ℕ} → Near limit bs i x p → (p' : ℕ) × Near limit (pop bs j) j x p' × (p' < p)
    near_there {p} c =
        let (f, e) = split p c in
        let q = c.most in
        let r : hit.passed + f < n = omega (arith, c.far_in) in (
          limit * f + length hit.rest,
          record {
            far = f;
            far_in = omega arith;
            there = rw (bucket_cong (pop bs j) _ _ (from_there f)) (pop_has (hit.passed + f) r (rw e at c.there));
            most = rw (bucket_pop n bs i j y l hit);
          },
          omega (arith, cost f, rw e at q),
        )

    -- the same if the index goes one further
    pub near_next : {p : ℕ} → bucket n (pop bs j) j ≡ [] → Near limit bs i x p → (p' : ℕ) × Near limit (pop bs j) (suc j % n) x p' × (p' < p)
    unfolding has
    near_next {p} none_left c = let (f, e) = split p c in go f e c.most
      where
        go : (f : ℕ) → c.far ≡ hit.passed + f → p ≡ limit * c.far + length (bucket n bs i) → (p' : ℕ) × Near limit (pop bs j) (suc j % n) x p' × (p' < p)
        go zero e q =
            let z : hit.rest ≡ [] = sym (bucket_pop n bs i j y l hit) ∙ none_left in
            absurd (false≢true (rw z at (has_rest (rw (e, add-zero) at c.there))))
        go (suc f) e q =
            let r : hit.passed + suc f < n = omega (arith, c.far_in) in
            let t : ℕ = hit.passed + 1 in
            let k : t < n = omega arith in
            let d : t ≢ hit.passed = λ w. omega arith in
            let v : (suc j % n) % n ≡ (i + t) % n = rw add-zero at (from_next 0) in
            let u : length (bucket n (pop bs j) (suc j % n)) ≡ length (bucket n bs (i + t)) = ap length (bucket_cong (pop bs j) (suc j % n) (i + t) v ∙ pop_other t k d) in (
              limit * f + length (bucket n (pop bs j) (suc j % n)),
              record {
                far = f;
                far_in = omega arith;
                there = rw (bucket_cong (pop bs j) _ _ (from_next f)) (pop_has (hit.passed + suc f) r (rw e at c.there));
                most = refl;
              },
              omega (arith, bucket_length bs i t k, cost (suc f), rw e at q),
            )
