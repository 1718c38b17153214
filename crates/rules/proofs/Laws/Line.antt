-- Lemmas about Line.
use Rattle.std.specs.Prelude.{ℕ, zero, suc, ◌+◌, ◌≤◌, ◌<◌, ◌≡◌, refl, Bool, true, false, cond, ◌||◌, List, [], ◌∷◌, ◌++◌, length, take, drop, ◌⊎◌, eqb, ltb}
use Rattle.std.proofs.Common.{sym, ◌∙◌, true≢false, append_assoc, length-append, inl, inr, eqb-true, eq-eqb, ne_eqb, lt-ltb, arith}
use Rattle.std.proofs.lemmas.Bool.{false≢true, eqb-false}
use Rattle.std.proofs.Math.Seq.{take-append_seam, drop-append_seam}
use Rattle.std.proofs.Math.Dec.{leb-suc-suc, leb-suc-zero}
use Rattle.rules.specs.Line.{has, ahead, count, Distinct, Below}

-- ---- for proofs

-- a case split on a test, with the equation in each case
abbrev pub both {ℓ} : {A : Type ℓ} (t : Bool) → (t ≡ true → A) → (t ≡ false → A) → A
both true f g = f refl
both false f g = g refl

-- what holds of both holds of the one that a test picks
pub of_either {ℓ κ} : {A : Type ℓ} (P : A → Type κ) (t : Bool) (a b : A) → P a → P b → P (cond t a b)
of_either P true a b p q = p
of_either P false a b p q = q

-- y comes in somewhere: the others keep their order
pub record Comes (y : ℕ) (l m : List ℕ) : Type 0 where
  pub front : List ℕ
  pub back : List ℕ
  pub before : l ≡ front ++ back
  pub after : m ≡ front ++ y ∷ back

pub has_append : (x : ℕ) (l m : List ℕ) → has x (l ++ m) ≡ (has x l || has x m)
unfolding has
has_append x [] m = refl
has_append x (y ∷ l) m = both (eqb y x) (λ p. rw p) (λ p. rw p (has_append x l m))

has_insert : (y x : ℕ) (f b : List ℕ) → has x (f ++ y ∷ b) ≡ (eqb y x || has x (f ++ b))
unfolding has
has_insert y x [] b = refl
has_insert y x (z ∷ f) b = both (eqb z x) (λ p. rw p (both (eqb y x) (λ q. rw q) (λ q. rw q))) (λ p. rw p (has_insert y x f b))

-- if y was not in the line, it is ahead of x just after exactly when x has one more before it
ahead_insert : (y x : ℕ) (f b : List ℕ) → has y (f ++ b) ≡ false → eqb y x ≡ false
    → ahead x (f ++ y ∷ b) ≡ ahead x (f ++ b) + count (ltb (ahead y (f ++ y ∷ b)) (ahead x (f ++ y ∷ b)))
unfolding ahead has
ahead_insert y x [] b h e = rw (e, eq-eqb y y refl, lt-ltb 0 (suc (ahead x b)) (omega arith)) (omega arith)
ahead_insert y x (z ∷ f) b h e =
    both (eqb z y) (λ q. absurd (true≢false (rw q at h))) λ q.
    let ih : ahead x (f ++ y ∷ b) ≡ ahead x (f ++ b) + count (ltb (ahead y (f ++ y ∷ b)) (ahead x (f ++ y ∷ b))) = ahead_insert y x f b (rw q at h) e in
    both (eqb z x) (λ p. rw (p, q, leb-suc-zero)) (λ p. rw (p, q, leb-suc-suc) (omega arith))

distinct_insert : (y : ℕ) (f b : List ℕ) → has y (f ++ b) ≡ false → Distinct (f ++ b) → Distinct (f ++ y ∷ b)
unfolding Distinct has
distinct_insert y [] b h d = (h, d)
distinct_insert y (z ∷ f) b h d =
    both (eqb z y) (λ q. absurd (true≢false (rw q at h))) λ q.
    (rw (has_insert y z f b, ne_eqb y z (λ r. eqb-false z y q (sym r))) d.0, distinct_insert y f b (rw q at h) d.1)

below_insert : (n y : ℕ) (f b : List ℕ) → y < n → Below n (f ++ b) → Below n (f ++ y ∷ b)
unfolding Below
below_insert n y [] b h d = (h, d)
below_insert n y (z ∷ f) b h d = (d.0, below_insert n y f b h d.1)

module _ {y : ℕ} {l m : List ℕ} (c : Comes y l m) where
  pub comes_has : (x : ℕ) → has x m ≡ (eqb y x || has x l)
  comes_has x = rw (c.before, c.after) (has_insert y x c.front c.back)

  pub comes_ahead : (x : ℕ) → has y l ≡ false → eqb y x ≡ false → ahead x m ≡ ahead x l + count (ltb (ahead y m) (ahead x m))
  comes_ahead x h e = rw (c.before, c.after) (ahead_insert y x c.front c.back (rw c.before at h) e)

  pub comes_distinct : has y l ≡ false → Distinct l → Distinct m
  comes_distinct h d = rw c.after (distinct_insert y c.front c.back (rw c.before at h) (rw c.before at d))

  pub comes_below : (n : ℕ) → y < n → Below n l → Below n m
  comes_below n h d = rw c.after (below_insert n y c.front c.back h (rw c.before at d))

  pub comes_length : length m ≡ suc (length l)
  comes_length = rw (c.before, c.after) (omega (arith, length-append c.front c.back, length-append c.front (y ∷ c.back)))

  -- the same with others in front, or behind
  pub comes_behind : (s : List ℕ) → Comes y (s ++ l) (s ++ m)
  comes_behind s = record {
    front = s ++ c.front;
    back = c.back;
    before = rw c.before (simp append_assoc);
    after = rw c.after (simp append_assoc);
  }

  pub comes_before : (t : List ℕ) → Comes y (l ++ t) (m ++ t)
  comes_before t = record {
    front = c.front;
    back = c.back ++ t;
    before = rw c.before (simp append_assoc);
    after = rw c.after (simp append_assoc);
  }

-- one who waits is not one who does not
pub not_same : (x y : ℕ) (l : List ℕ) → has x l ≡ true → has y l ≡ false → eqb y x ≡ false
not_same x y l h k = ne_eqb y x (λ e. true≢false (sym h ∙ (rw e at k)))

pub ahead_lt : (x : ℕ) (l : List ℕ) → has x l ≡ true → ahead x l < length l
unfolding ahead has
ahead_lt x [] h = absurd (false≢true h)
ahead_lt x (y ∷ l) h = both (eqb y x) (λ p. rw p (omega arith)) (λ p. rw p (omega (arith, ahead_lt x l (rw p at h))))

-- ---- two lines one behind the other

pub has_left : (x : ℕ) (l m : List ℕ) → has x l ≡ true → has x (l ++ m) ≡ true
has_left x l m h = has_append x l m ∙ rw h

pub has_right : (x : ℕ) (l m : List ℕ) → has x m ≡ true → has x (l ++ m) ≡ true
has_right x l m h = has_append x l m ∙ rw h (both (has x l) (λ e. rw e) (λ e. rw e))

pub has_either : (x : ℕ) (l m : List ℕ) → has x (l ++ m) ≡ true → (has x l ≡ true) ⊎ (has x m ≡ true)
has_either x l m h = both (has x l) (λ e. inl e) (λ e. inr (rw (has_append x l m, e) at h))

pub ahead_left : (x : ℕ) (l m : List ℕ) → has x l ≡ true → ahead x (l ++ m) ≡ ahead x l
unfolding has ahead
ahead_left x [] m h = absurd (false≢true h)
ahead_left x (y ∷ l) m h = both (eqb y x) (λ p. rw p) (λ p. rw (p, ahead_left x l m (rw p at h)))

pub ahead_right : (x : ℕ) (l m : List ℕ) → has x l ≡ false → ahead x (l ++ m) ≡ length l + ahead x m
unfolding has ahead
ahead_right x [] m h = omega arith
ahead_right x (y ∷ l) m h = both (eqb y x) (λ p. absurd (true≢false (rw p at h))) (λ p. rw (p, ahead_right x l m (rw p at h)) (omega arith))

pub distinct_right : (l m : List ℕ) → Distinct (l ++ m) → Distinct m
unfolding Distinct
distinct_right [] m d = d
distinct_right (x ∷ l) m d = distinct_right l m d.1

pub distinct_left : (l m : List ℕ) → Distinct (l ++ m) → Distinct l
unfolding Distinct
distinct_left [] m d = tt
distinct_left (x ∷ l) m d = (both (has x l) (λ e. absurd (true≢false (sym (has_left x l m e) ∙ d.0))) (λ e. e), distinct_left l m d.1)

pub distinct_apart : (x : ℕ) (l m : List ℕ) → Distinct (l ++ m) → has x m ≡ true → has x l ≡ false
unfolding Distinct has
distinct_apart x [] m d h = refl
distinct_apart x (y ∷ l) m d h =
    both (eqb y x)
    (λ p. absurd (true≢false (sym (has_right x l m h) ∙ (rw (eqb-true y x p) at d.0))))
    (λ p. rw p (distinct_apart x l m d.1 h))

-- who stands in the first is ahead of who stands in the second
pub ahead_earlier : (y x : ℕ) (l m : List ℕ) → Distinct (l ++ m) → has y l ≡ true → has x m ≡ true → ahead y (l ++ m) < ahead x (l ++ m)
ahead_earlier y x l m d h k =
    rw (ahead_left y l m h, ahead_right x l m (distinct_apart x l m d k)) (omega (arith, ahead_lt y l h))

-- and who is ahead in either is ahead
pub ahead_in_left : (y x : ℕ) (l m : List ℕ) → has y l ≡ true → has x l ≡ true → ahead y l < ahead x l → ahead y (l ++ m) < ahead x (l ++ m)
ahead_in_left y x l m h k a = rw (ahead_left y l m h, ahead_left x l m k) a

pub ahead_in_right : (y x : ℕ) (l m : List ℕ) → Distinct (l ++ m) → has y m ≡ true → has x m ≡ true → ahead y m < ahead x m → ahead y (l ++ m) < ahead x (l ++ m)
ahead_in_right y x l m d h k a = rw (ahead_right y l m (distinct_apart y l m d h), ahead_right x l m (distinct_apart x l m d k)) (omega arith)

-- where y comes in: behind as many as are ahead of it just after
ahead_self : (y : ℕ) (f b : List ℕ) → has y (f ++ b) ≡ false → ahead y (f ++ y ∷ b) ≡ length f
unfolding has ahead
ahead_self y [] b h = rw (eq-eqb y y refl)
ahead_self y (z ∷ f) b h = both (eqb z y) (λ p. absurd (true≢false (rw p at h))) (λ p. rw (p, ahead_self y f b (rw p at h)))

pub comes_at : {y : ℕ} {l m : List ℕ} → Comes y l m → has y l ≡ false → m ≡ take (ahead y m) l ++ y ∷ drop (ahead y m) l
comes_at {y} {l} {m} c h =
    let a : ahead y m ≡ length c.front = rw c.after (ahead_self y c.front c.back (rw c.before at h)) in
    rw (a, c.before, take-append_seam, drop-append_seam) c.after

-- ---- n threads, each once, are numbered below a limit: at most so many as the limit

unfoldable pub without : ℕ → List ℕ → List ℕ
without x [] = []
without x (y ∷ l) = cond (eqb y x) (without x l) (y ∷ without x l)

pub has_without : (z x : ℕ) (l : List ℕ) → has z l ≡ false → has z (without x l) ≡ false
unfolding has without
has_without z x [] h = refl
has_without z x (y ∷ l) h =
    both (eqb y z) (λ p. absurd (true≢false (rw p at h))) λ p.
    both (eqb y x) (λ q. rw q (has_without z x l (rw p at h))) (λ q. rw (q, p) (has_without z x l (rw p at h)))

pub distinct_without : (x : ℕ) (l : List ℕ) → Distinct l → Distinct (without x l)
unfolding Distinct without
distinct_without x [] d = tt
distinct_without x (y ∷ l) d = both (eqb y x) (λ q. rw q (distinct_without x l d.1)) (λ q. rw q (has_without y x l d.0, distinct_without x l d.1))

pub without_absent : (x : ℕ) (l : List ℕ) → has x l ≡ false → without x l ≡ l
unfolding has without
without_absent x [] h = refl
without_absent x (y ∷ l) h =
    both (eqb y x) (λ p. absurd (true≢false (rw p at h))) (λ p. rw (p, without_absent x l (rw p at h)))

length_without : (x : ℕ) (l : List ℕ) → Distinct l → length l ≤ suc (length (without x l))
unfolding Distinct without
length_without x [] d = omega arith
length_without x (y ∷ l) d =
    both (eqb y x) (λ q. rw (q, without_absent x l (rw (eqb-true y x q) at d.0)) (omega arith)) (λ q. rw q (omega (arith, length_without x l d.1)))

below_without : (n : ℕ) (l : List ℕ) → Below (suc n) l → Below n (without n l)
unfolding Below without
below_without n [] b = tt
below_without n (y ∷ l) b =
    both (eqb y n) (λ q. rw q (below_without n l b.1)) (λ q. rw q (let h : ¬ (y ≡ n) = eqb-false y n q in omega (arith, b.0), below_without n l b.1))

pub distinct_length : (n : ℕ) (l : List ℕ) → Distinct l → Below n l → length l ≤ n
unfolding Below
distinct_length zero [] d b = omega arith
distinct_length zero (x ∷ l) d b = omega (arith, b.0)
distinct_length (suc n) l d b =
    omega (arith, length_without n l d, distinct_length n (without n l) (distinct_without n l d) (below_without n l b))
