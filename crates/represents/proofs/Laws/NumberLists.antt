-- Lists of numbers that pass a test, joined lists, and an insertion before a number.
use Rattle.std.specs.Prelude.{ℕ, zero, suc, ◌+◌, ◌-◌, ◌≤◌, ◌<◌, ◌≡◌, Bool, true, false, cond, ◌||◌, ◌&&◌, List, [], ◌∷◌, ◌++◌, eqb, ltb, leb}
use Rattle.std.proofs.Math.Path.{refl}
use Rattle.std.proofs.Common.{sym, ap, ◌∙◌, true≢false, append_assoc, append-nil, arith, eqb-true, eq-eqb, ne_eqb, ltb-true, ltb-false, leb-true, leb-false}
use Rattle.std.proofs.lemmas.Bool.{false≢true, eqb-false}
use Rattle.rules.specs.Line.{has, Distinct}
use Rattle.rules.proofs.Laws.Line.{both, has_append, has_left, has_right}
use Rattle.rules.specs.State.{those_below, join_all, any_below}
use Rattle.topology.specs.Walk.{those_from}

-- ---- the numbers that pass a test

-- one more at the end
those_more : (f : ℕ → Bool) (c k : ℕ) → those_from f c (suc k) ≡ those_from f c k ++ cond (f (c + k)) ((c + k) ∷ []) []
unfolding those_from
those_more f c zero = let e : c + 0 ≡ c = omega arith in rw e (both (f c) (λ p. rw p) (λ p. rw p))
those_more f c (suc k) =
    let e : suc c + k ≡ c + suc k = omega arith in
    let h : those_from f (suc c) (suc k) ≡ those_from f (suc c) k ++ cond (f (c + suc k)) ((c + suc k) ∷ []) [] = rw (← e) (those_more f (suc c) k) in
    both (f c) (λ p. rw p (ap (λ (l : List ℕ). c ∷ l) h)) (λ p. rw p h)

-- the rules' ascending list is the one that the code goes through
pub those_both : (n : ℕ) (f : ℕ → Bool) → those_below n f ≡ those_from f 0 n
unfolding those_below
those_both zero f = unfold those_from in refl
those_both (suc n) f = let e : 0 + n ≡ n = omega arith in rw (those_more f 0 n, e, those_both n f)

those_split : (f : ℕ → Bool) (c a b : ℕ) → those_from f c (a + b) ≡ those_from f c a ++ those_from f (c + a) b
unfolding those_from
those_split f c zero b = let e : 0 + b ≡ b = omega arith in let d : c + 0 ≡ c = omega arith in rw (e, d)
those_split f c (suc a) b =
    let e : suc a + b ≡ suc (a + b) = omega arith in
    let d : c + suc a ≡ suc c + a = omega arith in
    rw (e, d) (both (f c) (λ p. rw p (ap (λ (l : List ℕ). c ∷ l) (those_split f (suc c) a b))) (λ p. rw p (those_split f (suc c) a b)))

those_none : (f : ℕ → Bool) (c k : ℕ) → ((x : ℕ) → c ≤ x → x < c + k → f x ≡ false) → those_from f c k ≡ []
unfolding those_from
those_none f c zero h = refl
those_none f c (suc k) h = rw (h c (omega arith) (omega arith)) (those_none f (suc c) k (λ x a b. h x (omega arith) (omega arith)))

pub those_same : (f g : ℕ → Bool) (c k : ℕ) → ((x : ℕ) → c ≤ x → x < c + k → f x ≡ g x) → those_from f c k ≡ those_from g c k
unfolding those_from
those_same f g c zero h = refl
those_same f g c (suc k) h = rw (h c (omega arith) (omega arith), those_same f g (suc c) k (λ x a b. h x (omega arith) (omega arith)))

-- of the numbers below n only those from lo to below hi can pass
pub those_within : (n lo hi : ℕ) (f : ℕ → Bool) → hi ≤ n → ((x : ℕ) → x < n → f x ≡ true → (lo ≤ x) × (x < hi)) → those_below n f ≡ those_from f lo (hi - lo)
those_within n lo hi f h w =
    let not_low : (x : ℕ) → x < n → x < lo → f x ≡ false = λ x l m. both (f x) (λ p. absurd (omega (arith, (w x l p).0))) (λ p. p) in
    let not_high : (x : ℕ) → x < n → hi ≤ x → f x ≡ false = λ x l m. both (f x) (λ p. absurd (omega (arith, (w x l p).1))) (λ p. p) in
    those_both n f ∙ go not_low not_high
  where
    some_range : lo ≤ hi → ((x : ℕ) → x < n → x < lo → f x ≡ false) → ((x : ℕ) → x < n → hi ≤ x → f x ≡ false) → those_from f 0 n ≡ those_from f lo (hi - lo)
    some_range l a b =
        let e : n ≡ lo + ((hi - lo) + (n - hi)) = omega arith in
        let z : 0 + lo ≡ lo = omega arith in
        let y : lo + (hi - lo) ≡ hi = omega arith in
        ap (those_from f 0) e ∙ those_split f 0 lo ((hi - lo) + (n - hi))
        ∙ rw (z, those_split f lo (hi - lo) (n - hi), y, those_none f 0 lo (λ x p q. a x (omega arith) (omega arith)), those_none f hi (n - hi) (λ x p q. b x (omega arith) (omega arith)), append-nil (those_from f lo (hi - lo)))

    go : ((x : ℕ) → x < n → x < lo → f x ≡ false) → ((x : ℕ) → x < n → hi ≤ x → f x ≡ false) → those_from f 0 n ≡ those_from f lo (hi - lo)
    go a b =
        both (leb lo hi) (λ e. some_range (leb-true lo hi e) a b)
        (λ e.
        let l : hi < lo = leb-false lo hi e in
        let z : hi - lo ≡ 0 = omega arith in
        rw z (those_none f 0 n (λ x p q. both (ltb x lo) (λ t. a x (omega arith) (ltb-true x lo t)) (λ t. b x (omega arith) (omega (arith, ltb-false x lo t)))) ∙ unfold those_from in refl))

pub below_same : (n : ℕ) (f g : ℕ → Bool) → ((x : ℕ) → x < n → f x ≡ g x) → those_below n f ≡ those_below n g
unfolding those_below
below_same zero f g h = refl
below_same (suc n) f g h = rw (below_same n f g (λ x l. h x (omega arith)), h n (omega arith))

pub below_none : (n : ℕ) (f : ℕ → Bool) → ((x : ℕ) → x < n → f x ≡ false) → those_below n f ≡ []
unfolding those_below
below_none zero f h = refl
below_none (suc n) f h = rw (below_none n f (λ x l. h x (omega arith)), h n (omega arith))

-- who stands in the list
pub below_has : (n : ℕ) (f : ℕ → Bool) (x : ℕ) → has x (those_below n f) ≡ true → (x < n) × (f x ≡ true)
unfolding those_below has
below_has zero f x h = absurd (false≢true h)
below_has (suc n) f x h =
    both (has x (those_below n f))
    (λ e. let i : (x < n) × (f x ≡ true) = below_has n f x e in (omega (arith, i.0), i.1))
    (λ e.
    let g : has x (cond (f n) (n ∷ []) []) ≡ true = rw e at (sym (has_append x (those_below n f) (cond (f n) (n ∷ []) [])) ∙ h) in
    both (f n)
    (λ q. let k : eqb n x ≡ true = only (eqb n x) (rw q at g) in (omega (arith, eqb-true n x k), rw (← eqb-true n x k) q))
    (λ q. absurd (false≢true (rw q at g))))
  where
    only : (b : Bool) → (b || false) ≡ true → b ≡ true
    only true e = refl
    only false e = e

pub has_below : (n : ℕ) (f : ℕ → Bool) (x : ℕ) → x < n → f x ≡ true → has x (those_below n f) ≡ true
unfolding those_below has
has_below zero f x h e = absurd (omega arith)
has_below (suc n) f x h e =
    both (eqb x n)
    (λ q. let r : x ≡ n = eqb-true x n q in
    has_right x (those_below n f) (cond (f n) (n ∷ []) []) (rw (ap f (sym r) ∙ e, eq-eqb n x (sym r))))
    (λ q. has_left x (those_below n f) (cond (f n) (n ∷ []) []) (has_below n f x (let m : x ≡ n → ⊥ = eqb-false x n q in omega arith) e))

-- ---- some number passes

pub any_true : (n : ℕ) (f : ℕ → Bool) (x : ℕ) → x < n → f x ≡ true → any_below n f ≡ true
unfolding any_below
any_true zero f x h e = absurd (omega arith)
any_true (suc n) f x h e =
    both (eqb x n) (λ p. rw (← eqb-true x n p, e) (both (any_below x f) (λ q. rw q) (λ q. rw q)))
    (λ p. rw (any_true n f x (let m : x ≡ n → ⊥ = eqb-false x n p in omega arith) e))

-- one that passes the test
pub any_at {ℓ} : {A : Type ℓ} (n : ℕ) (f : ℕ → Bool) → any_below n f ≡ true → ((x : ℕ) → x < n → f x ≡ true → A) → A
unfolding any_below
any_at zero f e k = absurd (false≢true e)
any_at (suc n) f e k = both (any_below n f) (λ t. any_at n f t (λ x h u. k x (omega arith) u)) (λ t. k n (omega arith) (rw t at e))

pub any_none : (n : ℕ) (f : ℕ → Bool) → ((x : ℕ) → x < n → f x ≡ false) → any_below n f ≡ false
unfolding any_below
any_none zero f h = refl
any_none (suc n) f h = rw (any_none n f (λ x l. h x (omega arith)), h n (omega arith))

-- ---- joined lists

pub join_append : (f : ℕ → List ℕ) (a b : List ℕ) → join_all f (a ++ b) ≡ join_all f a ++ join_all f b
unfolding join_all
join_append f [] b = refl
join_append f (x ∷ a) b = rw (join_append f a b, append_assoc (f x) (join_all f a) (join_all f b))

pub join_join : (f g : ℕ → List ℕ) (l : List ℕ) → join_all f (join_all g l) ≡ join_all (λ x. join_all f (g x)) l
unfolding join_all
join_join f g [] = refl
join_join f g (x ∷ l) = rw (join_append f (g x) (join_all g l), join_join f g l)

-- lists that agree on the numbers of the list
pub join_same : (f g : ℕ → List ℕ) (l : List ℕ) → ((x : ℕ) → has x l ≡ true → f x ≡ g x) → join_all f l ≡ join_all g l
unfolding join_all has
join_same f g [] h = refl
join_same f g (x ∷ l) h =
    rw (h x (rw (eq-eqb x x refl)), join_same f g l (λ y e. h y (rw e (both (eqb x y) (λ q. rw q) (λ q. rw q)))))

-- ---- n put in before each p

unfoldable pub ins : ℕ → ℕ → List ℕ → List ℕ
ins n p [] = []
ins n p (x ∷ l) = cond (eqb x p) (n ∷ x ∷ ins n p l) (x ∷ ins n p l)

pub ins_append : (n p : ℕ) (a b : List ℕ) → ins n p (a ++ b) ≡ ins n p a ++ ins n p b
unfolding ins
ins_append n p [] b = refl
ins_append n p (x ∷ a) b = both (eqb x p) (λ e. rw (e, ins_append n p a b)) (λ e. rw (e, ins_append n p a b))

pub ins_join : (n p : ℕ) (f : ℕ → List ℕ) (l : List ℕ) → ins n p (join_all f l) ≡ join_all (λ x. ins n p (f x)) l
unfolding join_all
ins_join n p f [] = unfold ins in refl
ins_join n p f (x ∷ l) = rw (ins_append n p (f x) (join_all f l), ins_join n p f l)

pub ins_none : (n p : ℕ) (l : List ℕ) → has p l ≡ false → ins n p l ≡ l
unfolding ins has
ins_none n p [] h = refl
ins_none n p (x ∷ l) h = both (eqb x p) (λ e. absurd (true≢false (rw e at h))) (λ e. rw (e, ins_none n p l (rw e at h)))

pub has_ins : (n p x : ℕ) (l : List ℕ) → has x (ins n p l) ≡ (has x l || (eqb n x && has p l))
unfolding ins has
has_ins n p x [] = both (eqb n x) (λ e. rw e) (λ e. rw e)
has_ins n p x (y ∷ l) =
    both (eqb y p)
    (λ e. rw (e, has_ins n p x l) (bools (eqb n x) (eqb y x) (has x l) (has p l)))
    (λ e. rw (e, has_ins n p x l) (bools_2 (eqb n x) (eqb y x) (has x l) (has p l)))
  where
    bools : (a b c d : Bool) → (a || (b || (c || (a && d)))) ≡ ((b || c) || (a && true))
    bools true true c d = refl
    bools true false true d = refl
    bools true false false d = refl
    bools false true c d = refl
    bools false false true d = refl
    bools false false false d = refl

    bools_2 : (a b c d : Bool) → (b || (c || (a && d))) ≡ ((b || c) || (a && d))
    bools_2 a true c d = refl
    bools_2 a false c d = refl

pub distinct_ins : (n p : ℕ) (l : List ℕ) → Distinct l → has n l ≡ false → Distinct (ins n p l)
unfolding ins Distinct has
distinct_ins n p [] d h = tt
distinct_ins n p (x ∷ l) d h =
    let nx : x ≡ n → ⊥ = λ r. true≢false (rw (eq-eqb x n r) at h) in
    let e : eqb x n ≡ false = ne_eqb x n nx in
    let e' : eqb n x ≡ false = ne_eqb n x (λ r. nx (sym r)) in
    let g : has n l ≡ false = rw e at h in
    let i : Distinct (ins n p l) = distinct_ins n p l d.1 g in
    let j : has x (ins n p l) ≡ false = has_ins n p x l ∙ rw (e', d.0) in
    both (eqb x p)
    (λ r.
    let z : has p l ≡ false = rw (eqb-true x p r) at d.0 in
    let k : has n (ins n p l) ≡ false = has_ins n p n l ∙ rw (g, z, eq-eqb n n refl) in
    rw r (rw (e, k), (j, i)))
    (λ r. rw r (j, i))
