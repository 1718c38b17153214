-- The binary digits of a number, by quotient and remainder.
use Rattle.std.specs.Prelude.{ℕ, zero, suc, ◌+◌, ◌-◌, ◌*◌, ◌/◌, ◌%◌, ◌^◌, ◌≤◌, ◌<◌, ◌≡◌, refl}
use Rattle.std.proofs.Common.{sym, ap, ◌∙◌, arith, pow_pos, pow-suc}
use Rattle.std.proofs.Math.Nat.{pow-succ', div-div-eq-div-mul, zero-div}

-- digit k of w, counted from the lowest
unfoldable pub digit : ℕ → ℕ → ℕ
digit w k = w / 2 ^ k % 2

digit_suc : (w k : ℕ) → digit w (suc k) ≡ digit (w / 2) k
unfolding digit
digit_suc w k = rw (pow-succ' 2 k, ← div-div-eq-div-mul w 2 (2 ^ k))

digit_zero : (w : ℕ) → digit w 0 ≡ w % 2
unfolding digit
digit_zero w = omega arith

pub zero_digit : (k : ℕ) → digit 0 k ≡ 0
unfolding digit
zero_digit k = rw (zero-div (2 ^ k))

pub digit_below : (w k : ℕ) → digit w k < 2
unfolding digit
digit_below w k = omega arith

-- half of a number that 2 ^ suc k is added to
half_add : (w k : ℕ) → (w + 2 ^ suc k) / 2 ≡ w / 2 + 2 ^ k
half_add w k = rw (pow-suc 2 k) (omega arith)

-- ---- a digit that is 0 becomes 1

pub add_same : (w k : ℕ) → digit w k ≡ 0 → digit (w + 2 ^ k) k ≡ 1
add_same w zero e = digit_zero (w + 1) ∙ (let h : w % 2 ≡ 0 = sym (digit_zero w) ∙ e in omega arith)
add_same w (suc k) e = digit_suc (w + 2 ^ suc k) k ∙ ap (λ (n : ℕ). digit n k) (half_add w k) ∙ add_same (w / 2) k (sym (digit_suc w k) ∙ e)

pub add_other : (w k j : ℕ) → digit w k ≡ 0 → (j ≡ k → ⊥) → digit (w + 2 ^ k) j ≡ digit w j
add_other w zero zero e n = absurd (n refl)
add_other w zero (suc j) e n =
    let h : w % 2 ≡ 0 = sym (digit_zero w) ∙ e in
    digit_suc (w + 1) j ∙ ap (λ (m : ℕ). digit m j) (omega arith) ∙ sym (digit_suc w j)
add_other w (suc k) zero e n = digit_zero (w + 2 ^ suc k) ∙ rw (pow-suc 2 k) (omega arith) ∙ sym (digit_zero w)
add_other w (suc k) (suc j) e n =
    digit_suc (w + 2 ^ suc k) j ∙ ap (λ (m : ℕ). digit m j) (half_add w k)
    ∙ add_other (w / 2) k j (sym (digit_suc w k) ∙ e) (λ r. n (ap suc r)) ∙ sym (digit_suc w j)

pub add_below : (n w k : ℕ) → digit w k ≡ 0 → w < 2 ^ n → k < n → w + 2 ^ k < 2 ^ n
add_below zero w k e h l = absurd (omega arith)
add_below (suc n) w zero e h l =
    let d : w % 2 ≡ 0 = sym (digit_zero w) ∙ e in
    let b : w < 2 ^ n * 2 = rw (pow-suc 2 n) at h in
    rw (pow-suc 2 n) (omega arith)
add_below (suc n) w (suc k) e h l =
    let b : w < 2 ^ n * 2 = rw (pow-suc 2 n) at h in
    let i : w / 2 + 2 ^ k < 2 ^ n = add_below n (w / 2) k (sym (digit_suc w k) ∙ e) (omega arith) (omega arith) in
    rw (pow-suc 2 n, pow-suc 2 k) (omega arith)

-- ---- a digit that is 1 becomes 0

pub one_least : (w k : ℕ) → digit w k ≡ 1 → 2 ^ k ≤ w
one_least w zero e = let h : w % 2 ≡ 1 = sym (digit_zero w) ∙ e in omega arith
one_least w (suc k) e =
    let i : 2 ^ k ≤ w / 2 = one_least (w / 2) k (sym (digit_suc w k) ∙ e) in
    rw (pow-suc 2 k) (omega arith)

half_sub : (w k : ℕ) → (w - 2 ^ suc k) / 2 ≡ w / 2 - 2 ^ k
half_sub w k = rw (pow-suc 2 k) (omega arith)

pub sub_same : (w k : ℕ) → digit w k ≡ 1 → digit (w - 2 ^ k) k ≡ 0
sub_same w zero e = digit_zero (w - 1) ∙ (let h : w % 2 ≡ 1 = sym (digit_zero w) ∙ e in omega arith)
sub_same w (suc k) e = digit_suc (w - 2 ^ suc k) k ∙ ap (λ (n : ℕ). digit n k) (half_sub w k) ∙ sub_same (w / 2) k (sym (digit_suc w k) ∙ e)

pub sub_other : (w k j : ℕ) → digit w k ≡ 1 → (j ≡ k → ⊥) → digit (w - 2 ^ k) j ≡ digit w j
sub_other w k j e n =
    let l : 2 ^ k ≤ w = one_least w k e in
    let r : w - 2 ^ k + 2 ^ k ≡ w = omega arith in
    sym (add_other (w - 2 ^ k) k j (sub_same w k e) n) ∙ ap (λ (m : ℕ). digit m j) r

-- ---- a number below 2 ^ n by its first n digits

pub all_zero : (n w : ℕ) → w < 2 ^ n → ((k : ℕ) → k < n → digit w k ≡ 0) → w ≡ 0
all_zero zero w h d = omega arith
all_zero (suc n) w h d =
    let b : w < 2 ^ n * 2 = rw (pow-suc 2 n) at h in
    let e : w % 2 ≡ 0 = sym (digit_zero w) ∙ d 0 (omega arith) in
    let i : w / 2 ≡ 0 = all_zero n (w / 2) (omega arith) (λ k l. sym (digit_suc w k) ∙ d (suc k) (omega arith)) in
    omega arith

pub ones_digit : (n k : ℕ) → k < n → digit (2 ^ n - 1) k ≡ 1
ones_digit zero k l = absurd (omega arith)
ones_digit (suc n) zero l = digit_zero (2 ^ suc n - 1) ∙ rw (pow-suc 2 n) (omega (arith, pow_pos n))
ones_digit (suc n) (suc k) l =
    digit_suc (2 ^ suc n - 1) k ∙ ap (λ (m : ℕ). digit m k) (rw (pow-suc 2 n) (omega (arith, pow_pos n))) ∙ ones_digit n k (omega arith)
