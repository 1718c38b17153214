-- Decimal digits: how many there are, and a number's digits from those of its ten-thousandth part and the last four.
use Prim.Native.Nat.{ℕ, zero, suc, ◌+◌, ◌/◌, ◌%◌, ◌^◌, ◌<◌, ◌≤◌}
use mathlib.Core.Path.{◌≡◌, refl}
use mathlib.Core.Bool.{cond}
use mathlib.Core.List.{[], ◌∷◌, ◌++◌, append_assoc}
use lib.Dec.{ltb}
use lib.ListN.{length, length-append}
use native.Mathlib.Omega.{arith}
use native.Mathlib.Nat.{pow-succ'}
use borrow.Author.Tests.{lt-ltb, le-ltb}
use Rattle.rules.proofs.Laws.Line.{both}
use Rattle.rules.specs.Lines.{digits, decimal}
use Rattle.lines.specs.Text.{two_digits, four_digits}

digits_of : (k n : ℕ) → digits (suc k) n ≡ cond (ltb n 10) [] (digits k (n / 10)) ++ ((48 + n % 10) ∷ [])
unfolding digits
digits_of k n = refl

digits_none : (n : ℕ) → digits 0 n ≡ []
unfolding digits
digits_none n = refl

digits_one : (n : ℕ) → digits 1 n ≡ (48 + n % 10) ∷ []
digits_one n = both (ltb n 10)
    (λ e. rw (digits_of 0 n, e))
    (λ e. rw (digits_of 0 n, e, digits_none))

digits_small : (k n : ℕ) → n < 10 → digits (suc k) n ≡ (48 + n % 10) ∷ []
digits_small k n h = rw (digits_of k n, lt-ltb n 10 h)

digits_more : (k n : ℕ) → 10 ≤ n → digits (suc k) n ≡ digits k (n / 10) ++ ((48 + n % 10) ∷ [])
digits_more k n h = rw (digits_of k n, le-ltb n 10 h)

-- below both powers of 10, at most j digits and at most k are the same
digits_alike : (j k n : ℕ) → n < 10 ^ suc j → n < 10 ^ suc k → digits (suc j) n ≡ digits (suc k) n
digits_alike zero k n h l = rw (digits_one n, digits_small k n h)
digits_alike (suc j) zero n h l = rw (digits_one n, digits_small (suc j) n l)
digits_alike (suc j) (suc k) n h l = both (ltb n 10)
    (λ e. rw (digits_of (suc j) n, digits_of (suc k) n, e))
    (λ e. rw (digits_of (suc j) n, digits_of (suc k) n, e, digits_alike j k (n / 10) (omega (arith, pow-succ' 10 (suc j))) (omega (arith, pow-succ' 10 (suc k)))))

-- the last two digits, and those before
two_more : (k n : ℕ) → 100 ≤ n → digits (suc (suc k)) n ≡ digits k (n / 100) ++ two_digits n
unfolding two_digits
two_more k n h =
    let e : n / 10 / 10 ≡ n / 100 = omega arith in
    rw (digits_more (suc k) n (omega arith), digits_more k (n / 10) (omega arith), e, append_assoc)

-- ---- at most four digits

pub short_one : (n : ℕ) → n < 10 → (48 + n % 10) ∷ [] ≡ digits 4 n
short_one n h = rw (digits_small 3 n h)

pub short_two : (n : ℕ) → 10 ≤ n → n < 100 → two_digits n ≡ digits 4 n
unfolding two_digits
short_two n h l = rw (digits_more 3 n h, digits_small 2 (n / 10) (omega arith))

pub short_three : (n : ℕ) → 100 ≤ n → n < 1000 → ((48 + n / 100 % 10) ∷ []) ++ two_digits n ≡ digits 4 n
short_three n h l = rw (two_more 2 n h, digits_small 1 (n / 100) (omega arith))

pub short_four : (n : ℕ) → 1000 ≤ n → four_digits n ≡ digits 4 n
unfolding four_digits two_digits
short_four n h =
    rw (two_more 2 n (omega arith), digits_more 1 (n / 100) (omega arith), digits_one)

-- ---- all digits

pub decimal_small : (n : ℕ) → n < 10 → (48 + n % 10) ∷ [] ≡ decimal n
unfolding decimal
decimal_small n h = rw (digits_small 19 n h)

pub decimal_short : (n : ℕ) → n < 10000 → digits 4 n ≡ decimal n
unfolding decimal
decimal_short n h = digits_alike 3 19 n (omega arith) (omega arith)

four_rest : (n : ℕ) → four_digits (n % 10000) ≡ four_digits n
unfolding four_digits two_digits
four_rest n =
    let a : n % 10000 / 100 / 10 % 10 ≡ n / 100 / 10 % 10 = omega arith in
    let b : n % 10000 / 100 % 10 ≡ n / 100 % 10 = omega arith in
    let c : n % 10000 / 10 % 10 ≡ n / 10 % 10 = omega arith in
    let d : n % 10000 % 10 ≡ n % 10 = omega arith in
    rw (a, b, c, d)

pub decimal_more : (n : ℕ) → 10000 ≤ n → n < 2 ^ 64 → decimal (n / 10000) ++ four_digits (n % 10000) ≡ decimal n
unfolding decimal four_digits
decimal_more n h l =
    let e : n / 100 / 100 ≡ n / 10000 = omega arith in
    rw (four_rest n, two_more 18 n (omega arith), two_more 16 (n / 100) (omega arith), e, digits_alike 19 15 (n / 10000) (omega arith) (omega arith), append_assoc)

-- below 10 to the power of k there are at most k
pub digits_length : (m k n : ℕ) → n < 10 ^ suc k → length (digits m n) ≤ suc k
digits_length zero k n h = rw (digits_none n) (omega arith)
digits_length (suc m) zero n h = rw (digits_of m n, lt-ltb n 10 h) (omega arith)
digits_length (suc m) (suc k) n h = both (ltb n 10)
    (λ e. rw (digits_of m n, e) (omega arith))
    (λ e. rw (digits_of m n, e, length-append) (omega (arith, digits_length m k (n / 10) (omega (arith, pow-succ' 10 (suc k))))))

-- at most as many as are asked for
digits_most : (m n : ℕ) → length (digits m n) ≤ m
digits_most zero n = rw (digits_none n) (omega arith)
digits_most (suc m) n = both (ltb n 10)
    (λ e. rw (digits_of m n, e) (omega arith))
    (λ e. rw (digits_of m n, e, length-append) (omega (arith, digits_most m (n / 10))))

pub decimal_most : (n : ℕ) → length (decimal n) ≤ 20
unfolding decimal
decimal_most n = digits_most 20 n

pub decimal_length : (k n : ℕ) → n < 10 ^ suc k → length (decimal n) ≤ suc k
unfolding decimal
decimal_length k n h = digits_length 20 k n h
