-- Laws of a line: that each name of the table is read as its command, and that a number printed in decimal is read as that number.
use Rattle.std.specs.Prelude.{Option, None, Some}
use Prim.Native.Nat.{ℕ, zero, suc, ◌+◌, ◌*◌, ◌/◌, ◌%◌, ◌^◌, ◌<◌}
use mathlib.Core.Path.{◌≡◌, refl, ap}
use mathlib.Core.Bool.{Bool, false, cond}
use mathlib.Core.List.{List, [], ◌∷◌, ◌++◌, map}
use lib.Dec.{eqb, ltb}
use lib.ListN.{length, get_or}
use native.Mathlib.Omega.{arith}
use native.Mathlib.Nat.{pow-succ'}
use borrow.Author.Tests.{ne_eqb, lt-ltb, le-ltb, ltb-true}
use Rattle.rules.proofs.Laws.Line.{both}
use Rattle.rules.specs.Lines.{decimal}
use Rattle.rules.specs.Lines as rules
use Rattle.names.specs.Names.{Naming, namings, naming, ascii}
use Rattle.parse.specs.Numbers.{digit, base, next, and_then, value, digits, is_hexadecimal, number_of}
use Rattle.parse.specs.Meaning.{byte_among, byte_named}

-- ---- each name of the table is read as its command

pub names_read : map (λ (n : Naming). byte_named (ascii n.name)) namings ≡ map (λ (n : Naming). Some n.byte) namings
unfolding byte_named byte_among namings naming ascii
names_read = refl

-- ---- a number printed in decimal is read as that number

value_append : (h : Bool) (n : ℕ) (l m : List ℕ) → value h n (l ++ m) ≡ and_then (value h n l) (λ x. value h x m)
unfolding value and_then
value_append h n [] m = refl
value_append h n (b ∷ l) m = go (and_then (digit b) (next h n)) (λ x. value_append h x l m)
  where
    go : (o : Option ℕ) → ((x : ℕ) → value h x (l ++ m) ≡ and_then (value h x l) (λ y. value h y m))
        → and_then o (λ x. value h x (l ++ m)) ≡ and_then (and_then o (λ x. value h x l)) (λ y. value h y m)
    go None ih = refl
    go (Some x) ih = ih x

digit_of : (d : ℕ) → d < 10 → digit (48 + d) ≡ Some d
unfolding digit
digit_of d h = rw (le-ltb (48 + d) 48 (omega arith), lt-ltb (48 + d) 58 (omega arith)) (ap Some (omega arith))

last_digit : (m n : ℕ) → n / 10 ≡ m → n < 2 ^ 64 → value false m ((48 + n % 10) ∷ []) ≡ Some n
unfolding value and_then next base
last_digit m n e h =
    rw (digit_of (n % 10) (omega arith), lt-ltb (n % 10) 10 (omega arith), lt-ltb (m * 10 + n % 10) (2 ^ 64) (omega arith))
    (ap Some (omega arith))

digits_value : (k n : ℕ) → n < 10 ^ suc k → n < 2 ^ 64 → value false 0 (rules.digits (suc k) n) ≡ Some n
unfolding rules.digits and_then
digits_value zero n h l = rw (lt-ltb n 10 h) (last_digit 0 n (omega arith) l)
digits_value (suc k) n h l = both (ltb n 10)
    (λ e. rw e (last_digit 0 n (omega (arith, ltb-true n 10 e)) l))
    (λ e. rw (e, value_append false 0 (rules.digits (suc k) (n / 10)) ((48 + n % 10) ∷ []), digits_value k (n / 10) (omega (arith, pow-succ' 10 (suc k))) (omega arith))
    (last_digit (n / 10) n refl l))

small_end : (l : List ℕ) (x i : ℕ) → ((j : ℕ) → get_or l j 0 < 58) → x < 58 → get_or (l ++ (x ∷ [])) i 0 < 58
small_end [] x zero h k = k
small_end [] x (suc i) h k = omega arith
small_end (y ∷ l) x zero h k = h 0
small_end (y ∷ l) x (suc i) h k = small_end l x i (λ j. h (suc j)) k

small_digits : (k n i : ℕ) → get_or (rules.digits k n) i 0 < 58
unfolding rules.digits
small_digits zero n i = omega arith
small_digits (suc k) n i = both (ltb n 10)
    (λ e. rw e (small_end [] (48 + n % 10) i (λ j. omega arith) (omega arith)))
    (λ e. rw e (small_end (rules.digits k (n / 10)) (48 + n % 10) i (small_digits k (n / 10)) (omega arith)))

not_hexadecimal : (w : List ℕ) → get_or w 1 0 < 58 → is_hexadecimal w ≡ false
unfolding is_hexadecimal
not_hexadecimal w h = both (ltb (length w) 2)
    (λ e. rw e)
    (λ e. both (eqb (get_or w 0 0) 48)
    (λ p. rw (e, p, ne_eqb (get_or w 1 0) 120 (λ q. omega arith)))
    (λ p. rw (e, p)))

some_digits : (l : List ℕ) (x : ℕ) → digits false (l ++ (x ∷ [])) ≡ value false 0 (l ++ (x ∷ []))
unfolding digits
some_digits [] x = refl
some_digits (y ∷ l) x = refl

decimal_digits : (k n : ℕ) → digits false (rules.digits (suc k) n) ≡ value false 0 (rules.digits (suc k) n)
unfolding rules.digits
decimal_digits k n = some_digits (cond (ltb n 10) [] (rules.digits k (n / 10))) (48 + n % 10)

pub decimal_read : (n : ℕ) → n < 2 ^ 64 → number_of (decimal n) ≡ Some n
unfolding number_of decimal
decimal_read n h = rw (not_hexadecimal (rules.digits 20 n) (small_digits 20 n 1), decimal_digits 19 n) (digits_value 19 n (omega arith) h)
