-- The number that a word stands for: decimal, or hexadecimal behind `0x`.
use Rattle.std.specs.Prelude.{ℕ, ◌+◌, ◌*◌, ◌-◌, ◌^◌, Bool, true, false, cond, List, [], ◌∷◌, eqb, ltb, length, get_or, drop, Option, None, Some}

unfoldable pub and_then : Option ℕ → (ℕ → Option ℕ) → Option ℕ
and_then None f = None
and_then (Some n) f = f n

-- 0 to 9, a to f, A to F
unfoldable pub digit : ℕ → Option ℕ
digit b =
    cond (ltb b 48) None
    (cond (ltb b 58) (Some (b - 48))
    (cond (ltb b 65) None
    (cond (ltb b 71) (Some (b - 55))
    (cond (ltb b 97) None
    (cond (ltb b 103) (Some (b - 87)) None)))))

unfoldable pub base : Bool → ℕ
base hexadecimal = cond hexadecimal 16 10

-- The number n with the digit d behind it; none if d is no digit of the base, or if the number is 2^64 or more.
unfoldable pub next : Bool → ℕ → ℕ → Option ℕ
next hexadecimal n d = cond (ltb d (base hexadecimal)) (cond (ltb (n * base hexadecimal + d) (2 ^ 64)) (Some (n * base hexadecimal + d)) None) None

-- the number n with all these digits behind it
unfoldable pub value : Bool → ℕ → List ℕ → Option ℕ
value hexadecimal n [] = Some n
value hexadecimal n (b ∷ l) = and_then (and_then (digit b) (next hexadecimal n)) (λ m. value hexadecimal m l)

-- at least one digit
unfoldable pub digits : Bool → List ℕ → Option ℕ
digits hexadecimal [] = None
digits hexadecimal (b ∷ l) = value hexadecimal 0 (b ∷ l)

-- `0x` stands at the front
unfoldable pub is_hexadecimal : List ℕ → Bool
is_hexadecimal word = cond (ltb (length word) 2) false (cond (eqb (get_or word 0 0) 48) (eqb (get_or word 1 0) 120) false)

unfoldable pub number_of : List ℕ → Option ℕ
number_of word = cond (is_hexadecimal word) (digits true (drop 2 word)) (digits false word)
