-- Operands as numbers of bytes: where they are, how they are put together, how large they are.
use Prim.Native.Nat.{ℕ, zero, suc, ◌+◌, ◌*◌, ◌^◌, ◌<◌, ◌≤◌, min}
use mathlib.Core.Path.{◌≡◌, refl, ap, sym, ◌∙◌}
use mathlib.Core.Bool.{true, false}
use mathlib.Core.List.{List, [], ◌∷◌, ◌++◌, append_assoc}
use lib.ListN.{length, take, drop, get_or, length-append}
use Rattle.std.proofs.lemmas.List.{get_or-append-add}
use lib.Seq.{drop-cons, get_or-drop}
use native.Mathlib.Omega.{arith}
use native.Mathlib.Nat.{suc-add, mul_assoc, pow-succ', zero-add, one-mul, mul-zero, pow-le-pow_right, zero-min, min-zero, suc-min-suc}
use Rattle.rules.specs.Requests.{operand, past, at_least}
use Rattle.rules.specs.Writer.{Bytes}
use Rattle.rules.proofs.Laws.Writer.{operand_lt, past_drop}

pub enough : (n : ℕ) (l : List ℕ) → n ≤ length l → at_least n l ≡ true
unfolding at_least
enough zero l h = refl
enough (suc n) [] h = absurd (omega arith)
enough (suc n) (b ∷ l) h = enough n l (omega arith)

pub too_few : (n : ℕ) (l : List ℕ) → length l < n → at_least n l ≡ false
unfolding at_least
too_few zero l h = absurd (omega arith)
too_few (suc n) [] h = refl
too_few (suc n) (b ∷ l) h = too_few n l (omega arith)

operand_nil : (n : ℕ) → operand n [] ≡ 0
unfolding operand
operand_nil zero = refl
operand_nil (suc n) = refl

pub operand_one : (b : ℕ) (l : List ℕ) → operand 1 (b ∷ l) ≡ b
unfolding operand
operand_one b l = omega arith

-- the first m bytes, then n more
pub operand_add : (m n : ℕ) (l : List ℕ) → operand (m + n) l ≡ operand m l + 256 ^ m * operand n (past m l)
unfolding operand past
operand_add zero n l = rw (zero-add, one-mul) (omega arith)
operand_add (suc m) n [] = rw (operand_nil (suc m + n), operand_nil n, mul-zero)
operand_add (suc m) n (b ∷ l) = rw (suc-add, operand_add m n l, pow-succ', mul_assoc) (omega arith)

pub operand_there : (at : ℕ) (l : List ℕ) → at < length l → get_or l at 0 ≡ operand 1 (drop at l)
operand_there at l h = rw (drop-cons l at 0 h, operand_one)

pub bytes_drop : (n : ℕ) (l : List ℕ) → Bytes l → Bytes (drop n l)
bytes_drop n l h i = rw get_or-drop (h (n + i))

-- ---- the first bytes of a list, and those behind them

-- as many as are wanted, or as there are
pub operand_front : (n : ℕ) (l : List ℕ) → operand (length (take (min n (length l)) l)) (take (min n (length l)) l) ≡ operand n l
unfolding operand
operand_front zero l = rw zero-min
operand_front (suc n) [] = rw min-zero
operand_front (suc n) (b ∷ l) = rw suc-min-suc (ap (λ v. b + 256 * v) (operand_front n l))

pub past_front : (n : ℕ) (l : List ℕ) → drop (min n (length l)) l ≡ past n l
unfolding past
past_front zero l = rw zero-min
past_front (suc n) [] = rw min-zero
past_front (suc n) (b ∷ l) = rw suc-min-suc (past_front n l)

pub drop_min : (n : ℕ) (l : List ℕ) → drop (min n (length l)) l ≡ drop n l
drop_min n l = rw (past_front n l, past_drop)

-- ---- a number put together from its last byte on: s of the bytes f ++ x ∷ s are read, and x is the next one

module _ (f s l : List ℕ) (x v : ℕ) (parts : (f ++ x ∷ []) ++ s ≡ l) (read : v ≡ operand (length s) s) where
  pub parts_more : f ++ x ∷ s ≡ l
  parts_more = rw append_assoc at parts

  pub value_more : 256 * v + x ≡ operand (length (x ∷ s)) (x ∷ s)
  unfolding operand
  value_more = rw read (omega arith)

  -- of at most eight bytes
  pub value_fits : Bytes l → length l ≤ 8 → 256 * v + x < 2 ^ 64
  value_fits h small =
      let there : length f + suc (length s) ≡ length l = sym (length-append f (x ∷ s)) ∙ ap length parts_more in
      let within : Bytes (x ∷ s) = λ i. rw (← get_or-append-add f (x ∷ s) i 0, parts_more) (h (length f + i)) in
      let low : operand (suc (length s)) (x ∷ s) < 256 ^ suc (length s) = operand_lt (suc (length s)) (x ∷ s) within in
      let high : 256 ^ suc (length s) ≤ 256 ^ 8 = pow-le-pow_right {n = 256} (omega arith) {i = suc (length s)} {j = 8} (omega arith) in
      omega (arith, value_more)
