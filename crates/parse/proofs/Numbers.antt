-- Reading digits one by one.
use Rattle.std.specs.Prelude.{Option, Some, None}
use Prim.Native.Nat.{ℕ, suc, ◌<◌, ◌≤◌}
use mathlib.Core.Path.{◌≡◌, refl, sym, ◌∙◌}
use mathlib.Core.Bool.{Bool}
use mathlib.Core.List.{List, [], ◌∷◌}
use native.Mathlib.Omega.{arith}
use lib.ListN.{length, get_or, drop, drop_of_length-le}
use lib.Seq.{drop-cons}
use Rattle.parse.specs.Numbers.{digit, next, and_then, value, digits}

module _ (hexadecimal : Bool) (w : List ℕ) where
  pub no_digits : length w ≡ 0 → digits hexadecimal w ≡ None
  unfolding digits
  no_digits h = rw (empty w h)
    where
      empty : (l : List ℕ) → length l ≡ 0 → l ≡ []
      empty [] e = refl
      empty (b ∷ l) e = absurd (omega arith)

  pub digits_begin : (length w ≡ 0 → ⊥) → digits hexadecimal w ≡ value hexadecimal 0 w
  unfolding digits
  digits_begin h = some w h
    where
      some : (l : List ℕ) → (length l ≡ 0 → ⊥) → digits hexadecimal l ≡ value hexadecimal 0 l
      some [] n = absurd (n refl)
      some (b ∷ l) n = refl

module _ (hexadecimal : Bool) (w : List ℕ) (i : ℕ) where
  pub digits_end : (n : ℕ) → length w ≤ i → value hexadecimal n (drop i w) ≡ Some n
  unfolding value
  digits_end n h = rw (drop_of_length-le w h)

  -- what the next byte brings
  module _ (n : ℕ) (d : Option ℕ) (h : i < length w) (p : d ≡ digit (get_or w i 0)) where
    step : value hexadecimal n (drop i w) ≡ and_then (and_then d (next hexadecimal n)) (λ m. value hexadecimal m (drop (suc i) w))
    unfolding value
    step = rw (drop-cons w i 0 h, p)

    pub no_digit : d ≡ None → value hexadecimal n (drop i w) ≡ None
    unfolding and_then
    no_digit e = step ∙ (rw e)

    module _ (x : ℕ) (r : Option ℕ) (q : r ≡ next hexadecimal n x) (e : d ≡ Some x) where
      pub digit_more : (m : ℕ) → r ≡ Some m → value hexadecimal n (drop i w) ≡ value hexadecimal m (drop (suc i) w)
      unfolding and_then
      digit_more m f = step ∙ (rw (e, sym q, f))

      pub digit_none : r ≡ None → value hexadecimal n (drop i w) ≡ None
      unfolding and_then
      digit_none f = step ∙ (rw (e, sym q, f))
