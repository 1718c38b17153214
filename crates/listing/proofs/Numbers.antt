-- Numbers written one after another.
use Prim.Native.Nat.{ℕ, suc, ◌+◌, ◌≤◌}
use mathlib.Core.Path.{◌≡◌}
use mathlib.Core.List.{List, ◌∷◌}
use lib.ListN.{length, drop, drop_of_length-le}
use native.Mathlib.Numerals.{add-one}
use Rattle.rules.specs.Lines.{decimal, space}
use Rattle.lines.specs.Text.{Text, write}
use Rattle.lines.proofs.Writing.{write_append}
use Rattle.listing.specs.Listing.{numbers}

-- a space and a number are written, then the others
pub next_put : (t u v : Text) (l : List ℕ) (i x : ℕ) → u ≡ write t space → v ≡ write u (decimal x) → drop i l ≡ x ∷ drop (suc i) l
    → write v (numbers (drop (i + 1) l)) ≡ write t (numbers (drop i l))
unfolding numbers
next_put t u v l i x p q e = rw (add-one, e, write_append, write_append, q, p)

pub all_put : (t : Text) (l : List ℕ) (i : ℕ) → length l ≤ i → write t (numbers (drop i l)) ≡ t
unfolding numbers write
all_put t l i h = rw (drop_of_length-le l h)
