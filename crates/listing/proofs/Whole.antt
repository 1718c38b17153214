-- With room for 93 bytes a command's line stands whole, and every other byte is kept.
use Prim.Native.Nat.{ℕ, ◌+◌, ◌-◌, ◌≤◌}
use mathlib.Core.Path.{◌≡◌, ap, ◌∙◌}
use mathlib.Core.Bool.{Bool}
use mathlib.Core.List.{List, ◌++◌}
use lib.ListN.{length, take, drop}
use lib.Seq.{sets-eq}
use native.Mathlib.Omega.{arith}
use native.Mathlib.Nat.{min-eq_left}
use Rattle.lines.specs.Text.{Text, text, write}
use Rattle.lines.proofs.Writing.{now_at}
use Rattle.request.specs.declared.fields.Fields.{Fields}
use Rattle.request.specs.Fields.{list_of}
use Rattle.listing.specs.Listing.{listed}
use Rattle.listing.proofs.Length.{listed_length}

-- a text that has room for all of its bytes
module _ (b : List ℕ) (at : ℕ) (l : List ℕ) (fits : at + length l ≤ length b) (b' : List ℕ) (next : ℕ) (is : text b' next ≡ write (text b at) l) where
  next_whole : next ≡ at + length l
  next_whole = ap (λ (t : Text). t.at) (now_at b at l b' next is) ∙ ap (λ (k : ℕ). at + k) (min-eq_left (omega arith))

  bytes_whole : b' ≡ take at b ++ l ++ drop (at + length l) b
  bytes_whole = ap (λ (t : Text). t.bytes) (now_at b at l b' next is) ∙ sets-eq l b at fits

module _ (wide : Bool) (byte : ℕ) (fields : Fields) (b : List ℕ) (at : ℕ) (room : at + 93 ≤ length b) (b' : List ℕ) (next : ℕ) (is : text b' next ≡ write (text b at) (listed wide byte (list_of fields))) where
  fits : at + length (listed wide byte (list_of fields)) ≤ length b
  fits = omega (arith, listed_length wide byte fields)

  pub listed_next : next ≡ at + length (listed wide byte (list_of fields))
  listed_next = next_whole b at (listed wide byte (list_of fields)) (omega (arith, listed_length wide byte fields)) b' next is

  pub listed_whole : b' ≡ take at b ++ listed wide byte (list_of fields) ++ drop (at + length (listed wide byte (list_of fields))) b
  listed_whole = bytes_whole b at (listed wide byte (list_of fields)) (omega (arith, listed_length wide byte fields)) b' next is
