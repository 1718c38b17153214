-- How long a line is at most.
use Prim.Native.Nat.{ℕ, zero, suc, ◌*◌, ◌≤◌}
use mathlib.Core.Path.{◌≡◌, refl}
use mathlib.Core.Bool.{Bool, true, cond, ◌&&◌}
use mathlib.Core.List.{List, [], ◌∷◌}
use lib.Dec.{eqb, leb}
use lib.ListN.{length, take, length-append}
use native.Mathlib.Omega.{arith}
use borrow.Author.Tests.{leb-true}
use Rattle.std.specs.Cmp.{first_so, second_so}
use Rattle.rules.proofs.Laws.Line.{both}
use Rattle.rules.specs.Lines.{space, line_feed}
use Rattle.lines.proofs.Digits.{decimal_most}
use Rattle.names.specs.Names.{Naming, naming, namings, naming_among, name_of, ascii}
use Rattle.request.specs.declared.fields.Fields.{Fields}
use Rattle.request.specs.Fields.{list_of, row}
use Rattle.listing.specs.Listing.{numbers, no_pin, shown_fields, listed}

-- every name of the rows has at most eight bytes
unfoldable short : List Naming → Bool
short [] = true
short (n ∷ ns) = leb (length (ascii n.name)) 8 && short ns

short_among : (byte : ℕ) (ns : List Naming) → short ns ≡ true → length (ascii (naming_among byte ns).name) ≤ 8
unfolding short naming_among naming ascii
short_among byte [] h = omega arith
short_among byte (n ∷ ns) h = both (eqb byte n.byte)
    (λ e. rw e (leb-true _ _ (first_so (leb (length (ascii n.name)) 8) (short ns) h)))
    (λ e. rw e (short_among byte ns (second_so (leb (length (ascii n.name)) 8) (short ns) h)))

all_short : short namings ≡ true
unfolding short namings naming ascii
all_short = refl

name_most : (byte : ℕ) → length (name_of byte) ≤ 8
unfolding name_of
name_most byte = short_among byte namings all_short

numbers_most : (k : ℕ) (vs : List ℕ) → length (numbers (take k vs)) ≤ 21 * length vs
unfolding numbers space
numbers_most zero vs = omega arith
numbers_most (suc k) [] = omega arith
numbers_most (suc k) (v ∷ vs) = simp length-append (omega (arith, decimal_most v, numbers_most k vs))

shown_most : (wide : Bool) (byte : ℕ) (fields : List ℕ) → length (numbers (shown_fields wide byte fields)) ≤ 21 * length fields
unfolding shown_fields
shown_most wide byte fields = numbers_most (cond (no_pin wide byte fields) 3 (length (row wide byte))) fields

-- A line has at most 93 bytes: a name of 8, four times a space and 20 digits, a line feed.
pub listed_length : (wide : Bool) (byte : ℕ) (fields : Fields) → length (listed wide byte (list_of fields)) ≤ 93
unfolding listed list_of line_feed
listed_length wide byte fields = simp length-append (omega (arith, name_most byte, shown_most wide byte (list_of fields)))
