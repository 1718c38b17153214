-- A command's field by its number: the name of each is a text of at least one byte.
use Prim.Native.Nat.{ℕ, zero, suc}
use Prim.Native.String.{String, [] as end, ◌∷◌ as ◌then◌}
use mathlib.Core.Path.{◌≡◌, refl, sym}
use mathlib.Core.Bool.{Bool, true, false, cond, ◌&&◌}
use mathlib.Core.List.{List, [], ◌∷◌, map}
use lib.Dec.{eqb}
use lib.ListN.{length}
use Rattle.std.specs.Prelude.{Option, Some, None, option_map, ◌==◌}
use Rattle.std.specs.Borrow.{Bor}
use Rattle.std.specs.Option.{option_copied}
use Rattle.std.specs.List.{slice_get}
use Rattle.std.specs.Slice.{IsItemAt}
use Rattle.std.proofs.lemmas.Option.{slice_get-map, slice_get_read, slice_get_past}
use borrow.Author.Tests.{ne_eqb}
use native.Mathlib.Omega.{arith}
use Rattle.rules.proofs.Laws.Line.{both}
use Rattle.std.specs.Cmp.{first_so, second_so}
use Rattle.names.specs.Names.{Naming, naming, namings, naming_among, nth_text, ascii, field_name}

filled : List String → Bool
filled [] = true
filled (end ∷ ts) = false
filled ((c then s) ∷ ts) = filled ts

each_filled : List Naming → Bool
each_filled [] = true
each_filled (n ∷ ns) = filled n.fields && each_filled ns

all_filled : each_filled namings ≡ true
unfolding each_filled filled namings naming
all_filled = refl

filled_among : (byte : ℕ) (ns : List Naming) → each_filled ns ≡ true → filled (naming_among byte ns).fields ≡ true
unfolding each_filled filled naming_among naming
filled_among byte [] h = refl
filled_among byte (n ∷ ns) h = both (eqb byte n.byte)
    (λ e. rw e (first_so (filled n.fields) (each_filled ns) h))
    (λ e. rw e (filled_among byte ns (second_so (filled n.fields) (each_filled ns) h)))

-- The name of number i, or none where it is empty.
by_number : (i : ℕ) (ts : List String) → filled ts ≡ true
    → slice_get (map ascii ts) i ≡ cond (length (ascii (nth_text i ts)) == 0) None (Some (ascii (nth_text i ts)))
unfolding filled ascii nth_text
by_number i [] h = refl
by_number zero (end ∷ ts) h = absurd cc
by_number zero ((c then s) ∷ ts) h = rw (ne_eqb (suc (length (ascii s))) 0 (λ e. omega arith))
by_number (suc i) (end ∷ ts) h = absurd cc
by_number (suc i) ((c then s) ∷ ts) h = by_number i ts h

-- What `get` lends of a slice.
lent : {A : Type 0} (xs : List A) (i : ℕ) (r : Option (Bor A)) → IsItemAt xs i r → option_copied r ≡ slice_get xs i
lent xs i None h = sym (slice_get_past xs i h.3)
lent xs i (Some x) h = sym (slice_get_read xs (length xs) i x.now refl h.3.0 h.1)

pub field_got : {A : Type 0} (now : A → List ℕ) (fs : List A) (byte i : ℕ) (r : Option (Bor A)) (a : Option A)
    → map now fs ≡ map ascii (naming_among byte namings).fields → IsItemAt fs i r → a ≡ option_copied r
    → option_map now a ≡ cond (length (field_name byte i) == 0) None (Some (field_name byte i))
unfolding field_name
field_got now fs byte i r a e g f =
    rw (f, lent fs i r g, ← slice_get-map now fs i, e)
    (by_number i (naming_among byte namings).fields (filled_among byte namings all_filled))

pub no_field : (byte i : ℕ) → None ≡ cond (length (field_name byte i) == 0) None (Some (field_name byte i)) → [] ≡ field_name byte i
no_field byte i = empty (field_name byte i)
  where
    empty : (l : List ℕ) → None ≡ cond (length l == 0) None (Some l) → [] ≡ l
    empty [] h = refl
    empty (b ∷ l) h =
        let some : None ≡ Some (b ∷ l) = rw (ne_eqb (suc (length l)) 0 (λ e. omega arith)) at h in
        cc
