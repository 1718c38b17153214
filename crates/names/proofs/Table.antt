-- A byte that is not in the table has neither name nor fields, a byte that is in no row with an i-th field has no i-th field, and no command has more than four.
use Prim.Native.Nat.{ℕ, zero, suc, ◌≤◌}
use Prim.Native.String.{String, [] as end, ◌∷◌ as ◌then◌}
use mathlib.Core.Path.{◌≡◌, refl}
use mathlib.Core.Bool.{Bool, true, ◌&&◌}
use mathlib.Core.Logic.{◌≢◌}
use mathlib.Core.List.{List, [], ◌∷◌}
use lib.Dec.{eqb, leb}
use lib.ListN.{length}
use native.Mathlib.Omega.{arith}
use borrow.Author.Tests.{leb-true, ne_eqb}
use Rattle.std.specs.Cmp.{first_so, second_so}
use Rattle.rules.proofs.Laws.Apart.{Apart, all_bytes, among, among_apart}
use Rattle.rules.proofs.Laws.Line.{both}
use Rattle.names.specs.Names.{Naming, naming, namings, naming_among, nth_text, ascii, field_name}

pub no_row : (A : Type 0) (byte : ℕ) → Apart A byte all_bytes → naming_among byte namings ≡ naming byte "" []
unfolding among naming_among namings naming
no_row A byte h = among_apart (λ b. naming_among b namings) (naming byte "" []) A byte all_bytes h

-- ---- a byte that is none of those whose rows have a text

-- what is known, and more where the text is not empty
unfoldable pub WithTold : String → Type 0 → Type 0 → Type 0
WithTold end A B = A
WithTold (c then s) A B = A × B

-- Beside A: the byte is none of the rows that have a text.
unfoldable pub Untold : (Naming → String) → Type 0 → ℕ → List Naming → Type 0
Untold text A byte [] = A
Untold text A byte (n ∷ ns) = Untold text (WithTold (text n) A (byte ≢ n.byte)) byte ns

module _ (text : Naming → String) (byte : ℕ) (none : text (naming byte "" []) ≡ "") where
  row_untold : (A : Type 0) (n : Naming) (ns : List Naming) (s : String) → text n ≡ s → WithTold s A (byte ≢ n.byte) → text (naming_among byte ns) ≡ ""
      → A × (text (naming_among byte (n ∷ ns)) ≡ "")
  unfolding WithTold naming_among
  row_untold A n ns end e a h = (a, both (eqb byte n.byte) (λ t. rw t e) (λ t. rw t h))
  row_untold A n ns (c then s) e (a, d) h = (a, rw (ne_eqb byte n.byte d) h)

  untold : (A : Type 0) (ns : List Naming) → Untold text A byte ns → A × (text (naming_among byte ns) ≡ "")
  unfolding Untold naming_among
  untold A [] h = (h, none)
  untold A (n ∷ ns) h =
      let r = untold (WithTold (text n) A (byte ≢ n.byte)) ns h in
      row_untold A n ns (text n) refl r.0 r.1

pub no_field : (A : Type 0) (byte i : ℕ) → Untold (λ n. nth_text i n.fields) A byte namings → [] ≡ field_name byte i
unfolding field_name ascii naming nth_text
no_field A byte i h = rw (untold (λ n. nth_text i n.fields) byte refl A namings h).1

-- ---- at most four fields in each of the rows

few : List Naming → Bool
few [] = true
few (n ∷ ns) = leb (length n.fields) 4 && few ns

few_among : (byte : ℕ) (ns : List Naming) → few ns ≡ true → length (naming_among byte ns).fields ≤ 4
unfolding few naming_among naming
few_among byte [] h = omega arith
few_among byte (n ∷ ns) h = both (eqb byte n.byte)
    (λ e. rw e (leb-true _ _ (first_so (leb (length n.fields) 4) (few ns) h)))
    (λ e. rw e (few_among byte ns (second_so (leb (length n.fields) 4) (few ns) h)))

all_few : few namings ≡ true
unfolding few namings naming
all_few = refl

nth_past : (i : ℕ) (l : List String) → length l ≤ i → nth_text i l ≡ ""
unfolding nth_text
nth_past i [] h = refl
nth_past zero (t ∷ ts) h = absurd (omega arith)
nth_past (suc i) (t ∷ ts) h = nth_past i ts (omega arith)

pub past_four : (byte i : ℕ) → 4 ≤ i → [] ≡ field_name byte i
unfolding field_name ascii
past_four byte i h = rw (nth_past i (naming_among byte namings).fields (omega (arith, few_among byte namings all_few)))
