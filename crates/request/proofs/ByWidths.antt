-- Operands read by their widths, four at a time.
use Prim.Native.Nat.{ℕ, zero, suc, ◌≤◌, ◌-◌}
use native.Mathlib.Omega.{arith}
use borrow.Author.Tests.{lt-ltb, leb-true}
use Rattle.std.specs.Prelude.{nat_lt}
use Rattle.std.specs.List.{filter}
use mathlib.Core.Path.{◌≡◌, refl, sym, ap}
use mathlib.Core.Bool.{Bool, true, false, ◌&&◌, ◌||◌}
use mathlib.Core.List.{List, [], ◌∷◌, ◌++◌, map}
use lib.Dec.{eqb, leb}
use lib.ListN.{length, replicate}
use Rattle.std.specs.Cmp.{first_so, second_so}
use Rattle.rules.proofs.Laws.Line.{both}
use Rattle.rules.specs.State.{Limits}
use Rattle.rules.specs.Requests.{Request, operand, past, operands, nth, widths, widths_or}
use Rattle.rules.specs.Questions.{at_most, in_range}
use Rattle.rules.specs.Writer.{row as rules_row, ranges}
use Rattle.request.specs.Request.{width, limits_of}
use Rattle.request.specs.Fields.{four, row}
use Rattle.rules.proofs.Laws.Apart.{Apart, all_bytes, but_last, same_unless}
use Rattle.request.proofs.Table.{last_request, no_row}

-- a width that an operand can have
unfoldable pub plain : ℕ → Bool
plain n = eqb n 1 || (eqb n 2 || (eqb n 4 || eqb n 8))

-- at most k such widths
unfoldable pub plain_row : ℕ → List ℕ → Bool
plain_row k [] = true
plain_row zero (n ∷ ns) = false
plain_row (suc k) (n ∷ ns) = plain n && plain_row k ns

-- What holds of each row of the table and of no widths holds of the widths of every byte.
of_each_row : (wide : Bool) (p : List ℕ → Bool) (byte : ℕ) → map (λ b. p (row wide b)) all_bytes ≡ map (λ b. true) all_bytes → p [] ≡ true → p (row wide byte) ≡ true
of_each_row wide p byte all none = same_unless (λ b. p (row wide b)) (λ b. true) byte Unit all_bytes all tt (λ h. rw (no_row wide Unit byte h) none)

pub row_plain : (wide : Bool) (byte : ℕ) → plain_row 4 (row wide byte) ≡ true
unfolding plain_row plain row rules_row widths widths_or limits_of width
row_plain true byte = of_each_row true (plain_row 4) byte refl refl
row_plain false byte = of_each_row false (plain_row 4) byte refl refl

head_plain : (n k : ℕ) (ns : List ℕ) → plain_row (suc k) (n ∷ ns) ≡ true → plain n ≡ true
unfolding plain_row
head_plain n k ns h = both (plain n) (λ e. e) (λ e. let z : false ≡ true = rw e at h in cc)

tail_plain : (n k : ℕ) (ns : List ℕ) → plain_row (suc k) (n ∷ ns) ≡ true → plain_row k ns ≡ true
unfolding plain_row
tail_plain n k ns h = both (plain n) (λ e. rw e at h) (λ e. let z : false ≡ true = rw e at h in cc)

none_left : (u : ℕ) (ns : List ℕ) → plain_row 0 (u ∷ ns) ≡ true → false ≡ true
unfolding plain_row
none_left u ns h = h

pub not_five : (n m o t u : ℕ) (ns : List ℕ) → plain_row 4 (n ∷ m ∷ o ∷ t ∷ u ∷ ns) ≡ true → false ≡ true
not_five n m o t u ns h = none_left u ns (tail_plain t 0 _ (tail_plain o 1 _ (tail_plain m 2 _ (tail_plain n 3 _ h))))

-- no operand has more than eight bytes
most_row : List ℕ → Bool
most_row [] = true
most_row (n ∷ ns) = leb n 8 && most_row ns

row_most : (wide : Bool) (byte : ℕ) → most_row (row wide byte) ≡ true
unfolding most_row row rules_row widths widths_or limits_of width
row_most true byte = of_each_row true most_row byte refl refl
row_most false byte = of_each_row false most_row byte refl refl

nth_most : (ns : List ℕ) (i : ℕ) → most_row ns ≡ true → nth i ns ≤ 8
unfolding most_row nth
nth_most [] i h = omega arith
nth_most (n ∷ ns) zero h = leb-true n 8 (first_so (leb n 8) (most_row ns) h)
nth_most (n ∷ ns) (suc i) h = nth_most ns i (second_so (leb n 8) (most_row ns) h)

pub width_most : (wide : Bool) (byte i : ℕ) → nth i (row wide byte) ≤ 8
width_most wide byte i = nth_most (row wide byte) i (row_most wide byte)

-- four operands, each from behind the one before it
four_of : (ns b : List ℕ)
    → operand (nth 0 ns) b ∷ operand (nth 1 ns) (past (nth 0 ns) b) ∷ operand (nth 2 ns) (past (nth 1 ns) (past (nth 0 ns) b))
    ∷ operand (nth 3 ns) (past (nth 2 ns) (past (nth 1 ns) (past (nth 0 ns) b))) ∷ []
    ≡ four (operands ns b)
unfolding four nth operands operand past
four_of [] b = refl
four_of (n ∷ []) b = refl
four_of (n ∷ m ∷ []) b = refl
four_of (n ∷ m ∷ o ∷ []) b = refl
four_of (n ∷ m ∷ o ∷ t ∷ ns) b = refl

pub four_read : (ns b c d e : List ℕ) → c ≡ past (nth 0 ns) b → d ≡ past (nth 1 ns) c → e ≡ past (nth 2 ns) d
    → operand (nth 0 ns) b ∷ operand (nth 1 ns) c ∷ operand (nth 2 ns) d ∷ operand (nth 3 ns) e ∷ [] ≡ four (operands ns b)
four_read ns b c d e p q r = rw (r, q, p, four_of ns b)

-- there are as many operands as widths that are not 0
plain_above : (n : ℕ) → plain n ≡ true → nat_lt 0 n ≡ true
unfolding plain
plain_above zero h = let z : false ≡ true = h in cc
plain_above (suc n) h = lt-ltb 0 (suc n) (omega arith)

none_above : (j : ℕ) → filter (nat_lt 0) (replicate j 0) ≡ []
none_above zero = refl
none_above (suc j) = none_above j

fields_padded : (k j : ℕ) (ns : List ℕ) → plain_row k ns ≡ true → length (filter (nat_lt 0) (ns ++ replicate j 0)) ≡ length ns
unfolding plain_row
fields_padded k j [] h = rw (none_above j)
fields_padded zero j (n ∷ ns) h = let z : false ≡ true = h in cc
fields_padded (suc k) j (n ∷ ns) h = rw (plain_above n (head_plain n k ns h)) (ap suc (fields_padded k j ns (tail_plain n k ns h)))

four_padded : (ns : List ℕ) → plain_row 4 ns ≡ true → four ns ≡ ns ++ replicate (4 - length ns) 0
unfolding four nth
four_padded [] h = refl
four_padded (n ∷ []) h = refl
four_padded (n ∷ m ∷ []) h = refl
four_padded (n ∷ m ∷ o ∷ []) h = refl
four_padded (n ∷ m ∷ o ∷ t ∷ []) h = refl
four_padded (n ∷ m ∷ o ∷ t ∷ u ∷ ns) h = let z : false ≡ true = not_five n m o t u ns h in cc

pub fields_counted : (ws ns : List ℕ) → ws ≡ four ns → plain_row 4 ns ≡ true → length (filter (nat_lt 0) ws) ≡ length ns
fields_counted ws ns e h = rw (e, four_padded ns h) (fields_padded 4 (4 - length ns) ns h)

-- every byte but those tried is asked as hex 1A
pub last_ranges : (l : Limits) (A : Type 0) (byte : ℕ) (vs : List ℕ) → Apart A byte but_last → (at_most 1 (nth 1 vs)).answer ≡ ranges l byte vs
unfolding ranges
last_ranges l A byte vs h = sym (ap (λ (r : Request). (in_range r).answer) (last_request l A byte h vs))

-- A command has as many fields in one form of the stream as in the other.
pub rows_alike : (wide : Bool) (byte : ℕ) → length (row false byte) ≡ length (row wide byte)
unfolding row rules_row widths_or widths limits_of
rows_alike false byte = refl
rows_alike true byte = same_unless (λ b. length (row false b)) (λ b. length (row true b)) byte Unit all_bytes refl tt (λ h. rw (no_row false Unit byte h, no_row true Unit byte h))
