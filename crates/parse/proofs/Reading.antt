-- The fields of a command one by one; a word of a text by its number, and where it stands.
use Rattle.std.specs.Prelude.{Option, Some, None}
use Prim.Native.Nat.{ℕ, zero, suc, ◌+◌, ◌-◌, ◌<◌, ◌≤◌}
use mathlib.Core.Path.{◌≡◌, refl, sym, ◌∙◌}
use mathlib.Core.Bool.{Bool, true, false, false≢true}
use mathlib.Core.List.{List, [], ◌∷◌}
use lib.ListN.{length, set, take, drop, length-drop}
use lib.Seq.{drop-drop, take-take, length-take-le}
use native.Mathlib.Omega.{arith}
use Rattle.request.specs.Fields.{row}
use Rattle.request.proofs.ByWidths.{plain, plain_row, row_plain}
use Rattle.rules.proofs.Laws.Line.{both}
use Rattle.parse.specs.Words.{blanks, letters, skip_blanks, word, behind, from_word, Part}
use Rattle.parse.specs.Meaning.{unfit, field, given, ended, fields_from}
use Rattle.parse.proofs.Walking.{blanks_within, letters_within}

-- ---- a command has at most four fields

plain_length : (k : ℕ) (ns : List ℕ) → plain_row k ns ≡ true → length ns ≤ k
unfolding plain_row
plain_length k [] h = omega arith
plain_length zero (n ∷ ns) h = absurd (false≢true h)
plain_length (suc k) (n ∷ ns) h = both (plain n)
    (λ e. omega (arith, plain_length k ns (rw e at h)))
    (λ e. absurd (false≢true (rw e at h)))

pub at_most_four : (byte : ℕ) → length (row false byte) ≤ 4
at_most_four byte = plain_length 4 (row false byte) (row_plain false byte)

-- ---- one field

module _ (wide : Bool) (byte i n : ℕ) (fields text : List ℕ) (r : Option ℕ) (p : r ≡ field wide byte i (word (skip_blanks text))) where
  pub field_read : (v : ℕ) → r ≡ Some v
      → fields_from wide byte i (suc n) fields text ≡ fields_from wide byte (suc i) n (set fields i v) (behind (skip_blanks text))
  unfolding fields_from given
  field_read v e = rw (← p, e)

  pub field_unread : r ≡ None → fields_from wide byte i (suc n) fields text ≡ unfit (i + 1)
  unfolding fields_from given
  field_unread e = rw (← p, e)

-- field number i of `count`
module _ (wide : Bool) (byte count i : ℕ) (fields text : List ℕ) where
  module _ (h : i < count) (r : Option ℕ) (p : r ≡ field wide byte i (word (skip_blanks text))) where
    one_less : count - i ≡ suc (count - suc i)
    one_less = omega arith

    pub fields_next : (v : ℕ) → r ≡ Some v
        → fields_from wide byte i (count - i) fields text ≡ fields_from wide byte (suc i) (count - suc i) (set fields i v) (behind (skip_blanks text))
    fields_next v e = rw one_less (field_read wide byte i (count - suc i) fields text r p v e)

    pub fields_stop : r ≡ None → fields_from wide byte i (count - i) fields text ≡ unfit (i + 1)
    fields_stop e = rw one_less (field_unread wide byte i (count - suc i) fields text r p e)

  pub fields_done : count ≤ i → fields_from wide byte i (count - i) fields text ≡ ended byte (i + 1) fields text
  unfolding fields_from
  fields_done h =
      let e : count - i ≡ 0 = omega arith in
      rw e

-- ---- a word by its number

from_word_nil : (n : ℕ) → from_word n [] ≡ []
unfolding from_word skip_blanks behind blanks letters
from_word_nil zero = refl
from_word_nil (suc n) = from_word_nil n

module _ (i passed : ℕ) (text : List ℕ) where
  pub word_passed : passed < i → from_word (i - passed) text ≡ from_word (i - suc passed) (behind (skip_blanks text))
  unfolding from_word
  word_passed h =
      let e : i - passed ≡ suc (i - suc passed) = omega arith in
      rw e

  pub word_here : i ≤ passed → from_word (i - passed) text ≡ skip_blanks text
  unfolding from_word
  word_here h =
      let e : i - passed ≡ 0 = omega arith in
      rw e

  pub word_none : length text ≡ 0 → from_word (i - passed) text ≡ text
  word_none h = nothing text h
    where
      nothing : (l : List ℕ) → length l ≡ 0 → from_word (i - passed) l ≡ l
      nothing [] e = from_word_nil (i - passed)
      nothing (b ∷ l) e = absurd (omega arith)

-- ---- where it stands

drops : (k n b : ℕ) (l : List ℕ) → drop k (drop n (drop b l)) ≡ drop (b + n + k) l
drops k n b l = rw (drop-drop n b l) (drop-drop k (b + n) l)

-- what is left from a word on is the end of the text
rest_at : (i : ℕ) (l : List ℕ) → (k : ℕ) × (k ≤ length l) × (from_word i l ≡ drop k l)
unfolding from_word skip_blanks behind
rest_at zero l = (blanks l, blanks_within l, refl)
rest_at (suc i) l =
    let s : List ℕ = drop (blanks l) l in
    let (k, h, e) = rest_at i (drop (letters s) s) in (
      blanks l + letters s + k,
      omega (arith, h, blanks_within l, letters_within s, length-drop (blanks l) l, length-drop (letters s) s),
      e ∙ drops k (letters s) (blanks l) l,
    )

pub rest_within : (i : ℕ) (l : List ℕ) → length (from_word i l) ≤ length l
rest_within i l =
    let (k, h, e) = rest_at i l in
    rw e (omega (arith, length-drop k l))

pub word_part : (i : ℕ) (l : List ℕ) (f t : ℕ) → f ≡ length l - length (from_word i l) → t ≡ f + letters (from_word i l) → Part l f t (word (from_word i l))
unfolding word
word_part i l f t p q =
    let (k, h, e) = rest_at i l in
    let n : length (from_word i l) ≡ length l - k = rw e (length-drop k l) in
    let m : f ≡ k = omega arith in
    let d : t - f ≡ letters (from_word i l) = omega arith in
    record {
      order = omega arith;
      within = omega (arith, letters_within (from_word i l));
      are = rw (d, m, ← e);
    }

front_part : (l : List ℕ) (e f k : ℕ) → f + k ≤ e → take k (drop f (take e l)) ≡ take k (drop f l)
front_part l e zero k h = take-take k e l (omega arith)
front_part l zero (suc f) k h = absurd (omega arith)
front_part [] (suc e) (suc f) k h = refl
front_part (x ∷ l) (suc e) (suc f) k h = front_part l e f k (omega arith)

-- a part of a text is a part of the line that the text begins
pub part_of_line : (l bytes : List ℕ) (e f t : ℕ) → e ≤ length l → Part (take e l) f t bytes → Part l f t bytes
part_of_line l bytes e f t h part =
    let k : t ≤ e = omega (arith, part.within, length-take-le e l h) in
    record {
      order = part.order;
      within = omega arith;
      are = sym (front_part l e f (t - f) (omega (arith, part.order))) ∙ part.are;
    }
