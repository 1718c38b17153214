-- Fields written by four widths, and a command of the table.
use Rattle.std.specs.Prelude.{Option, Some, None, Result}
use Prim.Native.Nat.{ℕ, zero, suc, ◌+◌, ◌-◌, ◌*◌, ◌/◌, ◌%◌, ◌^◌, ◌≤◌, ◌<◌}
use mathlib.Core.Path.{◌≡◌, refl, sym, ap, ◌∙◌}
use mathlib.Core.Bool.{Bool, true, false, cond}
use mathlib.Core.List.{List, [], ◌∷◌}
use lib.ListN.{length, take}
use lib.Seq.{sets}
use lib.Dec.{eqb, ltb, leb}
use native.Mathlib.Omega.{arith}
use native.Mathlib.Nat.{pow-le-pow_right, pow-succ', one-le-pow, div-one, div-div-eq-div-mul, div-eq_of_lt, div-lt_iff_lt-mul, suc-add}
use Rattle.std.proofs.Common.{pow-add, subst}
use Rattle.std.specs.Int.{w64, byte_at, bytes_low_first, to_le_bytes}
use borrow.Author.Tests.{lt-ltb, le-ltb, ltb-true, ltb-false, eqb-true, eqb-false, ne_eqb}
use Rattle.rules.proofs.Laws.Line.{both}
use Rattle.rules.specs.Writer.{little_endian, field_bytes, fits}
use Rattle.rules.specs.Writer.{bytes_of, ranges}
use Rattle.rules.specs.Writer as rules
use Rattle.rules.specs.State.{Limits}
use Rattle.rules.specs.Requests.{nth, widths, widths_or, sum}
use Rattle.rules.specs.Questions.{question}
use Rattle.rules.proofs.Laws.Writer.{of_three, refusal_is, fails_first, fields_length}
use Rattle.lines.specs.declared.Refusal.{Refusal}
use Rattle.lines.specs.Text.{Text, text, write}
use Rattle.lines.proofs.Writing.{write_append, write_sets}
use Rattle.request.specs.Request.{limits_of, operands_in, operands_of}
use Rattle.request.specs.declared.fields.Fields.{Fields}
use Rattle.request.specs.Fields.{list_of, four, row}
use Rattle.std.specs.List.{list_all, zip}
use Rattle.request.proofs.Table.{by_row}
use Rattle.request.proofs.ByWidths.{plain_row, row_plain, not_five, width_most}
use Rattle.writer.specs.Writer.{written_of, no_misfit, known_answer, known_buffer}

-- a number below 2^64 fits in eight bytes or more
pub wide_enough : (v n : ℕ) → v < 18446744073709551616 → 8 ≤ n → true ≡ ltb v (256 ^ n)
wide_enough v n h k = sym (lt-ltb v (256 ^ n) (omega (arith, pow-le-pow_right {n = 256} (omega arith) {i = 8} {j = n} k)))

power : (n : ℕ) → 2 ^ (8 * n) ≡ 256 ^ n
power zero = refl
power (suc n) =
    let e : 8 * suc n ≡ 8 + 8 * n = omega arith in
    rw (e, pow-add, power n, pow-succ' 256 n)

-- what is left of it without its n lowest bytes
none_left : (v k : ℕ) → 0 < k → eqb (v / k) 0 ≡ ltb v k
none_left v k h = both (ltb v k)
    (λ e. let z : v / k ≡ 0 = div-eq_of_lt (ltb-true v k e) in rw (e, z))
    (λ e. rw (e, ne_eqb (v / k) 0 (λ z. absurd (omega (arith, (div-lt_iff_lt-mul {k = k} {x = v} {y = 1} h).0 (omega (arith, z)), ltb-false v k e)))))

pub narrow : (v n : ℕ) → eqb (v / 2 ^ (8 * n)) 0 ≡ ltb v (256 ^ n)
narrow v n = rw power (none_left v (256 ^ n) (one-le-pow n 256 (omega arith)))

-- the bytes of a number from byte i on
byte_is : (i v : ℕ) → byte_at i v ≡ v / 256 ^ i % 256
byte_is zero v = rw div-one
byte_is (suc i) v = refl

bytes_from : (i k v : ℕ) → little_endian k (v / 256 ^ i) ≡ bytes_low_first i k v
unfolding little_endian
bytes_from i zero v = refl
bytes_from i (suc k) v =
    let q : 256 ^ i * 256 ≡ 256 ^ suc i = rw pow-succ' (omega arith) in
    let e : v / 256 ^ i / 256 ≡ v / 256 ^ suc i = rw (div-div-eq-div-mul, q) in
    rw (byte_is i v, e, bytes_from (suc i) k v)

front : (i n m v : ℕ) → take n (bytes_low_first i (n + m) v) ≡ bytes_low_first i n v
front i zero m v = refl
front i (suc n) m v = rw suc-add (ap (λ l. byte_at i v ∷ l) (front (suc i) n m v))

pub first_bytes : (n v : ℕ) → n ≤ 8 → take n (to_le_bytes w64 v) ≡ little_endian n v
first_bytes n v h =
    let e : 8 ≡ n + (8 - n) = omega arith in
    let all : take n (bytes_low_first 0 8 v) ≡ bytes_low_first 0 n v = subst (λ (k : ℕ). take n (bytes_low_first 0 k v) ≡ bytes_low_first 0 n v) (sym e) (front 0 n (8 - n) v) in
    all ∙ (sym (bytes_from 0 n v) ∙ ap (little_endian n) (div-one v))

-- no width is above eight
unfoldable pub Narrow : List ℕ → Type 0
Narrow [] = Unit
Narrow (n ∷ ns) = (n ≤ 8) × Narrow ns

-- a field is written, then the others
pub field_put : (t u : Text) (n v : ℕ) (ns vs : List ℕ) → u ≡ write t (little_endian n v) → write u (field_bytes ns vs) ≡ write t (field_bytes (n ∷ ns) (v ∷ vs))
unfolding field_bytes
field_put t u n v ns vs h = rw (h, write_append)

-- ---- four widths, of which those that a command does not have are 0

below_one : (v : ℕ) → ltb v 1 ≡ eqb v 0
below_one v = both (eqb v 0)
    (λ e. rw e (lt-ltb v 1 (omega (arith, eqb-true v 0 e))))
    (λ e. rw e (le-ltb v 1 (omega (arith, eqb-false v 0 e))))

pub fits_four : (ns : List ℕ) (a b c d : ℕ) → plain_row 4 ns ≡ true → fits (four ns) (a ∷ b ∷ c ∷ d ∷ []) ≡ fits ns (a ∷ b ∷ c ∷ d ∷ [])
unfolding fits four nth
fits_four [] a b c d h = rw (below_one a, below_one b, below_one c, below_one d)
fits_four (n ∷ []) a b c d h = rw (below_one b, below_one c, below_one d)
fits_four (n ∷ m ∷ []) a b c d h = rw (below_one c, below_one d)
fits_four (n ∷ m ∷ o ∷ []) a b c d h = rw (below_one d)
fits_four (n ∷ m ∷ o ∷ t ∷ []) a b c d h = refl
fits_four (n ∷ m ∷ o ∷ t ∷ u ∷ ns) a b c d h = let z : false ≡ true = not_five n m o t u ns h in cc

pub bytes_four : (ns : List ℕ) (a b c d : ℕ) → plain_row 4 ns ≡ true → field_bytes (four ns) (a ∷ b ∷ c ∷ d ∷ []) ≡ field_bytes ns (a ∷ b ∷ c ∷ d ∷ [])
unfolding field_bytes four nth little_endian
bytes_four [] a b c d h = refl
bytes_four (n ∷ []) a b c d h = refl
bytes_four (n ∷ m ∷ []) a b c d h = refl
bytes_four (n ∷ m ∷ o ∷ []) a b c d h = refl
bytes_four (n ∷ m ∷ o ∷ t ∷ []) a b c d h = refl
bytes_four (n ∷ m ∷ o ∷ t ∷ u ∷ ns) a b c d h = let z : false ≡ true = not_five n m o t u ns h in cc

-- ---- a command of the table

module _ (wide : Bool) (byte : ℕ) (fields : Fields) (ws vs : List ℕ) (w : ws ≡ four (row wide byte)) (v : vs ≡ list_of fields) where
  pub fits_row : list_all (λ p. ltb p.0 (256 ^ p.1)) (zip vs ws) ≡ fits (row wide byte) (list_of fields)
  unfolding list_of four fits
  fits_row = rw (w, v) (fits_four (row wide byte) _ _ _ _ (row_plain wide byte))

  pub bytes_row : byte ∷ field_bytes ws vs ≡ bytes_of (limits_of wide) byte (list_of fields)
  unfolding bytes_of row list_of
  bytes_row = ap (λ (l : List ℕ). byte ∷ l) (rw (w, v) (bytes_four (row wide byte) _ _ _ _ (row_plain wide byte)))

  pub narrow_row : Narrow ws
  unfolding four Narrow
  narrow_row = rw w (width_most wide byte 0, (width_most wide byte 1, (width_most wide byte 2, (width_most wide byte 3, tt))))

-- a text written at the front of a buffer
pub at_front : (b b' l : List ℕ) (next : ℕ) → text b' next ≡ write (text b 0) l → b' ≡ sets b 0 l
at_front b b' l next k = ap (λ (x : Text). x.bytes) (k ∙ write_sets l b 0)

-- ---- a byte of the table, and one that is not in it

in_row : (n : ℕ) (o : Option (List ℕ)) → operands_in o ≡ Some n → (rules.has_row o ≡ true) × (sum (widths_or [] o) ≡ n)
unfolding operands_in rules.has_row widths_or
in_row n None e = (cc, cc)
in_row n (Some ns) e = (refl, cc)

not_in_row : (o : Option (List ℕ)) → operands_in o ≡ None → rules.has_row o ≡ false
unfolding operands_in rules.has_row
not_in_row None e = refl
not_in_row (Some ns) e = cc

same_answer : (m : Bool) (k n room : ℕ) → k ≡ suc n
    → cond m (cond (ltb n room) (rules.bytes (n + 1)) (rules.refused 12)) (rules.refused 6)
    ≡ cond (eqb (of_three true m (leb k room)) 0) (rules.bytes k) (rules.refused (of_three true m (leb k room)))
unfolding of_three
same_answer false k n room e = refl
same_answer true k n room e = both (ltb n room)
    (λ h. rw (e, h) (ap rules.bytes (omega arith)))
    (λ h. rw (e, h))

same_buffer : (m : Bool) (k n : ℕ) (b l : List ℕ) → k ≡ suc n
    → cond m (cond (ltb n (length b)) l b) b ≡ cond (eqb (of_three true m (leb k (length b))) 0) l b
unfolding of_three
same_buffer false k n b l e = refl
same_buffer true k n b l e = both (ltb n (length b))
    (λ h. rw (e, h))
    (λ h. rw (e, h))

module _ (wide : Bool) (byte : ℕ) (fs b : List ℕ) where
  pub refused_unknown : rules.has_row (widths (limits_of wide) byte) ≡ false
      → (rules.refused 1 ≡ rules.write_answer (limits_of wide) byte fs (length b)) × (b ≡ rules.buffer_with (limits_of wide) byte fs b)
  unfolding rules.write_answer rules.buffer_with
  refused_unknown h =
      let e : rules.write_refusal (limits_of wide) byte fs (length b) ≡ 1 = refusal_is (limits_of wide) byte fs (length b) ∙ fails_first _ _ _ h in
      (rw e, rw e)

  pub unknown_answer : operands_of wide byte ≡ None
      → (rules.refused 1 ≡ rules.write_answer (limits_of wide) byte fs (length b)) × (b ≡ rules.buffer_with (limits_of wide) byte fs b)
  unfolding operands_of
  unknown_answer h = refused_unknown (not_in_row (widths (limits_of wide) byte) h)

  module _ (n : ℕ) (h : operands_of wide byte ≡ Some n) where
    there : (rules.has_row (widths (limits_of wide) byte) ≡ true) × (sum (row wide byte) ≡ n)
    unfolding operands_of row rules.row
    there = in_row n (widths (limits_of wide) byte) h

    refusal_so : rules.write_refusal (limits_of wide) byte fs (length b) ≡ of_three true (no_misfit wide byte fs) (leb (length (bytes_of (limits_of wide) byte fs)) (length b))
    unfolding no_misfit rules.no_misfit question row
    refusal_so = refusal_is (limits_of wide) byte fs (length b) ∙ rw there.0

    long : length (bytes_of (limits_of wide) byte fs) ≡ suc n
    unfolding bytes_of row
    long = omega (arith, fields_length (row wide byte) fs, there.1)

    pub known_is : (r : Result ℕ Refusal) (b' : List ℕ) → (written_of r ≡ known_answer wide byte n fs (length b)) × (b' ≡ known_buffer wide byte n fs b)
        → (written_of r ≡ rules.write_answer (limits_of wide) byte fs (length b)) × (b' ≡ rules.buffer_with (limits_of wide) byte fs b)
    unfolding known_answer known_buffer rules.write_answer rules.buffer_with
    known_is r b' k = (
      k.0 ∙ (same_answer (no_misfit wide byte fs) _ n (length b) long ∙ rw refusal_so refl),
      k.1 ∙ (same_buffer (no_misfit wide byte fs) _ n b (sets b 0 (bytes_of (limits_of wide) byte fs)) long ∙ rw refusal_so refl),
    )

pub large_row : (l : Limits) (byte : ℕ) → 256 ≤ byte → rules.has_row (widths l byte) ≡ false
large_row l byte h = both (rules.has_row (widths l byte))
    (λ e. absurd (omega (arith, ltb-true byte 256 (by_row (λ b. ltb b 256) (λ b. true) byte l e refl))))
    (λ e. e)
