-- 2026-02: no two accepted commands have the same bytes; and what the writer refuses of a command that was read.
use Rattle.std.specs.Prelude.{ℕ, ◌≤◌, ◌≡◌, cond, length}
use Rattle.std.proofs.Math.Path.{refl}
use Rattle.std.proofs.Common.{sym, ap, ◌∙◌, arith, le-leb}
use mathlib.Core.List.{List, [], ◌∷◌}
use Rattle.rules.specs.State.{Limits}
use Rattle.rules.specs.Requests.{Request, asks, read}
use Rattle.rules.specs.Questions.{in_range}
use Rattle.rules.specs.Writer.{Bytes, field_bytes, row, bytes_of, ranges, write_refusal}
use Rattle.rules.specs.ReadBack.{operands_read}
use Rattle.rules.proofs.Laws.Writer as laws
use Rattle.rules.proofs.ReadBack as read_back
use Rattle.rules.proofs.ReadBackFields.{fields_read_off}

-- ---- no two accepted commands have the same bytes

pub writing_is_injective : (l : Limits) (byte byte' : ℕ) (fields fields' : List ℕ) (room room' : ℕ) → length fields ≡ length fields'
    → write_refusal l byte fields room ≡ 0 → write_refusal l byte' fields' room' ≡ 0 → bytes_of l byte fields ≡ bytes_of l byte' fields'
    → (byte ≡ byte') × (fields ≡ fields')
unfolding bytes_of
writing_is_injective l byte byte' fields fields' room room' long a a' e =
    let b : byte ≡ byte' = cc in
    let m : field_bytes (row l byte) fields ≡ field_bytes (row l byte') fields' = cc in
    (b, sym (fields_read_off l byte fields room a []) ∙ rw (m, long, b) refl ∙ fields_read_off l byte' fields' room' a' [])

-- ---- a command that was read, given to the writer again

module _ (l : Limits) (byte : ℕ) (bytes : List ℕ) (are : Bytes bytes) (q : Request) (used : ℕ) (reads : read l (byte ∷ bytes) ≡ asks q used) (zeros : ℕ) where
  held : (room : ℕ) → used ≤ room → length (bytes_of l byte (operands_read l byte bytes zeros)) ≤ room
  unfolding bytes_of
  held room h = omega (arith, laws.fields_length (row l byte) (operands_read l byte bytes zeros), (read_back.known l byte bytes are q used reads zeros).3)

  -- With room for it the writer refuses it with 6 if the ranges do, and else accepts it.
  pub ranges_alone_decide : (room : ℕ) → used ≤ room → write_refusal l byte (operands_read l byte bytes zeros) room ≡ cond (in_range q).answer 0 6
  unfolding ranges
  ranges_alone_decide room h =
      laws.refusal_is l byte (operands_read l byte bytes zeros) room
      ∙ laws.two_hold (read_back.known l byte bytes are q used reads zeros).0 (laws.fits_again zeros (row l byte) bytes are) (ap (λ (r : Request). (in_range r).answer) (read_back.asks_the_same l byte bytes are q used reads zeros))
      (le-leb _ _ (held room h))
