-- 2026-02: "What it writes, the reader must take back as that command, and each accepted command is rewritten to its own bytes." All for any limits, so for every
-- width of CPU and node operands. `fields` are the numbers given to the writer, `room` is how many bytes its buffer has.
use Rattle.std.specs.Prelude.{ℕ, suc, ◌≤◌, ◌<◌, ◌≡◌, ◌↔◌, ◌≢◌, true, false, ◌&&◌, length, take}
use Rattle.std.proofs.Math.Path.{refl}
use Rattle.std.proofs.Common.{sym, ap, ◌∙◌, leb-true, leb-false, le-leb}
use mathlib.Core.List.{List, [], ◌∷◌}
use Rattle.std.proofs.lemmas.Bool.{lt-leb}
use Rattle.rules.specs.State.{Limits, State, base_limits}
use Rattle.rules.specs.Requests.{Request, asks, read, operands, widths, widths_or, request, sum, at_least, pin_of, nth, all_ones}
use Rattle.rules.specs.Questions.{question, first_no, priority_in_range, in_range, refusal}
use Rattle.rules.specs.Writer.{Bytes, little_endian, field_bytes, row, bytes_of, fits, ranges, has_row, in_table, no_misfit, buffer_holds, write_refusal, names_node}
use Rattle.rules.specs.ReadBack.{operands_read}
use Rattle.rules.proofs.Laws.Writer as laws
use Rattle.rules.proofs.Laws.Ranges.{out_of_range, in_range_passes}

-- ---- what is accepted

module _ (l : Limits) (byte : ℕ) (fields : List ℕ) (room : ℕ) where
  -- "It accepts exactly the commands whose byte is in the table and whose fields fit their widths, with type, class, value, flags and mark in the ranges of the
  -- sixth question", if the buffer holds them.
  pub accepted_exactly : (write_refusal l byte fields room ≡ 0)
      ↔ ((has_row (widths l byte) ≡ true) × ((fits (row l byte) fields && ranges l byte fields) ≡ true) × (length (bytes_of l byte fields) ≤ room))
  accepted_exactly = (
    (λ e. let h = laws.none_fails _ _ _ (sym (laws.refusal_is l byte fields room) ∙ e) in (h.0, h.1, leb-true _ _ h.2)),
    (λ h. laws.refusal_is l byte fields room ∙ laws.all_hold _ _ _ h.0 h.1 (le-leb _ _ h.2)),
  )

  -- "An unknown byte is refused with 1, another misfit with 6." "12, buffer shorter than the command, put after 6"
  pub refused_1 : (write_refusal l byte fields room ≡ 1) ↔ (has_row (widths l byte) ≡ false)
  refused_1 = ((λ e. laws.first_fails _ _ _ (sym (laws.refusal_is l byte fields room) ∙ e)), (λ h. laws.refusal_is l byte fields room ∙ laws.fails_first _ _ _ h))

  pub refused_6 : (write_refusal l byte fields room ≡ 6) ↔ ((has_row (widths l byte) ≡ true) × ((fits (row l byte) fields && ranges l byte fields) ≡ false))
  refused_6 = ((λ e. laws.second_fails _ _ _ (sym (laws.refusal_is l byte fields room) ∙ e)), (λ h. laws.refusal_is l byte fields room ∙ laws.fails_second _ _ _ h.0 h.1))

  pub refused_12 : (write_refusal l byte fields room ≡ 12)
      ↔ ((has_row (widths l byte) ≡ true) × ((fits (row l byte) fields && ranges l byte fields) ≡ true) × (room < length (bytes_of l byte fields)))
  refused_12 = (
    (λ e. let h = laws.third_fails _ _ _ (sym (laws.refusal_is l byte fields room) ∙ e) in (h.0, h.1, leb-false _ _ h.2)),
    (λ h. laws.refusal_is l byte fields room ∙ laws.fails_third _ _ _ h.0 h.1 (lt-leb _ _ h.2)),
  )

-- ---- "each accepted command is rewritten to its own bytes"

-- A command that was read: its byte, the bytes behind it, what it asks and how many bytes it takes. Given to the writer are its operands with any number of zeros
-- behind them.
module _ (l : Limits) (byte : ℕ) (bytes : List ℕ) (are : Bytes bytes) (q : Request) (used : ℕ) (reads : read l (byte ∷ bytes) ≡ asks q used) (zeros : ℕ) where
  pub known : (has_row (widths l byte) ≡ true) × (at_least (sum (row l byte)) bytes ≡ true) × (request l byte (operands (row l byte) bytes) ≡ q) × (suc (sum (row l byte)) ≡ used)
  unfolding read row
  known = laws.read_known l byte bytes q used (widths l byte) reads

  -- Its bytes are the very ones that were read.
  pub rewritten : bytes_of l byte (operands_read l byte bytes zeros) ≡ take used (byte ∷ bytes)
  unfolding bytes_of
  rewritten = rw (← known.3) (ap (λ (m : List ℕ). byte ∷ m) (laws.fields_again zeros (row l byte) bytes are known.1))

  -- They ask for the same.
  pub asks_the_same : request l byte (operands_read l byte bytes zeros) ≡ q
  asks_the_same = laws.request_zeros l byte zeros (operands (row l byte) bytes) ∙ known.2

-- ---- "in the ranges of the sixth question"

module _ (s : State) (q : Request) (used : ℕ) where
  -- What the writer refuses for its ranges is obeyed in no state: question 6 or an earlier one is answered no.
  pub out_of_range_is_refused : (in_range q).answer ≡ false → (1 ≤ refusal s (asks q used)) × (refusal s (asks q used) ≤ 6)
  out_of_range_is_refused h = out_of_range s used q h

  -- What the writer accepts is refused with 6 for its node at most, which needs a state to be looked at.
  pub in_range_is_not_refused : (in_range q).answer ≡ true → names_node q ≡ false → refusal s (asks q used) ≢ 6
  in_range_is_not_refused h n = in_range_passes s used q h n

-- ---- a command that is accepted, and its bytes: document 01's example declares this thread

pub example_accepted : write_refusal base_limits 0x10 (7 ∷ 2 ∷ 64 ∷ 255 ∷ []) 6 ≡ 0
unfolding write_refusal in_table no_misfit buffer_holds has_row fits ranges first_no question widths request pin_of nth all_ones priority_in_range bytes_of row widths_or field_bytes little_endian base_limits
example_accepted = refl

pub example_bytes : bytes_of base_limits 0x10 (7 ∷ 2 ∷ 64 ∷ 255 ∷ []) ≡ 0x10 ∷ 7 ∷ 0 ∷ 2 ∷ 64 ∷ 255 ∷ []
unfolding bytes_of row widths widths_or field_bytes little_endian base_limits
example_bytes = refl
