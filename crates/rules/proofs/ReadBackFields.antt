-- 2026-02: "What it writes, the reader must take back as that command", whatever bytes follow; and what is left of the buffer.
use Rattle.std.specs.Prelude.{ℕ, ◌-◌, ◌≡◌, ◌≢◌, true, length, drop, replicate}
use Rattle.std.proofs.Math.Path.{refl}
use Rattle.std.proofs.Common.{ne_eqb}
use mathlib.Core.List.{List, ◌++◌}
use Rattle.std.proofs.Math.Seq.{sets-eq}
use Rattle.std.proofs.Math.Nat.{zero-add}
use Rattle.std.specs.Cmp.{first_so}
use Rattle.rules.specs.State.{Limits}
use Rattle.rules.specs.Requests.{asks, read, operands, widths, request}
use Rattle.rules.specs.Writer.{field_bytes, row, bytes_of, fits, write_refusal, buffer_with}
use Rattle.rules.proofs.Laws.Writer as laws
use Rattle.rules.proofs.ReadBack.{accepted_exactly}

module _ (l : Limits) (byte : ℕ) (fields : List ℕ) (room : ℕ) where
  module _ (accepted : write_refusal l byte fields room ≡ 0) where
    fit : fits (row l byte) fields ≡ true
    fit = first_so _ _ ((accepted_exactly l byte fields room).0 accepted).1

    -- the operands read off, with zeros behind them, are the fields
    pub fields_read_off : (rest : List ℕ) → operands (row l byte) (field_bytes (row l byte) fields ++ rest) ++ replicate (length fields - length (row l byte)) 0 ≡ fields
    fields_read_off rest = laws.fields_read (row l byte) fields rest fit

    pub reader_takes_back : (rest : List ℕ) → read l (bytes_of l byte fields ++ rest) ≡ asks (request l byte fields) (length (bytes_of l byte fields))
    unfolding read bytes_of row
    reader_takes_back rest = laws.read_row l byte fields rest (widths l byte) refl ((accepted_exactly l byte fields room).0 accepted).0 fit

-- ---- what is left of the buffer

module _ (l : Limits) (byte : ℕ) (fields buffer : List ℕ) where
  -- Accepted: the command stands at the front, and "Bytes past the written ones keep their content."
  pub accepted_buffer : write_refusal l byte fields (length buffer) ≡ 0 → buffer_with l byte fields buffer ≡ bytes_of l byte fields ++ drop (length (bytes_of l byte fields)) buffer
  unfolding buffer_with
  accepted_buffer h =
      rw (h, sets-eq (bytes_of l byte fields) buffer 0 (rw zero-add ((accepted_exactly l byte fields (length buffer)).0 h).2), zero-add)

  -- Refused: nothing is written.
  pub refused_buffer : write_refusal l byte fields (length buffer) ≢ 0 → buffer_with l byte fields buffer ≡ buffer
  unfolding buffer_with
  refused_buffer h = rw (ne_eqb _ _ h)
