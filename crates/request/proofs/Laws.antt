-- Laws of reading: how large an operand is, and which of the limits reading asks.
use Rattle.std.specs.Prelude.{Option, None, Some}
use Prim.Native.Nat.{ℕ, ◌^◌, ◌<◌}
use mathlib.Core.Path.{◌≡◌, refl}
use mathlib.Core.List.{List, [], ◌∷◌}
use lib.ListN.{drop}
use Rattle.rules.specs.State.{Limits}
use Rattle.rules.specs.Requests.{operands, widths, pin_of, request, read_operands, read}
use Rattle.rules.specs.Writer.{Bytes}
use Rattle.rules.proofs.Laws.Writer.{operand_lt, past_drop}
use Rattle.request.proofs.Bytes.{bytes_drop}

-- Each operand is below the number of so many bytes.
unfoldable pub Fit : List ℕ → List ℕ → Type 0
Fit [] vs = Unit
Fit (n ∷ ns) [] = Unit
Fit (n ∷ ns) (v ∷ vs) = (v < 256 ^ n) × Fit ns vs

pub operands_fit : (ns bytes : List ℕ) → Bytes bytes → Fit ns (operands ns bytes)
unfolding operands Fit
operands_fit [] bytes h = tt
operands_fit (n ∷ ns) bytes h = (operand_lt n bytes h, rw past_drop (operands_fit ns (drop n bytes) (bytes_drop n bytes h)))

-- Two limits with operands of the same widths read alike.
module _ (l m : Limits) (cpu : l.cpu_bytes ≡ m.cpu_bytes) (node : l.node_bytes ≡ m.node_bytes) where
  widths_alike : (byte : ℕ) → widths l byte ≡ widths m byte
  unfolding widths
  widths_alike byte = cc

  pin_alike : (v : ℕ) → pin_of l v ≡ pin_of m v
  unfolding pin_of
  pin_alike v = cc

  request_alike : (byte : ℕ) (vs : List ℕ) → request l byte vs ≡ request m byte vs
  unfolding request
  request_alike byte vs = rw pin_alike

  operands_alike : (byte : ℕ) (bytes : List ℕ) (o : Option (List ℕ)) → read_operands l byte bytes o ≡ read_operands m byte bytes o
  unfolding read_operands
  operands_alike byte bytes None = refl
  operands_alike byte bytes (Some ns) = rw request_alike

  pub read_alike : (bytes : List ℕ) → read l bytes ≡ read m bytes
  unfolding read
  read_alike [] = refl
  read_alike (byte ∷ bytes) = rw widths_alike (operands_alike byte bytes (widths m byte))
