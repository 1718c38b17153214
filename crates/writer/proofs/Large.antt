-- A number past a byte is no command.
use Prim.Native.Nat.{ℕ, ◌≤◌}
use mathlib.Core.Path.{◌≡◌}
use mathlib.Core.Bool.{Bool}
use mathlib.Core.List.{List}
use lib.ListN.{length}
use Rattle.rules.specs.Writer as rules
use Rattle.request.specs.Request.{limits_of}
use Rattle.writer.proofs.Rows.{refused_unknown, large_row}

pub large_answer : (wide : Bool) (byte : ℕ) (fs b : List ℕ) → 256 ≤ byte
    → (rules.refused 1 ≡ rules.write_answer (limits_of wide) byte fs (length b)) × (b ≡ rules.buffer_with (limits_of wide) byte fs b)
large_answer wide byte fs b h = refused_unknown wide byte fs b (large_row (limits_of wide) byte h)
