-- The commands: their bytes, their operands, what they ask.
use Rattle.std.specs.Prelude.{ℕ, zero, suc, ◌+◌, ◌*◌, ◌/◌, ◌%◌, Bool, true, false, cond, List, [], ◌∷◌, eqb, Option, None, Some}
use Rattle.rules.specs.State.{Limits}
use Rattle.rules.specs.Schedule.{Flags}

-- What a command asks, its operands as numbers. A pin of all ones is none.
pub data Request : Type 0 where
  declare_cpu : (cpu : ℕ) → Request
  add_node : (parent type : ℕ) → Request
  place_cpu : (node cpu : ℕ) → Request
  seal : Request
  set_shortest : (ticks : ℕ) → Request
  declare_thread : (thread class value : ℕ) (pin : Option ℕ) → Request
  set_tick : (tick : ℕ) → Request
  schedule_thread : (cpu thread : ℕ) → Request
  schedule : (cpu flags : ℕ) → Request
  hardtick : (cpu : ℕ) → Request
  stattick : (cpu nanoseconds : ℕ) → Request
  resched : (cpu : ℕ) → Request
  maybe_preempt : (cpu : ℕ) → Request
  donate : (cpu thread class value : ℕ) → Request
  remove_donation : (thread : ℕ) → Request
  set_critical : (thread mark : ℕ) → Request

-- ---- the bytes

-- "Operands are little-endian and unsigned."
unfoldable pub operand : ℕ → List ℕ → ℕ
operand zero bytes = 0
operand (suc n) [] = 0
operand (suc n) (b ∷ bytes) = b + 256 * operand n bytes

-- the bytes after the first n
unfoldable pub past : ℕ → List ℕ → List ℕ
past zero bytes = bytes
past (suc n) [] = []
past (suc n) (b ∷ bytes) = past n bytes

unfoldable pub at_least : ℕ → List ℕ → Bool
at_least zero bytes = true
at_least (suc n) [] = false
at_least (suc n) (b ∷ bytes) = at_least n bytes

-- the largest number of so many bytes
unfoldable pub all_ones : ℕ → ℕ
all_ones zero = 0
all_ones (suc n) = 255 + 256 * all_ones n

-- ---- the table

-- How many bytes each operand of a command has; none: the byte is not in the table.
unfoldable pub widths : Limits → ℕ → Option (List ℕ)
widths l byte =
    cond (eqb byte 0x01) (Some (l.cpu_bytes ∷ []))
    (cond (eqb byte 0x02) (Some (l.node_bytes ∷ 1 ∷ []))
    (cond (eqb byte 0x03) (Some (l.node_bytes ∷ l.cpu_bytes ∷ []))
    (cond (eqb byte 0x04) (Some [])
    (cond (eqb byte 0x05) (Some (1 ∷ []))
    (cond (eqb byte 0x10) (Some (2 ∷ 1 ∷ 1 ∷ l.cpu_bytes ∷ []))
    (cond (eqb byte 0x11) (Some (8 ∷ []))
    (cond (eqb byte 0x12) (Some (l.cpu_bytes ∷ 2 ∷ []))
    (cond (eqb byte 0x13) (Some (l.cpu_bytes ∷ 1 ∷ []))
    (cond (eqb byte 0x14) (Some (l.cpu_bytes ∷ []))
    (cond (eqb byte 0x15) (Some (l.cpu_bytes ∷ 4 ∷ []))
    (cond (eqb byte 0x16) (Some (l.cpu_bytes ∷ []))
    (cond (eqb byte 0x17) (Some (l.cpu_bytes ∷ []))
    (cond (eqb byte 0x18) (Some (l.cpu_bytes ∷ 2 ∷ 1 ∷ 1 ∷ []))
    (cond (eqb byte 0x19) (Some (2 ∷ []))
    (cond (eqb byte 0x1a) (Some (2 ∷ 1 ∷ [])) None)))))))))))))))

-- the row of a byte, and another list where the byte is not in the table
unfoldable pub widths_or : List ℕ → Option (List ℕ) → List ℕ
widths_or other None = other
widths_or other (Some ns) = ns

unfoldable pub sum : List ℕ → ℕ
sum [] = 0
sum (n ∷ l) = n + sum l

-- the operands, in their order
unfoldable pub operands : List ℕ → List ℕ → List ℕ
operands [] bytes = []
operands (n ∷ ns) bytes = operand n bytes ∷ operands ns (past n bytes)

-- operand number i, from 0
unfoldable pub nth : ℕ → List ℕ → ℕ
nth i [] = 0
nth zero (v ∷ vs) = v
nth (suc i) (v ∷ vs) = nth i vs

unfoldable pub pin_of : Limits → ℕ → Option ℕ
pin_of l v = cond (eqb v (all_ones l.cpu_bytes)) None (Some v)

-- what the byte asks with these operands
unfoldable pub request : Limits → ℕ → List ℕ → Request
request l byte v =
    cond (eqb byte 0x01) (declare_cpu (nth 0 v))
    (cond (eqb byte 0x02) (add_node (nth 0 v) (nth 1 v))
    (cond (eqb byte 0x03) (place_cpu (nth 0 v) (nth 1 v))
    (cond (eqb byte 0x04) seal
    (cond (eqb byte 0x05) (set_shortest (nth 0 v))
    (cond (eqb byte 0x10) (declare_thread (nth 0 v) (nth 1 v) (nth 2 v) (pin_of l (nth 3 v)))
    (cond (eqb byte 0x11) (set_tick (nth 0 v))
    (cond (eqb byte 0x12) (schedule_thread (nth 0 v) (nth 1 v))
    (cond (eqb byte 0x13) (schedule (nth 0 v) (nth 1 v))
    (cond (eqb byte 0x14) (hardtick (nth 0 v))
    (cond (eqb byte 0x15) (stattick (nth 0 v) (nth 1 v))
    (cond (eqb byte 0x16) (resched (nth 0 v))
    (cond (eqb byte 0x17) (maybe_preempt (nth 0 v))
    (cond (eqb byte 0x18) (donate (nth 0 v) (nth 1 v) (nth 2 v) (nth 3 v))
    (cond (eqb byte 0x19) (remove_donation (nth 0 v)) (set_critical (nth 0 v) (nth 1 v))))))))))))))))

-- What a call's bytes say: no command, a command cut short, or a request and how many bytes it takes. Bytes past the operands are not looked at.
pub data Reading : Type 0 where
  unknown : Reading
  cut_short : Reading
  asks : Request → ℕ → Reading

unfoldable pub read_operands : Limits → ℕ → List ℕ → Option (List ℕ) → Reading
read_operands l byte bytes None = unknown
read_operands l byte bytes (Some ns) = cond (at_least (sum ns) bytes) (asks (request l byte (operands ns bytes)) (1 + sum ns)) cut_short

unfoldable pub read : Limits → List ℕ → Reading
read l [] = unknown
read l (byte ∷ bytes) = read_operands l byte bytes (widths l byte)

-- "flags 1 (yield 1, preempt 2, reinsert 4)"
unfoldable pub flags_of : ℕ → Flags
flags_of n = record { yield = eqb (n % 2) 1; preempt = eqb (n / 2 % 2) 1; again = eqb (n / 4 % 2) 1 }
