-- 2026-02: "Add a writer that takes one command with its fields and writes its bytes into a lent buffer." A command is given as its byte and a list of numbers: its
-- operands in the order of document 01's table, then zeros.
use Rattle.std.specs.Prelude.{ℕ, zero, suc, ◌/◌, ◌%◌, ◌^◌, ◌<◌, Bool, true, false, cond, ◌&&◌, List, [], ◌∷◌, ◌++◌, length, get_or, eqb, ltb, leb, Option, None, Some}
use Rattle.std.proofs.lemmas.List.Edits.{sets}
use Rattle.rules.specs.State.{Limits}
use Rattle.rules.specs.Requests.{Request, declare_cpu, add_node, place_cpu, seal, set_shortest, declare_thread, set_tick, schedule_thread, schedule, hardtick, stattick, resched, maybe_preempt, donate, remove_donation, set_critical, widths, widths_or, request}
use Rattle.rules.specs.Questions.{Question, question, first_no, in_range}

-- ---- the bytes

-- every element is a byte
abbrev pub Bytes : List ℕ → Type 0
Bytes l = (i : ℕ) → get_or l i 0 < 256

-- "Operands are little_endian and unsigned": v in n bytes.
unfoldable pub little_endian : ℕ → ℕ → List ℕ
little_endian zero v = []
little_endian (suc n) v = v % 256 ∷ little_endian n (v / 256)

-- Each field in its width. A field that is not there is written as 0.
unfoldable pub field_bytes : List ℕ → List ℕ → List ℕ
field_bytes [] fields = []
field_bytes (n ∷ ns) [] = little_endian n 0 ++ field_bytes ns []
field_bytes (n ∷ ns) (v ∷ vs) = little_endian n v ++ field_bytes ns vs

-- the widths of a command's operands
unfoldable pub row : Limits → ℕ → List ℕ
row l byte = widths_or [] (widths l byte)

unfoldable pub bytes_of : Limits → ℕ → List ℕ → List ℕ
bytes_of l byte fields = byte ∷ field_bytes (row l byte) fields

-- ---- what is asked of a command

-- "whose fields fit their widths": as many fields as widths, each below 256 to its width, and behind them nothing but zeros.
unfoldable pub fits : List ℕ → List ℕ → Bool
fits [] [] = true
fits [] (v ∷ vs) = eqb v 0 && fits [] vs
fits (n ∷ ns) [] = false
fits (n ∷ ns) (v ∷ vs) = ltb v (256 ^ n) && fits ns vs

-- "with type, class, value, flags and mark in the ranges of the sixth question; what needs a state, such as an existing node, is not looked at"
unfoldable pub ranges : Limits → ℕ → List ℕ → Bool
ranges l byte fields = (in_range (request l byte fields)).answer

-- The commands whose sixth question also looks at a node.
unfoldable pub names_node : Request → Bool
names_node (declare_cpu c) = false
names_node (add_node p k) = true
names_node (place_cpu n c) = true
names_node seal = false
names_node (set_shortest n) = false
names_node (declare_thread x k v pin) = false
names_node (set_tick t) = false
names_node (schedule_thread c x) = false
names_node (schedule c flags) = false
names_node (hardtick c) = false
names_node (stattick c nanoseconds) = false
names_node (resched c) = false
names_node (maybe_preempt c) = false
names_node (donate c x k v) = false
names_node (remove_donation x) = false
names_node (set_critical x mark) = false

-- "An unknown byte is refused with 1, another misfit with 6." "Refused: 12, buffer shorter than the command, put after 6."
unfoldable pub has_row : Option (List ℕ) → Bool
has_row None = false
has_row (Some ns) = true

unfoldable pub in_table : Limits → ℕ → Question
in_table l byte = question 1 (has_row (widths l byte))

unfoldable pub no_misfit : Limits → ℕ → List ℕ → Question
no_misfit l byte fields = question 6 (fits (row l byte) fields && ranges l byte fields)

unfoldable pub buffer_holds : Limits → ℕ → List ℕ → ℕ → Question
buffer_holds l byte fields room = question 12 (leb (length (bytes_of l byte fields)) room)

-- the first question answered no, 0 if the command is accepted; the buffer has so many bytes
unfoldable pub write_refusal : Limits → ℕ → List ℕ → ℕ → ℕ
write_refusal l byte fields room = first_no (in_table l byte ∷ no_misfit l byte fields ∷ buffer_holds l byte fields room ∷ [])

-- ---- what the writer answers, and what it leaves of the buffer

pub data Written : Type 0 where
  bytes : ℕ → Written
  refused : ℕ → Written

unfoldable pub write_answer : Limits → ℕ → List ℕ → ℕ → Written
write_answer l byte fields room =
    cond (eqb (write_refusal l byte fields room) 0) (bytes (length (bytes_of l byte fields))) (refused (write_refusal l byte fields room))

-- The bytes of an accepted command stand at the front; "Bytes past the written ones keep their content." Refused: nothing is written.
unfoldable pub buffer_with : Limits → ℕ → List ℕ → List ℕ → List ℕ
buffer_with l byte fields buffer =
    cond (eqb (write_refusal l byte fields (length buffer)) 0) (sets buffer 0 (bytes_of l byte fields)) buffer
