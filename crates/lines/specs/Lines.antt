-- What the declared answer stands for, and what is left of a buffer into which a line is rendered.
use Rattle.std.specs.Prelude.{ℕ, ◌+◌, ◌-◌, min, Bool, cond, List, leb, length, Option, None, Some, Result, Ok, Err}
use Rattle.std.proofs.lemmas.List.Edits.{sets}
use Rattle.rules.specs.Commands as rules
use Rattle.lines.specs.declared.Refusal.{Refusal}
use Rattle.lines.specs.declared.Refusal.TheVariants as refusal
use Rattle.lines.specs.declared.Answer.{Answer}

-- The numbers of document 01's questions: "A no gives the number"; "refusal (0 if obeyed)". 2026-02: "Refused: 12, buffer shorter than the command".
-- the number of a question
unfoldable pub question_number : Refusal → ℕ
question_number refusal.UnknownCommand = 1
question_number refusal.CutShort = 2
question_number refusal.WrongSideOfSeal = 3
question_number refusal.Cpu = 4
question_number refusal.Thread = 5
question_number refusal.OutOfRange = 6
question_number refusal.NotBlocked = 7
question_number refusal.Tick = 8
question_number refusal.NotPlaced = 9
question_number refusal.TooMany = 10
question_number refusal.SmallBuffer = 11
question_number refusal.ShortBuffer = 12

-- "refusal (0 if obeyed)"
unfoldable pub refusal_number : Option Refusal → ℕ
refusal_number None = 0
refusal_number (Some r) = question_number r

unfoldable pub answer_of : Answer → rules.Answer
answer_of a = record {
  refused = refusal_number a.refusal;
  cpu = a.cpu;
  running = a.running;
  load = a.load;
  wakeups = a.wakeups;
}

-- 11: "has the lent buffer at least 48 bytes?", counted from `at` on.
unfoldable pub room : List ℕ → ℕ → Bool
room buffer at = leb (at + 48) (length buffer)

-- How many bytes of the line were written: all, unless the buffer ends first. Below 48 bytes: refusal 11.
unfoldable pub rendered : List ℕ → ℕ → List ℕ → Result ℕ Refusal
rendered buffer at line = cond (room buffer at) (Ok (min (length line) (length buffer - at))) (Err refusal.SmallBuffer)

-- The line stands from `at` on, cut at the buffer's end; "Bytes past a rendered line keep their content". Below 48 bytes nothing is changed.
unfoldable pub buffer_with : List ℕ → ℕ → List ℕ → List ℕ
buffer_with buffer at line = cond (room buffer at) (sets buffer at line) buffer
