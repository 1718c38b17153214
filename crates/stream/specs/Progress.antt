-- How far a run is, and what it writes.
use Rattle.std.specs.Prelude.{ℕ, ◌+◌, ◌-◌, ◌%◌, ◌^◌, Bool, true, false, cond, not, ◌||◌, List, ◌==◌, nat_le, nat_lt, Result, Ok, Err}
use Rattle.rules.specs.Lines.{line, header, end_line, last_number}
use Rattle.request.specs.declared.Asked.{Asked}
use Rattle.request.specs.declared.Unread.{Unread}
use Rattle.request.specs.declared.Unread.TheVariants as unread
use Rattle.lines.specs.declared.Refusal.{Refusal}
use Rattle.lines.specs.Lines.{refusal_number, answer_of, room, rendered, buffer_with}
use Rattle.questions.specs.declared.state.State.{State}
use Rattle.outcome.specs.declared.answer.Answered.{Answered}
use Rattle.outcome.specs.Call.{asked_def}
use Rattle.stream.specs.declared.progress.Progress.{Progress}

-- the phases: the header is due, commands are answered, the end line is due, it is written
abbrev pub HEADER : ℕ
HEADER = 0

abbrev pub COMMANDS : ℕ
COMMANDS = 1

abbrev pub END : ℕ
END = 2

abbrev pub ENDED : ℕ
ENDED = 3

unfoldable pub begin : State → Progress
begin s = record { at = 0; done = 0; number = 0; refused = 0; phase = HEADER; state = s }

unfoldable pub not_cut : Result Asked Unread → Bool
not_cut (Err unread.Unknown) = true
not_cut (Err unread.CutShort) = false
not_cut (Ok a) = true

unfoldable pub whole : List ℕ → ℕ → ℕ → Bool → Bool
whole bytes n at wide = not_cut (asked_def bytes n at wide)

unfoldable pub more : List ℕ → List ℕ → ℕ → Bool → Progress → Bool
more bytes out n last f =
    cond (f.phase == COMMANDS)
    (cond (nat_lt f.at n) (cond (room out f.done) (cond last true (whole bytes n f.at f.state.wide)) false) false)
    false

-- there are bytes of a next command, and room for its line
unfoldable pub can_answer : List ℕ → ℕ → Progress → Bool
can_answer out n f = cond (f.phase == COMMANDS) (cond (nat_lt f.at n) (room out f.done) false) false

-- a command cut short waits for the next block, unless this is the last
unfoldable pub must_wait : Bool → Result Asked Unread → Bool
must_wait last (Err unread.Unknown) = false
must_wait last (Err unread.CutShort) = not last
must_wait last (Ok a) = false

unfoldable pub written : Result ℕ Refusal → ℕ
written (Ok n) = n
written (Err r) = 0

-- "Refusals 1 and 2 end the run, as does command number 4,294,967,294."
unfoldable pub ends_by : ℕ → ℕ → Bool
ends_by number refusal = refusal == 1 || (refusal == 2 || number == last_number)

unfoldable pub phase_after : Bool → ℕ
phase_after ended = cond ended END COMMANDS

unfoldable pub at_least_one : ℕ → ℕ
at_least_one used = cond (used == 0) 1 used

-- where the next command begins; one that ends the run takes all
unfoldable pub next_at : ℕ → ℕ → ℕ → Bool → ℕ
next_at n at used ended = cond ended n (cond (nat_lt (at_least_one used) (n - at)) (at + at_least_one used) n)

unfoldable pub one_if : ℕ → ℕ
one_if refusal = cond (refusal == 0) 0 1

unfoldable pub counted : ℕ → Answered → Progress → ℕ → Progress
counted n a f done = record {
  at = next_at n f.at a.used (ends_by f.number (refusal_number a.answer.refusal));
  done = done;
  number = (f.number + 1) % 2 ^ 64;
  refused = (f.refused + one_if (refusal_number a.answer.refusal)) % 2 ^ 64;
  phase = phase_after (ends_by f.number (refusal_number a.answer.refusal));
  state = a.state;
}

-- the line of a command
abbrev pub line_of_def : Answered → Progress → List ℕ
line_of_def a f = line f.number (answer_of a.answer)

unfoldable pub answered_fed : List ℕ → ℕ → Answered → Progress → Progress
answered_fed out n a f = counted n a f ((f.done + written (rendered out f.done (line_of_def a f))) % 2 ^ 64)

-- ---- the block's begin and end

unfoldable pub with_output : Progress → ℕ → ℕ → Progress
with_output f done phase = record { at = f.at; done = done; number = f.number; refused = f.refused; phase = phase; state = f.state }

unfoldable pub at_start : Progress → Progress
at_start f = record { at = 0; done = 0; number = f.number; refused = f.refused; phase = f.phase; state = f.state }

abbrev pub headed : List ℕ → Progress → Bool
headed out f = cond (f.phase == HEADER) (room out 0) false

unfoldable pub opened_fed : List ℕ → Progress → Progress
opened_fed out f = cond (headed out f) (with_output (at_start f) (written (rendered out 0 header)) COMMANDS) (at_start f)

unfoldable pub opened_out : List ℕ → Progress → List ℕ
opened_out out f = cond (headed out f) (buffer_with out 0 header) out

unfoldable pub due : ℕ → Bool → Progress → Bool
due n last f = cond (f.phase == END) true (cond (f.phase == COMMANDS) (cond last (nat_le n f.at) false) false)

abbrev pub end_line_of : Progress → List ℕ
end_line_of f = end_line f.number f.refused

abbrev pub ends_now : List ℕ → ℕ → Bool → Progress → Bool
ends_now out n last f = cond (due n last f) (room out f.done) false

unfoldable pub closed_fed : List ℕ → ℕ → Bool → Progress → Progress
closed_fed out n last f =
    cond (ends_now out n last f) (with_output f ((f.done + written (rendered out f.done (end_line_of f))) % 2 ^ 64) ENDED) f

unfoldable pub closed_out : List ℕ → ℕ → Bool → Progress → List ℕ
closed_out out n last f = cond (ends_now out n last f) (buffer_with out f.done (end_line_of f)) out
