-- What passes over C for an answer: numbers and Booleans for each case of its enums.
use Rattle.std.specs.Prelude.{ℕ, ◌≡◌, refl, Option, Some, None, Result, Ok, Err}
use Rattle.rules.specs.declared.Running.{Running}
use Rattle.rules.specs.declared.Running.TheVariants as running
use Rattle.lines.specs.declared.Refusal.{Refusal}
use Rattle.lines.specs.declared.Answer.{Answer}
use Rattle.outcome.specs.Call.{refusal_again}
use Rattle.writer.specs.Writer as writer
use Rattle.scheduler.specs.Numbers.{answer_in, column_of, row_of, running_in, runs_of, shown_in, written_of, wrote_of}

-- ---- the line of a row is the line of the answer

shown_again : (s : Option ℕ) → shown_in (column_of s) ≡ s
unfolding shown_in column_of
shown_again (Some n) = refl
shown_again None = refl

running_again : (r : Option Running) → running_in (runs_of r) ≡ r
unfolding running_in runs_of
running_again (Some (running.Thread x)) = refl
running_again (Some running.Idle) = refl
running_again None = refl

pub answer_again : (a : Answer) → answer_in (row_of a) ≡ a
unfolding answer_in row_of
answer_again a =
    rw (refusal_again a.refusal, shown_again a.cpu, running_again a.running, shown_again a.load, shown_again a.wakeups) refl

-- ---- what the writer answers, as its rules' answer is numbered

pub wrote : (r : Result ℕ Refusal) → written_of r ≡ wrote_of (writer.written_of r)
unfolding written_of wrote_of writer.written_of
wrote (Ok n) = refl
wrote (Err r) = refl
