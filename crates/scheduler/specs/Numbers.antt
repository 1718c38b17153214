-- What passes over C for an answer: numbers and Booleans for each case of its enums.
use Rattle.std.specs.Prelude.{◌≡◌, true, false, cond, ℕ, List, length, Option, Some, None, Result, Ok, Err}
use Rattle.rules.specs.Lines.{line}
use Rattle.rules.specs.Writer as rules
use Rattle.rules.specs.declared.Running.{Running}
use Rattle.rules.specs.declared.Running.TheVariants as running
use Rattle.lines.specs.declared.Refusal.{Refusal}
use Rattle.lines.specs.Lines.{question_number, refusal_number, answer_of, rendered, buffer_with}
use Rattle.lines.specs.declared.Answer.{Answer}
use Rattle.questions.specs.declared.state.State.{State}
use Rattle.processor.specs.Left.{Left, Slice}
use Rattle.command.specs.Lent.{Lent}
use Rattle.command.specs.Command.{command_def}
use Rattle.stream.specs.Start.{start_def}
use Rattle.outcome.specs.declared.answer.Answered.{Answered}
use Rattle.outcome.specs.Call.{refusal_back}
use Rattle.scheduler.specs.declared.numbers.Column.{Column}
use Rattle.scheduler.specs.declared.numbers.Runs.{Runs}
use Rattle.scheduler.specs.declared.numbers.Row.{Row}
use Rattle.scheduler.specs.declared.numbers.Step.{Step}
use Rattle.scheduler.specs.declared.numbers.Begun.{Begun}
use Rattle.scheduler.specs.declared.numbers.Written.{Written}

-- a number, or `-`
unfoldable pub column_of : Option ℕ → Column
column_of (Some n) = record { shown = true; number = n }
column_of None = record { shown = false; number = 0 }

unfoldable pub shown_in : Column → Option ℕ
shown_in c = cond c.shown (Some c.number) None

-- a thread, `idle`, or `-`
unfoldable pub runs_of : Option Running → Runs
runs_of (Some (running.Thread x)) = record { shown = true; idle = false; thread = x }
runs_of (Some running.Idle) = record { shown = true; idle = true; thread = 0 }
runs_of None = record { shown = false; idle = false; thread = 0 }

unfoldable pub running_in : Runs → Option Running
running_in r = cond r.shown (Some (cond r.idle running.Idle (running.Thread r.thread))) None

unfoldable pub row_of : Answer → Row
row_of a = record {
  refusal = refusal_number a.refusal;
  cpu = column_of a.cpu;
  running = runs_of a.running;
  load = column_of a.load;
  wakeups = column_of a.wakeups;
}

unfoldable pub answer_in : Row → Answer
answer_in r = record {
  refusal = refusal_back r.refusal;
  cpu = shown_in r.cpu;
  running = running_in r.running;
  load = shown_in r.load;
  wakeups = shown_in r.wakeups;
}

unfoldable pub step_of : Answered → Step
step_of a = record { row = row_of a.answer; used = a.used; state = a.state }

-- the state beside "no room"
unfoldable pub no_state : State
no_state = record { cpus = 0; nodes = 0; shortest = 0; wide = false; tick = 0; sealed = false; accepted = 0; node_count = 0 }

unfoldable pub begun_of : Option State → Begun
begun_of (Some s) = record { ready = true; state = s }
begun_of None = record { ready = false; state = no_state }

unfoldable pub refused_with : ℕ → Written
refused_with k = record { refusal = k; bytes = 0 }

unfoldable pub written_of : Result ℕ Refusal → Written
written_of (Ok n) = record { refusal = 0; bytes = n }
written_of (Err r) = refused_with (question_number r)

-- the line of a command's row is rendered into the lent buffer, and r is answered
abbrev pub RendersRow : Slice ℕ → ℕ → Row → Written → Type 0
RendersRow buffer number row r =
    (r ≡ written_of (rendered buffer.entry.now 0 (line number (answer_of (answer_in row)))))
    × (buffer.exit.now ≡ buffer_with buffer.entry.now 0 (line number (answer_of (answer_in row))))

-- the answer of 2026-02's writer
unfoldable pub wrote_of : rules.Written → Written
wrote_of (rules.bytes n) = record { refusal = 0; bytes = n }
wrote_of (rules.refused k) = refused_with k

-- ---- what the two calls leave

abbrev pub start_row : Lent → Left Begun Lent
start_row w = record { answer = begun_of (start_def w).answer; memory = (start_def w).memory }

abbrev pub command_row : State → List ℕ → Lent → Left Step Lent
command_row s bytes w = record { answer = step_of (command_def (length bytes) 0 s bytes w).answer; memory = (command_def (length bytes) 0 s bytes w).memory }
