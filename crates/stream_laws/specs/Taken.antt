-- THE COMMANDS OF A STREAM, one after the other, by the rules. A reader reads all of this file, after rules' Lines and Calls, and then Output.
use Rattle.std.specs.Prelude.{ℕ, zero, suc, ◌≡◌, true, false, cond, List, [], ◌++◌, eqb}
use Rattle.rules.specs.State.{base_limits, State, start}
use Rattle.rules.specs.Requests.{Reading, read, past}
use Rattle.rules.specs.Commands.{Step, step}
use Rattle.rules.specs.Lines.{header, line, end_line, ends, used, no_bytes}
use Rattle.stream.specs.Progress.{HEADER, ENDED}
use Rattle.stream_laws.specs.Laws.Reading.{is_whole}

-- Between two commands: the rules' state, and the bytes of the stream that no command took yet.
pub record Place : Type 0 where
  pub state : State
  pub bytes : List ℕ

-- what the next command says, and what it does
unfoldable pub says : Place → Reading
says p = read p.state.limits p.bytes

unfoldable pub does : Place → Step
does p = step p.state p.bytes

-- the place behind it
unfoldable pub next_place : Place → Place
next_place p = record { state = (does p).state; bytes = past (used (says p)) p.bytes }

-- the place behind the first n commands of a stream
unfoldable pub after_commands : ℕ → List ℕ → Place
after_commands zero stream = record { state = start base_limits; bytes = stream }
after_commands (suc n) stream = next_place (after_commands n stream)

-- the lines of the first n commands
unfoldable pub lines_of : ℕ → List ℕ → List ℕ
lines_of zero stream = []
lines_of (suc n) stream = lines_of n stream ++ line n (does (after_commands n stream)).answer

-- What is written of the output in a phase of the run, after n commands, of which so many were refused: nothing while the header is due; then the header and the
-- lines of these commands; in the end the end line too.
unfoldable pub so_far : (phase n refused : ℕ) → List ℕ → List ℕ
so_far phase n refused stream =
    cond (eqb phase HEADER) []
    (cond (eqb phase ENDED) ((header ++ lines_of n stream) ++ end_line n refused) (header ++ lines_of n stream))

-- One of the commands of these bytes ends the run, whatever comes behind them: they hold it whole (is_whole: it is not cut short), and it is refused by 1 or has
-- number 4,294,967,294. Refusal 2, that of a command cut short, is left out: it ends a run only where no byte is to come.
pub record EndedWithin (bytes : List ℕ) : Type 0 where
  pub number : ℕ
  pub there : no_bytes (after_commands number bytes).bytes ≡ false
  pub whole : is_whole (says (after_commands number bytes)) ≡ true
  pub ended : ends number (does (after_commands number bytes)).answer.refused ≡ true
