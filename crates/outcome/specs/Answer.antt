-- What a call answers, of lent memory.
use Rattle.std.specs.Prelude.{ℕ, ◌+◌, ◌%◌, ◌^◌, cond, List, ◌==◌, Option, Some, None}
use Rattle.thread.specs.Thread.{NONE}
use Rattle.processor.specs.Word.{LOAD, RUNNING}
use Rattle.processor.specs.Words.{word}
use Rattle.rules.specs.declared.Running.{Running}
use Rattle.rules.specs.declared.Running.TheVariants as running
use Rattle.lines.specs.declared.Refusal.{Refusal}
use Rattle.lines.specs.declared.Answer.{Answer}
use Rattle.questions.specs.declared.state.State.{State}
use Rattle.outcome.specs.declared.answer.Answered.{Answered}

unfoldable pub accepted : State → State
accepted s = record {
  cpus = s.cpus;
  nodes = s.nodes;
  shortest = s.shortest;
  wide = s.wide;
  tick = s.tick;
  sealed = s.sealed;
  accepted = (s.accepted + 1) % 2 ^ 64;
  node_count = s.node_count;
}

unfoldable pub nothing_shown : Option Refusal → Answer
nothing_shown r = record { refusal = r; cpu = None; running = None; load = None; wakeups = None }

-- a refused command leaves the state as it was
unfoldable pub refuses : State → Option Refusal → ℕ → Answered
refuses s r used = record { answer = nothing_shown r; used = used; state = s }

unfoldable pub changed : State → ℕ → Answered
changed s used = record { answer = nothing_shown None; used = used; state = accepted s }

unfoldable pub running_in : ℕ → Running
running_in x = cond (x == NONE) running.Idle (running.Thread x)

unfoldable pub shown : List (List ℕ) → ℕ → ℕ → Answer
shown cs c wakeups = record {
  refusal = None;
  cpu = Some c;
  running = Some (running_in (word cs c RUNNING));
  load = Some (word cs c LOAD);
  wakeups = Some wakeups;
}

unfoldable pub ran : List (List ℕ) → State → ℕ → ℕ → ℕ → Answered
ran cs s c wakeups used = record { answer = shown cs c wakeups; used = used; state = accepted s }
