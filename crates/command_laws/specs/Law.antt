-- WHAT IS PROVED OF ONE CALL. A reader reads all of this file, after represents' State.
use Rattle.std.specs.Prelude.{ℕ, ◌≡◌, List}
use Rattle.rules.specs.Puts.{PutOrTake}
use Rattle.rules.specs.State.{State}
use Rattle.rules.specs.Commands.{Step}
use Rattle.rules.proofs.Laws.Reached.{Reached}
use Rattle.lines.specs.Lines.{answer_of}
use Rattle.sched_laws.specs.Sealed.{Sealed}
use Rattle.sched_laws.specs.TickBound.{TickBound}
use Rattle.represents.specs.State.{StateRep}
use Rattle.command.specs.Lent.{Lent}
use Rattle.processor.specs.Left.{Left}
use Rattle.outcome.specs.declared.answer.Answered.{Answered}
use Rattle.thread.specs.declared.Thread.{Thread}

-- What the rules keep in every state that calls reach from the start; H: the puts and takes of each CPU's queue so far.
pub record Reachable (H : ℕ → List PutOrTake) (s : State) : Type 0 where
  pub reached : Reached H s
  pub sealed : Sealed s
  pub late : TickBound s

abbrev pub lent : List Thread → List (List ℕ) → List (List ℕ) → Lent
lent ts cs ns = record { threads = ts; cpus = cs; nodes = ns }

-- What the call left stands for the state that the rules' step leaves, and the call answers what the rules answer.
pub record AsRuled (d : Left Answered Lent) (t : Step) : Type 0 where
  pub stands : StateRep d.memory.threads d.memory.cpus d.memory.nodes d.answer.state t.state
  pub answer : answer_of d.answer.answer ≡ t.answer
