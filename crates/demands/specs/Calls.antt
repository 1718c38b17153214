-- LISTS OF CALLS, over the definitions that the contracts of `start` (stream/src/start.rt) and `command` (command/src/obey.rt) cite. A reader reads all of this
-- file. Document 01:
-- "A list starts from the records and state that the library's start made; each call gets what the last one returned and left, and nobody else writes them in
-- between."
use Rattle.std.specs.Prelude.{ℕ, ◌≤◌, ◌<◌, ◌≡◌, List, [], ◌∷◌, length, get_or, Some}
use Rattle.rules.specs.Queue.{Queue}
use Rattle.rules.specs.State as rules
use Rattle.rules.specs.Commands.{step}
use Rattle.rules.specs.Commands.{Answer as Ruled}
use Rattle.thread.specs.declared.Thread.{Thread}
use Rattle.thread.specs.Thread.{NONE}
use Rattle.processor.specs.Words.{width}
use Rattle.processor.specs.Queue.{queue_at}
use Rattle.represents.specs.QueueRead.{queue_read}
use Rattle.represents.specs.QueueRead.{marks}
use Rattle.represents.specs.Topology.{Sized}
use Rattle.lines.specs.declared.Answer.{Answer}
use Rattle.questions.specs.declared.state.State.{State}
use Rattle.processor.specs.Left.{Left}
use Rattle.outcome.specs.declared.answer.Answered.{Answered}
use Rattle.command.specs.Lent.{Lent}
use Rattle.command_laws.specs.Law.{lent}
use Rattle.command.specs.Command.{command_def}
use Rattle.stream.specs.Start.{start_def}

-- ---- the memory

-- What is lent: the thread records, the words of the CPUs and the words of the nodes; and the state, which each call is given and returns.
pub record LentState : Type 0 where
  pub threads : List Thread
  pub cpus : List (List ℕ)
  pub nodes : List (List ℕ)
  pub state : State

-- What the types of the slices say: a length is below 2^64, and a row has as many words as its array.
pub record Typed (threads : List Thread) (cpus nodes : List (List ℕ)) : Type 0 where
  pub records : length threads ≤ NONE
  pub cpu_rows : (c : ℕ) → c < length cpus → length (get_or cpus c []) ≡ width
  pub node_rows : Sized nodes

-- `start`, on memory that held anything, answered Ready with this state and left this memory.
pub record Ready (h : LentState) : Type 0 where
  pub threads : List Thread
  pub cpus : List (List ℕ)
  pub nodes : List (List ℕ)
  pub typed : Typed threads cpus nodes
  pub answered : (start_def (lent threads cpus nodes)).answer ≡ Some h.state
  pub left_threads : h.threads ≡ (start_def (lent threads cpus nodes)).memory.threads
  pub left_cpus : h.cpus ≡ (start_def (lent threads cpus nodes)).memory.cpus
  pub left_nodes : h.nodes ≡ (start_def (lent threads cpus nodes)).memory.nodes

-- ---- the calls

-- one call of `command` on its bytes
abbrev pub call : LentState → List ℕ → Left Answered Lent
call h bytes = command_def (length bytes) 0 h.state bytes (lent h.threads h.cpus h.nodes)

-- what it returned and left
abbrev pub left_by : Left Answered Lent → LentState
left_by d = record { threads = d.memory.threads; cpus = d.memory.cpus; nodes = d.memory.nodes; state = d.answer.state }

-- what the calls of a list left, each on its bytes; and what they answered
unfoldable pub after : LentState → List (List ℕ) → LentState
after h [] = h
after h (bytes ∷ calls) = after (left_by (call h bytes)) calls

unfoldable pub answers : LentState → List (List ℕ) → List Answer
answers h [] = []
answers h (bytes ∷ calls) = (call h bytes).answer.answer ∷ answers (left_by (call h bytes)) calls

-- the rules' answers over the same bytes
unfoldable pub ruled_answers : rules.State → List (List ℕ) → List Ruled
ruled_answers s [] = []
ruled_answers s (bytes ∷ calls) = (step s bytes).answer ∷ ruled_answers (step s bytes).state calls

-- ---- the queues

-- The queue of CPU c, read off the records and words: from the head of each bucket along the links of the records, 1,024 threads at most.
abbrev pub queue_in : LentState → ℕ → Queue
queue_in h c = queue_read 1024 (marks h.threads) (queue_at h.cpus c)
