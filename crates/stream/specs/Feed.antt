-- A block of a stream: one command after the other, at most as many as there are bytes.
use Rattle.std.specs.Prelude.{◌≡◌, ℕ, zero, suc, Bool, cond, List}
use Rattle.thread.specs.declared.Thread.{Thread}
use Rattle.lines.specs.Lines.{buffer_with}
use Rattle.processor.specs.Left.{Left, Slice}
use Rattle.outcome.specs.declared.answer.Answered.{Answered}
use Rattle.command.specs.Lent.{Lent}
use Rattle.command.specs.Command.{command_def}
use Rattle.stream.specs.declared.progress.Progress.{Progress}
use Rattle.stream.specs.Progress.{more, line_of_def, answered_fed, opened_fed, opened_out, closed_fed, closed_out}

-- everything that feeding changes
pub record World : Type 0 where
  pub threads : List Thread
  pub cpus : List (List ℕ)
  pub nodes : List (List ℕ)
  pub output : List ℕ
  pub fed : Progress

abbrev pub world_of_def : List Thread → List (List ℕ) → List (List ℕ) → List ℕ → Progress → World
world_of_def ts cs ns out f = record { threads = ts; cpus = cs; nodes = ns; output = out; fed = f }

abbrev pub next_def : List ℕ → ℕ → World → Left Answered Lent
next_def bytes n w = command_def n w.fed.at w.fed.state bytes (record { threads = w.threads; cpus = w.cpus; nodes = w.nodes })

-- one command, and its line
abbrev pub step_def : List ℕ → ℕ → World → World
step_def bytes n w =
    world_of_def (next_def bytes n w).memory.threads (next_def bytes n w).memory.cpus (next_def bytes n w).memory.nodes
    (buffer_with w.output w.fed.done (line_of_def (next_def bytes n w).answer w.fed))
    (answered_fed w.output n (next_def bytes n w).answer w.fed)

-- at most k commands of the first n bytes
unfoldable pub run_def : ℕ → List ℕ → ℕ → Bool → World → World
run_def zero bytes n last w = w
run_def (suc k) bytes n last w = cond (more bytes w.output n last w.fed) (run_def k bytes n last (step_def bytes n w)) w

abbrev pub opened_world : World → World
opened_world w = world_of_def w.threads w.cpus w.nodes (opened_out w.output w.fed) (opened_fed w.output w.fed)

abbrev pub closed_world : ℕ → Bool → World → World
closed_world n last w = world_of_def w.threads w.cpus w.nodes (closed_out w.output n last w.fed) (closed_fed w.output n last w.fed)

-- header, lines, end line
unfoldable pub feed_def : List ℕ → ℕ → Bool → World → World
feed_def bytes n last w = closed_world n last (run_def n bytes n last (opened_world w))

-- a call that is handed `fed` answers r and leaves the slices as f says
abbrev pub Feeds : (World → World) → Progress → Progress → Slice Thread → Slice (List ℕ) → Slice (List ℕ) → Slice ℕ → Type 0
Feeds f fed r threads cpus nodes output =
    ◌≡◌ {A = World} (world_of_def threads.exit.now cpus.exit.now nodes.exit.now output.exit.now r)
    (f (world_of_def threads.entry.now cpus.entry.now nodes.entry.now output.entry.now fed))
