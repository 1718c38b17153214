-- All the lent memory: the thread records, the words of the CPUs and of the nodes.
use Rattle.std.specs.Prelude.{◌≡◌, List, ℕ}
use Rattle.thread.specs.declared.Thread.{Thread}
use Rattle.processor.specs.Left.{Words, Left, Slice}
use Rattle.records.specs.Left.{Memory}

pub record Lent : Type 0 where
  pub threads : List Thread
  pub cpus : Words
  pub nodes : Words

-- what the scheduler changes of it
abbrev pub memory_of : Lent → Memory
memory_of w = record { threads = w.threads; cpus = w.cpus }

-- the function answers r and leaves all three slices as f says
abbrev pub LeavesAll : {A : Type 0} → (Lent → Left A Lent) → A → Slice Thread → Slice (List ℕ) → Slice (List ℕ) → Type 0
LeavesAll {A} f r threads cpus nodes =
    ◌≡◌ {A = Left A Lent} (record { answer = r; memory = record { threads = threads.exit.now; cpus = cpus.exit.now; nodes = nodes.exit.now } })
    (f (record { threads = threads.entry.now; cpus = cpus.entry.now; nodes = nodes.entry.now }))

-- what is left of a part, within the whole; `kept`: all of it stays
abbrev pub in_memory : {A : Type 0} → Lent → Left A Memory → Left A Lent
in_memory w l = record { answer = l.answer; memory = record { threads = l.memory.threads; cpus = l.memory.cpus; nodes = w.nodes } }

abbrev pub in_threads : {A : Type 0} → Lent → Left A (List Thread) → Left A Lent
in_threads w l = record { answer = l.answer; memory = record { threads = l.memory; cpus = w.cpus; nodes = w.nodes } }

abbrev pub in_cpus : {A : Type 0} → Lent → Left A Words → Left A Lent
in_cpus w l = record { answer = l.answer; memory = record { threads = w.threads; cpus = l.memory; nodes = w.nodes } }

abbrev pub in_nodes : {A : Type 0} → Lent → Left A Words → Left A Lent
in_nodes w l = record { answer = l.answer; memory = record { threads = w.threads; cpus = w.cpus; nodes = l.memory } }

abbrev pub kept : {A : Type 0} → Lent → A → Left A Lent
kept w r = record { answer = r; memory = w }
