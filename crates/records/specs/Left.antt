-- What a function leaves of the lent memory, and what it answers: one equation for both. Of one slice alone: processor/specs/Left.
use Rattle.std.specs.Prelude.{◌≡◌, List}
use Rattle.std.specs.Borrow.{MutBor}
use denote.Triple.Both.{Both}
use Rattle.thread.specs.declared.Thread.{Thread}
use Rattle.processor.specs.Left.{Words, Left}
use Rattle.records.specs.declared.memory.Memory as lent

-- the lent memory that the scheduler changes
pub record Memory : Type 0 where
  pub threads : List Thread
  pub cpus : Words

abbrev pub mem : List Thread → Words → Memory
mem ts cs = record { threads = ts; cpus = cs }

-- f is told the words of the CPUs, and changes the thread records alone
abbrev pub on_threads : (Words → List Thread → List Thread) → Memory → Memory
on_threads f m = mem (f m.cpus m.threads) m.cpus

-- the struct of the lent slices in a contract, a `&mut Memory`: as it was, and as it is left
abbrev pub Borrowed : Type 0
Borrowed = Both (MutBor lent.Memory) (MutBor lent.Memory)

-- it holds the slices that it held, and the nodes' words are the same
abbrev pub SameSlices : Borrowed → Type 0
SameSlices m =
    (m.exit.now.threads.ghost_name ≡ m.entry.now.threads.ghost_name)
    × ((m.exit.now.cpus.ghost_name ≡ m.entry.now.cpus.ghost_name)
    × (m.exit.now.nodes ≡ m.entry.now.nodes))

-- what the scheduler changes, at entry and at exit
abbrev pub at_entry : Borrowed → Memory
at_entry m = mem m.entry.now.threads.now m.entry.now.cpus.now

abbrev pub at_exit : Borrowed → Memory
at_exit m = mem m.exit.now.threads.now m.exit.now.cpus.now

-- the function answers r and leaves the lent memory as f says. `LeavesOver`: f is told the nodes too
abbrev pub Leaves : {A : Type 0} → (Memory → Left A Memory) → A → Borrowed → Type 0
Leaves {A} f r m = ◌≡◌ {A = Left A Memory} (record { answer = r; memory = at_exit m }) (f (at_entry m)) × SameSlices m

abbrev pub LeavesOver : {A : Type 0} → (Words → Memory → Left A Memory) → A → Borrowed → Type 0
LeavesOver f r m = Leaves (f m.entry.now.nodes.now) r m

-- the same of a function that answers nothing
abbrev pub Becomes : (Memory → Memory) → Borrowed → Type 0
Becomes f m = ◌≡◌ {A = Memory} (at_exit m) (f (at_entry m)) × SameSlices m

abbrev pub BecomesOver : (Words → Memory → Memory) → Borrowed → Type 0
BecomesOver f m = Becomes (f m.entry.now.nodes.now) m
