-- WHAT ONE CALL WRITES: over memory that stands for a state which calls reach from the start, it keeps to the records below 1,024, the rows of CPUs below 64
-- and the nodes that are made.
use Prim.Native.Nat.{ℕ}
use Rattle.std.specs.Prelude.{List}
use Rattle.thread.specs.declared.Thread.{Thread}
use Rattle.processor.specs.Left.{Left}
use Rattle.records.specs.Left.{mem}
use Rattle.outcome.specs.declared.answer.Answered.{Answered}
use Rattle.command.specs.Lent.{Lent, memory_of}
use Rattle.command_laws.specs.InRange.{StaysInRange}
use Rattle.command_laws.specs.Nodes.{Nodes}

-- records and words of CPUs ts and cs, and nodes on rows that were found so
pub record WrittenInRange (found : List (List ℕ)) (ts : List Thread) (cs : List (List ℕ)) (d : Left Answered Lent) : Type 0 where
  pub memory : StaysInRange (mem ts cs) (memory_of d.memory)
  pub nodes : Nodes found d.answer.state.node_count d.memory.nodes
