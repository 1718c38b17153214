-- THE LIBRARY'S START: cleared records, new CPUs and the root alone stand for the rules' start. Any limits.
use Prim.Native.Nat.{ℕ}
use Rattle.std.specs.Prelude.{◌≡◌, get_or}
use mathlib.Core.List.{List, []}
use Rattle.std.proofs.Math.ListN.{length}
use Rattle.rules.specs.State.{Limits, start, new_cpu}
use Rattle.runqueue.specs.RunQueue.{no_run_queue}
use Rattle.processor.specs.Words.{width}
use Rattle.processor.specs.Queue.{queue_at}
use Rattle.represents.specs.World.{WordsRep}

-- A CPU as the start leaves it: no queue, and words that show a new CPU of the rules, undeclared and on no node.
pub record New (limits : Limits) (cs : List (List ℕ)) (c : ℕ) : Type 0 where
  pub row : length (get_or cs c []) ≡ width
  pub queue : queue_at cs c ≡ no_run_queue
  pub words : WordsRep (start limits).topology cs c new_cpu
