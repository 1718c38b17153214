-- The words that the start writes of a CPU that it makes new, one after the other.
use Prim.Native.Nat.{ℕ, ◌<◌}
use Rattle.std.specs.Prelude.{◌≡◌, cond, get_or, eqb}
use Rattle.std.proofs.Common.{◌∙◌, arith}
use mathlib.Core.List.{List, []}
use Rattle.std.proofs.Math.ListN.{length}
use Rattle.thread.specs.Thread.{NONE}
use Rattle.runqueue.specs.RunQueue.{no_run_queue}
use Rattle.processor.specs.Words.{width, word}
use Rattle.processor.specs.Queue.{queue_stored}
use Rattle.processor.proofs.Laws.Queue.{row_length_store, length_store}
use Rattle.processor.specs.Word.{DECLARED, PLACED, RUNNING, OWN_PRIORITY, IS_IDLE, MUST_REBALANCE, PREEMPT, RAND_STATE, CUR_REBALANCE_TIME, IDLE_TIMESLICE}
use Rattle.represents.proofs.Laws.Frames.{Written, written_none, written_put}
use Rattle.stream.specs.Start.{new_marks, new_numbers, new_cpu_def}

module _ (cs : List (List ℕ)) (c : ℕ) (h : c < length cs) (l : length (get_or cs c []) ≡ width) where
  abbrev pub stored : List (List ℕ)
  stored = queue_stored cs c no_run_queue

  in_stored : c < length stored
  in_stored = rw (length_store cs c no_run_queue) h

  pub long_stored : length (get_or stored c []) ≡ width
  long_stored = row_length_store cs c c no_run_queue ∙ l

  pub all_written : Written stored (new_cpu_def cs c) c
      (λ i. cond (eqb i IDLE_TIMESLICE) 0 (cond (eqb i CUR_REBALANCE_TIME) 0 (cond (eqb i RAND_STATE) 0 (cond (eqb i PREEMPT) 0 (cond (eqb i MUST_REBALANCE) 0
      (cond (eqb i IS_IDLE) 1 (cond (eqb i OWN_PRIORITY) 0 (cond (eqb i RUNNING) NONE (cond (eqb i PLACED) NONE (cond (eqb i DECLARED) 0 (word stored c i)))))))))))
  unfolding new_cpu_def new_marks new_numbers
  all_written =
      written_put 81 0 in_stored long_stored (omega arith) (omega arith)
      (written_put 80 0 in_stored long_stored (omega arith) (omega arith)
      (written_put 79 0 in_stored long_stored (omega arith) (omega arith)
      (written_put 78 0 in_stored long_stored (omega arith) (omega arith)
      (written_put 77 0 in_stored long_stored (omega arith) (omega arith)
      (written_put 76 1 in_stored long_stored (omega arith) (omega arith)
      (written_put 75 0 in_stored long_stored (omega arith) (omega arith)
      (written_put 74 NONE in_stored long_stored (omega arith) (omega arith)
      (written_put 73 NONE in_stored long_stored (omega arith) (omega arith)
      (written_put 72 0 in_stored long_stored (omega arith) (omega arith) (written_none stored c))))))))))
