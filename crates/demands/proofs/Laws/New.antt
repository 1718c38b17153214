-- What `start` makes new: the words 66 to 71 of a CPU, and the records.
use Prim.Native.Nat.{ℕ, ◌≤◌, ◌<◌}
use Rattle.std.specs.Prelude.{◌≢◌, refl, List, [], length, get_or, replicate, eqb}
use Rattle.std.proofs.Common.{sym, subst, arith, eqb-true}
use Rattle.std.proofs.lemmas.Bool.{eqb-false}
use Rattle.rules.proofs.Laws.Line.{both}
use Rattle.rules.specs.Waits.{Under}
use Rattle.thread.specs.Thread.{blank, NONE}
use Rattle.thread.specs.Reads.{cpu_in}
use Rattle.runqueue.specs.RunQueue.{no_run_queue}
use Rattle.processor.specs.Queue.{queue_stored}
use Rattle.records.specs.Rq.{record_at}
use Rattle.stream.specs.Start.{new_marks, new_numbers, new_cpu_def}
use Rattle.question_laws.proofs.Blank.{blank_at}
use Rattle.command_laws.specs.InRange.{ThreadInRange, Zeros}
use Rattle.command_laws.proofs.InRange.{zeros_put, zeros_here, zeros_there}

zeros_beside : (cs : List (List ℕ)) (c d : ℕ) → Zeros cs d → Zeros (new_numbers (new_marks cs c) c) d
unfolding new_marks new_numbers
zeros_beside cs c d z =
    zeros_put _ c d 81 0 (omega arith) (omega arith) (zeros_put _ c d 80 0 (omega arith) (omega arith) (zeros_put _ c d 79 0 (omega arith) (omega arith)
    (zeros_put _ c d 78 0 (omega arith) (omega arith) (zeros_put _ c d 77 0 (omega arith) (omega arith) (zeros_put _ c d 76 1 (omega arith) (omega arith)
    (zeros_put _ c d 75 0 (omega arith) (omega arith) (zeros_put _ c d 74 NONE (omega arith) (omega arith) (zeros_put _ c d 73 NONE (omega arith) (omega arith)
    (zeros_put cs c d 72 0 (omega arith) (omega arith) z)))))))))

pub zeros_new : (cs : List (List ℕ)) (c d : ℕ) → c < length cs → 72 ≤ length (get_or cs c []) → (d ≢ c → Zeros cs d) → Zeros (new_cpu_def cs c) d
unfolding new_cpu_def
zeros_new cs c d h l z =
    zeros_beside (queue_stored cs c no_run_queue) c d
    (both (eqb d c)
    (λ e. subst (Zeros (queue_stored cs c no_run_queue)) (sym (eqb-true d c e)) (zeros_here cs c no_run_queue h l))
    (λ e. zeros_there cs c d no_run_queue (eqb-false d c e) (z (eqb-false d c e))))

-- a record of no thread has small numbers

tidy_blank : ThreadInRange blank
unfolding Under cpu_in
tidy_blank = record { link = λ h. refl; pin = tt; last = tt }

pub records_new : (n x : ℕ) → ThreadInRange (record_at (replicate n blank) x)
records_new n x = subst ThreadInRange (sym (blank_at n x)) tidy_blank
