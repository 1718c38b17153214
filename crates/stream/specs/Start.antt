-- The library's start.
use Rattle.std.specs.Prelude.{ℕ, zero, suc, Bool, true, false, cond, List, length, replicate, nat_lt, Option, Some, None}
use Rattle.thread.specs.Thread.{blank, NONE}
use Rattle.runqueue.specs.RunQueue.{no_run_queue}
use Rattle.processor.specs.Words.{put_word}
use Rattle.processor.specs.Queue.{queue_stored}
use Rattle.processor.specs.Word.{DECLARED, PLACED, RUNNING, OWN_PRIORITY, IS_IDLE, MUST_REBALANCE, PREEMPT, RAND_STATE, CUR_REBALANCE_TIME, IDLE_TIMESLICE}
use Rattle.topology.specs.Node.{new_root}
use Rattle.questions.specs.declared.state.State.{State}
use Rattle.processor.specs.Left.{Left}
use Rattle.command.specs.Lent.{Lent}

-- undeclared, on no node, its idle thread running with priority (Idle, 0), marked idle
unfoldable pub new_marks : List (List ℕ) → ℕ → List (List ℕ)
new_marks cs c = put_word (put_word (put_word (put_word (put_word cs c DECLARED 0) c PLACED NONE) c RUNNING NONE) c OWN_PRIORITY 0) c IS_IDLE 1

-- no marks, no draws, no time left or paid
unfoldable pub new_numbers : List (List ℕ) → ℕ → List (List ℕ)
new_numbers cs c = put_word (put_word (put_word (put_word (put_word cs c MUST_REBALANCE 0) c PREEMPT 0) c RAND_STATE 0) c CUR_REBALANCE_TIME 0) c IDLE_TIMESLICE 0

unfoldable pub new_cpu_def : List (List ℕ) → ℕ → List (List ℕ)
new_cpu_def cs c = new_numbers (new_marks (queue_stored cs c no_run_queue) c) c

-- the first k CPUs
unfoldable pub new_cpus : ℕ → List (List ℕ) → List (List ℕ)
new_cpus zero cs = cs
new_cpus (suc k) cs = new_cpu_def (new_cpus k cs) k

-- fewer than 1,024 records, 64 CPUs or 128 nodes are lent
unfoldable pub no_room_def : ℕ → ℕ → ℕ → Bool
no_room_def threads cpus nodes = cond (nat_lt threads 1024) true (cond (nat_lt cpus 64) true (nat_lt nodes 128))

-- the base's limits; node 0 exists
unfoldable pub initial : State
initial = record { cpus = 64; nodes = 128; shortest = 2; wide = false; tick = 0; sealed = false; accepted = 0; node_count = 1 }

abbrev pub begun : Lent → Left (Option State) Lent
begun w = record {
  answer = Some initial;
  memory = record { threads = replicate (length w.threads) blank; cpus = new_cpus 64 w.cpus; nodes = new_root w.nodes };
}

unfoldable pub start_def : Lent → Left (Option State) Lent
start_def w = cond (no_room_def (length w.threads) (length w.cpus) (length w.nodes)) (record { answer = None; memory = w }) (begun w)
