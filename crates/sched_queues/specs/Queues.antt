-- Threads go into queues and come out of them: puts, takes, steals.
use Rattle.std.specs.Prelude.{ℕ, false, cond, not, List, set, eqb, Option, None, is_none, unwrap_or}
use Rattle.thread.specs.declared.Thread.{Thread}
use Rattle.thread.specs.Thread.{NONE, BLOCKED, with_place}
use Rattle.thread.specs.Time.{moving_to_queue}
use Rattle.processor.specs.Left.{Words, Left}
use Rattle.records.specs.Left.{Memory}
use Rattle.records.specs.Rq.{record_at, insert_def, take_def}
use Rattle.sched_words.specs.Signal.{signal}
use Rattle.sched_words.specs.Time.{moved_to, should_signal_def}
use Rattle.sched_words.specs.Choose.{steal_from_def}
use Rattle.sched_words.specs.declared.context.Context.{Context}

-- the memory when thread x is about to go into the queue of CPU c: its queue's processor and its times are set
unfoldable pub moved_in : Context → ℕ → ℕ → Memory → Memory
moved_in k c x m = record { threads = set m.threads x (moved_to m.cpus c k.tick k.shortest (record_at m.threads x)); cpus = m.cpus }

-- `schedule_thread_on_cpu`
unfoldable pub schedule_thread_on_cpu_def : Context → ℕ → ℕ → ℕ → Memory → Left ℕ Memory
schedule_thread_on_cpu_def k c x wakeups m = record {
  answer = signal wakeups k.us c (should_signal_def m.cpus k.us c (record_at m.threads x));
  memory = insert_def c x k.tick false (moved_in k c x m);
}

-- a blocked thread goes into the queue of CPU c; the thread running is blocked: nothing else changes the place of a declared thread from or to blocked
unfoldable pub wake_def : Context → ℕ → ℕ → ℕ → Memory → Left ℕ Memory
wake_def k c x wakeups m = schedule_thread_on_cpu_def k c x wakeups m

unfoldable pub block_def : ℕ → List Thread → List Thread
block_def x ts = set ts x (with_place (record_at ts x) BLOCKED)

-- a thread taken for CPU d
unfoldable pub moved_for_def : ℕ → Left (Option ℕ) Memory → Left (Option ℕ) Memory
moved_for_def d g =
    cond (is_none g.answer) g
    (record {
      answer = g.answer;
      memory = record {
        threads = set g.memory.threads (unwrap_or g.answer NONE) (moving_to_queue (record_at g.memory.threads (unwrap_or g.answer NONE)) d);
        cpus = g.memory.cpus;
      };
    })

-- `take_a_thread_from_cpu`: of the queue of CPU c, for CPU d
unfoldable pub take_from : ℕ → ℕ → Memory → Left (Option ℕ) Memory
take_from c d m = moved_for_def d (take_def c (not (eqb d c)) m)

-- `try_steal`
unfoldable pub try_steal_def : Context → Words → Memory → Left (Option ℕ) Memory
try_steal_def k ns m =
    cond (is_none (steal_from_def m.cpus ns k.us k.limit)) (record { answer = None; memory = m })
    (take_from (unwrap_or (steal_from_def m.cpus ns k.us k.limit) NONE) k.us m)
