-- `switch_to`, `do_schedule` and `schedule`, and the command that schedules a blocked thread. cur is the thread running, NONE the idle thread.
use Rattle.std.specs.Prelude.{ℕ, Bool, false, cond, ◌||◌, List, set, eqb, Option, None, is_none, unwrap_or}
use Rattle.thread.specs.declared.Thread.{Thread}
use Rattle.thread.specs.Thread.{NONE}
use Rattle.thread.specs.Reads.{critical_in}
use Rattle.thread.specs.Time.{moving_to_active}
use Rattle.processor.specs.Left.{Words, Left}
use Rattle.records.specs.Left.{Memory}
use Rattle.records.specs.Rq.{record_at, take_def}
use Rattle.sched_words.specs.Choose.{select_for, selected_for, reinsert_at_def}
use Rattle.sched_words.specs.Preempt.{rq_has_higher}
use Rattle.sched_words.specs.Running.{running_at, must_rebalance_def, ran_by_def, ran_idle_def}
use Rattle.sched_words.specs.Time.{reset_time_def}
use Rattle.sched_words.specs.declared.context.Context.{Context}
use Rattle.sched_words.specs.declared.context.SchedFlags.{SchedFlags}
use Rattle.sched_words.specs.declared.context.Scheduled.{Scheduled}
use Rattle.sched_queues.specs.Queues.{schedule_thread_on_cpu_def, wake_def, block_def, try_steal_def}

-- thread x runs on CPU us
unfoldable pub switch_to_def : ℕ → ℕ → Memory → Memory
switch_to_def us x m = record {
  threads = set m.threads x (moving_to_active (record_at m.threads x) us);
  cpus = ran_by_def m.cpus us x (moving_to_active (record_at m.threads x) us);
}

-- the own queue handed out thread y: one that takes itself back is not switched to
unfoldable pub run_taken_def : ℕ → ℕ → ℕ → Memory → Memory
run_taken_def us cur y m = cond (eqb y cur) m (switch_to_def us y m)

-- the idle thread runs on, or is switched to
unfoldable pub idle_unless : ℕ → ℕ → Words → Words
idle_unless us cur cs = cond (eqb cur NONE) cs (ran_idle_def cs us)

unfoldable pub run_stolen_def : ℕ → ℕ → Option ℕ → Memory → Memory
run_stolen_def us cur stolen m =
    cond (is_none stolen) (record { threads = m.threads; cpus = idle_unless us cur m.cpus }) (switch_to_def us (unwrap_or stolen NONE) m)

-- the next thread of the own queue, else one that is stolen
unfoldable pub pick_stolen : Context → ℕ → Left (Option ℕ) Memory → Memory
pick_stolen k cur g = run_stolen_def k.us cur g.answer g.memory

unfoldable pub pick_taken : Context → ℕ → Words → Left (Option ℕ) Memory → Memory
pick_taken k cur ns g =
    cond (is_none g.answer) (pick_stolen k cur (try_steal_def k ns g.memory)) (run_taken_def k.us cur (unwrap_or g.answer NONE) g.memory)

unfoldable pub pick_next_def : Context → ℕ → Words → Memory → Memory
pick_next_def k cur ns m = pick_taken k cur ns (take_def k.us false m)

-- preempted, or to be moved to another CPU, or something higher waits; for a thread that yields, also something equal
unfoldable pub must_move_def : List (List ℕ) → ℕ → Thread → SchedFlags → Bool
must_move_def cs us t f = f.preempt || (must_rebalance_def cs us || rq_has_higher cs us t f.yields)

unfoldable pub reinserted_def : Context → Option ℕ → ℕ → ℕ → Memory → Left ℕ Memory
reinserted_def k chosen x wakeups m = cond (is_none chosen) (record { answer = wakeups; memory = m }) (schedule_thread_on_cpu_def k (unwrap_or chosen NONE) x wakeups m)

-- the deadline of thread x is set anew on CPU us
unfoldable pub reset_thread_time_def : Context → ℕ → Words → List Thread → List Thread
reset_thread_time_def k x cs ts = set ts x (reset_time_def cs k.us k.tick k.shortest (record_at ts x))

-- the next is picked after what was done
unfoldable pub then_next_def : Context → ℕ → Words → Left ℕ Memory → Left ℕ Memory
then_next_def k cur ns w = record { answer = w.answer; memory = pick_next_def k cur ns w.memory }

-- the thread running goes back into a queue, and the next is picked; or it runs on with its deadline set anew
unfoldable pub reinsert_def : Context → ℕ → SchedFlags → ℕ → Words → Memory → Left ℕ Memory
reinsert_def k cur f wakeups ns m =
    cond (must_move_def m.cpus k.us (record_at m.threads cur) f)
    (then_next_def k cur ns
    (reinserted_def k (reinsert_at_def ns k.us k.limit (record_at m.threads cur) m.cpus).answer cur wakeups
    (record { threads = m.threads; cpus = (reinsert_at_def ns k.us k.limit (record_at m.threads cur) m.cpus).memory })))
    (cond f.yields (then_next_def k cur ns (schedule_thread_on_cpu_def k k.us cur wakeups m))
    (record { answer = wakeups; memory = record { threads = reset_thread_time_def k cur m.cpus m.threads; cpus = m.cpus } }))

-- "without reinsert the thread running is blocked, the idle thread never"
unfoldable pub do_schedule_def : Context → SchedFlags → ℕ → Words → Memory → Left ℕ Memory
do_schedule_def k f wakeups ns m =
    cond (eqb (running_at m.cpus k.us) NONE) (record { answer = wakeups; memory = pick_next_def k (running_at m.cpus k.us) ns m })
    (cond f.reinsert (reinsert_def k (running_at m.cpus k.us) f wakeups ns m)
    (record {
      answer = wakeups;
      memory = pick_next_def k (running_at m.cpus k.us) ns (record { threads = block_def (running_at m.cpus k.us) m.threads; cpus = m.cpus });
    }))

-- "with a critical thread running it changes nothing"
unfoldable pub schedule_def : Context → SchedFlags → ℕ → Words → Memory → Left ℕ Memory
schedule_def k f wakeups ns m =
    cond (critical_in (record_at m.threads (running_at m.cpus k.us)).critical) (record { answer = wakeups; memory = m }) (do_schedule_def k f wakeups ns m)

abbrev pub scheduled : ℕ → ℕ → Scheduled
scheduled c wakeups = record { cpu = c; wakeups = wakeups }

-- `schedule_thread`: on the CPU selected for it
abbrev pub woken : ℕ → Left ℕ Memory → Left Scheduled Memory
woken c w = record { answer = scheduled c w.answer; memory = w.memory }

unfoldable pub scheduled_on_def : Context → ℕ → Option ℕ → Memory → Left Scheduled Memory
scheduled_on_def k x chosen m =
    cond (is_none chosen) (record { answer = scheduled k.us 0; memory = m }) (woken (unwrap_or chosen NONE) (wake_def k (unwrap_or chosen NONE) x 0 m))

unfoldable pub schedule_thread_def : Context → ℕ → Words → Memory → Left Scheduled Memory
schedule_thread_def k x ns m =
    scheduled_on_def k x (select_for m.cpus ns k.us k.limit (record_at m.threads x) None)
    (record { threads = m.threads; cpus = selected_for m.cpus ns k.us k.limit (record_at m.threads x) None })
