-- What one command does to lent memory: the thread records, the words of the CPUs and of the nodes, and the state.
use Rattle.std.specs.Prelude.{ℕ, cond, not, List, eqb, set, Option, Result, Ok, Err}
use Rattle.rules.specs.Requests.{Request, declare_cpu, add_node, place_cpu, seal, set_shortest, declare_thread, set_tick, schedule_thread, schedule, hardtick, stattick, resched, maybe_preempt, donate, remove_donation, set_critical}
use Rattle.thread.specs.declared.Thread.{Thread}
use Rattle.thread.specs.Place.{pin_number, new}
use Rattle.request.specs.declared.Asked.{Asked}
use Rattle.request.specs.declared.Unread.{Unread}
use Rattle.request.specs.Request.{request_of, reading_of}
use Rattle.lines.specs.declared.Refusal.{Refusal}
use Rattle.lines.specs.Lines.{refusal_number}
use Rattle.questions.specs.declared.state.State.{State}
use Rattle.questions.specs.Questions.{refusal_in}
use Rattle.sched_words.specs.declared.context.Scheduled.{Scheduled}
use Rattle.processor.specs.Words.{put_word}
use Rattle.processor.specs.Word.{DECLARED, PLACED}
use Rattle.topology.specs.Node.{add_child, set_cpu}
use Rattle.processor.specs.Left.{Words, Left}
use Rattle.records.specs.Left.{Memory}
use Rattle.sched.specs.Schedule.{schedule_def, schedule_thread_def}
use Rattle.sched_ticks.specs.Balance.{schedule_stattick_def}
use Rattle.sched_ticks.specs.Ticks.{schedule_hardtick_def, schedule_resched_def}
use Rattle.sched.specs.Preempt.{schedule_maybe_preempt_def}
use Rattle.sched_queues.specs.Donate.{donate_priority_def, remove_donated, set_critical_def}
use Rattle.outcome.specs.declared.answer.Answered.{Answered}
use Rattle.command.specs.Lent.{Lent, memory_of, in_memory, in_threads, in_cpus, in_nodes, kept}
use Rattle.outcome.specs.Answer.{refuses, changed, ran}
use Rattle.outcome.specs.Call.{asked_def, refusal_back, thread_in, named_record, priority_in, context_of, flags_in, ticked, sealed_now, with_shortest, one_node_more}

-- ---- 10 and from 12 on

unfoldable pub declare_thread_command : State → ℕ → ℕ → ℕ → Option ℕ → ℕ → List Thread → Left Answered (List Thread)
declare_thread_command s x k v pin used ts = record { answer = changed s used; memory = set ts x (new (priority_in k v) (pin_number pin)) }

-- "The CPU is the one chosen for 12"
abbrev pub scheduled_thread_def : State → ℕ → Left Scheduled Memory → Left Answered Memory
scheduled_thread_def s used x = record { answer = ran x.memory.cpus s x.answer.cpu x.answer.wakeups used; memory = x.memory }

unfoldable pub schedule_thread_command : State → ℕ → ℕ → ℕ → Words → Memory → Left Answered Memory
schedule_thread_command s c x used ns m = scheduled_thread_def s used (schedule_thread_def (context_of s c) x ns m)

-- "else the operand"
abbrev pub ran_on : State → ℕ → ℕ → Left ℕ Memory → Left Answered Memory
ran_on s c used w = record { answer = ran w.memory.cpus s c w.answer used; memory = w.memory }

unfoldable pub schedule_command : State → ℕ → ℕ → ℕ → Words → Memory → Left Answered Memory
schedule_command s c flags used ns m = ran_on s c used (schedule_def (context_of s c) (flags_in flags) 0 ns m)

unfoldable pub hardtick_command : State → ℕ → ℕ → Memory → Left Answered Memory
hardtick_command s c used m = ran_on s c used (record { answer = 0; memory = schedule_hardtick_def (context_of s c) m })

unfoldable pub stattick_command : State → ℕ → ℕ → ℕ → Words → Memory → Left Answered Memory
stattick_command s c nanoseconds used ns m = ran_on s c used (schedule_stattick_def (context_of s c) nanoseconds 0 ns m)

unfoldable pub resched_command : State → ℕ → ℕ → List Thread → Words → Left Answered Words
resched_command s c used ts cs = record { answer = ran (schedule_resched_def c ts cs) s c 0 used; memory = schedule_resched_def c ts cs }

unfoldable pub maybe_preempt_command : State → ℕ → ℕ → Words → Memory → Left Answered Memory
maybe_preempt_command s c used ns m = ran_on s c used (schedule_maybe_preempt_def (context_of s c) 0 ns m)

abbrev pub donated : State → ℕ → ℕ → Words → Left ℕ (List Thread) → Left Answered (List Thread)
donated s c used cs d = record { answer = ran cs s c d.answer used; memory = d.memory }

unfoldable pub donate_command : State → ℕ → ℕ → ℕ → ℕ → ℕ → Words → List Thread → Left Answered (List Thread)
donate_command s c x k v used cs ts = donated s c used cs (donate_priority_def c x (priority_in k v) 0 cs ts)

unfoldable pub remove_donation_command : State → ℕ → ℕ → List Thread → Left Answered (List Thread)
remove_donation_command s x used ts = record { answer = changed s used; memory = remove_donated x ts }

unfoldable pub set_critical_command : State → ℕ → ℕ → ℕ → List Thread → Left Answered (List Thread)
set_critical_command s x mark used ts = record { answer = changed s used; memory = set_critical_def x mark ts }

-- ---- the case of a command

unfoldable pub obey_def : State → Request → ℕ → Lent → Left Answered Lent
obey_def s (declare_cpu c) used w = in_cpus w (record { answer = changed s used; memory = put_word w.cpus c DECLARED 1 })
obey_def s (add_node p k) used w = in_nodes w (record { answer = changed (one_node_more s) used; memory = add_child w.nodes s.node_count p k })
obey_def s (place_cpu n c) used w = record { answer = changed s used; memory = record { threads = w.threads; cpus = put_word w.cpus c PLACED n; nodes = set_cpu w.nodes n c } }
obey_def s seal used w = kept w (changed (sealed_now s) used)
obey_def s (set_shortest n) used w = kept w (changed (with_shortest s n) used)
obey_def s (declare_thread x k v pin) used w = in_threads w (declare_thread_command s x k v pin used w.threads)
obey_def s (set_tick t) used w = kept w (changed (ticked s t) used)
obey_def s (schedule_thread c x) used w = in_memory w (schedule_thread_command s c x used w.nodes (memory_of w))
obey_def s (schedule c flags) used w = in_memory w (schedule_command s c flags used w.nodes (memory_of w))
obey_def s (hardtick c) used w = in_memory w (hardtick_command s c used (memory_of w))
obey_def s (stattick c nanoseconds) used w = in_memory w (stattick_command s c nanoseconds used w.nodes (memory_of w))
obey_def s (resched c) used w = in_cpus w (resched_command s c used w.threads w.cpus)
obey_def s (maybe_preempt c) used w = in_memory w (maybe_preempt_command s c used w.nodes (memory_of w))
obey_def s (donate c x k v) used w = in_threads w (donate_command s c x k v used w.cpus w.threads)
obey_def s (remove_donation x) used w = in_threads w (remove_donation_command s x used w.threads)
obey_def s (set_critical x mark) used w = in_threads w (set_critical_command s x mark used w.threads)

-- ---- one call: "A no gives the number, changes nothing"

-- the refusal, with the record of the thread that is named
abbrev pub judged_def : State → Result Asked Unread → Lent → Option Refusal
judged_def s r w = refusal_back (refusal_in w.cpus w.nodes s (named_record w.threads (thread_in (reading_of r))) (reading_of r))

-- the command that was read
unfoldable pub answered_def : State → Result Asked Unread → Lent → Left Answered Lent
answered_def s (Err u) w = kept w (refuses s (judged_def s (Err u) w) 0)
answered_def s (Ok a) w =
    cond (not (eqb (refusal_number (judged_def s (Ok a) w)) 0)) (kept w (refuses s (judged_def s (Ok a) w) a.used)) (obey_def s (request_of a.request) a.used w)

-- the command that the bytes from `at` to below n ask for
unfoldable pub command_def : ℕ → ℕ → State → List ℕ → Lent → Left Answered Lent
command_def n at s bytes w = answered_def s (asked_def bytes n at s.wide) w
