-- `balance` and the stat tick.
use Rattle.std.specs.Prelude.{ℕ, cond, Option, Some, None, is_none, unwrap_or}
use Rattle.thread.specs.Thread.{NONE}
use Rattle.rules.specs.declared.choice.Pair.{Pair}
use Rattle.processor.specs.Left.{Words, Left}
use Rattle.records.specs.Left.{Memory}
use Rattle.records.specs.Rq.{clock_def}
use Rattle.sched_words.specs.declared.balance.Balancing.{Balancing}
use Rattle.sched_words.specs.Balance.{begun, moved, find_move}
use Rattle.sched_words.specs.Rebalance.{rebalance_due}
use Rattle.sched_words.specs.declared.context.Context.{Context}
use Rattle.sched_queues.specs.Queues.{schedule_thread_on_cpu_def, take_from}

-- a thread taken for the recipient goes into its queue
unfoldable pub received : Context → ℕ → ℕ → Left (Option ℕ) Memory → Left ℕ Memory
received k recipient wakeups g =
    cond (is_none g.answer) (record { answer = wakeups; memory = g.memory })
    (schedule_thread_on_cpu_def k recipient (unwrap_or g.answer NONE) wakeups g.memory)

-- the move that the choices came to, if any
unfoldable pub move_made : Context → Option Pair → ℕ → Memory → Left ℕ Memory
move_made k None wakeups m = record { answer = wakeups; memory = m }
move_made k (Some p) wakeups m = received k p.recipient wakeups (take_from p.donor p.recipient m)

abbrev pub move_one_def : Context → Balancing → ℕ → Memory → Left ℕ Memory
move_one_def k b wakeups m = move_made k b.moves wakeups m

-- choices, and the move that they came to
abbrev pub found : Context → Balancing → Words → Words → Left Balancing Words
found k b ns cs = find_move 20 ns k.us k.limit (moved b) cs

abbrev pub found_in : Context → Balancing → Words → Memory → Memory
found_in k b ns m = record { threads = m.threads; cpus = (found k b ns m.cpus).memory }

unfoldable pub move_two : Context → Balancing → Words → Left ℕ Memory → Left ℕ Memory
move_two k b ns w = move_one_def k (found k b ns w.memory.cpus).answer w.answer (found_in k b ns w.memory)

-- "moves at most two threads"
unfoldable pub balance_def : Context → ℕ → Words → Memory → Left ℕ Memory
balance_def k wakeups ns m =
    move_two k (found k begun ns m.cpus).answer ns (move_one_def k (found k begun ns m.cpus).answer wakeups (found_in k begun ns m))

-- `schedule_maybe_rebalance`
abbrev pub due_in : Context → ℕ → Memory → Memory
due_in k dt m = record { threads = m.threads; cpus = (rebalance_due k.us dt m.cpus).memory }

unfoldable pub maybe_rebalance_def : Context → ℕ → ℕ → Words → Memory → Left ℕ Memory
maybe_rebalance_def k dt wakeups ns m =
    cond (rebalance_due k.us dt m.cpus).answer (balance_def k wakeups ns (due_in k dt m)) (record { answer = wakeups; memory = due_in k dt m })

unfoldable pub clocked : ℕ → Left ℕ Memory → Left ℕ Memory
clocked us w = record { answer = w.answer; memory = record { threads = w.memory.threads; cpus = clock_def us w.memory.cpus } }

unfoldable pub schedule_stattick_def : Context → ℕ → ℕ → Words → Memory → Left ℕ Memory
schedule_stattick_def k dt wakeups ns m = clocked k.us (maybe_rebalance_def k dt wakeups ns m)
