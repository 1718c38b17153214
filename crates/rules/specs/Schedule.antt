-- Scheduling (sched.rs): puts, takes, steals, `balance`, `do_schedule`, ticks, preemption and donation, each in the order of the Rust.
use Rattle.std.specs.Prelude.{ℕ, zero, suc, ◌+◌, ◌-◌, ◌%◌, Bool, true, false, cond, not, ◌&&◌, ◌||◌, List, [], ◌∷◌, ◌++◌, eqb, ltb, leb, Option, None, Some, is_some}
use Rattle.rules.specs.declared.choice.Searched.{Searched}
use Rattle.rules.specs.declared.choice.Pair.{Pair}
use Rattle.rules.specs.declared.choice.Chosen.{Chosen}
use Rattle.rules.specs.declared.choice.Best.{Best}
use Rattle.rules.specs.declared.Priority.{Priority}
use Rattle.rules.specs.Priority.{less, at_most, greater_of, donation_accepted}
use Rattle.rules.specs.Draw.{next_state, draw}
use Rattle.rules.specs.Times.{timeslice, deadline_distance, Paid, pay_ticks, Thread, effective_priority, preferred_cpu, pinned, donated_to, steadied, moving_to_queue, moving_to_active, reset_time, paid_to}
use Rattle.rules.specs.Queue.{Queue, order, load, timeshare_load, empty, movable, Arrival, part_for, insert, Next, nobody, next_in, asked, leave, said_after_put, said_after_take, advance_insert_index, is_timeshare}
use Rattle.rules.specs.Puts.{PutOrTake, a_put, a_take, put_made}
use Rattle.rules.specs.State.{at, Limits, Topology, Cpu, idle_priority}
use Rattle.rules.specs.Topology.{cpus_of, visited, nearest}
use Rattle.rules.specs.Choice.{find_cpu, first_that, may_steal_from, choose_cpu_balance}

-- What a command may change: the CPUs and the threads. Beside them its puts and takes so far, in their order, for each CPU's queue,
-- and its calls of `wakeup` to a different CPU.
pub record World : Type 0 where
  pub cpus : ℕ → Cpu
  pub threads : ℕ → Thread
  pub log : ℕ → List PutOrTake
  pub wakeups : ℕ

-- the world, and a thread that was handed out, a CPU that was chosen, if any
pub record Got : Type 0 where
  pub got : Option ℕ
  pub world : World

-- In `balance`: the world, the CPUs still allowed, the steps made, and whether it goes on.
pub record Balancing : Type 0 where
  pub world : World
  pub allowed : ℕ → Bool
  pub steps : ℕ
  pub goes_on : Bool

-- The flags of `schedule`; again: the thread running is reinserted.
pub record Flags : Type 0 where
  pub yield : Bool
  pub preempt : Bool
  pub again : Bool

-- ---- one CPU or one thread changed

unfoldable pub with_cpu : World → ℕ → Cpu → World
with_cpu w c p = record { cpus = at w.cpus c p; threads = w.threads; log = w.log; wakeups = w.wakeups }

unfoldable pub with_thread : World → ℕ → Thread → World
with_thread w x t = record { cpus = w.cpus; threads = at w.threads x t; log = w.log; wakeups = w.wakeups }

unfoldable pub noted : World → ℕ → PutOrTake → World
noted w c e = record { cpus = w.cpus; threads = w.threads; log = at w.log c (w.log c ++ (e ∷ [])); wakeups = w.wakeups }

-- "`wakeup` is only counted", and 2026-01: "It shall count only calls to a different CPU": CPU us, which runs the command, calls CPU c, if it is to call.
unfoldable pub wakeup : ℕ → World → ℕ → Bool → World
wakeup us w c called = record { cpus = w.cpus; threads = w.threads; log = w.log; wakeups = cond (not (eqb c us) && called) (w.wakeups + 1) w.wakeups }

unfoldable pub with_queue : Cpu → Queue → Priority → Cpu
with_queue p q said = record {
  queue = q;
  advertised = said;
  own_priority = p.own_priority;
  running = p.running;
  must_rebalance = p.must_rebalance;
  preempt = p.preempt;
  draw_state = p.draw_state;
  rebalance_time = p.rebalance_time;
  last_tick = p.last_tick;
  idle_timeslice = p.idle_timeslice;
}

-- a thread, or none for the idle thread, runs now, with its priority; nothing asks for a rebalance
unfoldable pub with_running : Cpu → Option ℕ → Priority → Cpu
with_running p x own = record {
  queue = p.queue;
  advertised = p.advertised;
  own_priority = own;
  running = x;
  must_rebalance = false;
  preempt = p.preempt;
  draw_state = p.draw_state;
  rebalance_time = p.rebalance_time;
  last_tick = p.last_tick;
  idle_timeslice = p.idle_timeslice;
}

unfoldable pub set_rebalance : Cpu → Cpu
set_rebalance p = record {
  queue = p.queue;
  advertised = p.advertised;
  own_priority = p.own_priority;
  running = p.running;
  must_rebalance = true;
  preempt = p.preempt;
  draw_state = p.draw_state;
  rebalance_time = p.rebalance_time;
  last_tick = p.last_tick;
  idle_timeslice = p.idle_timeslice;
}

unfoldable pub with_preempt : Cpu → Bool → Cpu
with_preempt p mark = record {
  queue = p.queue;
  advertised = p.advertised;
  own_priority = p.own_priority;
  running = p.running;
  must_rebalance = p.must_rebalance;
  preempt = mark;
  draw_state = p.draw_state;
  rebalance_time = p.rebalance_time;
  last_tick = p.last_tick;
  idle_timeslice = p.idle_timeslice;
}

unfoldable pub with_draws : Cpu → ℕ → Cpu
with_draws p state = record {
  queue = p.queue;
  advertised = p.advertised;
  own_priority = p.own_priority;
  running = p.running;
  must_rebalance = p.must_rebalance;
  preempt = p.preempt;
  draw_state = state;
  rebalance_time = p.rebalance_time;
  last_tick = p.last_tick;
  idle_timeslice = p.idle_timeslice;
}

unfoldable pub with_rebalance_time : Cpu → ℕ → Cpu
with_rebalance_time p time = record {
  queue = p.queue;
  advertised = p.advertised;
  own_priority = p.own_priority;
  running = p.running;
  must_rebalance = p.must_rebalance;
  preempt = p.preempt;
  draw_state = p.draw_state;
  rebalance_time = time;
  last_tick = p.last_tick;
  idle_timeslice = p.idle_timeslice;
}

unfoldable pub with_ticks : Cpu → ℕ → ℕ → Cpu
with_ticks p last paid = record {
  queue = p.queue;
  advertised = p.advertised;
  own_priority = p.own_priority;
  running = p.running;
  must_rebalance = p.must_rebalance;
  preempt = p.preempt;
  draw_state = p.draw_state;
  rebalance_time = p.rebalance_time;
  last_tick = last;
  idle_timeslice = paid;
}

-- ---- what is read of a CPU

-- "`current_load` is queue load plus 1 unless idle."
unfoldable pub one_unless_idle : Option ℕ → ℕ
one_unless_idle None = 0
one_unless_idle (Some x) = 1

unfoldable pub current_load : Cpu → ℕ
current_load p = load p.queue + one_unless_idle p.running

-- the greater of what its queue advertises and the priority of the thread last switched to
unfoldable pub current_priority : Cpu → Priority
current_priority p = greater_of p.advertised p.own_priority

unfoldable pub is_empty : Cpu → Bool
is_empty p = empty (order p.queue)

abbrev pub pinned_in : World → ℕ → Bool
pinned_in w x = pinned (w.threads x)

unfoldable pub movable_on : World → ℕ → ℕ
movable_on w c = movable (λ x. pinned (w.threads x)) (order (w.cpus c).queue)

-- the effective priority of the thread running, the idle thread's if none is
unfoldable pub priority_running : World → Option ℕ → Priority
priority_running w None = idle_priority
priority_running w (Some x) = effective_priority (w.threads x)

unfoldable pub critical_running : World → Option ℕ → Bool
critical_running w None = false
critical_running w (Some x) = (w.threads x).critical

unfoldable pub same_cpu : ℕ → Option ℕ → Bool
same_cpu c None = false
same_cpu c (Some d) = eqb d c

-- In what follows: the limits, the topology, the tick, and us, the CPU that runs the command.
module _ (limits : Limits) (topology : Topology) (tick us : ℕ) where
  -- ---- puts and takes

  -- thread x as it comes into a queue
  unfoldable pub arrival : Thread → ℕ → Bool → Arrival
  arrival t x current =
      record { thread = x; class = (effective_priority t).class; value = (effective_priority t).value; current = current; due = leb t.deadline tick }

  -- `insert`: the thread goes into the queue of CPU c; a put into the timeshare part writes its stable priority
  unfoldable pub insert_thread : World → ℕ → ℕ → Bool → World
  insert_thread w c x current =
      let t : Thread = w.threads x in
      let p : Cpu = w.cpus c in
      let a : Arrival = arrival t x current in
      noted
      (with_thread (with_cpu w c (with_queue p (insert p.queue a) (said_after_put p.advertised (effective_priority t)))) x
      (cond (is_timeshare (part_for a)) (steadied t) t))
      c (a_put (put_made (pinned t) p.queue a))

  -- `take`: a thread is asked of the queue of CPU c
  unfoldable pub handed_out : World → ℕ → Bool → Next → Got
  handed_out w c stealing nobody = record { got = None; world = noted w c (a_take stealing None) }
  handed_out w c stealing (next_in part j x) =
      let p : Cpu = w.cpus c in
      let q : Queue = leave part p.queue j in
      record {
        got = Some x;
        world = noted (with_cpu w c (with_queue p q (said_after_take part (λ y. (w.threads y).stable.value) p.advertised q))) c (a_take stealing (Some x));
      }

  unfoldable pub take_thread : World → ℕ → Bool → Got
  take_thread w c stealing = handed_out w c stealing (asked (λ x. pinned (w.threads x)) (w.cpus c).queue stealing)

  -- ---- `reset_thread_time`, `schedule_thread_on_cpu`

  unfoldable pub reset_thread_time : World → ℕ → ℕ → World
  reset_thread_time w c x =
      let t : Thread = w.threads x in
      let q : Queue = (w.cpus c).queue in
      with_thread w x (reset_time t (tick + deadline_distance limits.shortest (effective_priority t).class (timeshare_load q) (load q)))

  -- a put signals if the queue is another CPU's and is empty or advertises at most the thread's priority
  unfoldable pub should_signal : World → ℕ → ℕ → Bool
  should_signal w c x = not (eqb c us) && (is_empty (w.cpus c) || at_most (w.cpus c).advertised (effective_priority (w.threads x)))

  unfoldable pub schedule_thread_on_cpu : World → ℕ → ℕ → World
  schedule_thread_on_cpu w c x =
      wakeup us (insert_thread (reset_thread_time (with_thread w x (moving_to_queue (w.threads x) c)) c x) c x false) c (should_signal w c x)

  -- ---- the choice of a CPU

  -- a search of the tree: the CPUs that pass over the thread's priority are skipped, if a priority is given
  unfoldable pub skips : World → Option Priority → ℕ → Bool
  skips w None c = false
  skips w (Some p) c = less p (current_priority (w.cpus c))

  unfoldable pub cpu_of : Option Best → Option ℕ
  cpu_of None = None
  cpu_of (Some b) = Some b.cpu

  unfoldable pub find_cpu_from_topo : World → Option Priority → Got
  find_cpu_from_topo w p =
      let f : Searched = find_cpu us (skips w p) (λ c. current_load (w.cpus c)) (visited limits topology) (record { found = None; draws = (w.cpus us).draw_state }) in
      record { got = cpu_of f.found; world = with_cpu w us (with_draws (w.cpus us) f.draws) }

  -- 1: the preferred CPU, if it is not to be avoided, and nobody waits there or the thread is above its priority
  unfoldable pub preferred : World → ℕ → Option ℕ → Option ℕ → Option ℕ
  preferred w x avoid None = None
  preferred w x avoid (Some c) =
      cond (not (same_cpu c avoid) && (eqb (load (w.cpus c).queue) 0 || less (current_priority (w.cpus c)) (effective_priority (w.threads x)))) (Some c) None

  -- 2: the least loaded that will run the thread at once, if it is not to be avoided; else 3: the least loaded of all
  unfoldable pub found_or_any : World → Option ℕ → Option ℕ → Got
  found_or_any w avoid None = find_cpu_from_topo w None
  found_or_any w avoid (Some c) = cond (same_cpu c avoid) (find_cpu_from_topo w None) (record { got = Some c; world = w })

  unfoldable pub select_from : World → ℕ → Option ℕ → Option ℕ → Got
  select_from w x avoid None =
      let g : Got = find_cpu_from_topo w (Some (effective_priority (w.threads x))) in
      found_or_any g.world avoid g.got
  select_from w x avoid (Some c) = record { got = Some c; world = w }

  unfoldable pub select_cpu : World → ℕ → Option ℕ → Got
  select_cpu w x avoid = select_from w x avoid (preferred w x avoid (preferred_cpu (w.threads x)))

  -- ---- stealing

  unfoldable pub choose_cpu_steal_via_topo : World → Option ℕ
  choose_cpu_steal_via_topo w = first_that (may_steal_from us (λ c. current_load (w.cpus c)) (movable_on w)) (nearest limits topology us)

  -- a thread taken from CPU c for CPU d
  unfoldable pub moved_for : ℕ → Option ℕ → World → Got
  moved_for d None w = record { got = None; world = w }
  moved_for d (Some x) w = record { got = Some x; world = with_thread w x (moving_to_queue (w.threads x) d) }

  unfoldable pub take_a_thread_from_cpu : World → ℕ → ℕ → Got
  take_a_thread_from_cpu w c d =
      let g : Got = take_thread w c (not (eqb d c)) in
      moved_for d g.got g.world

  unfoldable pub steal_from : World → Option ℕ → Got
  steal_from w None = record { got = None; world = w }
  steal_from w (Some c) = take_a_thread_from_cpu w c us

  unfoldable pub try_steal : World → Got
  try_steal w = steal_from w (choose_cpu_steal_via_topo w)

  -- ---- `balance`

  -- "`balance` makes at most 20 choices and moves at most two threads": a choice is one step, a move ten more, until twenty steps are made.
  unfoldable pub max_steps : ℕ
  max_steps = 20

  unfoldable pub received : World → (ℕ → Bool) → ℕ → ℕ → Option ℕ → Balancing
  received w allowed steps recipient None = record { world = w; allowed = allowed; steps = steps + 1; goes_on = true }
  received w allowed steps recipient (Some x) = record { world = schedule_thread_on_cpu w recipient x; allowed = allowed; steps = steps + 11; goes_on = true }

  -- the donor is marked; the recipient leaves the allowed set before the take is tried
  unfoldable pub move_one : World → (ℕ → Bool) → ℕ → ℕ → ℕ → Balancing
  move_one w allowed steps donor recipient =
      let g : Got = take_a_thread_from_cpu w donor recipient in
      received g.world (at allowed recipient false) steps recipient g.got

  unfoldable pub balance_pair : World → (ℕ → Bool) → ℕ → Option Pair → Balancing
  balance_pair w allowed steps None = record { world = w; allowed = allowed; steps = steps + 1; goes_on = true }
  balance_pair w allowed steps (Some p0) =
      let p : Cpu = w.cpus p0.donor in
      let v : World = with_cpu w p0.donor (set_rebalance p) in
      cond (eqb (current_load p) 0) (record { world = w; allowed = allowed; steps = steps; goes_on = false })
      (cond (ltb 0 (load p.queue)) (move_one v allowed steps p0.donor p0.recipient)
      (record { world = v; allowed = cond (eqb (current_load p) 1) (at allowed p0.donor false) allowed; steps = steps + 1; goes_on = true }))

  unfoldable pub balance_step : Balancing → Balancing
  balance_step b =
      let w : World = b.world in
      let f : Chosen = choose_cpu_balance us b.allowed (λ c. current_load (w.cpus c)) (cpus_of limits topology 0) (w.cpus us).draw_state in
      balance_pair (with_cpu w us (with_draws (w.cpus us) f.draws)) b.allowed b.steps f.found

  -- each step is one of the twenty: n of them bound the turns
  unfoldable pub balance_turns : ℕ → Balancing → Balancing
  balance_turns zero b = b
  balance_turns (suc n) b = cond (b.goes_on && ltb b.steps max_steps) (balance_turns n (balance_step b)) b

  unfoldable pub balance : World → World
  balance w = (balance_turns max_steps (record { world = w; allowed = λ c. true; steps = 0; goes_on = true })).world

  -- ---- `switch_to`, `do_schedule`, `schedule`

  unfoldable pub activated : World → Option ℕ → World
  activated w None = w
  activated w (Some x) = with_thread w x (moving_to_active (w.threads x) us)

  unfoldable pub switch_to : World → Option ℕ → World
  switch_to w x = activated (with_cpu w us (with_running (w.cpus us) x (priority_running w x))) x

  -- nobody was found to steal: the idle thread runs on, or is switched to
  unfoldable pub run_stolen : World → Option ℕ → Option ℕ → World
  run_stolen w cur (Some y) = switch_to w (Some y)
  run_stolen w None None = w
  run_stolen w (Some x) None = switch_to w None

  -- the next thread of the own queue; one that takes itself back is not switched to
  unfoldable pub run_taken : World → Option ℕ → Option ℕ → World
  run_taken w cur (Some y) = cond (same_cpu y cur) w (switch_to w (Some y))
  run_taken w cur None =
      let g : Got = try_steal w in
      run_stolen g.world cur g.got

  unfoldable pub pick_next : World → World
  pick_next w =
      let g : Got = take_thread w us false in
      run_taken g.world (w.cpus us).running g.got

  -- the advertised priority is higher; for a thread that yields, also if it is equal
  unfoldable pub has_higher : World → ℕ → Bool → Bool
  has_higher w x eq =
      let p : Priority = effective_priority (w.threads x) in
      let said : Priority = (w.cpus us).advertised in
      less p said || (eq && at_most p said)

  -- none: no CPU found. Once sealed one always is (demands' Selects), so this clause is never taken.
  unfoldable pub reinserted : World → ℕ → Option ℕ → World
  reinserted w x None = w
  reinserted w x (Some c) = schedule_thread_on_cpu w c x

  unfoldable pub reinsert_at : World → ℕ → Got
  reinsert_at w x = cond (w.cpus us).must_rebalance (select_cpu w x (Some us)) (record { got = Some us; world = w })

  -- the thread running goes back into a queue, and the next is picked; or it runs on with its deadline set anew
  unfoldable pub reinsert : World → ℕ → Bool → Bool → World
  reinsert w x yield preempt =
      let g : Got = reinsert_at w x in
      cond (preempt || ((w.cpus us).must_rebalance || has_higher w x yield)) (pick_next (reinserted g.world x g.got))
      (cond yield (pick_next (schedule_thread_on_cpu w us x)) (reset_thread_time w us x))

  unfoldable pub do_schedule_of : World → Option ℕ → Flags → World
  do_schedule_of w None f = pick_next w
  do_schedule_of w (Some x) f = cond f.again (reinsert w x f.yield f.preempt) (pick_next w)

  unfoldable pub do_schedule : World → Flags → World
  do_schedule w f = do_schedule_of w (w.cpus us).running f

  -- "with a critical thread running it changes nothing"
  unfoldable pub schedule : World → Flags → World
  schedule w f = cond (critical_running w (w.cpus us).running) w (do_schedule w f)

  -- ---- ticks and preemption

  unfoldable pub needs_reschedule : World → Bool → Bool
  needs_reschedule w ticking =
      let p : Cpu = w.cpus us in
      let own : Priority = priority_running w p.running in
      not (critical_running w p.running) && (not (is_empty p) && (less own p.advertised || (ticking && at_most own p.advertised)))

  unfoldable pub mark_preempt : World → Bool → World
  mark_preempt w mark = cond mark (with_cpu w us (with_preempt (w.cpus us) true)) w

  -- the thread running pays for the ticks since the CPU's last hard tick
  unfoldable pub paid_by : World → Option ℕ → ℕ → World
  paid_by w None paid = with_cpu w us (with_ticks (w.cpus us) tick paid)
  paid_by w (Some x) paid = with_thread (with_cpu w us (with_ticks (w.cpus us) tick (w.cpus us).idle_timeslice)) x (paid_to (w.threads x) paid)

  unfoldable pub paid_so_far : World → Option ℕ → ℕ
  paid_so_far w None = (w.cpus us).idle_timeslice
  paid_so_far w (Some x) = (w.threads x).timeslice

  unfoldable pub schedule_hardtick : World → World
  schedule_hardtick w =
      let p : Cpu = w.cpus us in
      let allowed : ℕ = timeslice limits.shortest (priority_running w p.running).class (timeshare_load p.queue) in
      let pay : Paid = pay_ticks (paid_so_far w p.running) (tick - p.last_tick) allowed in
      mark_preempt (paid_by w p.running pay.timeslice) (needs_reschedule w true || pay.expired)

  unfoldable pub rebalance_period : ℕ
  rebalance_period = 1000000000

  -- Only on the boot CPU: the time passes, or, if it is more than what is left, is drawn anew and the CPUs are balanced.
  unfoldable pub maybe_rebalance : World → ℕ → World
  maybe_rebalance w time =
      let p : Cpu = w.cpus us in
      let state : ℕ = next_state us p.draw_state in
      cond (eqb us 0)
      (cond (ltb p.rebalance_time time)
      (balance (with_cpu w us (with_rebalance_time (with_draws p state) (500000000 + draw state % rebalance_period))))
      (with_cpu w us (with_rebalance_time p (p.rebalance_time - time))))
      w

  unfoldable pub clock : World → World
  clock w = with_cpu w us (with_queue (w.cpus us) (advance_insert_index (w.cpus us).queue) (w.cpus us).advertised)

  unfoldable pub schedule_stattick : World → ℕ → World
  schedule_stattick w time = clock (maybe_rebalance w time)

  unfoldable pub schedule_resched : World → World
  schedule_resched w = mark_preempt w (not (is_some (w.cpus us).running) || needs_reschedule w false)

  unfoldable pub schedule_maybe_preempt : World → World
  schedule_maybe_preempt w =
      cond (w.cpus us).preempt (schedule (with_cpu w us (with_preempt (w.cpus us) false)) (record { yield = false; preempt = true; again = true })) w

  -- ---- donation

  -- a wake-up is sent to the CPU in whose queue the thread was put, if somebody waits there and it advertises more than the thread's priority
  unfoldable pub maybe_wakeup : World → ℕ → Option ℕ → World
  maybe_wakeup w x None = w
  maybe_wakeup w x (Some c) = wakeup us w c (not (is_empty (w.cpus c)) && less (effective_priority (w.threads x)) (w.cpus c).advertised)

  unfoldable pub donate_priority : World → ℕ → Priority → World
  donate_priority w x p =
      let t : Thread = w.threads x in
      let v : World = with_thread w x (donated_to t (Some p)) in
      cond (donation_accepted t.donated p)
      (cond (less (effective_priority t) p && not (same_cpu x (w.cpus us).running)) (maybe_wakeup v x t.queue_cpu) v)
      w
