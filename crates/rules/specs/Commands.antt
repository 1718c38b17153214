-- What each obeyed command does, and the answer that is shown.
use Rattle.std.specs.Prelude.{ℕ, ◌+◌, Bool, true, cond, List, [], ◌∷◌, ◌++◌, eqb, Option, None, Some}
use Rattle.rules.specs.declared.Running.{Running}
use Rattle.rules.specs.declared.Running.TheVariants as running
use Rattle.rules.specs.Priority.{priority, class_at}
use Rattle.rules.specs.Times.{Thread, donated_to, critical_at}
use Rattle.rules.specs.Queue.{load}
use Rattle.rules.specs.Puts.{PutOrTake}
use Rattle.rules.specs.State.{at, with_shortest, Topology, new_thread, State}
use Rattle.rules.specs.Schedule as sched
use Rattle.rules.specs.Schedule.{World, Got}
use Rattle.rules.specs.Requests.{Request, declare_cpu, add_node, place_cpu, seal, set_shortest, declare_thread, set_tick, schedule_thread, schedule, hardtick, stattick, resched, maybe_preempt, donate, remove_donation, set_critical, Reading, unknown, cut_short, asks, read, flags_of}
use Rattle.rules.specs.Questions.{refusal}

-- ---- the answer

-- What the line of a command shows: "number from 0, refusal (0 if obeyed), CPU, thread it now runs or `idle`, queue load, calls of `wakeup` made by this command": none is shown as `-`.
-- Of the calls, those to a different CPU (Schedule, `wakeup`).
pub record Answer : Type 0 where
  pub refused : ℕ
  pub cpu : Option ℕ
  pub running : Option Running
  pub load : Option ℕ
  pub wakeups : Option ℕ

unfoldable pub nothing_shown : ℕ → Answer
nothing_shown refusal = record { refused = refusal; cpu = None; running = None; load = None; wakeups = None }

unfoldable pub running_of : Option ℕ → Running
running_of None = running.Idle
running_of (Some x) = running.Thread x

unfoldable pub shown : World → ℕ → Answer
shown w c =
    record { refused = 0; cpu = Some c; running = Some (running_of (w.cpus c).running); load = Some (load (w.cpus c).queue); wakeups = Some w.wakeups }

-- ---- what a command leaves: the state, the answer, and the puts and takes of each CPU's queue, in their order

pub record Step : Type 0 where
  pub state : State
  pub answer : Answer
  pub log : ℕ → List PutOrTake

unfoldable pub no_log : ℕ → List PutOrTake
no_log c = []

unfoldable pub refuses : State → ℕ → Step
refuses s n = record { state = s; answer = nothing_shown n; log = no_log }

-- a command that changes the topology, the seal, the tick or the threads declared
unfoldable pub changed : State → Topology → Bool → ℕ → (ℕ → Bool) → (ℕ → Thread) → Step
changed s topology sealed tick known threads = record {
  state = record {
    limits = s.limits;
    topology = topology;
    sealed = sealed;
    tick = tick;
    accepted = s.accepted + 1;
    known = known;
    cpus = s.cpus;
    threads = threads;
  };
  answer = nothing_shown 0;
  log = no_log;
}

unfoldable pub world_of : State → World
world_of s = record { cpus = s.cpus; threads = s.threads; log = no_log; wakeups = 0 }

-- a command that a CPU runs
unfoldable pub ran : State → World → Answer → Step
ran s w a = record {
  state = record {
    limits = s.limits;
    topology = s.topology;
    sealed = s.sealed;
    tick = s.tick;
    accepted = s.accepted + 1;
    known = s.known;
    cpus = w.cpus;
    threads = w.threads;
  };
  answer = a;
  log = w.log;
}

-- ---- 01 to 03

unfoldable pub with_cpu_declared : Topology → ℕ → Topology
with_cpu_declared t c = record { nodes = t.nodes; declared = at t.declared c true; placed = t.placed }

unfoldable pub with_node : Topology → ℕ → ℕ → Topology
with_node t p k = record { nodes = t.nodes ++ (record { parent = p; type = k } ∷ []); declared = t.declared; placed = t.placed }

unfoldable pub with_placed : Topology → ℕ → ℕ → Topology
with_placed t n c = record { nodes = t.nodes; declared = t.declared; placed = at t.placed c (Some n) }

-- ---- 05: "sets the shortest User timeslice"

unfoldable pub shortened : State → ℕ → State
shortened s n = record {
  limits = with_shortest s.limits n;
  topology = s.topology;
  sealed = s.sealed;
  tick = s.tick;
  accepted = s.accepted;
  known = s.known;
  cpus = s.cpus;
  threads = s.threads;
}

-- ---- 12: "The CPU is the one chosen for 12"

-- none: no CPU found. Once sealed one always is (demands' Selects), so this clause is never taken.
unfoldable pub scheduled_on : State → ℕ → ℕ → World → Option ℕ → Step
scheduled_on s us x w None = ran s w (shown w us)
scheduled_on s us x w (Some c) =
    let v : World = sched.schedule_thread_on_cpu s.limits s.topology s.tick us w c x in
    ran s v (shown v c)

unfoldable pub schedules : State → ℕ → ℕ → Step
schedules s us x =
    let g : Got = sched.select_cpu s.limits s.topology s.tick us (world_of s) x None in
    scheduled_on s us x g.world g.got

-- a command whose line shows its operand
unfoldable pub ran_on : State → ℕ → World → Step
ran_on s us w = ran s w (shown w us)

unfoldable pub obeys : State → Request → Step
obeys s (declare_cpu c) = changed s (with_cpu_declared s.topology c) s.sealed s.tick s.known s.threads
obeys s (add_node p k) = changed s (with_node s.topology p k) s.sealed s.tick s.known s.threads
obeys s (place_cpu n c) = changed s (with_placed s.topology n c) s.sealed s.tick s.known s.threads
obeys s seal = changed s s.topology true s.tick s.known s.threads
obeys s (set_shortest n) = changed (shortened s n) s.topology s.sealed s.tick s.known s.threads
obeys s (declare_thread x c v p) = changed s s.topology s.sealed s.tick (at s.known x true) (at s.threads x (new_thread (priority (class_at c) v) p))
obeys s (set_tick t) = changed s s.topology s.sealed t s.known s.threads
obeys s (schedule_thread c x) = schedules s c x
obeys s (schedule c f) = ran_on s c (sched.schedule s.limits s.topology s.tick c (world_of s) (flags_of f))
obeys s (hardtick c) = ran_on s c (sched.schedule_hardtick s.limits s.topology s.tick c (world_of s))
obeys s (stattick c n) = ran_on s c (sched.schedule_stattick s.limits s.topology s.tick c (world_of s) n)
obeys s (resched c) = ran_on s c (sched.schedule_resched s.limits s.topology s.tick c (world_of s))
obeys s (maybe_preempt c) = ran_on s c (sched.schedule_maybe_preempt s.limits s.topology s.tick c (world_of s))
obeys s (donate c x k v) = ran_on s c (sched.donate_priority s.limits s.topology s.tick c (world_of s) x (priority (class_at k) v))
obeys s (remove_donation x) = changed s s.topology s.sealed s.tick s.known (at s.threads x (donated_to (s.threads x) None))
obeys s (set_critical x m) = changed s s.topology s.sealed s.tick s.known (at s.threads x (critical_at (s.threads x) (eqb m 1)))

-- ---- one call: "A no gives the number, changes nothing"

unfoldable pub answered : State → Reading → Step
answered s unknown = refuses s 1
answered s cut_short = refuses s 2
answered s (asks r used) =
    let n : ℕ = refusal s (asks r used) in
    cond (eqb n 0) (obeys s r) (refuses s n)

unfoldable pub step : State → List ℕ → Step
step s bytes = answered s (read s.limits bytes)

-- ---- lists of calls

-- the state after the calls, each on its bytes
unfoldable pub after_calls : State → List (List ℕ) → State
after_calls s [] = s
after_calls s (bytes ∷ calls) = after_calls (step s bytes).state calls

-- the puts and takes of CPU c's queue over the calls, in their order
unfoldable pub history : State → List (List ℕ) → ℕ → List PutOrTake
history s [] c = []
history s (bytes ∷ calls) c = (step s bytes).log c ++ history (step s bytes).state calls c
