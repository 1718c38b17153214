-- The bound's provisos (Provisos) can be met, and so many takes as it counts can be made: lists of calls in which a timeshare thread comes in, others arrive while
-- it waits, and it is handed out by take 4; `demand_3_bound` applies to one with 8,192 takes.
use Rattle.std.specs.Prelude.{ℕ, zero, suc, Bool, true, false, List, [], ◌∷◌, ◌++◌, None, Some}
use Rattle.rules.specs.declared.PriorityClass.TheVariants as class
use Rattle.rules.specs.declared.Part.{Part}
use Rattle.rules.specs.declared.Part.TheVariants as part
use Rattle.rules.specs.Priority.{priority}
use Rattle.rules.specs.Times.{Thread}
use Rattle.rules.specs.Puts.{Put, PutOrTake, a_put, a_take}
use Rattle.rules.specs.State.{at, base_limits, Topology, Cpu, State, start}
use Rattle.rules.specs.Commands.{after_calls, history}
use Rattle.rules.specs.Witnesses.{one_cpu, comes}

-- ---- the calls

-- a hard tick, and a stat tick, which moves the filling index on
unfoldable pub ticks : List (List ℕ)
ticks = (0x14 ∷ 0 ∷ []) ∷ (0x15 ∷ 0 ∷ 0 ∷ 0 ∷ 0 ∷ 0 ∷ []) ∷ []

-- The thread that runs is blocked, or goes back into the queue; the next one runs.
unfoldable pub blocks : List ℕ
blocks = 0x13 ∷ 0 ∷ 0 ∷ []

unfoldable pub returns : List ℕ
returns = 0x13 ∷ 0 ∷ 5 ∷ []

-- Background threads 1 and 3, User threads 0 and 2. Thread 0 comes in while thread 1 waits; then threads 2 and 3 come in, and thread 2 is taken and returns until
-- thread 0 is taken.
unfoldable pub first : List (List ℕ)
first =
    one_cpu ++ comes 1 1 9 255 ++ comes 0 2 64 255 ++ ticks
    ++ comes 2 2 127 255 ++ comes 3 1 9 255 ++ (blocks ∷ [])
    ++ ticks ++ (returns ∷ []) ++ ticks ++ (returns ∷ []) ++ ticks ++ (returns ∷ [])
    ++ (blocks ∷ returns ∷ [])

-- Thread 2 returns n times more.
unfoldable pub rounds : ℕ → List (List ℕ)
rounds zero = []
rounds (suc n) = returns ∷ rounds n

abbrev pub calls : ℕ → List (List ℕ)
calls n = first ++ rounds n

-- ---- the puts and takes of CPU 0's queue

-- thread x goes into a bucket of part k, at a filling and an emptying index
abbrev pub into : ℕ → Part → ℕ → ℕ → ℕ → Put
into x k bucket filling emptying =
    record { thread = x; part = k; bucket = bucket; current = false; pinned = false; insert_idx = filling; take_idx = emptying }

-- before thread 0 comes in, its put, and after it
abbrev pub put_1 : Put
put_1 = into 1 part.Idle 0 0 0

abbrev pub before : List PutOrTake
before = a_put put_1 ∷ []

abbrev pub put_0 : Put
put_0 = into 0 part.Timeshare 4 0 0

abbrev pub soon : List PutOrTake
soon =
    a_put (into 2 part.Timeshare 1 1 0)
    ∷ a_put (into 3 part.Idle 0 1 0)
    ∷ a_take false (Some 2)
    ∷ a_put (into 2 part.Timeshare 2 2 1)
    ∷ a_take false (Some 2)
    ∷ a_put (into 2 part.Timeshare 3 3 2)
    ∷ a_take false (Some 2)
    ∷ a_put (into 2 part.Timeshare 4 4 3)
    ∷ a_take false (Some 0)
    ∷ a_take false (Some 2)
    ∷ a_put (into 2 part.Timeshare 4 4 4)
    ∷ a_take false (Some 2)
    ∷ []

abbrev pub since : ℕ → List PutOrTake
since n = soon ++ history (after_calls (start base_limits) first) (rounds n) 0

-- ---- for the number of takes: each return leaves CPU 0 and thread 2 as they were

abbrev pub alone : Topology
alone = record { nodes = record { parent = 0; type = 0 } ∷ []; declared = at (λ c. false) 0 true; placed = at (λ c. None) 0 (Some 0) }

abbrev pub cpu_then : ℕ → Cpu
cpu_then draws = record {
  queue = record {
    realtime = [] ∷ [] ∷ [] ∷ [] ∷ [] ∷ [] ∷ [] ∷ [] ∷ [];
    timeshare = [] ∷ [] ∷ [] ∷ [] ∷ [] ∷ [] ∷ [] ∷ [] ∷ [];
    insert_idx = 4;
    take_idx = 4;
    idle = (1 ∷ 3 ∷ []) ∷ [] ∷ [] ∷ [] ∷ [] ∷ [] ∷ [] ∷ [] ∷ [];
  };
  advertised = priority class.Idle 0;
  own_priority = priority class.User 127;
  running = Some 2;
  must_rebalance = false;
  preempt = true;
  draw_state = draws;
  rebalance_time = 0;
  last_tick = 0;
  idle_timeslice = 0;
}

abbrev pub thread_then : Thread
thread_then = record {
  own = priority class.User 127;
  donated = None;
  stable = priority class.User 127;
  pin = None;
  last = Some 0;
  queue_cpu = Some 0;
  deadline = 200;
  timeslice = 0;
  critical = false;
}

abbrev pub turning : ℕ → ℕ → (ℕ → Bool) → (ℕ → Cpu) → (ℕ → Thread) → State
turning accepted draws known cpus threads = record {
  limits = base_limits;
  topology = alone;
  sealed = true;
  tick = 0;
  accepted = accepted;
  known = known;
  cpus = at cpus 0 (cpu_then draws);
  threads = at threads 2 thread_then;
}
