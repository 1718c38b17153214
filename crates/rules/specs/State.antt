-- What the rules keep: limits, topology, CPUs, threads, and beside them the puts and takes that a command makes.
use Rattle.std.specs.Prelude.{ℕ, zero, suc, Bool, false, cond, not, ◌||◌, List, [], ◌∷◌, ◌++◌, eqb, Option, None, Some}
use Rattle.rules.specs.declared.PriorityClass.TheVariants as class
use Rattle.rules.specs.declared.Priority.{Priority}
use Rattle.rules.specs.Line.{has}
use Rattle.rules.specs.Priority.{priority}
use Rattle.rules.specs.Times.{Thread}
use Rattle.rules.specs.Queue.{Queue, no_queue, order}

-- ---- general

-- the function f, but v at x
unfoldable pub at {ℓ} : {A : Type ℓ} → (ℕ → A) → ℕ → A → ℕ → A
at f x v y = cond (eqb y x) v (f y)

-- some number below n passes the test
unfoldable pub any_below : ℕ → (ℕ → Bool) → Bool
any_below zero test = false
any_below (suc n) test = any_below n test || test n

-- the numbers below n that pass the test, ascending
unfoldable pub those_below : ℕ → (ℕ → Bool) → List ℕ
those_below zero test = []
those_below (suc n) test = those_below n test ++ cond (test n) (n ∷ []) []

-- the lists of each element of a list, one behind the other
unfoldable pub join_all : (ℕ → List ℕ) → List ℕ → List ℕ
join_all f [] = []
join_all f (x ∷ l) = f x ++ join_all f l

unfoldable pub is_number : ℕ → Option ℕ → Bool
is_number x None = false
is_number x (Some y) = eqb y x

-- ---- limits

-- How many CPUs, nodes and threads there may be, how many bytes an operand has that names a CPU or a node; and a setting, the shortest User timeslice, which hex 05
-- changes before the seal.
pub record Limits : Type 0 where
  pub cpus : ℕ
  pub nodes : ℕ
  pub threads : ℕ
  pub cpu_bytes : ℕ
  pub node_bytes : ℕ
  pub shortest : ℕ

-- 2026-07: "unset it is 2"
unfoldable pub base_limits : Limits
base_limits = record { cpus = 64; nodes = 128; threads = 1024; cpu_bytes = 1; node_bytes = 1; shortest = 2 }

-- the limits with another shortest timeslice
unfoldable pub with_shortest : Limits → ℕ → Limits
with_shortest l n = record { cpus = l.cpus; nodes = l.nodes; threads = l.threads; cpu_bytes = l.cpu_bytes; node_bytes = l.node_bytes; shortest = n }

-- ---- topology

-- "node 0 is the root"; the parent of the root is not looked at.
pub record Node : Type 0 where
  pub parent : ℕ
  pub type : ℕ

-- The nodes from 0 in number order, the CPUs declared, and the node on which each was put.
pub record Topology : Type 0 where
  pub nodes : List Node
  pub declared : ℕ → Bool
  pub placed : ℕ → Option ℕ

-- ---- one CPU

-- advertised: the priority that its queue advertises; own_priority: that of the thread last switched to; running: none is its idle thread;
-- preempt: the preemption mark; rebalance_time: what is left until it balances; idle_timeslice: what its idle thread has paid.
pub record Cpu : Type 0 where
  pub queue : Queue
  pub advertised : Priority
  pub own_priority : Priority
  pub running : Option ℕ
  pub must_rebalance : Bool
  pub preempt : Bool
  pub draw_state : ℕ
  pub rebalance_time : ℕ
  pub last_tick : ℕ
  pub idle_timeslice : ℕ

-- "its idle thread (Idle, 0)"
unfoldable pub idle_priority : Priority
idle_priority = priority class.Idle 0

unfoldable pub new_cpu : Cpu
new_cpu = record {
  queue = no_queue;
  advertised = idle_priority;
  own_priority = idle_priority;
  running = None;
  must_rebalance = false;
  preempt = false;
  draw_state = 0;
  rebalance_time = 0;
  last_tick = 0;
  idle_timeslice = 0;
}

-- ---- a thread as command 10 declares it

unfoldable pub new_thread : Priority → Option ℕ → Thread
new_thread p pin = record {
  own = p;
  donated = None;
  stable = p;
  pin = pin;
  last = None;
  queue_cpu = None;
  deadline = 0;
  timeslice = 0;
  critical = false;
}

-- ---- the state between commands

pub record State : Type 0 where
  pub limits : Limits
  pub topology : Topology
  pub sealed : Bool
  pub tick : ℕ
  pub accepted : ℕ
  pub known : ℕ → Bool
  pub cpus : ℕ → Cpu
  pub threads : ℕ → Thread

-- the state that the library's start makes
unfoldable pub start : Limits → State
start limits = record {
  limits = limits;
  topology = record { nodes = record { parent = 0; type = 0 } ∷ []; declared = λ c. false; placed = λ c. None };
  sealed = false;
  tick = 0;
  accepted = 0;
  known = λ x. false;
  cpus = λ c. new_cpu;
  threads = λ x. new_thread idle_priority None;
}

-- Thread x runs on CPU c; waits in its queue.
unfoldable pub runs_on : State → ℕ → ℕ → Bool
runs_on s c x = is_number x (s.cpus c).running

unfoldable pub waits_on : State → ℕ → ℕ → Bool
waits_on s c x = has x (order (s.cpus c).queue)

-- A thread is blocked if it neither runs nor waits.
unfoldable pub blocked : State → ℕ → Bool
blocked s x = not (any_below s.limits.cpus (λ c. runs_on s c x || waits_on s c x))
