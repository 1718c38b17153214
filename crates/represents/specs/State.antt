-- WHAT LENT MEMORY STANDS FOR: thread records ts, words cs of the CPUs, words ns of the nodes and the state by value, of one State of the rules. A reader
-- reads all of this file, after World and Topology.
use Rattle.std.specs.Prelude.{ℕ, ◌^◌, ◌≤◌, ◌≡◌, Bool, List, length}
use Rattle.rules.specs.State as rules
use Rattle.rules.specs.State.{Limits, any_below, runs_on}
use Rattle.rules.specs.Commands.{world_of}
use Rattle.thread.specs.declared.Thread.{Thread}
use Rattle.represents.specs.World.{Small, WorldRep}
use Rattle.represents.specs.Topology.{TopologyRep}
use Rattle.request.specs.Request.{width}
use Rattle.questions.specs.declared.state.State.{State}

-- the limits that the state says; there may be 1,024 threads
unfoldable pub limits_in : State → Limits
limits_in a = record {
  cpus = a.cpus;
  nodes = a.nodes;
  threads = 1024;
  cpu_bytes = width a.wide;
  node_bytes = width a.wide;
  shortest = a.shortest;
}

-- thread x runs on some CPU
unfoldable pub runs : rules.State → ℕ → Bool
runs s x = any_below s.limits.cpus (λ c. runs_on s c x)

-- The state says the limits, the seal, the tick, the commands accepted and how many nodes exist; the words of the nodes are the topology, with a row for
-- each node that there may be; records and words of the CPUs show CPUs and threads, those that run being active.
-- The limits and the tick are small enough that no number wraps.
pub record StateRep (ts : List Thread) (cs ns : List (List ℕ)) (a : State) (s : rules.State) : Type 0 where
  pub limits : s.limits ≡ limits_in a
  pub sealed : a.sealed ≡ s.sealed
  pub tick : a.tick ≡ s.tick
  pub accepted : a.accepted ≡ s.accepted
  pub node_count : a.node_count ≡ length s.topology.nodes
  pub tree : TopologyRep s.limits ns s.topology
  pub rows : s.limits.nodes ≤ length ns
  pub shows : WorldRep s.limits s.topology s.known (runs s) ts cs (world_of s)
  pub small : Small s.limits
  pub few_nodes : s.limits.nodes ≤ 2147483648
  pub nodes_fit : length s.topology.nodes ≤ s.limits.nodes
  pub tick_fits : s.tick ≤ 2 ^ 62
