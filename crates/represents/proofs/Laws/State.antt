-- What the relation gives of the state by value, and that it is kept where the topology, the seal, the tick or the threads change.
use Rattle.std.specs.Prelude.{ℕ, ◌+◌, ◌^◌, ◌≤◌, ◌≡◌, Bool, List, length}
use Rattle.std.proofs.Math.Path.{sym, ap}
use Rattle.std.proofs.Common.{◌∙◌}
use Rattle.rules.specs.Times as times
use Rattle.rules.specs.State as rules
use Rattle.rules.specs.State.{Limits, with_shortest, Topology, runs_on}
use Rattle.rules.specs.Topology.{nr_nodes, parent_of, children, no_nodes, leaf, upward, above, holds, on_node}
use Rattle.rules.specs.Questions.{most_shortest}
use Rattle.rules.specs.Schedule.{World}
use Rattle.rules.specs.Commands.{no_log, changed, world_of, shortened}
use Rattle.thread.specs.declared.Thread.{Thread}
use Rattle.represents.specs.World.{WorldRep}
use Rattle.represents.specs.Topology.{met_first, TopologyRep}
use Rattle.questions.specs.declared.state.State.{State}
use Rattle.represents.specs.State.{limits_in, runs, StateRep}

-- ---- neither topology nor world asks the shortest timeslice

topology_shortened : (limits : Limits) (n : ℕ) (rows : List (List ℕ)) (t : Topology) → TopologyRep limits rows t → TopologyRep (with_shortest limits n) rows t
unfolding with_shortest nr_nodes parent_of children no_nodes leaf upward above holds on_node met_first
topology_shortened limits n rows t r = record {
  sound = record {
    root = r.sound.root;
    parents = r.sound.parents;
    placed_there = r.sound.placed_there;
    distinct = r.sound.distinct;
    no_root = r.sound.no_root;
    within = r.sound.within;
    all_met = r.sound.all_met;
  };
  sized = r.sized;
  room = r.room;
  cpus_fit = r.cpus_fit;
  parent_is = r.parent_is;
  type_is = r.type_is;
  children_is = r.children_is;
  order_is = r.order_is;
  set_is = r.set_is;
  range_is = r.range_is;
}

world_shortened : (limits : Limits) (n : ℕ) {topology : Topology} {known active : ℕ → Bool} {ts : List Thread} {cs : List (List ℕ)} {w : World}
    → WorldRep limits topology known active ts cs w → WorldRep (with_shortest limits n) topology known active ts cs w
unfolding with_shortest
world_shortened limits n r = record {
  queues = r.queues;
  none_past = r.none_past;
  rows = r.rows;
  threads = r.threads;
  queue_cpus = r.queue_cpus;
  words = r.words;
  places = r.places;
}

-- The state by value after a command: the limits stay, and one command more is accepted.
pub record Counted (a b : State) (sealed : Bool) (tick node_count : ℕ) : Type 0 where
  pub limits_stay : limits_in b ≡ limits_in a
  pub sealed_is : b.sealed ≡ sealed
  pub tick_is : b.tick ≡ tick
  pub count_is : b.node_count ≡ node_count
  pub accepted_is : b.accepted ≡ a.accepted + 1

module _ {ts : List Thread} {cs ns : List (List ℕ)} {a : State} {s : rules.State} (m : StateRep ts cs ns a s) where
  pub cpus_are : s.limits.cpus ≡ a.cpus
  unfolding limits_in
  cpus_are = ap (λ (l : Limits). l.cpus) m.limits

  pub nodes_are : s.limits.nodes ≡ a.nodes
  unfolding limits_in
  nodes_are = ap (λ (l : Limits). l.nodes) m.limits

  pub threads_are : s.limits.threads ≡ 1024
  unfolding limits_in
  threads_are = ap (λ (l : Limits). l.threads) m.limits

  -- what a command leaves that changes the topology, the seal, the tick or the threads
  pub stands_changed : (ts' : List Thread) (cs' ns' : List (List ℕ)) (b : State) (topology : Topology) (sealed : Bool) (tick : ℕ) (known : ℕ → Bool) (threads : ℕ → times.Thread)
      → Counted a b sealed tick (length topology.nodes) → TopologyRep s.limits ns' topology → s.limits.nodes ≤ length ns'
      → WorldRep s.limits topology known (runs s) ts' cs' (record { cpus = s.cpus; threads = threads; log = no_log; wakeups = 0 })
      → length topology.nodes ≤ s.limits.nodes → tick ≤ 2 ^ 62
      → StateRep ts' cs' ns' b (changed s topology sealed tick known threads).state
  unfolding changed world_of runs runs_on
  stands_changed ts' cs' ns' b topology sealed tick known threads n t r w f k = record {
    limits = m.limits ∙ sym n.limits_stay;
    sealed = n.sealed_is;
    tick = n.tick_is;
    accepted = n.accepted_is ∙ ap (λ (k : ℕ). k + 1) m.accepted;
    node_count = n.count_is;
    tree = t;
    rows = r;
    shows = w;
    small = m.small;
    few_nodes = m.few_nodes;
    nodes_fit = f;
    tick_fits = k;
  }

  -- another shortest timeslice, of which the words of CPUs and nodes and the records say nothing
  pub stands_shortened : (b : State) (n : ℕ) → n ≤ most_shortest → limits_in b ≡ with_shortest (limits_in a) n → b.sealed ≡ a.sealed → b.tick ≡ a.tick → b.accepted ≡ a.accepted
      → b.node_count ≡ a.node_count → StateRep ts cs ns b (shortened s n)
  unfolding shortened with_shortest world_of runs runs_on
  stands_shortened b n h l e t k c = record {
    limits = ap (λ (i : Limits). with_shortest i n) m.limits ∙ sym l;
    sealed = e ∙ m.sealed;
    tick = t ∙ m.tick;
    accepted = k ∙ m.accepted;
    node_count = c ∙ m.node_count;
    tree = topology_shortened s.limits n ns s.topology m.tree;
    rows = m.rows;
    shows = world_shortened s.limits n m.shows;
    small = record { cpus = m.small.cpus; threads = m.small.threads; shortest = h };
    few_nodes = m.few_nodes;
    nodes_fit = m.nodes_fit;
    tick_fits = m.tick_fits;
  }
