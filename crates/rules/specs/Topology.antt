-- The tree of nodes: children, what lies below, the CPUs of a node (sched.rs, CPUTopoNode).
use Rattle.std.specs.Prelude.{ℕ, zero, suc, Bool, true, false, cond, ◌&&◌, ◌||◌, List, [], ◌∷◌, length, get_or, eqb, ltb, Option, None, Some}
use Rattle.rules.specs.State.{Topology, Limits, those_below, join_all}

module _ (limits : Limits) (t : Topology) where
  unfoldable pub nr_nodes : ℕ
  nr_nodes = length t.nodes

  unfoldable pub parent_of : ℕ → ℕ
  parent_of n = (get_or t.nodes n (record { parent = 0; type = 0 })).parent

  -- "new last child node, numbered onward from 1": the children of a node are the nodes that name it as parent, in number order
  unfoldable pub children : ℕ → List ℕ
  children n = those_below nr_nodes (λ m. ltb 0 m && eqb (parent_of m) n)

  unfoldable pub no_nodes : List ℕ → Bool
  no_nodes [] = true
  no_nodes (n ∷ l) = false

  unfoldable pub leaf : ℕ → Bool
  leaf n = no_nodes (children n)

  -- the node m and those above it, up to the root
  unfoldable pub upward : ℕ → ℕ → List ℕ
  upward zero m = m ∷ []
  upward (suc k) m = m ∷ cond (eqb m 0) [] (upward k (parent_of m))

  unfoldable pub above : ℕ → List ℕ
  above m = upward nr_nodes m

  unfoldable pub holds : ℕ → List ℕ → Bool
  holds n [] = false
  holds n (m ∷ l) = eqb m n || holds n l

  -- "put the CPU on that node and all nodes above": CPU c is on node n if n is the node on which it was put, or above that one
  unfoldable pub on_node : Option ℕ → ℕ → Bool
  on_node None n = false
  on_node (Some m) n = holds n (above m)

  -- the CPUs of a node, ascending
  unfoldable pub cpus_of : ℕ → List ℕ
  cpus_of n = those_below limits.cpus (λ c. on_node (t.placed c) n)

  -- The order in which the search of the tree visits CPUs: children in node order, the CPUs of a leaf ascending.
  unfoldable pub visits : ℕ → ℕ → List ℕ
  visits zero n = []
  visits (suc k) n = cond (leaf n) (cpus_of n) (join_all (visits k) (children n))

  unfoldable pub visited : List ℕ
  visited = visits (suc nr_nodes) 0

  -- The order in which stealing looks: the CPUs of CPU c's own leaf, ascending, then those of each node above it.
  unfoldable pub nearest_from : Option ℕ → List ℕ
  nearest_from None = []
  nearest_from (Some m) = join_all cpus_of (above m)

  unfoldable pub nearest : ℕ → List ℕ
  nearest c = nearest_from (t.placed c)
