-- WHAT THE WORDS OF THE NODES STAND FOR: a topology of the rules.
use Rattle.std.specs.Prelude.{ℕ, zero, suc, ◌<◌, ◌-◌, ◌≤◌, ◌≡◌, true, false, not, List, [], ◌∷◌, ◌++◌, length, get_or, Some}
use Rattle.rules.specs.Line.{has, Distinct}
use Rattle.topology.specs.Words.{word, width}
use Rattle.rules.specs.State.{Limits, Topology, join_all}
use Rattle.rules.specs.Topology.{nr_nodes, parent_of, children, leaf, on_node}
use Rattle.topology.specs.Node.{parent, level_type, next, prev, first, end, has_children, contains_at}
use Rattle.topology.specs.CpuSet.{max_cpu_id}

-- from x through the list to e, along both links
unfoldable pub Ring : (ℕ → ℕ) → (ℕ → ℕ) → ℕ → List ℕ → ℕ → Type 0
Ring next prev x [] e = (next x ≡ e) × (prev e ≡ x)
Ring next prev x (y ∷ l) e = (next x ≡ y) × ((prev y ≡ x) × Ring next prev y l e)

-- the nodes from n down, at most k deep; ch gives the children of a node
unfoldable pub met : (ℕ → List ℕ) → ℕ → ℕ → List ℕ
met ch zero n = []
met ch (suc k) n = join_all (met ch k) (ch n) ++ (n ∷ [])

-- all nodes but the root
unfoldable pub met_first : Limits → Topology → List ℕ
met_first limits t = join_all (met (children limits t) (nr_nodes limits t)) (children limits t 0)

-- what holds of every topology that commands make
pub record TopologySound (limits : Limits) (t : Topology) : Type 0 where
  pub root : 0 < nr_nodes limits t
  pub parents : (m : ℕ) → 0 < m → m < nr_nodes limits t → parent_of limits t m < m
  pub placed_there : (c m : ℕ) → t.placed c ≡ Some m → (c < limits.cpus) × ((m < nr_nodes limits t) × (leaf limits t m ≡ true))
  pub distinct : Distinct (met_first limits t)
  pub no_root : has 0 (met_first limits t) ≡ false
  pub within : (x : ℕ) → has x (met_first limits t) ≡ true → x < nr_nodes limits t
  pub all_met : (x : ℕ) → 0 < x → x < nr_nodes limits t → has x (met_first limits t) ≡ true

-- each row has its words
unfoldable pub Sized : List (List ℕ) → Type 0
Sized rows = (n : ℕ) → n < length rows → length (get_or rows n []) ≡ width

-- the type that node n was given
unfoldable pub type_of : Topology → ℕ → ℕ
type_of t n = (get_or t.nodes n (record { parent = 0; type = 0 })).type

-- the CPUs of a node are from its first to below its end, and the last of them is just below its end
pub record Ranged (limit : ℕ) (rows : List (List ℕ)) (n : ℕ) : Type 0 where
  pub inside : (c : ℕ) → c < limit → contains_at rows n c ≡ true → (word rows n first ≤ c) × (c < word rows n end)
  pub last : 0 < word rows n end → (word rows n end - 1 < limit) × (contains_at rows n (word rows n end - 1) ≡ true)

-- parents, types, who has children, the order of a search along both links, and the sets: the CPUs placed on a node or below it
pub record TopologyRep (limits : Limits) (rows : List (List ℕ)) (t : Topology) : Type 0 where
  pub sound : TopologySound limits t
  pub sized : Sized rows
  pub room : nr_nodes limits t ≤ length rows
  pub cpus_fit : limits.cpus ≤ max_cpu_id
  pub parent_is : (n : ℕ) → 0 < n → n < nr_nodes limits t → word rows n parent ≡ parent_of limits t n
  pub type_is : (n : ℕ) → n < nr_nodes limits t → word rows n level_type ≡ type_of t n
  pub children_is : (n : ℕ) → n < nr_nodes limits t → has_children rows n ≡ not (leaf limits t n)
  pub order_is : Ring (λ n. word rows n next) (λ n. word rows n prev) 0 (met_first limits t) 0
  pub set_is : (n : ℕ) → n < nr_nodes limits t → (c : ℕ) → c < limits.cpus → contains_at rows n c ≡ on_node limits t (t.placed c) n
  pub range_is : (n : ℕ) → n < nr_nodes limits t → Ranged limits.cpus rows n
