-- The orders in which the nodes and CPUs of a tree in words are met.
use Rattle.std.specs.Prelude.{ℕ, zero, suc, ◌+◌, ◌-◌, ◌≤◌, ◌<◌, ◌≡◌, Bool, cond, List, [], ◌∷◌, length, eqb}
use Rattle.std.proofs.Common.{arith, add-one}
use Rattle.rules.specs.State.{join_all}
use Rattle.topology.specs.Words.{word}
use Rattle.topology.specs.Node.{parent, next, has_children, contains_at, first_of, end_of}

-- of the k numbers from c on, those that pass the test, ascending
unfoldable pub those_from : (ℕ → Bool) → ℕ → ℕ → List ℕ
those_from test c zero = []
those_from test c (suc k) = cond (test c) (c ∷ those_from test (suc c) k) (those_from test (suc c) k)

-- the CPUs of a node, ascending
unfoldable pub cpus_at : List (List ℕ) → ℕ → ℕ → List ℕ
cpus_at rows limit n = those_from (contains_at rows n) (first_of rows n) (end_of rows n limit - first_of rows n)

-- the CPUs of a leaf; none of a node with children
unfoldable pub leaf_cpus : List (List ℕ) → ℕ → ℕ → List ℕ
leaf_cpus rows limit n = cond (has_children rows n) [] (cpus_at rows limit n)

-- at most k nodes, each the one that a word of the last names, up to the root
unfoldable pub to_root : List (List ℕ) → ℕ → ℕ → ℕ → List ℕ
to_root rows w zero n = []
to_root rows w (suc k) n = n ∷ cond (eqb n 0) [] (to_root rows w k (word rows n w))

-- the CPUs in the order in which a search of the tree meets them
unfoldable pub visited_at : List (List ℕ) → ℕ → List ℕ
visited_at rows limit = join_all (leaf_cpus rows limit) (to_root rows next (length rows) (word rows 0 next))

-- the CPUs of a node, then those of each node above it
unfoldable pub nearest_at : List (List ℕ) → ℕ → ℕ → List ℕ
nearest_at rows limit n = join_all (cpus_at rows limit) (to_root rows parent (length rows) n)

-- ---- for proofs: one turn of a loop, and its end

pub those_turn : (test : ℕ → Bool) (c to : ℕ) → c < to
    → those_from test c (to - c) ≡ cond (test c) (c ∷ those_from test (c + 1) (to - (c + 1))) (those_from test (c + 1) (to - (c + 1)))
unfolding those_from
those_turn test c to h =
    let e : to - c ≡ suc (to - (c + 1)) = omega arith in
    let o : c + 1 ≡ suc c = add-one c in
    rw (e, o)

pub those_end : (test : ℕ → Bool) (c to : ℕ) → to ≤ c → those_from test c (to - c) ≡ []
unfolding those_from
those_end test c to h = let e : to - c ≡ 0 = omega arith in rw e

pub root_turn : (rows : List (List ℕ)) (w k n : ℕ) → 0 < k → to_root rows w k n ≡ n ∷ cond (eqb n 0) [] (to_root rows w (k - 1) (word rows n w))
unfolding to_root
root_turn rows w zero n h = absurd (omega arith)
root_turn rows w (suc k) n h = let e : suc k - 1 ≡ k = omega arith in rw e
