-- What the words of the nodes must be to be a topology of the rules; the orders in which they are walked are then those of the rules.
use Prim.Native.Nat.{ℕ, zero, suc, ◌-◌, ◌≤◌, ◌<◌}
use Rattle.std.specs.Prelude.{◌≡◌, Bool, false, ◌||◌, ◌&&◌, length, Option, None, Some}
use Rattle.std.proofs.Math.Path.{refl, sym, ap}
use Rattle.std.proofs.Common.{◌∙◌, arith, length-append}
use Rattle.std.proofs.Math.Bool.{true, true≢false}
use Rattle.std.proofs.lemmas.Bool.{false≢true}
use mathlib.Core.List.{List, [], ◌∷◌, ◌++◌, append-nil}
use Rattle.std.proofs.Math.Dec.{eqb, ltb}
use borrow.Author.Tests.{eqb-true, eqb-false, eq-eqb, ne_eqb, lt-ltb, ltb-true, ltb-false}
use Rattle.rules.specs.Line.{has, Distinct}
use Rattle.rules.proofs.Laws.Line.{both, comes_distinct, distinct_length, has_append}
use Rattle.rules.specs.State.{Limits, Topology, join_all, any_below, is_number}
use Rattle.rules.specs.Topology.{nr_nodes, parent_of, children, no_nodes, leaf, upward, above, holds, on_node, cpus_of, visited, nearest_from}
use Rattle.topology.specs.Words.{word}
use Rattle.topology.specs.Node.{parent, next, prev, first, end, lesser, has_cpus, contains_at, first_of, end_of}
use Rattle.topology.specs.Walk.{cpus_at, leaf_cpus, to_root, visited_at, nearest_at}
use Rattle.represents.proofs.Laws.NumberLists.{those_within, below_same, has_below, any_true, any_none, join_same}
use Rattle.rules.proofs.Laws.Places.{is_some_number}
use Rattle.represents.proofs.Laws.Lists.{below_of}
use Rattle.represents.proofs.Laws.Ring.{linked_walk}
use Rattle.represents.specs.Topology.{met_first, TopologySound}
use Rattle.represents.proofs.Laws.Order.{leaf_list, visited_met}
use Rattle.represents.specs.Topology.{TopologyRep}

-- ---- general

pub lesser_most : (a b : ℕ) → lesser a b ≤ b
unfolding lesser
lesser_most a b = both (ltb a b) (λ e. rw e (omega (arith, ltb-true a b e))) (λ e. rw e (omega arith))

below_lesser : (c a b : ℕ) → c < a → c < b → c < lesser a b
unfolding lesser
below_lesser c a b h l = both (ltb a b) (λ e. rw e h) (λ e. rw e l)

only_one : (y x : ℕ) → has x (y ∷ []) ≡ true → y ≡ x
unfolding has
only_one y x g = both (eqb y x) (λ q. eqb-true y x q) (λ q. absurd (false≢true (rw q at g)))

-- ---- the way up to the root

pub holds_has : (limits : Limits) (t : Topology) (n : ℕ) (l : List ℕ) → holds limits t n l ≡ has n l
unfolding holds has
holds_has limits t n [] = refl
holds_has limits t n (m ∷ l) = ap (λ (b : Bool). eqb m n || b) (holds_has limits t n l)

module _ (limits : Limits) (t : Topology) (sound : TopologySound limits t) where
  -- more steps than the number of the node change nothing
  pub up_enough : (k m : ℕ) → m ≤ k → m < nr_nodes limits t → upward limits t (suc k) m ≡ upward limits t k m
  unfolding upward
  up_enough zero zero h l = refl
  up_enough zero (suc m) h l = absurd (omega arith)
  up_enough (suc k) m h l =
      ap (λ (r : List ℕ). m ∷ r)
      (both (eqb m 0) (λ e. rw e)
      (λ e.
      let z : m ≡ 0 → ⊥ = eqb-false m 0 e in
      let b : parent_of limits t m < m = sound.parents m (omega arith) l in
      rw e (up_enough k (parent_of limits t m) (omega arith) (omega arith))))

  -- who is on the way is numbered at most as the node itself
  pub up_within : (k m x : ℕ) → m < nr_nodes limits t → has x (upward limits t k m) ≡ true → x ≤ m
  unfolding upward has
  up_within zero m x l h = both (eqb m x) (λ e. omega (arith, eqb-true m x e)) (λ e. absurd (false≢true (rw e at h)))
  up_within (suc k) m x l h =
      both (eqb m x) (λ e. omega (arith, eqb-true m x e))
      (λ e. both (eqb m 0) (λ z. absurd (false≢true (rw (e, z) at h)))
      (λ z.
      let y : m ≡ 0 → ⊥ = eqb-false m 0 z in
      let b : parent_of limits t m < m = sound.parents m (omega arith) l in
      let i : x ≤ parent_of limits t m = up_within k (parent_of limits t m) x (omega arith) (rw (e, z) at h) in
      omega arith))

  -- a leaf is nobody's parent
  nobody_in : (l : List ℕ) (x : ℕ) → no_nodes limits t l ≡ true → has x l ≡ false
  unfolding no_nodes has
  nobody_in [] x e = refl
  nobody_in (y ∷ l) x e = absurd (false≢true e)

  leaf_childless : (m y : ℕ) → leaf limits t m ≡ true → 0 < y → y < nr_nodes limits t → parent_of limits t y ≡ m → ⊥
  unfolding leaf children
  leaf_childless m y e h l r =
      true≢false (sym (has_below (nr_nodes limits t) (λ x. ltb 0 x && eqb (parent_of limits t x) m) y l (rw (lt-ltb 0 y h, eq-eqb (parent_of limits t y) m r))) ∙ nobody_in (children limits t m) y e)

  -- a leaf is on the way of itself alone
  up_leaf : (k m y : ℕ) → leaf limits t m ≡ true → y < nr_nodes limits t → has m (upward limits t k y) ≡ eqb y m
  unfolding upward has
  up_leaf zero m y e l = both (eqb y m) (λ q. rw q) (λ q. rw q)
  up_leaf (suc k) m y e l =
      both (eqb y m) (λ q. rw q)
      (λ q. rw q (both (eqb y 0) (λ z. rw z)
      (λ z.
      let n : y ≡ 0 → ⊥ = eqb-false y 0 z in
      let b : parent_of limits t y < y = sound.parents y (omega arith) l in
      rw (z, up_leaf k m (parent_of limits t y) e (omega arith)) (ne_eqb _ m (leaf_childless m y e (omega arith) l)))))

  pub on_leaf : (m : ℕ) → leaf limits t m ≡ true → (o : Option ℕ) → ((y : ℕ) → o ≡ Some y → y < nr_nodes limits t) → on_node limits t o m ≡ is_number m o
  unfolding on_node is_number above
  on_leaf m e None h = refl
  on_leaf m e (Some y) h = holds_has limits t m (upward limits t (nr_nodes limits t) y) ∙ up_leaf (nr_nodes limits t) m y e (h y refl)

-- ---- a tree in words is walked as the rules walk the topology

module _ (limits : Limits) (rows : List (List ℕ)) (t : Topology) (tree : TopologyRep limits rows t) where
  -- THE CPUS OF A NODE
  pub cpus_same : (n : ℕ) → n < nr_nodes limits t → cpus_at rows limits.cpus n ≡ cpus_of limits t n
  unfolding cpus_at cpus_of first_of end_of
  cpus_same n h =
      sym (those_within limits.cpus (word rows n first) (lesser (word rows n end) limits.cpus) (contains_at rows n) (lesser_most (word rows n end) limits.cpus)
      (λ c l e. let r : (word rows n first ≤ c) × (c < word rows n end) = (tree.range_is n h).inside c l e in (r.0, below_lesser c (word rows n end) limits.cpus r.1 l)))
      ∙ below_same limits.cpus (contains_at rows n) (λ c. on_node limits t (t.placed c) n) (λ c l. tree.set_is n h c l)

  -- a loop that has enough turns goes the rules' way up
  root_up : (k j m : ℕ) → m < k → m ≤ j → m < nr_nodes limits t → to_root rows parent k m ≡ upward limits t j m
  unfolding to_root upward
  root_up zero j m h g l = absurd (omega arith)
  root_up (suc k) zero zero h g l = refl
  root_up (suc k) zero (suc m) h g l = absurd (omega arith)
  root_up (suc k) (suc j) m h g l =
      ap (λ (r : List ℕ). m ∷ r)
      (both (eqb m 0) (λ e. rw e)
      (λ e.
      let z : m ≡ 0 → ⊥ = eqb-false m 0 e in
      let b : parent_of limits t m < m = tree.sound.parents m (omega arith) l in
      rw (e, tree.parent_is m (omega arith) l) (root_up k j (parent_of limits t m) (omega arith) (omega arith) (omega arith))))

  pub above_same : (m : ℕ) → m < nr_nodes limits t → to_root rows parent (length rows) m ≡ above limits t m
  unfolding above
  above_same m h = root_up (length rows) (nr_nodes limits t) m (omega (arith, tree.room)) (omega arith) h

  -- THE ORDER IN WHICH STEALING LOOKS
  pub nearest_same : (m : ℕ) → m < nr_nodes limits t → nearest_at rows limits.cpus m ≡ nearest_from limits t (Some m)
  unfolding nearest_at nearest_from above
  nearest_same m h =
      ap (join_all (cpus_at rows limits.cpus)) (above_same m h)
      ∙ join_same (cpus_at rows limits.cpus) (cpus_of limits t) (upward limits t (nr_nodes limits t) m)
      (λ x e. cpus_same x (omega (arith, up_within limits t tree.sound (nr_nodes limits t) m x h e)))

  leaf_same : (n : ℕ) → n < nr_nodes limits t → leaf_cpus rows limits.cpus n ≡ leaf_list limits t n
  unfolding leaf_cpus leaf_list
  leaf_same n h = rw (tree.children_is n h, cpus_same n h) (both (leaf limits t n) (λ e. rw e) (λ e. rw e))

  all_within : (x : ℕ) → has x (met_first limits t ++ (0 ∷ [])) ≡ true → x < nr_nodes limits t
  all_within x h =
      both (has x (met_first limits t)) (λ e. tree.sound.within x e)
      (λ e.
      let g : has x (0 ∷ []) ≡ true = rw e at (sym (has_append x (met_first limits t) (0 ∷ [])) ∙ h) in
      omega (arith, tree.sound.root, only_one 0 x g))

  -- the root comes last, so the loop has enough turns
  all_room : length (met_first limits t) < length rows
  all_room =
      let d : Distinct (met_first limits t ++ (0 ∷ [])) =
      comes_distinct (record { front = met_first limits t; back = []; before = sym (append-nil (met_first limits t)); after = refl }) tree.sound.no_root tree.sound.distinct in
      let b : length (met_first limits t ++ (0 ∷ [])) ≤ nr_nodes limits t = distinct_length (nr_nodes limits t) _ d (below_of (nr_nodes limits t) _ all_within) in
      omega (arith, length-append (met_first limits t) (0 ∷ []), tree.room)

  -- THE ORDER IN WHICH THE SEARCH VISITS
  pub visited_same : visited_at rows limits.cpus ≡ visited limits t
  unfolding visited_at
  visited_same =
      ap (join_all (leaf_cpus rows limits.cpus)) (linked_walk rows next (λ n. word rows n prev) (met_first limits t) 0 (length rows) tree.order_is tree.sound.no_root all_room)
      ∙ join_same (leaf_cpus rows limits.cpus) (leaf_list limits t) (met_first limits t ++ (0 ∷ [])) (λ x e. leaf_same x (all_within x e))
      ∙ sym (visited_met limits t)

  -- CPUS OF ITS OWN
  pub own_same : (n : ℕ) → n < nr_nodes limits t → has_cpus rows n ≡ any_below limits.cpus (λ c. is_number n (t.placed c))
  unfolding has_cpus
  own_same n h =
      let own : (c : ℕ) → leaf limits t n ≡ true → on_node limits t (t.placed c) n ≡ is_number n (t.placed c) =
      λ c e. on_leaf limits t tree.sound n e (t.placed c) (λ y q. (tree.sound.placed_there c y q).1.0) in
      both (leaf limits t n)
      (λ e. rw (tree.children_is n h, e)
      (both (ltb 0 (word rows n end))
      (λ p. let l : (word rows n end - 1 < limits.cpus) × (contains_at rows n (word rows n end - 1) ≡ true) = (tree.range_is n h).last (ltb-true 0 _ p) in
      rw p (sym (any_true limits.cpus (λ c. is_number n (t.placed c)) (word rows n end - 1) l.0 (sym (own _ e) ∙ sym (tree.set_is n h _ l.0) ∙ l.1))))
      (λ p. rw p (sym (any_none limits.cpus (λ c. is_number n (t.placed c))
      (λ c l. both (is_number n (t.placed c))
      (λ q. absurd (omega (arith, ltb-false 0 (word rows n end) p, ((tree.range_is n h).inside c l (tree.set_is n h c l ∙ own c e ∙ q)).1)))
      (λ q. q)))))))
      (λ e. rw (tree.children_is n h, e)
      (sym (any_none limits.cpus (λ c. is_number n (t.placed c))
      (λ c l. both (is_number n (t.placed c)) (λ q. absurd (true≢false (sym (tree.sound.placed_there c n (is_some_number n (t.placed c) q)).1.1 ∙ e))) (λ q. q)))))
