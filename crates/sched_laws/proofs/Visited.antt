-- A CPU THAT WAS PUT ON A NODE IS VISITED, so that a search of the whole tree finds a CPU.
use Prim.Native.Nat.{ℕ, zero, suc}
use Rattle.std.specs.Prelude.{◌≡◌, refl, ◌≢◌, true, List, [], ◌∷◌, ◌++◌, eqb, Some}
use Rattle.std.proofs.Common.{◌∙◌, arith}
use Rattle.std.proofs.lemmas.Bool.{false≢true}
use borrow.Author.Tests.{eqb-true, eqb-false, eq-eqb}
use Rattle.rules.specs.Line.{has}
use Rattle.rules.proofs.Laws.Line.{both, has_left, has_right}
use Rattle.rules.specs.State.{Limits, Topology, join_all}
use Rattle.rules.specs.Topology.{nr_nodes, upward, above, on_node, cpus_of, visited}
use Rattle.represents.proofs.Laws.NumberLists.{has_below}
use Rattle.represents.specs.Topology.{met_first, TopologySound}
use Rattle.represents.proofs.Laws.Order.{leaf_list, visited_met}
use Rattle.represents.proofs.Laws.Topology.{holds_has}

has_joined : (f : ℕ → List ℕ) (l : List ℕ) (m x : ℕ) → has m l ≡ true → has x (f m) ≡ true → has x (join_all f l) ≡ true
unfolding join_all has
has_joined f [] m x h g = absurd (false≢true h)
has_joined f (y ∷ l) m x h g =
    both (eqb y m)
    (λ e. has_left x (f y) (join_all f l) (rw (eqb-true y m e) g))
    (λ e. has_right x (f y) (join_all f l) (has_joined f l m x (rw e at h) g))

not_nobody : (x : ℕ) (l : List ℕ) → has x l ≡ true → l ≢ []
unfolding has
not_nobody x [] h e = false≢true h
not_nobody x (y ∷ l) h e = let z : ◌≡◌ {A = ℕ} 0 1 = cc in omega arith

module _ (limits : Limits) (t : Topology) (sound : TopologySound limits t) (c m : ℕ) (put_on : t.placed c ≡ Some m) where
  itself : (k : ℕ) → has m (upward limits t k m) ≡ true
  unfolding upward has
  itself zero = rw (eq-eqb m m refl)
  itself (suc k) = rw (eq-eqb m m refl)

  on_itself : on_node limits t (t.placed c) m ≡ true
  unfolding on_node above
  on_itself = rw put_on (holds_has limits t m _ ∙ itself (nr_nodes limits t))

  of_leaf : has c (leaf_list limits t m) ≡ true
  unfolding leaf_list cpus_of
  of_leaf = rw (sound.placed_there c m put_on).1.1 (has_below limits.cpus (λ d. on_node limits t (t.placed d) m) c (sound.placed_there c m put_on).0 on_itself)

  met_it : has m (met_first limits t ++ (0 ∷ [])) ≡ true
  unfolding has
  met_it =
      both (eqb m 0)
      (λ e. has_right m (met_first limits t) (0 ∷ []) (unfold has in rw (eqb-true m 0 e)))
      (λ e. let n : m ≡ 0 → ⊥ = eqb-false m 0 e in has_left m (met_first limits t) (0 ∷ []) (sound.all_met m (omega arith) (sound.placed_there c m put_on).1.0))

  pub visited_placed : visited limits t ≢ []
  visited_placed = not_nobody c (visited limits t) (rw (visited_met limits t) (has_joined (leaf_list limits t) _ m c met_it of_leaf))
