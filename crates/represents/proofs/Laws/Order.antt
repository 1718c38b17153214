-- The order in which a search meets the nodes: each after its children. What a new node does to it.
use Prim.Native.Nat.{ℕ, zero, suc, ◌-◌, ◌≤◌, ◌<◌}
use Rattle.std.specs.Prelude.{◌≡◌, Bool, ◌||◌, ◌&&◌}
use Rattle.std.proofs.Math.Path.{refl, sym, ap}
use Rattle.std.proofs.Common.{◌∙◌}
use Rattle.std.proofs.Math.Bool.{true, false, cond}
use mathlib.Core.List.{List, [], ◌∷◌, ◌++◌, append_assoc, append-nil}
use native.Mathlib.Omega.{arith}
use Rattle.std.proofs.Math.Dec.{eqb, ltb}
use Rattle.std.proofs.Math.ListN.{length-append, get_or-append}
use Rattle.std.proofs.Math.Seq.{get_or-append_seam}
use borrow.Author.Tests.{eqb-true, eqb-false, eq-eqb, ne_eqb, lt-ltb, ltb-true}
use Rattle.std.specs.Cmp.{first_so, second_so}
use Rattle.rules.specs.Line.{has, Distinct}
use Rattle.rules.proofs.Laws.Line.{both, comes_distinct, has_append}
use Rattle.rules.specs.State.{Limits, Node, Topology, those_below, join_all}
use Rattle.rules.specs.Topology.{nr_nodes, parent_of, children, no_nodes, leaf, cpus_of, visits, visited}
use Rattle.rules.specs.Commands.{with_node}
use Rattle.represents.proofs.Laws.NumberLists.{below_same, below_none, below_has, join_append, join_join, join_same, ins, ins_append, ins_join, ins_none, has_ins, distinct_ins}
use Rattle.represents.specs.Topology.{met, met_first}

one_ins : (n p m : ℕ) → ins n p (m ∷ []) ≡ cond (eqb p m) (n ∷ []) [] ++ (m ∷ [])
unfolding ins
one_ins n p m =
    both (eqb m p) (λ e. rw (e, eq-eqb p m (sym (eqb-true m p e)))) (λ e. rw (e, ne_eqb p m (λ r. eqb-false m p e (sym r))))

module _ (limits : Limits) (t : Topology) where
  unfoldable pub leaf_list : ℕ → List ℕ
  leaf_list n = cond (leaf limits t n) (cpus_of limits t n) []

  branches : (n : ℕ) (l : List ℕ) (f : ℕ → List ℕ) → cond (no_nodes limits t l) (cpus_of limits t n) (join_all f l) ≡ join_all f l ++ (cond (no_nodes limits t l) (cpus_of limits t n) [] ++ [])
  unfolding no_nodes join_all
  branches n [] f = sym (append-nil (cpus_of limits t n))
  branches n (x ∷ l) f = sym (append-nil (f x ++ join_all f l))

  visits_split : (k n : ℕ) → visits limits t (suc k) n ≡ join_all (visits limits t k) (children limits t n) ++ (leaf_list n ++ [])
  unfolding visits leaf leaf_list
  visits_split k n = branches n (children limits t n) (visits limits t k)

  -- a search meets the CPUs of the leaves in this order
  pub visits_met : (k n : ℕ) → visits limits t k n ≡ join_all leaf_list (met (children limits t) k n)
  unfolding met join_all
  visits_met zero n = unfold visits in refl
  visits_met (suc k) n =
      visits_split k n ∙ (λ i. join_all (λ x. visits_met k x i) (children limits t n) ++ (leaf_list n ++ []))
      ∙ sym (join_append leaf_list (join_all (met (children limits t) k) (children limits t n)) (n ∷ []) ∙ rw (join_join leaf_list (met (children limits t) k) (children limits t n)))

  pub visited_met : visited limits t ≡ join_all leaf_list (met_first limits t ++ (0 ∷ []))
  unfolding visited met_first met
  visited_met = visits_met (suc (nr_nodes limits t)) 0

-- ---- a new last child of p

module _ (limits : Limits) (t : Topology) (p k : ℕ) where
  abbrev t' : Topology
  t' = with_node t p k

  abbrev new : ℕ
  new = nr_nodes limits t

  pub nr_grown : nr_nodes limits t' ≡ suc new
  unfolding nr_nodes with_node
  nr_grown = length-append t.nodes _ ∙ omega arith

  pub parent_old : (m : ℕ) → m < new → parent_of limits t' m ≡ parent_of limits t m
  unfolding parent_of with_node nr_nodes
  parent_old m h = ap (λ (n : Node). n.parent) (get_or-append t.nodes _ (record { parent = 0; type = 0 }) m h)

  pub parent_new : parent_of limits t' new ≡ p
  unfolding parent_of with_node nr_nodes
  parent_new = ap (λ (n : Node). n.parent) (get_or-append_seam t.nodes (record { parent = p; type = k }) [] (record { parent = 0; type = 0 }))

  module _ (root : 0 < new) where
    pub children_grown : (m : ℕ) → children limits t' m ≡ children limits t m ++ cond (eqb p m) (new ∷ []) []
    unfolding children those_below
    children_grown m =
        rw (nr_grown, parent_new, lt-ltb 0 new root)
        (ap (λ (l : List ℕ). l ++ cond (eqb p m) (new ∷ []) [])
        (below_same new (λ x. ltb 0 x && eqb (parent_of limits t' x) m) (λ x. ltb 0 x && eqb (parent_of limits t x) m) (λ x h. rw (parent_old x h))))

    module _ (parents : (m : ℕ) → 0 < m → m < new → parent_of limits t m < m) (p_there : p < new) where
      -- a child is numbered after its parent
      pub children_after : (m x : ℕ) → has x (children limits t m) ≡ true → (m < x) × (x < new)
      unfolding children
      children_after m x h =
          let a : (x < new) × ((ltb 0 x && eqb (parent_of limits t x) m) ≡ true) = below_has new _ x h in
          let e : parent_of limits t x ≡ m = eqb-true _ m (second_so (ltb 0 x) _ a.1) in
          (omega (arith, parents x (ltb-true 0 x (first_so (ltb 0 x) _ a.1)) a.0), a.0)

      pub children_none : children limits t new ≡ []
      unfolding children
      children_none = below_none new _ (λ x h. both (ltb 0 x) (λ e. rw e (ne_eqb _ new (λ r. let a : parent_of limits t x ≡ new = r in omega (arith, parents x (ltb-true 0 x e) h)))) (λ e. rw e))

      met_new : (j : ℕ) → met (children limits t') (suc j) new ≡ new ∷ []
      unfolding met
      met_new j = rw (children_grown new, children_none, ne_eqb p new (λ r. let a : p ≡ new = r in omega arith)) (unfold join_all in refl)

      below_grown : (j m : ℕ) → ((x : ℕ) → m < x → x < new → met (children limits t') (suc j) x ≡ ins new p (met (children limits t) j x))
          → join_all (met (children limits t') (suc j)) (children limits t' m) ≡ ins new p (join_all (met (children limits t) j) (children limits t m)) ++ cond (eqb p m) (new ∷ []) []
      below_grown j m ih =
          rw (
            children_grown m,
            join_append (met (children limits t') (suc j)) (children limits t m) (cond (eqb p m) (new ∷ []) []),
            join_same (met (children limits t') (suc j)) (λ x. ins new p (met (children limits t) j x)) (children limits t m)
                (λ x h. let a : (m < x) × (x < new) = children_after m x h in ih x a.0 a.1),
            ins_join new p (met (children limits t) j) (children limits t m),
          )
          (ap (λ (l : List ℕ). join_all (λ x. ins new p (met (children limits t) j x)) (children limits t m) ++ l)
          (both (eqb p m) (λ e. rw e (unfold join_all in rw (met_new j))) (λ e. rw e (unfold join_all in refl))))

      met_grown : (j m : ℕ) → m < new → new - m ≤ j → met (children limits t') (suc j) m ≡ ins new p (met (children limits t) j m)
      unfolding met
      met_grown zero m h e = absurd (omega arith)
      met_grown (suc j) m h e =
          ap (λ (l : List ℕ). l ++ (m ∷ [])) (below_grown j m (λ x a b. met_grown j x b (omega arith)))
          ∙ append_assoc (ins new p (join_all (met (children limits t) j) (children limits t m))) (cond (eqb p m) (new ∷ []) []) (m ∷ [])
          ∙ sym (ins_append new p (join_all (met (children limits t) j) (children limits t m)) (m ∷ []) ∙ ap (λ (l : List ℕ). ins new p (join_all (met (children limits t) j) (children limits t m)) ++ l) (one_ins new p m))

      pub first_grown : met_first limits t' ≡ ins new p (met_first limits t) ++ cond (eqb p 0) (new ∷ []) []
      unfolding met_first
      first_grown = rw nr_grown (below_grown new 0 (λ x a b. met_grown new x b (omega arith)))

      -- who is met
      pub has_grown : Distinct (met_first limits t) → has 0 (met_first limits t) ≡ false → ((x : ℕ) → 0 < x → x < new → has x (met_first limits t) ≡ true)
          → (x : ℕ) → has x (met_first limits t') ≡ (has x (met_first limits t) || eqb new x)
      has_grown d z a x =
          rw (first_grown, has_append x (ins new p (met_first limits t)) (cond (eqb p 0) (new ∷ []) []), has_ins new p x (met_first limits t))
          (both (eqb p 0)
          (λ e. rw (e, eqb-true p 0 e, z) (unfold has in bools (has x (met_first limits t)) (eqb new x)))
          (λ e. rw (e, a p (let n : p ≡ 0 → ⊥ = eqb-false p 0 e in omega arith) p_there) (unfold has in bools_2 (has x (met_first limits t)) (eqb new x))))
        where
          bools : (b c : Bool) → ((b || (c && false)) || (c || false)) ≡ (b || c)
          bools true c = refl
          bools false true = refl
          bools false false = refl

          bools_2 : (b c : Bool) → ((b || (c && true)) || false) ≡ (b || c)
          bools_2 true c = refl
          bools_2 false true = refl
          bools_2 false false = refl

      pub distinct_grown : Distinct (met_first limits t) → has 0 (met_first limits t) ≡ false → has new (met_first limits t) ≡ false → Distinct (met_first limits t')
      distinct_grown d z f =
          rw first_grown
          (both (eqb p 0)
          (λ e. rw (e, eqb-true p 0 e, ins_none new 0 (met_first limits t) z)
          (comes_distinct (record { front = met_first limits t; back = []; before = sym (append-nil (met_first limits t)); after = refl }) f d))
          (λ e. rw (e, append-nil (ins new p (met_first limits t))) (distinct_ins new p (met_first limits t) d f)))
