-- A CPU put on a leaf and all nodes above, and a CPU declared: the words are then the topology of the rules.
use Prim.Native.Nat.{ℕ, zero, suc, ◌+◌, ◌-◌, ◌/◌, ◌%◌, ◌≤◌, ◌<◌}
use Rattle.std.proofs.lemmas.Option.{same_Some}
use Rattle.std.specs.Prelude.{◌≡◌, Bool, ◌||◌, ◌&&◌, ltb, Option, None, Some}
use Rattle.std.proofs.Math.Path.{refl, sym, ap}
use Rattle.std.proofs.Common.{◌∙◌}
use Rattle.std.proofs.Math.Bool.{true, false, and-true, and-false, or-true, or-false}
use mathlib.Core.List.{List, [], ◌∷◌}
use native.Mathlib.Omega.{arith}
use Rattle.std.proofs.Math.Dec.{eqb}
use Rattle.std.proofs.Math.ListN.{length}
use borrow.Author.Tests.{eqb-true, eqb-false, eq-eqb, ne_eqb, lt-ltb, ltb-true, ltb-false}
use Rattle.rules.specs.Line.{has}
use Rattle.rules.proofs.Laws.Line.{both}
use Rattle.rules.specs.State.{at, Limits, Topology}
use Rattle.rules.specs.Topology.{nr_nodes, parent_of, children, no_nodes, leaf, upward, above, on_node}
use Rattle.rules.specs.Commands.{with_placed, with_cpu_declared}
use Rattle.topology.specs.CpuSet.{max_cpu_id, set_bit, set_same, set_other}
use Rattle.topology.specs.Words.{word, put_word, length_put}
use Rattle.topology.specs.Node.{parent, next, prev, first, end, sets, lesser, greater, has_children, contains_at, put_cpu, length_put_cpu, set_cpu_up, set_cpu}
use Rattle.topology.specs.Walk.{to_root}
use Rattle.represents.proofs.Laws.Ring.{linked_same}
use Rattle.represents.specs.Topology.{Sized}
use Rattle.represents.proofs.Laws.NodeRows.{put_same, put_other, put_elsewhere, sized_put}
use Rattle.represents.specs.Topology.{met_first, TopologySound}
use Rattle.represents.specs.Topology.{type_of, Ranged, TopologyRep}
use Rattle.represents.proofs.Laws.Topology.{holds_has, up_within, above_same, lesser_most}
use Rattle.represents.proofs.Laws.Grown.{contains_words, ranged_words}

-- ---- a CPU put on one node

lesser_left : (a b : ℕ) → lesser a b ≤ a
unfolding lesser
lesser_left a b = both (ltb a b) (λ e. rw e (omega arith)) (λ e. rw e (ltb-false a b e))

greater_left : (a b : ℕ) → a ≤ greater a b
unfolding greater
greater_left a b = both (ltb a b) (λ e. rw e (omega (arith, ltb-true a b e))) (λ e. rw e (omega arith))

greater_right : (a b : ℕ) → b ≤ greater a b
unfolding greater
greater_right a b = both (ltb a b) (λ e. rw e (omega arith)) (λ e. rw e (ltb-false a b e))

module _ (rows : List (List ℕ)) (n c : ℕ) (fits : c < max_cpu_id) where
  abbrev w : ℕ
  w = sets + c / 64

  abbrev rows₁ : List (List ℕ)
  rows₁ = put_word rows n w (set_bit (word rows n w) c)

  abbrev rows₂ : List (List ℕ)
  rows₂ = put_word rows₁ n first (lesser (word rows n first) c)

  abbrev rows₃ : List (List ℕ)
  rows₃ = put_word rows₂ n end (greater (word rows n end) (c + 1))

  is_put : put_cpu rows n c ≡ rows₃
  unfolding put_cpu
  is_put = rw (lt-ltb c max_cpu_id fits)

  in_set : w % 32 ≡ 16 + c / 64
  unfolding max_cpu_id
  in_set = omega arith

  -- a word that is neither in the set nor one of its ends
  pub put_else : (z u : ℕ) → u % 32 < 16 → (u % 32 ≡ 3 → ⊥) → (u % 32 ≡ 4 → ⊥) → word (put_cpu rows n c) z u ≡ word rows z u
  put_else z u a b d =
      rw is_put
      (put_elsewhere rows₂ n end _ z u d ∙ put_elsewhere rows₁ n first _ z u b ∙ put_elsewhere rows n w _ z u (λ r. let e : u % 32 ≡ w % 32 = r in omega (arith, in_set)))

  put_row : (z u : ℕ) → (z ≡ n → ⊥) → word (put_cpu rows n c) z u ≡ word rows z u
  put_row z u d = rw is_put (put_other rows₂ n end _ z u d ∙ put_other rows₁ n first _ z u d ∙ put_other rows n w _ z u d)

  module _ (sized : Sized rows) (there : n < length rows) where
    abbrev s₁ : Sized rows₁
    s₁ = sized_put rows n w (set_bit (word rows n w) c) sized

    abbrev s₂ : Sized rows₂
    s₂ = sized_put rows₁ n first (lesser (word rows n first) c) s₁

    pub put_sized : Sized (put_cpu rows n c)
    put_sized = rw is_put (sized_put rows₂ n end (greater (word rows n end) (c + 1)) s₂)

    put_first : word (put_cpu rows n c) n first ≡ lesser (word rows n first) c
    put_first = rw is_put (put_elsewhere rows₂ n end _ n first (eqb-false 3 4 refl) ∙ put_same rows₁ s₁ n (rw (length_put rows n w (set_bit (word rows n w) c)) there) first _)

    put_end : word (put_cpu rows n c) n end ≡ greater (word rows n end) (c + 1)
    put_end = rw is_put (put_same rows₂ s₂ n (rw (length_put rows₁ n first (lesser (word rows n first) c), length_put rows n w (set_bit (word rows n w) c)) there) end _)

    put_set : word (put_cpu rows n c) n w ≡ set_bit (word rows n w) c
    put_set =
        rw is_put
        (put_elsewhere rows₂ n end _ n w (λ r. let e : w % 32 ≡ 4 = r in omega (arith, in_set)) ∙ put_elsewhere rows₁ n first _ n w (λ r. let e : w % 32 ≡ 3 = r in omega (arith, in_set))
        ∙ put_same rows sized n there w _)

    put_set_else : (u : ℕ) → 16 ≤ u % 32 → (u % 32 ≡ w % 32 → ⊥) → word (put_cpu rows n c) n u ≡ word rows n u
    put_set_else u a d = rw is_put (put_elsewhere rows₂ n end _ n u (λ r. let e : u % 32 ≡ 4 = r in omega arith) ∙ put_elsewhere rows₁ n first _ n u (λ r. let e : u % 32 ≡ 3 = r in omega arith) ∙ put_elsewhere rows n w _ n u d)

    put_same_cpu : contains_at (put_cpu rows n c) n c ≡ true
    unfolding contains_at
    put_same_cpu = rw (lt-ltb c max_cpu_id fits, put_set) (set_same (word rows n w) c)

    put_other_cpu : (d : ℕ) → (c ≡ d → ⊥) → contains_at (put_cpu rows n c) n d ≡ contains_at rows n d
    unfolding contains_at max_cpu_id
    put_other_cpu d h =
        both (ltb d 1024)
        (λ l. rw l (both (eqb (d / 64) (c / 64))
        (λ e.
        let q : d / 64 ≡ c / 64 = eqb-true _ _ e in
        rw (q, put_set) (set_other (word rows n w) c d (λ r. let m : d % 64 ≡ c % 64 = r in h (omega arith))))
        (λ e.
        let i : d < 1024 = ltb-true d 1024 l in
        let q : d / 64 ≡ c / 64 → ⊥ = eqb-false _ _ e in
        rw (put_set_else (16 + d / 64) (omega arith) (λ r. let m : (16 + d / 64) % 32 ≡ w % 32 = r in q (omega (arith, in_set)))))))
        (λ l. rw l)

    -- the CPU is on the node now, and nothing else changed
    pub put_contains : (z d : ℕ) → contains_at (put_cpu rows n c) z d ≡ (contains_at rows z d || (eqb n z && eqb c d))
    put_contains z d =
        both (eqb n z)
        (λ e. rw (← eqb-true n z e, eq-eqb n n refl)
        (both (eqb c d) (λ f. rw (← eqb-true c d f, eq-eqb c c refl) (put_same_cpu ∙ sym (or-true (contains_at rows n c))))
        (λ f. rw f (put_other_cpu d (eqb-false c d f) ∙ sym (or-false (contains_at rows n d))))))
        (λ e. rw e (contains_words rows (put_cpu rows n c) z (λ u a b. put_row z u (λ r. eqb-false n z e (sym r))) d ∙ sym (or-false (contains_at rows z d))))

    ranged_here : (limit : ℕ) → c < limit → Ranged limit rows n → Ranged limit (put_cpu rows n c) n
    unfolding greater
    ranged_here limit l r = record {
      inside = λ x h e. rw (put_first, put_end)
          (both (contains_at rows n x)
          (λ q. let i : (word rows n first ≤ x) × (x < word rows n end) = r.inside x h q in
          (omega (arith, lesser_left (word rows n first) c, i.0), omega (arith, greater_left (word rows n end) (c + 1), i.1)))
          (λ q.
          let g : eqb c x ≡ true = rw (q, eq-eqb n n refl) at (sym (put_contains n x) ∙ e) in
          let k : c ≡ x = eqb-true c x g in
          (omega (arith, lesser_most (word rows n first) c), omega (arith, greater_right (word rows n end) (c + 1)))));
      last = λ h. rw put_end
          (both (ltb (word rows n end) (c + 1))
          (λ q. let m : c + 1 - 1 ≡ c = omega arith in rw (q, m) (l, put_same_cpu))
          (λ q.
          let m : c + 1 ≤ word rows n end = ltb-false _ _ q in
          let i : (word rows n end - 1 < limit) × (contains_at rows n (word rows n end - 1) ≡ true) = r.last (omega arith) in
          rw q (i.0, put_contains n (word rows n end - 1) ∙ rw i.1)));
    }

    pub put_ranged : (limit : ℕ) → c < limit → (z : ℕ) → Ranged limit rows z → Ranged limit (put_cpu rows n c) z
    put_ranged limit l z r =
        both (eqb z n) (λ e. rw (eqb-true z n e) (ranged_here limit l (rw (eqb-true z n e) at r)))
        (λ e. let d : z ≡ n → ⊥ = eqb-false z n e in
        ranged_words limit rows (put_cpu rows n c) z (λ u a b. put_row z u d) (put_row z first d) (put_row z end d) r)

-- ---- a CPU put on the nodes of a list

unfoldable put_all : ℕ → List ℕ → List (List ℕ) → List (List ℕ)
put_all c [] rows = rows
put_all c (n ∷ l) rows = put_all c l (put_cpu rows n c)

module _ (c : ℕ) (fits : c < max_cpu_id) where
  root_same : (rows rows' : List (List ℕ)) → ((z : ℕ) → word rows' z parent ≡ word rows z parent) → (k n : ℕ) → to_root rows' parent k n ≡ to_root rows parent k n
  unfolding to_root
  root_same rows rows' h zero n = refl
  root_same rows rows' h (suc k) n = rw (h n, root_same rows rows' h k (word rows n parent))

  parent_kept : (rows : List (List ℕ)) (n z : ℕ) → word (put_cpu rows n c) z parent ≡ word rows z parent
  parent_kept rows n z = put_else rows n c fits z parent (omega arith) (eqb-false 1 3 refl) (eqb-false 1 4 refl)

  -- the way up puts it on the nodes that it meets
  up_all : (k : ℕ) (rows : List (List ℕ)) (n : ℕ) → set_cpu_up k rows n c ≡ put_all c (to_root rows parent k n) rows
  unfolding set_cpu_up put_all to_root
  up_all zero rows n = refl
  up_all (suc k) rows n =
      both (eqb n 0) (λ e. rw e)
      (λ e. rw (e, parent_kept rows n n, up_all k (put_cpu rows n c) (word rows n parent), root_same rows (put_cpu rows n c) (parent_kept rows n) k (word rows n parent)))

  all_else : (l : List ℕ) (rows : List (List ℕ)) (z u : ℕ) → u % 32 < 16 → (u % 32 ≡ 3 → ⊥) → (u % 32 ≡ 4 → ⊥) → word (put_all c l rows) z u ≡ word rows z u
  unfolding put_all
  all_else [] rows z u a b d = refl
  all_else (n ∷ l) rows z u a b d = all_else l (put_cpu rows n c) z u a b d ∙ put_else rows n c fits z u a b d

  all_length : (l : List ℕ) (rows : List (List ℕ)) → length (put_all c l rows) ≡ length rows
  unfolding put_all
  all_length [] rows = refl
  all_length (n ∷ l) rows = all_length l (put_cpu rows n c) ∙ length_put_cpu rows n c

  -- what the nodes of the list keep, where each is there
  module _ (limit : ℕ) (below : c < limit) where
    pub record Put (l : List ℕ) (rows rows' : List (List ℕ)) : Type 0 where
      pub sized : Sized rows'
      pub contains : (z d : ℕ) → contains_at rows' z d ≡ (contains_at rows z d || (has z l && eqb c d))
      pub ranged : (z : ℕ) → Ranged limit rows z → Ranged limit rows' z

    all_put : (l : List ℕ) (rows : List (List ℕ)) → Sized rows → ((x : ℕ) → has x l ≡ true → x < length rows) → Put l rows (put_all c l rows)
    unfolding put_all has
    all_put [] rows s h = record { sized = s; contains = λ z d. sym (or-false (contains_at rows z d)); ranged = λ z r. r }
    all_put (n ∷ l) rows s h =
        let n_there : n < length rows = h n (rw (eq-eqb n n refl)) in
        let i : Put l (put_cpu rows n c) (put_all c l (put_cpu rows n c)) =
        all_put l (put_cpu rows n c) (put_sized rows n c fits s n_there)
        (λ x e. rw (length_put_cpu rows n c) (h x (rw e (or-true (eqb n x))))) in
        record {
          sized = i.sized;
          contains = λ z d. i.contains z d ∙ rw (put_contains rows n c fits s n_there z d) (bools (contains_at rows z d) (eqb n z) (has z l) (eqb c d));
          ranged = λ z r. i.ranged z (put_ranged rows n c fits s n_there limit below z r);
        }
      where
        bools : (a b e f : Bool) → ((a || (b && f)) || (e && f)) ≡ (a || ((b || e) && f))
        bools true b e f = refl
        bools false true e true = refl
        bools false true true false = refl
        bools false true false false = refl
        bools false false e f = refl

-- ---- topologies with the same nodes

module _ (limits : Limits) (t : Topology) (d : ℕ → Bool) (pl : ℕ → Option ℕ) where
  abbrev alike : Topology
  alike = record { nodes = t.nodes; declared = d; placed = pl }

  none_any : (l : List ℕ) → no_nodes limits alike l ≡ no_nodes limits t l
  unfolding no_nodes
  none_any [] = refl
  none_any (x ∷ l) = refl

  leaf_any : (n : ℕ) → leaf limits alike n ≡ leaf limits t n
  unfolding leaf children parent_of nr_nodes
  leaf_any n = none_any (children limits t n)

  up_any : (k m : ℕ) → upward limits alike k m ≡ upward limits t k m
  unfolding upward parent_of
  up_any zero m = refl
  up_any (suc k) m = rw (up_any k (parent_of limits t m))

  on_any : (o : Option ℕ) (n : ℕ) → on_node limits alike o n ≡ on_node limits t o n
  unfolding on_node above nr_nodes
  on_any None n = refl
  on_any (Some m) n =
      holds_has limits alike n (upward limits alike (nr_nodes limits t) m) ∙ ap (has n) (up_any (nr_nodes limits t) m) ∙ sym (holds_has limits t n (upward limits t (nr_nodes limits t) m))

  sound_any : TopologySound limits t → ((c m : ℕ) → pl c ≡ Some m → (c < limits.cpus) × ((m < nr_nodes limits t) × (leaf limits t m ≡ true))) → TopologySound limits alike
  unfolding nr_nodes parent_of met_first children
  sound_any s h = record {
    root = s.root;
    parents = s.parents;
    placed_there = λ c m e. let b : (c < limits.cpus) × ((m < nr_nodes limits t) × (leaf limits t m ≡ true)) = h c m e in (b.0, (b.1.0, leaf_any m ∙ b.1.1));
    distinct = s.distinct;
    no_root = s.no_root;
    within = s.within;
    all_met = s.all_met;
  }

  -- words that differ from a tree's in the sets alone
  tree_any : (rows rows' : List (List ℕ)) → TopologyRep limits rows t → ((c m : ℕ) → pl c ≡ Some m → (c < limits.cpus) × ((m < nr_nodes limits t) × (leaf limits t m ≡ true)))
      → Sized rows' → length rows' ≡ length rows → ((z u : ℕ) → u % 32 < 16 → (u % 32 ≡ 3 → ⊥) → (u % 32 ≡ 4 → ⊥) → word rows' z u ≡ word rows z u)
      → ((n : ℕ) → n < nr_nodes limits t → (c : ℕ) → c < limits.cpus → contains_at rows' n c ≡ on_node limits t (pl c) n) → ((n : ℕ) → n < nr_nodes limits t → Ranged limits.cpus rows' n)
      → TopologyRep limits rows' alike
  unfolding nr_nodes parent_of met_first children type_of has_children
  tree_any rows rows' tree h s l k set_now range_now = record {
    sound = sound_any tree.sound h;
    sized = s;
    room = rw l tree.room;
    cpus_fit = tree.cpus_fit;
    parent_is = λ n a b. k n 1 (omega arith) (eqb-false 1 3 refl) (eqb-false 1 4 refl) ∙ tree.parent_is n a b;
    type_is = λ n b. k n 0 (omega arith) (eqb-false 0 3 refl) (eqb-false 0 4 refl) ∙ tree.type_is n b;
    children_is = λ n b. rw (k n 2 (omega arith) (eqb-false 2 3 refl) (eqb-false 2 4 refl), leaf_any n) (tree.children_is n b);
    order_is = linked_same (λ z. word rows z next) (λ z. word rows z prev) (λ z. word rows' z next) (λ z. word rows' z prev)
        (λ z. k z 5 (omega arith) (eqb-false 5 3 refl) (eqb-false 5 4 refl))
        (λ z. k z 6 (omega arith) (eqb-false 6 3 refl) (eqb-false 6 4 refl)) (met_first limits t) 0 0 tree.order_is;
    set_is = λ n b c m. set_now n b c m ∙ sym (on_any (pl c) n);
    range_is = range_now;
  }

-- A CPU DECLARED
pub tree_declared : (limits : Limits) (rows : List (List ℕ)) (t : Topology) (c : ℕ) → TopologyRep limits rows t → TopologyRep limits rows (with_cpu_declared t c)
unfolding with_cpu_declared
tree_declared limits rows t c tree =
    tree_any limits t (at t.declared c true) t.placed rows rows tree tree.sound.placed_there tree.sized refl (λ z u a b d. refl) tree.set_is tree.range_is

-- A CPU PUT ON A LEAF AND ALL NODES ABOVE
module _ (limits : Limits) (rows : List (List ℕ)) (t : Topology) (tree : TopologyRep limits rows t) (m c : ℕ) (m_there : m < nr_nodes limits t) (m_leaf : leaf limits t m ≡ true)
    (c_fits : c < limits.cpus) (unplaced : t.placed c ≡ None) where
  c_small : c < max_cpu_id
  c_small = omega (arith, tree.cpus_fit)

  abbrev on : ℕ → Option ℕ
  on = at t.placed c (Some m)

  is_put_all : set_cpu rows m c ≡ put_all c (above limits t m) rows
  unfolding set_cpu
  is_put_all = up_all c c_small (length rows) rows m ∙ ap (λ (l : List ℕ). put_all c l rows) (above_same limits rows t tree m m_there)

  put : Put c c_small limits.cpus c_fits (above limits t m) rows (set_cpu rows m c)
  put =
      rw is_put_all
      (all_put c c_small limits.cpus c_fits (above limits t m) rows tree.sized
      (λ x e. omega (arith, tree.room, up_within limits t tree.sound (nr_nodes limits t) m x m_there (unfold above in e))))

  there_now : (d x : ℕ) → on d ≡ Some x → (d < limits.cpus) × ((x < nr_nodes limits t) × (leaf limits t x ≡ true))
  unfolding at
  there_now d x e =
      both (eqb d c)
      (λ q. let k : m ≡ x = same_Some m x (rw q at e) in (rw (eqb-true d c q) c_fits, (rw (← k) m_there, rw (← k) m_leaf)))
      (λ q. tree.sound.placed_there d x (rw q at e))

  set_now : (n : ℕ) → n < nr_nodes limits t → (d : ℕ) → d < limits.cpus → contains_at (set_cpu rows m c) n d ≡ on_node limits t (on d) n
  unfolding at on_node
  set_now n h d l =
      put.contains n d
      ∙ both (eqb d c)
      (λ q.
      let k : d ≡ c = eqb-true d c q in
      rw (k, eq-eqb c c refl, tree.set_is n h c c_fits, unplaced) (and-true (has n (above limits t m)) ∙ sym (holds_has limits t n (above limits t m))))
      (λ q.
      rw (q, ne_eqb c d (λ r. eqb-false d c q (sym r)), and-false (has n (above limits t m))) (or-false (contains_at rows n d) ∙ tree.set_is n h d l))

  pub tree_placed : TopologyRep limits (set_cpu rows m c) (with_placed t m c)
  unfolding with_placed
  tree_placed =
      tree_any limits t t.declared on rows (set_cpu rows m c) tree there_now put.sized (ap length is_put_all ∙ all_length c c_small (above limits t m) rows)
      (λ z u a b d. ap (λ (r : List (List ℕ)). word r z u) is_put_all ∙ all_else c c_small (above limits t m) rows z u a b d) set_now (λ n h. put.ranged n (tree.range_is n h))
