-- The root alone, and a new last child: the words are then the topology of the rules.
use Prim.Native.Nat.{ℕ, zero, suc, ◌+◌, ◌-◌, ◌/◌, ◌%◌, ◌^◌, ◌≤◌, ◌<◌}
use Rattle.std.proofs.Math.Path.{◌≡◌, refl, sym, ap}
use Rattle.std.proofs.Common.{◌∙◌, subst}
use Rattle.std.specs.Prelude.{true, false, ◌||◌, ◌&&◌, eqb, ltb, length, get_or, Option, None, Some}
use Rattle.std.proofs.Math.Bool.{not, true≢false, and-true, and-false, or-true}
use Rattle.std.proofs.lemmas.Bool.{false≢true}
use mathlib.Core.List.{List, [], ◌∷◌, ◌++◌, append-nil}
use native.Mathlib.Omega.{arith}
use Rattle.std.proofs.Math.Nat.{zero-div}
use Rattle.std.proofs.lemmas.List.{get_or-replicate}
use Rattle.std.proofs.Math.ListN.{length-set, get_or-append}
use Rattle.std.proofs.Math.Seq.{get_or-append_seam}
use borrow.Author.Tests.{eqb-true, eqb-false, eq-eqb, ne_eqb, ltb-true}
use Rattle.rules.specs.Line.{has, Distinct}
use Rattle.rules.proofs.Laws.Line.{both}
use Rattle.rules.specs.State.{Limits, Node, Topology, start, those_below, join_all, any_below, is_number}
use Rattle.rules.specs.Topology.{nr_nodes, parent_of, children, no_nodes, leaf, upward, above, on_node}
use Rattle.rules.specs.Commands.{with_node}
use Rattle.topology.specs.CpuSet.{max_cpu_id, bit}
use Rattle.topology.specs.Words.{word, width, put_word, length_put}
use Rattle.topology.specs.Node.{parent, level_type, children as children_word, next, prev, first, end, new_node, put_node, new_root, linked, add_child, has_children, contains_at}
use Rattle.represents.proofs.Laws.NumberLists.{any_true, ins, ins_none}
use Rattle.represents.specs.Grown.{grown}
use Rattle.represents.specs.Topology.{Ring}
use Rattle.represents.proofs.Laws.Ring.{linked_back, linked_back_end, linked_prev, linked_prev_end, linked_ins, linked_end}
use Rattle.represents.specs.Topology.{Sized}
use Rattle.represents.proofs.Laws.NodeRows.{put_same, put_elsewhere, sized_put, node_same, node_other, sized_node, put_past}
use Rattle.represents.specs.Topology.{met_first, TopologySound}
use Rattle.represents.proofs.Laws.Order.{nr_grown, parent_old, parent_new, children_grown, children_none, first_grown, has_grown, distinct_grown}
use Rattle.represents.specs.Topology.{type_of, Ranged, TopologyRep}
use Rattle.represents.proofs.Laws.Topology.{holds_has, up_enough, up_within}

-- ---- a new node

pub length_new : (type p a b : ℕ) → length (new_node type p a b) ≡ width
unfolding new_node
length_new type p a b = refl

-- it has no CPUs
pub new_past : (type p a b i : ℕ) → 7 ≤ i → i < width → get_or (new_node type p a b) i 0 ≡ 0
unfolding new_node
new_past type p a b i h l =
    let j : ℕ = i - 7 in
    let e : i ≡ suc (suc (suc (suc (suc (suc (suc j)))))) = omega arith in
    rw e (get_or-replicate 25 j 0 0 (omega arith))

no_bit : (c : ℕ) → bit 0 c ≡ false
unfolding bit
no_bit c = rw (zero-div (2 ^ (c % 64)))

module _ (rows : List (List ℕ)) (n type p a b : ℕ) (h : n < length rows) where
  abbrev made : List (List ℕ)
  made = put_node rows n (new_node type p a b)

  made_empty : (c : ℕ) → contains_at made n c ≡ false
  unfolding contains_at max_cpu_id
  made_empty c =
      both (ltb c 1024)
      (λ l. let i : c < 1024 = ltb-true c 1024 l in
      let e : (16 + c / 64) % 32 ≡ 16 + c / 64 = omega arith in
      rw (l, node_same rows n (new_node type p a b) (16 + c / 64) h, e, new_past type p a b (16 + c / 64) (omega arith) (omega arith)) (no_bit c))
      (λ l. rw l)

-- ---- contains and range read words 3, 4 and 16 to 31 of a row

pub contains_words : (rows rows' : List (List ℕ)) (n : ℕ) → ((w : ℕ) → 16 ≤ w → w < 32 → word rows' n w ≡ word rows n w) → (c : ℕ) → contains_at rows' n c ≡ contains_at rows n c
unfolding contains_at max_cpu_id
contains_words rows rows' n h c =
    both (ltb c 1024)
    (λ l. let i : c < 1024 = ltb-true c 1024 l in rw (l, h (16 + c / 64) (omega arith) (omega arith)))
    (λ l. rw l)

pub ranged_words : (limit : ℕ) (rows rows' : List (List ℕ)) (n : ℕ) → ((w : ℕ) → 16 ≤ w → w < 32 → word rows' n w ≡ word rows n w) → word rows' n first ≡ word rows n first → word rows' n end ≡ word rows n end
    → Ranged limit rows n → Ranged limit rows' n
ranged_words limit rows rows' n h f e r = record {
  inside = λ c l q. rw (f, e) (r.inside c l (sym (contains_words rows rows' n h c) ∙ q));
  last = λ z. rw (e, contains_words rows rows' n h (word rows n end - 1)) (r.last (rw e at z));
}

-- a node without CPUs
ranged_none : (limit : ℕ) (rows : List (List ℕ)) (n : ℕ) → ((c : ℕ) → contains_at rows n c ≡ false) → word rows n end ≡ 0 → Ranged limit rows n
ranged_none limit rows n h e = record {
  inside = λ c l q. absurd (true≢false (sym q ∙ h c));
  last = λ z. absurd (omega arith);
}

-- ---- THE ROOT ALONE

module _ (limits : Limits) (rows : List (List ℕ)) (s : Sized rows) (h : 0 < length rows) (fit : limits.cpus ≤ max_cpu_id) where
  abbrev root_only : Topology
  root_only = (start limits).topology

  no_more : (n : ℕ) → n < nr_nodes limits root_only → n ≡ 0
  unfolding nr_nodes start
  no_more n l = omega arith

  nobody_met : met_first limits root_only ≡ []
  unfolding met_first children nr_nodes start those_below join_all
  nobody_met = refl

  pub sound_start : TopologySound limits root_only
  unfolding has start nr_nodes Distinct
  sound_start = record {
    root = omega arith;
    parents = λ m a b. absurd (omega (arith, no_more m b));
    placed_there = λ c m e. let z : ◌≡◌ {A = ℕ} 0 1 = cc in absurd (omega arith);
    distinct = rw nobody_met tt;
    no_root = rw nobody_met;
    within = λ x e. absurd (false≢true (rw nobody_met at e));
    all_met = λ x a b. absurd (omega (arith, no_more x b));
  }

  root_word : (w : ℕ) → word (new_root rows) 0 w ≡ get_or (new_node 0 0 0 0) (w % width) 0
  unfolding new_root
  root_word w = node_same rows 0 (new_node 0 0 0 0) w h

  start_type : type_of root_only 0 ≡ 0
  unfolding type_of start
  start_type = refl

  start_leaf : leaf limits root_only 0 ≡ true
  unfolding leaf no_nodes children nr_nodes start those_below
  start_leaf = refl

  start_children : has_children (new_root rows) 0 ≡ not (leaf limits root_only 0)
  unfolding has_children
  start_children = rw (root_word 2, start_leaf) (unfold new_node in refl)

  start_order : Ring (λ n. word (new_root rows) n next) (λ n. word (new_root rows) n prev) 0 (met_first limits root_only) 0
  unfolding Ring new_node
  start_order = rw nobody_met (root_word next, root_word prev)

  start_empty : (c : ℕ) → contains_at (new_root rows) 0 c ≡ false
  unfolding new_root
  start_empty c = made_empty rows 0 0 0 0 0 h c

  start_end : word (new_root rows) 0 end ≡ 0
  unfolding new_node
  start_end = root_word end

  start_room : nr_nodes limits root_only ≤ length (new_root rows)
  unfolding nr_nodes start new_root put_node
  start_room = rw (length-set rows 0 (new_node 0 0 0 0)) (omega arith)

  start_sized : Sized (new_root rows)
  unfolding new_root
  start_sized = sized_node rows 0 (new_node 0 0 0 0) s (length_new 0 0 0 0)

  start_placed : (c n : ℕ) → on_node limits root_only (root_only.placed c) n ≡ false
  unfolding on_node start
  start_placed c n = refl

  start_typed : word (new_root rows) 0 level_type ≡ 0
  unfolding new_node
  start_typed = root_word level_type

  pub tree_start : TopologyRep limits (new_root rows) root_only
  tree_start = record {
    sound = sound_start;
    sized = start_sized;
    room = start_room;
    cpus_fit = fit;
    parent_is = λ n a b. absurd (omega (arith, no_more n b));
    type_is = λ n b. rw (no_more n b) (start_typed ∙ sym start_type);
    children_is = λ n b. rw (no_more n b) start_children;
    order_is = start_order;
    set_is = λ n b c l. rw (no_more n b) (start_empty c ∙ sym (start_placed c 0));
    range_is = λ n b. rw (no_more n b) (ranged_none limits.cpus (new_root rows) 0 start_empty start_end);
  }

-- ---- A NEW LAST CHILD

module _ (limits : Limits) (rows : List (List ℕ)) (t : Topology) (tree : TopologyRep limits rows t) (p k : ℕ) (p_there : p < nr_nodes limits t) (more : nr_nodes limits t < length rows)
    (no_cpus : any_below limits.cpus (λ c. is_number p (t.placed c)) ≡ false) where
  abbrev n : ℕ
  n = nr_nodes limits t

  abbrev t' : Topology
  t' = grown t p k

  abbrev q : ℕ
  q = word rows p prev

  abbrev row : List ℕ
  row = new_node k p q p

  abbrev rows₀ : List (List ℕ)
  rows₀ = put_node rows n row

  abbrev rows₁ : List (List ℕ)
  rows₁ = put_word rows₀ q next n

  abbrev rows₂ : List (List ℕ)
  rows₂ = put_word rows₁ p prev n

  abbrev rows₃ : List (List ℕ)
  rows₃ = put_word rows₂ p children_word 1

  is_rows : add_child rows n p k ≡ rows₃
  unfolding add_child linked
  is_rows = refl

  -- p is met in the order, or is the root
  p_met {ℓ} : {A : Type ℓ} → (has p (met_first limits t) ≡ true → A) → (p ≡ 0 → A) → A
  p_met f g =
      both (has p (met_first limits t)) f
      (λ e. both (eqb p 0)
      (λ z. g (eqb-true p 0 z))
      (λ z. let m : p ≡ 0 → ⊥ = eqb-false p 0 z in absurd (true≢false (sym (tree.sound.all_met p (omega arith) p_there) ∙ e))))

  -- q is a node
  q_there : q < n
  q_there =
      p_met
      (λ e. linked_prev (λ z. word rows z next) (λ z. word rows z prev) (λ z. z < n) (met_first limits t) 0 0 p tree.order_is tree.sound.root tree.sound.within e)
      (λ z. rw z (linked_prev_end (λ z. word rows z next) (λ z. word rows z prev) (λ z. z < n) (met_first limits t) 0 0 tree.order_is tree.sound.root tree.sound.within))

  q_next : word rows q next ≡ p
  q_next =
      p_met
      (λ e. linked_back (λ z. word rows z next) (λ z. word rows z prev) (met_first limits t) 0 0 p tree.order_is e)
      (λ z. rw z (linked_back_end (λ z. word rows z next) (λ z. word rows z prev) (met_first limits t) 0 0 tree.order_is))

  -- ---- the words

  s₀ : Sized rows₀
  s₀ = sized_node rows n row tree.sized (length_new k p q p)

  s₁ : Sized rows₁
  s₁ = sized_put rows₀ q next n s₀

  s₂ : Sized rows₂
  s₂ = sized_put rows₁ p prev n s₁

  l₀ : length rows₀ ≡ length rows
  unfolding put_node
  l₀ = length-set rows n row

  l₁ : length rows₁ ≡ length rows
  l₁ = length_put rows₀ q next n ∙ l₀

  l₂ : length rows₂ ≡ length rows
  l₂ = length_put rows₁ p prev n ∙ l₁

  l₃ : length rows₃ ≡ length rows
  l₃ = length_put rows₂ p children_word 1 ∙ l₂

  -- words other than the links and the mark of children that were written
  past_writes : (z w : ℕ) → (z ≡ q → w % 32 ≡ 5 → ⊥) → (z ≡ p → w % 32 ≡ 6 → ⊥) → (z ≡ p → w % 32 ≡ 2 → ⊥) → word rows₃ z w ≡ word rows₀ z w
  past_writes z w a b c = put_past rows₂ p children_word 1 z w c ∙ put_past rows₁ p prev n z w b ∙ put_past rows₀ q next n z w a

  else_new : (w : ℕ) → (w % 32 ≡ 5 → ⊥) → (w % 32 ≡ 6 → ⊥) → (w % 32 ≡ 2 → ⊥) → word rows₃ n w ≡ get_or row (w % width) 0
  else_new w a b c = past_writes n w (λ e. a) (λ e. b) (λ e. c) ∙ node_same rows n row w more

  else_old : (z w : ℕ) → z < n → (w % 32 ≡ 5 → ⊥) → (w % 32 ≡ 6 → ⊥) → (w % 32 ≡ 2 → ⊥) → word rows₃ z w ≡ word rows z w
  else_old z w h a b c = past_writes z w (λ e. a) (λ e. b) (λ e. c) ∙ node_other rows n z row w (λ r. let e : z ≡ n = r in omega arith)

  -- what holds of the new node and of those that were there
  all_nodes {ℓ} : (P : ℕ → Type ℓ) → P n → ((z : ℕ) → z < n → P z) → (z : ℕ) → z < suc n → P z
  all_nodes P f g z h = both (eqb z n) (λ e. subst P (sym (eqb-true z n e)) f) (λ e. g z (let d : z ≡ n → ⊥ = eqb-false z n e in omega arith))

  qn : q ≡ n → ⊥
  qn r = omega (arith, q_there)

  pn : p ≡ n → ⊥
  pn r = omega (arith, p_there)

  next_q : word rows₃ q next ≡ n
  next_q =
      put_elsewhere rows₂ p children_word 1 q next (eqb-false 5 2 refl) ∙ put_elsewhere rows₁ p prev n q next (eqb-false 5 6 refl)
      ∙ put_same rows₀ s₀ q (rw l₀ (omega (arith, q_there))) next n

  next_n : word rows₃ n next ≡ p
  unfolding new_node
  next_n = past_writes n next (λ r e. qn (sym r)) (λ r. eqb-false 5 6 refl) (λ r. eqb-false 5 2 refl) ∙ node_same rows n row next more

  next_else : (z : ℕ) → (z ≡ n → ⊥) → (z ≡ q → ⊥) → word rows₃ z next ≡ word rows z next
  next_else z a b = past_writes z next (λ r e. b r) (λ r. eqb-false 5 6 refl) (λ r. eqb-false 5 2 refl) ∙ node_other rows n z row next a

  prev_p : word rows₃ p prev ≡ n
  prev_p =
      put_elsewhere rows₂ p children_word 1 p prev (eqb-false 6 2 refl) ∙ put_same rows₁ s₁ p (rw l₁ (omega arith)) prev n

  prev_n : word rows₃ n prev ≡ q
  unfolding new_node
  prev_n = past_writes n prev (λ r. eqb-false 6 5 refl) (λ r e. pn (sym r)) (λ r. eqb-false 6 2 refl) ∙ node_same rows n row prev more

  prev_else : (z : ℕ) → (z ≡ n → ⊥) → (z ≡ p → ⊥) → word rows₃ z prev ≡ word rows z prev
  prev_else z a b = past_writes z prev (λ r. eqb-false 6 5 refl) (λ r e. b r) (λ r. eqb-false 6 2 refl) ∙ node_other rows n z row prev a

  mark_p : word rows₃ p children_word ≡ 1
  mark_p = put_same rows₂ s₂ p (rw l₂ (omega arith)) children_word 1

  mark_n : word rows₃ n children_word ≡ 0
  unfolding new_node
  mark_n = past_writes n children_word (λ r. eqb-false 2 5 refl) (λ r. eqb-false 2 6 refl) (λ r e. pn (sym r)) ∙ node_same rows n row children_word more

  mark_else : (z : ℕ) → (z ≡ n → ⊥) → (z ≡ p → ⊥) → word rows₃ z children_word ≡ word rows z children_word
  mark_else z a b = past_writes z children_word (λ r. eqb-false 2 5 refl) (λ r. eqb-false 2 6 refl) (λ r e. b r) ∙ node_other rows n z row children_word a

  -- ---- the topology

  no_nodes_any : (l : List ℕ) → no_nodes limits t' l ≡ no_nodes limits t l
  unfolding no_nodes
  no_nodes_any [] = refl
  no_nodes_any (x ∷ l) = refl

  no_nodes_more : (l : List ℕ) → no_nodes limits t (l ++ (n ∷ [])) ≡ false
  unfolding no_nodes
  no_nodes_more [] = refl
  no_nodes_more (x ∷ l) = refl

  leaf_grown : (z : ℕ) → leaf limits t' z ≡ (leaf limits t z && not (eqb p z))
  unfolding leaf
  leaf_grown z =
      no_nodes_any (children limits t' z) ∙ ap (no_nodes limits t) (children_grown limits t p k tree.sound.root z)
      ∙ both (eqb p z) (λ e. rw e (no_nodes_more (children limits t z) ∙ sym (and-false (no_nodes limits t (children limits t z)))))
      (λ e. rw (e, append-nil (children limits t z)) (sym (and-true (no_nodes limits t (children limits t z)))))

  leaf_new : leaf limits t' n ≡ true
  leaf_new = leaf_grown n ∙ rw (ne_eqb p n pn) (unfold leaf in rw (children_none limits t p k tree.sound.root tree.sound.parents p_there) (unfold no_nodes in refl))

  not_on_p : (c : ℕ) → t.placed c ≡ Some p → ⊥
  unfolding is_number
  not_on_p c e =
      true≢false (sym (any_true limits.cpus (λ c. is_number p (t.placed c)) c (tree.sound.placed_there c p e).0 (rw e (eq-eqb p p refl))) ∙ no_cpus)

  n_unmet : has n (met_first limits t) ≡ false
  n_unmet = both (has n (met_first limits t)) (λ e. absurd (omega (arith, tree.sound.within n e))) (λ e. e)

  root_old : 0 ≡ n → ⊥
  root_old r = let e : 0 ≡ n = r in omega (arith, tree.sound.root)

  has_now : (x : ℕ) → has x (met_first limits t') ≡ (has x (met_first limits t) || eqb n x)
  has_now = has_grown limits t p k tree.sound.root tree.sound.parents p_there tree.sound.distinct tree.sound.no_root tree.sound.all_met

  parents_now : (m : ℕ) → 0 < m → m < suc n → parent_of limits t' m < m
  parents_now m a b =
      all_nodes (λ m. 0 < m → parent_of limits t' m < m) (λ a. rw (parent_new limits t p k) p_there) (λ m h a. rw (parent_old limits t p k m h) (tree.sound.parents m a h)) m b a

  placed_now : (c m : ℕ) → t'.placed c ≡ Some m → (c < limits.cpus) × ((m < suc n) × (leaf limits t' m ≡ true))
  unfolding with_node
  placed_now c m e =
      let b : (c < limits.cpus) × ((m < n) × (leaf limits t m ≡ true)) = tree.sound.placed_there c m e in
      (b.0, (omega (arith, b.1.0), leaf_grown m ∙ rw (b.1.1, ne_eqb p m (λ r. not_on_p c (e ∙ ap Some (sym r))))))

  within_now : (x : ℕ) → has x (met_first limits t') ≡ true → x < suc n
  within_now x h =
      both (has x (met_first limits t)) (λ e. omega (arith, tree.sound.within x e))
      (λ e. let g : eqb n x ≡ true = rw e at (sym (has_now x) ∙ h) in omega (arith, eqb-true n x g))

  all_now : (x : ℕ) → 0 < x → x < suc n → has x (met_first limits t') ≡ true
  all_now x a b =
      has_now x ∙ both (eqb n x) (λ e. rw e (or-true (has x (met_first limits t))))
      (λ e. let d : n ≡ x → ⊥ = eqb-false n x e in rw (tree.sound.all_met x a (let m : x ≡ n → ⊥ = λ r. d (sym r) in omega arith)))

  pub sound_child : TopologySound limits t'
  sound_child = record {
    root = rw (nr_grown limits t p k) (omega arith);
    parents = rw (nr_grown limits t p k) parents_now;
    placed_there = rw (nr_grown limits t p k) placed_now;
    distinct = distinct_grown limits t p k tree.sound.root tree.sound.parents p_there tree.sound.distinct tree.sound.no_root n_unmet;
    no_root = has_now 0 ∙ rw tree.sound.no_root (ne_eqb n 0 (λ r. let e : n ≡ 0 = r in omega (arith, tree.sound.root)));
    within = rw (nr_grown limits t p k) within_now;
    all_met = rw (nr_grown limits t p k) all_now;
  }

  -- ---- the way up of the nodes that were there

  up_old : (j m : ℕ) → m < n → upward limits t' j m ≡ upward limits t j m
  unfolding upward
  up_old zero m h = refl
  up_old (suc j) m h =
      ap (λ (r : List ℕ). m ∷ r)
      (both (eqb m 0) (λ e. rw e)
      (λ e.
      let z : m ≡ 0 → ⊥ = eqb-false m 0 e in
      rw (e, parent_old limits t p k m h) (up_old j (parent_of limits t m) (omega (arith, tree.sound.parents m (omega arith) h)))))

  above_old : (m : ℕ) → m < n → above limits t' m ≡ above limits t m
  unfolding above
  above_old m h = rw (nr_grown limits t p k) (up_old (suc n) m h ∙ up_enough limits t tree.sound n m (omega arith) h)

  on_old : (z : ℕ) (o : Option ℕ) → ((m : ℕ) → o ≡ Some m → m < n) → on_node limits t' o z ≡ on_node limits t o z
  unfolding on_node
  on_old z None h = refl
  on_old z (Some m) h = holds_has limits t' z (above limits t' m) ∙ ap (has z) (above_old m (h m refl)) ∙ sym (holds_has limits t z (above limits t m))

  on_new : (o : Option ℕ) → ((m : ℕ) → o ≡ Some m → m < n) → on_node limits t o n ≡ false
  unfolding on_node above
  on_new None h = refl
  on_new (Some m) h =
      holds_has limits t n (upward limits t n m)
      ∙ both (has n (upward limits t n m)) (λ e. absurd (omega (arith, h m refl, up_within limits t tree.sound n m n (h m refl) e))) (λ e. e)

  there : (c m : ℕ) → t.placed c ≡ Some m → m < n
  there c m e = (tree.sound.placed_there c m e).1.0

  -- ---- the tree

  type_new : type_of t' n ≡ k
  unfolding type_of with_node nr_nodes
  type_new = ap (λ (m : Node). m.type) (get_or-append_seam t.nodes (record { parent = p; type = k }) [] (record { parent = 0; type = 0 }))

  type_old : (m : ℕ) → m < n → type_of t' m ≡ type_of t m
  unfolding type_of with_node nr_nodes
  type_old m h = ap (λ (m : Node). m.type) (get_or-append t.nodes _ (record { parent = 0; type = 0 }) m h)

  word_parent : word rows₃ n parent ≡ p
  unfolding new_node
  word_parent = else_new parent (eqb-false 1 5 refl) (eqb-false 1 6 refl) (eqb-false 1 2 refl)

  word_type : word rows₃ n level_type ≡ k
  unfolding new_node
  word_type = else_new level_type (eqb-false 0 5 refl) (eqb-false 0 6 refl) (eqb-false 0 2 refl)

  word_end : word rows₃ n end ≡ 0
  unfolding new_node
  word_end = else_new end (eqb-false 4 5 refl) (eqb-false 4 6 refl) (eqb-false 4 2 refl)

  sets_new : (w : ℕ) → 16 ≤ w → w < 32 → word rows₃ n w ≡ word rows₀ n w
  sets_new w a b =
      else_new w (λ r. let e : w % 32 ≡ 5 = r in omega arith) (λ r. let e : w % 32 ≡ 6 = r in omega arith) (λ r. let e : w % 32 ≡ 2 = r in omega arith) ∙ sym (node_same rows n row w more)

  sets_old : (z : ℕ) → z < n → (w : ℕ) → 16 ≤ w → w < 32 → word rows₃ z w ≡ word rows z w
  sets_old z h w a b =
      else_old z w h (λ r. let e : w % 32 ≡ 5 = r in omega arith) (λ r. let e : w % 32 ≡ 6 = r in omega arith) (λ r. let e : w % 32 ≡ 2 = r in omega arith)

  empty_new : (c : ℕ) → contains_at rows₃ n c ≡ false
  empty_new c = contains_words rows₀ rows₃ n sets_new c ∙ made_empty rows n k p q p more c

  children_now : (z : ℕ) → z < suc n → has_children rows₃ z ≡ not (leaf limits t' z)
  unfolding has_children
  children_now z h =
      both (eqb z n)
      (λ e. rw (eqb-true z n e, mark_n, leaf_new))
      (λ e. both (eqb z p)
      (λ r. rw (eqb-true z p r, mark_p, leaf_grown p, eq-eqb p p refl) (sym (ap not (and-false (leaf limits t p)))))
      (λ r.
      let d : z ≡ n → ⊥ = eqb-false z n e in
      rw (mark_else z d (eqb-false z p r), leaf_grown z, ne_eqb p z (λ b. eqb-false z p r (sym b)), and-true (leaf limits t z)) (unfold has_children in tree.children_is z (omega arith))))

  order_now : Ring (λ z. word rows₃ z next) (λ z. word rows₃ z prev) 0 (met_first limits t') 0
  order_now =
      rw (first_grown limits t p k tree.sound.root tree.sound.parents p_there)
      (both (eqb p 0)
      (λ e.
      let g : has p (met_first limits t) ≡ false = ap (λ (z : ℕ). has z (met_first limits t)) (eqb-true p 0 e) ∙ tree.sound.no_root in
      rw (e, ins_none n p (met_first limits t) g)
      (linked_end (λ z. word rows z next) (λ z. word rows z prev) (λ z. word rows₃ z next) (λ z. word rows₃ z prev) n p q refl q_next next_n next_q next_else prev_p prev_n prev_else
      (met_first limits t) 0 0 tree.order_is root_old n_unmet g (sym (eqb-true p 0 e))))
      (λ e. rw (e, append-nil (ins n p (met_first limits t)))
      (linked_ins (λ z. word rows z next) (λ z. word rows z prev) (λ z. word rows₃ z next) (λ z. word rows₃ z prev) n p q refl q_next next_n next_q next_else prev_p prev_n prev_else
      (met_first limits t) 0 0 tree.order_is tree.sound.distinct root_old n_unmet root_old
      (tree.sound.all_met p (let d : p ≡ 0 → ⊥ = eqb-false p 0 e in omega arith) p_there) (λ r. eqb-false p 0 e (sym r)))))

  parent_now : (z : ℕ) → 0 < z → z < suc n → word rows₃ z parent ≡ parent_of limits t' z
  parent_now z a h =
      all_nodes (λ z. 0 < z → word rows₃ z parent ≡ parent_of limits t' z) (λ a. word_parent ∙ sym (parent_new limits t p k))
      (λ z h a. else_old z parent h (eqb-false 1 5 refl) (eqb-false 1 6 refl) (eqb-false 1 2 refl) ∙ tree.parent_is z a h ∙ sym (parent_old limits t p k z h)) z h a

  type_now : (z : ℕ) → z < suc n → word rows₃ z level_type ≡ type_of t' z
  type_now =
      all_nodes (λ z. word rows₃ z level_type ≡ type_of t' z) (word_type ∙ sym type_new)
      (λ z h. else_old z level_type h (eqb-false 0 5 refl) (eqb-false 0 6 refl) (eqb-false 0 2 refl) ∙ tree.type_is z h ∙ sym (type_old z h))

  set_now : (z : ℕ) → z < suc n → (c : ℕ) → c < limits.cpus → contains_at rows₃ z c ≡ on_node limits t' (t.placed c) z
  set_now =
      all_nodes (λ z. (c : ℕ) → c < limits.cpus → contains_at rows₃ z c ≡ on_node limits t' (t.placed c) z)
      (λ c l. empty_new c ∙ sym (on_old n (t.placed c) (there c) ∙ on_new (t.placed c) (there c)))
      (λ z h c l. contains_words rows rows₃ z (sets_old z h) c ∙ tree.set_is z h c l ∙ sym (on_old z (t.placed c) (there c)))

  range_now : (z : ℕ) → z < suc n → Ranged limits.cpus rows₃ z
  range_now =
      all_nodes (Ranged limits.cpus rows₃) (ranged_none limits.cpus rows₃ n empty_new word_end)
      (λ z h. ranged_words limits.cpus rows rows₃ z (sets_old z h)
      (else_old z first h (eqb-false 3 5 refl) (eqb-false 3 6 refl) (eqb-false 3 2 refl)) (else_old z end h (eqb-false 4 5 refl) (eqb-false 4 6 refl) (eqb-false 4 2 refl)) (tree.range_is z h))

  pub tree_child : TopologyRep limits (add_child rows n p k) t'
  unfolding with_node
  tree_child = rw is_rows (record {
    sound = sound_child;
    sized = sized_put rows₂ p children_word 1 s₂;
    room = rw (nr_grown limits t p k, l₃) (omega arith);
    cpus_fit = tree.cpus_fit;
    parent_is = rw (nr_grown limits t p k) parent_now;
    type_is = rw (nr_grown limits t p k) type_now;
    children_is = rw (nr_grown limits t p k) children_now;
    order_is = order_now;
    set_is = rw (nr_grown limits t p k) set_now;
    range_is = rw (nr_grown limits t p k) range_now;
  })
