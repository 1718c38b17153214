-- THE ROWS OF THE NODES: what a command leaves of those that are not made, and of the words that no rule speaks of.
use Rattle.std.specs.Prelude.{ℕ, zero, suc, ◌+◌, ◌-◌, ◌/◌, ◌%◌, ◌≤◌, ◌<◌, ◌≡◌, refl, ◌≢◌, true, List, [], length, get_or, set, eqb, ltb}
use Rattle.std.proofs.Common.{sym, subst, ◌∙◌, arith, length-set, get_or-set_same, get_or-set_other, eqb-true, ltb-true, ltb-false, lt-ltb}
use Rattle.std.proofs.Math.Seq.{set_out}
use Rattle.std.proofs.lemmas.Bool.{eqb-false}
use Rattle.rules.specs.Line.{has}
use Rattle.rules.proofs.Laws.Line.{both}
use Rattle.rules.specs.State.{Limits, Topology}
use Rattle.rules.specs.Topology.{nr_nodes}
use Rattle.topology.specs.CpuSet.{max_cpu_id}
use Rattle.topology.specs.Words.{width, word, put_word}
use Rattle.topology.specs.Node.{parent, children, first, end, next, prev, sets, new_node, new_root, put_node, linked, add_child, put_cpu, set_cpu_up, set_cpu}
use Rattle.represents.specs.Topology.{Sized}
use Rattle.represents.proofs.Laws.Ring.{linked_prev, linked_prev_end}
use Rattle.represents.specs.Topology.{met_first}
use Rattle.represents.specs.Topology.{TopologyRep}
use Rattle.represents.proofs.Laws.Grown.{length_new, new_past}
use Rattle.represents.proofs.Laws.Placed.{put_else}
use Rattle.command_laws.specs.Nodes.{Nodes}

-- ---- one row is written

-- a row then is what was written, or what it was
row_set : (P : List ℕ → Type 0) (ns : List (List ℕ)) (n : ℕ) (row : List ℕ) (z : ℕ) → (z ≡ n → P row) → P (get_or ns z []) → P (get_or (set ns n row) z [])
row_set P ns n row z h o =
    both (eqb z n)
    (λ e. both (ltb n (length ns))
    (λ l. subst (λ (y : ℕ). P (get_or (set ns n row) y [])) (sym (eqb-true z n e)) (subst P (sym (get_or-set_same ns n row [] (ltb-true _ _ l))) (h (eqb-true z n e))))
    (λ l. subst (λ (rows : List (List ℕ)). P (get_or rows z [])) (sym (set_out ns n row (ltb-false _ _ l))) o))
    (λ e. subst P (sym (get_or-set_other ns n z row [] (eqb-false z n e))) o)

-- one word of a node that is made, none of those that stay 0
nodes_put : {found : List (List ℕ)} {count : ℕ} (ns : List (List ℕ)) (n u v : ℕ) → n < count → ((w : ℕ) → 7 ≤ w → w < width → w ≢ 16 → w ≡ u % width → ⊥) → Nodes found count ns
    → Nodes found count (put_word ns n u v)
unfolding put_word
nodes_put {found} ns n u v h free k =
    let row : List ℕ = set (get_or ns n []) (u % width) v in
    record {
      as_many = length-set ns n row ∙ k.as_many;
      as_long = λ z. row_set (λ (l : List ℕ). length l ≡ length (get_or found z [])) ns n row z
          (λ e. length-set (get_or ns n []) (u % width) v ∙ subst (λ (y : ℕ). length (get_or ns y []) ≡ length (get_or found z [])) e (k.as_long z)) (k.as_long z);
      unmade = λ z l. get_or-set_other ns n z row [] (λ e. omega arith) ∙ k.unmade z l;
      made = λ z w l a b c. row_set (λ (r : List ℕ). get_or r w 0 ≡ 0) ns n row z
          (λ e. get_or-set_other (get_or ns n []) (u % width) w v 0 (free w a b c) ∙ k.made n w h a b c) (k.made z w l a b c);
    }

-- ---- 03: a CPU put on a node and all nodes above

nodes_cpu : {found : List (List ℕ)} {count : ℕ} (ns : List (List ℕ)) (n c : ℕ) → n < count → c < 64 → Nodes found count ns → Nodes found count (put_cpu ns n c)
unfolding put_cpu max_cpu_id
nodes_cpu ns n c h l k =
    rw (lt-ltb c 1024 (omega arith))
    (nodes_put _ n end _ h (λ w a b d e. omega arith) (nodes_put _ n first _ h (λ w a b d e. omega arith)
    (nodes_put ns n (sets + c / 64) _ h (λ w a b d e. d (omega arith)) k)))

parent_stays : (ns : List (List ℕ)) (n c z : ℕ) → c < 64 → word (put_cpu ns n c) z parent ≡ word ns z parent
unfolding max_cpu_id
parent_stays ns n c z l = put_else ns n c (omega arith) z parent (omega arith) (λ e. omega arith) (λ e. omega arith)

nodes_up : {found : List (List ℕ)} {count : ℕ} (j : ℕ) (ns : List (List ℕ)) (n c : ℕ) → n < count → c < 64 → ((z : ℕ) → 0 < z → z < count → word ns z parent < count) → Nodes found count ns
    → Nodes found count (set_cpu_up j ns n c)
unfolding set_cpu_up
nodes_up zero ns n c h l up k = k
nodes_up (suc j) ns n c h l up k =
    let on = nodes_cpu ns n c h l k in
    both (eqb n 0) (λ e. rw e on)
    (λ e. let z : n ≢ 0 = eqb-false n 0 e in
    rw e (nodes_up j (put_cpu ns n c) _ c (rw (parent_stays ns n c n l) (up n (omega arith) h)) l (λ y a b. rw (parent_stays ns n c y l) (up y a b)) on))

pub nodes_placed : {found : List (List ℕ)} {ns : List (List ℕ)} {limits : Limits} {t : Topology} (n c : ℕ) → TopologyRep limits ns t → n < nr_nodes limits t → c < 64 → Nodes found (nr_nodes limits t) ns
    → Nodes found (nr_nodes limits t) (set_cpu ns n c)
unfolding set_cpu
nodes_placed {ns = ns} {limits} {t} n c tree h l k =
    nodes_up (length ns) ns n c h l (λ z a b. rw (tree.parent_is z a b) (omega (arith, tree.sound.parents z a b))) k

-- ---- 02: a node is made

nodes_made : {found : List (List ℕ)} {count : ℕ} (ns : List (List ℕ)) (type p a b : ℕ) → count < length found → Sized found → Nodes found count ns
    → Nodes found (suc count) (put_node ns count (new_node type p a b))
unfolding put_node Sized
nodes_made {found} {count} ns type p a b h sized k =
    let row : List ℕ = new_node type p a b in
    record {
      as_many = length-set ns count row ∙ k.as_many;
      as_long = λ z. row_set (λ (l : List ℕ). length l ≡ length (get_or found z [])) ns count row z
          (λ e. length_new type p a b ∙ sym (sized z (omega arith))) (k.as_long z);
      unmade = λ z l. get_or-set_other ns count z row [] (λ e. omega arith) ∙ k.unmade z (omega arith);
      made = λ z w l c d e. both (eqb z count)
          (λ q. subst (λ (y : ℕ). get_or (get_or (set ns count row) y []) w 0 ≡ 0) (sym (eqb-true z count q))
          (subst (λ (r : List ℕ). get_or r w 0 ≡ 0) (sym (get_or-set_same ns count row [] (rw k.as_many h))) (new_past type p a b w c d)))
          (λ q. let y : z ≢ count = eqb-false z count q in
          subst (λ (r : List ℕ). get_or r w 0 ≡ 0) (sym (get_or-set_other ns count z row [] y)) (k.made z w (omega arith) c d e));
    }

-- the node before another in the order of a search is one that is made
before_made : {ns : List (List ℕ)} {limits : Limits} {t : Topology} (p : ℕ) → TopologyRep limits ns t → p < nr_nodes limits t → word ns p prev < nr_nodes limits t
before_made {ns} {limits} {t} p tree h =
    let go : (y : ℕ) → has y (met_first limits t) ≡ true → y < nr_nodes limits t = λ y e. tree.sound.within y e in
    both (eqb p 0)
    (λ e. rw (eqb-true p 0 e) (linked_prev_end (λ n. word ns n next) (λ n. word ns n prev) (λ y. y < nr_nodes limits t) (met_first limits t) 0 0 tree.order_is tree.sound.root go))
    (λ e. let z : p ≢ 0 = eqb-false p 0 e in
    linked_prev (λ n. word ns n next) (λ n. word ns n prev) (λ y. y < nr_nodes limits t) (met_first limits t) 0 0 p tree.order_is tree.sound.root go (tree.sound.all_met p (omega arith) h))

pub nodes_grown : {found : List (List ℕ)} {ns : List (List ℕ)} {limits : Limits} {t : Topology} (p type : ℕ) → TopologyRep limits ns t → p < nr_nodes limits t → nr_nodes limits t < length found → Sized found
    → Nodes found (nr_nodes limits t) ns → Nodes found (suc (nr_nodes limits t)) (add_child ns (nr_nodes limits t) p type)
unfolding add_child linked
nodes_grown {ns = ns} {limits} {t} p type tree h room sized k =
    let count : ℕ = nr_nodes limits t in
    let b : word ns p prev < count = before_made p tree h in
    nodes_put _ p children 1 (omega arith) (λ w x y z e. omega arith) (nodes_put _ p prev count (omega arith) (λ w x y z e. omega arith)
    (nodes_put _ (word ns p prev) next count (omega arith) (λ w x y z e. omega arith) (nodes_made ns type p (word ns p prev) p room sized k)))

-- ---- the start: the root alone

pub nodes_root : (found : List (List ℕ)) → 0 < length found → Sized found → Nodes found 1 (new_root found)
unfolding new_root
nodes_root found h sized =
    nodes_made found 0 0 0 0 h sized (record { as_many = refl; as_long = λ n. refl; unmade = λ n l. refl; made = λ n w l a b c. absurd (omega arith) })
