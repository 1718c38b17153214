-- THE COMMANDS THAT TOUCH NO QUEUE (hex 01 to 05, 10, 11, 19, 1A): memory that stands for a state stands, once such a command is obeyed, for the state that
-- the rules leave.
use Rattle.std.specs.Prelude.{ℕ, zero, suc, ◌+◌, ◌^◌, ◌≤◌, ◌<◌, ◌≡◌, Bool, not, ◌&&◌, List, [], ◌∷◌, ◌++◌, set, eqb, ltb, Option, None, Some, is_some}
use Rattle.std.proofs.Math.Path.{refl, ap, subst}
use Rattle.std.proofs.Common.{sym, ◌∙◌, true≢false, length-set}
use Rattle.std.proofs.Math.Bool.{true, false, cond}
use native.Mathlib.Omega.{arith}
use Rattle.std.proofs.Math.ListN.{length, length-append}
use Rattle.std.proofs.Math.Dec.{leb}
use borrow.Author.Tests.{eqb-true, eqb-false, leb-true, ltb-true, not-true}
use Rattle.std.specs.Cmp.{first_so, second_so}
use Rattle.rules.proofs.Laws.Line.{both}
use Rattle.rules.specs.Priority.{nr_values, priority, class_at}
use Rattle.rules.specs.Times as times
use Rattle.rules.specs.Times.{donated_to, critical_at}
use Rattle.rules.specs.Puts.{PutOrTake}
use Rattle.rules.specs.State as rules
use Rattle.rules.specs.State.{at, Limits, Topology, is_number, runs_on, new_thread}
use Rattle.rules.specs.Topology.{nr_nodes}
use Rattle.rules.specs.Schedule.{World, with_thread}
use Rattle.rules.specs.Requests.{declare_cpu, add_node, place_cpu, seal, set_shortest, declare_thread, set_tick, remove_donation, set_critical, asks}
use Rattle.rules.specs.Questions.{Question, first_no, refusal, concerning, open_yet, sealed_now, declared, cpu_declared, cpu_new, cpu_unplaced, pin_declared, thread_declared, thread_new, priority_in_range, at_most, least_shortest, most_shortest, shortest_in_range, node_exists, parent_without_cpus, node_fits, node_childless, tick_fits}
use Rattle.rules.specs.Commands.{no_log, changed, world_of, shortened, with_cpu_declared, with_node, with_placed, obeys}
use Rattle.rules.specs.Waits.{Under, Free, waits}
use Rattle.rules.proofs.Laws.Sound.{at_here, at_there}
use Rattle.rules.proofs.Laws.Reached.{Reached, yes}
use Rattle.thread.specs.declared.Thread.{Thread}
use Rattle.thread.specs.declared.place.Place.TheVariants as place
use Rattle.thread.specs.Thread.{NONE, BLOCKED, with_critical}
use Rattle.thread.specs.Priority.{remove_donated_priority}
use Rattle.thread.specs.Time.{field_of, named_field, named_none}
use Rattle.thread.specs.Reads.{reads, cpu_in}
use Rattle.thread.specs.Place.{place_in, pin_number, new, reads_new, critical_mark}
use Rattle.processor.specs.Words.{width, word, put_word}
use Rattle.processor.proofs.Laws.Words.{word_put_other}
use Rattle.processor.specs.Word.{DECLARED, PLACED}
use Rattle.topology.specs.Node.{put_node, linked, add_child, put_cpu, set_cpu_up, set_cpu, length_put_cpu}
use Rattle.topology.specs.Words.{length_put as length_node}
use Rattle.records.specs.Rq.{record_at}
use Rattle.represents.proofs.Laws.Records.{field_set}
use Rattle.represents.specs.World.{number_or_none, mark_in, WordsRep, place_at, WorldRep}
use Rattle.represents.proofs.Laws.Frames.{beside_put, word_here, in_records, in_rows, words_same, words_alike, written_none, shows_words, shows_removed, shows_critical, shows_record, places_moved}
use Rattle.represents.proofs.Laws.NumberLists.{any_none}
use Rattle.represents.specs.Topology.{TopologyRep}
use Rattle.rules.proofs.Laws.Places.{is_some_number}
use Rattle.represents.proofs.Laws.Grown.{tree_child}
use Rattle.represents.proofs.Laws.Placed.{tree_declared, tree_placed}
use Rattle.questions.specs.declared.state.State.{State}
use Rattle.represents.specs.State.{limits_in, runs, StateRep}
use Rattle.represents.proofs.Laws.State.{Counted, stands_changed, stands_shortened}
use Rattle.outcome.specs.Call.{with_shortest}

-- ---- questions answered yes

no_some : (o : Option ℕ) → is_some o ≡ false → o ≡ None
no_some None e = refl
no_some (Some x) e = absurd (true≢false e)

-- ---- rows of nodes, and records, written

length_child : (ns : List (List ℕ)) (n p k : ℕ) → length (add_child ns n p k) ≡ length ns
unfolding add_child linked put_node
length_child ns n p k = length_node _ p _ 1 ∙ length_node _ p _ n ∙ length_node _ _ _ n ∙ length-set ns n _

length_placed : (k : ℕ) (ns : List (List ℕ)) (n c : ℕ) → length (set_cpu_up k ns n c) ≡ length ns
unfolding set_cpu_up
length_placed zero ns n c = refl
length_placed (suc k) ns n c =
    both (eqb n 0) (λ e. rw e (length_put_cpu ns n c)) (λ e. rw e (length_placed k (put_cpu ns n c) _ c ∙ length_put_cpu ns n c))

module _ {limits : Limits} {topology : Topology} {known active : ℕ → Bool} {ts : List Thread} {cs : List (List ℕ)} {w : World} (s : WorldRep limits topology known active ts cs w) where
  module _ (c : ℕ) (near : c < limits.cpus) where
    -- the words of CPU d once word u of CPU c is v
    word_now : (u v d i : ℕ) → u < width → i < width → word (put_word cs c u v) d i ≡ cond (eqb i u) (cond (eqb d c) v (word cs d u)) (word cs d i)
    word_now u v d i h l =
        both (eqb d c)
        (λ e. rw (e, eqb-true d c e) (word_here cs c u i v (in_rows s c near) (s.rows c near) h l))
        (λ e. rw (e, word_put_other cs c d u i v (λ r q. eqb-false d c e q)) (both (eqb i u) (λ q. rw (q, eqb-true i u q)) (λ q. rw q)))

    declared_words : (d : ℕ) → d < limits.cpus → WordsRep (with_cpu_declared topology c) (put_word cs c DECLARED 1) d (w.cpus d)
    unfolding with_cpu_declared at mark_in
    declared_words d h =
        let was : WordsRep topology cs d (w.cpus d) = s.words d h in
        words_same (λ i k l. word_now 72 1 d i (omega arith) l) (record {
          declared = both (eqb d c) (λ e. rw e) (λ e. rw e was.declared);
          placed = was.placed;
          running = was.running;
          own_priority = was.own_priority;
          is_idle = was.is_idle;
          must_rebalance = was.must_rebalance;
          preempt = was.preempt;
          draw_state = was.draw_state;
          rebalance_time = was.rebalance_time;
          idle_timeslice = was.idle_timeslice;
        })

    placed_words : (n d : ℕ) → d < limits.cpus → WordsRep (with_placed topology n c) (put_word cs c PLACED n) d (w.cpus d)
    unfolding with_placed at number_or_none
    placed_words n d h =
        let was : WordsRep topology cs d (w.cpus d) = s.words d h in
        words_same (λ i k l. word_now 73 n d i (omega arith) l) (record {
          declared = was.declared;
          placed = both (eqb d c) (λ e. rw e) (λ e. rw e was.placed);
          running = was.running;
          own_priority = was.own_priority;
          is_idle = was.is_idle;
          must_rebalance = was.must_rebalance;
          preempt = was.preempt;
          draw_state = was.draw_state;
          rebalance_time = was.rebalance_time;
          idle_timeslice = was.idle_timeslice;
        })

    shows_declared : WorldRep limits (with_cpu_declared topology c) known active ts (put_word cs c DECLARED 1) w
    shows_declared = shows_words s _ _ c w (beside_put cs c 72 1 (in_rows s c near) (omega arith) (omega arith)) (λ d. refl) (λ x. refl) declared_words

    shows_placed : (n : ℕ) → WorldRep limits (with_placed topology n c) known active ts (put_word cs c PLACED n) w
    shows_placed n = shows_words s _ _ c w (beside_put cs c 73 n (in_rows s c near) (omega arith) (omega arith)) (λ d. refl) (λ x. refl) (placed_words n)

  -- the record of a thread that is not known, and so neither runs nor waits, is written as that of one declared
  shows_new : (x : ℕ) (t : Thread) (u : times.Thread) → x < limits.threads → Free w x → active x ≡ false → reads t ≡ u → u.queue_cpu ≡ None → t.place ≡ BLOCKED
      → WorldRep limits topology (at known x true) active (set ts x t) cs (with_thread w x u)
  unfolding Under place_in
  shows_new x t u h f a r q b =
      shows_record s x t u h r (λ d e. absurd (true≢false (sym e ∙ f d))) (rw q tt)
      (places_moved x place.Blocked (λ z. field_set (λ (y : Thread). place_in y.place) ts x t z (in_records s x h) ∙ ap (λ n. cond (eqb z x) (place_in n) (place_at ts z)) b)
      (at_here known x true) (λ z n. at_there known x true z n) (λ z n. refl) (λ d z n. refl) (λ d e. absurd (true≢false (sym e ∙ f d))) (λ e. absurd (true≢false (sym e ∙ a))) (λ e g. refl) s.places)

-- ---- memory that stands for a state

module _ {H : ℕ → List PutOrTake} {ts : List Thread} {cs ns : List (List ℕ)} {a : State} {s : rules.State} (m : StateRep ts cs ns a s) (reached : Reached H s) where
  abbrev world_with : (ℕ → times.Thread) → World
  world_with threads = record { cpus = s.cpus; threads = threads; log = no_log; wakeups = 0 }

  shows_now : WorldRep s.limits s.topology s.known (runs s) ts cs (world_with s.threads)
  unfolding world_of
  shows_now = m.shows

  -- 01
  pub stands_declare_cpu : (c used : ℕ) (b : State) → Counted a b s.sealed s.tick (length s.topology.nodes) → refusal s (asks (declare_cpu c) used) ≡ 0
      → StateRep ts (put_word cs c DECLARED 1) ns b (obeys s (declare_cpu c)).state
  unfolding obeys refusal concerning open_yet cpu_new with_cpu_declared
  stands_declare_cpu c used b n e =
      let new = yes 3 _ _ (yes 2 _ _ e).1 in
      let near : c < s.limits.cpus = ltb-true _ _ (first_so (ltb c s.limits.cpus) (not (s.topology.declared c)) new.0) in
      stands_changed m ts (put_word cs c DECLARED 1) ns b (with_cpu_declared s.topology c) s.sealed s.tick s.known s.threads n
      (tree_declared s.limits ns s.topology c m.tree) m.rows (shows_declared shows_now c near) m.nodes_fit m.tick_fits

  -- 02
  pub stands_add_node : (p k used : ℕ) (b : State) → Counted a b s.sealed s.tick (length s.topology.nodes + 1) → refusal s (asks (add_node p k) used) ≡ 0
      → StateRep ts cs (add_child ns a.node_count p k) b (obeys s (add_node p k)).state
  unfolding obeys refusal concerning open_yet at_most node_exists parent_without_cpus node_fits with_node nr_nodes
  stands_add_node p k used b n e =
      let after_type = (yes 5 _ _ (yes 2 _ _ e).1).1 in
      let exists = yes 5 _ _ after_type in
      let own = yes 5 _ _ exists.1 in
      let fits = yes 5 _ _ own.1 in
      let there : p < length s.topology.nodes = ltb-true _ _ exists.0 in
      let more : length s.topology.nodes < s.limits.nodes = ltb-true _ _ fits.0 in
      let one_more : length (s.topology.nodes ++ (record { parent = p; type = k } ∷ [])) ≡ length s.topology.nodes + 1 = length-append s.topology.nodes (record { parent = p; type = k } ∷ []) in
      let tree : TopologyRep s.limits (add_child ns (length s.topology.nodes) p k) (with_node s.topology p k) =
      tree_child s.limits ns s.topology m.tree p k there (omega (arith, m.rows)) (not-true _ own.0) in
      subst (λ (i : ℕ). StateRep ts cs (add_child ns i p k) b (obeys s (add_node p k)).state) (sym m.node_count)
      (stands_changed m ts cs (add_child ns (length s.topology.nodes) p k) b (with_node s.topology p k) s.sealed s.tick s.known s.threads
      (subst (Counted a b s.sealed s.tick) (sym one_more) n) tree (rw (length_child ns (length s.topology.nodes) p k) m.rows)
      (shows_words shows_now (with_node s.topology p k) cs 0 _ (written_none cs 0).beside (λ d. refl) (λ x. refl) (λ c h. words_alike (s.cpus c) (s.cpus c) refl refl refl refl refl refl refl refl refl (shows_now.words c h)))
      (omega (arith, one_more)) m.tick_fits)

  -- 03
  pub stands_place_cpu : (n c used : ℕ) (b : State) → Counted a b s.sealed s.tick (length s.topology.nodes) → refusal s (asks (place_cpu n c) used) ≡ 0
      → StateRep ts (put_word cs c PLACED n) (set_cpu ns n c) b (obeys s (place_cpu n c)).state
  unfolding obeys refusal concerning open_yet cpu_unplaced declared node_exists node_childless with_placed nr_nodes set_cpu
  stands_place_cpu n c used b k e =
      let free = yes 3 _ _ (yes 2 _ _ e).1 in
      let exists = yes 5 _ _ free.1 in
      let childless = yes 5 _ _ exists.1 in
      let there : n < length s.topology.nodes = ltb-true _ _ exists.0 in
      let named : (ltb c s.limits.cpus && s.topology.declared c) ≡ true = first_so _ (not (is_some (s.topology.placed c))) free.0 in
      let near : c < s.limits.cpus = ltb-true _ _ (first_so (ltb c s.limits.cpus) (s.topology.declared c) named) in
      let unplaced : s.topology.placed c ≡ None =
      no_some (s.topology.placed c) (not-true _ (second_so (ltb c s.limits.cpus && s.topology.declared c) (not (is_some (s.topology.placed c))) free.0)) in
      stands_changed m ts (put_word cs c PLACED n) (set_cpu ns n c) b (with_placed s.topology n c) s.sealed s.tick s.known s.threads k
      (tree_placed s.limits ns s.topology m.tree n c there childless.0 near unplaced) (rw (length_placed (length ns) ns n c) m.rows) (shows_placed shows_now c near n) m.nodes_fit m.tick_fits

  -- 04
  pub stands_seal : (used : ℕ) (b : State) → Counted a b true s.tick (length s.topology.nodes) → refusal s (asks seal used) ≡ 0 → StateRep ts cs ns b (obeys s seal).state
  unfolding obeys
  stands_seal used b n e = stands_changed m ts cs ns b s.topology true s.tick s.known s.threads n m.tree m.rows shows_now m.nodes_fit m.tick_fits

  -- 05
  pub stands_set_shortest : (n used : ℕ) (b : State) → Counted (with_shortest a n) b s.sealed s.tick (length s.topology.nodes) → refusal s (asks (set_shortest n) used) ≡ 0
      → StateRep ts cs ns b (obeys s (set_shortest n)).state
  unfolding obeys refusal concerning open_yet shortest_in_range with_shortest limits_in rules.with_shortest world_of shortened
  stands_set_shortest n used b k e =
      let in_range = yes 5 (leb least_shortest n && leb n most_shortest) _ (yes 2 _ _ e).1 in
      let most : n ≤ most_shortest = leb-true _ _ (second_so (leb least_shortest n) (leb n most_shortest) in_range.0) in
      let now : StateRep ts cs ns (with_shortest a n) (shortened s n) = stands_shortened m (with_shortest a n) n most refl refl refl refl refl in
      stands_changed now ts cs ns b s.topology s.sealed s.tick s.known s.threads k now.tree now.rows now.shows now.nodes_fit now.tick_fits

  -- 11
  pub stands_set_tick : (t used : ℕ) (b : State) → Counted a b s.sealed t (length s.topology.nodes) → refusal s (asks (set_tick t) used) ≡ 0
      → StateRep ts cs ns b (obeys s (set_tick t)).state
  unfolding obeys refusal concerning sealed_now tick_fits
  stands_set_tick t used b n e =
      let fits = yes 7 _ _ (yes 2 _ _ e).1 in
      let most : t ≤ 2 ^ 62 = leb-true _ _ (second_so (leb s.tick t) (leb t (2 ^ 62)) fits.0) in
      stands_changed m ts cs ns b s.topology s.sealed t s.known s.threads n m.tree m.rows shows_now m.nodes_fit most

  -- the record of one thread
  stands_record : (x : ℕ) (t : Thread) (u : times.Thread) (known : ℕ → Bool) (b : State) → Counted a b s.sealed s.tick (length s.topology.nodes)
      → WorldRep s.limits s.topology known (runs s) (set ts x t) cs (with_thread (world_with s.threads) x u)
      → StateRep (set ts x t) cs ns b (changed s s.topology s.sealed s.tick known (at s.threads x u)).state
  unfolding with_thread
  stands_record x t u known b n w = stands_changed m (set ts x t) cs ns b s.topology s.sealed s.tick known (at s.threads x u) n m.tree m.rows w m.nodes_fit m.tick_fits

  -- 1A
  pub stands_set_critical : (x k used : ℕ) (b : State) → Counted a b s.sealed s.tick (length s.topology.nodes) → refusal s (asks (set_critical x k) used) ≡ 0
      → StateRep (set ts x (with_critical (record_at ts x) k)) cs ns b (obeys s (set_critical x k)).state
  unfolding obeys refusal concerning sealed_now thread_declared at_most
  stands_set_critical x k used b n e =
      let known = yes 4 _ _ (yes 2 _ _ e).1 in
      let mark = yes 5 _ _ known.1 in
      let low : k < 2 = let l : k ≤ 1 = leb-true _ _ mark.0 in omega arith in
      stands_record x (with_critical (record_at ts x) k) (critical_at (s.threads x) (eqb k 1)) s.known b n
      (subst (λ (m : Bool). WorldRep s.limits s.topology s.known (runs s) (set ts x (with_critical (record_at ts x) k)) cs
      (with_thread (world_with s.threads) x (critical_at (s.threads x) m))) (critical_mark k low)
      (shows_critical shows_now x k (reached.numbered x known.0)))

  -- 19
  pub stands_remove_donation : (x used : ℕ) (b : State) → Counted a b s.sealed s.tick (length s.topology.nodes) → refusal s (asks (remove_donation x) used) ≡ 0
      → StateRep (set ts x (remove_donated_priority (record_at ts x))) cs ns b (obeys s (remove_donation x)).state
  unfolding obeys refusal concerning sealed_now thread_declared
  stands_remove_donation x used b n e =
      let known = yes 4 _ _ (yes 2 _ _ e).1 in
      stands_record x (remove_donated_priority (record_at ts x)) (donated_to (s.threads x) None) s.known b n (shows_removed shows_now x (reached.numbered x known.0))

  -- a thread that is not known neither runs nor waits
  unknown_free : (x : ℕ) → s.known x ≡ false → Free (world_of s) x
  unknown_free x e c = both (waits (world_of s) c x) (λ t. absurd (true≢false (sym (reached.sound.placed c x t).1 ∙ e))) (λ t. t)

  unknown_runs : (x : ℕ) → s.known x ≡ false → runs s x ≡ false
  unfolding runs runs_on world_of
  unknown_runs x e =
      any_none s.limits.cpus (λ c. is_number x (s.cpus c).running)
      (λ c h. both (is_number x (s.cpus c).running) (λ t. absurd (true≢false (sym (reached.sound.runs c x (is_some_number x (s.cpus c).running t)).1 ∙ e))) (λ t. t))

  pin_yes : (pin : Option ℕ) (l : List Question) → first_no (pin_declared s pin ∷ l) ≡ 0 → ((cpu_in (field_of (pin_number pin))) ≡ pin) × (first_no l ≡ 0)
  unfolding pin_declared cpu_declared declared pin_number
  pin_yes None l e = (named_none NONE (omega arith), (yes 3 true l e).1)
  pin_yes (Some c) l e =
      let y = yes 3 (ltb c s.limits.cpus && s.topology.declared c) l e in
      let near : c < s.limits.cpus = ltb-true _ _ (first_so (ltb c s.limits.cpus) (s.topology.declared c) y.0) in
      (named_field c (omega (arith, m.small.cpus)), y.1)

  -- 10
  pub stands_declare_thread : (x k v used : ℕ) (pin : Option ℕ) (b : State) → Counted a b s.sealed s.tick (length s.topology.nodes) → refusal s (asks (declare_thread x k v pin) used) ≡ 0
      → StateRep (set ts x (new (priority (class_at k) v) (pin_number pin))) cs ns b (obeys s (declare_thread x k v pin)).state
  unfolding obeys refusal concerning sealed_now thread_new priority_in_range with_thread world_of new new_thread nr_values
  stands_declare_thread x k v used pin b n e =
      let pinning = pin_yes pin _ (yes 2 _ _ e).1 in
      let fresh = yes 4 _ _ pinning.1 in
      let range = yes 5 _ _ fresh.1 in
      let h : x < s.limits.threads = ltb-true _ _ (first_so (ltb x s.limits.threads) (not (s.known x)) fresh.0) in
      let unknown : s.known x ≡ false = not-true _ (second_so (ltb x s.limits.threads) (not (s.known x)) fresh.0) in
      let low : v ≤ 127 = leb-true _ _ (second_so (leb k 3) (leb v 127) range.0) in
      let t : Thread = new (priority (class_at k) v) (pin_number pin) in
      let u : times.Thread = new_thread (priority (class_at k) v) pin in
      let r : reads t ≡ u = reads_new (priority (class_at k) v) (pin_number pin) (omega arith) ∙ ap (new_thread (priority (class_at k) v)) pinning.0 in
      stands_record x t u (at s.known x true) b n (shows_new shows_now x t u h (unknown_free x unknown) (unknown_runs x unknown) r refl refl)
