-- THE QUESTIONS: each, asked of memory that stands for a state which the rules reach, is answered as the rules answer it; so the refusal of every reading
-- is that of the rules.
use Prim.Native.Nat.{ℕ, zero, suc, ◌<◌, ◌≤◌}
use Rattle.std.specs.Prelude.{◌≡◌, Bool, true, false, ◌&&◌, ◌||◌, List, eqb, ltb, Option, None, Some, is_some}
use Rattle.std.proofs.Math.Path.{refl, sym, ap}
use Rattle.std.proofs.Common.{◌∙◌, true≢false, arith}
use Rattle.std.proofs.Math.Bool.{not, not-not, or-true}
use Rattle.std.proofs.Math.ListN.{length}
use Rattle.std.proofs.Math.Dec.{leb}
use borrow.Author.Tests.{ne_eqb, lt-ltb, lt-leb, ltb-true}
use Rattle.rules.specs.Line.{has}
use Rattle.rules.proofs.Laws.Line.{both}
use Rattle.rules.proofs.Laws.Limits.{read_widths}
use Rattle.rules.specs.Queue.{order}
use Rattle.rules.specs.Puts.{PutOrTake}
use Rattle.rules.specs.State as rules
use Rattle.rules.specs.State.{Limits, any_below, runs_on, waits_on, blocked}
use Rattle.rules.specs.Topology.{nr_nodes, leaf}
use Rattle.rules.specs.Requests.{read}
use Rattle.rules.specs.Questions as rules_ask
use Rattle.rules.specs.Questions.{Question, question, first_no, refusal}
use Rattle.rules.proofs.Seal.{those_alone}
use Rattle.rules.specs.Commands.{world_of}
use Rattle.rules.specs.Waits.{Free}
use Rattle.rules.proofs.Laws.Reached.{Reached, any_not}
use Rattle.thread.specs.declared.Thread.{Thread}
use Rattle.thread.specs.declared.place.Place.TheVariants as place
use Rattle.thread.specs.Thread.{NONE, BLOCKED, RUNNING, WAITING}
use Rattle.thread.specs.Place.{place_in, is_declared}
use Rattle.processor.specs.Words.{word}
use Rattle.processor.specs.Word.{DECLARED, PLACED}
use Rattle.records.specs.Rq.{record_at}
use Rattle.represents.specs.World.{mark_in, place_at}
use Rattle.represents.proofs.Laws.Numbers.{none_number}
use Rattle.represents.proofs.Laws.NumberLists.{any_true, any_none, any_at}
use Rattle.represents.proofs.Laws.Topology.{own_same}
use Rattle.request.specs.Request.{limits_of}
use Rattle.questions.specs.declared.state.State.{State}
use Rattle.questions.specs.Questions as ask
use Rattle.represents.specs.State.{limits_in, runs, StateRep}
use Rattle.represents.proofs.Laws.State.{cpus_are, nodes_are, threads_are}
use Rattle.question_laws.specs.Answers.{is_blocked}

-- ---- general

mark_test : (n : ℕ) → ltb 0 n ≡ mark_in n
unfolding mark_in
mark_test zero = refl
mark_test (suc n) = rw (lt-ltb 0 (suc n) (omega arith), ne_eqb (suc n) 0 (λ e. omega arith))

zero_test : (n : ℕ) → leb n 0 ≡ not (mark_in n)
unfolding mark_in
zero_test zero = refl
zero_test (suc n) = rw (lt-leb (suc n) 0 (omega arith), ne_eqb (suc n) 0 (λ e. omega arith))

blocked_test : (n : ℕ) → eqb n BLOCKED ≡ is_blocked (place_in n)
unfolding place_in is_blocked
blocked_test n =
    both (eqb n BLOCKED) (λ t. rw t)
    (λ t. rw t (both (eqb n RUNNING) (λ u. rw u) (λ u. rw u (both (eqb n WAITING) (λ v. rw v) (λ v. rw v)))))

-- ---- memory that stands for a state

module _ {H : ℕ → List PutOrTake} {ts : List Thread} {cs ns : List (List ℕ)} {a : State} {s : rules.State} (m : StateRep ts cs ns a s) (reached : Reached H s) where
  -- 1 and 2: THE BYTES, read by the state's widths
  pub read_same : (bytes : List ℕ) → read (limits_of a.wide) bytes ≡ read s.limits bytes
  unfolding limits_of limits_in
  read_same bytes =
      read_widths (limits_of a.wide) s.limits (record {
        of_cpus = sym (ap (λ (l : Limits). l.cpu_bytes) m.limits);
        of_nodes = sym (ap (λ (l : Limits). l.node_bytes) m.limits);
      }) bytes

  -- 3
  pub open_same : ask.open_yet a ≡ rules_ask.open_yet s
  unfolding ask.open_yet rules_ask.open_yet
  open_same = ap (λ (b : Bool). question 3 (not b)) m.sealed

  pub sealed_same : ask.sealed_now a ≡ rules_ask.sealed_now s
  unfolding ask.sealed_now rules_ask.sealed_now
  sealed_same = ap (question 3) m.sealed

  -- 4
  pub declared_word : (c : ℕ) → c < s.limits.cpus → mark_in (word cs c DECLARED) ≡ s.topology.declared c
  declared_word c h = (m.shows.words c h).declared

  pub unplaced_word : (c : ℕ) → c < s.limits.cpus → eqb (word cs c PLACED) NONE ≡ not (is_some (s.topology.placed c))
  unfolding nr_nodes
  unplaced_word c h =
      rw (m.shows.words c h).placed
      (none_number (s.topology.placed c)
      (λ x e. let l : x < length s.topology.nodes = (m.tree.sound.placed_there c x e).1.0 in omega (arith, m.nodes_fit, m.few_nodes)))

  pub declared_same : (c : ℕ) → ask.declared cs a c ≡ rules_ask.declared s c
  unfolding ask.declared rules_ask.declared
  declared_same c =
      rw (← (cpus_are m))
      (both (ltb c s.limits.cpus) (λ e. rw (e, mark_test (word cs c DECLARED)) (declared_word c (ltb-true _ _ e))) (λ e. rw e))

  pub cpu_declared_same : (c : ℕ) → ask.cpu_declared cs a c ≡ rules_ask.cpu_declared s c
  unfolding ask.cpu_declared rules_ask.cpu_declared
  cpu_declared_same c = ap (question 4) (declared_same c)

  pub cpu_new_same : (c : ℕ) → ask.cpu_new cs a c ≡ rules_ask.cpu_new s c
  unfolding ask.cpu_new rules_ask.cpu_new
  cpu_new_same c =
      rw (← (cpus_are m))
      (ap (question 4)
      (both (ltb c s.limits.cpus) (λ e. rw (e, zero_test (word cs c DECLARED)) (ap not (declared_word c (ltb-true _ _ e)))) (λ e. rw e)))

  pub cpu_unplaced_same : (c : ℕ) → ask.cpu_unplaced cs a c ≡ rules_ask.cpu_unplaced s c
  unfolding ask.cpu_unplaced rules_ask.cpu_unplaced rules_ask.declared
  cpu_unplaced_same c =
      rw (declared_same c)
      (ap (question 4)
      (both (ltb c s.limits.cpus) (λ e. rw (e, unplaced_word c (ltb-true _ _ e))) (λ e. rw e)))

  pub pin_declared_same : (pin : Option ℕ) → ask.pin_declared cs a pin ≡ rules_ask.pin_declared s pin
  unfolding ask.pin_declared rules_ask.pin_declared
  pin_declared_same None = refl
  pin_declared_same (Some c) = cpu_declared_same c

  -- a thread that the rules know runs, waits, or is blocked, and its record says so
  pub unknown_place : (x : ℕ) → s.known x ≡ false → place_at ts x ≡ place.Undeclared
  unknown_place x e = m.shows.places.undeclared x e

  waiting_place : (x c : ℕ) → waits_on s c x ≡ true → place_at ts x ≡ place.Waiting
  unfolding waits_on world_of
  waiting_place x c t = m.shows.places.waiting c x t

  idle_free : (x : ℕ) → any_below s.limits.cpus (λ c. waits_on s c x) ≡ false → Free (world_of s) x
  unfolding waits_on world_of
  idle_free x e c =
      both (has x (order (s.cpus c).queue))
      (λ t. absurd (true≢false (sym t ∙ any_not s.limits.cpus (λ c. has x (order (s.cpus c).queue)) e c (reached.sound.placed c x t).0)))
      (λ t. t)

  known_place : (x : ℕ) → s.known x ≡ true → (is_declared (place_at ts x) ≡ true) × (is_blocked (place_at ts x) ≡ blocked s x)
  unfolding blocked runs is_declared is_blocked
  known_place x k =
      let n : ℕ = s.limits.cpus in
      both (any_below n (λ c. runs_on s c x))
      (λ r. any_at n (λ c. runs_on s c x) r
      (λ c h t. rw (m.shows.places.running x r, any_true n (λ d. runs_on s d x || waits_on s d x) c h (rw t)) (refl, refl)))
      (λ r. both (any_below n (λ c. waits_on s c x))
      (λ w. any_at n (λ c. waits_on s c x) w
      (λ c h t. rw (waiting_place x c t, any_true n (λ d. runs_on s d x || waits_on s d x) c h (rw t (or-true (runs_on s c x)))) (refl, refl)))
      (λ w.
      rw (
        m.shows.places.blocked x (reached.numbered x k) k r (idle_free x w),
        any_none n (λ d. runs_on s d x || waits_on s d x) (λ c h. rw (any_not n (λ d. runs_on s d x) r c h, any_not n (λ d. waits_on s d x) w c h)),
      )
      (refl, refl)))

  known_same : (x : ℕ) → is_declared (place_at ts x) ≡ s.known x
  known_same x = both (s.known x) (λ k. (known_place x k).0 ∙ sym k) (λ k. rw (unknown_place x k, k) (unfold is_declared in refl))

  -- 5
  pub thread_declared_same : (x : ℕ) → ask.thread_declared (record_at ts x) ≡ rules_ask.thread_declared s x
  unfolding ask.thread_declared rules_ask.thread_declared
  thread_declared_same x = ap (question 5) (known_same x)

  pub thread_new_same : (x : ℕ) → ask.thread_new x (record_at ts x) ≡ rules_ask.thread_new s x
  unfolding ask.thread_new rules_ask.thread_new
  thread_new_same x = rw (known_same x, (threads_are m))

  -- 7: of a thread that is declared
  pub thread_blocked_same : (x : ℕ) → s.known x ≡ true → ask.thread_blocked (record_at ts x) ≡ rules_ask.thread_blocked s x
  unfolding ask.thread_blocked rules_ask.thread_blocked
  thread_blocked_same x k = ap (question 7) (blocked_test (record_at ts x).place ∙ (known_place x k).1)

  -- 6
  pub node_exists_same : (n : ℕ) → ask.node_exists a n ≡ rules_ask.node_exists s n
  unfolding ask.node_exists rules_ask.node_exists
  node_exists_same n = ap (λ (k : ℕ). question 6 (ltb n k)) m.node_count

  pub parent_same : (n : ℕ) → n < length s.topology.nodes → ask.parent_without_cpus ns n ≡ rules_ask.parent_without_cpus s n
  unfolding ask.parent_without_cpus rules_ask.parent_without_cpus nr_nodes
  parent_same n h = ap (λ (b : Bool). question 6 (not b)) (own_same s.limits ns s.topology m.tree n h)

  pub node_fits_same : ask.node_fits a ≡ rules_ask.node_fits s
  unfolding ask.node_fits rules_ask.node_fits
  node_fits_same = rw (← (nodes_are m), m.node_count)

  pub childless_same : (n : ℕ) → n < length s.topology.nodes → ask.node_childless ns n ≡ rules_ask.node_childless s n
  unfolding ask.node_childless rules_ask.node_childless nr_nodes
  childless_same n h = ap (question 6) (ap not (m.tree.children_is n h) ∙ not-not (leaf s.limits s.topology n))

  -- 8
  pub tick_fits_same : (t : ℕ) → ask.tick_fits a t ≡ rules_ask.tick_fits s t
  unfolding ask.tick_fits rules_ask.tick_fits
  tick_fits_same t = ap (λ (n : ℕ). question 8 (leb n t && leb t 4611686018427387904)) m.tick

  -- 9: what the pass over the words holds after each number, the rules' pass holds
  pub all_placed_below_same : (n : ℕ) → n ≤ s.limits.cpus → ask.all_placed_below cs n ≡ rules_ask.all_placed_below s.topology.declared (rules_ask.placed s) n
  unfolding rules_ask.all_placed_below rules_ask.placed
  all_placed_below_same zero h = refl
  all_placed_below_same (suc n) h =
      those_alone _ _ _ _ n (λ c l. mark_test (word cs c DECLARED) ∙ declared_word c (omega arith))
      (λ c l. ap not (unplaced_word c (omega arith)) ∙ not-not (is_some (s.topology.placed c)))

  -- 10
  pub room_same : ask.room a ≡ rules_ask.room s
  unfolding ask.room rules_ask.room
  room_same = ap (λ (n : ℕ). question 10 (ltb n rules_ask.most_accepted)) m.accepted
