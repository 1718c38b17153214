-- THE COMMANDS THAT TOUCH NO QUEUE (hex 01 to 05, 10, 11, 19, 1A): once obeyed, memory and answer are those of the rules.
use Rattle.std.specs.Prelude.{ℕ, ◌+◌, ◌%◌, ◌^◌, ◌<◌, ◌≡◌, refl, true, List, length, Option}
use Rattle.std.proofs.Common.{sym, subst, ◌∙◌, arith}
use Rattle.std.proofs.Math.Path.{ap}
use borrow.Author.Tests.{ltb-true}
use Rattle.rules.specs.Puts.{PutOrTake}
use Rattle.rules.specs.State as rules
use Rattle.rules.specs.Requests.{declare_cpu, add_node, place_cpu, seal, set_shortest, declare_thread, set_tick, remove_donation, set_critical, asks}
use Rattle.rules.specs.Questions.{refusal, concerning, open_yet, at_most, node_exists, parent_without_cpus, node_fits, most_accepted}
use Rattle.rules.specs.Commands as ruled
use Rattle.rules.specs.Commands.{obeys}
use Rattle.rules.proofs.Laws.Reached.{yes}
use Rattle.thread.specs.declared.Thread.{Thread}
use Rattle.lines.specs.Lines.{refusal_number, answer_of}
use Rattle.questions.specs.declared.state.State.{State}
use Rattle.sched_queues.specs.Donate.{remove_donated, set_critical_def}
use Rattle.outcome.specs.Answer.{accepted, nothing_shown, changed}
use Rattle.outcome.specs.Call.{priority_in, ticked, sealed_now, with_shortest, one_node_more}
use Rattle.command.specs.Command.{declare_thread_command, remove_donation_command, set_critical_command, obey_def}
use Rattle.represents.specs.State.{limits_in, StateRep}
use Rattle.represents.proofs.Laws.State.{Counted}
use Rattle.question_laws.proofs.Changes.{stands_declare_cpu, stands_add_node, stands_place_cpu, stands_seal, stands_set_shortest, stands_declare_thread, stands_set_tick, stands_remove_donation, stands_set_critical}
use Rattle.command_laws.specs.Law.{Reachable, AsRuled}
use Rattle.command_laws.proofs.Numbers.{few_accepted}
-- one command more does not wrap
use Rattle.command_laws.specs.Law.{lent}

pub one_more : (n : ℕ) → n < most_accepted → (n + 1) % 2 ^ 64 ≡ n + 1
unfolding most_accepted
one_more n h = omega arith

module _ {H : ℕ → List PutOrTake} {ts : List Thread} {cs ns : List (List ℕ)} {a : State} {s : rules.State} (m : StateRep ts cs ns a s) (reachable : Reachable H s) where
  accepted_one : s.accepted < most_accepted → (a.accepted + 1) % 2 ^ 64 ≡ a.accepted + 1
  accepted_one h = one_more a.accepted (subst (λ (n : ℕ). n < most_accepted) (sym m.accepted) h)

  counted : s.accepted < most_accepted → Counted a (accepted a) s.sealed s.tick (length s.topology.nodes)
  unfolding accepted limits_in
  counted h = record { limits_stay = refl; sealed_is = m.sealed; tick_is = m.tick; count_is = m.node_count; accepted_is = accepted_one h }

  -- 01
  pub plain_declare_cpu : (c used : ℕ) → refusal s (asks (declare_cpu c) used) ≡ 0 → AsRuled (obey_def a (declare_cpu c) used (lent ts cs ns)) (obeys s (declare_cpu c))
  unfolding obey_def changed nothing_shown answer_of refusal_number obeys ruled.changed ruled.nothing_shown
  plain_declare_cpu c used e = record {
    stands = stands_declare_cpu m reachable.reached c used (accepted a) (counted (few_accepted s (declare_cpu c) used e)) e;
    answer = refl;
  }

  -- 02: a node more does not wrap
  node_more : (p k used : ℕ) → refusal s (asks (add_node p k) used) ≡ 0 → length s.topology.nodes < s.limits.nodes
  unfolding refusal concerning open_yet at_most node_exists parent_without_cpus node_fits
  node_more p k used e =
      let fits = yes 5 _ _ (yes 5 _ _ (yes 5 _ _ (yes 5 _ _ (yes 2 _ _ e).1).1).1).1 in
      ltb-true _ _ fits.0

  counted_node : s.accepted < most_accepted → length s.topology.nodes < s.limits.nodes
      → Counted a (accepted (one_node_more a)) s.sealed s.tick (length s.topology.nodes + 1)
  unfolding accepted one_node_more limits_in most_accepted
  counted_node h l = record {
    limits_stay = refl;
    sealed_is = m.sealed;
    tick_is = m.tick;
    count_is = ap (λ (n : ℕ). (n + 1) % 2 ^ 64) m.node_count ∙ one_more (length s.topology.nodes) (omega (arith, m.few_nodes));
    accepted_is = accepted_one h;
  }

  pub plain_add_node : (p k used : ℕ) → refusal s (asks (add_node p k) used) ≡ 0 → AsRuled (obey_def a (add_node p k) used (lent ts cs ns)) (obeys s (add_node p k))
  unfolding obey_def changed nothing_shown answer_of refusal_number obeys ruled.changed ruled.nothing_shown
  plain_add_node p k used e = record {
    stands = stands_add_node m reachable.reached p k used (accepted (one_node_more a)) (counted_node (few_accepted s (add_node p k) used e) (node_more p k used e)) e;
    answer = refl;
  }

  -- 03
  pub plain_place_cpu : (n c used : ℕ) → refusal s (asks (place_cpu n c) used) ≡ 0 → AsRuled (obey_def a (place_cpu n c) used (lent ts cs ns)) (obeys s (place_cpu n c))
  unfolding obey_def changed nothing_shown answer_of refusal_number obeys ruled.changed ruled.nothing_shown
  plain_place_cpu n c used e = record {
    stands = stands_place_cpu m reachable.reached n c used (accepted a) (counted (few_accepted s (place_cpu n c) used e)) e;
    answer = refl;
  }

  -- 04
  counted_seal : s.accepted < most_accepted → Counted a (accepted (sealed_now a)) true s.tick (length s.topology.nodes)
  unfolding accepted sealed_now limits_in
  counted_seal h = record { limits_stay = refl; sealed_is = refl; tick_is = m.tick; count_is = m.node_count; accepted_is = accepted_one h }

  pub plain_seal : (used : ℕ) → refusal s (asks seal used) ≡ 0 → AsRuled (obey_def a seal used (lent ts cs ns)) (obeys s seal)
  unfolding obey_def changed nothing_shown answer_of refusal_number obeys ruled.changed ruled.nothing_shown
  plain_seal used e = record {
    stands = stands_seal m reachable.reached used (accepted (sealed_now a)) (counted_seal (few_accepted s seal used e)) e;
    answer = refl;
  }

  -- 05
  counted_shortest : (n : ℕ) → s.accepted < most_accepted → Counted (with_shortest a n) (accepted (with_shortest a n)) s.sealed s.tick (length s.topology.nodes)
  unfolding accepted with_shortest limits_in
  counted_shortest n h = record { limits_stay = refl; sealed_is = m.sealed; tick_is = m.tick; count_is = m.node_count; accepted_is = accepted_one h }

  pub plain_set_shortest : (n used : ℕ) → refusal s (asks (set_shortest n) used) ≡ 0 → AsRuled (obey_def a (set_shortest n) used (lent ts cs ns)) (obeys s (set_shortest n))
  unfolding obey_def changed nothing_shown answer_of refusal_number obeys ruled.changed ruled.nothing_shown
  plain_set_shortest n used e = record {
    stands = stands_set_shortest m reachable.reached n used (accepted (with_shortest a n)) (counted_shortest n (few_accepted s (set_shortest n) used e)) e;
    answer = refl;
  }

  -- 10
  pub plain_declare_thread : (x k v : ℕ) (pin : Option ℕ) (used : ℕ) → refusal s (asks (declare_thread x k v pin) used) ≡ 0
      → AsRuled (obey_def a (declare_thread x k v pin) used (lent ts cs ns)) (obeys s (declare_thread x k v pin))
  unfolding obey_def declare_thread_command priority_in changed nothing_shown answer_of refusal_number obeys ruled.changed ruled.nothing_shown
  plain_declare_thread x k v pin used e = record {
    stands = stands_declare_thread m reachable.reached x k v used pin (accepted a) (counted (few_accepted s (declare_thread x k v pin) used e)) e;
    answer = refl;
  }

  -- 11
  counted_tick : (t : ℕ) → s.accepted < most_accepted → Counted a (accepted (ticked a t)) s.sealed t (length s.topology.nodes)
  unfolding accepted ticked limits_in
  counted_tick t h = record { limits_stay = refl; sealed_is = m.sealed; tick_is = refl; count_is = m.node_count; accepted_is = accepted_one h }

  pub plain_set_tick : (t used : ℕ) → refusal s (asks (set_tick t) used) ≡ 0 → AsRuled (obey_def a (set_tick t) used (lent ts cs ns)) (obeys s (set_tick t))
  unfolding obey_def changed nothing_shown answer_of refusal_number obeys ruled.changed ruled.nothing_shown
  plain_set_tick t used e = record {
    stands = stands_set_tick m reachable.reached t used (accepted (ticked a t)) (counted_tick t (few_accepted s (set_tick t) used e)) e;
    answer = refl;
  }

  -- 19
  pub plain_remove_donation : (x used : ℕ) → refusal s (asks (remove_donation x) used) ≡ 0 → AsRuled (obey_def a (remove_donation x) used (lent ts cs ns)) (obeys s (remove_donation x))
  unfolding obey_def remove_donation_command remove_donated changed nothing_shown answer_of refusal_number obeys ruled.changed ruled.nothing_shown
  plain_remove_donation x used e = record {
    stands = stands_remove_donation m reachable.reached x used (accepted a) (counted (few_accepted s (remove_donation x) used e)) e;
    answer = refl;
  }

  -- 1A
  pub plain_set_critical : (x k used : ℕ) → refusal s (asks (set_critical x k) used) ≡ 0 → AsRuled (obey_def a (set_critical x k) used (lent ts cs ns)) (obeys s (set_critical x k))
  unfolding obey_def set_critical_command set_critical_def changed nothing_shown answer_of refusal_number obeys ruled.changed ruled.nothing_shown
  plain_set_critical x k used e = record {
    stands = stands_set_critical m reachable.reached x k used (accepted a) (counted (few_accepted s (set_critical x k) used e)) e;
    answer = refl;
  }
