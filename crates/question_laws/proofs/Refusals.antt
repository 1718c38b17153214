-- THE REFUSAL OF EVERY READING, asked of memory that stands for a state which the rules reach, is that of the rules: its questions, one after the other (Answers).
use Prim.Native.Nat.{ℕ, ◌<◌}
use Rattle.std.specs.Prelude.{◌≡◌, true, List, [], ◌∷◌, ◌++◌}
use Rattle.std.proofs.Math.Path.{refl, ap}
use Rattle.std.proofs.Common.{arith}
use Rattle.std.proofs.Math.ListN.{length}
use borrow.Author.Tests.{ltb-true}
use Rattle.rules.proofs.Laws.Line.{both}
use Rattle.rules.specs.Puts.{PutOrTake}
use Rattle.rules.specs.State as rules
use Rattle.rules.specs.State.{Limits, any_below, runs_on, waits_on, blocked}
use Rattle.rules.specs.Requests.{Request, declare_cpu, add_node, place_cpu, seal, set_shortest, declare_thread, set_tick, schedule_thread, schedule, hardtick, stattick, resched, maybe_preempt, donate, remove_donation, set_critical, Reading, unknown, cut_short, asks}
use Rattle.rules.specs.Questions as rules_ask
use Rattle.rules.specs.Questions.{Question, question, first_no, refusal}
use Rattle.rules.proofs.Laws.Reached.{Reached}
use Rattle.thread.specs.declared.Thread.{Thread}
use Rattle.records.specs.Rq.{record_at}
use Rattle.questions.specs.declared.state.State.{State}
use Rattle.questions.specs.Questions as ask
use Rattle.represents.specs.State.{StateRep}
use Rattle.represents.proofs.Laws.State.{cpus_are}
use Rattle.outcome.specs.Call.{thread_in, thread_named, named_record}
use Rattle.question_laws.proofs.Answers.{open_same, sealed_same, cpu_declared_same, cpu_new_same, cpu_unplaced_same, pin_declared_same, thread_declared_same, thread_new_same, thread_blocked_same, node_exists_same, parent_same, node_fits_same, childless_same, tick_fits_same, all_placed_below_same, room_same}

-- a question that is answered alike, and where it is answered yes those after it
first_then : (p q : Question) (l m : List Question) → p ≡ q → (q.answer ≡ true → first_no l ≡ first_no m) → first_no (p ∷ l) ≡ first_no (q ∷ m)
unfolding first_no
first_then p q l m e f = rw e (both q.answer (λ t. rw t (f t)) (λ t. rw t))

module _ {H : ℕ → List PutOrTake} {ts : List Thread} {cs ns : List (List ℕ)} {a : State} {s : rules.State} (m : StateRep ts cs ns a s) (reached : Reached H s) where
  -- 9
  pub all_placed_same : ask.all_placed cs a ≡ rules_ask.all_placed s
  unfolding ask.all_placed rules_ask.all_placed
  all_placed_same = rw (← cpus_are m) (ap (question 9) (all_placed_below_same m reached s.limits.cpus (omega arith)))

  exists : (n : ℕ) → (rules_ask.node_exists s n).answer ≡ true → n < length s.topology.nodes
  unfolding rules_ask.node_exists question
  exists n e = ltb-true _ _ e

  knows : (x : ℕ) → (rules_ask.thread_declared s x).answer ≡ true → s.known x ≡ true
  unfolding rules_ask.thread_declared question
  knows x e = e

  -- THE REFUSAL OF EACH REQUEST, asked with the record of the thread that it names
  pub asked_same : (r : Request) → ask.asked_of cs ns a (named_record ts (thread_named r)) r ≡ first_no (rules_ask.concerning s r ++ (rules_ask.room s ∷ []))
  unfolding ask.asked_of ask.concerning rules_ask.concerning thread_named named_record
  asked_same (declare_cpu c) = rw (open_same m reached, cpu_new_same m reached c, room_same m reached)
  asked_same (add_node p k) =
      rw (open_same m reached, node_exists_same m reached p, node_fits_same m reached, room_same m reached)
      (first_then _ _ _ _ refl (λ o. first_then _ _ _ _ refl (λ l. first_then _ _ _ _ refl (λ e. first_then _ _ _ _ (parent_same m reached p (exists p e)) (λ y. refl)))))
  asked_same (place_cpu n c) =
      rw (open_same m reached, cpu_unplaced_same m reached c, node_exists_same m reached n, room_same m reached)
      (first_then _ _ _ _ refl (λ o. first_then _ _ _ _ refl (λ l. first_then _ _ _ _ refl (λ e. first_then _ _ _ _ (childless_same m reached n (exists n e)) (λ y. refl)))))
  asked_same seal = rw (open_same m reached, all_placed_same, room_same m reached)
  asked_same (set_shortest n) = rw (open_same m reached, room_same m reached)
  asked_same (declare_thread x k v pin) = rw (sealed_same m reached, pin_declared_same m reached pin, thread_new_same m reached x, room_same m reached)
  asked_same (set_tick n) = rw (sealed_same m reached, tick_fits_same m reached n, room_same m reached)
  asked_same (schedule_thread c x) =
      rw (sealed_same m reached, cpu_declared_same m reached c, thread_declared_same m reached x, room_same m reached)
      (first_then _ _ _ _ refl (λ o. first_then _ _ _ _ refl (λ l. first_then _ _ _ _ refl (λ e. first_then _ _ _ _ (thread_blocked_same m reached x (knows x e)) (λ y. refl)))))
  asked_same (schedule c flags) = rw (sealed_same m reached, cpu_declared_same m reached c, room_same m reached)
  asked_same (hardtick c) = rw (sealed_same m reached, cpu_declared_same m reached c, room_same m reached)
  asked_same (stattick c n) = rw (sealed_same m reached, cpu_declared_same m reached c, room_same m reached)
  asked_same (resched c) = rw (sealed_same m reached, cpu_declared_same m reached c, room_same m reached)
  asked_same (maybe_preempt c) = rw (sealed_same m reached, cpu_declared_same m reached c, room_same m reached)
  asked_same (donate c x k v) = rw (sealed_same m reached, cpu_declared_same m reached c, thread_declared_same m reached x, room_same m reached)
  asked_same (remove_donation x) = rw (sealed_same m reached, thread_declared_same m reached x, room_same m reached)
  asked_same (set_critical x k) = rw (sealed_same m reached, thread_declared_same m reached x, room_same m reached)

  -- THE REFUSAL OF EACH READING
  pub refusal_same : (r : Reading) → ask.refusal_in cs ns a (named_record ts (thread_in r)) r ≡ refusal s r
  unfolding ask.refusal_in refusal thread_in named_record
  refusal_same unknown = refl
  refusal_same cut_short = refl
  refusal_same (asks r used) = asked_same r
