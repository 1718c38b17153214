-- Question 6 as far as it needs no state, among the questions of each command.
use Rattle.std.specs.Prelude.{ℕ, ◌≤◌, ◌≡◌, ◌≢◌, true, false, List, [], ◌∷◌, ltb, None, Some}
use Rattle.std.proofs.Math.Path.{refl}
use Rattle.std.proofs.Common.{true≢false, ltb-true, arith}
use Rattle.std.proofs.lemmas.Bool.{eqb-false}
use Rattle.rules.specs.State.{State}
use Rattle.rules.specs.Requests.{Request, declare_cpu, add_node, place_cpu, seal, set_shortest, declare_thread, set_tick, schedule_thread, schedule, hardtick, stattick, resched, maybe_preempt, donate, remove_donation, set_critical, asks}
use Rattle.rules.specs.Questions.{Question, question, at_most, shortest_in_range, priority_in_range, in_range, refusal, concerning, first_no, room, open_yet, sealed_now, cpu_declared, cpu_new, pin_declared, thread_declared, thread_new, thread_blocked, tick_fits, all_placed}
use Rattle.rules.specs.Writer.{names_node}
use Rattle.rules.proofs.Laws.Line.{both}

abbrev From1To6 : ℕ → Type 0
From1To6 n = (1 ≤ n) × (n ≤ 6)

-- a question, then others
then_on : (q : Question) (l : List Question) → From1To6 q.number → From1To6 (first_no l) → From1To6 (first_no (q ∷ l))
unfolding first_no
then_on q l h k = both q.answer (λ e. rw e k) (λ e. rw e h)

stops : (q : Question) (l : List Question) → From1To6 q.number → q.answer ≡ false → From1To6 (first_no (q ∷ l))
unfolding first_no
stops q l h e = rw e h

low : (n : ℕ) → ltb 0 n ≡ true → ltb n 7 ≡ true → From1To6 n
low n h k = (ltb-true 0 n h, omega (arith, ltb-true n 7 k))

other : (q : Question) (l : List Question) → q.number ≢ 6 → first_no l ≢ 6 → first_no (q ∷ l) ≢ 6
unfolding first_no
other q l h k = both q.answer (λ e. rw e k) (λ e. rw e h)

passes : (q : Question) (l : List Question) → q.answer ≡ true → first_no l ≢ 6 → first_no (q ∷ l) ≢ 6
unfolding first_no
passes q l e k = rw e k

no_more : first_no [] ≢ 6
unfolding first_no
no_more = eqb-false 0 6 refl

module _ (s : State) (used : ℕ) where
  pub out_of_range : (q : Request) → (in_range q).answer ≡ false → From1To6 (refusal s (asks q used))
  unfolding refusal concerning question at_most shortest_in_range priority_in_range open_yet sealed_now cpu_declared pin_declared thread_declared thread_new
  out_of_range (declare_cpu c) h = absurd (true≢false h)
  out_of_range (add_node p k) h = then_on _ _ (low 3 refl refl) (stops _ _ (low 6 refl refl) h)
  out_of_range (place_cpu n c) h = absurd (true≢false h)
  out_of_range seal h = absurd (true≢false h)
  out_of_range (set_shortest k) h = then_on _ _ (low 3 refl refl) (stops _ _ (low 6 refl refl) h)
  out_of_range (declare_thread x k v None) h =
      then_on _ _ (low 3 refl refl) (then_on _ _ (low 4 refl refl) (then_on _ _ (low 5 refl refl) (stops _ _ (low 6 refl refl) h)))
  out_of_range (declare_thread x k v (Some c)) h =
      then_on _ _ (low 3 refl refl) (then_on _ _ (low 4 refl refl) (then_on _ _ (low 5 refl refl) (stops _ _ (low 6 refl refl) h)))
  out_of_range (set_tick t) h = absurd (true≢false h)
  out_of_range (schedule_thread c x) h = absurd (true≢false h)
  out_of_range (schedule c f) h = then_on _ _ (low 3 refl refl) (then_on _ _ (low 4 refl refl) (stops _ _ (low 6 refl refl) h))
  out_of_range (hardtick c) h = absurd (true≢false h)
  out_of_range (stattick c n) h = absurd (true≢false h)
  out_of_range (resched c) h = absurd (true≢false h)
  out_of_range (maybe_preempt c) h = absurd (true≢false h)
  out_of_range (donate c x k v) h = then_on _ _ (low 3 refl refl) (then_on _ _ (low 4 refl refl) (then_on _ _ (low 5 refl refl) (stops _ _ (low 6 refl refl) h)))
  out_of_range (remove_donation x) h = absurd (true≢false h)
  out_of_range (set_critical x m) h = then_on _ _ (low 3 refl refl) (then_on _ _ (low 5 refl refl) (stops _ _ (low 6 refl refl) h))

  room_left : first_no (room s ∷ []) ≢ 6
  unfolding room question
  room_left = other _ _ (eqb-false 10 6 refl) no_more

  pub in_range_passes : (q : Request) → (in_range q).answer ≡ true → names_node q ≡ false → refusal s (asks q used) ≢ 6
  unfolding refusal concerning question at_most shortest_in_range priority_in_range open_yet sealed_now cpu_declared cpu_new pin_declared thread_declared thread_new thread_blocked tick_fits all_placed room names_node
  in_range_passes (declare_cpu c) h n = other _ _ (eqb-false 3 6 refl) (other _ _ (eqb-false 4 6 refl) room_left)
  in_range_passes (add_node p k) h n = absurd (true≢false n)
  in_range_passes (place_cpu m c) h n = absurd (true≢false n)
  in_range_passes seal h n = other _ _ (eqb-false 3 6 refl) (other _ _ (eqb-false 9 6 refl) room_left)
  in_range_passes (set_shortest k) h n = other _ _ (eqb-false 3 6 refl) (passes _ _ h room_left)
  in_range_passes (declare_thread x k v None) h n = other _ _ (eqb-false 3 6 refl) (other _ _ (eqb-false 4 6 refl) (other _ _ (eqb-false 5 6 refl) (passes _ _ h room_left)))
  in_range_passes (declare_thread x k v (Some c)) h n = other _ _ (eqb-false 3 6 refl) (other _ _ (eqb-false 4 6 refl) (other _ _ (eqb-false 5 6 refl) (passes _ _ h room_left)))
  in_range_passes (set_tick t) h n = other _ _ (eqb-false 3 6 refl) (other _ _ (eqb-false 8 6 refl) room_left)
  in_range_passes (schedule_thread c x) h n = other _ _ (eqb-false 3 6 refl) (other _ _ (eqb-false 4 6 refl) (other _ _ (eqb-false 5 6 refl) (other _ _ (eqb-false 7 6 refl) room_left)))
  in_range_passes (schedule c f) h n = other _ _ (eqb-false 3 6 refl) (other _ _ (eqb-false 4 6 refl) (passes _ _ h room_left))
  in_range_passes (hardtick c) h n = other _ _ (eqb-false 3 6 refl) (other _ _ (eqb-false 4 6 refl) room_left)
  in_range_passes (stattick c m) h n = other _ _ (eqb-false 3 6 refl) (other _ _ (eqb-false 4 6 refl) room_left)
  in_range_passes (resched c) h n = other _ _ (eqb-false 3 6 refl) (other _ _ (eqb-false 4 6 refl) room_left)
  in_range_passes (maybe_preempt c) h n = other _ _ (eqb-false 3 6 refl) (other _ _ (eqb-false 4 6 refl) room_left)
  in_range_passes (donate c x k v) h n = other _ _ (eqb-false 3 6 refl) (other _ _ (eqb-false 4 6 refl) (other _ _ (eqb-false 5 6 refl) (passes _ _ h room_left)))
  in_range_passes (remove_donation x) h n = other _ _ (eqb-false 3 6 refl) (other _ _ (eqb-false 5 6 refl) room_left)
  in_range_passes (set_critical x m) h n = other _ _ (eqb-false 3 6 refl) (other _ _ (eqb-false 5 6 refl) (passes _ _ h room_left))
