-- A refused call leaves the state as it was and makes no puts and takes; its number is that of the first question answered no.
use Rattle.std.specs.Prelude.{ℕ, ◌≡◌, refl, ◌≢◌, List, [], eqb, Option, None, Some}
use Rattle.std.proofs.Common.{sym, ◌∙◌, eqb-true}
use Rattle.rules.proofs.Laws.Line.{both}
use Rattle.rules.specs.State.{State}
use Rattle.rules.specs.Schedule.{World}
use Rattle.rules.specs.Requests.{Request, declare_cpu, add_node, place_cpu, seal, set_shortest, declare_thread, set_tick, schedule_thread, schedule, hardtick, stattick, resched, maybe_preempt, donate, remove_donation, set_critical, Reading, unknown, cut_short, asks, read}
use Rattle.rules.specs.Questions.{refusal}
use Rattle.rules.specs.Commands.{nothing_shown, shown, no_log, refuses, changed, ran, scheduled_on, schedules, ran_on, obeys, answered, step}

obeyed_on : (s : State) (us x : ℕ) (w : World) (o : Option ℕ) → (scheduled_on s us x w o).answer.refused ≡ 0
unfolding scheduled_on ran shown
obeyed_on s us x w None = refl
obeyed_on s us x w (Some c) = refl

obeyed : (s : State) (q : Request) → (obeys s q).answer.refused ≡ 0
unfolding obeys changed ran_on ran schedules nothing_shown shown
obeyed s (declare_cpu c) = refl
obeyed s (add_node p k) = refl
obeyed s (place_cpu n c) = refl
obeyed s seal = refl
obeyed s (set_shortest n) = refl
obeyed s (declare_thread x k v p) = refl
obeyed s (set_tick t) = refl
obeyed s (schedule_thread c x) = obeyed_on s c x _ _
obeyed s (schedule c f) = refl
obeyed s (hardtick c) = refl
obeyed s (stattick c n) = refl
obeyed s (resched c) = refl
obeyed s (maybe_preempt c) = refl
obeyed s (donate c x k v) = refl
obeyed s (remove_donation x) = refl
obeyed s (set_critical x m) = refl

pub answered_number : (s : State) (q : Reading) → (answered s q).answer.refused ≡ refusal s q
unfolding answered refuses nothing_shown refusal
answered_number s unknown = refl
answered_number s cut_short = refl
answered_number s (asks q used) = both (eqb (refusal s (asks q used)) 0) (λ e. rw e (obeyed s q ∙ sym (eqb-true _ 0 e))) (λ e. rw e)

answered_refused : (s : State) (q : Reading) → (answered s q).answer.refused ≢ 0 → ((answered s q).state ≡ s) × ((c : ℕ) → (answered s q).log c ≡ [])
unfolding answered refuses no_log
answered_refused s unknown n = (refl, λ c. refl)
answered_refused s cut_short n = (refl, λ c. refl)
answered_refused s (asks q used) n = both (eqb (refusal s (asks q used)) 0) (λ e. absurd (n (rw e (obeyed s q)))) (λ e. rw e (refl, λ c. refl))

-- "A no gives the number, changes nothing, and no later question is put."
pub refused_number : (s : State) (bytes : List ℕ) → (step s bytes).answer.refused ≡ refusal s (read s.limits bytes)
unfolding step
refused_number s bytes = answered_number s (read s.limits bytes)

pub refused_nothing : (s : State) (bytes : List ℕ) → (step s bytes).answer.refused ≢ 0 → ((step s bytes).state ≡ s) × ((c : ℕ) → (step s bytes).log c ≡ [])
unfolding step
refused_nothing s bytes n = answered_refused s (read s.limits bytes) n
