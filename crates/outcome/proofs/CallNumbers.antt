-- The numbers of a request ask that request, unless its pin is the number that says none.
use Rattle.std.specs.Prelude.{◌≡◌, ◌≢◌, ℕ, eqb, None, Some}
use Rattle.std.proofs.Math.Path.{refl, ap}
use borrow.Author.Tests.{eqb-true}
use Rattle.rules.proofs.Laws.Line.{both}
use Rattle.rules.specs.Requests.{Request, declare_cpu, add_node, place_cpu, seal, set_shortest, declare_thread, set_tick, schedule_thread, schedule, hardtick, stattick, resched, maybe_preempt, donate, remove_donation, set_critical}
use Rattle.thread.specs.Thread.{NONE}
use Rattle.thread.specs.Place.{pin_number}
use Rattle.outcome.specs.Numbers.{prepared_by, request_by, call_of}

pub numbers_again : (r : Request) (used : ℕ) → ((x k v : ℕ) → r ≢ declare_thread x k v (Some NONE)) → request_by (call_of r used) ≡ r
unfolding request_by prepared_by call_of pin_number
numbers_again (declare_cpu c) used h = refl
numbers_again (add_node p k) used h = refl
numbers_again (place_cpu n c) used h = refl
numbers_again seal used h = refl
numbers_again (set_shortest n) used h = refl
numbers_again (declare_thread x k v None) used h = refl
numbers_again (declare_thread x k v (Some c)) used h =
    both (eqb c NONE) (λ t. absurd (h x k v (ap (λ (n : ℕ). declare_thread x k v (Some n)) (eqb-true c NONE t)))) (λ t. rw t)
numbers_again (set_tick t) used h = refl
numbers_again (schedule_thread c x) used h = refl
numbers_again (schedule c f) used h = refl
numbers_again (hardtick c) used h = refl
numbers_again (stattick c n) used h = refl
numbers_again (resched c) used h = refl
numbers_again (maybe_preempt c) used h = refl
numbers_again (donate c x k v) used h = refl
numbers_again (remove_donation x) used h = refl
numbers_again (set_critical x m) used h = refl
