-- The numbers of the questions, and the last question: a command that is obeyed was answered yes to all of them.
use Rattle.std.specs.Prelude.{ℕ, suc, ◌≤◌, ◌<◌, ◌≡◌, refl, Bool, true, ◌&&◌, List, [], ◌∷◌, ◌++◌, leb, None, Some}
use Rattle.std.proofs.Common.{arith, leb-true, ltb-true}
use Rattle.std.specs.Cmp.{first_so, second_so}
use Rattle.rules.proofs.Laws.Line.{both}
use Rattle.rules.specs.State.{State}
use Rattle.rules.specs.Requests.{Request, declare_cpu, add_node, place_cpu, seal, set_shortest, declare_thread, set_tick, schedule_thread, schedule, hardtick, stattick, resched, maybe_preempt, donate, remove_donation, set_critical, Reading, unknown, cut_short, asks}
use Rattle.rules.specs.Questions.{Question, question, first_no, refusal, concerning, room, most_accepted, open_yet, sealed_now, cpu_declared, cpu_new, cpu_unplaced, pin_declared, thread_declared, thread_new, thread_blocked, priority_in_range, at_most, shortest_in_range, node_exists, parent_without_cpus, node_fits, node_childless, tick_fits, all_placed}
use Rattle.rules.proofs.Laws.Reached.{yes}
use Rattle.command_laws.specs.Numbers.{numbered}

concerning_numbered : (s : State) (r : Request) → numbered (concerning s r) ≡ true
unfolding numbered concerning question open_yet sealed_now cpu_declared cpu_new cpu_unplaced pin_declared thread_declared thread_new thread_blocked priority_in_range at_most shortest_in_range node_exists parent_without_cpus node_fits node_childless tick_fits all_placed
concerning_numbered s (declare_cpu c) = refl
concerning_numbered s (add_node p k) = refl
concerning_numbered s (place_cpu n c) = refl
concerning_numbered s seal = refl
concerning_numbered s (set_shortest n) = refl
concerning_numbered s (declare_thread x k v None) = refl
concerning_numbered s (declare_thread x k v (Some c)) = refl
concerning_numbered s (set_tick t) = refl
concerning_numbered s (schedule_thread c x) = refl
concerning_numbered s (schedule c f) = refl
concerning_numbered s (hardtick c) = refl
concerning_numbered s (stattick c n) = refl
concerning_numbered s (resched c) = refl
concerning_numbered s (maybe_preempt c) = refl
concerning_numbered s (donate c x k v) = refl
concerning_numbered s (remove_donation x) = refl
concerning_numbered s (set_critical x k) = refl

last_yes : (l : List Question) (n : ℕ) (b : Bool) → numbered l ≡ true → first_no (l ++ (question (suc n) b ∷ [])) ≡ 0 → b ≡ true
unfolding numbered first_no
last_yes [] n b h e = (yes n b [] e).0
last_yes (q ∷ l) n b h e =
    let here = first_so (leb 1 q.number && leb q.number 10) (numbered l) h in
    let positive : 1 ≤ q.number = leb-true 1 q.number (first_so (leb 1 q.number) (leb q.number 10) here) in
    both q.answer (λ t. last_yes l n b (second_so (leb 1 q.number && leb q.number 10) (numbered l) h) (rw t at e))
    (λ t. let z : q.number ≡ 0 = rw t at e in absurd (omega arith))

first_most : (l : List Question) (b : Bool) → numbered l ≡ true → first_no (l ++ (question 10 b ∷ [])) ≤ 10
unfolding numbered first_no question
first_most [] b h = both b (λ t. rw t (omega arith)) (λ t. rw t (omega arith))
first_most (q ∷ l) b h =
    let here = first_so (leb 1 q.number && leb q.number 10) (numbered l) h in
    let most : q.number ≤ 10 = leb-true q.number 10 (second_so (leb 1 q.number) (leb q.number 10) here) in
    both q.answer (λ t. rw t (first_most l b (second_so (leb 1 q.number && leb q.number 10) (numbered l) h))) (λ t. rw t most)

-- 10: "Have fewer than 4,294,967,295 commands been accepted?"
pub few_accepted : (s : State) (r : Request) (used : ℕ) → refusal s (asks r used) ≡ 0 → s.accepted < most_accepted
unfolding refusal room
few_accepted s r used e = ltb-true _ _ (last_yes (concerning s r) 9 _ (concerning_numbered s r) e)

pub refusal_most : (s : State) (r : Reading) → refusal s r ≤ 10
unfolding refusal room
refusal_most s unknown = omega arith
refusal_most s cut_short = omega arith
refusal_most s (asks r used) = first_most (concerning s r) _ (concerning_numbered s r)
