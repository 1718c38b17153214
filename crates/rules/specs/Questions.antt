-- "Questions put to each command, in order. A no gives the number, changes nothing, and no later question is put."
use Rattle.std.specs.Prelude.{ℕ, zero, suc, ◌^◌, Bool, true, false, cond, not, ◌&&◌, ◌||◌, List, [], ◌∷◌, ◌++◌, length, eqb, ltb, leb, Option, None, Some, is_some}
use Rattle.rules.specs.State.{State, any_below, is_number, blocked}
use Rattle.rules.specs.Topology.{leaf}
use Rattle.rules.specs.Requests.{Request, declare_cpu, add_node, place_cpu, seal, set_shortest, declare_thread, set_tick, schedule_thread, schedule, hardtick, stattick, resched, maybe_preempt, donate, remove_donation, set_critical, Reading, unknown, cut_short, asks}

-- A question's number, and whether it is answered yes.
pub record Question : Type 0 where
  pub number : ℕ
  pub answer : Bool

unfoldable pub question : ℕ → Bool → Question
question n yes_said = record { number = n; answer = yes_said }

-- 3: "Is it on the right side of the seal?" "Hex 01 to 04 come before the seal, the others after." 2026-07: "New command hex 05 before the seal"
unfoldable pub open_yet : State → Question
open_yet s = question 3 (not s.sealed)

unfoldable pub sealed_now : State → Question
sealed_now s = question 3 s.sealed

-- 4: "Is each CPU named declared (pin FF excepted); for 01 below 64 and new; for 03 not yet placed?"
unfoldable pub declared : State → ℕ → Bool
declared s c = ltb c s.limits.cpus && s.topology.declared c

unfoldable pub cpu_declared : State → ℕ → Question
cpu_declared s c = question 4 (declared s c)

unfoldable pub cpu_new : State → ℕ → Question
cpu_new s c = question 4 (ltb c s.limits.cpus && not (s.topology.declared c))

unfoldable pub cpu_unplaced : State → ℕ → Question
cpu_unplaced s c = question 4 (declared s c && not (is_some (s.topology.placed c)))

unfoldable pub pin_declared : State → Option ℕ → Question
pin_declared s None = question 4 true
pin_declared s (Some c) = cpu_declared s c

-- 5: "Is the thread declared; for 10 below 1,024 and new?"
unfoldable pub thread_declared : State → ℕ → Question
thread_declared s x = question 5 (s.known x)

unfoldable pub thread_new : State → ℕ → Question
thread_new s x = question 5 (ltb x s.limits.threads && not (s.known x))

-- 6: "Is every other operand in range: node existing, parent without CPUs of its own and fewer than 128 nodes (02), node without children (03),
-- type and class up to 3, value up to 127, flags up to 7, mark 0 or 1?" 2026-07: "sets the shortest User timeslice to 2 to 32", "The range is part of the sixth question."
-- First what needs no state, which the writer of 2026-02 asks too, then what does.
unfoldable pub priority_in_range : ℕ → ℕ → Question
priority_in_range class value = question 6 (leb class 3 && leb value 127)

unfoldable pub at_most : ℕ → ℕ → Question
at_most most n = question 6 (leb n most)

unfoldable pub least_shortest : ℕ
least_shortest = 2

unfoldable pub most_shortest : ℕ
most_shortest = 32

unfoldable pub shortest_in_range : ℕ → Question
shortest_in_range n = question 6 (leb least_shortest n && leb n most_shortest)

abbrev pub in_range : Request → Question
in_range (declare_cpu c) = question 6 true
in_range (add_node p k) = at_most 3 k
in_range (place_cpu n c) = question 6 true
in_range seal = question 6 true
in_range (set_shortest n) = shortest_in_range n
in_range (declare_thread x k v pin) = priority_in_range k v
in_range (set_tick t) = question 6 true
in_range (schedule_thread c x) = question 6 true
in_range (schedule c flags) = at_most 7 flags
in_range (hardtick c) = question 6 true
in_range (stattick c nanoseconds) = question 6 true
in_range (resched c) = question 6 true
in_range (maybe_preempt c) = question 6 true
in_range (donate c x k v) = priority_in_range k v
in_range (remove_donation x) = question 6 true
in_range (set_critical x mark) = at_most 1 mark

unfoldable pub node_exists : State → ℕ → Question
node_exists s n = question 6 (ltb n (length s.topology.nodes))

-- no CPU was placed on that very node
unfoldable pub parent_without_cpus : State → ℕ → Question
parent_without_cpus s n = question 6 (not (any_below s.limits.cpus (λ c. is_number n (s.topology.placed c))))

unfoldable pub node_fits : State → Question
node_fits s = question 6 (ltb (length s.topology.nodes) s.limits.nodes)

unfoldable pub node_childless : State → ℕ → Question
node_childless s n = question 6 (leaf s.limits s.topology n)

-- 7: "For 12: is the thread blocked?"
unfoldable pub thread_blocked : State → ℕ → Question
thread_blocked s x = question 7 (blocked s x)

-- 8: "For 11: is the tick not below the last and at most 2^62?"
unfoldable pub tick_fits : State → ℕ → Question
tick_fits s t = question 8 (leb s.tick t && leb t (2 ^ 62))

-- 9: "For 04: is CPU 0 declared and every declared CPU placed?" 2026-03: "question 9 shall be answered in one pass over the CPU numbers: after numbers 0 to n it
-- is proved to hold the answer for those CPUs alone, got from the answer up to n − 1 and from CPU n." Which CPU numbers are declared and which are placed is given.
module _ (is_declared is_placed : ℕ → Bool) where
  -- The answer for CPUs 0 to n, from the answer for those before n and from CPU n: at CPU 0 it must be declared, later the answer so far must be yes; and CPU n
  -- must be placed if it is declared.
  unfoldable pub placed_with : Bool → ℕ → Bool
  placed_with answer n = cond (eqb n 0) (is_declared n) answer && (not (is_declared n) || is_placed n)

  -- The answer for the CPUs below n alone. If there are none, CPU 0 is not among them.
  unfoldable pub all_placed_below : ℕ → Bool
  all_placed_below zero = false
  all_placed_below (suc n) = placed_with (all_placed_below n) n

unfoldable pub placed : State → ℕ → Bool
placed s c = is_some (s.topology.placed c)

unfoldable pub all_placed : State → Question
all_placed s = question 9 (all_placed_below s.topology.declared (placed s) s.limits.cpus)

-- 10: "Have fewer than 4,294,967,295 commands been accepted?"
unfoldable pub most_accepted : ℕ
most_accepted = 4294967295

unfoldable pub room : State → Question
room s = question 10 (ltb s.accepted most_accepted)

-- the questions that concern each command, before the last
unfoldable pub concerning : State → Request → List Question
concerning s (declare_cpu c) = open_yet s ∷ cpu_new s c ∷ []
concerning s (add_node p k) = open_yet s ∷ in_range (add_node p k) ∷ node_exists s p ∷ parent_without_cpus s p ∷ node_fits s ∷ []
concerning s (place_cpu n c) = open_yet s ∷ cpu_unplaced s c ∷ node_exists s n ∷ node_childless s n ∷ []
concerning s seal = open_yet s ∷ all_placed s ∷ []
concerning s (set_shortest n) = open_yet s ∷ in_range (set_shortest n) ∷ []
concerning s (declare_thread x k v pin) = sealed_now s ∷ pin_declared s pin ∷ thread_new s x ∷ in_range (declare_thread x k v pin) ∷ []
concerning s (set_tick t) = sealed_now s ∷ tick_fits s t ∷ []
concerning s (schedule_thread c x) = sealed_now s ∷ cpu_declared s c ∷ thread_declared s x ∷ thread_blocked s x ∷ []
concerning s (schedule c flags) = sealed_now s ∷ cpu_declared s c ∷ in_range (schedule c flags) ∷ []
concerning s (hardtick c) = sealed_now s ∷ cpu_declared s c ∷ []
concerning s (stattick c nanoseconds) = sealed_now s ∷ cpu_declared s c ∷ []
concerning s (resched c) = sealed_now s ∷ cpu_declared s c ∷ []
concerning s (maybe_preempt c) = sealed_now s ∷ cpu_declared s c ∷ []
concerning s (donate c x k v) = sealed_now s ∷ cpu_declared s c ∷ thread_declared s x ∷ in_range (donate c x k v) ∷ []
concerning s (remove_donation x) = sealed_now s ∷ thread_declared s x ∷ []
concerning s (set_critical x mark) = sealed_now s ∷ thread_declared s x ∷ in_range (set_critical x mark) ∷ []

-- the number of the first question answered no, 0 if there is none
unfoldable pub first_no : List Question → ℕ
first_no [] = 0
first_no (q ∷ l) = cond q.answer (first_no l) q.number

-- 1: "Is the command byte in the table?" 2: "Are all its operands there?" Then the others.
unfoldable pub refusal : State → Reading → ℕ
refusal s unknown = 1
refusal s cut_short = 2
refusal s (asks r used) = first_no (concerning s r ++ (room s ∷ []))
