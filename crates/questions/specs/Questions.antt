-- The questions of document 01 as lent memory answers them: the words of the CPUs and nodes, the record of the thread that is named, and the state.
-- The same questions in the same order as in the rules.
use Rattle.std.specs.Prelude.{ℕ, Bool, true, not, ◌&&◌, List, [], ◌∷◌, ◌++◌, eqb, ltb, leb, Option, None, Some, Result, Ok, Err}
use Rattle.rules.specs.Requests.{Request, declare_cpu, add_node, place_cpu, seal, set_shortest, declare_thread, set_tick, schedule_thread, schedule, hardtick, stattick, resched, maybe_preempt, donate, remove_donation, set_critical, Reading, unknown, cut_short, asks}
use Rattle.rules.specs.Questions as rules
use Rattle.rules.specs.Questions.{Question, question, in_range, first_no, most_accepted}
use Rattle.thread.specs.declared.Thread.{Thread}
use Rattle.thread.specs.Thread.{NONE, BLOCKED}
use Rattle.thread.specs.Place.{place_in, is_declared}
use Rattle.processor.specs.Word.{DECLARED, PLACED}
use Rattle.processor.specs.Words.{word}
use Rattle.topology.specs.Node.{has_children, has_cpus}
use Rattle.lines.specs.declared.Refusal.{Refusal}
use Rattle.lines.specs.Lines.{question_number}
use Rattle.questions.specs.declared.state.State.{State}

-- 3
unfoldable pub open_yet : State → Question
open_yet s = question 3 (not s.sealed)

unfoldable pub sealed_now : State → Question
sealed_now s = question 3 s.sealed

-- 4
abbrev pub declared_in : List (List ℕ) → ℕ → Bool
declared_in cs c = ltb 0 (word cs c DECLARED)

unfoldable pub declared : List (List ℕ) → State → ℕ → Bool
declared cs s c = ltb c s.cpus && declared_in cs c

unfoldable pub cpu_declared : List (List ℕ) → State → ℕ → Question
cpu_declared cs s c = question 4 (declared cs s c)

unfoldable pub cpu_new : List (List ℕ) → State → ℕ → Question
cpu_new cs s c = question 4 (ltb c s.cpus && leb (word cs c DECLARED) 0)

unfoldable pub cpu_unplaced : List (List ℕ) → State → ℕ → Question
cpu_unplaced cs s c = question 4 (declared cs s c && eqb (word cs c PLACED) NONE)

unfoldable pub pin_declared : List (List ℕ) → State → Option ℕ → Question
pin_declared cs s None = question 4 true
pin_declared cs s (Some c) = cpu_declared cs s c

-- 5
unfoldable pub thread_declared : Thread → Question
thread_declared t = question 5 (is_declared (place_in t.place))

unfoldable pub thread_new : ℕ → Thread → Question
thread_new x t = question 5 (ltb x 1024 && not (is_declared (place_in t.place)))

-- 6
unfoldable pub node_exists : State → ℕ → Question
node_exists s n = question 6 (ltb n s.node_count)

unfoldable pub parent_without_cpus : List (List ℕ) → ℕ → Question
parent_without_cpus ns n = question 6 (not (has_cpus ns n))

unfoldable pub node_fits : State → Question
node_fits s = question 6 (ltb s.node_count s.nodes)

unfoldable pub node_childless : List (List ℕ) → ℕ → Question
node_childless ns n = question 6 (not (has_children ns n))

-- 7
unfoldable pub thread_blocked : Thread → Question
thread_blocked t = question 7 (eqb t.place BLOCKED)

-- 8
unfoldable pub tick_fits : State → ℕ → Question
tick_fits s t = question 8 (leb s.tick t && leb t 4611686018427387904)

-- 9
abbrev pub placed_in : List (List ℕ) → ℕ → Bool
placed_in cs c = not (eqb (word cs c PLACED) NONE)

abbrev pub placed_with : List (List ℕ) → Bool → ℕ → Bool
placed_with cs = rules.placed_with (declared_in cs) (placed_in cs)

abbrev pub all_placed_below : List (List ℕ) → ℕ → Bool
all_placed_below cs = rules.all_placed_below (declared_in cs) (placed_in cs)

unfoldable pub all_placed : List (List ℕ) → State → Question
all_placed cs s = question 9 (all_placed_below cs s.cpus)

-- 10
unfoldable pub room : State → Question
room s = question 10 (ltb s.accepted most_accepted)

-- the questions that concern each command, before the last
unfoldable pub concerning : List (List ℕ) → List (List ℕ) → State → Thread → Request → List Question
concerning cs ns s t (declare_cpu c) = open_yet s ∷ cpu_new cs s c ∷ []
concerning cs ns s t (add_node p k) = open_yet s ∷ in_range (add_node p k) ∷ node_exists s p ∷ parent_without_cpus ns p ∷ node_fits s ∷ []
concerning cs ns s t (place_cpu n c) = open_yet s ∷ cpu_unplaced cs s c ∷ node_exists s n ∷ node_childless ns n ∷ []
concerning cs ns s t seal = open_yet s ∷ all_placed cs s ∷ []
concerning cs ns s t (set_shortest n) = open_yet s ∷ in_range (set_shortest n) ∷ []
concerning cs ns s t (declare_thread x k v pin) = sealed_now s ∷ pin_declared cs s pin ∷ thread_new x t ∷ in_range (declare_thread x k v pin) ∷ []
concerning cs ns s t (set_tick n) = sealed_now s ∷ tick_fits s n ∷ []
concerning cs ns s t (schedule_thread c x) = sealed_now s ∷ cpu_declared cs s c ∷ thread_declared t ∷ thread_blocked t ∷ []
concerning cs ns s t (schedule c flags) = sealed_now s ∷ cpu_declared cs s c ∷ in_range (schedule c flags) ∷ []
concerning cs ns s t (hardtick c) = sealed_now s ∷ cpu_declared cs s c ∷ []
concerning cs ns s t (stattick c nanoseconds) = sealed_now s ∷ cpu_declared cs s c ∷ []
concerning cs ns s t (resched c) = sealed_now s ∷ cpu_declared cs s c ∷ []
concerning cs ns s t (maybe_preempt c) = sealed_now s ∷ cpu_declared cs s c ∷ []
concerning cs ns s t (donate c x k v) = sealed_now s ∷ cpu_declared cs s c ∷ thread_declared t ∷ in_range (donate c x k v) ∷ []
concerning cs ns s t (remove_donation x) = sealed_now s ∷ thread_declared t ∷ []
concerning cs ns s t (set_critical x mark) = sealed_now s ∷ thread_declared t ∷ in_range (set_critical x mark) ∷ []

unfoldable pub asked_of : List (List ℕ) → List (List ℕ) → State → Thread → Request → ℕ
asked_of cs ns s t r = first_no (concerning cs ns s t r ++ (room s ∷ []))

-- the number of an answer: 0 where no question is answered no
unfoldable pub answer_number : {A : Type 0} → Result A Refusal → ℕ
answer_number (Ok a) = 0
answer_number (Err r) = question_number r

-- 1 and 2, then the others
unfoldable pub refusal_in : List (List ℕ) → List (List ℕ) → State → Thread → Reading → ℕ
refusal_in cs ns s t unknown = 1
refusal_in cs ns s t cut_short = 2
refusal_in cs ns s t (asks r used) = asked_of cs ns s t r
