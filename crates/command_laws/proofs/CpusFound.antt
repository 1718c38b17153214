-- THE CPUS THAT ARE FOUND over words: each search finds one below its limit, or none.
use Rattle.std.specs.Prelude.{ℕ, zero, suc, ◌+◌, ◌-◌, ◌≤◌, ◌<◌, Bool, List, length, Option, None, Some}
use Rattle.std.proofs.Common.{arith}
use Rattle.rules.specs.declared.choice.Best.{Best}
use Rattle.rules.specs.declared.Priority.{Priority}
use Rattle.rules.proofs.Laws.Line.{both}
use Rattle.rules.specs.Line.{Below}
use Rattle.rules.specs.Choice.{may_steal_from, choose_cpu_balance}
use Rattle.rules.specs.Waits.{Under}
use Rattle.rules.proofs.Laws.Steps.{join_in_all, BestUnder, find_in, first_in, PairUnder, choose_in}
use Rattle.thread.specs.declared.Thread.{Thread}
use Rattle.thread.specs.Reads.{cpu_in}
use Rattle.thread.specs.Time.{preferred_last, preferred_of, preferred_cpu}
use Rattle.processor.specs.Words.{word}
use Rattle.processor.specs.Word.{PLACED}
use Rattle.topology.specs.Words as node
use Rattle.topology.specs.Node.{parent, next, lesser, has_children, contains_at, first_of, end_of}
use Rattle.topology.specs.Walk.{those_from, cpus_at, leaf_cpus, to_root, visited_at, nearest_at}
use Rattle.represents.proofs.Laws.Topology.{lesser_most}
use Rattle.choice.specs.Reads.{load_at, movable_at, draw_word}
use Rattle.choice.specs.Found.{begun}
use Rattle.choice.specs.Select.{at_once, cpu_found, accepted, search_from, search_again, search_twice, select_cpu}
use Rattle.sched_words.specs.Choose.{preferred_of_def, select_for, steal_from_def}

-- ---- the CPUs of the nodes

those_near : (n : ℕ) (test : ℕ → Bool) (c k : ℕ) → (0 < k → c + k ≤ n) → Below n (those_from test c k)
unfolding those_from Below
those_near n test c zero h = tt
those_near n test c (suc k) h =
    let l : c + suc k ≤ n = h (omega arith) in
    let r : Below n (those_from test (suc c) k) = those_near n test (suc c) k (λ g. omega arith) in
    both (test c) (λ e. rw e (omega arith, r)) (λ e. rw e r)

cpus_near : (rows : List (List ℕ)) (limit n : ℕ) → Below limit (cpus_at rows limit n)
unfolding cpus_at end_of
cpus_near rows limit n =
    those_near limit (contains_at rows n) (first_of rows n) (lesser (node.word rows n 4) limit - first_of rows n)
    (λ g. omega (arith, lesser_most (node.word rows n 4) limit))

leaf_near : (rows : List (List ℕ)) (limit n : ℕ) → Below limit (leaf_cpus rows limit n)
unfolding leaf_cpus Below
leaf_near rows limit n = both (has_children rows n) (λ e. rw e tt) (λ e. rw e (cpus_near rows limit n))

visited_near : (rows : List (List ℕ)) (limit : ℕ) → Below limit (visited_at rows limit)
unfolding visited_at
visited_near rows limit = join_in_all limit (leaf_cpus rows limit) (to_root rows next (length rows) (node.word rows 0 next)) (leaf_near rows limit)

nearest_near : (rows : List (List ℕ)) (limit m : ℕ) → Below limit (nearest_at rows limit m)
unfolding nearest_at
nearest_near rows limit m = join_in_all limit (cpus_at rows limit) (to_root rows parent (length rows) m) (cpus_near rows limit)

-- ---- select

found_near : (n : ℕ) (b : Option Best) → BestUnder n b → Under n (cpu_found b)
unfolding BestUnder cpu_found Under
found_near n None u = tt
found_near n (Some b) u = u

search_near : (cs ns : List (List ℕ)) (us limit : ℕ) (p : Option Priority) (draws : ℕ) → Under limit (cpu_found (search_from cs ns us limit p draws).found)
unfolding search_from begun BestUnder
search_near cs ns us limit p draws = found_near limit _ (find_in limit us _ _ (visited_at ns limit) _ (visited_near ns limit) tt)

twice_near : (cs ns : List (List ℕ)) (us limit : ℕ) (p : Priority) (avoid : Option ℕ) (draws : ℕ) → Under limit (cpu_found (search_twice cs ns us limit p avoid draws).found)
unfolding search_twice search_again
twice_near cs ns us limit p avoid draws =
    both (accepted avoid (search_from cs ns us limit (Some p) draws).found)
    (λ e. rw e (search_near cs ns us limit (Some p) draws))
    (λ e. rw e (search_near cs ns us limit None (search_from cs ns us limit (Some p) draws).draws))

select_near : (cs ns : List (List ℕ)) (us limit : ℕ) (preferred : Option ℕ) (p : Priority) (avoid : Option ℕ) → Under limit preferred → Under limit (select_cpu cs ns us limit preferred p avoid)
unfolding select_cpu
select_near cs ns us limit preferred p avoid u =
    both (at_once cs p avoid preferred) (λ e. rw e u) (λ e. rw e (twice_near cs ns us limit p avoid (word cs us draw_word)))

preferred_near : (n : ℕ) (p l : Option ℕ) → Under n p → Under n l → Under n (preferred_of_def (preferred_of p l))
unfolding preferred_of preferred_last preferred_of_def Under
preferred_near n (Some c) l u v = u
preferred_near n None (Some d) u v = v
preferred_near n None None u v = tt

-- the CPU selected for a thread whose pin and last CPU are below the limit
pub selected_near : (cs ns : List (List ℕ)) (us limit : ℕ) (t : Thread) (avoid : Option ℕ) → Under limit (cpu_in t.pinned_cpu) → Under limit (cpu_in t.last_cpu)
    → Under limit (select_for cs ns us limit t avoid)
unfolding select_for preferred_cpu
selected_near cs ns us limit t avoid p l =
    (select_near cs ns us limit _ _ avoid (preferred_near limit (cpu_in t.pinned_cpu) (cpu_in t.last_cpu) p l))

-- ---- steal

pub steal_near : (cs ns : List (List ℕ)) (us limit : ℕ) → Under limit (steal_from_def cs ns us limit)
unfolding steal_from_def
steal_near cs ns us limit =
    (first_in limit (may_steal_from us (load_at cs) (movable_at cs)) (nearest_at ns limit (word cs us PLACED)) (nearest_near ns limit (word cs us PLACED)))

-- ---- balance

pub choice_near : (us : ℕ) (allowed : ℕ → Bool) (load : ℕ → ℕ) (ns : List (List ℕ)) (limit m draws : ℕ) → PairUnder limit (choose_cpu_balance us allowed load (cpus_at ns limit m) draws).found
choice_near us allowed load ns limit m draws = choose_in limit us allowed load (cpus_at ns limit m) draws (cpus_near ns limit m)
