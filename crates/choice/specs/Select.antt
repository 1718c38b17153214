-- `select_cpu` over the CPUs' and nodes' words, step by step as the Rust has it.
use Rattle.std.specs.Prelude.{ℕ, Bool, false, cond, not, ◌&&◌, ◌||◌, List, eqb, Option, None, Some}
use Rattle.rules.specs.declared.choice.Searched.{Searched}
use Rattle.rules.specs.declared.choice.Best.{Best}
use Rattle.rules.specs.declared.Priority.{Priority}
use Rattle.rules.specs.Priority.{less}
use Rattle.rules.specs.Choice.{find_cpu}
use Rattle.rules.specs.Schedule.{same_cpu}
use Rattle.topology.specs.Walk.{visited_at}
use Rattle.processor.specs.Words.{word, put_word}
use Rattle.choice.specs.Reads.{weight_at, priority_at, queue_load_at, skips_at, draw_word}
use Rattle.choice.specs.Found.{begun}

-- 1: the CPU is not to be avoided, and nobody waits there or the thread is above its priority
unfoldable pub runs_at_once : List (List ℕ) → Priority → Option ℕ → ℕ → Bool
runs_at_once cpus p avoid c = not (same_cpu c avoid) && (eqb (queue_load_at cpus c) 0 || less (priority_at cpus c) p)

unfoldable pub at_once : List (List ℕ) → Priority → Option ℕ → Option ℕ → Bool
at_once cpus p avoid None = false
at_once cpus p avoid (Some c) = runs_at_once cpus p avoid c

unfoldable pub cpu_found : Option Best → Option ℕ
cpu_found None = None
cpu_found (Some b) = Some b.cpu

unfoldable pub accepted : Option ℕ → Option Best → Bool
accepted avoid None = false
accepted avoid (Some b) = not (same_cpu b.cpu avoid)

-- `find_cpu_from_topo` with a priority or none
unfoldable pub search_from : List (List ℕ) → List (List ℕ) → ℕ → ℕ → Option Priority → ℕ → Searched
search_from cpus nodes us limit p draws = find_cpu us (skips_at cpus p) (weight_at cpus) (visited_at nodes limit) (begun draws)

-- 2: the least loaded that will run the thread at once, if it is not to be avoided; else 3: the least loaded of all
unfoldable pub search_again : List (List ℕ) → List (List ℕ) → ℕ → ℕ → Option ℕ → Searched → Searched
search_again cpus nodes us limit avoid f = cond (accepted avoid f.found) f (search_from cpus nodes us limit None f.draws)

unfoldable pub search_twice : List (List ℕ) → List (List ℕ) → ℕ → ℕ → Priority → Option ℕ → ℕ → Searched
search_twice cpus nodes us limit p avoid draws = search_again cpus nodes us limit avoid (search_from cpus nodes us limit (Some p) draws)

-- the CPU chosen
unfoldable pub select_cpu : List (List ℕ) → List (List ℕ) → ℕ → ℕ → Option ℕ → Priority → Option ℕ → Option ℕ
select_cpu cpus nodes us limit preferred p avoid =
    cond (at_once cpus p avoid preferred) preferred (cpu_found (search_twice cpus nodes us limit p avoid (word cpus us draw_word)).found)

-- the CPUs after it: the draw state of CPU us
unfoldable pub after_select : List (List ℕ) → List (List ℕ) → ℕ → ℕ → Option ℕ → Priority → Option ℕ → List (List ℕ)
after_select cpus nodes us limit preferred p avoid =
    cond (at_once cpus p avoid preferred) cpus (put_word cpus us draw_word (search_twice cpus nodes us limit p avoid (word cpus us draw_word)).draws)
