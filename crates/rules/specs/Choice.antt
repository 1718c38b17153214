-- The choice of a CPU (sched.rs): each search as a function of what it reads, with the draw state that it leaves.
use Rattle.std.specs.Prelude.{ℕ, ◌-◌, ◌*◌, ◌%◌, Bool, cond, not, ◌&&◌, List, [], ◌∷◌, eqb, ltb, leb, Option, None, Some}
use Rattle.rules.specs.declared.choice.Best.{Best}
use Rattle.rules.specs.declared.choice.Searched.{Searched}
use Rattle.rules.specs.declared.choice.Extremes.{Extremes}
use Rattle.rules.specs.declared.choice.Pair.{Pair}
use Rattle.rules.specs.declared.choice.Chosen.{Chosen}
use Rattle.rules.specs.Draw.{next_state, draw}

-- "A score is load × 256 less (draw modulo 128), not below 0"
unfoldable pub score : ℕ → ℕ → ℕ
score load drawn = load * 256 - drawn % 128

-- a CPU with its score; a donor and a recipient
abbrev pub best_at : ℕ → ℕ → Option Best
best_at score cpu = Some (record { score = score; cpu = cpu })

abbrev pub pair_at : ℕ → ℕ → Option Pair
pair_at donor recipient = Some (record { donor = donor; recipient = recipient })

-- "first of equals wins"
unfoldable pub lower : Option Best → ℕ → ℕ → Option Best
lower None score c = best_at score c
lower (Some b) score c = cond (ltb score b.score) (best_at score c) (Some b)

-- `find_cpu_from_topo` over the CPUs that it visits, in their order: the lowest score, one draw for each CPU that is not skipped.
-- us: the CPU that runs the command, whose draws these are.
unfoldable pub find_cpu : ℕ → (ℕ → Bool) → (ℕ → ℕ) → List ℕ → Searched → Searched
find_cpu us skip load [] f = f
find_cpu us skip load (c ∷ l) f =
    cond (skip c) (find_cpu us skip load l f)
    (find_cpu us skip load l
    (record { found = lower f.found (score (load c) (draw (next_state us f.draws))) c; draws = next_state us f.draws }))

-- `choose_cpu_steal_via_topo` over the CPUs in the order in which it looks: the first from which a thread may be stolen
unfoldable pub first_that : (ℕ → Bool) → List ℕ → Option ℕ
first_that test [] = None
first_that test (c ∷ l) = cond (test c) (Some c) (first_that test l)

-- a thread may be stolen from another CPU whose load, the running thread included, is at least 2, and in whose queue somebody unpinned waits
unfoldable pub may_steal_from : ℕ → (ℕ → ℕ) → (ℕ → ℕ) → ℕ → Bool
may_steal_from us load movable c = not (eqb c us) && (leb 2 (load c) && ltb 0 (movable c))

-- `choose_cpu_balance`: CPU c with score s is weighed against the highest score so far, and where it does not raise that, against the lowest so far of those
-- that did not. Nobody counts as CPU 0 with score 0 at first.
unfoldable pub weigh : Extremes → ℕ → ℕ → ℕ → Extremes
weigh e s c draws =
    cond (ltb e.highest_score s) (record { highest = c; highest_score = s; lowest = e.lowest; draws = draws })
    (record { highest = e.highest; highest_score = e.highest_score; lowest = lower e.lowest s c; draws = draws })

unfoldable pub extremes : ℕ → (ℕ → Bool) → (ℕ → ℕ) → List ℕ → Extremes → Extremes
extremes us allowed load [] e = e
extremes us allowed load (c ∷ l) e =
    cond (allowed c)
    (extremes us allowed load l (weigh e (score (load c) (draw (next_state us e.draws))) c (next_state us e.draws)))
    (extremes us allowed load l e)

unfoldable pub pair_of : ℕ → Option Best → Option Pair
pair_of highest None = None
pair_of highest (Some b) = cond (eqb b.cpu highest) None (pair_at highest b.cpu)

unfoldable pub choose_cpu_balance : ℕ → (ℕ → Bool) → (ℕ → ℕ) → List ℕ → ℕ → Chosen
choose_cpu_balance us allowed load cpus draws =
    let e : Extremes = extremes us allowed load cpus (record { highest = 0; highest_score = 0; lowest = None; draws = draws }) in
    record { found = pair_of e.highest e.lowest; draws = e.draws }
