-- `select_cpu`: the CPU for a thread, over words and over lent memory, is the choice of the rules.
use Rattle.std.specs.Prelude.{ℕ, ◌<◌, ◌≡◌, refl, Bool, List, cond, Option, None, Some}
use Rattle.std.proofs.Math.Path.{ap}
use Rattle.std.proofs.Common.{sym, ◌∙◌}
use Rattle.rules.specs.declared.choice.Searched.{Searched}
use Rattle.rules.specs.declared.choice.Best.{Best}
use Rattle.rules.proofs.Laws.Line.{both}
use Rattle.rules.specs.declared.Priority.{Priority}
use Rattle.rules.specs.Times.{effective_priority, preferred_cpu}
use Rattle.rules.specs.State.{Limits, Topology}
use Rattle.rules.specs.Schedule as sched
use Rattle.rules.specs.Schedule.{World, Got, same_cpu}
use Rattle.thread.specs.declared.Thread.{Thread}
use Rattle.processor.specs.Words.{word}
use Rattle.represents.specs.World.{Small, WorldRep}
use Rattle.represents.specs.Topology.{TopologyRep}
use Rattle.choice.specs.Reads.{draw_word}
use Rattle.choice.specs.Select.{at_once, cpu_found, accepted, search_from, search_again, search_twice, select_cpu, after_select}
use Rattle.choice_laws.specs.Chosen.{ChoiceReads, drawn}
use Rattle.choice_laws.proofs.Chosen.{searched, find_got, preferred_law, taken, second}
use Rattle.choice_laws.proofs.Memory.{choice_reads, draws_shown, shows_drawn}

module _ (limits : Limits) (t : Topology) (tick us : ℕ) (cpus nodes : List (List ℕ)) (tree : TopologyRep limits nodes t) where
  module _ (w : World) (shows : ChoiceReads limits cpus w) (state : word cpus us draw_word ≡ (w.cpus us).draw_state) (x : ℕ) (avoid : Option ℕ) where
    abbrev p : Priority
    p = effective_priority (w.threads x)

    -- 2, else 3
    again : (b : Option Best) (d : ℕ) → sched.found_or_any limits t tick us (drawn us w d) avoid (cpu_found b) ≡ searched limits t tick us cpus nodes tree w (search_again cpus nodes us limits.cpus avoid (record { found = b; draws = d }))
    unfolding sched.found_or_any cpu_found search_again accepted
    again None d = second limits t tick us cpus nodes tree w shows state x avoid d
    again (Some b) d = both (same_cpu b.cpu avoid) (λ e. rw e (second limits t tick us cpus nodes tree w shows state x avoid d)) (λ e. rw e (unfold searched in unfold cpu_found in refl))

    not_taken : sched.select_from limits t tick us w x avoid None ≡ searched limits t tick us cpus nodes tree w (search_twice cpus nodes us limits.cpus p avoid (word cpus us draw_word))
    unfolding sched.select_from search_twice
    not_taken =
        let f : Searched = search_from cpus nodes us limits.cpus (Some p) (word cpus us draw_word) in
        ap (λ (g : Got). sched.found_or_any limits t tick us g.world avoid g.got) (find_got limits t tick us cpus nodes tree w shows (Some p) (word cpus us draw_word) (sym state))
        ∙ (unfold searched in again f.found f.draws)

    -- THE CPU FOR A THREAD, AND THE DRAW STATE THAT IS LEFT
    pub select_law : ((c : ℕ) → preferred_cpu (w.threads x) ≡ Some c → c < limits.cpus)
        → sched.select_cpu limits t tick us w x avoid
        ≡ record {
          got = select_cpu cpus nodes us limits.cpus (preferred_cpu (w.threads x)) p avoid;
          world = cond (at_once cpus p avoid (preferred_cpu (w.threads x))) w (drawn us w (search_twice cpus nodes us limits.cpus p avoid (word cpus us draw_word)).draws);
        }
    unfolding sched.select_cpu select_cpu searched
    select_law h =
        ap (sched.select_from limits t tick us w x avoid) (preferred_law limits t tick us cpus nodes tree w shows state x avoid (preferred_cpu (w.threads x)) h)
        ∙ both (at_once cpus p avoid (preferred_cpu (w.threads x))) (λ e. rw e (taken limits t tick us cpus nodes tree w shows state x avoid (preferred_cpu (w.threads x)) e)) (λ e. rw e not_taken)

-- ---- on lent memory

module _ {limits : Limits} {topology : Topology} {known active : ℕ → Bool} {ts : List Thread} {cs : List (List ℕ)} {w : World} (shows : WorldRep limits topology known active ts cs w)
    (small : Small limits) where
  module _ (us : ℕ) (us_in : us < limits.cpus) where
    -- `select_cpu`: THE CPU THAT THE RULES CHOOSE, AND MEMORY THAT SHOWS THE WORLD AFTER IT
    pub select_memory : (nodes : List (List ℕ)) → TopologyRep limits nodes topology → (tick x : ℕ) (avoid : Option ℕ) → ((c : ℕ) → preferred_cpu (w.threads x) ≡ Some c → c < limits.cpus)
        → ((sched.select_cpu limits topology tick us w x avoid).got ≡ select_cpu cs nodes us limits.cpus (preferred_cpu (w.threads x)) (effective_priority (w.threads x)) avoid)
        × WorldRep limits topology known active ts (after_select cs nodes us limits.cpus (preferred_cpu (w.threads x)) (effective_priority (w.threads x)) avoid)
        (sched.select_cpu limits topology tick us w x avoid).world
    unfolding after_select
    select_memory nodes tree tick x avoid h =
        rw (select_law limits topology tick us cs nodes tree w (choice_reads shows small) (draws_shown shows small us us_in) x avoid h)
        (refl, both (at_once cs (effective_priority (w.threads x)) avoid (preferred_cpu (w.threads x))) (λ e. rw e shows) (λ e. rw e (shows_drawn shows small us us_in _)))
