-- On lent memory that shows a world of the rules: what a choice reads of it, and what it leaves.
use Rattle.std.specs.Prelude.{ℕ, ◌<◌, ◌≡◌, Bool, List, Some}
use Rattle.std.proofs.Math.Path.{ap}
use Rattle.std.proofs.Common.{◌∙◌, arith}
use Rattle.rules.specs.State.{Limits, Topology}
use Rattle.rules.specs.Topology.{cpus_of}
use Rattle.rules.specs.Choice.{may_steal_from, first_that, choose_cpu_balance}
use Rattle.rules.specs.Schedule as sched
use Rattle.rules.specs.Schedule.{World}
use Rattle.thread.specs.declared.Thread.{Thread}
use Rattle.processor.specs.Words.{word, put_word}
use Rattle.processor.specs.Word.{PLACED}
use Rattle.represents.specs.World.{number_or_none, Small, WorldRep}
use Rattle.represents.proofs.Laws.Frames.{shows_draws}
use Rattle.represents.proofs.Laws.Numbers.{word_load, word_movable, load_shown, movable_shown, current_load_shown, current_load_most, priority_shown}
use Rattle.topology.specs.Walk.{cpus_at, nearest_at}
use Rattle.choice.specs.Reads.{load_at, weight_at, queue_load_at, movable_at, draw_word}
use Rattle.represents.specs.Topology.{TopologyRep}
use Rattle.choice_laws.specs.Chosen.{ChoiceReads, drawn}
use Rattle.choice_laws.proofs.Chosen.{steal_law, balance_law}

module _ {limits : Limits} {topology : Topology} {known active : ℕ → Bool} {ts : List Thread} {cs : List (List ℕ)} {w : World} (shows : WorldRep limits topology known active ts cs w)
    (small : Small limits) where
  -- WHAT A CHOICE READS IS THE WORLD'S
  pub choice_reads : ChoiceReads limits cs w
  unfolding queue_load_at movable_at
  choice_reads = record {
    loads = λ c h. current_load_shown shows small c h;
    waiting = λ c h. word_load cs c ∙ load_shown shows small c h;
    movables = λ c h. word_movable cs c ∙ movable_shown shows small c h;
    priorities = λ c h. priority_shown shows small c h;
    small = λ c h. omega (arith, current_load_most shows small c h);
  }

  module _ (us : ℕ) (us_in : us < limits.cpus) where
    pub draws_shown : word cs us draw_word ≡ (w.cpus us).draw_state
    draws_shown = (shows.words us us_in).draw_state

    -- ITS DRAW STATE WRITTEN
    pub shows_drawn : (d : ℕ) → WorldRep limits topology known active ts (put_word cs us draw_word d) (drawn us w d)
    unfolding drawn
    shows_drawn d = shows_draws shows us us_in d

    -- THE CPU FROM WHICH THE RULES STEAL, from the node on which CPU us was put
    pub steal_memory : (nodes : List (List ℕ)) → TopologyRep limits nodes topology → (tick m : ℕ) → topology.placed us ≡ Some m
        → first_that (may_steal_from us (load_at cs) (movable_at cs)) (nearest_at nodes limits.cpus (word cs us PLACED)) ≡ sched.choose_cpu_steal_via_topo limits topology tick us w
    unfolding number_or_none
    steal_memory nodes tree tick m e =
        ap (λ (n : ℕ). first_that (may_steal_from us (load_at cs) (movable_at cs)) (nearest_at nodes limits.cpus n)) ((shows.words us us_in).placed ∙ ap number_or_none e)
        ∙ steal_law limits topology tick us cs nodes tree w choice_reads m e

    -- THE DONOR AND THE RECIPIENT THAT THE RULES CHOOSE, where the same CPUs are allowed
    pub balance_memory : (nodes : List (List ℕ)) → TopologyRep limits nodes topology → (allowed allowed' : ℕ → Bool) → ((c : ℕ) → c < limits.cpus → allowed c ≡ allowed' c)
        → choose_cpu_balance us allowed (weight_at cs) (cpus_at nodes limits.cpus 0) (word cs us draw_word)
        ≡ choose_cpu_balance us allowed' (λ c. sched.current_load (w.cpus c)) (cpus_of limits topology 0) (w.cpus us).draw_state
    balance_memory nodes tree allowed allowed' h =
        rw (← draws_shown) (balance_law limits topology 0 us cs nodes tree w choice_reads allowed allowed' (word cs us draw_word) h)
