-- THE COMMANDS THAT A CPU RUNS, over records and words: hex 12, 14, 16 and 17; 13 is in Schedule.antt.
use Rattle.std.specs.Prelude.{ℕ, ◌≤◌, ◌<◌, ◌≡◌, ◌≢◌, Bool, true, List, eqb, None, Some, Option, is_some}
use Rattle.std.proofs.Math.Path.{refl, sym, ap}
use Rattle.std.proofs.Common.{◌∙◌, true≢false, eqb-true}
use Rattle.std.proofs.Math.Bool.{false}
use Rattle.std.proofs.lemmas.Bool.{eqb-false}
use Rattle.rules.proofs.Laws.Line.{both}
use Rattle.rules.specs.Puts.{PutOrTake}
use Rattle.rules.specs.State.{at, any_below, is_number, Limits, Topology, Cpu}
use Rattle.rules.specs.Schedule as sched
use Rattle.rules.specs.Schedule.{World, Got, with_cpu, with_preempt}
use Rattle.rules.proofs.Laws.Sound.{at_here, at_there, at_keeps, same_cpu_changed, sound_same, New, Sound}
use Rattle.rules.proofs.Laws.Steps.{nobody_but, Selected, select_cpu_selected, new_same}
use Rattle.rules.proofs.Laws.Reached.{any_not, number_is as is_number_of}
use Rattle.thread.specs.declared.Thread.{Thread}
use Rattle.thread.specs.Thread.{NONE}
use Rattle.records.specs.Left.{mem}
use Rattle.records.specs.Rq.{record_at}
use Rattle.represents.specs.World.{Small, WorldRep, most_tick}
use Rattle.represents.specs.Topology.{TopologyRep}
use Rattle.rules.proofs.Laws.Places.{is_some_number}
use Rattle.represents.proofs.Laws.NumberLists.{any_at}
use Rattle.sched_words.specs.Choose.{select_for, selected_for}
use Rattle.sched_words.specs.Preempt.{swapped}
use Rattle.sched_words.specs.declared.context.Context.{Context}
use Rattle.sched_queues.specs.Queues.{wake_def}
use Rattle.sched.specs.Schedule.{schedule_def, scheduled_on_def, schedule_thread_def}
use Rattle.sched_ticks.specs.Ticks.{schedule_hardtick_def, schedule_resched_def}
use Rattle.sched.specs.Preempt.{schedule_maybe_preempt_def, preempting}
use Rattle.sched_laws.proofs.Words.{swapped_mark, shows_swapped, unswapped}
use Rattle.sched_laws.proofs.Ticks.{shows_resched}
use Rattle.sched_laws.proofs.Visited.{visited_placed}
use Rattle.sched_laws.specs.Hardtick.{context}
use Rattle.sched_laws.proofs.Hardtick.{shows_schedule_hardtick}
use Rattle.sched_laws.proofs.Queues.{shows_scheduled, counts_scheduled}
use Rattle.sched_laws.specs.Switch.{Settled, no_one, Ends}
use Rattle.sched_laws.proofs.DoSchedule.{select_finds, select_shown, shows_selected}
use Rattle.sched_laws.specs.Schedule.{flags_in, Leaves}
use Rattle.sched_laws.proofs.Schedule.{runs_known, shows_schedule}
use Rattle.sched_laws.proofs.Frames.{select_wakeups, put_running, resched_running, hardtick_running}
use Rattle.sched_laws.specs.Commands.{runs_somewhere}

-- ---- the active threads are those that run

pub settled_same : {active : ℕ → Bool} (w v : World) → ((c : ℕ) → (v.cpus c).running ≡ (w.cpus c).running) → Settled no_one active w → Settled no_one active v
settled_same w v e s = record { runs = λ c x b r. s.runs c x b (sym (e c) ∙ r); others = λ x h. s.others x (λ c b r. h c b (e c ∙ r)) }

-- another table that says the same
pub shows_active : {limits : Limits} {topology : Topology} {known active : ℕ → Bool} {ts : List Thread} {cs : List (List ℕ)} {w : World} (active' : ℕ → Bool) → ((x : ℕ) → active' x ≡ active x)
    → WorldRep limits topology known active ts cs w → WorldRep limits topology known active' ts cs w
shows_active active' e s = record {
  queues = s.queues;
  none_past = s.none_past;
  rows = s.rows;
  threads = s.threads;
  queue_cpus = s.queue_cpus;
  words = s.words;
  places = record {
    waiting = s.places.waiting;
    running = λ x h. s.places.running x (sym (e x) ∙ h);
    blocked = λ x l k a f. s.places.blocked x l k (sym (e x) ∙ a) f;
    undeclared = s.places.undeclared;
  };
}

pub settled_is : (limits : Limits) (active : ℕ → Bool) (w : World) → ((c x : ℕ) → (w.cpus c).running ≡ Some x → c < limits.cpus) → Settled no_one active w → (x : ℕ) → runs_somewhere limits w x ≡ active x
unfolding runs_somewhere
settled_is limits active w near s x =
    both (any_below limits.cpus (λ c. is_number x (w.cpus c).running))
    (λ e. e ∙ sym (any_at limits.cpus _ e (λ c h t. s.runs c x refl (is_some_number x (w.cpus c).running t))))
    (λ e. e ∙ sym (s.others x (λ c b r. true≢false (sym (is_number_of x (w.cpus c).running r) ∙ any_not limits.cpus _ e c (near c x r)))))

pub settled_runs : (limits : Limits) (w : World) → ((c x : ℕ) → (w.cpus c).running ≡ Some x → c < limits.cpus) → Settled no_one (runs_somewhere limits w) w
unfolding runs_somewhere
settled_runs limits w near = record {
  runs = λ c x b r. both (any_below limits.cpus (λ d. is_number x (w.cpus d).running)) (λ e. e) (λ e. absurd (true≢false (sym (is_number_of x (w.cpus c).running r) ∙ any_not limits.cpus _ e c (near c x r))));
  others = λ x h. both (any_below limits.cpus (λ d. is_number x (w.cpus d).running)) (λ e. absurd (any_at limits.cpus _ e (λ c l t. h c refl (is_some_number x (w.cpus c).running t)))) (λ e. e);
}

-- WHAT A COMMAND LEFT, with those active that run
pub ends_runs : {limits : Limits} {topology : Topology} {known : ℕ → Bool} {ts : List Thread} {cs : List (List ℕ)} {v : World} → ((c x : ℕ) → (v.cpus c).running ≡ Some x → c < limits.cpus)
    → Ends limits topology known ts cs v → WorldRep limits topology known (runs_somewhere limits v) ts cs v
ends_runs {limits} {v = v} near e = shows_active (runs_somewhere limits v) (settled_is limits e.active v near e.settled) e.shows

module _ (limits : Limits) (topology : Topology) (tick us : ℕ) (known : ℕ → Bool) (numbered : (x : ℕ) → known x ≡ true → x < limits.threads) (small : Small limits)
    (early : tick ≤ most_tick) (us_in : us < limits.cpus) (H : ℕ → List PutOrTake) (ns : List (List ℕ)) (tree : TopologyRep limits ns topology) (node : ℕ) (put_on : topology.placed us ≡ Some node) where
  abbrev k : Context
  k = context limits tick us

  module _ {active : ℕ → Bool} {ts : List Thread} {cs : List (List ℕ)} {w : World} (s : WorldRep limits topology known active ts cs w) (safe : Sound limits known H nobody_but w) (st : Settled no_one active w)
      (wakeups : ℕ) (count : wakeups ≡ w.wakeups) (few : w.wakeups < NONE) where
    -- 17: `schedule_maybe_preempt`
    abbrev cleared : World
    cleared = with_cpu w us (with_preempt (w.cpus us) false)

    obeyed : (w.cpus us).preempt ≡ true → Leaves limits topology known (schedule_def k preempting wakeups ns (mem ts (swapped us cs).memory)) (sched.schedule limits topology tick us cleared (record { yield = false; preempt = true; again = true }))
    unfolding flags_in with_cpu with_preempt
    obeyed e =
        shows_schedule limits topology tick us known numbered small early us_in H ns tree node put_on (shows_swapped limits topology tick us known numbered small early s us_in e)
        (sound_same (same_cpu_changed limits w us (with_preempt (w.cpus us) false) refl refl) safe) (settled_same w cleared (at_keeps (λ (p : Cpu). p.running) w.cpus us (with_preempt (w.cpus us) false) refl) st)
        wakeups count few preempting

    pub shows_maybe_preempt : Leaves limits topology known (schedule_maybe_preempt_def k wakeups ns (mem ts cs)) (sched.schedule_maybe_preempt limits topology tick us w)
    unfolding schedule_maybe_preempt_def sched.schedule_maybe_preempt context with_preempt
    shows_maybe_preempt =
        both (w.cpus us).preempt
        (λ e. rw (swapped_mark limits topology tick us known numbered small early s us_in ∙ e, e) (obeyed e))
        (λ e. rw (swapped_mark limits topology tick us known numbered small early s us_in ∙ e, e, unswapped limits topology tick us known numbered small early s us_in e)
        (record { ends = record { active = active; shows = s; settled = st }; counted = count }))

    -- 16: `schedule_resched`
    pub ends_resched : Ends limits topology known ts (schedule_resched_def us ts cs) (sched.schedule_resched limits topology tick us w)
    unfolding schedule_resched_def sched.schedule_resched
    ends_resched = record {
      active = active;
      shows = unfold sched.schedule_resched in shows_resched limits topology tick us known numbered small early us_in s (runs_known safe us);
      settled = settled_same w _ (resched_running limits topology tick us w) st;
    }

    -- 14: `schedule_hardtick`
    pub ends_hardtick : (w.cpus us).last_tick ≤ tick → Ends limits topology known (schedule_hardtick_def k (mem ts cs)).threads (schedule_hardtick_def k (mem ts cs)).cpus (sched.schedule_hardtick limits topology tick us w)
    ends_hardtick late = record {
      active = active;
      shows = shows_schedule_hardtick limits topology tick us known numbered small early us_in s (runs_known safe us) late;
      settled = settled_same w _ (hardtick_running limits topology tick us w) st;
    }

    -- 12: `schedule_thread`: a blocked thread goes into the queue of the CPU selected for it
    module _ (x : ℕ) (is_known : known x ≡ true) (new : (c : ℕ) → c < limits.cpus → New limits known nobody_but w c x) where
      abbrev selected : Got
      selected = sched.select_cpu limits topology tick us w x None

      chosen_is : select_for cs ns us limits.cpus (record_at ts x) None ≡ selected.got
      chosen_is = select_shown limits topology tick us known numbered small early us_in H ns tree node put_on s safe x (numbered x is_known) None

      abbrev selection : Selected limits topology tick us known numbered H us_in w selected
      selection = select_cpu_selected limits topology tick us known numbered H us_in w x None (safe.mild x)

      shows_selection : WorldRep limits topology known active ts (selected_for cs ns us limits.cpus (record_at ts x) None) selected.world
      shows_selection = shows_selected limits topology tick us known numbered small early us_in H ns tree node put_on s safe x (numbered x is_known) None

      pub woken_on : is_some selected.got ≡ true
      woken_on = select_finds limits topology tick us known numbered small early us_in H ns tree node put_on (visited_placed limits topology tree.sound us node put_on) w x None

      woken_settled : (v : World) → ((c : ℕ) → (v.cpus c).running ≡ (w.cpus c).running) → Settled no_one (at active x false) v
      unfolding nobody_but
      woken_settled v e = record {
        runs = λ c y b r.
            let n : y ≢ x = λ q. (new us us_in).runs_not c refl (sym (e c) ∙ r ∙ ap Some q) in
            at_there active x false y n ∙ st.runs c y refl (sym (e c) ∙ r);
        others = λ y h. both (eqb y x)
            (λ q. rw (eqb-true y x q) (at_here active x false))
            (λ q. at_there active x false y (eqb-false y x q) ∙ st.others y (λ c b r. h c b (e c ∙ r)));
      }

      pub wakes : (c : ℕ) → selected.got ≡ Some c → c < limits.cpus → 0 ≡ w.wakeups
          → (let d = wake_def k c x 0 (mem ts (selected_for cs ns us limits.cpus (record_at ts x) None)) in
          Leaves limits topology known d (sched.schedule_thread_on_cpu limits topology tick us selected.world c x))
      unfolding wake_def
      wakes c g near zero_now =
          let n : New limits known nobody_but selected.world c x = new_same limits topology tick us known numbered H us_in selection.same (new c near) in
          let e : selected.world.wakeups ≡ w.wakeups = select_wakeups limits topology tick us w x None in
          record {
            ends = record {
              active = at active x false;
              shows = shows_scheduled limits topology tick us known numbered small early us_in H shows_selection c x n 0;
              settled = woken_settled _ (λ d. put_running limits topology tick us selected.world c x d ∙ selection.same.running d);
            };
            counted = counts_scheduled limits topology tick us known numbered small early us_in H shows_selection c x n 0 (zero_now ∙ sym e) (rw e few);
          }

      -- what the definition answers and leaves, once the CPU is known
      pub scheduled_thread : (c : ℕ) → selected.got ≡ Some c
          → (let d = wake_def k c x 0 (mem ts (selected_for cs ns us limits.cpus (record_at ts x) None)) in
          schedule_thread_def k x ns (mem ts cs) ≡ record { answer = record { cpu = c; wakeups = d.answer }; memory = d.memory })
      unfolding schedule_thread_def scheduled_on_def context
      scheduled_thread c g = ap (λ (o : Option ℕ). scheduled_on_def k x o (mem ts (selected_for cs ns us limits.cpus (record_at ts x) None))) (chosen_is ∙ g)
