-- `do_schedule`, `schedule` AND `schedule_thread` OVER RECORDS AND WORDS ARE THE RULES'.
use Rattle.std.proofs.lemmas.Option.{none-some}
use Rattle.std.specs.Prelude.{ℕ, ◌≤◌, ◌<◌, ◌≡◌, Bool, true, false, cond, ◌||◌, List, Option, None, Some, is_some}
use Rattle.std.proofs.Math.Path.{refl, sym, ap, subst}
use Rattle.std.proofs.Common.{◌∙◌, eqb-true}
use Rattle.std.proofs.Math.Bool.{not}
use Rattle.std.proofs.lemmas.Bool.{false≢true}
use Rattle.std.proofs.Math.Dec.{eqb}
use Rattle.rules.proofs.Laws.Line.{both}
use Rattle.rules.specs.Times.{effective_priority}
use Rattle.rules.specs.Puts.{PutOrTake}
use Rattle.rules.specs.State.{Limits, Topology}
use Rattle.rules.specs.Schedule as sched
use Rattle.rules.specs.Schedule.{World, Got, with_thread}
use Rattle.rules.specs.Waits.{Under}
use Rattle.rules.proofs.Laws.Sound.{Same, same_self, sound_same, New, Sound}
use Rattle.rules.proofs.Laws.Steps.{nobody_but, Selected, select_cpu_selected, weaker, running_new, new_same, ok_put}
use Rattle.thread.specs.declared.Thread.{Thread}
use Rattle.thread.specs.Thread.{NONE}
use Rattle.records.specs.Rq.{record_at}
use Rattle.represents.specs.World.{number_or_none, Small, WorldRep, most_tick}
use Rattle.represents.specs.Topology.{TopologyRep}
use Rattle.sched_words.specs.Choose.{selected_for, reinsert_at_def}
use Rattle.sched_words.specs.Preempt.{rq_has_higher}
use Rattle.sched_words.specs.Running.{running_at, must_rebalance_def}
use Rattle.sched_words.specs.declared.context.Context.{Context}
use Rattle.sched_words.specs.declared.context.SchedFlags.{SchedFlags}
use Rattle.records.specs.Left.{mem}
use Rattle.sched_queues.specs.Queues.{block_def, schedule_thread_on_cpu_def}
use Rattle.sched.specs.Schedule.{must_move_def, reinserted_def, reset_thread_time_def, then_next_def, pick_next_def, reinsert_def, do_schedule_def, schedule_def}
use Rattle.sched_laws.proofs.Words.{running_is, critical_at_work, idle_at_work, must_rebalance_shown, higher_shown, shows_reset}
use Rattle.sched_laws.proofs.Visited.{visited_placed}
use Rattle.sched_laws.specs.Hardtick.{context}
use Rattle.sched_laws.proofs.Queues.{shows_scheduled, counts_scheduled}
use Rattle.sched_laws.specs.Switch.{Settled, no_one, Ends}
use Rattle.sched_laws.proofs.Switch.{some_number, shows_picked}
use Rattle.sched_laws.proofs.DoSchedule.{unsettle, select_finds, shows_blocked, select_shown, shows_selected}
use Rattle.sched_laws.proofs.Frames.{pick_wakeups, select_wakeups, put_running}
use Rattle.sched_laws.specs.Schedule.{Leaves, flags_in}

named_some : {c : ℕ} → (Some c) ≡ Some c
named_some = refl

idle_is : not (is_some {T = ℕ} None) ≡ true
idle_is = refl

some_is : (x : ℕ) → not (is_some (Some x)) ≡ false
some_is x = refl

-- a thread that runs is declared
pub runs_known : {limits : Limits} {known : ℕ → Bool} {H : ℕ → List PutOrTake} {but : ℕ → Bool} {w : World} → Sound limits known H but w → (c x : ℕ) → (w.cpus c).running ≡ Some x → known x ≡ true
runs_known safe c x e = (safe.runs c x e).1

module _ (limits : Limits) (topology : Topology) (tick us : ℕ) (known : ℕ → Bool) (numbered : (x : ℕ) → known x ≡ true → x < limits.threads) (small : Small limits)
    (early : tick ≤ most_tick) (us_in : us < limits.cpus) (H : ℕ → List PutOrTake) (ns : List (List ℕ)) (tree : TopologyRep limits ns topology) (node : ℕ) (put_on : topology.placed us ≡ Some node) where
  abbrev k : Context
  k = context limits tick us

  module _ {active : ℕ → Bool} {ts : List Thread} {cs : List (List ℕ)} {w : World} (s : WorldRep limits topology known active ts cs w) (safe : Sound limits known H nobody_but w) (st : Settled no_one active w)
      (wakeups : ℕ) (count : wakeups ≡ w.wakeups) (few : w.wakeups < NONE) where
    -- the thread running, x, goes into the queue of CPU c, and the next is picked
    put_and_pick : (cs₁ : List (List ℕ)) (v : World) (c x : ℕ) → WorldRep limits topology known active ts cs₁ v → Same limits w v → v.wakeups ≡ w.wakeups → c < limits.cpus → (w.cpus us).running ≡ Some x
        → Leaves limits topology known (then_next_def k x ns (schedule_thread_on_cpu_def k c x wakeups (mem ts cs₁))) (sched.pick_next limits topology tick us (sched.schedule_thread_on_cpu limits topology tick us v c x))
    unfolding then_next_def
    put_and_pick cs₁ v c x s₁ same e near r =
        let n : New limits known (λ d. eqb d us) v c x = new_same limits topology tick us known numbered H us_in same (running_new limits topology tick us known numbered H us_in w c x safe r near) in
        let v' : World = sched.schedule_thread_on_cpu limits topology tick us v c x in
        let runs : (d : ℕ) → (v'.cpus d).running ≡ (w.cpus d).running = λ d. put_running limits topology tick us v c x d ∙ same.running d in
        let st₁ = unsettle us x active w v' r safe.one runs st in
        let s₂ = shows_scheduled limits topology tick us known numbered small early us_in H s₁ c x n wakeups in
        let ok = ok_put limits topology tick us known numbered H us_in (λ d. eqb d us) v c x (sound_same same (weaker limits topology tick us known numbered H us_in w safe)) n in
        let number : number_or_none (v'.cpus us).running ≡ x = ap number_or_none (runs us ∙ r) ∙ (unfold number_or_none in refl) in
        record {
          ends = subst (λ m. Ends limits topology known (pick_next_def k m ns (schedule_thread_on_cpu_def k c x wakeups (mem ts cs₁)).memory).threads
              (pick_next_def k m ns (schedule_thread_on_cpu_def k c x wakeups (mem ts cs₁)).memory).cpus (sched.pick_next limits topology tick us v')) number
              (shows_picked limits topology tick us known numbered small early us_in H ns tree node put_on st₁ s₂ ok);
          counted = counts_scheduled limits topology tick us known numbered small early us_in H s₁ c x n wakeups (count ∙ sym e) (rw e few) ∙ sym (pick_wakeups limits topology tick us v');
        }

    -- ---- where it goes back into a queue

    module _ (x : ℕ) (r : (w.cpus us).running ≡ Some x) where
      below : x < limits.threads
      below = numbered x (runs_known safe us x r)

      abbrev at_queue : Got
      at_queue = sched.reinsert_at limits topology tick us w x

      must : must_rebalance_def cs us ≡ (w.cpus us).must_rebalance
      must = must_rebalance_shown limits topology tick us known numbered small early s us us_in (runs_known safe us)

      reinsert_chosen : (reinsert_at_def ns us limits.cpus (record_at ts x) cs).answer ≡ at_queue.got
      unfolding reinsert_at_def sched.reinsert_at
      reinsert_chosen =
          both (w.cpus us).must_rebalance
          (λ e. rw (must ∙ e, e) (select_shown limits topology tick us known numbered small early us_in H ns tree node put_on s safe x below (Some us) ∙ ap (λ (o : Option ℕ). (sched.select_cpu limits topology tick us w x o).got) named_some))
          (λ e. rw (must ∙ e, e) refl)

      reinsert_shown : WorldRep limits topology known active ts (reinsert_at_def ns us limits.cpus (record_at ts x) cs).memory at_queue.world
      unfolding reinsert_at_def sched.reinsert_at
      reinsert_shown =
          both (w.cpus us).must_rebalance
          (λ e. rw (must ∙ e, e) (subst (λ (o : Option ℕ). WorldRep limits topology known active ts (selected_for cs ns us limits.cpus (record_at ts x) (Some us)) (sched.select_cpu limits topology tick us w x o).world) named_some
          (shows_selected limits topology tick us known numbered small early us_in H ns tree node put_on s safe x below (Some us))))
          (λ e. rw (must ∙ e, e) s)

      -- it finds a CPU below the limit, and changes draws alone
      reinsert_finds : is_some at_queue.got ≡ true
      unfolding sched.reinsert_at
      reinsert_finds =
          both (w.cpus us).must_rebalance (λ e. rw e (select_finds limits topology tick us known numbered small early us_in H ns tree node put_on (visited_placed limits topology tree.sound us node put_on) w x (Some us))) (λ e. rw e refl)

      reinsert_wakeups : at_queue.world.wakeups ≡ w.wakeups
      unfolding sched.reinsert_at
      reinsert_wakeups = both (w.cpus us).must_rebalance (λ e. rw e (select_wakeups limits topology tick us w x (Some us))) (λ e. rw e)

      reinsert_selected : Selected limits topology tick us known numbered H us_in w at_queue
      unfolding sched.reinsert_at
      reinsert_selected =
          both (w.cpus us).must_rebalance
          (λ e. rw e (select_cpu_selected limits topology tick us known numbered H us_in w x (Some us) (safe.mild x)))
          (λ e. rw e (record { same = same_self limits w; under = unfold Under in us_in }))

      -- `reinsert`, once it has to move
      moves : (o : Option ℕ) → at_queue.got ≡ o → is_some o ≡ true → Under limits.cpus o
          → Leaves limits topology known
          (then_next_def k x ns (reinserted_def k o x wakeups (mem ts (reinsert_at_def ns us limits.cpus (record_at ts x) cs).memory)))
          (sched.pick_next limits topology tick us (sched.reinserted limits topology tick us at_queue.world x o))
      unfolding Under sched.reinserted reinserted_def
      moves None e i u = absurd (false≢true i)
      moves (Some c) e i u = put_and_pick (reinsert_at_def ns us limits.cpus (record_at ts x) cs).memory at_queue.world c x reinsert_shown reinsert_selected.same reinsert_wakeups u r

      moves_shown : Leaves limits topology known
          (then_next_def k x ns (reinserted_def k (reinsert_at_def ns us limits.cpus (record_at ts x) cs).answer x wakeups (mem ts (reinsert_at_def ns us limits.cpus (record_at ts x) cs).memory)))
          (sched.pick_next limits topology tick us (sched.reinserted limits topology tick us at_queue.world x at_queue.got))
      moves_shown =
          subst (λ (o : Option ℕ). Leaves limits topology known (then_next_def k x ns (reinserted_def k o x wakeups (mem ts (reinsert_at_def ns us limits.cpus (record_at ts x) cs).memory)))
          (sched.pick_next limits topology tick us (sched.reinserted limits topology tick us at_queue.world x at_queue.got))) (sym reinsert_chosen)
          (moves at_queue.got refl reinsert_finds reinsert_selected.under)

      must_move : (f : SchedFlags) → must_move_def cs us (record_at ts x) f ≡ (f.preempt || ((w.cpus us).must_rebalance || sched.has_higher limits topology tick us w x f.yields))
      unfolding must_move_def sched.has_higher
      must_move f =
          ap (λ (b : Bool). f.preempt || (b || rq_has_higher cs us (record_at ts x) f.yields)) must
          ∙ ap (λ (b : Bool). f.preempt || ((w.cpus us).must_rebalance || b))
          (higher_shown limits topology tick us known numbered small early s us us_in (runs_known safe us) (record_at ts x) _ f.yields (ap effective_priority (s.threads x below)))

      -- its deadline is set anew
      reset_leaves : Leaves limits topology known (record { answer = wakeups; memory = mem (reset_thread_time_def k x cs ts) cs }) (sched.reset_thread_time limits topology tick us w us x)
      unfolding reset_thread_time_def context sched.reset_thread_time with_thread
      reset_leaves = record {
        ends = record {
          active = active;
          shows = shows_reset limits topology tick us known numbered small early s us us_in x below;
          settled = record { runs = st.runs; others = st.others };
        };
        counted = count;
      }

      pub shows_reinserted : (f : SchedFlags) → Leaves limits topology known (reinsert_def k x f wakeups ns (mem ts cs)) (sched.reinsert limits topology tick us w x f.yields f.preempt)
      unfolding reinsert_def sched.reinsert context
      shows_reinserted f =
          both (f.preempt || ((w.cpus us).must_rebalance || sched.has_higher limits topology tick us w x f.yields))
          (λ e. rw (must_move f ∙ e, e) moves_shown)
          (λ e. rw (must_move f ∙ e, e) (both f.yields
          (λ y. rw y (put_and_pick cs w us x s (same_self limits w) refl us_in r))
          (λ y. rw y reset_leaves)))

    -- ---- `do_schedule`

    abbrev Picked : List Thread → ℕ → Type 0
    Picked ts' n = Ends limits topology known (pick_next_def k n ns (mem ts' cs)).threads (pick_next_def k n ns (mem ts' cs)).cpus (sched.pick_next limits topology tick us w)

    idle_picks : (w.cpus us).running ≡ None → Leaves limits topology known (record { answer = wakeups; memory = pick_next_def k (running_at cs us) ns (mem ts cs) }) (sched.pick_next limits topology tick us w)
    idle_picks e = record {
      ends = subst (Picked ts) (sym (running_is limits topology tick us known numbered small early s us us_in (runs_known safe us)))
          (shows_picked limits topology tick us known numbered small early us_in H ns tree node put_on
          (record {
            runs = λ c y b q. st.runs c y refl q;
            others = λ y h. st.others y (λ c b q. both (eqb c us)
                (λ p. none-some y (sym e ∙ ap (λ d. (w.cpus d).running) (sym (eqb-true c us p)) ∙ q))
                (λ p. h c p q));
          })
          s (weaker limits topology tick us known numbered H us_in w safe));
      counted = count ∙ sym (pick_wakeups limits topology tick us w);
    }

    block_picks : (x : ℕ) → (w.cpus us).running ≡ Some x → Leaves limits topology known (record { answer = wakeups; memory = pick_next_def k x ns (mem (block_def x ts) cs) }) (sched.pick_next limits topology tick us w)
    block_picks x r = record {
      ends = subst (Picked (block_def x ts)) (ap number_or_none r ∙ some_number x)
          (shows_picked limits topology tick us known numbered small early us_in H ns tree node put_on (unsettle us x active w w r safe.one (λ c. refl) st)
          (shows_blocked limits topology tick us known numbered small early us_in H ns tree node put_on s x (runs_known safe us x r) (safe.free us x (unfold nobody_but in refl) r))
          (weaker limits topology tick us known numbered H us_in w safe));
      counted = count ∙ sym (pick_wakeups limits topology tick us w);
    }

    goes_on : (f : SchedFlags) (x : ℕ) → (w.cpus us).running ≡ Some x → (b : Bool) → Leaves limits topology known
        (cond b (reinsert_def k x f wakeups ns (mem ts cs)) (record { answer = wakeups; memory = pick_next_def k x ns (mem (block_def x ts) cs) }))
        (cond b (sched.reinsert limits topology tick us w x f.yields f.preempt) (sched.pick_next limits topology tick us w))
    goes_on f x e true = shows_reinserted x e f
    goes_on f x e false = block_picks x e

    do_schedules : (f : SchedFlags) (o : Option ℕ) → (w.cpus us).running ≡ o → Leaves limits topology known (do_schedule_def k f wakeups ns (mem ts cs)) (sched.do_schedule_of limits topology tick us w o (flags_in f))
    unfolding do_schedule_def sched.do_schedule_of context flags_in
    do_schedules f None e = rw (idle_at_work limits topology tick us known numbered small early s us us_in (runs_known safe us) ∙ ap (λ (o : Option ℕ). not (is_some o)) e ∙ idle_is) (idle_picks e)
    do_schedules f (Some x) e =
        let n : running_at cs us ≡ x = running_is limits topology tick us known numbered small early s us us_in (runs_known safe us) ∙ ap number_or_none e ∙ some_number x in
        rw (idle_at_work limits topology tick us known numbered small early s us us_in (runs_known safe us) ∙ ap (λ (o : Option ℕ). not (is_some o)) e ∙ some_is x, n)
        (goes_on f x e f.reinsert)

    -- SCHEDULE: "with a critical thread running it changes nothing"
    pub shows_schedule : (f : SchedFlags) → Leaves limits topology known (schedule_def k f wakeups ns (mem ts cs)) (sched.schedule limits topology tick us w (flags_in f))
    unfolding schedule_def sched.schedule sched.do_schedule context
    shows_schedule f =
        both (sched.critical_running w (w.cpus us).running)
        (λ e. rw (critical_at_work limits topology tick us known numbered small early s us us_in (runs_known safe us) ∙ e, e) (record { ends = record { active = active; shows = s; settled = st }; counted = count }))
        (λ e. rw (critical_at_work limits topology tick us known numbered small early s us us_in (runs_known safe us) ∙ e, e) (do_schedules f (w.cpus us).running refl))
