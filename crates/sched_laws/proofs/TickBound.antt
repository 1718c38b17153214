-- NO CPU'S LAST HARD TICK IS PAST THE TICK, whatever calls are made.
use Rattle.std.specs.Prelude.{ℕ, ◌^◌, ◌≤◌, ◌≡◌, Bool, ◌&&◌, ◌||◌, List, [], ◌∷◌, ◌++◌, eqb, ltb, leb, Option, None, Some}
use Rattle.std.proofs.Math.Path.{refl}
use Rattle.std.proofs.Common.{◌∙◌, leb-true, arith}
use Rattle.std.specs.Cmp.{first_so}
use Rattle.rules.proofs.Laws.Line.{both, of_either}
use Rattle.rules.specs.State.{at, Limits, Topology, Cpu, new_cpu, State, start}
use Rattle.rules.specs.Schedule as sched
use Rattle.rules.specs.Schedule.{World, Flags, with_cpu, with_thread, with_queue, with_draws, with_preempt, with_rebalance_time, with_ticks}
use Rattle.rules.proofs.Laws.Sound.{at_keeps}
use Rattle.rules.specs.Requests.{Request, declare_cpu, add_node, place_cpu, seal, set_shortest, declare_thread, set_tick, schedule_thread, schedule, hardtick, stattick, resched, maybe_preempt, donate, remove_donation, set_critical, flags_of, Reading, read}
use Rattle.rules.specs.Questions.{Question, sealed_now, tick_fits, concerning, first_no, room}
use Rattle.rules.specs.Commands.{Answer, world_of, changed, shortened, ran, ran_on, schedules, scheduled_on, obeys, step, after_calls, answered}
use Rattle.rules.proofs.Laws.Answered.{kept_by_answer, kept_by_calls}
use Rattle.rules.proofs.Laws.Reached.{yes}
use Rattle.sched_laws.proofs.Frames.{put_last, pick_last, select_last, balance_last, donate_last, mark_last}
use Rattle.sched_laws.specs.TickBound.{TickBound}

module _ (limits : Limits) (topology : Topology) (tick us : ℕ) where
  -- the same last ticks
  abbrev Same : World → World → Type 0
  Same w v = (c : ℕ) → (v.cpus c).last_tick ≡ (w.cpus c).last_tick

  abbrev tick_of : Cpu → ℕ
  tick_of p = p.last_tick

  at_same : (w : World) (x : ℕ) → Same w (sched.reinsert_at limits topology tick us w x).world
  unfolding sched.reinsert_at
  at_same w x c = both (w.cpus us).must_rebalance (λ e. rw e (select_last limits topology tick us w x (Some us) c)) (λ e. rw e)

  reinserted_same : (w : World) (x : ℕ) (o : Option ℕ) → Same w (sched.reinserted limits topology tick us w x o)
  unfolding sched.reinserted
  reinserted_same w x None c = refl
  reinserted_same w x (Some d) c = put_last limits topology tick us w d x c

  reset_same : (w : World) (d x : ℕ) → Same w (sched.reset_thread_time limits topology tick us w d x)
  unfolding sched.reset_thread_time with_thread
  reset_same w d x c = refl

  reinsert_same : (w : World) (x : ℕ) (y p : Bool) → Same w (sched.reinsert limits topology tick us w x y p)
  unfolding sched.reinsert
  reinsert_same w x y p c =
      of_either (Same w) (p || ((w.cpus us).must_rebalance || sched.has_higher limits topology tick us w x y)) _ _ (λ d. pick_last limits topology tick us _ d ∙ reinserted_same _ x _ d ∙ at_same w x d)
      (λ d. of_either (Same w) y _ _ (λ e. pick_last limits topology tick us _ e ∙ put_last limits topology tick us w us x e) (reset_same w us x) d) c

  of_same : (w : World) (o : Option ℕ) (f : Flags) → Same w (sched.do_schedule_of limits topology tick us w o f)
  unfolding sched.do_schedule_of
  of_same w None f c = pick_last limits topology tick us w c
  of_same w (Some x) f c = of_either (Same w) f.again _ _ (reinsert_same w x f.yield f.preempt) (pick_last limits topology tick us w) c

  pub schedule_same : (w : World) (f : Flags) → Same w (sched.schedule limits topology tick us w f)
  unfolding sched.schedule sched.do_schedule
  schedule_same w f c = of_either (Same w) (sched.critical_running w (w.cpus us).running) w _ (λ d. refl) (of_same w _ f) c

  pub preempt_same : (w : World) → Same w (sched.schedule_maybe_preempt limits topology tick us w)
  unfolding sched.schedule_maybe_preempt with_cpu with_preempt
  preempt_same w c = of_either (Same w) (w.cpus us).preempt _ w (λ d. schedule_same _ _ d ∙ at_keeps tick_of w.cpus us _ refl d) (λ d. refl) c

  pub stattick_same : (w : World) (n : ℕ) → Same w (sched.schedule_stattick limits topology tick us w n)
  unfolding sched.schedule_stattick sched.clock sched.maybe_rebalance with_cpu with_queue with_rebalance_time with_draws
  stattick_same w n c = at_keeps tick_of _ us _ refl c ∙ of_either (Same w) (eqb us 0) _ w (λ d. of_either (Same w) (ltb (w.cpus us).rebalance_time n) _ _ (λ e. balance_last limits topology tick us _ e ∙ at_keeps tick_of w.cpus us _ refl e) (at_keeps tick_of w.cpus us _ refl) d) (λ d. refl) c

  -- a hard tick sets it to the tick
  paid_late : (w : World) (o : Option ℕ) (n : ℕ) → ((c : ℕ) → (w.cpus c).last_tick ≤ tick) → (c : ℕ) → ((sched.paid_by limits topology tick us w o n).cpus c).last_tick ≤ tick
  unfolding sched.paid_by with_cpu with_thread with_ticks at
  paid_late w None n h c = both (eqb c us) (λ e. rw e (omega arith)) (λ e. rw e (h c))
  paid_late w (Some x) n h c = both (eqb c us) (λ e. rw e (omega arith)) (λ e. rw e (h c))

  hard_late : (w : World) → ((c : ℕ) → (w.cpus c).last_tick ≤ tick) → (c : ℕ) → ((sched.schedule_hardtick limits topology tick us w).cpus c).last_tick ≤ tick
  unfolding sched.schedule_hardtick
  hard_late w h c = rw (mark_last limits topology tick us _ _ c) (paid_late w _ _ h c)

  resched_same : (w : World) → Same w (sched.schedule_resched limits topology tick us w)
  unfolding sched.schedule_resched
  resched_same w c = mark_last limits topology tick us w _ c

-- ---- all calls

tick_grows : (s : State) (t : ℕ) (l : List Question) → first_no (sealed_now s ∷ tick_fits s t ∷ l) ≡ 0 → s.tick ≤ t
unfolding sealed_now tick_fits
tick_grows s t l e = leb-true s.tick t (first_so _ _ (yes 7 (leb s.tick t && leb t (2 ^ 62)) l (yes 2 s.sealed (tick_fits s t ∷ l) e).1).0)

pub late_start : (limits : Limits) → TickBound (start limits)
unfolding start new_cpu
late_start limits = record { last = λ c. omega arith }

module _ (s : State) (k : TickBound s) where
  kept_late : (w : World) (a : Answer) → ((c : ℕ) → (w.cpus c).last_tick ≡ (s.cpus c).last_tick) → TickBound (ran s w a).state
  unfolding ran
  kept_late w a e = record { last = λ c. rw (e c) (k.last c) }

  on_cpu : (us x : ℕ) (w : World) (o : Option ℕ) → ((c : ℕ) → (w.cpus c).last_tick ≡ (s.cpus c).last_tick) → TickBound (scheduled_on s us x w o).state
  unfolding scheduled_on
  on_cpu us x w None e = kept_late w _ e
  on_cpu us x w (Some d) e = kept_late _ _ (λ c. put_last s.limits s.topology s.tick us w d x c ∙ e c)

  goes : (r : Request) → first_no (concerning s r ++ (room s ∷ [])) ≡ 0 → TickBound (obeys s r).state
  unfolding concerning obeys changed shortened ran_on schedules world_of
  goes (declare_cpu c) e = record { last = k.last }
  goes (add_node p n) e = record { last = k.last }
  goes (place_cpu n c) e = record { last = k.last }
  goes seal e = record { last = k.last }
  goes (set_shortest n) e = record { last = k.last }
  goes (declare_thread x c v p) e = record { last = k.last }
  goes (set_tick t) e = record { last = λ c. let h : s.tick ≤ t = tick_grows s t _ e in omega (arith, k.last c) }
  goes (schedule_thread us x) e = on_cpu us x _ _ (λ c. select_last s.limits s.topology s.tick us (world_of s) x None c)
  goes (schedule us f) e = kept_late _ _ (λ c. schedule_same s.limits s.topology s.tick us (world_of s) (flags_of f) c)
  goes (hardtick us) e = unfold ran in record { last = λ c. hard_late s.limits s.topology s.tick us (world_of s) k.last c }
  goes (stattick us n) e = kept_late _ _ (λ c. stattick_same s.limits s.topology s.tick us (world_of s) n c)
  goes (resched us) e = kept_late _ _ (λ c. resched_same s.limits s.topology s.tick us (world_of s) c)
  goes (maybe_preempt us) e = kept_late _ _ (λ c. preempt_same s.limits s.topology s.tick us (world_of s) c)
  goes (donate us x n v) e = kept_late _ _ (λ c. donate_last s.limits s.topology s.tick us (world_of s) x _ c)
  goes (remove_donation x) e = record { last = k.last }
  goes (set_critical x m) e = record { last = k.last }

  late_answered : (q : Reading) → TickBound (answered s q).state
  late_answered q = kept_by_answer TickBound s q k goes

  pub late_step : (bytes : List ℕ) → TickBound (step s bytes).state
  unfolding step
  late_step bytes = late_answered (read s.limits bytes)

pub late_calls : (s : State) (calls : List (List ℕ)) → TickBound s → TickBound (after_calls s calls)
late_calls s calls k = kept_by_calls TickBound (λ v bytes h. late_step v h bytes) s calls k
