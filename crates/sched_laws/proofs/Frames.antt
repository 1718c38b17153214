-- Frame lemmas: fields of a world that a put, a take, a choice, a switch, a mark, a hard tick, a donation or `balance` leaves unchanged.
use Prim.Native.Nat.{ℕ, zero, suc, ◌+◌, ◌≤◌}
use Rattle.std.specs.Prelude.{◌≡◌, Bool, ◌&&◌, eqb, Option, None, Some}
use Rattle.std.proofs.Math.Path.{refl}
use Rattle.std.proofs.Common.{◌∙◌, arith}
use Rattle.std.proofs.Math.Bool.{false, not, true}
use Rattle.std.proofs.Math.Dec.{ltb}
use Rattle.rules.specs.declared.choice.Pair.{Pair}
use Rattle.rules.specs.declared.Priority.{Priority}
use Rattle.rules.proofs.Laws.Line.{both}
use Rattle.rules.specs.Times.{effective_priority}
use Rattle.rules.specs.Queue.{Queue, load, Next, nobody, next_in}
use Rattle.rules.specs.State.{Limits, Topology, Cpu}
use Rattle.rules.specs.Schedule as sched
use Rattle.rules.specs.Schedule.{World, Balancing, with_cpu, with_thread, with_queue, with_draws, with_running, set_rebalance, noted, wakeup, with_preempt, with_ticks}
use Rattle.rules.proofs.Laws.Sound.{at_keeps}
use Rattle.rules.specs.Priority.{less, donation_accepted}
use Rattle.sched_laws.specs.Frames.{Unchanged}

module _ (limits : Limits) (topology : Topology) (tick us : ℕ) where
  module _ {A : Type 0} (f : World → A) (a : Unchanged f) where
    handed : (w : World) (c : ℕ) (b : Bool) (n : Next) → f (sched.handed_out limits topology tick us w c b n).world ≡ f w
    unfolding sched.handed_out
    handed w c b nobody = a.log w c _
    handed w c b (next_in p j x) = a.log _ c _ ∙ a.queue w c _ _

    moved : (d : ℕ) (o : Option ℕ) (w : World) → f (sched.moved_for limits topology tick us d o w).world ≡ f w
    unfolding sched.moved_for
    moved d None w = refl
    moved d (Some x) w = a.thread w x _

    from : (w : World) (c d : ℕ) → f (sched.take_a_thread_from_cpu limits topology tick us w c d).world ≡ f w
    unfolding sched.take_a_thread_from_cpu sched.take_thread
    from w c d = moved d _ _ ∙ handed w c _ _

    steal : (w : World) (o : Option ℕ) → f (sched.steal_from limits topology tick us w o).world ≡ f w
    unfolding sched.steal_from
    steal w None = refl
    steal w (Some c) = from w c us

    topo : (w : World) (p : Option Priority) → f (sched.find_cpu_from_topo limits topology tick us w p).world ≡ f w
    unfolding sched.find_cpu_from_topo
    topo w p = a.draws w us _

    or_any : (w : World) (avoid o : Option ℕ) → f (sched.found_or_any limits topology tick us w avoid o).world ≡ f w
    unfolding sched.found_or_any
    or_any w avoid None = topo w None
    or_any w avoid (Some c) = both (sched.same_cpu c avoid) (λ e. rw e (topo w None)) (λ e. rw e)

    select_from : (w : World) (x : ℕ) (avoid o : Option ℕ) → f (sched.select_from limits topology tick us w x avoid o).world ≡ f w
    unfolding sched.select_from
    select_from w x avoid None = or_any _ avoid _ ∙ topo w _
    select_from w x avoid (Some c) = refl

    select : (w : World) (x : ℕ) (avoid : Option ℕ) → f (sched.select_cpu limits topology tick us w x avoid).world ≡ f w
    unfolding sched.select_cpu
    select w x avoid = select_from w x avoid _

    -- nor which thread runs
    module _ (runs : (w : World) (o : Option ℕ) (p : Priority) → f (with_cpu w us (with_running (w.cpus us) o p)) ≡ f w) where
      switch : (w : World) (o : Option ℕ) → f (sched.switch_to limits topology tick us w o) ≡ f w
      unfolding sched.switch_to sched.activated
      switch w None = runs w None _
      switch w (Some x) = a.thread _ x _ ∙ runs w (Some x) _

      stolen : (w : World) (cur o : Option ℕ) → f (sched.run_stolen limits topology tick us w cur o) ≡ f w
      unfolding sched.run_stolen
      stolen w cur (Some y) = switch w (Some y)
      stolen w None None = refl
      stolen w (Some x) None = switch w None

      taken : (w : World) (cur o : Option ℕ) → f (sched.run_taken limits topology tick us w cur o) ≡ f w
      unfolding sched.run_taken sched.try_steal
      taken w cur (Some y) = both (sched.same_cpu y cur) (λ e. rw e) (λ e. rw e (switch w (Some y)))
      taken w cur None = stolen _ cur _ ∙ steal w _

      pick : (w : World) → f (sched.pick_next limits topology tick us w) ≡ f w
      unfolding sched.pick_next sched.take_thread
      pick w = taken _ _ _ ∙ handed w us false _

    -- nor the mark to preempt
    module _ (marks : (w : World) (b : Bool) → f (with_cpu w us (with_preempt (w.cpus us) b)) ≡ f w) where
      mark_preempt : (w : World) (b : Bool) → f (sched.mark_preempt limits topology tick us w b) ≡ f w
      unfolding sched.mark_preempt
      mark_preempt w true = marks w true
      mark_preempt w false = refl

      resched : (w : World) → f (sched.schedule_resched limits topology tick us w) ≡ f w
      unfolding sched.schedule_resched
      resched w = mark_preempt w _

      -- nor the last hard tick
      module _ (pays : (w : World) (last paid : ℕ) → f (with_cpu w us (with_ticks (w.cpus us) last paid)) ≡ f w) where
        paid_by : (w : World) (o : Option ℕ) (n : ℕ) → f (sched.paid_by limits topology tick us w o n) ≡ f w
        unfolding sched.paid_by
        paid_by w None n = pays w _ _
        paid_by w (Some x) n = a.thread _ x _ ∙ pays w _ _

        hardtick : (w : World) → f (sched.schedule_hardtick limits topology tick us w) ≡ f w
        unfolding sched.schedule_hardtick
        hardtick w = mark_preempt _ _ ∙ paid_by w _ _

    -- nor the wake-ups
    module _ (wakes : (w : World) (c : ℕ) (b : Bool) → f (wakeup us w c b) ≡ f w) where
      put : (w : World) (c x : ℕ) → f (sched.schedule_thread_on_cpu limits topology tick us w c x) ≡ f w
      unfolding sched.schedule_thread_on_cpu sched.reset_thread_time sched.insert_thread
      put w c x = wakes _ c _ ∙ a.log _ c _ ∙ a.thread _ x _ ∙ a.queue _ c _ _ ∙ a.thread _ x _ ∙ a.thread w x _

      maybe_wakeup : (w : World) (x : ℕ) (o : Option ℕ) → f (sched.maybe_wakeup limits topology tick us w x o) ≡ f w
      unfolding sched.maybe_wakeup
      maybe_wakeup w x None = refl
      maybe_wakeup w x (Some c) = wakes w c _

      donate : (w : World) (x : ℕ) (p : Priority) → f (sched.donate_priority limits topology tick us w x p) ≡ f w
      unfolding sched.donate_priority
      donate w x p =
          both (donation_accepted (w.threads x).donated p)
          (λ e. rw e (both (less (effective_priority (w.threads x)) p && not (sched.same_cpu x (w.cpus us).running))
          (λ h. rw h (maybe_wakeup _ x _ ∙ a.thread w x _)) (λ h. rw h (a.thread w x _))))
          (λ e. rw e)

      received : (w : World) (allowed : ℕ → Bool) (n recipient : ℕ) (o : Option ℕ) → f (sched.received limits topology tick us w allowed n recipient o).world ≡ f w
      unfolding sched.received
      received w allowed n recipient None = refl
      received w allowed n recipient (Some x) = put w recipient x

      balance_pair : (w : World) (allowed : ℕ → Bool) (n : ℕ) (p : Option Pair) → f (sched.balance_pair limits topology tick us w allowed n p).world ≡ f w
      unfolding sched.balance_pair sched.move_one
      balance_pair w allowed n None = refl
      balance_pair w allowed n (Some p) =
          both (eqb (sched.current_load (w.cpus p.donor)) 0)
          (λ e. rw e)
          (λ e. rw e (both (ltb 0 (load (w.cpus p.donor).queue)) (λ h. rw h (received _ _ n p.recipient _ ∙ from _ p.donor p.recipient ∙ a.mark w p.donor)) (λ h. rw h (a.mark w p.donor))))

      balance_step : (b : Balancing) → f (sched.balance_step limits topology tick us b).world ≡ f b.world
      unfolding sched.balance_step
      balance_step b = balance_pair _ b.allowed b.steps _ ∙ a.draws b.world us _

      balance_turns : (n : ℕ) (b : Balancing) → f (sched.balance_turns limits topology tick us n b).world ≡ f b.world
      unfolding sched.balance_turns
      balance_turns zero b = refl
      balance_turns (suc n) b =
          both (b.goes_on && ltb b.steps (sched.max_steps limits topology tick us)) (λ e. rw e (balance_turns n (sched.balance_step limits topology tick us b) ∙ balance_step b)) (λ e. rw e)

      balance : (w : World) → f (sched.balance limits topology tick us w) ≡ f w
      unfolding sched.balance
      balance w = balance_turns _ _

  -- ---- the count of wake-ups

  abbrev count : World → ℕ
  count w = w.wakeups

  count_apart : Unchanged count
  unfolding with_cpu with_thread noted
  count_apart = record { thread = λ w x t. refl; log = λ w c e. refl; queue = λ w c q said. refl; draws = λ w c d. refl; mark = λ w c. refl }

  pub from_wakeups : (w : World) (c d : ℕ) → (sched.take_a_thread_from_cpu limits topology tick us w c d).world.wakeups ≡ w.wakeups
  from_wakeups = from count count_apart

  pub pick_wakeups : (w : World) → (sched.pick_next limits topology tick us w).wakeups ≡ w.wakeups
  pick_wakeups = pick count count_apart (λ w o p. unfold with_cpu in refl)

  pub select_wakeups : (w : World) (x : ℕ) (avoid : Option ℕ) → (sched.select_cpu limits topology tick us w x avoid).world.wakeups ≡ w.wakeups
  select_wakeups = select count count_apart

  pub resched_wakeups : (w : World) → (sched.schedule_resched limits topology tick us w).wakeups ≡ w.wakeups
  resched_wakeups = resched count count_apart (λ w b. unfold with_cpu in refl)

  pub hardtick_wakeups : (w : World) → (sched.schedule_hardtick limits topology tick us w).wakeups ≡ w.wakeups
  hardtick_wakeups = hardtick count count_apart (λ w b. unfold with_cpu in refl) (λ w last paid. unfold with_cpu in refl)

  -- a call of `wakeup` counts one at most, and so does a put

  pub call_one : (w : World) (c : ℕ) (b : Bool) → (wakeup us w c b).wakeups ≤ w.wakeups + 1
  unfolding wakeup
  call_one w c b = both (not (eqb c us) && b) (λ e. rw e (omega arith)) (λ e. rw e (omega arith))

  pub put_one : (w : World) (c x : ℕ) → (sched.schedule_thread_on_cpu limits topology tick us w c x).wakeups ≤ w.wakeups + 1
  unfolding sched.schedule_thread_on_cpu sched.insert_thread sched.reset_thread_time noted with_thread with_cpu
  put_one w c x = call_one _ c (sched.should_signal limits topology tick us w c x)

  -- ---- a field of CPU c

  module _ {A : Type 0} (field : Cpu → A) (c : ℕ) where
    abbrev of_cpu : World → A
    of_cpu w = field (w.cpus c)

    cpu_kept : (w : World) (d : ℕ) (p : Cpu) → field p ≡ field (w.cpus d) → of_cpu (with_cpu w d p) ≡ of_cpu w
    unfolding with_cpu
    cpu_kept w d p e = at_keeps field w.cpus d p e c

    cpu_apart : ((p : Cpu) (q : Queue) (said : Priority) → field (with_queue p q said) ≡ field p) → ((p : Cpu) (n : ℕ) → field (with_draws p n) ≡ field p)
        → ((p : Cpu) → field (set_rebalance p) ≡ field p) → Unchanged of_cpu
    cpu_apart q d m = record {
      thread = λ w x t. unfold with_thread in refl;
      log = λ w e l. unfold noted in refl;
      queue = λ w e l said. cpu_kept w e _ (q (w.cpus e) l said);
      draws = λ w e n. cpu_kept w e _ (d (w.cpus e) n);
      mark = λ w e. cpu_kept w e _ (m (w.cpus e));
    }

    wakes_kept : (w : World) (d : ℕ) (b : Bool) → of_cpu (wakeup us w d b) ≡ of_cpu w
    unfolding wakeup
    wakes_kept w d b = refl

  -- ---- the thread that it runs

  abbrev running_on : ℕ → World → Option ℕ
  running_on = of_cpu (λ (p : Cpu). p.running)

  runs_apart : (c : ℕ) → Unchanged (running_on c)
  runs_apart c = cpu_apart (λ (p : Cpu). p.running) c (λ p q said. unfold with_queue in refl) (λ p n. unfold with_draws in refl) (λ p. unfold set_rebalance in refl)

  pub put_running : (w : World) (c x d : ℕ) → ((sched.schedule_thread_on_cpu limits topology tick us w c x).cpus d).running ≡ (w.cpus d).running
  put_running w c x d = put (running_on d) (runs_apart d) (wakes_kept (λ (p : Cpu). p.running) d) w c x

  pub balance_running : (w : World) (c : ℕ) → ((sched.balance limits topology tick us w).cpus c).running ≡ (w.cpus c).running
  balance_running w c = balance (running_on c) (runs_apart c) (wakes_kept (λ (p : Cpu). p.running) c) w

  pub donate_running : (w : World) (x : ℕ) (p : Priority) (c : ℕ) → ((sched.donate_priority limits topology tick us w x p).cpus c).running ≡ (w.cpus c).running
  donate_running w x p c = donate (running_on c) (runs_apart c) (wakes_kept (λ (p : Cpu). p.running) c) w x p

  running_marks : (c : ℕ) (w : World) (b : Bool) → running_on c (with_cpu w us (with_preempt (w.cpus us) b)) ≡ running_on c w
  running_marks c w b = cpu_kept (λ (p : Cpu). p.running) c w us _ (unfold with_preempt in refl)

  pub resched_running : (w : World) (c : ℕ) → ((sched.schedule_resched limits topology tick us w).cpus c).running ≡ (w.cpus c).running
  resched_running w c = resched (running_on c) (runs_apart c) (running_marks c) w

  pub hardtick_running : (w : World) (c : ℕ) → ((sched.schedule_hardtick limits topology tick us w).cpus c).running ≡ (w.cpus c).running
  hardtick_running w c = hardtick (running_on c) (runs_apart c) (running_marks c) (λ v last paid. cpu_kept (λ (p : Cpu). p.running) c v us _ (unfold with_ticks in refl)) w

  -- ---- its last hard tick

  abbrev tick_of : Cpu → ℕ
  tick_of p = p.last_tick

  abbrev tick_on : ℕ → World → ℕ
  tick_on = of_cpu tick_of

  ticks_apart : (c : ℕ) → Unchanged (tick_on c)
  ticks_apart c = cpu_apart tick_of c (λ p q said. unfold with_queue in refl) (λ p n. unfold with_draws in refl) (λ p. unfold set_rebalance in refl)

  pub put_last : (w : World) (d x c : ℕ) → ((sched.schedule_thread_on_cpu limits topology tick us w d x).cpus c).last_tick ≡ (w.cpus c).last_tick
  put_last w d x c = put (tick_on c) (ticks_apart c) (wakes_kept tick_of c) w d x

  pub pick_last : (w : World) (c : ℕ) → ((sched.pick_next limits topology tick us w).cpus c).last_tick ≡ (w.cpus c).last_tick
  pick_last w c = pick (tick_on c) (ticks_apart c) (λ v o p. cpu_kept tick_of c v us _ (unfold with_running in refl)) w

  pub select_last : (w : World) (x : ℕ) (avoid : Option ℕ) (c : ℕ) → ((sched.select_cpu limits topology tick us w x avoid).world.cpus c).last_tick ≡ (w.cpus c).last_tick
  select_last w x avoid c = select (tick_on c) (ticks_apart c) w x avoid

  pub donate_last : (w : World) (x : ℕ) (p : Priority) (c : ℕ) → ((sched.donate_priority limits topology tick us w x p).cpus c).last_tick ≡ (w.cpus c).last_tick
  donate_last w x p c = donate (tick_on c) (ticks_apart c) (wakes_kept tick_of c) w x p

  pub balance_last : (w : World) (c : ℕ) → ((sched.balance limits topology tick us w).cpus c).last_tick ≡ (w.cpus c).last_tick
  balance_last w c = balance (tick_on c) (ticks_apart c) (wakes_kept tick_of c) w

  pub mark_last : (w : World) (b : Bool) (c : ℕ) → ((sched.mark_preempt limits topology tick us w b).cpus c).last_tick ≡ (w.cpus c).last_tick
  mark_last w b c = mark_preempt (tick_on c) (ticks_apart c) (λ v m. cpu_kept tick_of c v us _ (unfold with_preempt in refl)) w b
