-- `schedule_hardtick` OVER RECORDS AND WORDS IS THE RULES'.
use Rattle.std.specs.Prelude.{ℕ, ◌≤◌, ◌<◌, ◌≡◌, Bool, ◌||◌, List, set, Option, None, Some, is_some}
use Rattle.std.proofs.Math.Path.{refl, ap}
use Rattle.std.proofs.Common.{sym, subst, ◌∙◌, arith}
use Rattle.std.proofs.Math.Bool.{true, false, not}
use Rattle.std.proofs.Math.Dec.{eqb}
use borrow.Author.Tests.{ne_eqb}
use Rattle.rules.specs.State.{Limits, Topology}
use Rattle.rules.specs.Schedule as sched
use Rattle.rules.specs.Schedule.{World}
use Rattle.thread.specs.declared.Thread.{Thread}
use Rattle.thread.specs.Thread.{NONE}
use Rattle.thread.specs.Time.{pay_ticks}
use Rattle.records.specs.Rq.{record_at, hardtick_def}
use Rattle.represents.specs.World.{number_or_none, Small, WorldRep, most_tick}
use Rattle.sched_words.specs.Running.{running_at}
use Rattle.sched_words.specs.Preempt.{needs_reschedule_def, marked, allowed_at, expires, idle_paid}
use Rattle.sched_words.specs.declared.context.Context.{Context}
use Rattle.records.specs.Left.{mem, Memory}
use Rattle.sched_ticks.specs.Ticks.{paid_by_def, schedule_hardtick_def}
use Rattle.sched_laws.proofs.Words.{running_is, idle_at_work, needs_shown, shows_marked}
use Rattle.sched_laws.proofs.Ticks.{pay, shows_idle_paid, idle_expired, shows_paid, expired_of}
use Rattle.sched_laws.specs.Hardtick.{context}

module _ (limits : Limits) (topology : Topology) (tick us : ℕ) (known : ℕ → Bool) (numbered : (x : ℕ) → known x ≡ true → x < limits.threads) (small : Small limits)
    (early : tick ≤ most_tick) (us_in : us < limits.cpus) where
  abbrev k : Context
  k = context limits tick us

  module _ {active : ℕ → Bool} {ts : List Thread} {cs : List (List ℕ)} {w : World} (s : WorldRep limits topology known active ts cs w)
      (runs : (x : ℕ) → (w.cpus us).running ≡ Some x → known x ≡ true) (late : (w.cpus us).last_tick ≤ tick) where
    abbrev Ends : Memory → World → Type 0
    Ends m v = WorldRep limits topology known active m.threads m.cpus v

    needs : needs_reschedule_def cs us (record_at ts (running_at cs us)) true ≡ sched.needs_reschedule limits topology tick us w true
    needs = needs_shown limits topology tick us known numbered small early s us us_in runs true refl

    pays : (o : Option ℕ) → (w.cpus us).running ≡ o
        → Ends (paid_by_def k (running_at cs us) (hardtick_def us tick cs) (mem ts cs))
        (sched.mark_preempt limits topology tick us (sched.paid_by limits topology tick us w o (pay limits topology tick us known numbered small early us_in s runs late o).timeslice)
        (sched.needs_reschedule limits topology tick us w true || (pay limits topology tick us known numbered small early us_in s runs late o).expired))
    unfolding paid_by_def context expires
    pays None e =
        let i : eqb (running_at cs us) NONE ≡ true = idle_at_work limits topology tick us known numbered small early s us us_in runs ∙ ap (λ (o : Option ℕ). not (is_some o)) e ∙ refl in
        rw i
        (subst (λ (b : Bool). WorldRep limits topology known active ts (marked (idle_paid us limits.shortest (hardtick_def us tick cs).answer (hardtick_def us tick cs).memory).memory us b)
        (sched.mark_preempt limits topology tick us (sched.paid_by limits topology tick us w None (pay limits topology tick us known numbered small early us_in s runs late None).timeslice)
        (sched.needs_reschedule limits topology tick us w true || (pay limits topology tick us known numbered small early us_in s runs late None).expired)))
        (sym (ap (λ (b : Bool). b || (idle_paid us limits.shortest (hardtick_def us tick cs).answer (hardtick_def us tick cs).memory).answer) needs
        ∙ ap (λ (b : Bool). sched.needs_reschedule limits topology tick us w true || b) (idle_expired limits topology tick us known numbered small early us_in s runs late)))
        (shows_marked limits topology tick us known numbered small early (shows_idle_paid limits topology tick us known numbered small early us_in s runs late) us_in _))
    pays (Some x) e =
        let r : running_at cs us ≡ x = running_is limits topology tick us known numbered small early s us us_in runs ∙ ap number_or_none e ∙ (unfold number_or_none in refl) in
        let i : eqb x NONE ≡ false = ne_eqb x NONE (λ z. omega (arith, numbered x (runs x e), small.threads)) in
        let d : needs_reschedule_def cs us (record_at ts x) true ≡ sched.needs_reschedule limits topology tick us w true = ap (λ n. needs_reschedule_def cs us (record_at ts n) true) (sym r) ∙ needs in
        let p : Thread = (pay_ticks (record_at ts x) (hardtick_def us tick cs).answer (allowed_at (hardtick_def us tick cs).memory us limits.shortest (record_at ts x))).thread in
        rw (r, i)
        (subst (λ (b : Bool). WorldRep limits topology known active (set ts x p) (marked (hardtick_def us tick cs).memory us b)
        (sched.mark_preempt limits topology tick us (sched.paid_by limits topology tick us w (Some x) (pay limits topology tick us known numbered small early us_in s runs late (Some x)).timeslice)
        (sched.needs_reschedule limits topology tick us w true || (pay limits topology tick us known numbered small early us_in s runs late (Some x)).expired)))
        (sym (ap (λ (b : Bool). b || (pay_ticks (record_at ts x) (hardtick_def us tick cs).answer (allowed_at (hardtick_def us tick cs).memory us limits.shortest (record_at ts x))).expired) d
        ∙ ap (λ (b : Bool). sched.needs_reschedule limits topology tick us w true || b) (expired_of limits topology tick us known numbered small early us_in s runs late x e)))
        (shows_marked limits topology tick us known numbered small early (shows_paid limits topology tick us known numbered small early us_in s runs late x e) us_in _))

    pub shows_schedule_hardtick : Ends (schedule_hardtick_def k (mem ts cs)) (sched.schedule_hardtick limits topology tick us w)
    unfolding schedule_hardtick_def sched.schedule_hardtick context
    shows_schedule_hardtick = pays (w.cpus us).running refl
