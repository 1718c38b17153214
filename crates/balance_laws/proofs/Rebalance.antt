-- `schedule_maybe_rebalance` and `schedule_stattick` over records and words, where `balance` is the rules'.
use Rattle.std.specs.Prelude.{ℕ, ◌+◌, ◌≤◌, ◌<◌, ◌≡◌, Bool, true, false, ◌&&◌, List, eqb, ltb}
use Rattle.std.proofs.Math.Path.{refl, sym}
use Rattle.std.proofs.Common.{subst, ◌∙◌, true≢false}
use Rattle.std.specs.Cmp.{first_so, second_so}
use Rattle.rules.proofs.Laws.Line.{both}
use Rattle.rules.specs.Puts.{PutOrTake}
use Rattle.rules.specs.State.{Limits, Topology, Cpu}
use Rattle.rules.specs.Schedule as sched
use Rattle.rules.specs.Schedule.{World, with_cpu, with_draws, with_rebalance_time}
use Rattle.rules.proofs.Laws.Sound.{at_keeps, same_cpu_changed, sound_same, Sound}
use Rattle.rules.proofs.Laws.Steps.{nobody_but}
use Rattle.thread.specs.declared.Thread.{Thread}
use Rattle.thread.specs.Thread.{NONE}
use Rattle.represents.specs.World.{Small, WorldRep, most_tick}
use Rattle.represents.proofs.Laws.Clock.{shows_clock}
use Rattle.sched_words.specs.Rebalance.{rebalance_due}
use Rattle.records.specs.Left.{mem}
use Rattle.sched_words.specs.declared.context.Context.{Context}
use Rattle.sched_ticks.specs.Balance.{balance_def, maybe_rebalance_def, clocked, schedule_stattick_def}
use Rattle.sched_laws.proofs.Ticks.{due_shown, anew, shows_due, shows_not_due}
use Rattle.sched_laws.specs.Hardtick.{context}
use Rattle.sched_laws.specs.Switch.{Settled, no_one}
use Rattle.sched_laws.specs.Schedule.{Leaves}
use Rattle.sched_laws.proofs.Commands.{settled_same}

module _ (limits : Limits) (topology : Topology) (tick us : ℕ) (known : ℕ → Bool) (numbered : (x : ℕ) → known x ≡ true → x < limits.threads) (small : Small limits)
    (early : tick ≤ most_tick) (us_in : us < limits.cpus) (H : ℕ → List PutOrTake) (ns : List (List ℕ)) where
  abbrev k : Context
  k = context limits tick us

  -- the law of `balance` on CPU us
  abbrev pub Balances : Type 0
  Balances =
      (active : ℕ → Bool) (ts : List Thread) (cs : List (List ℕ)) (w : World) → WorldRep limits topology known active ts cs w → Sound limits known H nobody_but w → Settled no_one active w
      → (wakeups : ℕ) → wakeups ≡ w.wakeups → w.wakeups + 2 ≤ NONE → Leaves limits topology known (balance_def k wakeups ns (mem ts cs)) (sched.balance limits topology tick us w)

  module _ (balances : Balances) {active : ℕ → Bool} {ts : List Thread} {cs : List (List ℕ)} {w : World} (s : WorldRep limits topology known active ts cs w) (safe : Sound limits known H nobody_but w)
      (st : Settled no_one active w) (wakeups : ℕ) (count : wakeups ≡ w.wakeups) (few : w.wakeups + 2 ≤ NONE) (dt : ℕ) where
    abbrev due : Bool
    due = eqb us 0 && ltb (w.cpus us).rebalance_time dt

    abbrev next : World
    next = anew limits topology tick us known numbered small early us_in s dt

    balances_now : due ≡ true → sched.maybe_rebalance limits topology tick us w dt ≡ sched.balance limits topology tick us next
    unfolding sched.maybe_rebalance
    balances_now e = rw (first_so (eqb us 0) _ e, second_so (eqb us 0) _ e)

    not_now : due ≡ false → (c : ℕ) → ((sched.maybe_rebalance limits topology tick us w dt).cpus c).running ≡ (w.cpus c).running
    unfolding sched.maybe_rebalance with_cpu with_rebalance_time
    not_now e c =
        both (eqb us 0)
        (λ a. both (ltb (w.cpus us).rebalance_time dt) (λ l. absurd (true≢false (rw (a, l) at e))) (λ l. rw (a, l) (at_keeps (λ (p : Cpu). p.running) w.cpus us _ refl c)))
        (λ a. rw a)

    not_now_wakeups : due ≡ false → (sched.maybe_rebalance limits topology tick us w dt).wakeups ≡ w.wakeups
    unfolding sched.maybe_rebalance with_cpu
    not_now_wakeups e =
        both (eqb us 0)
        (λ a. both (ltb (w.cpus us).rebalance_time dt) (λ l. absurd (true≢false (rw (a, l) at e))) (λ l. rw (a, l)))
        (λ a. rw a)

    next_running : (c : ℕ) → (next.cpus c).running ≡ (w.cpus c).running
    unfolding with_cpu with_rebalance_time with_draws
    next_running c = at_keeps (λ (p : Cpu). p.running) w.cpus us _ refl c

    next_sound : Sound limits known H nobody_but next
    unfolding with_rebalance_time with_draws
    next_sound = sound_same (same_cpu_changed limits w us _ refl refl) safe

    next_leaves : due ≡ true → Leaves limits topology known (balance_def k wakeups ns (mem ts (rebalance_due us dt cs).memory)) (sched.balance limits topology tick us next)
    unfolding with_cpu
    next_leaves e = balances active ts (rebalance_due us dt cs).memory next (shows_due limits topology tick us known numbered small early us_in s dt e) next_sound (settled_same w next next_running st) wakeups count few

    pub shows_maybe_rebalance : Leaves limits topology known (maybe_rebalance_def k dt wakeups ns (mem ts cs)) (sched.maybe_rebalance limits topology tick us w dt)
    unfolding maybe_rebalance_def context
    shows_maybe_rebalance =
        both due
        (λ e. rw (due_shown limits topology tick us known numbered small early us_in s dt ∙ e) (subst (Leaves limits topology known (balance_def k wakeups ns (mem ts (rebalance_due us dt cs).memory))) (sym (balances_now e)) (next_leaves e)))
        (λ e. rw (due_shown limits topology tick us known numbered small early us_in s dt ∙ e) (record {
          ends = record { active = active; shows = shows_not_due limits topology tick us known numbered small early us_in s dt e; settled = settled_same w _ (not_now e) st };
          counted = count ∙ sym (not_now_wakeups e);
        }))

    clock_running : (v : World) (c : ℕ) → ((sched.clock limits topology tick us v).cpus c).running ≡ (v.cpus c).running
    unfolding sched.clock with_cpu sched.with_queue
    clock_running v c = at_keeps (λ (p : Cpu). p.running) v.cpus us _ refl c

    clock_wakeups : (v : World) → (sched.clock limits topology tick us v).wakeups ≡ v.wakeups
    unfolding sched.clock with_cpu
    clock_wakeups v = refl

    pub shows_stattick : Leaves limits topology known (schedule_stattick_def k dt wakeups ns (mem ts cs)) (sched.schedule_stattick limits topology tick us w dt)
    unfolding schedule_stattick_def clocked context sched.schedule_stattick
    shows_stattick =
        let l = shows_maybe_rebalance in
        record {
          ends = record {
            active = l.ends.active;
            shows = shows_clock l.ends.shows small us us_in tick;
            settled = settled_same _ _ (clock_running _) l.ends.settled;
          };
          counted = l.counted ∙ sym (clock_wakeups _);
        }
