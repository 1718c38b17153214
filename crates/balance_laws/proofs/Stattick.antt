-- `balance`, `schedule_maybe_rebalance` AND `schedule_stattick` OVER RECORDS AND WORDS: what they leave shows what the rules leave, and the wake-ups are
-- the rules'.
use Rattle.std.specs.Prelude.{ℕ, ◌+◌, ◌≤◌, ◌<◌, ◌≡◌, Bool, true, List}
use Rattle.rules.specs.Puts.{PutOrTake}
use Rattle.rules.specs.State.{Limits, Topology}
use Rattle.rules.specs.Schedule as sched
use Rattle.rules.specs.Schedule.{World}
use Rattle.rules.proofs.Laws.Sound.{Sound}
use Rattle.rules.proofs.Laws.Steps.{nobody_but}
use Rattle.thread.specs.declared.Thread.{Thread}
use Rattle.thread.specs.Thread.{NONE}
use Rattle.represents.specs.World.{Small, WorldRep, most_tick}
use Rattle.represents.specs.Topology.{TopologyRep}
use Rattle.records.specs.Left.{mem}
use Rattle.sched_ticks.specs.Balance.{balance_def, maybe_rebalance_def, schedule_stattick_def}
use Rattle.sched_laws.specs.Hardtick.{context}
use Rattle.sched_laws.specs.Switch.{Settled, no_one}
use Rattle.sched_laws.specs.Schedule.{Leaves}
use Rattle.sched_laws.proofs.Commands.{settled_same}
use Rattle.sched_laws.proofs.Frames.{balance_running}
use Rattle.balance_laws.proofs.Rebalance.{Balances, shows_maybe_rebalance, shows_stattick}
use Rattle.balance_laws.proofs.Balance.{balance_shown}

module _ (limits : Limits) (topology : Topology) (tick us : ℕ) (known : ℕ → Bool) (numbered : (x : ℕ) → known x ≡ true → x < limits.threads) (small : Small limits)
    (early : tick ≤ most_tick) (us_in : us < limits.cpus) (H : ℕ → List PutOrTake) (ns : List (List ℕ)) (tree : TopologyRep limits ns topology) where
  balances : Balances limits topology tick us known numbered small early us_in H ns
  balances active ts cs w s safe st wakeups count few =
      let m = balance_shown limits topology tick us known numbered small early H us_in active ns tree wakeups s safe count few in
      record { ends = record { active = active; shows = m.shows; settled = settled_same w _ (balance_running limits topology tick us w) st }; counted = m.counted }

  module _ {active : ℕ → Bool} {ts : List Thread} {cs : List (List ℕ)} {w : World} (s : WorldRep limits topology known active ts cs w) (safe : Sound limits known H nobody_but w) (st : Settled no_one active w)
      (wakeups : ℕ) (count : wakeups ≡ w.wakeups) (few : w.wakeups + 2 ≤ NONE) where
    -- "`balance` makes at most 20 choices and moves at most two threads"
    pub balance_law : Leaves limits topology known (balance_def (context limits tick us) wakeups ns (mem ts cs)) (sched.balance limits topology tick us w)
    balance_law = balances active ts cs w s safe st wakeups count few

    -- "only on the boot CPU"
    pub maybe_rebalance_law : (dt : ℕ) → Leaves limits topology known (maybe_rebalance_def (context limits tick us) dt wakeups ns (mem ts cs)) (sched.maybe_rebalance limits topology tick us w dt)
    maybe_rebalance_law dt = shows_maybe_rebalance limits topology tick us known numbered small early us_in H ns balances s safe st wakeups count few dt

    -- 15: `schedule_stattick`
    pub stattick_law : (dt : ℕ) → Leaves limits topology known (schedule_stattick_def (context limits tick us) dt wakeups ns (mem ts cs)) (sched.schedule_stattick limits topology tick us w dt)
    stattick_law dt = shows_stattick limits topology tick us known numbered small early us_in H ns balances s safe st wakeups count few dt
