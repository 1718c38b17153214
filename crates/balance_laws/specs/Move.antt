-- ONE CHOICE OF `balance`, and the move that it comes to: what memory says where it meets the rules' balancing, before and after.
use Prim.Native.Nat.{ℕ, ◌+◌, ◌*◌, ◌≤◌, ◌<◌}
use Rattle.std.specs.Prelude.{◌≡◌, Bool, true, List, is_some}
use Rattle.rules.specs.Puts.{PutOrTake}
use Rattle.rules.specs.State.{Limits, Topology}
use Rattle.rules.specs.Schedule.{Balancing}
use Rattle.rules.proofs.Laws.Sound.{Sound}
use Rattle.rules.proofs.Laws.Steps.{nobody_but}
use Rattle.thread.specs.declared.Thread.{Thread}
use Rattle.thread.specs.Thread.{NONE}
use Rattle.represents.specs.World.{Small, WorldRep, most_tick}
use Rattle.topology.specs.CpuSet as cpus
use Rattle.topology.specs.CpuSet.{Sixteen}
use Rattle.sched_words.specs.declared.balance.Balancing as step
use Rattle.processor.specs.Left.{Words, Left}
use Rattle.records.specs.Left.{mem}
use Rattle.sched_words.specs.declared.context.Context.{Context}
use Rattle.sched_ticks.specs.Balance.{move_one_def}
use Rattle.sched_laws.specs.Hardtick.{context}

-- us: the CPU that runs the command; base: the wake-ups counted before, which leave room for those of two moves
module _ (limits : Limits) (topology : Topology) (tick us : ℕ) (known : ℕ → Bool) (numbered : (x : ℕ) → known x ≡ true → x < limits.threads) (small : Small limits)
    (early : tick ≤ most_tick) (H : ℕ → List PutOrTake) (us_in : us < limits.cpus) (active : ℕ → Bool) (base : ℕ) (room : base + 2 ≤ NONE) where
  abbrev pub k : Context
  k = context limits tick us

  -- Memory shows the world, and the code's balancing is the rules'; which thread moves the code alone keeps.
  pub record Meets (ts : List Thread) (cs : List (List ℕ)) (wakeups : ℕ) (b : step.Balancing) (B : Balancing) : Type 0 where
    pub shows : WorldRep limits topology known active ts cs B.world
    pub safe : Sound limits known H nobody_but B.world
    pub words : Sixteen b.allowed
    pub allowed : (c : ℕ) → c < limits.cpus → cpus.contains b.allowed c ≡ B.allowed c
    pub steps : b.steps ≡ B.steps
    pub goes_on : b.goes_on ≡ B.goes_on
    pub counted : wakeups ≡ B.world.wakeups
    pub few : B.world.wakeups * 11 ≤ base * 11 + B.steps

  -- after a choice and the move that it comes to; a choice that moves a thread is eleven steps
  pub record Stepped (ts : List Thread) (n : ℕ) (s : Left step.Balancing Words) (before : ℕ) (B : Balancing) : Type 0 where
    pub meets : Meets (move_one_def k s.answer n (mem ts s.memory)).memory.threads (move_one_def k s.answer n (mem ts s.memory)).memory.cpus (move_one_def k s.answer n (mem ts s.memory)).answer s.answer B
    pub far : is_some s.answer.moves ≡ true → before + 11 ≤ B.steps
