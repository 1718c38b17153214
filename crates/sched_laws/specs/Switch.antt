-- THE NEXT THREAD OF A CPU: `switch_to` and what `do_schedule` does once the thread running is back in a queue or blocked.
use Rattle.std.specs.Prelude.{ℕ, ◌≡◌, ◌≢◌, Bool, true, List, Some}
use Rattle.std.proofs.Math.Bool.{false}
use Rattle.rules.specs.State.{Limits, Topology}
use Rattle.rules.specs.Schedule.{World}
use Rattle.thread.specs.declared.Thread.{Thread}
use Rattle.represents.specs.World.{WorldRep}

-- The active threads are those that run on a CPU; but: CPUs whose thread running is on its way into a queue or blocked.
pub record Settled (but active : ℕ → Bool) (w : World) : Type 0 where
  pub runs : (c x : ℕ) → but c ≡ false → (w.cpus c).running ≡ Some x → active x ≡ true
  pub others : (x : ℕ) → ((c : ℕ) → but c ≡ false → (w.cpus c).running ≢ Some x) → active x ≡ false

abbrev pub no_one : ℕ → Bool
no_one c = false

-- Records and words show the world that the rules leave, and the active threads are those that run.
pub record Ends (limits : Limits) (topology : Topology) (known : ℕ → Bool) (ts : List Thread) (cs : List (List ℕ)) (v : World) : Type 0 where
  pub active : ℕ → Bool
  pub shows : WorldRep limits topology known active ts cs v
  pub settled : Settled no_one active v
