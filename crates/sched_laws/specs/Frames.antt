-- Frame lemmas: fields of a world that a put, a take, a choice, a switch, a mark, a hard tick, a donation or `balance` leaves unchanged.
use Prim.Native.Nat.{ℕ}
use Rattle.std.specs.Prelude.{◌≡◌}
use Rattle.rules.specs.declared.Priority.{Priority}
use Rattle.rules.specs.Times.{Thread}
use Rattle.rules.specs.Puts.{PutOrTake}
use Rattle.rules.specs.Queue.{Queue}
use Rattle.rules.specs.Schedule.{World, with_cpu, with_thread, with_queue, with_draws, set_rebalance, noted}

-- f reads nothing of the records, the log, the queues, the draws and the marks to rebalance
pub record Unchanged {A : Type 0} (f : World → A) : Type 0 where
  pub thread : (w : World) (x : ℕ) (t : Thread) → f (with_thread w x t) ≡ f w
  pub log : (w : World) (c : ℕ) (e : PutOrTake) → f (noted w c e) ≡ f w
  pub queue : (w : World) (c : ℕ) (q : Queue) (said : Priority) → f (with_cpu w c (with_queue (w.cpus c) q said)) ≡ f w
  pub draws : (w : World) (c d : ℕ) → f (with_cpu w c (with_draws (w.cpus c) d)) ≡ f w
  pub mark : (w : World) (c : ℕ) → f (with_cpu w c (set_rebalance (w.cpus c))) ≡ f w
