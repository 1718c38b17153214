-- 2026-01: "The last field of a line counts every call of `wakeup`, also a donation's call to the CPU that runs the command. It shall count only calls to a
-- different CPU." A put and a donation call it, nothing else. In what follows: the limits, the topology, the tick, and us, the CPU that runs the command.
use Rattle.std.specs.Prelude.{ℕ, ◌+◌, ◌≡◌, ◌≢◌, Bool, cond, ◌&&◌, eqb, Option, None, Some}
use Rattle.std.proofs.Math.Path.{refl}
use Rattle.std.proofs.Math.Bool.{not}
use borrow.Author.Tests.{eq-eqb, ne_eqb}
use Rattle.rules.specs.declared.Priority.{Priority}
use Rattle.rules.specs.Priority.{less, donation_accepted}
use Rattle.rules.specs.Times.{Thread, effective_priority, donated_to}
use Rattle.rules.specs.State.{Limits, Topology}
use Rattle.rules.specs.Schedule.{World, with_cpu, with_thread, noted, wakeup, is_empty, same_cpu}
use Rattle.rules.specs.Schedule as sched
use Rattle.rules.proofs.Laws.Line.{both}
use Rattle.rules.proofs.Laws.Sound.{at_here}
use Rattle.rules.specs.Wakeups.{with_count}

module _ (limits : Limits) (topology : Topology) (tick us : ℕ) where
  abbrev put : World → ℕ → ℕ → World
  put = sched.schedule_thread_on_cpu limits topology tick us

  abbrev donate : World → ℕ → Priority → World
  donate = sched.donate_priority limits topology tick us

  maybe_reads_no_count : (w : World) (n x : ℕ) (o : Option ℕ)
      → with_count (sched.maybe_wakeup limits topology tick us (with_count w n) x o) 0 ≡ with_count (sched.maybe_wakeup limits topology tick us w x o) 0
  unfolding with_count sched.maybe_wakeup wakeup
  maybe_reads_no_count w n x None = refl
  maybe_reads_no_count w n x (Some c) = refl

  -- "choices and queues compare as before": of what a put and a donation leave, nothing but the count depends on the count.
  pub put_reads_no_count : (w : World) (n c x : ℕ) → with_count (put (with_count w n) c x) 0 ≡ with_count (put w c x) 0
  unfolding with_count sched.schedule_thread_on_cpu sched.insert_thread sched.reset_thread_time wakeup noted with_thread with_cpu sched.should_signal sched.arrival
  put_reads_no_count w n c x = refl

  pub donation_reads_no_count : (w : World) (n x : ℕ) (p : Priority) → with_count (donate (with_count w n) x p) 0 ≡ with_count (donate w x p) 0
  unfolding sched.donate_priority with_count with_thread
  donation_reads_no_count w n x p =
      both (donation_accepted (w.threads x).donated p)
      (λ e. both (less (effective_priority (w.threads x)) p && not (same_cpu x (w.cpus us).running))
      (λ h. rw (e, h) (maybe_reads_no_count _ n x (w.threads x).queue_cpu)) (λ h. rw (e, h)))
      (λ e. rw e)

  -- A put calls a different CPU or none: each of its calls counts.
  pub put_counts_each_call : (w : World) (c x : ℕ) → (put w c x).wakeups ≡ cond (sched.should_signal limits topology tick us w c x) (w.wakeups + 1) w.wakeups
  unfolding sched.schedule_thread_on_cpu sched.should_signal sched.insert_thread sched.reset_thread_time wakeup noted with_thread with_cpu
  put_counts_each_call w c x = both (eqb c us) (λ e. rw e) (λ e. rw e)

  -- A donation to a thread that was put in the queue of the CPU that runs the command counts nothing.
  pub donation_to_own_queue_counts_nothing : (w : World) (x : ℕ) (p : Priority) → (w.threads x).queue_cpu ≡ Some us → (donate w x p).wakeups ≡ w.wakeups
  unfolding sched.donate_priority sched.maybe_wakeup wakeup with_thread
  donation_to_own_queue_counts_nothing w x p own =
      both (donation_accepted (w.threads x).donated p)
      (λ e. both (less (effective_priority (w.threads x)) p && not (same_cpu x (w.cpus us).running))
      (λ h. rw (e, h, own, eq-eqb us us refl)) (λ h. rw (e, h)))
      (λ e. rw e)

  -- One to a thread that was put in the queue of another CPU c counts exactly if it calls that CPU: it is accepted and raises the thread, which does not run on
  -- CPU us, somebody waits in that queue, and the queue advertises more than the priority that the thread has then.
  abbrev calls : World → ℕ → Priority → ℕ → Bool
  calls w x p c =
      donation_accepted (w.threads x).donated p && (less (effective_priority (w.threads x)) p && not (same_cpu x (w.cpus us).running)
      && (not (is_empty (w.cpus c)) && less (effective_priority (donated_to (w.threads x) (Some p))) (w.cpus c).advertised))

  maybe_elsewhere : (w : World) (x c : ℕ) (o : Option ℕ) (t : Thread) → o ≡ Some c → w.threads x ≡ t → c ≢ us
      → (sched.maybe_wakeup limits topology tick us w x o).wakeups ≡ cond (not (is_empty (w.cpus c)) && less (effective_priority t) (w.cpus c).advertised) (w.wakeups + 1) w.wakeups
  unfolding sched.maybe_wakeup wakeup
  maybe_elsewhere w x c o t put_there is other = rw (put_there, is, ne_eqb c us other)

  pub donation_elsewhere_counts_each_call : (w : World) (x : ℕ) (p : Priority) (c : ℕ) → (w.threads x).queue_cpu ≡ Some c → c ≢ us
      → (donate w x p).wakeups ≡ cond (calls w x p c) (w.wakeups + 1) w.wakeups
  unfolding sched.donate_priority with_thread
  donation_elsewhere_counts_each_call w x p c put_there other =
      both (donation_accepted (w.threads x).donated p)
      (λ e. both (less (effective_priority (w.threads x)) p && not (same_cpu x (w.cpus us).running))
      (λ h. rw (e, h) (maybe_elsewhere (with_thread w x (donated_to (w.threads x) (Some p))) x c (w.threads x).queue_cpu _ put_there (at_here w.threads x _) other)) (λ h. rw (e, h)))
      (λ e. rw e)
