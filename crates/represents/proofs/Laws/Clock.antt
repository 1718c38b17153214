-- A CLOCK AND A HARD TICK of the run queue of a CPU.
use Rattle.std.specs.Prelude.{ℕ, ◌-◌, ◌^◌, ◌≤◌, ◌<◌, ◌≡◌, Bool}
use Rattle.std.proofs.Math.Path.{refl, ap}
use mathlib.Core.List.{List}
use Rattle.rules.specs.Line.{has}
use Rattle.rules.specs.Queue.{order, advance_insert_index}
use Rattle.rules.proofs.Laws.Effect.{advance_order}
use Rattle.rules.specs.State.{Limits, Topology, Cpu}
use Rattle.rules.specs.Schedule as sched
use Rattle.rules.specs.Schedule.{World, with_cpu, with_queue, with_ticks}
use Rattle.rules.proofs.Laws.Sound.{at_keeps}
use Rattle.thread.specs.declared.Thread.{Thread}
use Rattle.runqueue.specs.RunQueue.{rq_clock, rq_hardtick}
use Rattle.processor.specs.Queue.{queue_at}
use Rattle.represents.specs.Queue.{QueueReading}
use Rattle.represents.proofs.Laws.Readings.{clock_reading, hardtick_reading}
use Rattle.represents.proofs.Laws.System.{clock_law, hardtick_law, ticks_law}
use Rattle.records.specs.Rq.{clock_def, hardtick_def}
use Rattle.represents.specs.World.{reading_of, Small, WorldRep}
use Rattle.represents.proofs.Laws.Frames.{places_same, words_alike}
use Rattle.represents.proofs.Laws.PutTake.{fits, words_queue, shows_stored}

module _ {limits : Limits} {topology : Topology} {known active : ℕ → Bool} {ts : List Thread} {cs : List (List ℕ)} {w : World} (s : WorldRep limits topology known active ts cs w) (small : Small limits) (c : ℕ) (near : c < limits.cpus) where
  abbrev Rs : ℕ → QueueReading
  Rs d = reading_of (w.cpus d)

  -- CLOCK
  pub shows_clock : (tick : ℕ) → WorldRep limits topology known active ts (clock_def c cs) (sched.clock limits topology tick c w)
  unfolding clock_def sched.clock with_cpu with_queue clock_reading reading_of
  shows_clock tick =
      let p : Cpu = with_queue (w.cpus c) (advance_insert_index (w.cpus c).queue) (w.cpus c).advertised in
      shows_stored s c ts (rq_clock (queue_at cs c)) p (with_cpu w c p) refl refl
      (clock_law limits.threads limits.cpus ts cs Rs s.queues c near (fits small))
      (words_queue cs c (w.cpus c) _ _ (s.words c near)) s.threads s.queue_cpus
      (places_same w (with_cpu w c p) (λ d x. ap (λ (l : List ℕ). has x l) (at_keeps (λ (u : Cpu). order u.queue) w.cpus c p (advance_order (w.cpus c).queue) d)) s.places)

  -- HARD TICK: the tick is kept, and the ticks since the last one are answered
  pub shows_hardtick : (now : ℕ) → WorldRep limits topology known active ts (hardtick_def c now cs).memory (with_cpu w c (with_ticks (w.cpus c) now (w.cpus c).idle_timeslice))
  unfolding hardtick_def with_cpu with_ticks hardtick_reading reading_of
  shows_hardtick now =
      let p : Cpu = with_ticks (w.cpus c) now (w.cpus c).idle_timeslice in
      shows_stored s c ts (rq_hardtick (queue_at cs c) now).queue p (with_cpu w c p) refl refl
      (hardtick_law limits.threads limits.cpus ts cs Rs s.queues c near (fits small) now)
      (words_alike (w.cpus c) p refl refl refl refl refl refl refl refl refl (s.words c near)) s.threads s.queue_cpus
      (places_same w (with_cpu w c p) (λ d x. at_keeps (λ (u : Cpu). has x (order u.queue)) w.cpus c p refl d) s.places)

  pub ticks_shown : (now : ℕ) → now < 2 ^ 64 → (w.cpus c).last_tick ≤ now → (hardtick_def c now cs).answer ≡ now - (w.cpus c).last_tick
  unfolding reading_of
  ticks_shown now h l = ticks_law limits.threads limits.cpus ts cs Rs s.queues c near (fits small) now h l
