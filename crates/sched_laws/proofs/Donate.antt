-- DONATION (hex 18) over records and words; its removal (19) and the critical mark (1A) are in represents' Laws/Frames.antt.
use Prim.Native.Nat.{ℕ, ◌≤◌, ◌<◌}
use Rattle.std.specs.Prelude.{◌≡◌, refl, Bool, true, ◌&&◌, List, set, eqb, Option, None, Some}
use Rattle.std.proofs.Math.Path.{sym, ap, subst}
use Rattle.std.proofs.Common.{◌∙◌}
use Rattle.std.proofs.Math.Bool.{cond, not}
use Rattle.rules.specs.declared.Priority.{Priority}
use Rattle.rules.proofs.Laws.Line.{both, of_either}
use Rattle.rules.specs.Priority.{nr_values, from_raw, raw, less, donation_accepted}
use Rattle.rules.specs.Times as times
use Rattle.rules.specs.Times.{effective_priority, pinned, donated_to}
use Rattle.rules.specs.State.{Limits, Topology}
use Rattle.rules.specs.Schedule as sched
use Rattle.rules.specs.Schedule.{World, with_thread, wakeup, is_empty}
use Rattle.rules.proofs.Laws.Sound.{at_here}
use Rattle.rules.specs.Waits.{Under}
use Rattle.thread.specs.declared.Thread.{Thread}
use Rattle.thread.specs.declared.priority.Donation.{Donation}
use Rattle.thread.specs.Flags.{set_donated_priority}
use Rattle.thread.specs.Thread.{NONE, with_donated}
use Rattle.thread.specs.Reads.{reads, donated_in, cpu_in}
use Rattle.thread.specs.Priority.{donate_priority, reads_donated}
use Rattle.processor.specs.Queue.{queue_at}
use Rattle.records.specs.Rq.{record_at}
use Rattle.represents.specs.World.{Small, WorldRep, most_tick}
use Rattle.represents.proofs.Laws.Frames.{shows_fields, shows_same_thread}
use Rattle.represents.proofs.Laws.Numbers.{advertised_shown, empty_shown}
use Rattle.sched_words.specs.Running.{running_at}
use Rattle.sched_words.specs.Donate.{wakeup_due, woken_in, maybe_reschedule, donation_signals}
use Rattle.sched_queues.specs.Donate.{donate_priority_def}
use Rattle.sched_laws.proofs.Words.{shows_wakeup, signal_counts, same_at_work}

-- ---- what a donation leaves of a record as it was

module _ (t : Thread) (p : Priority) where
  donated_keeps : {A : Type 0} (f : Thread → A) → f (with_donated t (raw p) (set_donated_priority t.flags)) ≡ f t → f (donate_priority t p).thread ≡ f t
  unfolding donate_priority
  donated_keeps f e = of_either (λ (d : Donation). f d.thread ≡ f t) (donation_accepted (donated_in t) p) _ _ e refl

  -- it is accepted, and raises the thread
  donated_resched : (donate_priority t p).needs_resched ≡ (donation_accepted (reads t).donated p && less (effective_priority (reads t)) p)
  unfolding donate_priority reads
  donated_resched = both (donation_accepted (donated_in t) p) (λ e. rw e) (λ e. rw e)

queue_reads : (t : Thread) → (cpu_in t.current_processor_queue) ≡ (reads t).queue_cpu
unfolding reads
queue_reads t = refl

module _ (limits : Limits) (topology : Topology) (tick us : ℕ) (known : ℕ → Bool) (numbered : (x : ℕ) → known x ≡ true → x < limits.threads) (small : Small limits)
    (early : tick ≤ most_tick) (us_in : us < limits.cpus) where
  module _ {active : ℕ → Bool} {ts : List Thread} {cs : List (List ℕ)} {w : World} (s : WorldRep limits topology known active ts cs w) (x : ℕ) (below : x < limits.threads) where
    abbrev r : Thread
    r = record_at ts x

    abbrev u : times.Thread
    u = w.threads x

    -- 18: `donate_priority`
    module _ (p : Priority) (low : p.value < nr_values) where
      abbrev accepted : Bool
      accepted = donation_accepted u.donated p

      abbrev after : times.Thread
      after = cond accepted (donated_to u (Some p)) u

      donated_reads : reads (donate_priority r p).thread ≡ after
      donated_reads = reads_donated r p low ∙ ap (λ (t : times.Thread). cond (donation_accepted t.donated p) (donated_to t (Some p)) t) (s.threads x below)

      first : WorldRep limits topology known active (set ts x (donate_priority r p).thread) cs (with_thread w x after)
      first =
          shows_fields s x (donate_priority r p).thread after below donated_reads (donated_keeps r p (λ (q : Thread). q.next) (unfold with_donated in refl)) (donated_keeps r p (λ (q : Thread). q.place) (unfold with_donated in refl))
          (of_either (λ (t : times.Thread). pinned t ≡ pinned u) accepted (donated_to u (Some p)) u (unfold donated_to pinned in refl) refl)
          (of_either (λ (t : times.Thread). t.stable.value ≡ u.stable.value) accepted (donated_to u (Some p)) u (unfold donated_to in refl) refl)
          (of_either (λ (t : times.Thread). Under limits.cpus t.queue_cpu) accepted (donated_to u (Some p)) u (unfold donated_to in s.queue_cpus x below) (s.queue_cpus x below))

      abbrev v : World
      v = with_thread w x (donated_to u (Some p))

      abbrev raises : Bool
      raises = less (effective_priority u) p && not (sched.same_cpu x (w.cpus us).running)

      shows_maybe : (q : Option ℕ) → WorldRep limits topology known active (set ts x (donate_priority r p).thread) cs v
          → WorldRep limits topology known active (set ts x (donate_priority r p).thread) cs (sched.maybe_wakeup limits topology tick us v x q)
      unfolding sched.maybe_wakeup
      shows_maybe None a = a
      shows_maybe (Some c) a = shows_wakeup us c _ a

      pub shows_donated : (wakeups : ℕ) → WorldRep limits topology known active (donate_priority_def us x p wakeups cs ts).memory cs (sched.donate_priority limits topology tick us w x p)
      unfolding donate_priority_def sched.donate_priority
      shows_donated wakeups =
          both accepted
          (λ e.
          let f : WorldRep limits topology known active (set ts x (donate_priority r p).thread) cs v =
          subst (λ (b : Bool). WorldRep limits topology known active (set ts x (donate_priority r p).thread) cs (with_thread w x (cond b (donated_to u (Some p)) u))) e first in
          rw e (both raises (λ h. rw h (shows_maybe u.queue_cpu f)) (λ h. rw h f)))
          (λ e.
          let f : WorldRep limits topology known active (set ts x (donate_priority r p).thread) cs (with_thread w x u) =
          subst (λ (b : Bool). WorldRep limits topology known active (set ts x (donate_priority r p).thread) cs (with_thread w x (cond b (donated_to u (Some p)) u))) e first in
          rw e (shows_same_thread w x f))

      -- its count of wake-ups
      module _ (runs : (y : ℕ) → (w.cpus us).running ≡ Some y → known y ≡ true) (wakeups : ℕ) (count : wakeups ≡ w.wakeups) (few : w.wakeups < NONE) (yes : accepted ≡ true) where
        abbrev t : Thread
        t = (donate_priority r p).thread

        due_shown : (c : ℕ) → c < limits.cpus → wakeup_due cs c t ≡ (not (is_empty (v.cpus c)) && less (effective_priority (v.threads x)) (v.cpus c).advertised)
        unfolding wakeup_due with_thread
        due_shown c h =
            ap (λ (b : Bool). not b && less (effective_priority (reads t)) (from_raw (queue_at cs c).current_priority)) (empty_shown s small c h)
            ∙ ap (λ (q : Priority). not (is_empty (w.cpus c)) && less (effective_priority (reads t)) q) (advertised_shown s small c h)
            ∙ ap (λ (z : times.Thread). not (is_empty (w.cpus c)) && less (effective_priority z) (w.cpus c).advertised)
            (donated_reads ∙ ap (λ (b : Bool). cond b (donated_to u (Some p)) u) yes ∙ sym (at_here w.threads x (donated_to u (Some p))))

        woken : (o : Option ℕ) (q : Option ℕ) → o ≡ q → Under limits.cpus q → maybe_reschedule cs us t wakeups o ≡ (sched.maybe_wakeup limits topology tick us v x q).wakeups
        unfolding maybe_reschedule woken_in sched.maybe_wakeup Under with_thread
        woken (Some c) (Some d) e h =
            let z : c ≡ d = cc in
            rw z (signal_counts v wakeups us d (wakeup_due cs d t) count few ∙ ap (λ (b : Bool). (wakeup us v d b).wakeups) (due_shown d h))
        woken (Some c) None e h = cc
        woken None (Some d) e h = cc
        woken None None e h = count

        queue_is : (cpu_in t.current_processor_queue) ≡ u.queue_cpu
        queue_is = donated_keeps r p (λ (q : Thread). cpu_in q.current_processor_queue) (unfold with_donated in refl) ∙ queue_reads r ∙ ap (λ (z : times.Thread). z.queue_cpu) (s.threads x below)

        raised : cond (less (effective_priority u) p) (cond (sched.same_cpu x (w.cpus us).running) wakeups (maybe_reschedule cs us t wakeups (cpu_in t.current_processor_queue))) wakeups
            ≡ (cond raises (sched.maybe_wakeup limits topology tick us v x u.queue_cpu) v).wakeups
        raised =
            both (less (effective_priority u) p)
            (λ l. rw l (both (sched.same_cpu x (w.cpus us).running) (λ m. rw m (unfold with_thread in count)) (λ m. rw m (woken (cpu_in t.current_processor_queue) u.queue_cpu queue_is (s.queue_cpus x below)))))
            (λ l. rw l (unfold with_thread in count))

      module _ (runs : (y : ℕ) → (w.cpus us).running ≡ Some y → known y ≡ true) (wakeups : ℕ) (count : wakeups ≡ w.wakeups) (few : w.wakeups < NONE) where
        resched_shown : (donate_priority r p).needs_resched ≡ (accepted && less (effective_priority u) p)
        resched_shown = donated_resched r p ∙ ap (λ (t : times.Thread). donation_accepted t.donated p && less (effective_priority t) p) (s.threads x below)

        pub counts_donated : (donate_priority_def us x p wakeups cs ts).answer ≡ (sched.donate_priority limits topology tick us w x p).wakeups
        unfolding donate_priority_def donation_signals sched.donate_priority
        counts_donated =
            let R : ℕ = maybe_reschedule cs us (donate_priority r p).thread wakeups (cpu_in (donate_priority r p).thread.current_processor_queue) in
            ap (λ (b : Bool). cond b (cond (eqb (running_at cs us) x) wakeups R) wakeups) resched_shown
            ∙ ap (λ (b : Bool). cond (accepted && less (effective_priority u) p) (cond b wakeups R) wakeups) (same_at_work limits topology tick us known numbered small early s us us_in runs x below)
            ∙ both accepted (λ e. rw e (raised runs wakeups count few e)) (λ e. rw e count)
