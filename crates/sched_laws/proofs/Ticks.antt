-- HARD TICKS, RESCHEDULING AND THE TIME UNTIL THE CPUS ARE BALANCED.
use Prim.Native.Nat.{ℕ, ◌+◌, ◌-◌, ◌%◌, ◌≤◌, ◌<◌}
use Rattle.std.specs.Prelude.{◌≡◌, Bool, true, ◌&&◌, ◌||◌, List, set, leb, Option, None, Some, is_some}
use Rattle.std.proofs.Math.Path.{refl, sym, ap, subst}
use Rattle.std.proofs.Common.{◌∙◌, true≢false, arith}
use Rattle.std.proofs.Math.Bool.{false, not}
use Rattle.std.proofs.lemmas.Bool.{false≢true}
use Rattle.std.proofs.Math.Dec.{eqb, ltb}
use Rattle.rules.proofs.Laws.Line.{both, of_either}
use Rattle.rules.specs.declared.Priority.{Priority}
use Rattle.rules.specs.Priority.{effective}
use Rattle.rules.specs.Draw.{next_state, draw}
use Rattle.rules.specs.Times as times
use Rattle.rules.specs.Times.{timeslice, effective_priority, pinned, paid_to}
use Rattle.rules.specs.Queue.{timeshare_load}
use Rattle.rules.specs.State.{Limits, Topology, Cpu, idle_priority, new_thread}
use Rattle.rules.specs.Schedule as sched
use Rattle.rules.specs.Schedule.{World, with_cpu, with_ticks, with_draws, with_rebalance_time, priority_running}
use Rattle.rules.proofs.Laws.Sound.{at_here}
use Rattle.thread.specs.declared.Thread.{Thread}
use Rattle.thread.specs.declared.time.Paid.{Paid}
use Rattle.thread.specs.Thread.{blank, with_timeslice}
use Rattle.thread.specs.Reads.{reads, donated_in}
use Rattle.thread.specs.Place.{reads_blank}
use Rattle.thread.specs.Time.{pay_ticks, reads_pay_ticks, expired_pay_ticks}
use Rattle.processor.specs.Words.{word, put_word}
use Rattle.processor.specs.Queue.{queue_at}
use Rattle.processor.specs.Word.{RAND_STATE, CUR_REBALANCE_TIME}
use Rattle.processor.specs.Left.{Words, Left}
use Rattle.records.specs.Rq.{record_at, hardtick_def}
use Rattle.represents.specs.World.{Small, WorldRep, most_tick}
use Rattle.represents.proofs.Laws.Frames.{shows_alike, shows_fields, shows_idle_timeslice, shows_draws, shows_rebalance_time, at_again}
use Rattle.represents.proofs.Laws.Numbers.{timeshare_load_shown}
use Rattle.represents.proofs.Laws.Clock.{shows_hardtick, ticks_shown}
use Rattle.sched_words.specs.Running.{running_at}
use Rattle.sched_words.specs.Preempt.{needs_reschedule_def, marked, allowed_at, idle_payer, idle_paid, rescheds}
use Rattle.sched_words.specs.Rebalance.{time_passed, rebalance_due}
use Rattle.sched_laws.proofs.Words.{idle_at_work, needs_shown, shows_marked}

-- a CPU changed twice is changed once
cpu_twice : (w : World) (c : ℕ) (p q : Cpu) (d : ℕ) → (with_cpu (with_cpu w c p) c q).cpus d ≡ (with_cpu w c q).cpus d
unfolding with_cpu
cpu_twice w c p q d = at_again w.cpus c p q d

cpu_here : (w : World) (c : ℕ) (p : Cpu) → (with_cpu w c p).cpus c ≡ p
unfolding with_cpu
cpu_here w c p = at_here w.cpus c p

paid_timeslice : (t : Thread) (ticks allowed : ℕ) → (pay_ticks t ticks allowed).thread.timeslice ≡ (times.pay_ticks t.timeslice ticks allowed).timeslice
unfolding reads paid_to
paid_timeslice t ticks allowed = ap (λ (u : times.Thread). u.timeslice) (reads_pay_ticks t ticks allowed)

slice_priority : (t : Thread) (n : ℕ) → effective_priority (reads (with_timeslice t n)) ≡ effective_priority (reads t)
unfolding effective_priority reads with_timeslice donated_in
slice_priority t n = refl

blank_priority : effective_priority (reads blank) ≡ idle_priority
unfolding effective_priority effective new_thread
blank_priority = ap effective_priority reads_blank

paid_keeps : {A : Type 0} (f : Thread → A) (t : Thread) (ticks allowed : ℕ) → ((n : ℕ) → f (with_timeslice t n) ≡ f t) → f (pay_ticks t ticks allowed).thread ≡ f t
unfolding pay_ticks
paid_keeps f t ticks allowed e = of_either (λ (p : Paid). f p.thread ≡ f t) (leb allowed (t.timeslice + ticks)) _ _ (e _) (e _)

slice_reads : (t : Thread) → t.timeslice ≡ (reads t).timeslice
unfolding reads
slice_reads t = refl

ticked_twice : (p : Cpu) (last m n : ℕ) → with_ticks (with_ticks p last m) (with_ticks p last m).last_tick n ≡ with_ticks p last n
unfolding with_ticks
ticked_twice p last m n = refl

ticked_queue : (p : Cpu) (last n : ℕ) → (with_ticks p last n).queue ≡ p.queue
unfolding with_ticks
ticked_queue p last n = refl

module _ (limits : Limits) (topology : Topology) (tick us : ℕ) (known : ℕ → Bool) (numbered : (x : ℕ) → known x ≡ true → x < limits.threads) (small : Small limits)
    (early : tick ≤ most_tick) (us_in : us < limits.cpus) where
  module _ {active : ℕ → Bool} {ts : List Thread} {cs : List (List ℕ)} {w : World} (s : WorldRep limits topology known active ts cs w)
      (runs : (x : ℕ) → (w.cpus us).running ≡ Some x → known x ≡ true) where
    -- `schedule_resched`
    pub shows_resched : WorldRep limits topology known active ts (rescheds cs us (record_at ts (running_at cs us))) (sched.schedule_resched limits topology tick us w)
    unfolding rescheds sched.schedule_resched
    shows_resched =
        subst (λ (b : Bool). WorldRep limits topology known active ts (marked cs us b) (sched.mark_preempt limits topology tick us w (not (is_some (w.cpus us).running) || sched.needs_reschedule limits topology tick us w false)))
        (sym (ap (λ (b : Bool). b || needs_reschedule_def cs us (record_at ts (running_at cs us)) false) (idle_at_work limits topology tick us known numbered small early s us us_in runs)
        ∙ ap (λ (b : Bool). not (is_some (w.cpus us).running) || b) (needs_shown limits topology tick us known numbered small early s us us_in runs false refl)))
        (shows_marked limits topology tick us known numbered small early s us_in _)

    -- ---- `schedule_hardtick`

    abbrev ticked : World
    ticked = with_cpu w us (with_ticks (w.cpus us) tick (w.cpus us).idle_timeslice)

    abbrev hard : Left ℕ Words
    hard = hardtick_def us tick cs

    s1 : WorldRep limits topology known active ts hard.memory ticked
    s1 = shows_hardtick s small us us_in tick

    allowed_shown : (t : Thread) (o : Option ℕ) → effective_priority (reads t) ≡ priority_running w o
        → allowed_at hard.memory us limits.shortest t ≡ timeslice limits.shortest (priority_running w o).class (timeshare_load (w.cpus us).queue)
    unfolding allowed_at
    allowed_shown t o e =
        ap (λ (p : Priority). timeslice limits.shortest p.class (queue_at hard.memory us).timeshare_load) e
        ∙ ap (λ n. timeslice limits.shortest (priority_running w o).class n)
        (timeshare_load_shown s1 small us us_in ∙ ap (λ (p : Cpu). timeshare_load p.queue) (cpu_here w us _) ∙ ap timeshare_load (ticked_queue (w.cpus us) tick (w.cpus us).idle_timeslice))

    module _ (late : (w.cpus us).last_tick ≤ tick) where
      -- what the thread o pays
      abbrev pub pay : Option ℕ → times.Paid
      pay o = times.pay_ticks (sched.paid_so_far limits topology tick us w o) (tick - (w.cpus us).last_tick) (timeslice limits.shortest (priority_running w o).class (timeshare_load (w.cpus us).queue))

      pay_shown : (t : Thread) (o : Option ℕ) → effective_priority (reads t) ≡ priority_running w o → t.timeslice ≡ sched.paid_so_far limits topology tick us w o
          → times.pay_ticks t.timeslice hard.answer (allowed_at hard.memory us limits.shortest t) ≡ pay o
      pay_shown t o e f =
          ap (λ n. times.pay_ticks n hard.answer (allowed_at hard.memory us limits.shortest t)) f
          ∙ ap (λ n. times.pay_ticks (sched.paid_so_far limits topology tick us w o) n (allowed_at hard.memory us limits.shortest t)) (ticks_shown s small us us_in tick (omega arith) late)
          ∙ ap (λ n. times.pay_ticks (sched.paid_so_far limits topology tick us w o) (tick - (w.cpus us).last_tick) n) (allowed_shown t o e)

      -- the idle thread pays
      payer_priority : effective_priority (reads (idle_payer hard.memory us)) ≡ priority_running w None
      unfolding idle_payer priority_running
      payer_priority = slice_priority blank _ ∙ blank_priority

      payer_paid : (idle_payer hard.memory us).timeslice ≡ sched.paid_so_far limits topology tick us w None
      unfolding idle_payer with_timeslice sched.paid_so_far
      payer_paid = (s1.words us us_in).idle_timeslice ∙ ap (λ (p : Cpu). p.idle_timeslice) (cpu_here w us _) ∙ (unfold with_ticks in refl)

      pub shows_idle_paid : WorldRep limits topology known active ts (idle_paid us limits.shortest hard.answer hard.memory).memory (sched.paid_by limits topology tick us w None (pay None).timeslice)
      unfolding idle_paid sched.paid_by with_cpu
      shows_idle_paid =
          let n : ℕ = (pay_ticks (idle_payer hard.memory us) hard.answer (allowed_at hard.memory us limits.shortest (idle_payer hard.memory us))).thread.timeslice in
          let e : n ≡ (pay None).timeslice = paid_timeslice _ _ _ ∙ ap (λ (q : times.Paid). q.timeslice) (pay_shown (idle_payer hard.memory us) None payer_priority payer_paid) in
          shows_alike (with_cpu ticked us (with_ticks (ticked.cpus us) (ticked.cpus us).last_tick n)) (with_cpu w us (with_ticks (w.cpus us) tick (pay None).timeslice))
          (λ c. sym (cpu_twice w us _ _ c ∙ ap (λ (q : Cpu). (with_cpu w us q).cpus c) (ap (λ (q : Cpu). with_ticks q q.last_tick n) (cpu_here w us _) ∙ ticked_twice (w.cpus us) tick (w.cpus us).idle_timeslice n ∙ ap (with_ticks (w.cpus us) tick) e))) (λ x. refl)
          (shows_idle_timeslice s1 us us_in n)

      pub idle_expired : (idle_paid us limits.shortest hard.answer hard.memory).answer ≡ (pay None).expired
      unfolding idle_paid
      idle_expired = expired_pay_ticks _ _ _ ∙ ap (λ (q : times.Paid). q.expired) (pay_shown (idle_payer hard.memory us) None payer_priority payer_paid)

      -- a thread pays
      module _ (x : ℕ) (e : (w.cpus us).running ≡ Some x) where
        abbrev r : Thread
        r = record_at ts x

        abbrev paid : Thread
        paid = (pay_ticks r hard.answer (allowed_at hard.memory us limits.shortest r)).thread

        in_records_x : x < limits.threads
        in_records_x = numbered x (runs x e)

        pay_of : times.pay_ticks r.timeslice hard.answer (allowed_at hard.memory us limits.shortest r) ≡ pay (Some x)
        unfolding priority_running sched.paid_so_far
        pay_of = pay_shown r (Some x) (ap effective_priority (s.threads x in_records_x)) (slice_reads r ∙ ap (λ (t : times.Thread). t.timeslice) (s.threads x in_records_x))

        paid_reads : reads paid ≡ paid_to (ticked.threads x) (pay (Some x)).timeslice
        unfolding with_cpu
        paid_reads =
            reads_pay_ticks r _ _ ∙ ap (λ (t : times.Thread). paid_to t (times.pay_ticks r.timeslice hard.answer (allowed_at hard.memory us limits.shortest r)).timeslice) (s.threads x in_records_x)
            ∙ ap (λ (q : times.Paid). paid_to (w.threads x) q.timeslice) pay_of

        pub shows_paid : WorldRep limits topology known active (set ts x paid) hard.memory (sched.paid_by limits topology tick us w (Some x) (pay (Some x)).timeslice)
        unfolding sched.paid_by paid_to pinned with_cpu
        shows_paid = shows_fields s1 x paid _ in_records_x paid_reads (paid_keeps (λ (t : Thread). t.next) r _ _ (λ n. unfold with_timeslice in refl)) (paid_keeps (λ (t : Thread). t.place) r _ _ (λ n. unfold with_timeslice in refl)) refl refl (s.queue_cpus x in_records_x)

        pub expired_of : (pay_ticks r hard.answer (allowed_at hard.memory us limits.shortest r)).expired ≡ (pay (Some x)).expired
        expired_of = expired_pay_ticks r _ _ ∙ ap (λ (q : times.Paid). q.expired) pay_of

  -- ---- the time until the CPUs are balanced

  module _ {active : ℕ → Bool} {ts : List Thread} {cs : List (List ℕ)} {w : World} (s : WorldRep limits topology known active ts cs w) (dt : ℕ) where
    time_mark : (time_passed us dt cs).answer ≡ ltb (word cs us CUR_REBALANCE_TIME) dt
    unfolding time_passed
    time_mark = both (ltb (word cs us CUR_REBALANCE_TIME) dt) (λ l. rw l) (λ l. rw l)

    due_mark : (rebalance_due us dt cs).answer ≡ (eqb us 0 && ltb (word cs us CUR_REBALANCE_TIME) dt)
    unfolding rebalance_due
    due_mark = both (eqb us 0) (λ e. rw e time_mark) (λ e. rw e)

    -- "only on the boot CPU": whether it is time
    pub due_shown : (rebalance_due us dt cs).answer ≡ (eqb us 0 && ltb (w.cpus us).rebalance_time dt)
    due_shown = due_mark ∙ ap (λ n. eqb us 0 && ltb n dt) (s.words us us_in).rebalance_time

    abbrev state : ℕ
    state = next_state us (w.cpus us).draw_state

    abbrev pub anew : World
    anew = with_cpu w us (with_rebalance_time (with_draws (w.cpus us) state) (500000000 + draw state % sched.rebalance_period limits topology tick us))

    -- it is time: the next time is drawn
    drawn_anew : WorldRep limits topology known active ts (put_word (put_word cs us RAND_STATE (next_state us (word cs us RAND_STATE))) us CUR_REBALANCE_TIME (500000000 + draw (next_state us (word cs us RAND_STATE)) % 1000000000)) anew
    unfolding sched.rebalance_period with_cpu
    drawn_anew =
        let n : ℕ = next_state us (word cs us RAND_STATE) in
        let e : n ≡ state = ap (next_state us) (s.words us us_in).draw_state in
        let v : ℕ = 500000000 + draw n % 1000000000 in
        let a : World = with_cpu w us (with_draws (w.cpus us) n) in
        shows_alike (with_cpu a us (with_rebalance_time (a.cpus us) v)) anew
        (λ c. sym (cpu_twice w us _ _ c ∙ ap (λ (q : Cpu). (with_cpu w us q).cpus c) (ap (λ (q : Cpu). with_rebalance_time q v) (cpu_here w us _) ∙ ap (λ m. with_rebalance_time (with_draws (w.cpus us) m) (500000000 + draw m % 1000000000)) e)))
        (λ x. refl)
        (shows_rebalance_time (shows_draws s us us_in n) us us_in v)

    pub shows_due : (eqb us 0 && ltb (w.cpus us).rebalance_time dt) ≡ true → WorldRep limits topology known active ts (rebalance_due us dt cs).memory anew
    unfolding rebalance_due time_passed
    shows_due h =
        both (eqb us 0)
        (λ e. both (ltb (word cs us CUR_REBALANCE_TIME) dt)
        (λ l. rw (e, l) drawn_anew)
        (λ l. absurd (false≢true (sym (ap (λ n. eqb us 0 && ltb n dt) (sym (s.words us us_in).rebalance_time) ∙ rw (e, l)) ∙ h))))
        (λ e. absurd (false≢true (rw e at h)))

    -- it is not: the time passes, on the boot CPU
    passed : WorldRep limits topology known active ts (put_word cs us CUR_REBALANCE_TIME (word cs us CUR_REBALANCE_TIME - dt)) (with_cpu w us (with_rebalance_time (w.cpus us) ((w.cpus us).rebalance_time - dt)))
    passed =
        subst (λ n. WorldRep limits topology known active ts (put_word cs us CUR_REBALANCE_TIME (word cs us CUR_REBALANCE_TIME - dt)) (with_cpu w us (with_rebalance_time (w.cpus us) (n - dt)))) (s.words us us_in).rebalance_time
        (shows_rebalance_time s us us_in (word cs us CUR_REBALANCE_TIME - dt))

    pub shows_not_due : (eqb us 0 && ltb (w.cpus us).rebalance_time dt) ≡ false → WorldRep limits topology known active ts (rebalance_due us dt cs).memory (sched.maybe_rebalance limits topology tick us w dt)
    unfolding rebalance_due time_passed sched.maybe_rebalance
    shows_not_due h =
        both (eqb us 0)
        (λ e. both (ltb (word cs us CUR_REBALANCE_TIME) dt)
        (λ l. absurd (true≢false (sym (ap (λ n. eqb us 0 && ltb n dt) (sym (s.words us us_in).rebalance_time) ∙ rw (e, l)) ∙ h)))
        (λ l. let m : ltb (w.cpus us).rebalance_time dt ≡ false = rw e at h in rw (e, l, m) passed))
        (λ e. rw e s)
