-- WHAT THE SCHEDULER DECIDES of words and records is what the rules decide, and each change of them is the rules'.
use Rattle.std.specs.Prelude.{ℕ, ◌+◌, ◌≤◌, ◌<◌, ◌≡◌, Bool, cond, ◌&&◌, ◌||◌, eqb, Option, None, Some, is_some}
use Rattle.std.proofs.Math.Path.{refl, ap, subst}
use Rattle.std.proofs.Common.{◌∙◌, true≢false, get_or-set_same, ne_eqb, arith}
use Rattle.std.proofs.Math.Bool.{true, false, not}
use Rattle.std.proofs.lemmas.Bool.{false≢true}
use mathlib.Core.List.{List}
use Rattle.std.proofs.Math.ListN.{set, get_or-eq_default}
use Rattle.std.proofs.Math.Seq.{set-set}
use Rattle.rules.specs.declared.Priority.{Priority}
use Rattle.rules.proofs.Laws.Line.{both}
use Rattle.rules.specs.Priority.{from_raw, raw, class_at, cut, nr_values, less, at_most, effective}
use Rattle.rules.specs.Times as times
use Rattle.rules.specs.Times.{deadline_distance, effective_priority, pinned, reset_time}
use Rattle.rules.specs.Queue.{load, timeshare_load}
use Rattle.rules.specs.State.{at, Limits, Topology, idle_priority, new_thread}
use Rattle.rules.specs.Schedule as sched
use Rattle.rules.specs.Schedule.{World, with_cpu, with_thread, wakeup, with_running, with_preempt, priority_running, critical_running, is_empty}
use Rattle.rules.specs.Waits.{Under}
use Rattle.rules.proofs.Laws.Sound.{New}
use Rattle.thread.specs.declared.Thread.{Thread}
use Rattle.thread.specs.Reads.{reads, critical_in}
use Rattle.thread.specs.Thread.{NONE, blank, with_deadline, with_timeslice, with_queue, with_last}
use Rattle.thread.specs.Place.{reads_blank}
use Rattle.thread.specs.Priority.{raw_again, effective_below}
use Rattle.thread.specs.Time.{moving_to_queue, moving_to_active, set_deadline, reset_timeslice, reads_set_deadline, reads_moving_to_queue, reads_moving_to_active}
use Rattle.queue.specs.Num.{sum_exact}
use Rattle.runqueue.specs.RunQueue.{rq_empty}
use Rattle.processor.specs.Words.{word}
use Rattle.processor.specs.Queue.{queue_at}
use Rattle.processor.specs.Word.{RUNNING, OWN_PRIORITY, IS_IDLE, MUST_REBALANCE, PREEMPT}
use Rattle.records.specs.Left.{mem}
use Rattle.records.specs.Rq.{record_at, insert_def}
use Rattle.sched_words.specs.Signal.{signal}
use Rattle.sched_words.specs.Time.{deadline_at, reset_time_def, moved_to, should_signal_def}
use Rattle.sched_words.specs.Running.{running_at, must_rebalance_def, ran_by_def, ran_idle_def}
use Rattle.sched_words.specs.Preempt.{higher, rq_has_higher, needs_reschedule_def, marked, swapped}
use Rattle.represents.specs.World.{reading_of, number_or_none, mark_in, WordsRep, Small, WorldRep, most_tick}
use Rattle.represents.proofs.Laws.Frames.{Written, written_none, written_put, in_records, in_rows, shows_fields, shows_preempt, shows_alike, shows_written}
use Rattle.represents.proofs.Laws.PutTake.{shows_insert}
use Rattle.represents.proofs.Laws.Numbers.{advertised_shown, empty_shown, deadline_shown, none_number}

-- the count of wake-ups is not shown
pub shows_wakeup : {limits : Limits} {topology : Topology} {known active : ℕ → Bool} {ts : List Thread} {cs : List (List ℕ)} {w : World} (us c : ℕ) (b : Bool)
    → WorldRep limits topology known active ts cs w → WorldRep limits topology known active ts cs (wakeup us w c b)
unfolding wakeup
shows_wakeup {w = w} us d b s = shows_alike w (wakeup us w d b) (λ c. refl) (λ x. refl) s

pub signal_counts : (w : World) (wakeups from to : ℕ) (b : Bool) → wakeups ≡ w.wakeups → w.wakeups < NONE → signal wakeups from to b ≡ (wakeup from w to b).wakeups
unfolding signal wakeup
signal_counts w wakeups from to b e h = rw e (both (not (eqb to from) && b) (λ t. rw t (sum_exact w.wakeups 1 (omega arith))) (λ t. rw t))

critical_reads : (t : Thread) → critical_in t.critical ≡ (reads t).critical
unfolding reads
critical_reads t = refl

critical_blank : critical_in blank.critical ≡ false
unfolding critical_in
critical_blank = refl

raw_idle : from_raw 0 ≡ idle_priority
unfolding from_raw class_at cut nr_values idle_priority
raw_idle = refl

-- a thread that is about to run keeps its priority
active_effective : (t : times.Thread) (c : ℕ) → effective_priority (times.moving_to_active t c) ≡ effective_priority t
unfolding effective_priority times.moving_to_active
active_effective t c = refl

same_number : (x : ℕ) (o : Option ℕ) → x < NONE → eqb (number_or_none o) x ≡ sched.same_cpu x o
unfolding number_or_none sched.same_cpu
same_number x None h = ne_eqb NONE x (λ e. omega arith)
same_number x (Some y) h = refl

module _ (limits : Limits) (topology : Topology) (tick us : ℕ) (known : ℕ → Bool) (numbered : (x : ℕ) → known x ≡ true → x < limits.threads) (small : Small limits)
    (early : tick ≤ most_tick) where
  module _ {active : ℕ → Bool} {ts : List Thread} {cs : List (List ℕ)} {w : World} (s : WorldRep limits topology known active ts cs w) (c : ℕ) (near : c < limits.cpus) where
    -- ---- `reset_thread_time`

    reads_reset : (t : Thread) → reads (reset_time_def cs c tick limits.shortest t)
        ≡ reset_time (reads t) (tick + deadline_distance limits.shortest (effective_priority (reads t)).class (timeshare_load (w.cpus c).queue) (load (w.cpus c).queue))
    unfolding reset_time_def deadline_at
    reads_reset t =
        reads_set_deadline t _ ∙ ap (reset_time (reads t)) (deadline_shown s small c near tick (effective_priority (reads t)).class early)

    pub shows_reset : (x : ℕ) → x < limits.threads → WorldRep limits topology known active (set ts x (reset_time_def cs c tick limits.shortest (record_at ts x))) cs (sched.reset_thread_time limits topology tick us w c x)
    unfolding sched.reset_thread_time reset_time_def reset_timeslice set_deadline with_timeslice with_deadline reset_time pinned
    shows_reset x h =
        shows_fields s x (reset_time_def cs c tick limits.shortest (record_at ts x)) _ h
        (reads_reset (record_at ts x)
        ∙ ap (λ (t : times.Thread). reset_time t (tick + deadline_distance limits.shortest (effective_priority t).class (timeshare_load (w.cpus c).queue) (load (w.cpus c).queue))) (s.threads x h))
        refl refl refl refl (s.queue_cpus x h)

    -- ---- the CPU of its queue

    pub shows_moving_to_queue : (x : ℕ) → x < limits.threads → WorldRep limits topology known active (set ts x (moving_to_queue (record_at ts x) c)) cs (with_thread w x (times.moving_to_queue (w.threads x) c))
    unfolding moving_to_queue with_queue times.moving_to_queue pinned
    shows_moving_to_queue x h =
        shows_fields s x (moving_to_queue (record_at ts x) c) _ h
        (reads_moving_to_queue (record_at ts x) c (omega (arith, small.cpus)) ∙ ap (λ (t : times.Thread). times.moving_to_queue t c) (s.threads x h))
        refl refl refl refl (unfold Under in near)

  -- ---- a put on a CPU

  module _ {active but : ℕ → Bool} {ts : List Thread} {cs : List (List ℕ)} {w : World} (s : WorldRep limits topology known active ts cs w) (c x : ℕ) (n : New limits known but w c x) where
    abbrev below : x < limits.threads
    below = numbered x n.is_known

    abbrev moved : World
    moved = sched.reset_thread_time limits topology tick us (with_thread w x (times.moving_to_queue (w.threads x) c)) c x

    -- the record of a thread that is about to go into the queue
    pub shows_moved : WorldRep limits topology known active (set ts x (moved_to cs c tick limits.shortest (record_at ts x))) cs moved
    unfolding moved_to
    shows_moved =
        let t : Thread = moving_to_queue (record_at ts x) c in
        let first = shows_moving_to_queue s c n.near x below in
        let second = shows_reset first c n.near x below in
        subst (λ (ts' : List Thread). WorldRep limits topology known active ts' cs moved)
        (ap (λ (u : Thread). set (set ts x t) x (reset_time_def cs c tick limits.shortest u)) (get_or-set_same ts x t blank (in_records s x below)) ∙ set-set ts x t _) second

    pub signal_shown : should_signal_def cs us c (record_at ts x) ≡ sched.should_signal limits topology tick us w c x
    unfolding should_signal_def sched.should_signal
    signal_shown =
        ap (λ (b : Bool). not (eqb c us) && (b || at_most (from_raw (queue_at cs c).current_priority) (effective_priority (reads (record_at ts x))))) (empty_shown s small c n.near)
        ∙ ap (λ (p : Priority). not (eqb c us) && (is_empty (w.cpus c) || at_most p (effective_priority (reads (record_at ts x))))) (advertised_shown s small c n.near)
        ∙ ap (λ (t : times.Thread). not (eqb c us) && (is_empty (w.cpus c) || at_most (w.cpus c).advertised (effective_priority t))) (s.threads x below)

    still_new : New limits known but moved c x
    unfolding sched.reset_thread_time with_thread
    still_new = record { nowhere = n.nowhere; is_known = n.is_known; near = n.near; runs_not = n.runs_not }

    -- `schedule_thread_on_cpu`: the records and words that it leaves
    pub shows_put : (let d = insert_def c x tick false (mem (set ts x (moved_to cs c tick limits.shortest (record_at ts x))) cs) in
        WorldRep limits topology known (at active x false) d.threads d.cpus (sched.schedule_thread_on_cpu limits topology tick us w c x))
    unfolding sched.schedule_thread_on_cpu
    shows_put = shows_wakeup us c (sched.should_signal limits topology tick us w c x) (shows_insert limits topology tick us known numbered small shows_moved c x still_new false)

    -- and its count of wake-ups
    pub put_counts : (wakeups : ℕ) → wakeups ≡ w.wakeups → w.wakeups < NONE
        → signal wakeups us c (should_signal_def cs us c (record_at ts x)) ≡ (sched.schedule_thread_on_cpu limits topology tick us w c x).wakeups
    unfolding sched.schedule_thread_on_cpu sched.insert_thread sched.noted sched.with_thread sched.with_cpu sched.reset_thread_time wakeup
    put_counts wakeups e h = signal_counts w wakeups us c _ e h ∙ (unfold wakeup in rw signal_shown)

  -- ---- the thread running

  module _ {active : ℕ → Bool} {ts : List Thread} {cs : List (List ℕ)} {w : World} (s : WorldRep limits topology known active ts cs w) (c : ℕ) (near : c < limits.cpus)
      (runs : (x : ℕ) → (w.cpus c).running ≡ Some x → known x ≡ true) where
    abbrev at_work : Thread
    at_work = record_at ts (running_at cs c)

    none_blank : record_at ts NONE ≡ blank
    none_blank = get_or-eq_default ts blank {n = NONE} s.none_past

    -- the record of the thread running is that of the rules, and that of the idle thread is blank
    priority_record : (o : Option ℕ) → (w.cpus c).running ≡ o → effective_priority (reads (record_at ts (number_or_none o))) ≡ priority_running w o
    unfolding number_or_none priority_running effective_priority effective new_thread
    priority_record None e = ap (λ (t : Thread). effective_priority (reads t)) none_blank ∙ ap effective_priority reads_blank
    priority_record (Some x) e = ap effective_priority (s.threads x (numbered x (runs x e)))

    critical_record : (o : Option ℕ) → (w.cpus c).running ≡ o → critical_in (record_at ts (number_or_none o)).critical ≡ critical_running w o
    unfolding number_or_none critical_running
    critical_record None e = ap (λ (t : Thread). critical_in t.critical) none_blank ∙ critical_blank
    critical_record (Some x) e = critical_reads (record_at ts x) ∙ ap (λ (t : times.Thread). t.critical) (s.threads x (numbered x (runs x e)))

    pub running_is : running_at cs c ≡ number_or_none (w.cpus c).running
    unfolding running_at
    running_is = (s.words c near).running

    pub priority_at_work : effective_priority (reads at_work) ≡ priority_running w (w.cpus c).running
    priority_at_work = ap (λ n. effective_priority (reads (record_at ts n))) running_is ∙ priority_record (w.cpus c).running refl

    pub critical_at_work : critical_in at_work.critical ≡ critical_running w (w.cpus c).running
    critical_at_work = ap (λ n. critical_in (record_at ts n).critical) running_is ∙ critical_record (w.cpus c).running refl

    -- the word says the idle thread exactly if no thread runs, and thread x exactly if x runs
    pub idle_at_work : eqb (running_at cs c) NONE ≡ not (is_some (w.cpus c).running)
    idle_at_work = ap (λ n. eqb n NONE) running_is ∙ none_number (w.cpus c).running (λ x e. omega (arith, numbered x (runs x e), small.threads))

    pub same_at_work : (x : ℕ) → x < limits.threads → eqb (running_at cs c) x ≡ sched.same_cpu x (w.cpus c).running
    same_at_work x h = ap (λ n. eqb n x) running_is ∙ same_number x (w.cpus c).running (omega (arith, small.threads))

    pub must_rebalance_shown : must_rebalance_def cs c ≡ (w.cpus c).must_rebalance
    unfolding must_rebalance_def mark_in
    must_rebalance_shown = (s.words c near).must_rebalance

    -- ---- whether it has to give way

    pub higher_shown : (t : Thread) (p : Priority) (eq : Bool) → effective_priority (reads t) ≡ p
        → rq_has_higher cs c t eq ≡ (less p (w.cpus c).advertised || (eq && at_most p (w.cpus c).advertised))
    unfolding rq_has_higher higher
    higher_shown t p eq e = rw (e, advertised_shown s small c near)

    pub needs_shown : (ticking : Bool) → c ≡ us → needs_reschedule_def cs c at_work ticking ≡ sched.needs_reschedule limits topology tick us w ticking
    unfolding needs_reschedule_def sched.needs_reschedule
    needs_shown ticking e =
        rw (← e)
        (ap (λ (b : Bool). not b && (not (rq_empty (queue_at cs c)) && rq_has_higher cs c at_work ticking)) critical_at_work
        ∙ ap (λ (b : Bool). not (critical_running w (w.cpus c).running) && (not b && rq_has_higher cs c at_work ticking)) (empty_shown s small c near)
        ∙ ap (λ (b : Bool). not (critical_running w (w.cpus c).running) && (not (is_empty (w.cpus c)) && b)) (higher_shown at_work _ ticking priority_at_work))

  -- ---- marks

  module _ {active : ℕ → Bool} {ts : List Thread} {cs : List (List ℕ)} {w : World} (s : WorldRep limits topology known active ts cs w) (us_in : us < limits.cpus) where
    pub shows_marked : (b : Bool) → WorldRep limits topology known active ts (marked cs us b) (sched.mark_preempt limits topology tick us w b)
    unfolding marked sched.mark_preempt
    shows_marked true = shows_preempt s us us_in 1 true (unfold mark_in in refl)
    shows_marked false = s

    -- the mark, which is then cleared
    pub swapped_mark : (swapped us cs).answer ≡ (w.cpus us).preempt
    unfolding swapped mark_in
    swapped_mark = both (eqb (word cs us PREEMPT) 0) (λ e. rw e (rw e at (s.words us us_in).preempt)) (λ e. rw e (rw e at (s.words us us_in).preempt))

    pub shows_swapped : (w.cpus us).preempt ≡ true → WorldRep limits topology known active ts (swapped us cs).memory (with_cpu w us (with_preempt (w.cpus us) false))
    unfolding swapped mark_in
    shows_swapped m =
        both (eqb (word cs us PREEMPT) 0)
        (λ e. absurd (false≢true (rw e at (s.words us us_in).preempt ∙ m)))
        (λ e. rw e (shows_preempt s us us_in 0 false refl))

    pub unswapped : (w.cpus us).preempt ≡ false → (swapped us cs).memory ≡ cs
    unfolding swapped mark_in
    unswapped m =
        both (eqb (word cs us PREEMPT) 0)
        (λ e. rw e)
        (λ e. absurd (true≢false (rw e at (s.words us us_in).preempt ∙ m)))

    -- ---- `switch_to`

    ran_by : (x : ℕ) (t : Thread) → Written cs (ran_by_def cs us x t) us
        (λ i. cond (eqb i RUNNING) x (cond (eqb i MUST_REBALANCE) 0 (cond (eqb i IS_IDLE) 0 (cond (eqb i OWN_PRIORITY) (raw (effective_priority (reads t))) (word cs us i)))))
    unfolding ran_by_def
    ran_by x t =
        let l = in_rows s us us_in in
        let r = s.rows us us_in in
        written_put 74 x l r (omega arith) (omega arith) (written_put 77 0 l r (omega arith) (omega arith) (written_put 76 0 l r (omega arith) (omega arith)
        (written_put 75 (raw (effective_priority (reads t))) l r (omega arith) (omega arith) (written_none cs us))))

    ran_idle : Written cs (ran_idle_def cs us) us (λ i. cond (eqb i RUNNING) NONE (cond (eqb i MUST_REBALANCE) 0 (cond (eqb i OWN_PRIORITY) 0 (cond (eqb i IS_IDLE) 1 (word cs us i)))))
    unfolding ran_idle_def
    ran_idle =
        let l = in_rows s us us_in in
        let r = s.rows us us_in in
        written_put 74 NONE l r (omega arith) (omega arith) (written_put 77 0 l r (omega arith) (omega arith) (written_put 75 0 l r (omega arith) (omega arith)
        (written_put 76 1 l r (omega arith) (omega arith) (written_none cs us))))

    abbrev was : WordsRep topology cs us (w.cpus us)
    was = s.words us us_in

    -- a thread runs now
    pub shows_ran_by : (x : ℕ) (t : Thread) → WorldRep limits topology known active ts (ran_by_def cs us x t) (with_cpu w us (with_running (w.cpus us) (Some x) (effective_priority (reads t))))
    unfolding with_running reading_of mark_in number_or_none
    shows_ran_by x t =
        shows_written s us (with_running (w.cpus us) (Some x) (effective_priority (reads t))) (ran_by x t) refl (record {
          declared = was.declared;
          placed = was.placed;
          running = refl;
          own_priority = raw_again (effective_priority (reads t)) (effective_below t);
          is_idle = refl;
          must_rebalance = refl;
          preempt = was.preempt;
          draw_state = was.draw_state;
          rebalance_time = was.rebalance_time;
          idle_timeslice = was.idle_timeslice;
        })

    -- the idle thread runs now
    pub shows_ran_idle : WorldRep limits topology known active ts (ran_idle_def cs us) (sched.switch_to limits topology tick us w None)
    unfolding sched.switch_to sched.activated priority_running with_running reading_of mark_in number_or_none
    shows_ran_idle =
        shows_written s us (with_running (w.cpus us) None idle_priority) ran_idle refl (record {
          declared = was.declared;
          placed = was.placed;
          running = refl;
          own_priority = raw_idle;
          is_idle = refl;
          must_rebalance = refl;
          preempt = was.preempt;
          draw_state = was.draw_state;
          rebalance_time = was.rebalance_time;
          idle_timeslice = was.idle_timeslice;
        })

  -- `switch_to` a thread: its record, and the words of the CPU
  pub shows_switched : {active : ℕ → Bool} {ts : List Thread} {cs : List (List ℕ)} {w : World} (s : WorldRep limits topology known active ts cs w) (us_in : us < limits.cpus) (x : ℕ) → x < limits.threads
      → (let t = moving_to_active (record_at ts x) us in
      WorldRep limits topology known active (set ts x t) (ran_by_def cs us x t) (sched.switch_to limits topology tick us w (Some x)))
  unfolding sched.switch_to sched.activated priority_running with_cpu moving_to_active with_queue with_last times.moving_to_active pinned Under
  shows_switched {active} {ts} {cs} {w} s us_in x h =
      let t : Thread = moving_to_active (record_at ts x) us in
      let r : reads t ≡ times.moving_to_active (w.threads x) us =
      reads_moving_to_active (record_at ts x) us (omega (arith, small.cpus)) ∙ ap (λ (u : times.Thread). times.moving_to_active u us) (s.threads x h) in
      let e : effective_priority (reads t) ≡ effective_priority (w.threads x) = ap effective_priority r ∙ active_effective (w.threads x) us in
      let first : WorldRep limits topology known active ts (ran_by_def cs us x t) (with_cpu w us (with_running (w.cpus us) (Some x) (effective_priority (w.threads x)))) =
      subst (λ (p : Priority). WorldRep limits topology known active ts (ran_by_def cs us x t) (with_cpu w us (with_running (w.cpus us) (Some x) p))) e (shows_ran_by s us_in x t) in
      shows_fields first x t _ h r refl refl refl refl tt
