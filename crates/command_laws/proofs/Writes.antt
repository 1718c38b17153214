-- WHAT EACH FUNCTION OF THE SCHEDULER WRITES: records of threads and words of CPUs that the memory or the command names, so records below 1,024 and
-- rows below 64.
use Prim.Native.Nat.{ℕ, zero, suc, ◌+◌, ◌≤◌, ◌<◌}
use Rattle.std.specs.Prelude.{◌≡◌, Bool, cond, not, List, eqb, ltb, leb, Option, Some, None, is_none, unwrap_or}
use Rattle.std.proofs.Math.Path.{refl}
use Rattle.std.proofs.Common.{sym, subst}
use Rattle.std.proofs.Math.Bool.{true, false}
use native.Mathlib.Omega.{arith}
use Rattle.rules.specs.declared.choice.Pair.{Pair}
use Rattle.rules.specs.declared.Part.{Part}
use Rattle.rules.specs.declared.Part.TheVariants as part
use Rattle.rules.specs.declared.Priority.{Priority}
use Rattle.rules.proofs.Laws.Line.{both, of_either}
use Rattle.rules.specs.Priority.{raw, donation_accepted}
use Rattle.rules.specs.Times.{effective_priority}
use Rattle.rules.specs.Waits.{Under}
use Rattle.rules.proofs.Laws.Steps.{PairUnder}
use Rattle.thread.specs.declared.Thread.{Thread}
use Rattle.thread.specs.Thread.{NONE, BLOCKED, RUNNING, with_donated, with_stable, with_critical, with_place, with_next, with_last, with_queue, with_deadline, with_timeslice}
use Rattle.thread.specs.Flags.{has_donated_priority}
use Rattle.thread.specs.Reads.{cpu_in, reads, donated_in, critical_in}
use Rattle.thread.specs.Time.{field_of, named_field, moving_to_queue, moving_to_active, pay_ticks, reset_timeslice, set_deadline}
use Rattle.thread.specs.Priority.{stable_effective_priority, donate_priority, remove_donated_priority}
use Rattle.runqueue.specs.declared.rq.Front.{Front}
use Rattle.processor.specs.Words.{word, put_word}
use Rattle.processor.specs.Word as at
use Rattle.processor.specs.Queue.{queue_at}
use Rattle.processor.specs.Cpu.{current_load}
use Rattle.topology.specs.CpuSet as cpuset
use Rattle.choice.specs.Reads.{weight_at}
use Rattle.choice.specs.Select.{at_once, after_select}
use Rattle.processor.specs.Left.{Words, Left}
use Rattle.records.specs.Left.{Memory, mem}
use Rattle.records.specs.Rq.{record_at, arrival_of, steady_in, put_in_def, link_behind, put_of_def, insert_def, left_by_def, took_from_def, take_def, clock_def, hardtick_def}
use Rattle.sched_words.specs.declared.context.Context.{Context}
use Rattle.sched_words.specs.declared.context.SchedFlags.{SchedFlags}
use Rattle.sched_words.specs.declared.balance.Balancing.{Balancing}
use Rattle.sched_words.specs.Choose.{select_for, selected_for, reinsert_at_def, steal_from_def}
use Rattle.sched_words.specs.Running.{running_at, must_rebalance_def, ran_by_def, ran_idle_def}
use Rattle.sched_words.specs.Time.{moved_to, reset_time_def}
use Rattle.sched_words.specs.Preempt.{marked, swapped, idle_paid, expires, rescheds}
use Rattle.sched_words.specs.Rebalance.{time_passed, rebalance_due}
use Rattle.sched_words.specs.Balance.{begun, moved, passed, stopped, without, moving, is_done, outcome, pair_step, pair_of_def, chosen_at, balance_step_def, find_move}
use Rattle.sched_queues.specs.Queues.{moved_in, schedule_thread_on_cpu_def, wake_def, block_def, moved_for_def, take_from, try_steal_def}
use Rattle.sched_queues.specs.Donate.{donate_priority_def, remove_donated, set_critical_def}
use Rattle.sched.specs.Schedule.{switch_to_def, run_taken_def, idle_unless, run_stolen_def, pick_stolen, pick_taken, pick_next_def, must_move_def, reinserted_def, reset_thread_time_def, then_next_def, reinsert_def, do_schedule_def, schedule_def, scheduled_on_def, schedule_thread_def}
use Rattle.sched.specs.Preempt.{preempting, schedule_maybe_preempt_def}
use Rattle.sched_ticks.specs.Balance as tick
use Rattle.sched_ticks.specs.Balance.{received, move_made, move_one_def, move_two, balance_def, maybe_rebalance_def, due_in, clocked, schedule_stattick_def}
use Rattle.sched_ticks.specs.Ticks.{paid_by_def, schedule_hardtick_def, schedule_resched_def}
use Rattle.command_laws.specs.Links.{BehindLink, Link, FrontLink}
use Rattle.command_laws.proofs.Links.{orderly_insert, orderly_front, orderly_taken, orderly_clock, orderly_hardtick}
use Rattle.command_laws.proofs.CpusFound.{selected_near, steal_near, choice_near}
use Rattle.command_laws.specs.InRange.{ThreadInRange, InRange, StaysInRange}
use Rattle.command_laws.proofs.InRange.{goes_none, goes_then, goes_either, goes_record, goes_word, goes_queue}
use Rattle.command_laws.specs.Writes.{Took}

-- ---- records

pub under_field : (c : ℕ) → c < 64 → Under 64 (cpu_in (field_of c))
unfolding Under
under_field c h = rw (named_field c (omega arith)) h

tidy_put : (t : Thread) (p : Part) → ThreadInRange t → ThreadInRange (put_in_def t p)
unfolding put_in_def steady_in stable_effective_priority with_stable with_next with_place
tidy_put t part.Realtime d = record { link = λ h. refl; pin = d.pin; last = d.last }
tidy_put t part.Timeshare d = record { link = λ h. refl; pin = d.pin; last = d.last }
tidy_put t part.Idle d = record { link = λ h. refl; pin = d.pin; last = d.last }

tidy_next : (t : Thread) (x : ℕ) → Link x → ThreadInRange t → ThreadInRange (with_next t x)
unfolding with_next
tidy_next t x l d = record { link = l; pin = d.pin; last = d.last }

tidy_place : (t : Thread) (p : ℕ) → ThreadInRange t → ThreadInRange (with_place t p)
unfolding with_place
tidy_place t p d = record { link = d.link; pin = d.pin; last = d.last }

tidy_queue : (t : Thread) (c : ℕ) → ThreadInRange t → ThreadInRange (moving_to_queue t c)
unfolding moving_to_queue with_queue
tidy_queue t c d = record { link = d.link; pin = d.pin; last = d.last }

tidy_active : (t : Thread) (c : ℕ) → c < 64 → ThreadInRange t → ThreadInRange (moving_to_active t c)
unfolding moving_to_active with_last with_queue
tidy_active t c h d = record { link = d.link; pin = d.pin; last = under_field c h }

tidy_reset : (cs : List (List ℕ)) (c n shortest : ℕ) (t : Thread) → ThreadInRange t → ThreadInRange (reset_time_def cs c n shortest t)
unfolding reset_time_def reset_timeslice set_deadline with_timeslice with_deadline
tidy_reset cs c n shortest t d = record { link = d.link; pin = d.pin; last = d.last }

tidy_moved : (cs : List (List ℕ)) (c n shortest : ℕ) (t : Thread) → ThreadInRange t → ThreadInRange (moved_to cs c n shortest t)
unfolding moved_to
tidy_moved cs c n shortest t d = tidy_reset cs c n shortest (moving_to_queue t c) (tidy_queue t c d)

tidy_paid : (t : Thread) (ticks allowed : ℕ) → ThreadInRange t → ThreadInRange (pay_ticks t ticks allowed).thread
unfolding pay_ticks with_timeslice
tidy_paid t ticks allowed d =
    both (leb allowed (t.timeslice + ticks))
    (λ e. rw e (record { link = d.link; pin = d.pin; last = d.last }))
    (λ e. rw e (record { link = d.link; pin = d.pin; last = d.last }))

tidy_donated : (t : Thread) (p : Priority) → ThreadInRange t → ThreadInRange (donate_priority t p).thread
unfolding donate_priority with_donated
tidy_donated t p d =
    both (donation_accepted (donated_in t) p) (λ e. rw e (record { link = d.link; pin = d.pin; last = d.last })) (λ e. rw e d)

tidy_removed : (t : Thread) → ThreadInRange t → ThreadInRange (remove_donated_priority t)
unfolding remove_donated_priority with_donated
tidy_removed t d = both (has_donated_priority t.flags) (λ e. rw e (record { link = d.link; pin = d.pin; last = d.last })) (λ e. rw e d)

tidy_critical : (t : Thread) (n : ℕ) → ThreadInRange t → ThreadInRange (with_critical t n)
unfolding with_critical
tidy_critical t n d = record { link = d.link; pin = d.pin; last = d.last }

-- ---- words

-- one of a CPU's own words but that of the thread running
pub goes_plain : (ts : List Thread) (cs : List (List ℕ)) (c w v : ℕ) → InRange (mem ts cs) → c < 64 → 75 ≤ w → w < 82 → StaysInRange (mem ts cs) (mem ts (put_word cs c w v))
goes_plain ts cs c w v k h a b = goes_word ts cs c w v k h (omega arith) b (λ e. absurd (omega arith))

goes_ran : (ts : List Thread) (cs : List (List ℕ)) (c x : ℕ) (t : Thread) → InRange (mem ts cs) → c < 64 → Link x → StaysInRange (mem ts cs) (mem ts (ran_by_def cs c x t))
unfolding ran_by_def
goes_ran ts cs c x t k h l =
    let a = goes_plain ts cs c 75 (raw (effective_priority (reads t))) k h (omega arith) (omega arith) in
    let b = goes_plain ts _ c 76 0 a.tame h (omega arith) (omega arith) in
    let d = goes_plain ts _ c 77 0 b.tame h (omega arith) (omega arith) in
    goes_then a (goes_then b (goes_then d (goes_word ts _ c 74 x d.tame h (omega arith) (omega arith) (λ e. l))))

goes_idle : (ts : List Thread) (cs : List (List ℕ)) (c : ℕ) → InRange (mem ts cs) → c < 64 → StaysInRange (mem ts cs) (mem ts (ran_idle_def cs c))
unfolding ran_idle_def
goes_idle ts cs c k h =
    let a = goes_plain ts cs c 76 1 k h (omega arith) (omega arith) in
    let b = goes_plain ts _ c 75 0 a.tame h (omega arith) (omega arith) in
    let d = goes_plain ts _ c 77 0 b.tame h (omega arith) (omega arith) in
    goes_then a (goes_then b (goes_then d (goes_word ts _ c 74 NONE d.tame h (omega arith) (omega arith) (λ e i. refl))))

goes_marked : (ts : List Thread) (cs : List (List ℕ)) (c : ℕ) (mark : Bool) → InRange (mem ts cs) → c < 64 → StaysInRange (mem ts cs) (mem ts (marked cs c mark))
unfolding marked
goes_marked ts cs c true k h = goes_plain ts cs c 78 1 k h (omega arith) (omega arith)
goes_marked ts cs c false k h = goes_none k

-- ---- puts and takes

goes_behind : (ts : List Thread) (cs : List (List ℕ)) (b : Option ℕ) (x : ℕ) → InRange (mem ts cs) → BehindLink b → Link x → StaysInRange (mem ts cs) (mem (link_behind ts b x) cs)
unfolding link_behind BehindLink
goes_behind ts cs None x k l n = goes_none k
goes_behind ts cs (Some b) x k l n = goes_record ts cs b (with_next (record_at ts b) x) k l (tidy_next (record_at ts b) x n (k.records b))

goes_insert : (c x n : ℕ) (current : Bool) (m : Memory) → InRange m → c < 64 → Link x → StaysInRange m (insert_def c x n current m)
unfolding insert_def arrival_of
goes_insert c x n current m k h l =
    let o = orderly_insert (queue_at m.cpus c) (arrival_of (record_at m.threads x) x n current) (k.queues c h) l in
    let a = goes_record m.threads m.cpus x (put_in_def (record_at m.threads x) (put_of_def c x n current m).part) k l (tidy_put _ _ (k.records x)) in
    let b = goes_behind _ m.cpus (put_of_def c x n current m).behind x a.tame o.1 l in
    goes_then a (goes_then b (goes_queue _ m.cpus c _ b.tame h o.0))

took_from : (c : ℕ) (f : Option Front) (m : Memory) → InRange m → c < 64 → FrontLink f → Took m (took_from_def c f m)
unfolding took_from_def FrontLink left_by_def
took_from c None m k h l = record { goes = goes_none k; link = λ i. refl }
took_from c (Some f) m k h l =
    let a = goes_record m.threads m.cpus f.thread (with_place (record_at m.threads f.thread) RUNNING) k l (tidy_place _ RUNNING (k.records f.thread)) in
    record {
      goes = goes_then a (goes_queue _ m.cpus c _ a.tame h (orderly_taken (queue_at m.cpus c) (Some f) _ _ _ (k.queues c h) (k.records f.thread).link));
      link = l;
    }

took_take : (c : ℕ) (stealing : Bool) (m : Memory) → InRange m → c < 64 → Took m (take_def c stealing m)
unfolding take_def
took_take c stealing m k h = took_from c _ m k h (orderly_front (queue_at m.cpus c) stealing (k.queues c h))

took_moved : {m : Memory} (d : ℕ) (g : Left (Option ℕ) Memory) → Took m g → Took m (moved_for_def d g)
unfolding moved_for_def
took_moved {m} d g t =
    of_either (Took m) (is_none g.answer) g _ t
    (record { goes = goes_then t.goes (goes_record _ g.memory.cpus (unwrap_or g.answer NONE) _ t.goes.tame t.link (tidy_queue _ d (t.goes.tame.records _))); link = t.link })

took_for : (c d : ℕ) (m : Memory) → InRange m → c < 64 → Took m (take_from c d m)
unfolding take_from
took_for c d m k h = took_moved d _ (took_take c (not (eqb d c)) m k h)

goes_on_cpu : (k : Context) (c x wakeups : ℕ) (m : Memory) → InRange m → c < 64 → Link x → StaysInRange m (schedule_thread_on_cpu_def k c x wakeups m).memory
unfolding schedule_thread_on_cpu_def moved_in
goes_on_cpu k c x wakeups m t h l =
    let a = goes_record m.threads m.cpus x (moved_to m.cpus c k.tick k.shortest (record_at m.threads x)) t l (tidy_moved _ c k.tick k.shortest _ (t.records x)) in
    goes_then a (goes_insert c x k.tick false _ a.tame h l)

-- ---- donation and the critical mark

module _ (ts : List Thread) (cs : List (List ℕ)) (k : InRange (mem ts cs)) (x : ℕ) (l : Link x) where
  pub goes_donated : (us : ℕ) (p : Priority) (wakeups : ℕ) → StaysInRange (mem ts cs) (mem (donate_priority_def us x p wakeups cs ts).memory cs)
  unfolding donate_priority_def
  goes_donated us p wakeups = goes_record ts cs x (donate_priority (record_at ts x) p).thread k l (tidy_donated (record_at ts x) p (k.records x))

  pub goes_removed : StaysInRange (mem ts cs) (mem (remove_donated x ts) cs)
  unfolding remove_donated
  goes_removed = goes_record ts cs x (remove_donated_priority (record_at ts x)) k l (tidy_removed (record_at ts x) (k.records x))

  pub goes_critical : (mark : ℕ) → StaysInRange (mem ts cs) (mem (set_critical_def x mark ts) cs)
  unfolding set_critical_def
  goes_critical mark = goes_record ts cs x (with_critical (record_at ts x) mark) k l (tidy_critical (record_at ts x) mark (k.records x))

-- ---- what a CPU below 64 does, where searches go up to 64

module _ (k : Context) (near : k.us < 64) (limit : k.limit ≡ 64) where
  -- ---- the next thread

  goes_switch : (x : ℕ) (m : Memory) → InRange m → Link x → StaysInRange m (switch_to_def k.us x m)
  unfolding switch_to_def
  goes_switch x m t l =
      let a = goes_record m.threads m.cpus x (moving_to_active (record_at m.threads x) k.us) t l (tidy_active _ k.us near (t.records x)) in
      goes_then a (goes_ran _ m.cpus k.us x _ a.tame near l)

  goes_unless : (cur : ℕ) (m : Memory) → InRange m → StaysInRange m (mem m.threads (idle_unless k.us cur m.cpus))
  unfolding idle_unless
  goes_unless cur m t = both (eqb cur NONE) (λ e. rw e (goes_none t)) (λ e. rw e (goes_idle m.threads m.cpus k.us t near))

  goes_stolen : {m : Memory} (cur : ℕ) (g : Left (Option ℕ) Memory) → Took m g → StaysInRange m (pick_stolen k cur g)
  unfolding pick_stolen run_stolen_def
  goes_stolen {m} cur g t =
      of_either (StaysInRange m) (is_none g.answer) _ _ (goes_then t.goes (goes_unless cur g.memory t.goes.tame))
      (goes_then t.goes (goes_switch (unwrap_or g.answer NONE) g.memory t.goes.tame t.link))

  took_stolen : (m : Memory) (s : Option ℕ) → InRange m → Under 64 s → Took m (cond (is_none s) (record { answer = None; memory = m }) (take_from (unwrap_or s NONE) k.us m))
  unfolding Under
  took_stolen m (Some c) t u = took_for c k.us m t u
  took_stolen m None t u = record { goes = goes_none t; link = λ i. refl }

  took_steal : (ns : Words) (m : Memory) → InRange m → Took m (try_steal_def k ns m)
  unfolding try_steal_def
  took_steal ns m t = took_stolen m (steal_from_def m.cpus ns k.us k.limit) t (subst (λ (n : ℕ). Under n (steal_from_def m.cpus ns k.us k.limit)) limit (steal_near m.cpus ns k.us k.limit))

  goes_next : (cur : ℕ) (ns : Words) (m : Memory) → InRange m → StaysInRange m (pick_next_def k cur ns m)
  unfolding pick_next_def pick_taken run_taken_def
  goes_next cur ns m t =
      let g = took_take k.us false m t near in
      let s = took_steal ns _ g.goes.tame in
      of_either (StaysInRange m) (is_none (take_def k.us false m).answer) _ _ (goes_then g.goes (goes_stolen cur _ s))
      (of_either (StaysInRange m) (eqb (unwrap_or (take_def k.us false m).answer NONE) cur) _ _ g.goes (goes_then g.goes (goes_switch _ _ g.goes.tame g.link)))

  -- ---- the CPU selected

  goes_selected : (ns : Words) (t : Thread) (avoid : Option ℕ) (m : Memory) → InRange m → StaysInRange m (mem m.threads (selected_for m.cpus ns k.us k.limit t avoid))
  unfolding selected_for after_select
  goes_selected ns t avoid m d = go (at_once m.cpus _ _ _) _
    where
      go : (b : Bool) (v : ℕ) → StaysInRange m (mem m.threads (cond b m.cpus (put_word m.cpus k.us 79 v)))
      go true v = goes_none d
      go false v = goes_plain m.threads m.cpus k.us 79 v d near (omega arith) (omega arith)

  near_selected : (ns : Words) (t : Thread) (avoid : Option ℕ) (cs : Words) → ThreadInRange t → Under 64 (select_for cs ns k.us k.limit t avoid)
  near_selected ns t avoid cs d =
      subst (λ (n : ℕ). Under n (select_for cs ns k.us k.limit t avoid)) limit
      (selected_near cs ns k.us k.limit t avoid (subst (λ (n : ℕ). Under n (cpu_in t.pinned_cpu)) (sym limit) d.pin) (subst (λ (n : ℕ). Under n (cpu_in t.last_cpu)) (sym limit) d.last))

  record Reinserts (ns : Words) (t : Thread) (m : Memory) : Type 0 where
    goes : StaysInRange m (mem m.threads (reinsert_at_def ns k.us k.limit t m.cpus).memory)
    near_chosen : Under 64 ((reinsert_at_def ns k.us k.limit t m.cpus).answer)

  reinserts : (ns : Words) (t : Thread) (m : Memory) → InRange m → ThreadInRange t → Reinserts ns t m
  reinserts ns t m d r = unfold reinsert_at_def Under in
      both (must_rebalance_def m.cpus k.us)
      (λ e. record { goes = rw e (goes_selected ns t (Some k.us) m d); near_chosen = rw e (near_selected ns t (Some k.us) m.cpus r) })
      (λ e. record { goes = rw e (goes_none d); near_chosen = rw e near })

  goes_reinserted : (chosen : Option ℕ) (x wakeups : ℕ) (m : Memory) → InRange m → Link x → Under 64 chosen → StaysInRange m (reinserted_def k chosen x wakeups m).memory
  unfolding reinserted_def Under
  goes_reinserted (Some c) x wakeups m t l u = goes_on_cpu k c x wakeups m t u l
  goes_reinserted None x wakeups m t l u = goes_none t

  -- ---- schedule

  then_next : {m : Memory} (cur : ℕ) (ns : Words) (w : Left ℕ Memory) → StaysInRange m w.memory → StaysInRange m (then_next_def k cur ns w).memory
  unfolding then_next_def
  then_next cur ns w g = goes_then g (goes_next cur ns w.memory g.tame)

  goes_reinsert : (cur : ℕ) (f : SchedFlags) (wakeups : ℕ) (ns : Words) (m : Memory) → InRange m → Link cur → StaysInRange m (reinsert_def k cur f wakeups ns m).memory
  unfolding reinsert_def reset_thread_time_def
  goes_reinsert cur f wakeups ns m t l =
      let r = reinserts ns (record_at m.threads cur) m t (t.records cur) in
      goes_either (must_move_def m.cpus k.us (record_at m.threads cur) f) _ _
      (then_next cur ns _ (goes_then r.goes (goes_reinserted _ cur wakeups _ r.goes.tame l r.near_chosen)))
      (goes_either f.yields _ _ (then_next cur ns _ (goes_on_cpu k k.us cur wakeups m t near l))
      (goes_record m.threads m.cpus cur _ t l (tidy_reset m.cpus k.us k.tick k.shortest _ (t.records cur))))

  goes_do : (f : SchedFlags) (wakeups : ℕ) (ns : Words) (m : Memory) → InRange m → StaysInRange m (do_schedule_def k f wakeups ns m).memory
  unfolding do_schedule_def running_at block_def
  goes_do f wakeups ns m t =
      let l : Link (word m.cpus k.us at.RUNNING) = t.running k.us near in
      let b = goes_record m.threads m.cpus (word m.cpus k.us at.RUNNING) (with_place (record_at m.threads (word m.cpus k.us at.RUNNING)) BLOCKED) t l (tidy_place _ BLOCKED (t.records _)) in
      goes_either (eqb (word m.cpus k.us at.RUNNING) NONE) _ _ (goes_next _ ns m t)
      (goes_either f.reinsert _ _ (goes_reinsert _ f wakeups ns m t l) (goes_then b (goes_next _ ns _ b.tame)))

  pub goes_schedule : (f : SchedFlags) (wakeups : ℕ) (ns : Words) (m : Memory) → InRange m → StaysInRange m (schedule_def k f wakeups ns m).memory
  unfolding schedule_def
  goes_schedule f wakeups ns m t = goes_either (critical_in (record_at m.threads (running_at m.cpus k.us)).critical) _ _ (goes_none t) (goes_do f wakeups ns m t)

  pub goes_preempt : (wakeups : ℕ) (ns : Words) (m : Memory) → InRange m → StaysInRange m (schedule_maybe_preempt_def k wakeups ns m).memory
  unfolding schedule_maybe_preempt_def swapped
  goes_preempt wakeups ns m t =
      both (eqb (word m.cpus k.us at.PREEMPT) 0) (λ e. rw e (goes_none t))
      (λ e. let a = goes_plain m.threads m.cpus k.us 78 0 t near (omega arith) (omega arith) in rw e (goes_then a (goes_schedule preempting wakeups ns _ a.tame)))

  goes_scheduled : (x : ℕ) (chosen : Option ℕ) (m : Memory) → InRange m → Link x → Under 64 chosen → StaysInRange m (scheduled_on_def k x chosen m).memory
  unfolding scheduled_on_def wake_def Under
  goes_scheduled x (Some c) m t l u = goes_on_cpu k c x 0 m t u l
  goes_scheduled x None m t l u = goes_none t

  pub goes_thread : (x : ℕ) (ns : Words) (m : Memory) → InRange m → Link x → StaysInRange m (schedule_thread_def k x ns m).memory
  unfolding schedule_thread_def
  goes_thread x ns m t l =
      let a = goes_selected ns (record_at m.threads x) None m t in
      goes_then a (goes_scheduled x _ _ a.tame l (near_selected ns (record_at m.threads x) None m.cpus (t.records x)))

  -- ---- ticks

  pub goes_resched : (ts : List Thread) (cs : Words) → InRange (mem ts cs) → StaysInRange (mem ts cs) (mem ts (schedule_resched_def k.us ts cs))
  unfolding schedule_resched_def rescheds
  goes_resched ts cs t = goes_marked ts cs k.us _ t near

  goes_paid : (cur : ℕ) (h : Left ℕ Words) (m : Memory) → InRange m → Link cur → StaysInRange m (mem m.threads h.memory) → StaysInRange m (paid_by_def k cur h m)
  unfolding paid_by_def idle_paid expires
  goes_paid cur h m t l g =
      let a = goes_plain m.threads h.memory k.us 81 _ g.tame near (omega arith) (omega arith) in
      let b = goes_record m.threads h.memory cur _ g.tame l (tidy_paid (record_at m.threads cur) _ _ (t.records cur)) in
      of_either (StaysInRange m) (eqb cur NONE) _ _ (goes_then g (goes_then a (goes_marked m.threads _ k.us _ a.tame near)))
      (goes_then g (goes_then b (goes_marked _ h.memory k.us _ b.tame near)))

  pub goes_hardtick : (m : Memory) → InRange m → StaysInRange m (schedule_hardtick_def k m)
  unfolding schedule_hardtick_def hardtick_def running_at
  goes_hardtick m t =
      goes_paid _ _ m t (t.running k.us near) (goes_queue m.threads m.cpus k.us _ t near (orderly_hardtick (queue_at m.cpus k.us) k.tick (t.queues k.us near)))

  -- ---- balance

  -- the CPUs between which a thread moves are below 64
  abbrev Aimed : Balancing → Type 0
  Aimed b = PairUnder 64 b.moves

  aimed_begun : Aimed begun
  unfolding begun PairUnder
  aimed_begun = tt

  aimed_moved : (b : Balancing) → Aimed b → Aimed (moved b)
  unfolding moved PairUnder
  aimed_moved b a = tt

  aimed_outcome : (b : Balancing) (donor recipient load waiting : ℕ) (hands : Bool) → Aimed b → donor < 64 → recipient < 64 → Aimed (outcome b donor recipient load waiting hands)
  unfolding outcome moving without passed PairUnder
  aimed_outcome b donor recipient load waiting hands a d r =
      both (ltb 0 waiting)
      (λ e. rw e (both hands (λ h. rw h (d, r)) (λ h. rw h a)))
      (λ e. rw e (both (eqb load 1) (λ h. rw h a) (λ h. rw h a)))

  record Finds (ts : List Thread) (cs : Words) (d : Left Balancing Words) : Type 0 where
    goes : StaysInRange (mem ts cs) (mem ts d.memory)
    aimed : Aimed d.answer

  finds_pair : (ts : List Thread) (cs : Words) (b : Balancing) (p : Option Pair) → InRange (mem ts cs) → Aimed b → PairUnder 64 p → Finds ts cs (pair_of_def b p cs)
  unfolding pair_of_def pair_step passed stopped PairUnder
  finds_pair ts cs b None t a n = record { goes = goes_none t; aimed = a }
  finds_pair ts cs b (Some p) t a n =
      both (eqb (current_load cs p.donor) 0) (λ e. rw e (record { goes = goes_none t; aimed = a }))
      (λ e. rw e (record { goes = goes_plain ts cs p.donor 77 1 t n.0 (omega arith) (omega arith); aimed = aimed_outcome b p.donor p.recipient _ _ _ a n.0 n.1 }))

  finds_step : (ts : List Thread) (cs ns : Words) (b : Balancing) → InRange (mem ts cs) → Aimed b → Finds ts cs (balance_step_def ns k.us k.limit b cs)
  unfolding balance_step_def chosen_at
  finds_step ts cs ns b t a =
      let g = goes_plain ts cs k.us 79 (chosen_at cs ns k.us k.limit b).draws t near (omega arith) (omega arith) in
      let p = finds_pair ts _ b _ g.tame a (subst (λ (n : ℕ). PairUnder n (chosen_at cs ns k.us k.limit b).found) limit (choice_near k.us (cpuset.contains b.allowed) (weight_at cs) ns k.limit 0 (word cs k.us at.RAND_STATE))) in
      record { goes = goes_then g p.goes; aimed = p.aimed }

  finds_move : (n : ℕ) (ts : List Thread) (cs ns : Words) (b : Balancing) → InRange (mem ts cs) → Aimed b → Finds ts cs (find_move n ns k.us k.limit b cs)
  unfolding find_move
  finds_move zero ts cs ns b t a = record { goes = goes_none t; aimed = a }
  finds_move (suc n) ts cs ns b t a =
      let s = finds_step ts cs ns b t a in
      let f = finds_move n ts _ ns _ s.goes.tame s.aimed in
      both (is_done b) (λ e. rw e (record { goes = goes_none t; aimed = a })) (λ e. rw e (record { goes = goes_then s.goes f.goes; aimed = f.aimed }))

  goes_received : {m : Memory} (recipient wakeups : ℕ) (g : Left (Option ℕ) Memory) → Took m g → recipient < 64 → StaysInRange m (received k recipient wakeups g).memory
  unfolding received
  goes_received recipient wakeups g t h =
      goes_either (is_none g.answer) _ _ t.goes (goes_then t.goes (goes_on_cpu k recipient (unwrap_or g.answer NONE) wakeups g.memory t.goes.tame h t.link))

  goes_made : (o : Option Pair) (wakeups : ℕ) (m : Memory) → InRange m → PairUnder 64 o → StaysInRange m (move_made k o wakeups m).memory
  unfolding move_made PairUnder
  goes_made None wakeups m t a = goes_none t
  goes_made (Some p) wakeups m t a = goes_received p.recipient wakeups _ (took_for p.donor p.recipient m t a.0) a.1

  goes_move : (b : Balancing) (wakeups : ℕ) (m : Memory) → InRange m → Aimed b → StaysInRange m (move_one_def k b wakeups m).memory
  goes_move b wakeups m t a = goes_made b.moves wakeups m t a

  goes_balance : (wakeups : ℕ) (ns : Words) (m : Memory) → InRange m → StaysInRange m (balance_def k wakeups ns m).memory
  unfolding balance_def move_two
  goes_balance wakeups ns m t =
      let f = finds_move 20 m.threads m.cpus ns (moved begun) t (aimed_moved begun aimed_begun) in
      let g = goes_move (tick.found k begun ns m.cpus).answer wakeups _ f.goes.tame f.aimed in
      let s = finds_move 20 _ _ ns (moved (tick.found k begun ns m.cpus).answer) g.tame (aimed_moved _ f.aimed) in
      let first = (tick.found k begun ns m.cpus).answer in
      let second = (tick.found k first ns (tick.move_one_def k first wakeups (tick.found_in k begun ns m)).memory.cpus).answer in
      goes_then f.goes (goes_then g (goes_then s.goes (goes_move second _ _ s.goes.tame s.aimed)))

  goes_due : (dt : ℕ) (m : Memory) → InRange m → StaysInRange m (due_in k dt m)
  unfolding rebalance_due time_passed
  goes_due dt m t =
      both (eqb k.us 0)
      (λ e. rw e (both (ltb (word m.cpus k.us at.CUR_REBALANCE_TIME) dt)
      (λ l. let a = goes_plain m.threads m.cpus k.us 79 _ t near (omega arith) (omega arith) in rw l (goes_then a (goes_plain m.threads _ k.us 80 _ a.tame near (omega arith) (omega arith))))
      (λ l. rw l (goes_plain m.threads m.cpus k.us 80 _ t near (omega arith) (omega arith)))))
      (λ e. rw e (goes_none t))

  pub goes_stattick : (dt wakeups : ℕ) (ns : Words) (m : Memory) → InRange m → StaysInRange m (schedule_stattick_def k dt wakeups ns m).memory
  unfolding schedule_stattick_def clocked maybe_rebalance_def clock_def
  goes_stattick dt wakeups ns m t =
      let d = goes_due dt m t in
      let g = goes_either (rebalance_due k.us dt m.cpus).answer _ _ (goes_then d (goes_balance wakeups ns _ d.tame)) d in
      goes_then g (goes_queue _ _ k.us _ g.tame near (orderly_clock (queue_at (maybe_rebalance_def k dt wakeups ns m).memory.cpus k.us) (g.tame.queues k.us near)))
