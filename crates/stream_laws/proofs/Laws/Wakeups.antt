-- A COMMAND COUNTS AT MOST TWO WAKE-UPS. A put counts one at most, a donation likewise, and only `balance` puts more than one thread: document 01's "`balance`
-- makes at most 20 choices and moves at most two threads".
use Prim.Native.Nat.{ℕ, zero, suc, ◌+◌, ◌*◌, ◌≤◌, ◌<◌}
use Rattle.std.specs.Prelude.{◌≡◌, refl, Bool, false, ◌&&◌, ◌||◌, List, eqb, Option, None, Some}
use Rattle.std.proofs.Math.Bool.{not}
use Rattle.std.proofs.Math.Dec.{ltb}
use borrow.Author.Tests.{ltb-true}
use native.Mathlib.Omega.{arith}
use Rattle.std.specs.Cmp.{second_so}
use Rattle.rules.specs.declared.choice.Pair.{Pair}
use Rattle.rules.specs.declared.Priority.{Priority}
use Rattle.rules.proofs.Laws.Line.{both}
use Rattle.rules.specs.Priority.{less, donation_accepted, priority, class_at}
use Rattle.rules.specs.Times.{effective_priority}
use Rattle.rules.specs.Queue.{load}
use Rattle.rules.specs.State.{at, Limits, Topology, State}
use Rattle.rules.specs.Schedule as sched
use Rattle.rules.specs.Schedule.{World, Got, Balancing, Flags, with_cpu, with_thread}
use Rattle.rules.specs.Requests.{Request, declare_cpu, add_node, place_cpu, seal, set_shortest, declare_thread, set_tick, schedule_thread, schedule, hardtick, stattick, resched, maybe_preempt, donate, remove_donation, set_critical, read, flags_of, Reading}
use Rattle.rules.specs.Commands.{Step, nothing_shown, shown, refuses, changed, world_of, ran, ran_on, scheduled_on, schedules, obeys, step, answered}
use Rattle.rules.proofs.Laws.Answered.{by_answer}
use Rattle.rules.specs.Waits.{Under}
use Rattle.sched_laws.proofs.Frames.{call_one, put_one, from_wakeups, pick_wakeups, select_wakeups, resched_wakeups, hardtick_wakeups}

-- A turn of `balance`, from the world w with n steps made, to b: each wake-up is paid for by eleven steps, and there is at most one.
record Turn (w : World) (n : ℕ) (b : Balancing) : Type 0 where
  paid : 11 * b.world.wakeups + n ≤ 11 * w.wakeups + b.steps
  one : b.world.wakeups ≤ w.wakeups + 1

module _ (limits : Limits) (topology : Topology) (tick us : ℕ) where
  -- ---- `balance`

  received_turn : (w : World) (allowed : ℕ → Bool) (n recipient : ℕ) (o : Option ℕ) → Turn w n (sched.received limits topology tick us w allowed n recipient o)
  unfolding sched.received
  received_turn w allowed n recipient None = record { paid = omega arith; one = omega arith }
  received_turn w allowed n recipient (Some x) = record { paid = omega (arith, put_one limits topology tick us w recipient x); one = put_one limits topology tick us w recipient x }

  move_turn : (w : World) (allowed : ℕ → Bool) (n donor recipient : ℕ) → Turn w n (sched.move_one limits topology tick us w allowed n donor recipient)
  unfolding sched.move_one
  move_turn w allowed n donor recipient =
      let g : Got = sched.take_a_thread_from_cpu limits topology tick us w donor recipient in
      let t = received_turn g.world (at allowed recipient false) n recipient g.got in
      let same : g.world.wakeups ≡ w.wakeups = from_wakeups limits topology tick us w donor recipient in
      record { paid = omega (arith, t.paid, same); one = omega (arith, t.one, same) }

  pair_turn : (w : World) (allowed : ℕ → Bool) (n : ℕ) (p : Option Pair) → Turn w n (sched.balance_pair limits topology tick us w allowed n p)
  unfolding sched.balance_pair with_cpu
  pair_turn w allowed n None = record { paid = omega arith; one = omega arith }
  pair_turn w allowed n (Some p) =
      both (eqb (sched.current_load (w.cpus p.donor)) 0)
      (λ e. rw e (record { paid = omega arith; one = omega arith }))
      (λ e. rw e (both (ltb 0 (load (w.cpus p.donor).queue))
      (λ h. rw h (let t = move_turn _ allowed n p.donor p.recipient in record { paid = t.paid; one = t.one }))
      (λ h. rw h (record { paid = omega arith; one = omega arith }))))

  step_turn : (b : Balancing) → Turn b.world b.steps (sched.balance_step limits topology tick us b)
  unfolding sched.balance_step with_cpu
  step_turn b = let t = pair_turn _ b.allowed b.steps _ in record { paid = t.paid; one = t.one }

  turns_two : (n : ℕ) (b : Balancing) → 11 * b.world.wakeups ≤ b.steps → b.world.wakeups ≤ 2 → (sched.balance_turns limits topology tick us n b).world.wakeups ≤ 2
  unfolding sched.balance_turns sched.max_steps
  turns_two zero b p q = q
  turns_two (suc n) b p q =
      both (b.goes_on && ltb b.steps 20)
      (λ e.
      let t = step_turn b in
      let early : b.steps < 20 = ltb-true b.steps 20 (second_so b.goes_on (ltb b.steps 20) e) in
      rw e (turns_two n _ (omega (arith, t.paid)) (omega (arith, t.one))))
      (λ e. rw e q)

  balance_two : (w : World) → w.wakeups ≡ 0 → (sched.balance limits topology tick us w).wakeups ≤ 2
  unfolding sched.balance
  balance_two w z = turns_two _ _ (omega arith) (omega arith)

  -- ---- the commands

  reinsert_at_none : (w : World) (x : ℕ) → (sched.reinsert_at limits topology tick us w x).world.wakeups ≡ w.wakeups
  unfolding sched.reinsert_at
  reinsert_at_none w x = both (w.cpus us).must_rebalance (λ e. rw e (select_wakeups limits topology tick us w x (Some us))) (λ e. rw e)

  reinserted_one : (w : World) (x : ℕ) (o : Option ℕ) → (sched.reinserted limits topology tick us w x o).wakeups ≤ w.wakeups + 1
  unfolding sched.reinserted
  reinserted_one w x None = omega arith
  reinserted_one w x (Some c) = put_one limits topology tick us w c x

  reinsert_one : (w : World) (x : ℕ) (yield preempt : Bool) → (sched.reinsert limits topology tick us w x yield preempt).wakeups ≤ w.wakeups + 1
  unfolding sched.reinsert sched.reset_thread_time with_thread
  reinsert_one w x yield preempt =
      let g : Got = sched.reinsert_at limits topology tick us w x in
      both (preempt || ((w.cpus us).must_rebalance || sched.has_higher limits topology tick us w x yield))
      (λ e. rw (e, pick_wakeups) (omega (arith, reinserted_one g.world x g.got, reinsert_at_none w x)))
      (λ e. both yield (λ h. rw (e, h, pick_wakeups) (put_one limits topology tick us w us x)) (λ h. rw (e, h) (omega arith)))

  do_schedule_one : (w : World) (o : Option ℕ) (f : Flags) → (sched.do_schedule_of limits topology tick us w o f).wakeups ≤ w.wakeups + 1
  unfolding sched.do_schedule_of
  do_schedule_one w None f = omega (arith, pick_wakeups limits topology tick us w)
  do_schedule_one w (Some x) f =
      both f.again (λ e. rw e (reinsert_one w x f.yield f.preempt)) (λ e. rw e (omega (arith, pick_wakeups limits topology tick us w)))

  schedule_one : (w : World) (f : Flags) → (sched.schedule limits topology tick us w f).wakeups ≤ w.wakeups + 1
  unfolding sched.schedule sched.do_schedule
  schedule_one w f = both (sched.critical_running w (w.cpus us).running) (λ e. rw e (omega arith)) (λ e. rw e (do_schedule_one w _ f))

  maybe_preempt_one : (w : World) → (sched.schedule_maybe_preempt limits topology tick us w).wakeups ≤ w.wakeups + 1
  unfolding sched.schedule_maybe_preempt with_cpu
  maybe_preempt_one w = both (w.cpus us).preempt (λ e. rw e (schedule_one _ _)) (λ e. rw e (omega arith))

  maybe_wakeup_one : (w : World) (x : ℕ) (o : Option ℕ) → (sched.maybe_wakeup limits topology tick us w x o).wakeups ≤ w.wakeups + 1
  unfolding sched.maybe_wakeup
  maybe_wakeup_one w x None = omega arith
  maybe_wakeup_one w x (Some c) = call_one limits topology tick us w c _

  donate_one : (w : World) (x : ℕ) (p : Priority) → (sched.donate_priority limits topology tick us w x p).wakeups ≤ w.wakeups + 1
  unfolding sched.donate_priority with_thread
  donate_one w x p =
      both (donation_accepted (w.threads x).donated p)
      (λ e. both (less (effective_priority (w.threads x)) p && not (sched.same_cpu x (w.cpus us).running))
      (λ h. rw (e, h) (maybe_wakeup_one _ x _)) (λ h. rw (e, h) (omega arith)))
      (λ e. rw e (omega arith))

  stattick_two : (w : World) (time : ℕ) → w.wakeups ≡ 0 → (sched.schedule_stattick limits topology tick us w time).wakeups ≤ 2
  unfolding sched.schedule_stattick sched.clock sched.maybe_rebalance with_cpu
  stattick_two w time z =
      both (eqb us 0)
      (λ e. both (ltb (w.cpus us).rebalance_time time) (λ h. rw (e, h) (balance_two _ z)) (λ h. rw (e, h) (omega arith)))
      (λ e. rw e (omega arith))

-- ---- the answers

scheduled_two : (s : State) (us x : ℕ) (w : World) (o : Option ℕ) → w.wakeups ≡ 0 → Under 3 (scheduled_on s us x w o).answer.wakeups
unfolding scheduled_on ran shown Under
scheduled_two s us x w None z = omega arith
scheduled_two s us x w (Some c) z = omega (arith, put_one s.limits s.topology s.tick us w c x)

obeyed_two : (s : State) (q : Request) → Under 3 (obeys s q).answer.wakeups
unfolding obeys changed nothing_shown schedules ran_on ran shown world_of Under
obeyed_two s (declare_cpu c) = tt
obeyed_two s (add_node p k) = tt
obeyed_two s (place_cpu n c) = tt
obeyed_two s seal = tt
obeyed_two s (set_shortest n) = tt
obeyed_two s (declare_thread x k v p) = tt
obeyed_two s (set_tick t) = tt
obeyed_two s (schedule_thread c x) = scheduled_two s c x _ _ (select_wakeups s.limits s.topology s.tick c (world_of s) x None)
obeyed_two s (schedule c f) = omega (arith, schedule_one s.limits s.topology s.tick c (world_of s) (flags_of f))
obeyed_two s (hardtick c) = omega (arith, hardtick_wakeups s.limits s.topology s.tick c (world_of s))
obeyed_two s (stattick c n) = omega (arith, stattick_two s.limits s.topology s.tick c (world_of s) n refl)
obeyed_two s (resched c) = omega (arith, resched_wakeups s.limits s.topology s.tick c (world_of s))
obeyed_two s (maybe_preempt c) = omega (arith, maybe_preempt_one s.limits s.topology s.tick c (world_of s))
obeyed_two s (donate c x k v) = omega (arith, donate_one s.limits s.topology s.tick c (world_of s) x (priority (class_at k) v))
obeyed_two s (remove_donation x) = tt
obeyed_two s (set_critical x m) = tt

answered_two : (s : State) (q : Reading) → Under 3 (answered s q).answer.wakeups
unfolding refuses nothing_shown Under
answered_two s q = by_answer (λ (a : Step). Under 3 a.answer.wakeups) s q (λ n. tt) (λ r e. obeyed_two s r)

-- THE BOUND: in every state, on any bytes, the wake-ups that are shown are fewer than three.
pub wakeups_two : (s : State) (bytes : List ℕ) → Under 3 (step s bytes).answer.wakeups
unfolding step
wakeups_two s bytes = answered_two s (read s.limits bytes)
