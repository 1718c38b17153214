-- THE RUN QUEUES OF ALL CPUS OVER ONE SLICE OF RECORDS: what one does leaves the others as they are.
use Rattle.std.specs.Prelude.{ℕ, ◌≤◌, ◌<◌, ◌≡◌, refl, Bool, true, false, ◌&&◌, eqb, Option, None, Some}
use Rattle.std.proofs.Common.{sym, ◌∙◌, true≢false}
use borrow.Author.Tests.{eqb-true, eqb-false, ne_eqb}
use Rattle.rules.specs.declared.Part.{Part}
use Rattle.rules.specs.Line.{has}
use Rattle.rules.proofs.Laws.Line.{both}
use Rattle.rules.specs.Priority.{nr_values}
use Rattle.rules.specs.Queue.{Queue, order, movable, Next, nobody, next_in, asked, next}
use Rattle.rules.specs.State.{at}
use Rattle.rules.proofs.Laws.Effect.{advance_order}
use Rattle.rules.proofs.Laws.Sound.{at_here, at_there}
use Rattle.thread.specs.Thread.{NONE}
use Rattle.runqueue.specs.declared.rq.RunQueue.{RunQueue}
use Rattle.runqueue.specs.declared.rq.Arrival.{Arrival}
use Rattle.runqueue.specs.declared.rq.Put.{Put}
use Rattle.runqueue.specs.declared.rq.Front.{Front}
use Rattle.runqueue.specs.RunQueue.{rq_insert, rq_front, rq_taken, rq_clock, rq_hardtick}
use Rattle.represents.proofs.Laws.Linked.{Alike, has_later}
use Rattle.represents.specs.QueueRead.{Marks}
use Rattle.represents.specs.Queue.{QueueReading, QueueRep}
use Rattle.represents.proofs.Laws.Readings.{put_reading, take_reading, clock_reading, hardtick_reading, marks_after, Follows}
use Rattle.represents.proofs.Laws.Operations.{well_frame, take_follows, taken_order, put_follows, put_next_stays, put_value_stays, put_has, clock_follows, hardtick_follows}
use Rattle.represents.specs.Queue.{waits, AllQueuesRep}

-- two tables of marks agree on those who wait in a queue
pub record Agree (m' m : Marks) (Q : Queue) : Type 0 where
  pub links : Alike m'.next m.next (order Q)
  pub pins : (z : ℕ) → has z (order Q) ≡ true → m'.pinned z ≡ m.pinned z
  pub values : Alike m'.value m.value (order Q)

-- a take at CPU c: the thread that `front` answers is the one that the rules ask for, and what is left reads as the rules leave it
unfoldable pub AllFollow : ℕ → ℕ → Marks → (ℕ → RunQueue) → (ℕ → QueueReading) → ℕ → Option Front → Next → Type 0
AllFollow limit n m qs Rs c None a = a ≡ nobody
AllFollow limit n m qs Rs c (Some f) a =
    (a ≡ next_in f.part f.bucket f.thread)
    × AllQueuesRep limit n m (at qs c (rq_taken (qs c) (Some f) NONE (m.next f.thread) (m.value f.thread) (m.pinned f.thread))) (at Rs c (take_reading m.value (Rs c) f.part f.bucket))

-- ----

-- who is handed out was next
asked_next : (pinned : ℕ → Bool) (Q : Queue) (stealing : Bool) (p : Part) (b x : ℕ) → asked pinned Q stealing ≡ next_in p b x → next Q ≡ next_in p b x
unfolding asked
asked_next pinned Q stealing p b x e =
    both (stealing && eqb (movable pinned (order Q)) 0) (λ t. let z : ◌≡◌ {A = Next} nobody (next_in p b x) = rw t at e in cc) (λ t. rw t at e)

module _ (limit n : ℕ) (m : Marks) (qs : ℕ → RunQueue) (Rs : ℕ → QueueReading) (w : AllQueuesRep limit n m qs Rs) where
  -- A FRAME: marks of those who wait nowhere may change
  pub all_frame : (m' : Marks) → ((c : ℕ) → c < n → Agree m' m (Rs c).queue) → AllQueuesRep limit n m' qs Rs
  all_frame m' a = record {
    each = λ c h. well_frame m' (w.each c h) (a c h).links (a c h).pins (a c h).values;
    apart = w.apart;
  }

  module _ (c : ℕ) (cn : c < n) where
    -- one CPU's queue changes, and with it some marks, none of them of a thread that waits elsewhere
    all_set : (m' : Marks) (q' : RunQueue) (R' : QueueReading) → QueueRep limit m' q' R'
        → ((d : ℕ) → d < n → eqb d c ≡ false → Agree m' m (Rs d).queue)
        → ((d z : ℕ) → d < n → eqb d c ≡ false → has z (order R'.queue) ≡ true → waits Rs d z ≡ false)
        → AllQueuesRep limit n m' (at qs c q') (at Rs c R')
    all_set m' q' R' new same free = record { each = one; apart = two }
      where
        one : (d : ℕ) → d < n → QueueRep limit m' (at qs c q' d) (at Rs c R' d)
        one d h = both (eqb d c)
            (λ e. rw (eqb-true d c e, at_here qs c q', at_here Rs c R') new)
            (λ e. rw (at_there qs c q' d (eqb-false d c e), at_there Rs c R' d (eqb-false d c e)) (well_frame m' (w.each d h) (same d h e).links (same d h e).pins (same d h e).values))

        two : (d e z : ℕ) → d < n → e < n → waits (at Rs c R') d z ≡ true → waits (at Rs c R') e z ≡ true → d ≡ e
        two d e z h k a b = both (eqb d c)
            (λ p. both (eqb e c) (λ r. eqb-true d c p ∙ sym (eqb-true e c r))
            (λ r. absurd (true≢false (sym (rw (at_there Rs c R' e (eqb-false e c r)) at b) ∙ free e z k r (rw (eqb-true d c p, at_here Rs c R') at a)))))
            (λ p. both (eqb e c) (λ r. absurd (true≢false (sym (rw (at_there Rs c R' d (eqb-false d c p)) at a) ∙ free d z h p (rw (eqb-true e c r, at_here Rs c R') at b))))
            (λ r. w.apart d e z h k (rw (at_there Rs c R' d (eqb-false d c p)) at a) (rw (at_there Rs c R' e (eqb-false e c r)) at b)))

    elsewhere : (d z : ℕ) → d < n → eqb d c ≡ false → waits Rs c z ≡ true → waits Rs d z ≡ false
    elsewhere d z h e a = both (waits Rs d z) (λ b. absurd (eqb-false d c e (w.apart d c z h cn b a))) (λ b. b)

    not_here : (d z : ℕ) → d < n → eqb d c ≡ false → waits Rs d z ≡ true → waits Rs c z ≡ false
    not_here d z h e a = both (waits Rs c z) (λ b. absurd (eqb-false d c e (w.apart d c z h cn a b))) (λ b. b)

    not_new : (y : ℕ) → ((d : ℕ) → d < n → waits Rs d y ≡ false) → (d z : ℕ) → d < n → waits Rs d z ≡ true → eqb z y ≡ false
    not_new y free d z h a = ne_eqb z y (λ e. true≢false (sym a ∙ rw e (free d h)))

    stays : (d : ℕ) → Agree m m (Rs d).queue
    stays d = record { links = λ z h. refl; pins = λ z h. refl; values = λ z h. refl }

    module _ (small : limit ≤ NONE) where
      -- A TAKE AT ONE CPU
      pub all_take : (stealing : Bool) → AllFollow limit n m qs Rs c (rq_front (qs c) stealing) (asked m.pinned (Rs c).queue stealing)
      all_take stealing = go (rq_front (qs c) stealing) (take_follows limit small m (qs c) (Rs c) (w.each c cn) stealing)
        where
          go : (f : Option Front) → Follows limit m (qs c) (Rs c) f (asked m.pinned (Rs c).queue stealing) → AllFollow limit n m qs Rs c f (asked m.pinned (Rs c).queue stealing)
          go None e = unfold AllFollow Follows in e
          go (Some f) e = unfold AllFollow Follows in (
            e.0,
            all_set m _ _ e.1 (λ d h k. stays d)
                (λ d z h k a. elsewhere d z h k (rw (taken_order limit small m (qs c) (Rs c) (w.each c cn) f.part f.bucket f.thread (asked_next m.pinned (Rs c).queue stealing f.part f.bucket f.thread e.0)) (has_later z f.thread _ (unfold take_reading in a)))),
          )

      -- A PUT AT ONE CPU
      pub all_put : (a : Arrival) → a.priority.value < nr_values → a.thread < limit → m.pinned a.thread ≡ a.pinned
          → ((d : ℕ) → d < n → waits Rs d a.thread ≡ false)
          → (let u : Put = rq_insert (qs c) a in
          AllQueuesRep limit n (marks_after m u a) (at qs c u.queue) (at Rs c (put_reading (Rs c) a)))
      all_put a vn tn pin free =
          let q : RunQueue = qs c in
          let R : QueueReading = Rs c in
          let k : QueueRep limit m q R = w.each c cn in
          all_set (marks_after m (rq_insert q a) a) (rq_insert q a).queue (put_reading R a)
          (put_follows limit small m q R k a vn tn (free c cn) pin)
          (λ d h e. record {
            links = λ z b. put_next_stays limit small m q R k a vn tn (free c cn) pin z (not_here d z h e b) (not_new a.thread free d z h b);
            pins = λ z b. unfold marks_after in refl;
            values = λ z b. put_value_stays limit small m q R k a vn tn (free c cn) pin z (not_new a.thread free d z h b);
          })
          (λ d z h e b. both (eqb a.thread z) (λ r. rw (← eqb-true a.thread z r) (free d h))
          (λ r. elsewhere d z h e (rw (put_has limit small m q R k a vn tn (free c cn) pin z, r) at b)))

      -- A CLOCK AT ONE CPU
      pub all_clock : AllQueuesRep limit n m (at qs c (rq_clock (qs c))) (at Rs c (clock_reading (Rs c)))
      unfolding clock_reading
      all_clock = all_set m _ _ (clock_follows limit small m (qs c) (Rs c) (w.each c cn)) (λ d h k. stays d)
          (λ d z h k a. elsewhere d z h k (rw (advance_order (Rs c).queue) at a))

      -- A HARD TICK AT ONE CPU
      pub all_hardtick : (now : ℕ) → AllQueuesRep limit n m (at qs c (rq_hardtick (qs c) now).queue) (at Rs c (hardtick_reading (Rs c) now))
      unfolding hardtick_reading
      all_hardtick now = all_set m _ _ (hardtick_follows limit small m (qs c) (Rs c) (w.each c cn) now) (λ d h k. stays d) (λ d z h k a. elsewhere d z h k a)
