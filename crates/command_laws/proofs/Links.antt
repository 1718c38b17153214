-- THE THREAD NUMBERS IN A RUN QUEUE: each is below 1,024 or none, and every operation of the queue keeps that.
use Rattle.std.specs.Prelude.{ℕ, zero, suc, ◌+◌, ◌%◌, ◌≡◌, refl, Bool, true, false, List, length, get_or, set, replicate, eqb, ltb, Option, None, Some}
use Rattle.std.proofs.Common.{sym, ap, subst, ◌∙◌, arith, length-set, get_or-set_same, get_or-set_other, eqb-true, ltb-true, ltb-false}
use Rattle.std.proofs.lemmas.List.{get_or-replicate, length-replicate}
use Rattle.std.proofs.Math.ListN.{get_or-eq_default}
use Rattle.std.proofs.Math.Seq.{set_out}
use Rattle.std.proofs.lemmas.Bool.{eqb-false}
use Rattle.rules.specs.declared.Part.{Part}
use Rattle.rules.specs.declared.Part.TheVariants as part
use Rattle.rules.proofs.Laws.Line.{both}
use Rattle.rules.specs.Queue.{nr_buckets, class_bucket, part_of}
use Rattle.thread.specs.Thread.{NONE}
use Rattle.queue.specs.declared.lists.Lists.{Lists}
use Rattle.queue.specs.declared.lists.Found.{Found}
use Rattle.queue.specs.declared.pq.PriorityQueue.{PriorityQueue}
use Rattle.queue.specs.declared.timeshare.TimeshareQueue.{TimeshareQueue}
use Rattle.queue.specs.Lists.{no_lists_def, push_back, unlinked, scan_heads, first_from}
use Rattle.queue.specs.PriorityQueue.{no_priority, pq_insert, pq_front, pq_taken}
use Rattle.queue.specs.Timeshare.{no_timeshare, ts_bucket, slot, ts_insert, ts_front, ts_taken, ts_step, ts_advance}
use Rattle.runqueue.specs.declared.rq.RunQueue.{RunQueue}
use Rattle.runqueue.specs.declared.rq.Arrival.{Arrival}
use Rattle.runqueue.specs.declared.rq.Front.{Front}
use Rattle.runqueue.specs.RunQueue.{no_run_queue, with_realtime, with_timeshare, with_idle, advertising, counted, uncounted, rq_insert_realtime, rq_insert_timeshare, rq_insert_idle, rq_insert_into, rq_insert, first_in_def, rq_front_idle, rq_front_timeshare, rq_front_realtime, rq_front, rq_taken_realtime, rq_recalc, rq_taken_timeshare, rq_taken_idle, rq_taken_from, rq_taken, rq_clock, rq_hardtick}
use Rattle.processor.proofs.Laws.Queue.{Eights}
use Rattle.command_laws.specs.Links.{BehindLink, FoundLink, FrontLink, Link, ListsInRange, QueueInRange}

links_set : (l : List ℕ) (i v : ℕ) → ((b : ℕ) → Link (get_or l b 0)) → Link v → (b : ℕ) → Link (get_or (set l i v) b 0)
links_set l i v h k b =
    both (eqb b i)
    (λ e. both (ltb i (length l))
    (λ m. rw (eqb-true b i e, get_or-set_same l i v 0 (ltb-true _ _ m)) k)
    (λ m. rw (set_out l i v (ltb-false _ _ m)) (h b)))
    (λ e. rw (get_or-set_other l i b v 0 (eqb-false b i e)) (h b))

pub neat_push : (l : Lists) (b t : ℕ) → ListsInRange l → Link t → ListsInRange (push_back l b t).queue × BehindLink (push_back l b t).behind
unfolding push_back BehindLink
neat_push l b t n k =
    both (eqb (get_or l.heads (b % nr_buckets) 0) NONE)
    (λ e. rw e (
      record {
        eight = record {
          heads_8 = length-set l.heads (b % nr_buckets) t ∙ n.eight.heads_8;
          tails_8 = length-set l.tails (b % nr_buckets) t ∙ n.eight.tails_8;
        };
        heads = links_set l.heads (b % nr_buckets) t n.heads k;
        tails = links_set l.tails (b % nr_buckets) t n.tails k;
      },
      tt,
    ))
    (λ e. rw e (
      record {
        eight = record { heads_8 = n.eight.heads_8; tails_8 = length-set l.tails (b % nr_buckets) t ∙ n.eight.tails_8 };
        heads = n.heads;
        tails = links_set l.tails (b % nr_buckets) t n.tails k;
      },
      n.tails (b % nr_buckets),
    ))

-- the head of a list has left
pub neat_unlinked : (l : Lists) (b next : ℕ) → ListsInRange l → Link next → ListsInRange (unlinked l b NONE next)
unfolding unlinked
neat_unlinked l b next n k = record {
  eight = record { heads_8 = length-set l.heads (b % nr_buckets) next ∙ n.eight.heads_8; tails_8 = n.eight.tails_8 };
  heads = links_set l.heads (b % nr_buckets) next n.heads k;
  tails = n.tails;
}

links_none : (n b : ℕ) → Link (get_or (replicate n NONE) b 0)
links_none n b =
    both (ltb b n)
    (λ e. rw (get_or-replicate n b NONE 0 (ltb-true _ _ e)) (λ h. refl))
    (λ e. rw (get_or-eq_default (replicate n NONE) 0 {n = b} (rw (length-replicate n NONE) (ltb-false _ _ e))) (λ h. absurd (omega arith)))

neat_none : ListsInRange no_lists_def
unfolding no_lists_def nr_buckets
neat_none = record { eight = record { heads_8 = refl; tails_8 = refl }; heads = links_none 8; tails = links_none 8 }

scan_link : (n : ℕ) (hs : List ℕ) (i k : ℕ) → ((b : ℕ) → Link (get_or hs b 0)) → FoundLink (scan_heads n hs i k)
unfolding scan_heads FoundLink
scan_link n hs i zero h = tt
scan_link n hs i (suc k) h = both (eqb (get_or hs (i % n) 0) NONE) (λ e. rw e (scan_link n hs (i + 1) k h)) (λ e. rw e (h (i % n)))

first_link : (l : Lists) (from : ℕ) → ListsInRange l → FoundLink (first_from l from)
unfolding first_from
first_link l from n = scan_link nr_buckets l.heads (from % nr_buckets) nr_buckets n.heads

pq_link : (p : PriorityQueue) → ListsInRange p.queues → FoundLink (pq_front p)
unfolding pq_front FoundLink
pq_link p n = both (eqb p.count 0) (λ e. rw e tt) (λ e. rw e (first_link p.queues 0 n))

ts_link : (t : TimeshareQueue) → ListsInRange t.queues → FoundLink (ts_front t)
unfolding ts_front FoundLink
ts_link t n = both (eqb t.count 0) (λ e. rw e tt) (λ e. rw e (first_link t.queues t.take_idx n))

in_link : (p : Part) (f : Option Found) (later : Option Front) → FoundLink f → FrontLink later → FrontLink (first_in_def p f later)
unfolding first_in_def FoundLink FrontLink
in_link p (Some f) later h k = h
in_link p None later h k = k

pub orderly_eights : {q : RunQueue} → QueueInRange q → Eights q
orderly_eights o = record { realtime_8 = o.realtime.eight; priorities_8 = o.counts; timeshare_8 = o.timeshare.eight; idle_8 = o.idle.eight }

pub orderly_none : QueueInRange no_run_queue
unfolding no_run_queue no_priority no_timeshare nr_buckets
orderly_none = record { realtime = neat_none; timeshare = neat_none; idle = neat_none; counts = refl }

-- a put, and whose link is to lead to the thread
insert_into : (p : Part) (q : RunQueue) (a : Arrival) → QueueInRange q → Link a.thread → QueueInRange (rq_insert_into p q a).queue × BehindLink (rq_insert_into p q a).behind
unfolding rq_insert_into rq_insert_realtime rq_insert_timeshare rq_insert_idle with_realtime with_timeshare with_idle counted pq_insert ts_insert
insert_into part.Realtime q a o k =
    let n = neat_push q.realtime.queues (class_bucket a.priority.class a.priority.value) a.thread o.realtime k in
    (record { realtime = n.0; timeshare = o.timeshare; idle = o.idle; counts = o.counts }, n.1)
insert_into part.Timeshare q a o k =
    let n = neat_push q.timeshare.queues (ts_bucket q.timeshare a.priority.value a.current) a.thread o.timeshare k in
    (record { realtime = o.realtime; timeshare = n.0; idle = o.idle; counts = length-set q.timeshare.priorities (slot a.priority.value) _ ∙ o.counts }, n.1)
insert_into part.Idle q a o k =
    let n = neat_push q.idle.queues (class_bucket a.priority.class a.priority.value) a.thread o.idle k in
    (record { realtime = o.realtime; timeshare = o.timeshare; idle = n.0; counts = o.counts }, n.1)

pub orderly_insert : (q : RunQueue) (a : Arrival) → QueueInRange q → Link a.thread → QueueInRange (rq_insert q a).queue × BehindLink (rq_insert q a).behind
unfolding rq_insert
orderly_insert q a o k = insert_into (part_of a.priority.class a.due) q a o k

-- a take
pub orderly_front : (q : RunQueue) (stealing : Bool) → QueueInRange q → FrontLink (rq_front q stealing)
unfolding rq_front rq_front_realtime rq_front_timeshare rq_front_idle FrontLink
orderly_front q stealing o = go stealing
  where
    later : FrontLink (rq_front_realtime q)
    later = in_link part.Realtime _ _ (pq_link q.realtime o.realtime) (in_link part.Timeshare _ _ (ts_link q.timeshare o.timeshare) (in_link part.Idle _ _ (pq_link q.idle o.idle) tt))

    go : (s : Bool) → FrontLink (rq_front q s)
    go true = both (eqb q.movable 0) (λ e. rw e tt) (λ e. rw e later)
    go false = later

taken_from : (p : Part) (q : RunQueue) (b next v : ℕ) (pinned : Bool) → QueueInRange q → Link next → QueueInRange (rq_taken_from p q b NONE next v pinned)
unfolding rq_taken_from rq_taken_realtime rq_taken_timeshare rq_taken_idle rq_recalc advertising with_realtime with_timeshare with_idle uncounted pq_taken ts_taken
taken_from part.Realtime q b next v pinned o k =
    record { realtime = neat_unlinked q.realtime.queues b next o.realtime k; timeshare = o.timeshare; idle = o.idle; counts = o.counts }
taken_from part.Timeshare q b next v pinned o k = record {
  realtime = o.realtime;
  timeshare = neat_unlinked q.timeshare.queues b next o.timeshare k;
  idle = o.idle;
  counts = length-set q.timeshare.priorities (slot v) _ ∙ o.counts;
}
taken_from part.Idle q b next v pinned o k =
    record { realtime = o.realtime; timeshare = o.timeshare; idle = neat_unlinked q.idle.queues b next o.idle k; counts = o.counts }

pub orderly_taken : (q : RunQueue) (f : Option Front) (next v : ℕ) (pinned : Bool) → QueueInRange q → Link next → QueueInRange (rq_taken q f NONE next v pinned)
unfolding rq_taken
orderly_taken q (Some f) next v pinned o k = taken_from f.part q f.bucket next v pinned o k
orderly_taken q None next v pinned o k = o

-- clock and hard tick
advance_queues : (t : TimeshareQueue) (steps : ℕ) (force : Bool) → ((ts_advance t steps force).queues ≡ t.queues) × ((ts_advance t steps force).priorities ≡ t.priorities)
unfolding ts_advance ts_step
advance_queues t steps force =
    both (eqb t.count 0) (λ e. rw e (refl, refl))
    (λ e. rw e (both (eqb t.insert_idx t.take_idx) (λ d. rw d (refl, refl)) (λ d. rw d (both force (λ f. rw f (refl, refl)) (λ f. rw f (refl, refl))))))

pub orderly_clock : (q : RunQueue) → QueueInRange q → QueueInRange (rq_clock q)
unfolding rq_clock with_timeshare
orderly_clock q o =
    let e = advance_queues q.timeshare 1 true in
    record { realtime = o.realtime; timeshare = subst ListsInRange (sym e.0) o.timeshare; idle = o.idle; counts = ap length e.1 ∙ o.counts }

pub orderly_hardtick : (q : RunQueue) (now : ℕ) → QueueInRange q → QueueInRange (rq_hardtick q now).queue
unfolding rq_hardtick
orderly_hardtick q now o = record { realtime = o.realtime; timeshare = o.timeshare; idle = o.idle; counts = o.counts }
