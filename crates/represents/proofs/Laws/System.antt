-- THE LAWS OF PUT, TAKE, STEAL, CLOCK AND HARD TICK IN LENT MEMORY: over the thread records ts and the words cs of n CPUs, each leaves what is well
-- formed well formed; the queue of its CPU then reads as the rules' function of what it read before, and every other CPU's reads as before.
-- Any number of CPUs and threads.
use Rattle.std.specs.Prelude.{ℕ, ◌-◌, ◌^◌, ◌≤◌, ◌<◌, ◌≡◌, Bool, get_or, set, eqb, Option, Some, None}
use Rattle.std.proofs.Math.Path.{refl}
use Rattle.std.proofs.Common.{sym, subst, ◌∙◌, length-set, get_or-set_same, eqb-true, arith}
use Rattle.std.proofs.Math.Bool.{false}
use Rattle.std.proofs.lemmas.Bool.{false≢true, eqb-false}
use mathlib.Core.List.{List, []}
use Rattle.std.proofs.Math.ListN.{length}
use Rattle.rules.specs.Line.{has}
use Rattle.rules.proofs.Laws.Line.{both}
use Rattle.rules.proofs.Laws.Effect.{start_order}
use Rattle.rules.proofs.Laws.Sound.{at_here, at_there}
use Rattle.rules.specs.declared.Part.{Part}
use Rattle.rules.specs.Priority.{nr_values}
use Rattle.rules.specs.Queue.{nr_buckets, order, Next, nobody, next_in, asked}
use Rattle.rules.specs.State.{at}
use Rattle.rules.specs.Waits.{Under}
use Rattle.thread.specs.declared.Thread.{Thread}
use Rattle.thread.specs.Thread.{NONE, RUNNING, with_place}
use Rattle.thread.specs.Reads.{reads}
use Rattle.thread.specs.Priority.{effective_below}
use Rattle.thread.specs.Place.{reads_place}
use Rattle.runqueue.specs.declared.rq.RunQueue.{RunQueue}
use Rattle.runqueue.specs.declared.rq.Arrival.{Arrival}
use Rattle.runqueue.specs.declared.rq.Put.{Put}
use Rattle.runqueue.specs.declared.rq.Front.{Front}
use Rattle.runqueue.specs.RunQueue.{front_at, no_run_queue, rq_front, rq_taken, rq_clock, rq_hardtick}
use Rattle.processor.specs.Queue.{queue_at, queue_stored, queue_into, stored_from}
use Rattle.processor.proofs.Laws.Queue.{Eights, length_lists, queue_after_store, queue_elsewhere, length_store}
use Rattle.processor.specs.Window.{length_place}
use Rattle.represents.specs.QueueRead.{Marks}
use Rattle.represents.specs.Queue.{QueueReading, QueueRep}
use Rattle.represents.proofs.Laws.Readings.{reading, new_reading, put_reading, take_reading, clock_reading, hardtick_reading, marks_after}
use Rattle.represents.proofs.Laws.Operations.{reading_is, hardtick_ticks, put_behind, new_well}
use Rattle.represents.specs.Queue.{waits, AllQueuesRep}
use Rattle.represents.proofs.Laws.Queues.{Agree, AllFollow, all_frame, all_take, all_put, all_clock, all_hardtick}
use Rattle.processor.specs.Left.{Left}
use Rattle.records.specs.Left.{Memory, mem}
use Rattle.records.specs.Rq.{record_at, arrival_of, put_of_def, insert_def, left_by_def, took_from_def, take_def, clock_def, hardtick_def}
use Rattle.represents.specs.QueueRead.{marks}
use Rattle.represents.proofs.Laws.Records.{marks_kept, marks_put, length_put}
use Rattle.represents.specs.Queue.{QueuesRep}

-- what a put is told of thread x
abbrev pub arriving : List Thread → ℕ → ℕ → Bool → Arrival
arriving ts x tick current = arrival_of (record_at ts x) x tick current

-- A take at CPU c where the rules ask for a: nobody comes out and nothing changes, or the thread that the rules hand out.
unfoldable pub TakenAs : ℕ → ℕ → List Thread → List (List ℕ) → (ℕ → QueueReading) → ℕ → Left (Option ℕ) Memory → Next → Type 0
TakenAs limit n ts cs Rs c d nobody = d ≡ record { answer = None; memory = mem ts cs }
TakenAs limit n ts cs Rs c d (next_in p b x) =
    (d.answer ≡ Some x) × QueuesRep limit n d.memory.threads d.memory.cpus (at Rs c (take_reading (marks ts).value (Rs c) p b))

-- ---- for proofs

well_eights : {limit : ℕ} {m : Marks} {q : RunQueue} {R : QueueReading} → QueueRep limit m q R → Eights q
unfolding nr_buckets
well_eights w = record {
  realtime_8 = record { heads_8 = w.realtime.shown.heads_full; tails_8 = w.realtime.shown.tails_full };
  priorities_8 = w.timeshare.priorities_full;
  timeshare_8 = record { heads_8 = w.timeshare.shown.heads_full; tails_8 = w.timeshare.shown.tails_full };
  idle_8 = record { heads_8 = w.idle.shown.heads_full; tails_8 = w.idle.shown.tails_full };
}

length_row : (row : List ℕ) (q : RunQueue) → length (queue_into row q) ≡ length row
unfolding queue_into stored_from
length_row row q = simp (length_place, length_lists)

behind_more : (n k : ℕ) (b : Option ℕ) → n ≤ k → Under n b → Under k b
unfolding Under
behind_more n k None h l = tt
behind_more n k (Some b) h l = omega arith

arrival_value : (t : Thread) (x tick : ℕ) (current : Bool) → (arrival_of t x tick current).priority.value < nr_values
unfolding arrival_of
arrival_value t x tick current = effective_below t

no_new : (z : ℕ) → has z (order new_reading.queue) ≡ false
unfolding has new_reading
no_new z = rw start_order

module _ (limit n : ℕ) (ts : List Thread) (cs : List (List ℕ)) (Rs : ℕ → QueueReading) (g : QueuesRep limit n ts cs Rs) where
  -- WHAT IS READ, COMPUTED
  pub reads_as : limit ≤ NONE → (c : ℕ) → c < n → reading limit (marks ts) (queue_at cs c) ≡ Rs c
  reads_as small c h = reading_is limit small (marks ts) (queue_at cs c) (Rs c) (g.shows.each c h)

  -- A FRAME: records and words may change that no queue asks for
  pub good_frame : (ts' : List Thread) (cs' : List (List ℕ)) → limit ≤ length ts' → n ≤ length cs' → ((c : ℕ) → c < n → 72 ≤ length (get_or cs' c []))
      → ((c : ℕ) → c < n → Agree (marks ts') (marks ts) (Rs c).queue) → ((c : ℕ) → c < n → queue_at cs' c ≡ queue_at cs c) → QueuesRep limit n ts' cs' Rs
  good_frame ts' cs' r k l a e = record {
    records = r;
    cpus = k;
    rows = l;
    shows = record {
      each = λ c h. rw (e c h) ((all_frame limit n (marks ts) (queue_at cs) Rs g.shows (marks ts') a).each c h);
      apart = g.shows.apart;
    };
  }

  module _ (c : ℕ) (cn : c < n) where
    -- one CPU's queue is stored
    stored : (ts' : List Thread) (q' : RunQueue) (Rs' : ℕ → QueueReading) → limit ≤ length ts' → AllQueuesRep limit n (marks ts') (at (queue_at cs) c q') Rs' → QueuesRep limit n ts' (queue_stored cs c q') Rs'
    stored ts' q' Rs' r w = record {
      records = r;
      cpus = rw (length_store cs c q') g.cpus;
      rows = λ d h. row d h;
      shows = record { each = λ d h. rw (same d h) (w.each d h); apart = w.apart };
    }
      where
        eights : QueueRep limit (marks ts') (at (queue_at cs) c q' c) (Rs' c) → Eights q'
        eights k = subst (λ (q : RunQueue). Eights q) (at_here (queue_at cs) c q') (well_eights k)

        same : (d : ℕ) → d < n → queue_at (queue_stored cs c q') d ≡ at (queue_at cs) c q' d
        same d h = both (eqb d c)
            (λ e. rw (eqb-true d c e, at_here (queue_at cs) c q') (queue_after_store cs c q' (omega (arith, g.cpus)) (g.rows c cn) (eights (w.each c cn))))
            (λ e. rw (at_there (queue_at cs) c q' d (eqb-false d c e)) (unfold queue_at in rw (queue_elsewhere cs c d q' (eqb-false d c e))))

        row : (d : ℕ) → d < n → 72 ≤ length (get_or (queue_stored cs c q') d [])
        row d h = both (eqb d c)
            (λ e. rw (eqb-true d c e) (unfold queue_stored in rw (get_or-set_same cs c (queue_into (get_or cs c []) q') [] (omega (arith, g.cpus)), length_row (get_or cs c []) q') (g.rows c cn)))
            (λ e. rw (queue_elsewhere cs c d q' (eqb-false d c e)) (g.rows d h))

    module _ (small : limit ≤ NONE) where
      -- A PUT of a thread that waits nowhere
      pub put_law : (x tick : ℕ) (current : Bool) → x < limit → ((d : ℕ) → d < n → waits Rs d x ≡ false)
          → (let d = insert_def c x tick current (mem ts cs) in
          QueuesRep limit n d.threads d.cpus (at Rs c (put_reading (Rs c) (arriving ts x tick current))))
      unfolding insert_def
      put_law x tick current xn free =
          let a : Arrival = arriving ts x tick current in
          let u : Put = put_of_def c x tick current (mem ts cs) in
          let xl : x < length ts = omega (arith, g.records) in
          let vn = arrival_value (record_at ts x) x tick current in
          let tn : a.thread < limit = unfold arrival_of in xn in
          let pin : (marks ts).pinned a.thread ≡ a.pinned = unfold arrival_of marks in refl in
          let fr : (d : ℕ) → d < n → waits Rs d a.thread ≡ false = unfold arrival_of in free in
          let k : Under (length ts) u.behind = behind_more limit (length ts) u.behind g.records (put_behind limit small (marks ts) (queue_at cs c) (Rs c) (g.shows.each c cn) a vn tn (fr c cn) pin) in
          let e : marks (insert_def c x tick current (mem ts cs)).threads ≡ marks_after (marks ts) u a = marks_put ts x xl u.part u.behind k ∙ (unfold marks_after arrival_of in refl) in
          stored (insert_def c x tick current (mem ts cs)).threads u.queue _ (rw (length_put ts x xl u.part u.behind) g.records)
          (subst (λ (m : Marks). AllQueuesRep limit n m (at (queue_at cs) c u.queue) (at Rs c (put_reading (Rs c) a))) (sym e)
          (all_put limit n (marks ts) (queue_at cs) Rs g.shows c cn small a vn tn pin fr))

      nothing_law : (a : Next) → a ≡ nobody → TakenAs limit n ts cs Rs c (took_from_def c None (mem ts cs)) a
      unfolding TakenAs took_from_def
      nothing_law a e = rw e

      some_law : (p : Part) (b x : ℕ) (a : Next) → a ≡ next_in p b x
          → AllQueuesRep limit n (marks ts) (at (queue_at cs) c (rq_taken (queue_at cs c) (front_at p b x) NONE ((marks ts).next x) ((marks ts).value x) ((marks ts).pinned x))) (at Rs c (take_reading (marks ts).value (Rs c) p b))
          → TakenAs limit n ts cs Rs c (took_from_def c (front_at p b x) (mem ts cs)) a
      unfolding TakenAs took_from_def
      some_law p b x a e w =
          let t : Thread = with_place (record_at ts x) RUNNING in
          let k : marks (set ts x t) ≡ marks ts = marks_kept ts x t (unfold with_place in refl) (reads_place (record_at ts x) RUNNING) in
          rw e (
            refl,
            stored (set ts x t) (left_by_def (queue_at cs c) (front_at p b x) (record_at ts x)) _ (rw (length-set ts x t) g.records)
                (subst (λ (m : Marks). AllQueuesRep limit n m (at (queue_at cs) c (left_by_def (queue_at cs c) (front_at p b x) (record_at ts x))) (at Rs c (take_reading (marks ts).value (Rs c) p b))) (sym k)
                (unfold left_by_def marks reads in w)),
          )

      -- A TAKE, the CPU's own or stealing
      pub take_law : (stealing : Bool) → TakenAs limit n ts cs Rs c (take_def c stealing (mem ts cs)) (asked (marks ts).pinned (Rs c).queue stealing)
      unfolding take_def
      take_law stealing = go (rq_front (queue_at cs c) stealing) (asked (marks ts).pinned (Rs c).queue stealing) (all_take limit n (marks ts) (queue_at cs) Rs g.shows c cn small stealing)
        where
          go : (f : Option Front) (a : Next) → AllFollow limit n (marks ts) (queue_at cs) Rs c f a → TakenAs limit n ts cs Rs c (took_from_def c f (mem ts cs)) a
          go None a e = nothing_law a (unfold AllFollow in e)
          go (Some f) a e = some_law f.part f.bucket f.thread a (unfold AllFollow in e.0) (unfold AllFollow in e.1)

      -- A CLOCK
      pub clock_law : QueuesRep limit n ts (clock_def c cs) (at Rs c (clock_reading (Rs c)))
      unfolding clock_def
      clock_law = stored ts (rq_clock (queue_at cs c)) _ g.records (all_clock limit n (marks ts) (queue_at cs) Rs g.shows c cn small)

      -- A HARD TICK: the queue, and the ticks since the last one
      pub hardtick_law : (now : ℕ) → QueuesRep limit n ts (hardtick_def c now cs).memory (at Rs c (hardtick_reading (Rs c) now))
      unfolding hardtick_def
      hardtick_law now = stored ts (rq_hardtick (queue_at cs c) now).queue _ g.records (all_hardtick limit n (marks ts) (queue_at cs) Rs g.shows c cn small now)

      pub ticks_law : (now : ℕ) → now < 2 ^ 64 → (Rs c).last_tick ≤ now → (hardtick_def c now cs).answer ≡ now - (Rs c).last_tick
      unfolding hardtick_def
      ticks_law now h l = hardtick_ticks limit small (marks ts) (queue_at cs c) (Rs c) (g.shows.each c cn) now h l

-- NEWLY MADE QUEUES: memory in which each CPU's words read as `RunQueue::new`
pub new_law : (limit n : ℕ) (ts : List Thread) (cs : List (List ℕ)) → limit ≤ length ts → n ≤ length cs → ((c : ℕ) → c < n → 72 ≤ length (get_or cs c []))
    → ((c : ℕ) → c < n → queue_at cs c ≡ no_run_queue) → QueuesRep limit n ts cs (λ c. new_reading)
new_law limit n ts cs r k l e = record {
  records = r;
  cpus = k;
  rows = l;
  shows = record {
    each = λ c h. rw (e c h) (new_well limit (marks ts));
    apart = λ c d z h j a b. absurd (false≢true (sym (no_new z) ∙ a));
  };
}
