-- A PUT AND A TAKE: what the definitions of the lent functions leave shows what `insert` and `take` of the rules leave.
use Rattle.std.specs.Prelude.{ℕ, ◌≤◌, ◌<◌, ◌≢◌, Bool, false, ◌||◌, List, [], ◌∷◌, length, set, eqb, Option, None, Some}
use Rattle.std.proofs.Math.Path.{◌≡◌, refl, sym, ap, subst}
use Rattle.std.proofs.Common.{◌∙◌, true≢false, length-set, eqb-true, eq-eqb, ne_eqb, arith}
use Rattle.std.proofs.Math.Bool.{true, cond}
use Rattle.std.proofs.lemmas.Bool.{false≢true, eqb-false}
use Rattle.rules.specs.declared.Part.{Part}
use Rattle.rules.specs.declared.Part.TheVariants as part
use Rattle.rules.specs.Line.{has}
use Rattle.rules.proofs.Laws.Line.{both}
use Rattle.rules.specs.Times as times
use Rattle.rules.specs.Times.{pinned, effective_priority, steadied}
use Rattle.rules.specs.declared.Priority.{Priority}
use Rattle.rules.specs.Puts.{PutOrTake, a_take}
use Rattle.rules.specs.Queue.{Queue, order, timeshare_line, highest_value, said_timeshare, said_after_take, Next, nobody, next_in, asked, leave, insert, is_timeshare, part_of, part_for, said_after_put}
use Rattle.rules.specs.State.{at, Limits, Topology, Cpu}
use Rattle.rules.specs.Schedule.{World, Got, with_cpu, with_thread, with_queue, noted, pinned_in, arrival, insert_thread, take_thread, handed_out}
use Rattle.rules.proofs.Laws.Sound.{at_here, at_there, New, Sound, take_taken}
use Rattle.rules.specs.Waits.{Under, waits}
use Rattle.rules.proofs.Laws.Sound as sound
use Rattle.rules.proofs.Laws.Kept.{asked_head}
use Rattle.rules.proofs.Laws.Held.{has_head}
use Rattle.thread.specs.declared.Thread.{Thread}
use Rattle.thread.specs.declared.place.Place.TheVariants as place
use Rattle.thread.specs.Reads.{reads}
use Rattle.thread.specs.Thread.{NONE, WAITING, RUNNING, with_place, with_next, with_stable}
use Rattle.thread.specs.Place.{place_in, reads_place, reads_next}
use Rattle.thread.specs.Priority.{stable_effective_priority, effective_below}
use Rattle.runqueue.specs.declared.rq.RunQueue.{RunQueue}
use Rattle.runqueue.specs.declared.rq.Arrival.{Arrival}
use Rattle.runqueue.specs.declared.rq.Front.{Front}
use Rattle.runqueue.specs.RunQueue.{front_at, rq_front, rq_insert, rq_insert_into, rq_insert_realtime, rq_insert_timeshare, rq_insert_idle}
use Rattle.processor.specs.Queue.{queue_at, queue_stored}
use Rattle.processor.proofs.Laws.Queue.{word_after_store, row_length_store}
use Rattle.represents.specs.Queue.{QueueReading}
use Rattle.represents.proofs.Laws.Readings.{put_reading, as_arrival, take_reading}
use Rattle.represents.proofs.Laws.Linked.{has_later}
use Rattle.represents.proofs.Laws.Operations.{put_has, in_ts, movable_same}
use Rattle.processor.specs.Left.{Left}
use Rattle.records.specs.Left.{mem, Memory}
use Rattle.records.specs.Rq.{record_at, arrival_of, steady_in, put_in_def, put_of_def, insert_def, left_by_def, took_from_def, take_def}
use Rattle.represents.specs.QueueRead.{marks}
use Rattle.represents.proofs.Laws.Records.{length_put, field_set, kept, put_reads, put_field}
use Rattle.represents.specs.Queue.{QueuesRep}
use Rattle.represents.proofs.Laws.System.{arriving, put_law, TakenAs, take_law}
use Rattle.represents.specs.World.{reading_of, WordsRep, place_at, Places, Small, WorldRep}
use Rattle.represents.proofs.Laws.Frames.{words_same, at_map, in_records, shows_alike, words_alike, places_moved}

pub fits : {limits : Limits} → Small limits → limits.threads ≤ NONE
fits small = omega (arith, small.threads)

-- ---- a queue is stored

-- what the words of a CPU show beside its queue stays
pub words_stored : {topology : Topology} (cs : List (List ℕ)) (c d : ℕ) (q : RunQueue) (p : Cpu) → WordsRep topology cs d p → WordsRep topology (queue_stored cs c q) d p
words_stored cs c d q p s = words_same (λ u h l. word_after_store cs c d q u (omega arith)) s

-- a CPU with another queue has the same other fields
pub words_queue : {topology : Topology} (cs : List (List ℕ)) (c : ℕ) (p : Cpu) (q : Queue) (said : _) → WordsRep topology cs c p → WordsRep topology cs c (with_queue p q said)
unfolding with_queue
words_queue cs c p q said s = words_alike p (with_queue p q said) refl refl refl refl refl refl refl refl refl s

-- the queue of one CPU is stored, and with it records may have changed
module _ {limits : Limits} {topology : Topology} {known active : ℕ → Bool} {ts : List Thread} {cs : List (List ℕ)} {w : World} (s : WorldRep limits topology known active ts cs w) where
  pub shows_stored : {active' : ℕ → Bool} (c : ℕ) (ts' : List Thread) (q : RunQueue) (p : Cpu) (v : World) → v.cpus ≡ at w.cpus c p → length ts' ≡ length ts
      → QueuesRep limits.threads limits.cpus ts' (queue_stored cs c q) (at (λ d. reading_of (w.cpus d)) c (reading_of p))
      → WordsRep topology cs c p → ((x : ℕ) → x < limits.threads → reads (record_at ts' x) ≡ v.threads x)
      → ((x : ℕ) → x < limits.threads → Under limits.cpus (v.threads x).queue_cpu) → Places limits.threads known active' ts' v
      → WorldRep limits topology known active' ts' (queue_stored cs c q) v
  shows_stored c ts' q p v e n g k t u l = record {
    queues = subst (λ (Rs : ℕ → QueueReading). QueuesRep limits.threads limits.cpus ts' (queue_stored cs c q) Rs)
        (λ i d. (at_map reading_of w.cpus c p d ∙ ap (λ (f : ℕ → Cpu). reading_of (f d)) (sym e)) i) g;
    none_past = rw n s.none_past;
    rows = λ d h. row_length_store cs c d q ∙ s.rows d h;
    threads = t;
    queue_cpus = u;
    words = λ d h. subst (λ (f : ℕ → Cpu). WordsRep topology (queue_stored cs c q) d (f d)) (sym e) (both (eqb d c)
        (λ r. rw (eqb-true d c r, at_here w.cpus c p) (words_stored cs c c q p k))
        (λ r. rw (at_there w.cpus c p d (eqb-false d c r)) (words_stored cs c d q (w.cpus d) (s.words d h))));
    places = l;
  }

-- ---- the records that a put writes

put_part : (q : RunQueue) (a : Arrival) → (rq_insert q a).part ≡ part_of a.priority.class a.due
unfolding rq_insert
put_part q a = go (part_of a.priority.class a.due)
  where
    go : (p : Part) → (rq_insert_into p q a).part ≡ p
    go part.Realtime = unfold rq_insert_into rq_insert_realtime in refl
    go part.Timeshare = unfold rq_insert_into rq_insert_timeshare in refl
    go part.Idle = unfold rq_insert_into rq_insert_idle in refl

put_place : (t : Thread) (p : Part) → (put_in_def t p).place ≡ WAITING
unfolding put_in_def steady_in with_next with_place stable_effective_priority with_stable
put_place t part.Realtime = refl
put_place t part.Timeshare = refl
put_place t part.Idle = refl

steady_home : (n : ℕ) (b : Bool) (t : times.Thread) → Under n t.queue_cpu → Under n (cond b (steadied t) t).queue_cpu
unfolding steadied
steady_home n true t h = h
steady_home n false t h = h

-- ---- a put

module _ (limits : Limits) (topology : Topology) (tick us : ℕ) (known : ℕ → Bool) (numbered : (x : ℕ) → known x ≡ true → x < limits.threads) (small : Small limits) where
  -- what a put is told, and what its queue then reads as
  put_as : (r : Thread) (p : Cpu) (x : ℕ) (current : Bool)
      → put_reading (reading_of p) (arrival_of r x tick current)
      ≡ reading_of (with_queue p (insert p.queue (arrival limits topology tick us (reads r) x current)) (said_after_put p.advertised (effective_priority (reads r))))
  unfolding put_reading reading_of with_queue as_arrival arrival_of arrival reads
  put_as r p x current = refl

  module _ {active but : ℕ → Bool} {ts : List Thread} {cs : List (List ℕ)} {w : World} (s : WorldRep limits topology known active ts cs w) (c x : ℕ) (n : New limits known but w c x) (current : Bool) where
    abbrev there : Cpu
    there = with_queue (w.cpus c) (insert (w.cpus c).queue (arrival limits topology tick us (w.threads x) x current)) (said_after_put (w.cpus c).advertised (effective_priority (w.threads x)))

    abbrev below : x < limits.threads
    below = numbered x n.is_known

    read_there : put_reading (reading_of (w.cpus c)) (arriving ts x tick current) ≡ reading_of there
    read_there =
        put_as (record_at ts x) (w.cpus c) x current
        ∙ ap (λ (t : times.Thread). reading_of (with_queue (w.cpus c) (insert (w.cpus c).queue (arrival limits topology tick us t x current)) (said_after_put (w.cpus c).advertised (effective_priority t))))
        (s.threads x below)

    thread_there : (let a = arrival_of (record_at ts x) x tick current in
        reads (put_in_def (record_at ts x) (put_of_def c x tick current (mem ts cs)).part)
        ≡ cond (is_timeshare (part_for (arrival limits topology tick us (w.threads x) x current))) (steadied (w.threads x)) (w.threads x))
    unfolding part_for arrival arrival_of reads
    thread_there =
        put_reads (record_at ts x) (put_of_def c x tick current (mem ts cs)).part
        ∙ ap (λ (p : Part). cond (is_timeshare p) (steadied (reads (record_at ts x))) (reads (record_at ts x))) (put_part _ (arrival_of (record_at ts x) x tick current))
        ∙ ap (λ (t : times.Thread). cond (is_timeshare (part_for (arrival limits topology tick us t x current))) (steadied t) t) (s.threads x below)

    nobody_reads : (d : ℕ) → d < limits.cpus → has x (order (reading_of (w.cpus d)).queue) ≡ false
    unfolding reading_of
    nobody_reads d h = n.nowhere d

    abbrev v : World
    v = insert_thread limits topology tick us w c x current

    waits_here : (z : ℕ) → waits v c z ≡ (eqb x z || waits w c z)
    unfolding insert_thread noted with_thread with_cpu reading_of arrival_of
    waits_here z =
        ap (λ (p : Cpu). has z (order p.queue)) (at_here w.cpus c there)
        ∙ ap (λ (R : QueueReading). has z (order R.queue)) (sym read_there)
        ∙ put_has limits.threads (fits small) (marks ts) (queue_at cs c) (reading_of (w.cpus c)) (s.queues.shows.each c n.near) (arriving ts x tick current)
        (effective_below (record_at ts x)) below (n.nowhere c) (unfold marks in refl) z

    waits_there : (d z : ℕ) → d ≢ c → waits v d z ≡ waits w d z
    unfolding insert_thread noted with_thread with_cpu
    waits_there d z h = ap (λ (p : Cpu). has z (order p.queue)) (at_there w.cpus c there d h)

    -- who is not the thread put in waits as before
    waits_still : (d z : ℕ) → z ≢ x → waits v d z ≡ waits w d z
    waits_still d z h = both (eqb d c) (λ e. rw (eqb-true d c e, waits_here z, ne_eqb x z (λ k. h (sym k)))) (λ e. waits_there d z (eqb-false d c e))

    put_place_at : (z : ℕ) → place_at (insert_def c x tick current (mem ts cs)).threads z ≡ cond (eqb z x) place.Waiting (place_at ts z)
    unfolding insert_def place_in with_next
    put_place_at z =
        put_field ts x (in_records s x below) (put_of_def c x tick current (mem ts cs)).part (put_of_def c x tick current (mem ts cs)).behind (λ (u : Thread). place_in u.place) (λ t m. refl) z
        ∙ both (eqb z x) (λ e. rw (e, put_place (record_at ts x) (put_of_def c x tick current (mem ts cs)).part)) (λ e. rw e)

    put_places : Places limits.threads known (at active x false) (insert_def c x tick current (mem ts cs)).threads v
    put_places =
        places_moved x place.Waiting put_place_at n.is_known (λ z h. refl) (λ z h. at_there active x false z h) waits_still (λ d h. refl)
        (λ h. absurd (false≢true (sym (at_here active x false) ∙ h))) (λ a f. absurd (true≢false (sym (waits_here x ∙ rw (eq-eqb x x refl)) ∙ f c))) s.places

    -- PUT
    pub shows_insert : (let d = insert_def c x tick current (mem ts cs) in
        WorldRep limits topology known (at active x false) d.threads d.cpus (insert_thread limits topology tick us w c x current))
    unfolding insert_def insert_thread noted with_thread with_cpu
    shows_insert =
        shows_stored s c (insert_def c x tick current (mem ts cs)).threads (put_of_def c x tick current (mem ts cs)).queue there v refl (length_put ts x (in_records s x below) (put_of_def c x tick current (mem ts cs)).part (put_of_def c x tick current (mem ts cs)).behind)
        (subst (λ (R : QueueReading). QueuesRep limits.threads limits.cpus (insert_def c x tick current (mem ts cs)).threads (insert_def c x tick current (mem ts cs)).cpus (at (λ d. reading_of (w.cpus d)) c R)) read_there
        (put_law limits.threads limits.cpus ts cs (λ y. reading_of (w.cpus y)) s.queues c n.near (fits small) x tick current below nobody_reads))
        (words_queue cs c (w.cpus c) _ _ (s.words c n.near))
        (λ z h. put_field ts x (in_records s x below) (put_of_def c x tick current (mem ts cs)).part (put_of_def c x tick current (mem ts cs)).behind reads reads_next z
        ∙ (unfold at in both (eqb z x) (λ e. rw e thread_there) (λ e. rw e (s.threads z h))))
        (λ z h. unfold at in both (eqb z x) (λ e. rw e (steady_home limits.cpus (is_timeshare (part_for (arrival limits topology tick us (w.threads x) x current))) (w.threads x) (s.queue_cpus x below))) (λ e. rw e (s.queue_cpus z h)))
        put_places

-- ---- what a take asks of the records

-- only of those who wait
highest_same : (f g : ℕ → ℕ) (l : List ℕ) → ((z : ℕ) → has z l ≡ true → f z ≡ g z) → highest_value f l ≡ highest_value g l
unfolding highest_value
highest_same f g [] h = refl
highest_same f g (x ∷ l) h = rw (h x (has_head x l), highest_same f g l (λ z k. h z (has_later z x l k)))

asked_same : (f g : ℕ → Bool) (Q : Queue) (stealing : Bool) → ((z : ℕ) → has z (order Q) ≡ true → f z ≡ g z) → asked f Q stealing ≡ asked g Q stealing
unfolding asked
asked_same f g Q stealing h = rw (movable_same f g (order Q) h)

said_same : (p : Part) (f g : ℕ → ℕ) (said : Priority) (Q : Queue) → ((z : ℕ) → has z (order Q) ≡ true → f z ≡ g z) → said_after_take p f said Q ≡ said_after_take p g said Q
unfolding said_after_take said_timeshare
said_same part.Realtime f g said Q h = refl
said_same part.Timeshare f g said Q h = rw (highest_same f g (timeshare_line Q) (λ z k. h z (in_ts Q z k)))
said_same part.Idle f g said Q h = refl

-- ---- a take

-- the threads active once somebody was handed out
unfoldable pub active_with : (ℕ → Bool) → Option ℕ → ℕ → Bool
active_with active None = active
active_with active (Some x) = at active x true

-- a take answers what the rules hand out, and leaves what the rules leave
pub record TakeShows (limits : Limits) (topology : Topology) (known active : ℕ → Bool) (d : Left (Option ℕ) Memory) (g : Got) : Type 0 where
  pub answer : d.answer ≡ g.got
  pub left : WorldRep limits topology known (active_with active g.got) d.memory.threads d.memory.cpus g.world

module _ (limits : Limits) (topology : Topology) (tick us : ℕ) (known : ℕ → Bool) (numbered : (x : ℕ) → known x ≡ true → x < limits.threads) (small : Small limits) (H : ℕ → List PutOrTake) where
  module _ {active but : ℕ → Bool} {ts : List Thread} {cs : List (List ℕ)} {w : World} (s : WorldRep limits topology known active ts cs w) (safe : Sound limits known H but w) (c : ℕ) (near : c < limits.cpus) where
    abbrev Q : Queue
    Q = (w.cpus c).queue

    line_in : (z : ℕ) → has z (order Q) ≡ true → z < limits.threads
    line_in z h = numbered z (safe.placed c z h).1

    pins_same : (z : ℕ) → has z (order Q) ≡ true → (marks ts).pinned z ≡ pinned (w.threads z)
    unfolding marks
    pins_same z h = ap pinned (s.threads z (line_in z h))

    values_same : (z : ℕ) → has z (order Q) ≡ true → (marks ts).value z ≡ (w.threads z).stable.value
    unfolding marks
    values_same z h = ap (λ (t : times.Thread). t.stable.value) (s.threads z (line_in z h))

    module _ (stealing : Bool) where
      module _ (p : Part) (b x : ℕ) (a : asked (pinned_in w) Q stealing ≡ next_in p b x) where
        abbrev got : Got
        got = handed_out limits topology tick us w c stealing (next_in p b x)

        abbrev left_cpu : Cpu
        left_cpu = with_queue (w.cpus c) (leave p Q b) (said_after_take p (λ y. (w.threads y).stable.value) (w.cpus c).advertised (leave p Q b))

        kept_taken : sound.Taken limits topology tick us known numbered H but w got
        unfolding take_thread
        kept_taken = subst (λ (n : Next). sound.Taken limits topology tick us known numbered H but w (handed_out limits topology tick us w c stealing n)) a
            (take_taken limits topology tick us known numbered H but w c stealing safe)

        line_was : (z : ℕ) → has z (order Q) ≡ (eqb x z || has z (order (leave p Q b)))
        unfolding has
        line_was z = rw (asked_head (pinned_in w) Q stealing p b x (safe.kept c).fits.shape a).first (both (eqb x z) (λ e. rw e) (λ e. rw e))

        was_there : (z : ℕ) → has z (order (leave p Q b)) ≡ true → has z (order Q) ≡ true
        was_there z h = line_was z ∙ rw h (both (eqb x z) (λ e. rw e) (λ e. rw e))

        was_in : x < limits.threads
        was_in = line_in x (line_was x ∙ rw (eq-eqb x x refl))

        read_left : take_reading (marks ts).value (reading_of (w.cpus c)) p b ≡ reading_of left_cpu
        unfolding take_reading reading_of with_queue
        read_left =
            ap (λ (said : Priority). reading_of (with_queue (w.cpus c) (leave p Q b) said))
            (said_same p (marks ts).value (λ y. (w.threads y).stable.value) (w.cpus c).advertised (leave p Q b) (λ z h. values_same z (was_there z h)))

        left_waits : (d z : ℕ) → z ≢ x → waits got.world d z ≡ waits w d z
        unfolding handed_out noted with_cpu with_queue
        left_waits d z h =
            both (eqb d c)
            (λ e. rw (eqb-true d c e) (ap (λ (u : Cpu). has z (order u.queue)) (at_here w.cpus c left_cpu) ∙ sym (line_was z ∙ rw (ne_eqb x z (λ k. h (sym k))))))
            (λ e. ap (λ (u : Cpu). has z (order u.queue)) (at_there w.cpus c left_cpu d (eqb-false d c e)))

        abbrev running_now : List Thread
        running_now = set ts x (with_place (record_at ts x) RUNNING)

        take_place_at : (z : ℕ) → place_at running_now z ≡ cond (eqb z x) place.Running (place_at ts z)
        unfolding place_in with_place
        take_place_at z = field_set (λ (u : Thread). place_in u.place) ts x (with_place (record_at ts x) RUNNING) z (in_records s x was_in)

        take_places : Places limits.threads known (at active x true) running_now got.world
        take_places =
            places_moved x place.Running take_place_at (kept_taken.handed_known x (unfold handed_out in refl)) (λ z h. refl) (λ z h. at_there active x true z h) left_waits
            (λ d h. absurd (true≢false (sym h ∙ kept_taken.handed_free x (unfold handed_out in refl) d))) (λ h. refl) (λ a f. absurd (true≢false (sym (at_here active x true) ∙ a))) s.places

        some_shows : (p' : Part) (b' : ℕ)
            → QueuesRep limits.threads limits.cpus (took_from_def c (front_at p' b' x) (mem ts cs)).memory.threads (took_from_def c (front_at p' b' x) (mem ts cs)).memory.cpus
            (at (λ d. reading_of (w.cpus d)) c (take_reading (marks ts).value (reading_of (w.cpus c)) p b))
            → TakeShows limits topology known active (took_from_def c (front_at p' b' x) (mem ts cs)) got
        unfolding took_from_def handed_out active_with noted with_cpu
        some_shows p' b' g = record {
          answer = refl;
          left =
              shows_stored s c running_now (left_by_def (queue_at cs c) (front_at p' b' x) (record_at ts x)) left_cpu got.world refl (length-set ts x (with_place (record_at ts x) RUNNING))
              (subst (λ (R : QueueReading). QueuesRep limits.threads limits.cpus running_now (queue_stored cs c (left_by_def (queue_at cs c) (front_at p' b' x) (record_at ts x))) (at (λ d. reading_of (w.cpus d)) c R)) read_left g)
              (words_queue cs c (w.cpus c) _ _ (s.words c near))
              (λ z h. kept reads ts x (with_place (record_at ts x) RUNNING) z (reads_place (record_at ts x) RUNNING) ∙ s.threads z h)
              s.queue_cpus
              take_places;
        }

      none_shows : TakeShows limits topology known active (took_from_def c None (mem ts cs)) (handed_out limits topology tick us w c stealing nobody)
      unfolding took_from_def handed_out active_with noted
      none_shows = record {
        answer = refl;
        left = shows_alike w (noted w c (a_take stealing None)) (λ d. refl) (λ x. refl) s;
      }

      go : (f : Option Front) (n : Next) → asked (pinned_in w) Q stealing ≡ n → TakenAs limits.threads limits.cpus ts cs (λ d. reading_of (w.cpus d)) c (took_from_def c f (mem ts cs)) n
          → TakeShows limits topology known active (took_from_def c f (mem ts cs)) (handed_out limits topology tick us w c stealing n)
      unfolding TakenAs took_from_def
      go None nobody a e = none_shows
      go None (next_in p b x) a e = let z : ◌≡◌ {A = Option ℕ} None (Some x) = e.0 in let y : ◌≡◌ {A = ℕ} 0 1 = cc in absurd (omega arith)
      go (Some f) nobody a e = let z : ◌≡◌ {A = Option ℕ} (Some f.thread) None = ap (λ (d : Left (Option ℕ) Memory). d.answer) e in let y : ◌≡◌ {A = ℕ} 0 1 = cc in absurd (omega arith)
      go (Some f) (next_in p b x) a e =
          let z : ◌≡◌ {A = Option ℕ} (Some f.thread) (Some x) = e.0 in
          let y : f.thread ≡ x = cc in
          subst (λ (u : ℕ). TakeShows limits topology known active (took_from_def c (Some f) (mem ts cs)) (handed_out limits topology tick us w c stealing (next_in p b u))) y
          (some_shows p b f.thread (a ∙ ap (next_in p b) (sym y)) f.part f.bucket e.1)

      asked_as : asked (marks ts).pinned (reading_of (w.cpus c)).queue stealing ≡ asked (pinned_in w) Q stealing
      unfolding reading_of
      asked_as = asked_same (marks ts).pinned (pinned_in w) Q stealing pins_same

      -- TAKE
      pub shows_take : TakeShows limits topology known active (take_def c stealing (mem ts cs)) (take_thread limits topology tick us w c stealing)
      unfolding take_def take_thread
      shows_take = go (rq_front (queue_at cs c) stealing) (asked (pinned_in w) Q stealing) refl
          (subst (λ (n : Next). TakenAs limits.threads limits.cpus ts cs (λ d. reading_of (w.cpus d)) c (take_def c stealing (mem ts cs)) n) asked_as
          (take_law limits.threads limits.cpus ts cs (λ d. reading_of (w.cpus d)) s.queues c near (fits small) stealing))
