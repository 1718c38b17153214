-- THE MEMORY THAT THE SCHEDULER WRITES: records below 1,024, and of the rows below 64 the words of the run queue and the ten words beside it. What
-- a record or a word is written, what stays, and that every number of a thread or a CPU in the memory then stays small.
use Rattle.std.specs.Prelude.{ℕ, zero, suc, ◌+◌, ◌-◌, ◌%◌, ◌≤◌, ◌<◌, ◌≡◌, refl, ◌≢◌, ◌⊎◌, Bool, cond, List, [], length, get_or, set, eqb, ltb}
use Rattle.std.proofs.Common.{sym, ap, subst, ◌∙◌, inl, inr, arith, length-set, get_or-set_same, get_or-set_other, eqb-true, ltb-true, ltb-false}
use Rattle.std.proofs.Math.Seq.{set_out}
use Rattle.std.proofs.lemmas.Bool.{eqb-false}
use Rattle.rules.proofs.Laws.Line.{both, of_either}
use Rattle.thread.specs.declared.Thread.{Thread}
use Rattle.thread.specs.Thread.{blank, NONE}
use Rattle.runqueue.specs.declared.rq.RunQueue.{RunQueue}
use Rattle.processor.specs.Words.{width, word, put_word}
use Rattle.processor.proofs.Laws.Words.{length_put, word_put_same, word_put_other, row_put_other, put_row_other, row_length_put}
use Rattle.processor.specs.Word.{RUNNING}
use Rattle.processor.specs.Window.{load_n, place_n, length_place, load_at, place_at}
use Rattle.processor.specs.Queue.{lists_at, built_of, queue_from, first_eight, last_two, lists_stored_def, stored_from, queue_in_def, queue_into, queue_at, queue_stored}
use Rattle.processor.proofs.Laws.Queue.{length_lists, queue_after_store, queue_elsewhere, word_after_store, queue_after_put, row_length_store, length_store}
use Rattle.processor.specs.Left.{Left}
use Rattle.records.specs.Left.{Memory, mem}
use Rattle.records.specs.Rq.{record_at}
use Rattle.command_laws.specs.Links.{Link, QueueInRange}
use Rattle.command_laws.proofs.Links.{orderly_eights}
use Rattle.command_laws.specs.InRange.{InRange, Rows, StaysInRange, ThreadInRange, Zeros}

pub rows_none : (cs : List (List ℕ)) → Rows cs cs
rows_none cs = record { as_many = refl; as_long = λ c. refl; past = λ c h. refl; words = λ c w h l. refl }

pub rows_then : {cs cs' cs'' : List (List ℕ)} → Rows cs cs' → Rows cs' cs'' → Rows cs cs''
rows_then a b = record {
  as_many = b.as_many ∙ a.as_many;
  as_long = λ c. b.as_long c ∙ a.as_long c;
  past = λ c h. b.past c h ∙ a.past c h;
  words = λ c w h l. b.words c w h l ∙ a.words c w h l;
}

pub rows_put : (cs : List (List ℕ)) (c w v : ℕ) → c < 64 → w < 82 → Rows cs (put_word cs c w v)
rows_put cs c w v h b = record {
  as_many = length_put cs c w v;
  as_long = λ d. row_length_put cs c d w v;
  past = λ d l. row_put_other cs c d w v (λ e. omega arith);
  words = λ d u l m. put_row_other cs c d w u v (λ e. omega arith);
}

pub rows_store : (cs : List (List ℕ)) (c : ℕ) (q : RunQueue) → c < 64 → Rows cs (queue_stored cs c q)
unfolding word
rows_store cs c q h = record {
  as_many = length_store cs c q;
  as_long = λ d. row_length_store cs c d q;
  past = λ d l. queue_elsewhere cs c d q (λ e. omega arith);
  words = λ d w l m. let e : w % width ≡ w = omega arith in rw e at (word_after_store cs c d q w (omega arith));
}

pub zeros_put : (cs : List (List ℕ)) (c d w v : ℕ) → 72 ≤ w → w < 82 → Zeros cs d → Zeros (put_word cs c w v) d
zeros_put cs c d w v a b z u l m = put_row_other cs c d w u v (λ e. omega arith) ∙ z u l m

last_zeros : (q : RunQueue) (j : ℕ) → 2 ≤ j → get_or (last_two q) j 0 ≡ 0
unfolding last_two
last_zeros q zero h = absurd (omega arith)
last_zeros q (suc zero) h = absurd (omega arith)
last_zeros q (suc (suc zero)) h = refl
last_zeros q (suc (suc (suc zero))) h = refl
last_zeros q (suc (suc (suc (suc zero)))) h = refl
last_zeros q (suc (suc (suc (suc (suc zero))))) h = refl
last_zeros q (suc (suc (suc (suc (suc (suc zero)))))) h = refl
last_zeros q (suc (suc (suc (suc (suc (suc (suc zero))))))) h = refl
last_zeros q (suc (suc (suc (suc (suc (suc (suc (suc j)))))))) h = refl

stored_zeros : (row : List ℕ) (q : RunQueue) (w : ℕ) → 72 ≤ length row → 66 ≤ w → w < 72 → get_or (stored_from row 0 q) w 0 ≡ 0
unfolding stored_from
stored_zeros row q w r h l =
    let before : List ℕ =
    place_n (lists_stored_def (lists_stored_def (place_n (lists_stored_def row 0 q.realtime.queues) (0 + 16) q.timeshare.priorities 8) (0 + 24) q.timeshare.queues) (0 + 40) q.idle.queues) (0 + 56) (first_eight q) 8 in
    let long : length before ≡ length row =
    length_place _ (0 + 56) (first_eight q) 8 ∙ length_lists _ (0 + 40) q.idle.queues ∙ length_lists _ (0 + 24) q.timeshare.queues
    ∙ length_place _ (0 + 16) q.timeshare.priorities 8 ∙ length_lists row 0 q.realtime.queues in
    let e : w ≡ 64 + (w - 64) = omega arith in
    subst (λ (i : ℕ). get_or (place_n before 64 (last_two q) 8) i 0 ≡ 0) (sym e)
    (place_at before 64 (last_two q) 8 (w - 64) (omega arith) (omega arith) ∙ last_zeros q (w - 64) (omega arith))

pub zeros_here : (cs : List (List ℕ)) (c : ℕ) (q : RunQueue) → c < length cs → 72 ≤ length (get_or cs c []) → Zeros (queue_stored cs c q) c
unfolding queue_stored queue_into
zeros_here cs c q h r w l m = rw (get_or-set_same cs c (stored_from (get_or cs c []) 0 q) [] h) (stored_zeros (get_or cs c []) q w r l m)

pub zeros_there : (cs : List (List ℕ)) (c d : ℕ) (q : RunQueue) → d ≢ c → Zeros cs d → Zeros (queue_stored cs c q) d
zeros_there cs c d q n z w l m = rw (queue_elsewhere cs c d q n) (z w l m)

-- ---- the heads and tails of the buckets, in the words of a CPU

eight_from : (row : List ℕ) (o w : ℕ) → o ≤ w → w < o + 8 → ((b : ℕ) → Link (get_or (load_n row o 8 8) b 0)) → Link (get_or row w 0)
eight_from row o w h l k =
    let e : o + (w - o) ≡ w = omega arith in
    subst (λ (i : ℕ). Link (get_or row i 0)) e (subst Link (load_at row o 8 8 (w - o) (omega arith) (omega arith)) (k (w - o)))

ends_in : (row : List ℕ) (w : ℕ) → QueueInRange (queue_in_def row) → (w < 16) ⊎ ((24 ≤ w) × (w < 56)) → Link (get_or row w 0)
unfolding queue_in_def queue_from lists_at built_of
ends_in row w o (inl h) =
    both (ltb w 8)
    (λ e. eight_from row 0 w (omega arith) (ltb-true w 8 e) o.realtime.heads)
    (λ e. eight_from row 8 w (ltb-false w 8 e) h o.realtime.tails)
ends_in row w o (inr h) =
    both (ltb w 32)
    (λ e. eight_from row 24 w h.0 (ltb-true w 32 e) o.timeshare.heads)
    (λ e. both (ltb w 40)
    (λ f. eight_from row 32 w (ltb-false w 32 e) (ltb-true w 40 f) o.timeshare.tails)
    (λ f. both (ltb w 48)
    (λ g. eight_from row 40 w (ltb-false w 40 f) (ltb-true w 48 g) o.idle.heads)
    (λ g. eight_from row 48 w (ltb-false w 48 g) h.1 o.idle.tails)))

pub tame_ends : {m : Memory} → InRange m → (c w : ℕ) → c < 64 → (w < 16) ⊎ ((24 ≤ w) × (w < 56)) → Link (get_or (get_or m.cpus c []) w 0)
unfolding queue_at
tame_ends {m} t c w h i = ends_in (get_or m.cpus c []) w (t.queues c h) i

pub goes_none : {m : Memory} → InRange m → StaysInRange m m
goes_none {m} t = record { tame = t; as_many = refl; past = λ x h. refl; rows = rows_none m.cpus }

pub goes_then : {m n p : Memory} → StaysInRange m n → StaysInRange n p → StaysInRange m p
goes_then a b = record { tame = b.tame; as_many = b.as_many ∙ a.as_many; past = λ x h. b.past x h ∙ a.past x h; rows = rows_then a.rows b.rows }

-- one of two
pub goes_either : {m : Memory} {A : Type 0} (t : Bool) (a b : Left A Memory) → StaysInRange m a.memory → StaysInRange m b.memory → StaysInRange m (cond t a b).memory
goes_either {m} {A} t a b g h = of_either (λ (d : Left A Memory). StaysInRange m d.memory) t a b g h

-- A RECORD IS WRITTEN
pub goes_record : (ts : List Thread) (cs : List (List ℕ)) (x : ℕ) (t : Thread) → InRange (mem ts cs) → Link x → ThreadInRange t → StaysInRange (mem ts cs) (mem (set ts x t) cs)
goes_record ts cs x t k l d = record {
  tame = record {
    none_past = rw (length-set ts x t) k.none_past;
    records = λ z. both (eqb z x)
        (λ e. both (ltb x (length ts))
        (λ i. subst ThreadInRange (sym (ap (λ (y : ℕ). record_at (set ts x t) y) (eqb-true z x e) ∙ get_or-set_same ts x t blank (ltb-true _ _ i))) d)
        (λ i. subst (λ (us : List Thread). ThreadInRange (record_at us z)) (sym (set_out ts x t (ltb-false _ _ i))) (k.records z)))
        (λ e. subst ThreadInRange (sym (get_or-set_other ts x z t blank (eqb-false z x e))) (k.records z));
    cpus = k.cpus;
    rows = k.rows;
    queues = k.queues;
    running = k.running;
    zeros = k.zeros;
  };
  as_many = length-set ts x t;
  past = λ z h. both (eqb z x)
      (λ e. let y : z ≡ x = eqb-true z x e in ap (λ (us : List Thread). record_at us z) (set_out ts x t (let n : x ≡ NONE = l (omega arith) in omega (arith, k.none_past))))
      (λ e. get_or-set_other ts x z t blank (eqb-false z x e));
  rows = rows_none cs;
}

-- A WORD BESIDE THE QUEUE IS WRITTEN
running_put : (cs : List (List ℕ)) (c d w v : ℕ) → c < length cs → length (get_or cs c []) ≡ width → w < width → (w ≡ RUNNING → Link v) → Link (word cs d RUNNING) → Link (word (put_word cs c w v) d RUNNING)
running_put cs c d w v h r b l k =
    both (eqb w RUNNING)
    (λ e. both (eqb d c)
    (λ f. rw (eqb-true w RUNNING e, eqb-true d c f, word_put_same cs c RUNNING v h (omega arith)) (l (eqb-true w RUNNING e)))
    (λ f. rw (word_put_other cs c d w RUNNING v (λ q s. eqb-false d c f s)) k))
    (λ e. rw (word_put_other cs c d w RUNNING v (λ q s. eqb-false w RUNNING e (omega arith))) k)

pub goes_word : (ts : List Thread) (cs : List (List ℕ)) (c w v : ℕ) → InRange (mem ts cs) → c < 64 → 72 ≤ w → w < 82 → (w ≡ RUNNING → Link v) → StaysInRange (mem ts cs) (mem ts (put_word cs c w v))
goes_word ts cs c w v k h a b l = record {
  tame = record {
    none_past = k.none_past;
    records = k.records;
    cpus = rw (length_put cs c w v) k.cpus;
    rows = λ d i. row_length_put cs c d w v ∙ k.rows d i;
    queues = λ d i. subst QueueInRange (sym (queue_after_put cs c d w v (omega arith))) (k.queues d i);
    running = λ d i. running_put cs c d w v (omega (arith, k.cpus)) (k.rows c h) (omega arith) l (k.running d i);
    zeros = λ d i. zeros_put cs c d w v a b (k.zeros d i);
  };
  as_many = refl;
  past = λ x i. refl;
  rows = rows_put cs c w v h b;
}

-- A QUEUE IS STORED
other_queue : (cs : List (List ℕ)) (c d : ℕ) (q : RunQueue) → d ≢ c → queue_at (queue_stored cs c q) d ≡ queue_at cs d
unfolding queue_at
other_queue cs c d q n = ap queue_in_def (queue_elsewhere cs c d q n)

pub goes_queue : (ts : List Thread) (cs : List (List ℕ)) (c : ℕ) (q : RunQueue) → InRange (mem ts cs) → c < 64 → QueueInRange q → StaysInRange (mem ts cs) (mem ts (queue_stored cs c q))
goes_queue ts cs c q k h o =
    let there : c < length cs = omega (arith, k.cpus) in
    let long : 72 ≤ length (get_or cs c []) = omega (arith, k.rows c h) in
    record {
      tame = record {
        none_past = k.none_past;
        records = k.records;
        cpus = rw (length_store cs c q) k.cpus;
        rows = λ d i. row_length_store cs c d q ∙ k.rows d i;
        queues = λ d i. both (eqb d c)
            (λ e. subst QueueInRange (sym (ap (queue_at (queue_stored cs c q)) (eqb-true d c e) ∙ queue_after_store cs c q there long (orderly_eights o))) o)
            (λ e. subst QueueInRange (sym (other_queue cs c d q (eqb-false d c e))) (k.queues d i));
        running = λ d i. rw (word_after_store cs c d q RUNNING (omega arith)) (k.running d i);
        zeros = λ d i. both (eqb d c)
            (λ e. subst (Zeros (queue_stored cs c q)) (sym (eqb-true d c e)) (zeros_here cs c q there long))
            (λ e. zeros_there cs c d q (eqb-false d c e) (k.zeros d i));
      };
      as_many = refl;
      past = λ x i. refl;
      rows = rows_store cs c q h;
    }
