-- THE RECORDS: what run queues ask of a list of thread records, and that the writes of a put and of a take are those of Readings.antt.
use Rattle.std.specs.Prelude.{ℕ, ◌<◌, ◌≡◌, refl, cond, List, length, set, ltb, Option, None, Some}
use Rattle.std.proofs.Math.Path.{ap}
use Rattle.std.proofs.Common.{◌∙◌, get_or-set_same, get_or-set_other}
use Rattle.std.proofs.Math.ListN.{length-set}
use Rattle.std.proofs.Math.Seq.{set_out}
use Rattle.std.proofs.Math.Dec.{eqb}
use borrow.Author.Tests.{eqb-true, eqb-false, ltb-true, ltb-false}
use Rattle.rules.specs.declared.Part.{Part}
use Rattle.rules.specs.declared.Part.TheVariants as part
use Rattle.rules.proofs.Laws.Line.{both}
use Rattle.rules.specs.Times.{pinned, effective_priority, steadied}
use Rattle.rules.specs.Times as times
use Rattle.rules.specs.State.{at}
use Rattle.rules.specs.Queue.{is_timeshare}
use Rattle.rules.specs.Waits.{Under}
use Rattle.thread.specs.declared.Thread.{Thread}
use Rattle.thread.specs.Thread.{blank, NONE, WAITING, with_place, with_next, with_stable}
use Rattle.thread.specs.Reads.{reads}
use Rattle.thread.specs.Priority.{stable_effective_priority, reads_stable}
use Rattle.thread.specs.Place.{reads_place, reads_next}
use Rattle.represents.proofs.Laws.Linked.{link_after}
use Rattle.represents.proofs.Laws.Readings.{value_after}
use Rattle.records.specs.Rq.{record_at, steady_in, put_in_def, link_behind}
use Rattle.represents.specs.QueueRead.{marks}

-- ---- one record is written

pub read_set : (ts : List Thread) (x : ℕ) (t : Thread) (z : ℕ) → x < length ts → record_at (set ts x t) z ≡ cond (eqb z x) t (record_at ts z)
read_set ts x t z h =
    both (eqb z x) (λ e. rw (e, eqb-true z x e) (get_or-set_same ts x t blank h)) (λ e. rw e (get_or-set_other ts x z t blank (eqb-false z x e)))

pub field_set {ℓ} : {A : Type ℓ} (f : Thread → A) (ts : List Thread) (x : ℕ) (t : Thread) (z : ℕ) → x < length ts → f (record_at (set ts x t) z) ≡ cond (eqb z x) (f t) (f (record_at ts z))
field_set f ts x t z h = rw (read_set ts x t z h) (both (eqb z x) (λ e. rw e) (λ e. rw e))

-- a write that keeps a field there, wherever it goes
pub kept_there {ℓ} : {A : Type ℓ} (f : Thread → A) (ts : List Thread) (x : ℕ) (t : Thread) (z : ℕ) → (z ≡ x → f t ≡ f (record_at ts x)) → f (record_at (set ts x t) z) ≡ f (record_at ts z)
kept_there f ts x t z e =
    both (ltb x (length ts))
    (λ l. rw (read_set ts x t z (ltb-true _ _ l)) (both (eqb z x) (λ k. rw (k, eqb-true z x k) (e (eqb-true z x k))) (λ k. rw k)))
    (λ l. rw (set_out ts x t (ltb-false _ _ l)))

pub kept {ℓ} : {A : Type ℓ} (f : Thread → A) (ts : List Thread) (x : ℕ) (t : Thread) (z : ℕ) → f t ≡ f (record_at ts x) → f (record_at (set ts x t) z) ≡ f (record_at ts z)
kept f ts x t z e = kept_there f ts x t z (λ q. e)

-- A WRITE THAT KEEPS LINK, PIN AND STABLE VALUE
pub marks_kept : (ts : List Thread) (x : ℕ) (t : Thread) → t.next ≡ (record_at ts x).next → reads t ≡ reads (record_at ts x) → marks (set ts x t) ≡ marks ts
unfolding marks
marks_kept ts x t n r = λ i. record {
  next = λ z. kept (λ (u : Thread). u.next) ts x t z n i;
  pinned = λ z. kept (λ (u : Thread). pinned (reads u)) ts x t z (ap pinned r) i;
  value = λ z. kept (λ (u : Thread). (reads u).stable.value) ts x t z (ap (λ (u : times.Thread). u.stable.value) r) i;
}

-- ---- a put

put_next : (t : Thread) (p : Part) → (put_in_def t p).next ≡ NONE
unfolding put_in_def steady_in with_next stable_effective_priority with_stable
put_next t part.Realtime = refl
put_next t part.Timeshare = refl
put_next t part.Idle = refl

pub put_reads : (t : Thread) (p : Part) → reads (put_in_def t p) ≡ cond (is_timeshare p) (steadied (reads t)) (reads t)
unfolding put_in_def steady_in is_timeshare
put_reads t part.Realtime = reads_next (with_place t WAITING) NONE ∙ reads_place t WAITING
put_reads t part.Timeshare = reads_stable _ ∙ ap steadied (reads_next (with_place t WAITING) NONE ∙ reads_place t WAITING)
put_reads t part.Idle = reads_next (with_place t WAITING) NONE ∙ reads_place t WAITING

put_pinned : (t : Thread) (p : Part) → pinned (reads (put_in_def t p)) ≡ pinned (reads t)
unfolding pinned steadied
put_pinned t p = rw (put_reads t p) (both (is_timeshare p) (λ e. rw e) (λ e. rw e))

put_value : (t : Thread) (p : Part) → (reads (put_in_def t p)).stable.value ≡ value_after p (λ z. (reads t).stable.value) 0 (effective_priority (reads t)).value 0
unfolding is_timeshare steadied value_after at
put_value t part.Realtime = rw (put_reads t part.Realtime)
put_value t part.Timeshare = rw (put_reads t part.Timeshare)
put_value t part.Idle = rw (put_reads t part.Idle)

value_at : (p : Part) (f : ℕ → ℕ) (x v z : ℕ) → cond (eqb z x) (value_after p (λ y. f x) 0 v 0) (f z) ≡ value_after p f x v z
unfolding value_after at
value_at part.Realtime f x v z = both (eqb z x) (λ e. rw (e, eqb-true z x e)) (λ e. rw e)
value_at part.Timeshare f x v z = both (eqb z x) (λ e. rw e) (λ e. rw e)
value_at part.Idle f x v z = both (eqb z x) (λ e. rw (e, eqb-true z x e)) (λ e. rw e)

module _ (ts : List Thread) (x : ℕ) (h : x < length ts) (p : Part) where
  abbrev written : List Thread
  written = set ts x (put_in_def (record_at ts x) p)

  -- what the link of whoever it stands behind leaves as it is
  past_link {ℓ} : {A : Type ℓ} (b : Option ℕ) (f : Thread → A) (z : ℕ) → ((c : ℕ) → b ≡ Some c → f (with_next (record_at written c) x) ≡ f (record_at written c)) → f (record_at (link_behind written b x) z) ≡ f (record_at written z)
  unfolding link_behind
  past_link None f z e = refl
  past_link (Some b) f z e = kept f written b (with_next (record_at written b) x) z (e b refl)

  pub put_field {ℓ} : {A : Type ℓ} (b : Option ℕ) (f : Thread → A) → ((t : Thread) (n : ℕ) → f (with_next t n) ≡ f t) → (z : ℕ)
      → f (record_at (link_behind written b x) z) ≡ cond (eqb z x) (f (put_in_def (record_at ts x) p)) (f (record_at ts z))
  put_field b f past z = past_link b f z (λ c q. past (record_at written c) x) ∙ field_set f ts x (put_in_def (record_at ts x) p) z h

  link_here : (z : ℕ) → (record_at written z).next ≡ at (marks ts).next x NONE z
  unfolding at marks
  link_here z = field_set (λ (u : Thread). u.next) ts x (put_in_def (record_at ts x) p) z h ∙ rw (put_next (record_at ts x) p)

  link_next : (b : Option ℕ) (z : ℕ) → Under (length ts) b → (record_at (link_behind written b x) z).next ≡ link_after (marks ts).next b x z
  unfolding link_behind link_after Under
  link_next None z l = link_here z
  link_next (Some b) z l =
      rw (read_set written b (with_next (record_at written b) x) z (rw (length-set ts x (put_in_def (record_at ts x) p)) l))
      (both (eqb z b) (λ q. rw q (unfold at with_next in rw q)) (λ q. rw q (unfold at in rw q (unfold at in link_here z))))

  -- THE WRITES OF A PUT
  pub marks_put : (b : Option ℕ) → Under (length ts) b
      → marks (link_behind written b x)
      ≡ record {
        next = link_after (marks ts).next b x;
        pinned = (marks ts).pinned;
        value = value_after p (marks ts).value x (effective_priority (reads (record_at ts x))).value;
      }
  unfolding marks
  marks_put b k = λ i. record { next = λ z. link_next b z k i; pinned = λ z. pins z i; value = λ z. values z i }
    where
      pins : (z : ℕ) → pinned (reads (record_at (link_behind written b x) z)) ≡ pinned (reads (record_at ts z))
      pins z = put_field b (λ (u : Thread). pinned (reads u)) (λ t n. ap pinned (reads_next t n)) z ∙ both (eqb z x) (λ e. rw (e, eqb-true z x e) (put_pinned (record_at ts x) p)) (λ e. rw e)

      values : (z : ℕ) → (reads (record_at (link_behind written b x) z)).stable.value ≡ value_after p (λ y. (reads (record_at ts y)).stable.value) x (effective_priority (reads (record_at ts x))).value z
      values z = put_field b (λ (u : Thread). (reads u).stable.value) (λ t n. ap (λ (u : times.Thread). u.stable.value) (reads_next t n)) z ∙ rw (put_value (record_at ts x) p) (value_at p (λ y. (reads (record_at ts y)).stable.value) x _ z)

  pub length_put : (b : Option ℕ) → length (link_behind written b x) ≡ length ts
  unfolding link_behind
  length_put None = length-set ts x _
  length_put (Some b) = length-set written b _ ∙ length-set ts x _
