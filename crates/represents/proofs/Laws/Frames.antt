-- One word of a CPU that is none of its queue's is written, or fields of a record that no queue asks for.
use Rattle.std.specs.Prelude.{ℕ, ◌+◌, ◌%◌, ◌≤◌, ◌<◌, ◌≡◌, ◌≢◌, Bool, cond, true, false, length, get_or, set, eqb, None, is_some}
use Rattle.std.proofs.Math.Path.{refl, sym, ap}
use Rattle.std.proofs.Common.{subst, ◌∙◌, true≢false, length-set, get_or-set_same, eqb-true, ne_eqb, arith}
use mathlib.Core.List.{List, []}
use Rattle.std.proofs.lemmas.Bool.{eqb-false}
use Rattle.rules.specs.Line.{has}
use Rattle.rules.proofs.Laws.Line.{both, of_either}
use Rattle.rules.specs.Queue.{Queue, order}
use Rattle.rules.specs.Times as times
use Rattle.rules.specs.Times.{pinned, donated_to, critical_at}
use Rattle.rules.specs.State.{at, Limits, Topology, Cpu}
use Rattle.rules.specs.Schedule.{World, with_cpu, with_thread, set_rebalance, with_preempt, with_draws, with_rebalance_time, with_ticks}
use Rattle.rules.proofs.Laws.Sound.{at_here, at_there, at_keeps}
use Rattle.rules.specs.Waits.{Under, waits, Free}
use Rattle.thread.specs.declared.Thread.{Thread}
use Rattle.thread.specs.Reads.{reads, critical_in}
use Rattle.thread.specs.Place.{place_in, reads_critical}
use Rattle.thread.specs.Thread.{NO_DONATION, with_donated, with_critical}
use Rattle.thread.specs.Flags.{has_donated_priority, reset_donated_priority}
use Rattle.thread.specs.Priority.{remove_donated_priority, reads_removed}
use Rattle.thread.specs.declared.place.Place.{Place}
use Rattle.thread.specs.declared.place.Place.TheVariants as place
use Rattle.processor.specs.Words.{width, word, put_word}
use Rattle.processor.proofs.Laws.Words.{word_put_same, word_put_other, row_put_other, length_put}
use Rattle.processor.specs.Queue.{queue_at, queue_in_def}
use Rattle.processor.proofs.Laws.Queue.{queue_same}
use Rattle.processor.specs.Word.{MUST_REBALANCE, PREEMPT, RAND_STATE, CUR_REBALANCE_TIME, IDLE_TIMESLICE}
use Rattle.represents.specs.Queue.{QueueReading}
use Rattle.records.specs.Rq.{record_at}
use Rattle.represents.specs.QueueRead.{marks}
use Rattle.represents.proofs.Laws.Records.{read_set, kept, kept_there}
use Rattle.represents.specs.Queue.{QueuesRep}
use Rattle.represents.proofs.Laws.System.{good_frame}
use Rattle.represents.specs.World.{reading_of, mark_in, WordsRead, WordsRep, place_at, Places, WorldRep, number_or_none}

-- ---- the words of a CPU

row_length : (cs : List (List ℕ)) (n d w v : ℕ) → n < length cs → length (get_or (put_word cs n w v) d []) ≡ length (get_or cs d [])
row_length cs n d w v h =
    both (eqb d n)
    (λ e. rw (eqb-true d n e) (unfold put_word in rw (get_or-set_same cs n (set (get_or cs n []) (w % width) v) [] h) (length-set (get_or cs n []) (w % width) v)))
    (λ e. rw (row_put_other cs n d w v (eqb-false d n e)))

other_word : (cs : List (List ℕ)) (n d w v i : ℕ) → w < width → i < width → i ≢ w → get_or (get_or (put_word cs n w v) d []) i 0 ≡ get_or (get_or cs d []) i 0
unfolding word
other_word cs n d w v i h l k =
    let m : i % width ≡ i = omega arith in
    let a : w % width ≡ w = omega arith in
    rw m at (word_put_other cs n d w i v (λ r e. k (sym m ∙ r ∙ a)))

-- the queue of a CPU does not ask for the words from 72 on
queue_put : (cs : List (List ℕ)) (n d w v : ℕ) → 72 ≤ w → w < width → queue_at (put_word cs n w v) d ≡ queue_at cs d
unfolding queue_at queue_in_def
queue_put cs n d w v h k =
    queue_same (get_or cs d []) (get_or (put_word cs n w v) d []) 0 (λ j l. other_word cs n d w v (0 + j) k (omega arith) (λ e. omega arith))

-- the words of CPU c once word w is v
pub word_here : (cs : List (List ℕ)) (c w u v : ℕ) → c < length cs → length (get_or cs c []) ≡ width → w < width → u < width
    → word (put_word cs c w v) c u ≡ cond (eqb u w) v (word cs c u)
word_here cs c w u v h l a b =
    both (eqb u w)
    (λ e. rw (e, eqb-true u w e) (word_put_same cs c w v h (omega arith)))
    (λ e. rw e (word_put_other cs c c w u v (λ r s. eqb-false u w e (omega arith))))

-- Words of CPU c that are none of its queue's have changed.
pub record Beside (cs cs' : List (List ℕ)) (c : ℕ) : Type 0 where
  pub as_many : length cs' ≡ length cs
  pub as_long : (d : ℕ) → length (get_or cs' d []) ≡ length (get_or cs d [])
  pub queue : (d : ℕ) → queue_at cs' d ≡ queue_at cs d
  pub others : (d u : ℕ) → d ≢ c → word cs' d u ≡ word cs d u

pub beside_put : (cs : List (List ℕ)) (c w v : ℕ) → c < length cs → 72 ≤ w → w < width → Beside cs (put_word cs c w v) c
beside_put cs c w v h a b = record {
  as_many = length_put cs c w v;
  as_long = λ d. row_length cs c d w v h;
  queue = λ d. queue_put cs c d w v a b;
  others = λ d u n. word_put_other cs c d w u v (λ r e. n e);
}

pub beside_then : {cs cs' cs'' : List (List ℕ)} {c : ℕ} → Beside cs cs' c → Beside cs' cs'' c → Beside cs cs'' c
beside_then a b = record {
  as_many = b.as_many ∙ a.as_many;
  as_long = λ d. b.as_long d ∙ a.as_long d;
  queue = λ d. b.queue d ∙ a.queue d;
  others = λ d u n. b.others d u n ∙ a.others d u n;
}

-- and each word of it is what f says
pub record Written (cs cs' : List (List ℕ)) (c : ℕ) (f : ℕ → ℕ) : Type 0 where
  pub beside : Beside cs cs' c
  pub words : (i : ℕ) → i < width → word cs' c i ≡ f i

pub written_none : (cs : List (List ℕ)) (c : ℕ) → Written cs cs c (word cs c)
written_none cs c = record { beside = record { as_many = refl; as_long = λ d. refl; queue = λ d. refl; others = λ d u n. refl }; words = λ i h. refl }

pub written_put : {cs cs' : List (List ℕ)} {c : ℕ} {f : ℕ → ℕ} (u v : ℕ) → c < length cs → length (get_or cs c []) ≡ width → 72 ≤ u → u < width → Written cs cs' c f
    → Written cs (put_word cs' c u v) c (λ i. cond (eqb i u) v (f i))
written_put {cs} {cs'} {c} {f} u v h l a b w =
    let k : c < length cs' = rw w.beside.as_many h in
    record {
      beside = beside_then w.beside (beside_put cs' c u v k a b);
      words = λ i m. word_here cs' c u i v k (w.beside.as_long c ∙ l) b m ∙ ap (λ n. cond (eqb i u) v n) (w.words i m);
    }

-- what a CPU's words show depends on these alone
pub words_same : {topology : Topology} {c : ℕ} {p : Cpu} {f g : ℕ → ℕ} → ((u : ℕ) → 72 ≤ u → u < width → g u ≡ f u) → WordsRead topology c f p → WordsRead topology c g p
words_same same s = record {
  declared = rw (same 72 (omega arith) (omega arith)) s.declared;
  placed = rw (same 73 (omega arith) (omega arith)) s.placed;
  running = rw (same 74 (omega arith) (omega arith)) s.running;
  own_priority = rw (same 75 (omega arith) (omega arith)) s.own_priority;
  is_idle = rw (same 76 (omega arith) (omega arith)) s.is_idle;
  must_rebalance = rw (same 77 (omega arith) (omega arith)) s.must_rebalance;
  preempt = rw (same 78 (omega arith) (omega arith)) s.preempt;
  draw_state = rw (same 79 (omega arith) (omega arith)) s.draw_state;
  rebalance_time = rw (same 80 (omega arith) (omega arith)) s.rebalance_time;
  idle_timeslice = rw (same 81 (omega arith) (omega arith)) s.idle_timeslice;
}

-- and on the fields that they are about
pub words_alike : {t u : Topology} {c : ℕ} {f : ℕ → ℕ} (p q : Cpu) → u.declared c ≡ t.declared c → u.placed c ≡ t.placed c → q.running ≡ p.running → q.own_priority ≡ p.own_priority
    → q.must_rebalance ≡ p.must_rebalance → q.preempt ≡ p.preempt → q.draw_state ≡ p.draw_state → q.rebalance_time ≡ p.rebalance_time → q.idle_timeslice ≡ p.idle_timeslice
    → WordsRead t c f p → WordsRead u c f q
words_alike p q d l r o m e a b i s = record {
  declared = s.declared ∙ sym d;
  placed = s.placed ∙ ap number_or_none (sym l);
  running = s.running ∙ ap number_or_none (sym r);
  own_priority = s.own_priority ∙ sym o;
  is_idle = s.is_idle ∙ ap is_some (sym r);
  must_rebalance = s.must_rebalance ∙ sym m;
  preempt = s.preempt ∙ sym e;
  draw_state = s.draw_state ∙ sym a;
  rebalance_time = s.rebalance_time ∙ sym b;
  idle_timeslice = s.idle_timeslice ∙ sym i;
}

-- ---- the records

removed_keeps : {A : Type 0} (f : Thread → A) (t : Thread) → f (with_donated t NO_DONATION (reset_donated_priority t.flags)) ≡ f t → f (remove_donated_priority t) ≡ f t
unfolding remove_donated_priority
removed_keeps f t e = of_either (λ (u : Thread). f u ≡ f t) (has_donated_priority t.flags) _ _ e refl

-- ---- the queues

pub reading_queue : (p q : Cpu) → reading_of p ≡ reading_of q → p.queue ≡ q.queue
unfolding reading_of
reading_queue p q e = ap (λ (R : QueueReading). R.queue) e

-- a reading of the CPUs, one of them changed
pub at_map {ℓ κ} : {A : Type ℓ} {B : Type κ} (g : A → B) (f : ℕ → A) (c : ℕ) (v : A) (d : ℕ) → at (λ y. g (f y)) c (g v) d ≡ g (at f c v d)
unfolding at
at_map g f c v d = both (eqb d c) (λ e. rw e) (λ e. rw e)

-- written twice at one place
pub at_again {ℓ} : {A : Type ℓ} (f : ℕ → A) (c : ℕ) (a b : A) (d : ℕ) → at (at f c a) c b d ≡ at f c b d
unfolding at
at_again f c a b d = both (eqb d c) (λ e. rw e) (λ e. rw e)

-- ---- the places

-- the same threads wait
pub places_same : {limit : ℕ} {known active : ℕ → Bool} {ts : List Thread} (w v : World) → ((d x : ℕ) → waits v d x ≡ waits w d x) → Places limit known active ts w → Places limit known active ts v
places_same w v e p = record {
  waiting = λ d x h. p.waiting d x (sym (e d x) ∙ h);
  running = p.running;
  blocked = λ x h k a f. p.blocked x h k a (λ d. sym (e d x) ∙ f d);
  undeclared = p.undeclared;
}

-- a write that keeps a record's place
pub places_kept : {limit : ℕ} {known active : ℕ → Bool} {ts : List Thread} {w : World} (x : ℕ) (t : Thread) → t.place ≡ (record_at ts x).place
    → Places limit known active ts w → Places limit known active (set ts x t) w
places_kept {ts = ts} x t e p =
    let same : (z : ℕ) → place_at (set ts x t) z ≡ place_at ts z = λ z. ap place_in (kept (λ (u : Thread). u.place) ts x t z e) in
    record {
      waiting = λ c z k. same z ∙ p.waiting c z k;
      running = λ z k. same z ∙ p.running z k;
      blocked = λ z l k a f. same z ∙ p.blocked z l k a f;
      undeclared = λ z k. same z ∙ p.undeclared z k;
    }

-- thread x goes to another place, and is known
pub places_moved : {limit : ℕ} {known known' active active' : ℕ → Bool} {ts ts' : List Thread} {w v : World} (x : ℕ) (p : Place)
    → ((z : ℕ) → place_at ts' z ≡ cond (eqb z x) p (place_at ts z)) → known' x ≡ true → ((z : ℕ) → z ≢ x → known' z ≡ known z) → ((z : ℕ) → z ≢ x → active' z ≡ active z)
    → ((d z : ℕ) → z ≢ x → waits v d z ≡ waits w d z) → ((d : ℕ) → waits v d x ≡ true → p ≡ place.Waiting) → (active' x ≡ true → p ≡ place.Running)
    → (active' x ≡ false → Free v x → p ≡ place.Blocked) → Places limit known active ts w → Places limit known' active' ts' v
places_moved x p now is_known known_else active_else waits_else waiting running blocked was = record {
  waiting = λ d z h. now z ∙ both (eqb z x)
      (λ e. rw e (waiting d (rw (eqb-true z x e) at h)))
      (λ e. rw e (was.waiting d z (sym (waits_else d z (eqb-false z x e)) ∙ h)));
  running = λ z h. now z ∙ both (eqb z x)
      (λ e. rw e (running (rw (eqb-true z x e) at h)))
      (λ e. rw e (was.running z (sym (active_else z (eqb-false z x e)) ∙ h)));
  blocked = λ z l k a f. now z ∙ both (eqb z x)
      (λ e. rw e (blocked (rw (eqb-true z x e) at a) (λ d. rw (eqb-true z x e) at (f d))))
      (λ e. let n = eqb-false z x e in rw e (was.blocked z l (sym (known_else z n) ∙ k) (sym (active_else z n) ∙ a) (λ d. sym (waits_else d z n) ∙ f d)));
  undeclared = λ z k. now z ∙ both (eqb z x)
      (λ e. absurd (true≢false (sym is_known ∙ rw (eqb-true z x e) at k)))
      (λ e. rw e (was.undeclared z (sym (known_else z (eqb-false z x e)) ∙ k)));
}

-- ---- the frames

module _ {limits : Limits} {topology : Topology} {known active : ℕ → Bool} {ts : List Thread} {cs : List (List ℕ)} {w : World} (s : WorldRep limits topology known active ts cs w) where
  pub in_records : (x : ℕ) → x < limits.threads → x < length ts
  in_records x h = omega (arith, s.queues.records)

  pub in_rows : (c : ℕ) → c < limits.cpus → c < length cs
  in_rows c h = omega (arith, s.queues.cpus)

  -- WORDS OF ONE CPU, and a world and a topology of which they speak
  pub shows_words : (u : Topology) (cs' : List (List ℕ)) (c : ℕ) (v : World) → Beside cs cs' c → ((d : ℕ) → reading_of (v.cpus d) ≡ reading_of (w.cpus d)) → ((x : ℕ) → v.threads x ≡ w.threads x)
      → ((d : ℕ) → d < limits.cpus → WordsRep u cs' d (v.cpus d)) → WorldRep limits u known active ts cs' v
  shows_words u cs' c v b same f k = record {
    queues = subst (λ (Rs : ℕ → QueueReading). QueuesRep limits.threads limits.cpus ts cs' Rs) (λ i d. sym (same d) i)
        (good_frame limits.threads limits.cpus ts cs (λ d. reading_of (w.cpus d)) s.queues ts cs' s.queues.records (rw b.as_many s.queues.cpus)
        (λ d h. rw (b.as_long d) (s.queues.rows d h)) (λ d h. record { links = λ z a. refl; pins = λ z a. refl; values = λ z a. refl }) (λ d h. b.queue d));
    none_past = s.none_past;
    rows = λ d h. b.as_long d ∙ s.rows d h;
    threads = λ x h. s.threads x h ∙ sym (f x);
    queue_cpus = λ x h. subst (λ (t : times.Thread). Under limits.cpus t.queue_cpu) (sym (f x)) (s.queue_cpus x h);
    words = k;
    places = places_same w v (λ d x. ap (λ (q : Queue). has x (order q)) (reading_queue (v.cpus d) (w.cpus d) (same d))) s.places;
  }

  pub shows_beside : (cs' : List (List ℕ)) (c : ℕ) (p : Cpu) → Beside cs cs' c → reading_of p ≡ reading_of (w.cpus c) → WordsRep topology cs' c p
      → WorldRep limits topology known active ts cs' (with_cpu w c p)
  unfolding with_cpu
  shows_beside cs' c p b r k =
      shows_words topology cs' c (with_cpu w c p) b (at_keeps reading_of w.cpus c p r) (λ x. refl)
      (λ d h. both (eqb d c)
      (λ e. rw (eqb-true d c e, at_here w.cpus c p) k)
      (λ e. rw (at_there w.cpus c p d (eqb-false d c e)) (words_same (λ u l m. b.others d u (eqb-false d c e)) (s.words d h))))

  -- its words are what f says
  pub shows_written : {cs' : List (List ℕ)} {f : ℕ → ℕ} (c : ℕ) (p : Cpu) → Written cs cs' c f → reading_of p ≡ reading_of (w.cpus c) → WordsRead topology c f p
      → WorldRep limits topology known active ts cs' (with_cpu w c p)
  shows_written {cs'} c p b r k = shows_beside cs' c p b.beside r (words_same (λ u l m. b.words u m) k)

  -- THE RECORD OF ONE THREAD, with its link, pin and stable value as they were if it waits
  pub shows_record : {known' active' : ℕ → Bool} (x : ℕ) (t : Thread) (u : times.Thread) → x < limits.threads → reads t ≡ u
      → ((d : ℕ) → waits w d x ≡ true → (t.next ≡ (record_at ts x).next) × ((pinned u ≡ pinned (w.threads x)) × (u.stable.value ≡ (w.threads x).stable.value)))
      → Under limits.cpus u.queue_cpu → Places limits.threads known' active' (set ts x t) w → WorldRep limits topology known' active' (set ts x t) cs (with_thread w x u)
  unfolding with_thread marks reading_of
  shows_record x t u h r k q l =
      record {
        queues = good_frame limits.threads limits.cpus ts cs (λ d. reading_of (w.cpus d)) s.queues (set ts x t) cs (rw (length-set ts x t) s.queues.records) s.queues.cpus s.queues.rows
            (λ d m. record {
              links = λ z a. kept_there (λ (y : Thread). y.next) ts x t z (λ e. (k d (rw e at a)).0);
              pins = λ z a. kept_there (λ (y : Thread). pinned (reads y)) ts x t z (λ e. ap pinned r ∙ (k d (rw e at a)).1.0 ∙ sym (ap pinned (s.threads x h)));
              values = λ z a. kept_there (λ (y : Thread). (reads y).stable.value) ts x t z
                  (λ e. ap (λ (y : times.Thread). y.stable.value) r ∙ (k d (rw e at a)).1.1 ∙ sym (ap (λ (y : times.Thread). y.stable.value) (s.threads x h)));
            }) (λ d m. refl);
        none_past = rw (length-set ts x t) s.none_past;
        rows = s.rows;
        threads = λ z m. rw (read_set ts x t z (in_records x h)) (unfold at in both (eqb z x) (λ e. rw e r) (λ e. rw e (s.threads z m)));
        queue_cpus = λ z m. unfold at in both (eqb z x) (λ e. rw e q) (λ e. rw e (s.queue_cpus z m));
        words = s.words;
        places = places_same w (with_thread w x u) (λ d z. refl) l;
      }

  -- FIELDS OF A RECORD THAT NO QUEUE ASKS FOR: neither its place nor its link, pin or stable value
  pub shows_fields : (x : ℕ) (t : Thread) (u : times.Thread) → x < limits.threads → reads t ≡ u → t.next ≡ (record_at ts x).next → t.place ≡ (record_at ts x).place
      → pinned u ≡ pinned (w.threads x) → u.stable.value ≡ (w.threads x).stable.value → Under limits.cpus u.queue_cpu → WorldRep limits topology known active (set ts x t) cs (with_thread w x u)
  shows_fields x t u h r n l p v q = shows_record x t u h r (λ d e. (n, (p, v))) q (places_kept x t l s.places)

  -- 19: `remove_donated_priority`
  pub shows_removed : (x : ℕ) → x < limits.threads → WorldRep limits topology known active (set ts x (remove_donated_priority (record_at ts x))) cs (with_thread w x (donated_to (w.threads x) None))
  unfolding donated_to pinned
  shows_removed x h =
      shows_fields x (remove_donated_priority (record_at ts x)) _ h (reads_removed (record_at ts x) ∙ ap (λ (t : times.Thread). donated_to t None) (s.threads x h))
      (removed_keeps (λ (t : Thread). t.next) (record_at ts x) (unfold with_donated in refl)) (removed_keeps (λ (t : Thread). t.place) (record_at ts x) (unfold with_donated in refl)) refl refl (s.queue_cpus x h)

  -- 1A: the critical mark
  pub shows_critical : (x m : ℕ) → x < limits.threads → WorldRep limits topology known active (set ts x (with_critical (record_at ts x) m)) cs (with_thread w x (critical_at (w.threads x) (critical_in m)))
  unfolding critical_at pinned with_critical
  shows_critical x m h =
      shows_fields x (with_critical (record_at ts x) m) _ h (reads_critical (record_at ts x) m ∙ ap (λ (t : times.Thread). critical_at t (critical_in m)) (s.threads x h)) refl refl refl refl (s.queue_cpus x h)

  -- ONE WORD OF A CPU
  module _ (c : ℕ) (near : c < limits.cpus) where
    abbrev was : WordsRep topology cs c (w.cpus c)
    was = s.words c near

    -- one of those from 77 on, and a CPU p of which they speak
    one_word : (u v : ℕ) (p : Cpu) → 77 ≤ u → u < width → reading_of p ≡ reading_of (w.cpus c) → p.running ≡ (w.cpus c).running → p.own_priority ≡ (w.cpus c).own_priority
        → (let now : ℕ → ℕ = λ i. cond (eqb i u) v (word cs c i) in
        mark_in (now 77) ≡ p.must_rebalance → mark_in (now 78) ≡ p.preempt → now 79 ≡ p.draw_state → now 80 ≡ p.rebalance_time → now 81 ≡ p.idle_timeslice
        → WorldRep limits topology known active ts (put_word cs c u v) (with_cpu w c p))
    one_word u v p h k r runs own m e d t i =
        let other : (j : ℕ) → j < 77 → cond (eqb j u) v (word cs c j) ≡ word cs c j = λ j l. rw (ne_eqb j u (λ q. omega arith)) in
        shows_written c p (written_put u v (in_rows c near) (s.rows c near) (omega arith) k (written_none cs c)) r (record {
          declared = rw (other 72 (omega arith)) was.declared;
          placed = rw (other 73 (omega arith)) was.placed;
          running = rw (other 74 (omega arith), runs) was.running;
          own_priority = rw (other 75 (omega arith), own) was.own_priority;
          is_idle = rw (other 76 (omega arith), runs) was.is_idle;
          must_rebalance = m;
          preempt = e;
          draw_state = d;
          rebalance_time = t;
          idle_timeslice = i;
        })

    pub shows_must_rebalance : WorldRep limits topology known active ts (put_word cs c MUST_REBALANCE 1) (with_cpu w c (set_rebalance (w.cpus c)))
    unfolding set_rebalance reading_of mark_in
    shows_must_rebalance =
        one_word 77 1 (set_rebalance (w.cpus c)) (omega arith) (omega arith) refl refl refl refl was.preempt was.draw_state was.rebalance_time was.idle_timeslice

    pub shows_preempt : (v : ℕ) (m : Bool) → mark_in v ≡ m → WorldRep limits topology known active ts (put_word cs c PREEMPT v) (with_cpu w c (with_preempt (w.cpus c) m))
    unfolding with_preempt reading_of
    shows_preempt v m e =
        one_word 78 v (with_preempt (w.cpus c) m) (omega arith) (omega arith) refl refl refl was.must_rebalance e was.draw_state was.rebalance_time was.idle_timeslice

    pub shows_draws : (v : ℕ) → WorldRep limits topology known active ts (put_word cs c RAND_STATE v) (with_cpu w c (with_draws (w.cpus c) v))
    unfolding with_draws reading_of
    shows_draws v =
        one_word 79 v (with_draws (w.cpus c) v) (omega arith) (omega arith) refl refl refl was.must_rebalance was.preempt refl was.rebalance_time was.idle_timeslice

    pub shows_rebalance_time : (v : ℕ) → WorldRep limits topology known active ts (put_word cs c CUR_REBALANCE_TIME v) (with_cpu w c (with_rebalance_time (w.cpus c) v))
    unfolding with_rebalance_time reading_of
    shows_rebalance_time v =
        one_word 80 v (with_rebalance_time (w.cpus c) v) (omega arith) (omega arith) refl refl refl was.must_rebalance was.preempt was.draw_state refl was.idle_timeslice

    -- what the idle thread has paid; the tick of the last hard tick stays
    pub shows_idle_timeslice : (v : ℕ) → WorldRep limits topology known active ts (put_word cs c IDLE_TIMESLICE v) (with_cpu w c (with_ticks (w.cpus c) (w.cpus c).last_tick v))
    unfolding with_ticks reading_of
    shows_idle_timeslice v =
        one_word 81 v (with_ticks (w.cpus c) (w.cpus c).last_tick v) (omega arith) (omega arith) refl refl refl was.must_rebalance was.preempt was.draw_state was.rebalance_time refl

-- the same CPUs and threads
pub shows_alike : {limits : Limits} {topology : Topology} {known active : ℕ → Bool} {ts : List Thread} {cs : List (List ℕ)} (w v : World)
    → ((c : ℕ) → v.cpus c ≡ w.cpus c) → ((x : ℕ) → v.threads x ≡ w.threads x) → WorldRep limits topology known active ts cs w → WorldRep limits topology known active ts cs v
shows_alike {topology = topology} {cs = cs} w v e f s =
    shows_words s topology cs 0 v (written_none cs 0).beside (λ c. ap reading_of (e c)) f (λ c h. subst (WordsRep topology cs c) (sym (e c)) (s.words c h))

-- a thread that is what it was
pub shows_same_thread : {limits : Limits} {topology : Topology} {known active : ℕ → Bool} {ts : List Thread} {cs : List (List ℕ)} (w : World) (x : ℕ)
    → WorldRep limits topology known active ts cs (with_thread w x (w.threads x)) → WorldRep limits topology known active ts cs w
unfolding with_thread
shows_same_thread w x s = shows_alike (with_thread w x (w.threads x)) w (λ c. refl) (λ z. sym (at_keeps (λ (t : times.Thread). t) w.threads x (w.threads x) refl z)) s
