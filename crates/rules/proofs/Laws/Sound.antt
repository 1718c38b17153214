-- What the rules keep of all CPUs and threads: each queue is that of its puts and takes, a thread waits in one queue, runs on one CPU, or does neither.
use Rattle.std.specs.Prelude.{ℕ, ◌+◌, ◌<◌, ◌≢◌, ◌⊎◌, Bool, false, cond, ◌||◌, length, eqb, Option, None, Some, is_some}
use Rattle.std.proofs.Math.Path.{◌≡◌, refl, sym, ap}
use Rattle.std.proofs.Common.{subst, ◌∙◌, arith}
use Rattle.std.proofs.Math.Logic.{inl, inr}
use Rattle.std.proofs.Math.Bool.{true, true≢false, or-false}
use mathlib.Core.List.{List, [], ◌∷◌, ◌++◌, append_assoc}
use borrow.Author.Tests.{eqb-true, eqb-false, eq-eqb, ne_eqb}
use borrow.Author.Clash.{clash}
use Rattle.rules.specs.declared.Priority.{Priority}
use Rattle.rules.specs.Line.{has, Distinct}
use Rattle.rules.proofs.Laws.Line.{both, has_append}
use Rattle.rules.specs.Priority.{nr_values, less, greater_of, effective}
use Rattle.rules.specs.Times.{Thread, effective_priority, pinned, critical_at, donated_to, steadied, moving_to_queue, moving_to_active, reset_time, paid_to}
use Rattle.rules.specs.Queue.{Queue, order, Arrival, part_for, insert, is_timeshare, Next, nobody, next_in, asked, leave, said_after_take}
use Rattle.rules.specs.Puts.{Put, PutOrTake, a_put, a_take, put_made}
use Rattle.rules.specs.State.{at, Limits, Topology, Cpu}
use Rattle.rules.specs.Schedule.{World, Got, with_cpu, with_thread, noted, wakeup, with_queue, pinned_in, arrival, insert_thread, handed_out, take_thread, clock}
use Rattle.rules.specs.Ahead.{Wait, at_time, who_waits, threads, In}
use Rattle.rules.proofs.Laws.Effect.{advance_order}
use Rattle.rules.proofs.Laws.Waiting.{others, threads_append, waiting_put, waiting_none, waiting_some}
use Rattle.rules.proofs.Laws.Held.{has_head}
use Rattle.rules.proofs.Laws.Kept.{Kept, Fits, Agrees, Head, asked_head, kept_put, kept_none, kept_leave, kept_advance}
use Rattle.rules.specs.Waits.{Under, waits, Free}

-- ---- threads

unfoldable pub Valued : Option Priority → Type 0
Valued None = Unit
Valued (Some p) = p.value < nr_values

-- values are below 128, CPUs below the limit
pub record Mild (limits : Limits) (t : Thread) : Type 0 where
  pub own : t.own.value < nr_values
  pub donated : Valued t.donated
  pub pin : Under limits.cpus t.pin
  pub last : Under limits.cpus t.last

effective_in : (p : Priority) (d : Option Priority) → p.value < nr_values → Valued d → (effective p d).value < nr_values
unfolding effective greater_of Valued
effective_in p None h v = h
effective_in p (Some d) h v = both (less p d) (λ e. rw e v) (λ e. rw e h)

pub mild_value : {limits : Limits} {t : Thread} → Mild limits t → (effective_priority t).value < nr_values
unfolding effective_priority
mild_value {limits} {t} m = effective_in t.own t.donated m.own m.donated

-- a thread that was changed where none of this is said
pub record Alike (limits : Limits) (t u : Thread) : Type 0 where
  pub pinned_alike : pinned u ≡ pinned t
  pub mild_alike : Mild limits t → Mild limits u

pub alike_fields : (limits : Limits) (t u : Thread) → u.own ≡ t.own → u.donated ≡ t.donated → u.pin ≡ t.pin → u.last ≡ t.last → Alike limits t u
unfolding pinned
alike_fields limits t u a b c d = record {
  pinned_alike = ap is_some c;
  mild_alike = λ m. record {
    own = subst (λ (p : Priority). p.value < nr_values) (sym a) m.own;
    donated = subst Valued (sym b) m.donated;
    pin = subst (Under limits.cpus) (sym c) m.pin;
    last = subst (Under limits.cpus) (sym d) m.last;
  };
}

pub alike_self : (limits : Limits) (t : Thread) → Alike limits t t
alike_self limits t = record { pinned_alike = refl; mild_alike = λ m. m }

pub alike_steadied : (limits : Limits) (t : Thread) → Alike limits t (steadied t)
unfolding steadied
alike_steadied limits t = alike_fields limits t (steadied t) refl refl refl refl

pub alike_queue : (limits : Limits) (t : Thread) (c : ℕ) → Alike limits t (moving_to_queue t c)
unfolding moving_to_queue
alike_queue limits t c = alike_fields limits t (moving_to_queue t c) refl refl refl refl

pub alike_reset : (limits : Limits) (t : Thread) (d : ℕ) → Alike limits t (reset_time t d)
unfolding reset_time
alike_reset limits t d = alike_fields limits t (reset_time t d) refl refl refl refl

pub alike_paid : (limits : Limits) (t : Thread) (n : ℕ) → Alike limits t (paid_to t n)
unfolding paid_to
alike_paid limits t n = alike_fields limits t (paid_to t n) refl refl refl refl

pub alike_critical : (limits : Limits) (t : Thread) (m : Bool) → Alike limits t (critical_at t m)
unfolding critical_at
alike_critical limits t m = alike_fields limits t (critical_at t m) refl refl refl refl

pub alike_active : (limits : Limits) (t : Thread) (c : ℕ) → c < limits.cpus → Alike limits t (moving_to_active t c)
unfolding moving_to_active pinned Under
alike_active limits t c h = record { pinned_alike = refl; mild_alike = λ m. record { own = m.own; donated = m.donated; pin = m.pin; last = h } }

pub alike_donated : (limits : Limits) (t : Thread) (d : Option Priority) → Valued d → Alike limits t (donated_to t d)
unfolding donated_to pinned
alike_donated limits t d v = record { pinned_alike = refl; mild_alike = λ m. record { own = m.own; donated = v; pin = m.pin; last = m.last } }

-- ---- functions changed at a number

pub at_here {ℓ} : {A : Type ℓ} (f : ℕ → A) (x : ℕ) (v : A) → at f x v x ≡ v
unfolding at
at_here f x v = rw (eq-eqb x x refl)

pub at_there {ℓ} : {A : Type ℓ} (f : ℕ → A) (x : ℕ) (v : A) (y : ℕ) → y ≢ x → at f x v y ≡ f y
unfolding at
at_there f x v y h = rw (ne_eqb y x h)

-- what the new value shares with the old, all share
pub at_keeps {ℓ κ} : {A : Type ℓ} {B : Type κ} (g : A → B) (f : ℕ → A) (x : ℕ) (v : A) → g v ≡ g (f x) → (y : ℕ) → g (at f x v y) ≡ g (f y)
unfolding at
at_keeps g f x v e y = both (eqb y x) (λ h. rw (h, eqb-true y x h) e) (λ h. rw h)

pub alike_at : (limits : Limits) (f : ℕ → Thread) (x : ℕ) (t : Thread) → Alike limits (f x) t → (y : ℕ) → Alike limits (f y) (at f x t y)
unfolding at
alike_at limits f x t a y = both (eqb y x) (λ e. rw (e, eqb-true y x e) a) (λ e. rw e (alike_self limits (f y)))

-- ---- what is kept

-- H: the puts and takes of each queue before the command; but: CPUs whose thread running may wait as well, on its way from the one to the other
pub record Sound (limits : Limits) (known : ℕ → Bool) (H : ℕ → List PutOrTake) (but : ℕ → Bool) (w : World) : Type 0 where
  pub kept : (c : ℕ) → Kept limits.threads (w.cpus c).queue (H c ++ w.log c)
  pub pins : (c : ℕ) → Agrees (pinned_in w) (who_waits (H c ++ w.log c))
  pub mild : (x : ℕ) → Mild limits (w.threads x)
  pub alone : (c d x : ℕ) → waits w c x ≡ true → waits w d x ≡ true → c ≡ d
  pub placed : (c x : ℕ) → waits w c x ≡ true → (c < limits.cpus) × (known x ≡ true)
  pub free : (c x : ℕ) → but c ≡ false → (w.cpus c).running ≡ Some x → Free w x
  pub one : (c d x : ℕ) → (w.cpus c).running ≡ Some x → (w.cpus d).running ≡ Some x → c ≡ d
  pub runs : (c x : ℕ) → (w.cpus c).running ≡ Some x → (c < limits.cpus) × (known x ≡ true)

-- the same queues, puts and takes, threads running and pins
pub record Same (limits : Limits) (w v : World) : Type 0 where
  pub queues : (c : ℕ) → (v.cpus c).queue ≡ (w.cpus c).queue
  pub logs : (c : ℕ) → v.log c ≡ w.log c
  pub running : (c : ℕ) → (v.cpus c).running ≡ (w.cpus c).running
  pub alike : (x : ℕ) → Alike limits (w.threads x) (v.threads x)

pub same_self : (limits : Limits) (w : World) → Same limits w w
same_self limits w = record { queues = λ c. refl; logs = λ c. refl; running = λ c. refl; alike = λ x. alike_self limits (w.threads x) }

pub same_then : {limits : Limits} {u v w : World} → Same limits u v → Same limits v w → Same limits u w
same_then s t = record {
  queues = λ c. t.queues c ∙ s.queues c;
  logs = λ c. t.logs c ∙ s.logs c;
  running = λ c. t.running c ∙ s.running c;
  alike = λ x. record {
    pinned_alike = (t.alike x).pinned_alike ∙ (s.alike x).pinned_alike;
    mild_alike = λ m. (t.alike x).mild_alike ((s.alike x).mild_alike m);
  };
}

pub same_free : {limits : Limits} {w v : World} (x : ℕ) → Same limits w v → Free w x → Free v x
same_free x s f c = ap (λ (q : Queue). has x (order q)) (s.queues c) ∙ f c

pub same_cpu_changed : (limits : Limits) (w : World) (c : ℕ) (p : Cpu) → p.queue ≡ (w.cpus c).queue → p.running ≡ (w.cpus c).running → Same limits w (with_cpu w c p)
unfolding with_cpu
same_cpu_changed limits w c p q r = record {
  queues = at_keeps (λ (u : Cpu). u.queue) w.cpus c p q;
  logs = λ d. refl;
  running = at_keeps (λ (u : Cpu). u.running) w.cpus c p r;
  alike = λ x. alike_self limits (w.threads x);
}

pub same_thread_changed : (limits : Limits) (w : World) (x : ℕ) (t : Thread) → Alike limits (w.threads x) t → Same limits w (with_thread w x t)
unfolding with_thread
same_thread_changed limits w x t a = record {
  queues = λ d. refl;
  logs = λ d. refl;
  running = λ d. refl;
  alike = alike_at limits w.threads x t a;
}

pub same_wakeup : (limits : Limits) (us : ℕ) (w : World) (c : ℕ) (b : Bool) → Same limits w (wakeup us w c b)
unfolding wakeup
same_wakeup limits us w d b = record { queues = λ c. refl; logs = λ c. refl; running = λ c. refl; alike = λ x. alike_self limits (w.threads x) }

module _ {limits : Limits} {known : ℕ → Bool} {H : ℕ → List PutOrTake} where
  pub sound_same : {but : ℕ → Bool} {w v : World} → Same limits w v → Sound limits known H but w → Sound limits known H but v
  sound_same {but} {w} {v} s d = record {
    kept = λ c. rw (s.queues c, s.logs c) (d.kept c);
    pins = λ c. rw (s.logs c) (λ u i. (s.alike u.put.thread).pinned_alike ∙ d.pins c u i);
    mild = λ x. (s.alike x).mild_alike (d.mild x);
    alone = λ c e x h k. d.alone c e x (back c x h) (back e x k);
    placed = λ c x h. d.placed c x (back c x h);
    free = λ c x b r. same_free x s (d.free c x b (sym (s.running c) ∙ r));
    one = λ c e x h k. d.one c e x (sym (s.running c) ∙ h) (sym (s.running e) ∙ k);
    runs = λ c x r. d.runs c x (sym (s.running c) ∙ r);
  }
    where
      back : (c x : ℕ) → waits v c x ≡ true → waits w c x ≡ true
      back c x h = ap (λ (q : Queue). has x (order q)) (sym (s.queues c)) ∙ h

-- ---- one queue changed

-- the queue of CPU c, with its puts and takes; threads may have changed where it does not matter
pub record Only (limits : Limits) (w v : World) (c : ℕ) (q : Queue) (l : List PutOrTake) : Type 0 where
  pub queue_here : (v.cpus c).queue ≡ q
  pub log_here : v.log c ≡ l
  pub queues : (d : ℕ) → d ≢ c → (v.cpus d).queue ≡ (w.cpus d).queue
  pub logs : (d : ℕ) → d ≢ c → v.log d ≡ w.log d
  pub running : (d : ℕ) → (v.cpus d).running ≡ (w.cpus d).running
  pub alike : (x : ℕ) → Alike limits (w.threads x) (v.threads x)

-- a thread that may come into the queue of CPU c
pub record New (limits : Limits) (known : ℕ → Bool) (but : ℕ → Bool) (w : World) (c x : ℕ) : Type 0 where
  pub nowhere : Free w x
  pub is_known : known x ≡ true
  pub near : c < limits.cpus
  pub runs_not : (d : ℕ) → but d ≡ false → (w.cpus d).running ≢ Some x

pub not_true_is : (t : Bool) → (t ≡ true → ⊥) → t ≡ false
not_true_is true h = absurd (h refl)
not_true_is false h = refl

module _ {limits : Limits} {known : ℕ → Bool} {H : ℕ → List PutOrTake} {but : ℕ → Bool} {w v : World} {c : ℕ} {q : Queue} {l : List PutOrTake}
    (o : Only limits w v c q l) (d : Sound limits known H but w) (k : Kept limits.threads q (H c ++ l)) (g : Agrees (pinned_in w) (who_waits (H c ++ l)))
    (old_or_new : (x : ℕ) → has x (order q) ≡ true → (waits w c x ≡ true) ⊎ New limits known but w c x) where
  who : (e x : ℕ) → waits v e x ≡ true → (waits w e x ≡ true) ⊎ (New limits known but w e x × (e ≡ c))
  who e x h =
      both (eqb e c)
      (λ p. let s : e ≡ c = eqb-true e c p in go s (old_or_new x (ap (λ (u : Queue). has x (order u)) (sym (ap (λ n. (v.cpus n).queue) s ∙ o.queue_here)) ∙ h)))
      (λ p. inl (ap (λ (u : Queue). has x (order u)) (sym (o.queues e (eqb-false e c p))) ∙ h))
    where
      go : e ≡ c → (waits w c x ≡ true) ⊎ New limits known but w c x → (waits w e x ≡ true) ⊎ (New limits known but w e x × (e ≡ c))
      go s (inl a) = inl (rw s a)
      go s (inr a) = inr (rw s a, s)

  alone_now : (a b x : ℕ) → (waits w a x ≡ true) ⊎ (New limits known but w a x × (a ≡ c)) → (waits w b x ≡ true) ⊎ (New limits known but w b x × (b ≡ c)) → a ≡ b
  alone_now a b x (inl h) (inl k) = d.alone a b x h k
  alone_now a b x (inl h) (inr n) = clash (waits w a x) h (n.0.nowhere a)
  alone_now a b x (inr n) (inl k) = clash (waits w b x) k (n.0.nowhere b)
  alone_now a b x (inr n) (inr m) = n.1 ∙ sym m.1

  placed_now : (a x : ℕ) → (waits w a x ≡ true) ⊎ (New limits known but w a x × (a ≡ c)) → (a < limits.cpus) × (known x ≡ true)
  placed_now a x (inl h) = d.placed a x h
  placed_now a x (inr n) = (n.0.near, n.0.is_known)

  free_now : (a b x : ℕ) → but a ≡ false → (w.cpus a).running ≡ Some x → (waits w b x ≡ true) ⊎ (New limits known but w b x × (b ≡ c)) → ⊥
  free_now a b x t r (inl h) = true≢false (sym h ∙ d.free a x t r b)
  free_now a b x t r (inr n) = n.0.runs_not a t r

  kept_now : (e : ℕ) → Kept limits.threads (v.cpus e).queue (H e ++ v.log e)
  kept_now e =
      both (eqb e c)
      (λ p. rw (eqb-true e c p, o.queue_here, o.log_here) k)
      (λ p. rw (o.queues e (eqb-false e c p), o.logs e (eqb-false e c p)) (d.kept e))

  pins_now : (e : ℕ) → Agrees (pinned_in v) (who_waits (H e ++ v.log e))
  pins_now e =
      both (eqb e c)
      (λ p. rw (eqb-true e c p, o.log_here) (λ u i. (o.alike u.put.thread).pinned_alike ∙ g u i))
      (λ p. rw (o.logs e (eqb-false e c p)) (λ u i. (o.alike u.put.thread).pinned_alike ∙ d.pins e u i))

  pub sound_only : Sound limits known H but v
  sound_only = record {
    kept = kept_now;
    pins = pins_now;
    mild = λ x. (o.alike x).mild_alike (d.mild x);
    alone = λ a b x h k. alone_now a b x (who a x h) (who b x k);
    placed = λ a x h. placed_now a x (who a x h);
    free = λ a x t r b. not_true_is (waits v b x) (λ h. free_now a b x t (sym (o.running a) ∙ r) (who b x h));
    one = λ a b x h k. d.one a b x (sym (o.running a) ∙ h) (sym (o.running b) ∙ k);
    runs = λ a x r. d.runs a x (sym (o.running a) ∙ r);
  }

-- ---- a put

alike_if : (limits : Limits) (t : Thread) (b : Bool) → Alike limits t (cond b (steadied t) t)
alike_if limits t true = alike_steadied limits t
alike_if limits t false = alike_self limits t

in_last : (u v : Wait) (ws : List Wait) → In u (ws ++ (v ∷ [])) → In u ws ⊎ (v ≡ u)
unfolding In
in_last u v [] (inl e) = inr e
in_last u v [] (inr i) = absurd i
in_last u v (w ∷ ws) (inl e) = inl (inl e)
in_last u v (w ∷ ws) (inr i) = go (in_last u v ws i)
  where
    go : In u ws ⊎ (v ≡ u) → ((w ≡ u) ⊎ In u ws) ⊎ (v ≡ u)
    go (inl j) = inl (inr j)
    go (inr e) = inr e

in_others : (u : Wait) (x : ℕ) (ws : List Wait) → In u (others x ws) → In u ws
unfolding In others
in_others u x [] i = i
in_others u x (w ∷ ws) i = both (eqb w.put.thread x) (λ e. inr (in_others u x ws (rw e at i))) (λ e. go (in_others u x ws) (rw e at i))
  where
    go : (In u (others x ws) → In u ws) → (w ≡ u) ⊎ In u (others x ws) → (w ≡ u) ⊎ In u ws
    go ih (inl e) = inl e
    go ih (inr j) = inr (ih j)

agrees_put : (pin : ℕ → Bool) (l : List PutOrTake) (r : Put) → pin r.thread ≡ r.pinned → Agrees pin (who_waits l) → Agrees pin (who_waits (l ++ (a_put r ∷ [])))
agrees_put pin l r e g u i = go (in_last u (at_time (0 + length l) r) (who_waits l) (subst (In u) (waiting_put 0 l r) i))
  where
    go : In u (who_waits l) ⊎ (at_time (0 + length l) r ≡ u) → pin u.put.thread ≡ u.put.pinned
    go (inl j) = g u j
    go (inr f) = rw (← f) e

-- who waits after a put: those before, and the thread put in
put_has : {limit : ℕ} {q q' : Queue} {l : List PutOrTake} (r : Put) → Fits limit q l → Fits limit q' (l ++ (a_put r ∷ [])) → (y : ℕ) → has y (order q') ≡ (has y (order q) || eqb r.thread y)
unfolding threads has
put_has {l = l} r f f' y =
    f'.holds y ∙ rw (waiting_put 0 l r, threads_append, has_append, f.holds y) (both (eqb r.thread y) (λ e. rw e) (λ e. rw e))

-- In what follows: as in Schedule.antt, and the threads known are numbered below the limit.
module _ (limits : Limits) (topology : Topology) (tick us : ℕ) (known : ℕ → Bool) (numbered : (x : ℕ) → known x ≡ true → x < limits.threads) (H : ℕ → List PutOrTake) where
  abbrev put_of : World → ℕ → ℕ → Bool → Put
  put_of w c x current = put_made (pinned (w.threads x)) (w.cpus c).queue (arrival limits topology tick us (w.threads x) x current)

  only_insert : (w : World) (c x : ℕ) (current : Bool)
      → Only limits w (insert_thread limits topology tick us w c x current) c (insert (w.cpus c).queue (arrival limits topology tick us (w.threads x) x current))
      (w.log c ++ (a_put (put_of w c x current) ∷ []))
  unfolding insert_thread noted with_thread with_cpu with_queue
  only_insert w c x current = record {
    queue_here = ap (λ (u : Cpu). u.queue) (at_here w.cpus c _);
    log_here = at_here w.log c _;
    queues = λ d n. ap (λ (u : Cpu). u.queue) (at_there w.cpus c _ d n);
    logs = λ d n. at_there w.log c _ d n;
    running = at_keeps (λ (u : Cpu). u.running) w.cpus c _ refl;
    alike = alike_at limits w.threads x _ (alike_if limits (w.threads x) (is_timeshare (part_for (arrival limits topology tick us (w.threads x) x current))));
  }

  pub sound_insert : (but : ℕ → Bool) (w : World) (c x : ℕ) (current : Bool) → Sound limits known H but w → New limits known but w c x
      → Sound limits known H but (insert_thread limits topology tick us w c x current)
  unfolding arrival put_made
  sound_insert but w c x current d n =
      let a : Arrival = arrival limits topology tick us (w.threads x) x current in
      let r : Put = put_of w c x current in
      let l : List PutOrTake = H c ++ w.log c in
      let e : H c ++ (w.log c ++ (a_put r ∷ [])) ≡ l ++ (a_put r ∷ []) = sym (append_assoc (H c) (w.log c) (a_put r ∷ [])) in
      let k : Kept limits.threads (insert (w.cpus c).queue a) (l ++ (a_put r ∷ [])) =
      kept_put a (pinned (w.threads x)) (d.kept c) (mild_value (d.mild x)) (numbered x n.is_known) (n.nowhere c) in
      sound_only (only_insert w c x current) d (rw e k) (rw e (agrees_put (pinned_in w) l r refl (d.pins c)))
      (λ y h. both (eqb x y) (λ s. inr (rw (← (eqb-true x y s)) n)) (λ s. inl (sym (rw (s, or-false) at (put_has r (d.kept c).fits k.fits y)) ∙ h)))

  -- ---- a take

  -- what is kept of a take, and of the thread that it handed out
  pub record Taken (but : ℕ → Bool) (w : World) (g : Got) : Type 0 where
    pub sound : Sound limits known H but g.world
    pub running : (c : ℕ) → (g.world.cpus c).running ≡ (w.cpus c).running
    pub still_free : (x : ℕ) → Free w x → Free g.world x
    pub handed_free : (x : ℕ) → g.got ≡ Some x → Free g.world x
    pub handed_known : (x : ℕ) → g.got ≡ Some x → known x ≡ true
    pub handed_idle : (x d : ℕ) → g.got ≡ Some x → but d ≡ false → (w.cpus d).running ≢ Some x

  only_none : (w : World) (c : ℕ) (e : PutOrTake) → Only limits w (noted w c e) c (w.cpus c).queue (w.log c ++ (e ∷ []))
  unfolding noted
  only_none w c e = record {
    queue_here = refl;
    log_here = at_here w.log c _;
    queues = λ d n. refl;
    logs = λ d n. at_there w.log c _ d n;
    running = λ d. refl;
    alike = λ x. alike_self limits (w.threads x);
  }

  only_left : (w : World) (c : ℕ) (q : Queue) (said : Priority) (e : PutOrTake)
      → Only limits w (noted (with_cpu w c (with_queue (w.cpus c) q said)) c e) c q (w.log c ++ (e ∷ []))
  unfolding noted with_cpu with_queue
  only_left w c q said e = record {
    queue_here = ap (λ (u : Cpu). u.queue) (at_here w.cpus c _);
    log_here = at_here w.log c _;
    queues = λ d n. ap (λ (u : Cpu). u.queue) (at_there w.cpus c _ d n);
    logs = λ d n. at_there w.log c _ d n;
    running = at_keeps (λ (u : Cpu). u.running) w.cpus c _ refl;
    alike = λ x. alike_self limits (w.threads x);
  }

  -- fewer wait
  only_free : {w v : World} {c : ℕ} {q : Queue} {l : List PutOrTake} (x : ℕ) → Only limits w v c q l → (has x (order q) ≡ true → waits w c x ≡ true) → Free w x → Free v x
  only_free {w} {v} {c} {q} x o h f d =
      both (eqb d c)
      (λ p. rw (eqb-true d c p, o.queue_here) (not_true_is (has x (order q)) (λ t. true≢false (sym (h t) ∙ f c))))
      (λ p. rw (o.queues d (eqb-false d c p)) (f d))

  has_tail : (x y : ℕ) (l m : List ℕ) → l ≡ y ∷ m → has x m ≡ true → has x l ≡ true
  unfolding has
  has_tail x y l m e h = rw (e, h) (both (eqb y x) (λ t. rw t) (λ t. rw t))

  left_not : (y : ℕ) (l m : List ℕ) → Distinct l → l ≡ y ∷ m → has y m ≡ false
  unfolding Distinct
  left_not y l m d e = (rw e at d).0

  handed_taken : (but : ℕ → Bool) (w : World) (c : ℕ) (s : Bool) → Sound limits known H but w → (n : Next) → asked (pinned_in w) (w.cpus c).queue s ≡ n
      → Taken but w (handed_out limits topology tick us w c s n)
  unfolding handed_out
  handed_taken but w c s d nobody a =
      let l : List PutOrTake = H c ++ w.log c in
      let e : H c ++ (w.log c ++ (a_take s None ∷ [])) ≡ l ++ (a_take s None ∷ []) = sym (append_assoc (H c) (w.log c) (a_take s None ∷ [])) in
      let o = only_none w c (a_take s None) in
      record {
        sound = sound_only o d (rw e (kept_none (pinned_in w) s (d.kept c) (d.pins c) a)) (rw (e, waiting_none 0 l s) (d.pins c)) (λ x h. inl h);
        running = o.running;
        still_free = λ x f. only_free x o (λ h. h) f;
        handed_free = λ x g. (λ i. cc);
        handed_known = λ x g. cc;
        handed_idle = λ x i g b r. let z : ◌≡◌ {A = ℕ} 0 1 = cc in omega arith;
      }
  handed_taken but w c s d (next_in p j y) a =
      let l : List PutOrTake = H c ++ w.log c in
      let q : Queue = (w.cpus c).queue in
      let e : H c ++ (w.log c ++ (a_take s (Some y) ∷ [])) ≡ l ++ (a_take s (Some y) ∷ []) = sym (append_assoc (H c) (w.log c) (a_take s (Some y) ∷ [])) in
      let o = only_left w c (leave p q j) (said_after_take p (λ z. (w.threads z).stable.value) (w.cpus c).advertised (leave p q j)) (a_take s (Some y)) in
      let h : Head (pinned_in w) q s p j y = asked_head (pinned_in w) q s p j y (d.kept c).fits.shape a in
      let fewer : (x : ℕ) → has x (order (leave p q j)) ≡ true → waits w c x ≡ true = λ x t. has_tail x y (order q) (order (leave p q j)) h.first t in
      let was : waits w c y ≡ true = rw h.first (has_head y (order (leave p q j))) in
      record {
        sound = sound_only o d (rw e (kept_leave (pinned_in w) s p j y (d.kept c) (d.pins c) a))
            (rw (e, waiting_some 0 l s y) (λ u i. d.pins c u (in_others u y (who_waits l) i))) (λ x t. inl (fewer x t));
        running = o.running;
        still_free = λ x f. only_free x o (fewer x) f;
        handed_free = λ x g i.
            let z : y ≡ x = cc in
            rw (← z)
            (both (eqb i c)
            (λ t. rw (eqb-true i c t, o.queue_here) (left_not y (order q) (order (leave p q j)) (d.kept c).fits.once h.first))
            (λ t. rw (o.queues i (eqb-false i c t)) (not_true_is (waits w i y) (λ u. eqb-false i c t (d.alone i c y u was)))));
        handed_known = λ x g. let z : y ≡ x = cc in rw (← z) (d.placed c y was).1;
        handed_idle = λ x i g b r. let z : y ≡ x = cc in true≢false (sym was ∙ d.free i y b (rw (← z) at r) c);
      }

  pub take_taken : (but : ℕ → Bool) (w : World) (c : ℕ) (s : Bool) → Sound limits known H but w → Taken but w (take_thread limits topology tick us w c s)
  unfolding take_thread
  take_taken but w c s d = handed_taken but w c s d (asked (pinned_in w) (w.cpus c).queue s) refl

  -- ---- `advance_insert_index`

  pub sound_clock : (but : ℕ → Bool) (w : World) → Sound limits known H but w → Sound limits known H but (clock limits topology tick us w)
  unfolding clock with_cpu with_queue
  sound_clock but w d =
      sound_only (record {
        queue_here = ap (λ (u : Cpu). u.queue) (at_here w.cpus us _);
        log_here = refl;
        queues = λ e n. ap (λ (u : Cpu). u.queue) (at_there w.cpus us _ e n);
        logs = λ e n. refl;
        running = at_keeps (λ (u : Cpu). u.running) w.cpus us _ refl;
        alike = λ x. alike_self limits (w.threads x);
      }) d (kept_advance (d.kept us)) (d.pins us) (λ x h. inl (rw (advance_order (w.cpus us).queue) at h))
