-- What every call keeps, and so every list of calls from the start.
use Rattle.std.specs.Prelude.{ℕ, zero, suc, ◌≤◌, ◌<◌, ◌≡◌, Bool, true, false, ◌&&◌, List, [], ◌∷◌, ◌++◌, eqb, ltb, leb, Option, None, Some}
use Rattle.std.proofs.Math.Path.{refl}
use Rattle.std.proofs.Common.{sym, subst, ◌∙◌, true≢false, append_assoc, append-nil, eqb-true, eq-eqb, ltb-true, leb-true, arith}
use Rattle.std.proofs.Math.Bool.{not}
use Rattle.std.proofs.lemmas.Bool.{false≢true, eqb-false, not-true, or_parts}
use Rattle.std.proofs.lemmas.Option.{none-some}
use Rattle.std.specs.Cmp.{first_so, second_so}
use Rattle.rules.specs.Line.{has}
use Rattle.rules.proofs.Laws.Line.{both}
use Rattle.rules.specs.Priority.{nr_values, priority, class_at}
use Rattle.rules.specs.Times.{Thread, pinned, donated_to, critical_at}
use Rattle.rules.specs.Queue.{no_queue, order}
use Rattle.rules.specs.Puts.{PutOrTake}
use Rattle.rules.specs.State.{at, any_below, is_number, Limits, with_shortest, Topology, State, start, new_thread, new_cpu, idle_priority, runs_on, waits_on, blocked}
use Rattle.rules.specs.Schedule.{World}
use Rattle.rules.specs.Requests.{Request, declare_cpu, add_node, place_cpu, seal, set_shortest, declare_thread, set_tick, schedule_thread, schedule, hardtick, stattick, resched, maybe_preempt, donate, remove_donation, set_critical, Reading, read, flags_of}
use Rattle.rules.specs.Questions.{Question, question, sealed_now, declared, cpu_declared, pin_declared, thread_declared, thread_new, priority_in_range, thread_blocked, concerning, first_no, room}
use Rattle.rules.specs.Commands.{Answer, Step, no_log, refuses, changed, world_of, ran, shortened, scheduled_on, schedules, ran_on, obeys, answered, step, after_calls, history}
use Rattle.rules.specs.Ahead.{waiting, who_waits, In}
use Rattle.rules.proofs.Laws.Answered.{by_answer, kept_by_answer, kept_by_calls}
use Rattle.rules.proofs.Laws.Effect.{start_order}
use Rattle.rules.proofs.Laws.Limits.{SameButShortest, same_limits, then_same}
use Rattle.rules.proofs.Laws.Kept.{Kept, kept_start, in_threads}
use Rattle.rules.specs.Waits.{Under}
use Rattle.rules.proofs.Laws.Sound.{Valued, Mild, alike_donated, alike_critical, at_keeps, Sound, Same, sound_same, New, not_true_is}
use Rattle.rules.proofs.Laws.Steps.{nobody_but, select_cpu_selected, ok_scheduled, ok_schedule, ok_hardtick, ok_stattick, ok_resched, ok_maybe_preempt, ok_donate}

-- H: the puts and takes of each CPU's queue so far
pub record Reached (H : ℕ → List PutOrTake) (s : State) : Type 0 where
  pub numbered : (x : ℕ) → s.known x ≡ true → x < s.limits.threads
  pub sound : Sound s.limits s.known H nobody_but (world_of s)

-- ---- at the start

nobody_at_start : (x : ℕ) → has x (order no_queue) ≡ false
unfolding has
nobody_at_start x = rw start_order

pub reached_start : (limits : Limits) → Reached no_log (start limits)
unfolding start world_of no_log new_cpu new_thread idle_priority Under Valued nr_values waiting In
reached_start limits = record {
  numbered = λ x e. absurd (false≢true e);
  sound = record {
    kept = λ c. kept_start limits.threads;
    pins = λ c u i. absurd i;
    mild = λ x. record { own = omega arith; donated = tt; pin = tt; last = tt };
    alone = λ c d x h k. absurd (true≢false (sym h ∙ nobody_at_start x));
    placed = λ c x h. absurd (true≢false (sym h ∙ nobody_at_start x));
    free = λ c x b r d. nobody_at_start x;
    one = λ c d x h k. cc;
    runs = λ c x r. absurd (none-some x r);
  };
}

-- ---- a command that runs on a CPU, and one that does not

module _ {limits : Limits} {known : ℕ → Bool} {H : ℕ → List PutOrTake} {w : World} (d : Sound limits known H nobody_but w) where
  -- the puts and takes of the command join those before it
  pub noted_down : Sound limits known (λ c. H c ++ w.log c) nobody_but (record { cpus = w.cpus; threads = w.threads; log = no_log; wakeups = 0 })
  unfolding no_log
  noted_down = record {
    kept = λ c. rw (append-nil (H c ++ w.log c)) (d.kept c);
    pins = λ c. rw (append-nil (H c ++ w.log c)) (d.pins c);
    mild = d.mild;
    alone = d.alone;
    placed = d.placed;
    free = d.free;
    one = d.one;
    runs = d.runs;
  }

reached_ran : {H : ℕ → List PutOrTake} {s : State} (w : World) (a : Answer) → Reached H s → Sound s.limits s.known H nobody_but w
    → Reached (λ c. H c ++ (ran s w a).log c) (ran s w a).state
unfolding ran world_of
reached_ran w a r d = record { numbered = r.numbered; sound = noted_down d }

reached_changed : {H : ℕ → List PutOrTake} {s : State} (t : Topology) (sealed : Bool) (tick : ℕ) (known : ℕ → Bool) (threads : ℕ → Thread) → Reached H s
    → ((x : ℕ) → known x ≡ true → x < s.limits.threads) → ((x : ℕ) → s.known x ≡ true → known x ≡ true)
    → ((x : ℕ) → s.known x ≡ true → pinned (threads x) ≡ pinned (s.threads x)) → ((x : ℕ) → Mild s.limits (threads x))
    → Reached (λ c. H c ++ (changed s t sealed tick known threads).log c) (changed s t sealed tick known threads).state
unfolding changed world_of
reached_changed {H} {s} t sealed tick known threads r n k p m =
    let d = noted_down r.sound in
    record {
      numbered = n;
      sound = record {
        kept = d.kept;
        pins = λ c u i.
            let x : ℕ = u.put.thread in
            let h : has x (order (s.cpus c).queue) ≡ true = (d.kept c).fits.holds x ∙ in_threads u (who_waits _) i in
            p x (d.placed c x h).1 ∙ d.pins c u i;
        mild = m;
        alone = d.alone;
        placed = λ c x h. ((d.placed c x h).0, k x (d.placed c x h).1);
        free = d.free;
        one = d.one;
        runs = λ c x h. ((d.runs c x h).0, k x (d.runs c x h).1);
      };
    }

-- ---- questions answered yes

pub yes : (n : ℕ) (b : Bool) (l : List Question) → first_no (question (suc n) b ∷ l) ≡ 0 → (b ≡ true) × (first_no l ≡ 0)
unfolding first_no question
yes n b l e = both b (λ t. (t, rw t at e)) (λ t. let z : suc n ≡ 0 = rw t at e in absurd (omega arith))

pub declared_in : (s : State) (c : ℕ) → declared s c ≡ true → c < s.limits.cpus
unfolding declared
declared_in s c e = ltb-true c s.limits.cpus (first_so (ltb c s.limits.cpus) (s.topology.declared c) e)

-- the CPU that runs a command is below the limit
pub runs_below : (s : State) (c : ℕ) (l : List Question) → first_no (sealed_now s ∷ cpu_declared s c ∷ l) ≡ 0 → (c < s.limits.cpus) × (first_no l ≡ 0)
unfolding sealed_now cpu_declared
runs_below s c l e =
    let a = yes 2 s.sealed (question 4 (declared s c) ∷ l) e in
    let b = yes 3 (declared s c) l a.1 in
    (declared_in s c b.0, b.1)

pub value_below : (k v : ℕ) (l : List Question) → first_no (priority_in_range k v ∷ l) ≡ 0 → v < nr_values
unfolding priority_in_range nr_values
value_below k v l e =
    let a = yes 5 (leb k 3 && leb v 127) l e in
    let b : v ≤ 127 = leb-true v 127 (second_so (leb k 3) (leb v 127) a.0) in
    omega arith

-- ---- 12: a blocked thread neither waits nor runs

pub any_not : (n : ℕ) (test : ℕ → Bool) → any_below n test ≡ false → (c : ℕ) → c < n → test c ≡ false
unfolding any_below
any_not zero test e c h = absurd (omega arith)
any_not (suc n) test e c h =
    both (any_below n test)
    (λ t. absurd (true≢false (rw t at e)))
    (λ t. both (eqb c n)
    (λ p. rw (eqb-true c n p) (rw t at e))
    (λ p. let q : ¬ (c ≡ n) = eqb-false c n p in any_not n test t c (omega arith)))

pub number_is : (x : ℕ) (o : Option ℕ) → o ≡ Some x → is_number x o ≡ true
unfolding is_number
number_is x None e = cc
number_is x (Some y) e = let z : y ≡ x = cc in eq-eqb y x z

pub blocked_new : {H : ℕ → List PutOrTake} {s : State} (c x : ℕ) → Reached H s → blocked s x ≡ true → s.known x ≡ true → c < s.limits.cpus
    → New s.limits s.known nobody_but (world_of s) c x
unfolding blocked runs_on waits_on world_of
blocked_new {H} {s} c x r b k h = record {
  nowhere = λ d. not_true_is _ (λ t. true≢false (sym t ∙ (neither d (r.sound.placed d x t).0).1));
  is_known = k;
  near = h;
  runs_not = λ d e t. true≢false (sym (number_is x (s.cpus d).running t) ∙ (neither d (r.sound.runs d x t).0).0);
}
  where
    neither : (d : ℕ) → d < s.limits.cpus → (is_number x (s.cpus d).running ≡ false) × (has x (order (s.cpus d).queue) ≡ false)
    neither d i = or_parts _ _ (any_not s.limits.cpus _ (not-true _ b) d i)

reached_scheduled : {H : ℕ → List PutOrTake} {s : State} (us x : ℕ) (w : World) (o : Option ℕ) → Reached H s → us < s.limits.cpus → s.known x ≡ true → blocked s x ≡ true
    → Same s.limits (world_of s) w → Under s.limits.cpus o → Reached (λ c. H c ++ (scheduled_on s us x w o).log c) (scheduled_on s us x w o).state
unfolding scheduled_on Under
reached_scheduled {H} {s} us x w None r h k b e u = reached_ran w _ r (sound_same e r.sound)
reached_scheduled {H} {s} us x w (Some c) r h k b e u =
    reached_ran _ _ r (ok_scheduled s.limits s.topology s.tick us s.known r.numbered H h (world_of s) w x c r.sound e (blocked_new c x r b k u))

-- ---- each obeyed command

reached_as_it_was : {H : ℕ → List PutOrTake} {s : State} (t : Topology) (sealed : Bool) (tick : ℕ) → Reached H s
    → Reached (λ c. H c ++ (changed s t sealed tick s.known s.threads).log c) (changed s t sealed tick s.known s.threads).state
unfolding world_of
reached_as_it_was {H} {s} t sealed tick r = reached_changed t sealed tick s.known s.threads r r.numbered (λ x e. e) (λ x e. refl) r.sound.mild

reached_thread : {H : ℕ → List PutOrTake} {s : State} (x : ℕ) (t : Thread) → Reached H s → pinned t ≡ pinned (s.threads x) → Mild s.limits t
    → Reached (λ c. H c ++ (changed s s.topology s.sealed s.tick s.known (at s.threads x t)).log c) (changed s s.topology s.sealed s.tick s.known (at s.threads x t)).state
unfolding world_of at
reached_thread {H} {s} x t r p m = reached_changed s.topology s.sealed s.tick s.known (at s.threads x t) r r.numbered (λ y e. e) (λ y e. at_keeps pinned s.threads x t p y)
    (λ y. both (eqb y x) (λ e. rw e m) (λ e. rw e (r.sound.mild y)))

reached_declared : {H : ℕ → List PutOrTake} {s : State} (x : ℕ) (t : Thread) → Reached H s → x < s.limits.threads → s.known x ≡ false → Mild s.limits t
    → Reached (λ c. H c ++ (changed s s.topology s.sealed s.tick (at s.known x true) (at s.threads x t)).log c)
    (changed s s.topology s.sealed s.tick (at s.known x true) (at s.threads x t)).state
unfolding world_of at
reached_declared {H} {s} x t r h n m = reached_changed s.topology s.sealed s.tick (at s.known x true) (at s.threads x t) r
    (λ y. both (eqb y x) (λ e k. rw (eqb-true y x e) h) (λ e k. r.numbered y (rw e at k)))
    (λ y k. both (eqb y x) (λ e. rw e) (λ e. rw e k))
    (λ y k. both (eqb y x) (λ e. absurd (true≢false (sym k ∙ rw (eqb-true y x e) n))) (λ e. rw e))
    (λ y. both (eqb y x) (λ e. rw e m) (λ e. rw e (r.sound.mild y)))

-- a setting that this does not speak of
reached_shortened : {H : ℕ → List PutOrTake} {s : State} (n : ℕ) → Reached H s → Reached H (shortened s n)
unfolding shortened with_shortest world_of
reached_shortened n r = record {
  numbered = r.numbered;
  sound = record {
    kept = r.sound.kept;
    pins = r.sound.pins;
    mild = λ x. let m = r.sound.mild x in record { own = m.own; donated = m.donated; pin = m.pin; last = m.last };
    alone = r.sound.alone;
    placed = r.sound.placed;
    free = r.sound.free;
    one = r.sound.one;
    runs = r.sound.runs;
  };
}

pub pin_in : (s : State) (p : Option ℕ) (l : List Question) → first_no (pin_declared s p ∷ l) ≡ 0 → Under s.limits.cpus p × (first_no l ≡ 0)
unfolding pin_declared cpu_declared Under
pin_in s None l e = (tt, (yes 3 true l e).1)
pin_in s (Some c) l e = let a = yes 3 (declared s c) l e in (declared_in s c a.0, a.1)

module _ {H : ℕ → List PutOrTake} {s : State} (r : Reached H s) where
  abbrev Goes : Request → Type 0
  Goes q = first_no (concerning s q ++ (room s ∷ [])) ≡ 0 → Reached (λ c. H c ++ (obeys s q).log c) (obeys s q).state

  thread_goes : (x k v : ℕ) (p : Option ℕ) → Goes (declare_thread x k v p)
  unfolding concerning obeys sealed_now thread_new new_thread Valued Under
  thread_goes x k v p e =
      let a = yes 2 s.sealed _ e in
      let b = pin_in s p _ a.1 in
      let c = yes 4 (ltb x s.limits.threads && not (s.known x)) _ b.1 in
      reached_declared x (new_thread (priority (class_at k) v) p) r
      (ltb-true x s.limits.threads (first_so (ltb x s.limits.threads) (not (s.known x)) c.0))
      (not-true (s.known x) (second_so (ltb x s.limits.threads) (not (s.known x)) c.0))
      (record { own = value_below k v _ c.1; donated = tt; pin = b.0; last = tt })

  schedule_thread_goes : (c x : ℕ) → Goes (schedule_thread c x)
  unfolding concerning obeys thread_declared thread_blocked schedules
  schedule_thread_goes c x e =
      let a = runs_below s c _ e in
      let b = yes 4 (s.known x) _ a.1 in
      let d = yes 6 (blocked s x) _ b.1 in
      let g = select_cpu_selected s.limits s.topology s.tick c s.known r.numbered H a.0 (world_of s) x None (r.sound.mild x) in
      reached_scheduled c x _ _ r a.0 b.0 d.0 g.same g.under

  donate_goes : (c x k v : ℕ) → Goes (donate c x k v)
  unfolding concerning obeys thread_declared ran_on
  donate_goes c x k v e =
      let a = runs_below s c _ e in
      let b = yes 4 (s.known x) _ a.1 in
      reached_ran _ _ r (ok_donate s.limits s.topology s.tick c s.known r.numbered H a.0 (world_of s) x (priority (class_at k) v) (value_below k v _ b.1) r.sound)

  goes : (q : Request) → Goes q
  unfolding concerning obeys ran_on shortened donated_to critical_at pinned world_of Valued
  goes (declare_cpu c) e = reached_as_it_was _ _ _ r
  goes (add_node p k) e = reached_as_it_was _ _ _ r
  goes (place_cpu n c) e = reached_as_it_was _ _ _ r
  goes seal e = reached_as_it_was _ _ _ r
  goes (set_shortest n) e = reached_as_it_was _ _ _ (reached_shortened n r)
  goes (declare_thread x k v p) e = thread_goes x k v p e
  goes (set_tick t) e = reached_as_it_was _ _ _ r
  goes (schedule_thread c x) e = schedule_thread_goes c x e
  goes (schedule c f) e = reached_ran _ _ r (ok_schedule s.limits s.topology s.tick c s.known r.numbered H (runs_below s c _ e).0 (world_of s) (flags_of f) r.sound)
  goes (hardtick c) e = reached_ran _ _ r (ok_hardtick s.limits s.topology s.tick c s.known r.numbered H (runs_below s c _ e).0 (world_of s) r.sound)
  goes (stattick c n) e = reached_ran _ _ r (ok_stattick s.limits s.topology s.tick c s.known r.numbered H (runs_below s c _ e).0 (world_of s) n r.sound)
  goes (resched c) e = reached_ran _ _ r (ok_resched s.limits s.topology s.tick c s.known r.numbered H (runs_below s c _ e).0 (world_of s) r.sound)
  goes (maybe_preempt c) e = reached_ran _ _ r (ok_maybe_preempt s.limits s.topology s.tick c s.known r.numbered H (runs_below s c _ e).0 (world_of s) r.sound)
  goes (donate c x k v) e = donate_goes c x k v e
  goes (remove_donation x) e = reached_thread x (donated_to (s.threads x) None) r refl ((alike_donated s.limits (s.threads x) None tt).mild_alike (r.sound.mild x))
  goes (set_critical x m) e = reached_thread x (critical_at (s.threads x) (eqb m 1)) r refl ((alike_critical s.limits (s.threads x) (eqb m 1)).mild_alike (r.sound.mild x))

-- ---- each call

reached_refused : {H : ℕ → List PutOrTake} {s : State} (n : ℕ) → Reached H s → Reached (λ c. H c ++ (refuses s n).log c) (refuses s n).state
unfolding refuses world_of
reached_refused n r = record { numbered = r.numbered; sound = noted_down r.sound }

reached_answered : {H : ℕ → List PutOrTake} {s : State} (q : Reading) → Reached H s → Reached (λ c. H c ++ (answered s q).log c) (answered s q).state
reached_answered {H} {s} q r = by_answer (λ (a : Step). Reached (λ c. H c ++ a.log c) a.state) s q (λ n. reached_refused n r) (goes r)

pub reached_step : {H : ℕ → List PutOrTake} {s : State} (bytes : List ℕ) → Reached H s → Reached (λ c. H c ++ (step s bytes).log c) (step s bytes).state
unfolding step
reached_step {H} {s} bytes r = reached_answered (read s.limits bytes) r

-- ---- lists of calls

pub reached_calls : {H : ℕ → List PutOrTake} {s : State} (calls : List (List ℕ)) → Reached H s → Reached (λ c. H c ++ history s calls c) (after_calls s calls)
unfolding after_calls history
reached_calls {H} {s} [] r = subst (λ (L : ℕ → List PutOrTake). Reached L s) (λ i c. sym (append-nil (H c)) i) r
reached_calls {H} {s} (bytes ∷ calls) r =
    subst (λ (L : ℕ → List PutOrTake). Reached L (after_calls (step s bytes).state calls))
    (λ i c. append_assoc (H c) ((step s bytes).log c) (history (step s bytes).state calls c) i)
    (reached_calls {H = λ c. H c ++ (step s bytes).log c} {s = (step s bytes).state} calls (reached_step bytes r))

-- no call changes a limit but the shortest timeslice
limits_on : (s : State) (us x : ℕ) (w : World) (o : Option ℕ) → (scheduled_on s us x w o).state.limits ≡ s.limits
unfolding scheduled_on ran
limits_on s us x w None = refl
limits_on s us x w (Some c) = refl

limits_obeyed : (s : State) (q : Request) → SameButShortest s.limits (obeys s q).state.limits
unfolding obeys changed ran_on ran schedules shortened with_shortest
limits_obeyed s (declare_cpu c) = refl
limits_obeyed s (add_node p k) = refl
limits_obeyed s (place_cpu n c) = refl
limits_obeyed s seal = refl
limits_obeyed s (set_shortest n) = refl
limits_obeyed s (declare_thread x k v p) = refl
limits_obeyed s (set_tick t) = refl
limits_obeyed s (schedule_thread c x) = same_limits (limits_on s c x _ _)
limits_obeyed s (schedule c f) = refl
limits_obeyed s (hardtick c) = refl
limits_obeyed s (stattick c n) = refl
limits_obeyed s (resched c) = refl
limits_obeyed s (maybe_preempt c) = refl
limits_obeyed s (donate c x k v) = refl
limits_obeyed s (remove_donation x) = refl
limits_obeyed s (set_critical x m) = refl

limits_answered : (s : State) (q : Reading) → SameButShortest s.limits (answered s q).state.limits
limits_answered s q = kept_by_answer (λ (v : State). SameButShortest s.limits v.limits) s q (same_limits refl) (λ r e. limits_obeyed s r)

pub limits_step : (s : State) (bytes : List ℕ) → SameButShortest s.limits (step s bytes).state.limits
unfolding step
limits_step s bytes = limits_answered s (read s.limits bytes)

pub limits_kept : (s : State) (calls : List (List ℕ)) → SameButShortest s.limits (after_calls s calls).limits
limits_kept s calls =
    kept_by_calls (λ (v : State). SameButShortest s.limits v.limits) (λ v bytes k. then_same s.limits v.limits (step v bytes).state.limits k (limits_step v bytes)) s calls (same_limits refl)

pub kept_calls : (limits : Limits) (calls : List (List ℕ)) (c : ℕ) → Kept limits.threads ((after_calls (start limits) calls).cpus c).queue (history (start limits) calls c)
unfolding no_log world_of start with_shortest
kept_calls limits calls c =
    let s : State = after_calls (start limits) calls in
    let l : List PutOrTake = history (start limits) calls c in
    let k : Kept s.limits.threads (s.cpus c).queue (l ++ []) = (reached_calls calls (reached_start limits)).sound.kept c in
    subst (λ (m : Limits). Kept m.threads (s.cpus c).queue l) (limits_kept (start limits) calls) (rw (append-nil l) at k)
