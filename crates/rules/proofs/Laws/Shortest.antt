-- What an obeyed command does to the shortest timeslice and to the seal, and what it shows before the seal; the timeslice, by its figure and its load.
use Prim.Native.Nat.{ℕ, ◌≤◌, ◌<◌, ◌/◌}
use Rattle.std.proofs.Common.{div-le_self, mul-le-mul_left, arith, ◌∙◌, true≢false}
use Rattle.std.specs.Float.Ieee.Nearest.{div_mono}
use Rattle.std.specs.Prelude.{◌≡◌, cond, not, ◌&&◌, List, [], ◌∷◌, ◌++◌, eqb, ltb, Option, None, Some}
use Rattle.std.proofs.Math.Path.{refl, sym, ap}
use Rattle.std.proofs.Math.Bool.{true, false}
use Rattle.std.proofs.Math.Dec.{leb}
use borrow.Author.Tests.{eqb-true, ne_eqb, leb-true, ltb-true, ltb-false, not-true}
use Rattle.std.specs.Cmp.{first_so, second_so}
use Rattle.rules.specs.declared.PriorityClass.TheVariants as class
use Rattle.rules.specs.Times.{timeslice}
use Rattle.rules.specs.State.{Limits, with_shortest, State}
use Rattle.rules.specs.Schedule.{World}
use Rattle.rules.specs.Requests.{Request, declare_cpu, add_node, place_cpu, seal, set_shortest, declare_thread, set_tick, schedule_thread, schedule, hardtick, stattick, resched, maybe_preempt, donate, remove_donation, set_critical, Reading, asks, operand, at_least, widths, sum, operands, nth, request, read_operands, read}
use Rattle.rules.specs.Questions.{Question, open_yet, sealed_now, least_shortest, most_shortest, shortest_in_range, concerning, first_no, room, refusal}
use Rattle.rules.specs.Commands.{nothing_shown, refuses, changed, ran, shortened, scheduled_on, schedules, ran_on, obeys, answered, step, after_calls}
use Rattle.rules.proofs.Laws.Line.{both}
use Rattle.rules.proofs.Laws.Answered.{kept_by_calls}
use Rattle.rules.proofs.Laws.Reached.{yes}
use Rattle.rules.proofs.Laws.Refused.{answered_number}

-- the figure after a request: its operand if it is hex 05, else the one before
unfoldable figure_after : ℕ → Request → ℕ
figure_after n (declare_cpu c) = n
figure_after n (add_node p k) = n
figure_after n (place_cpu m c) = n
figure_after n seal = n
figure_after n (set_shortest k) = k
figure_after n (declare_thread x k v pin) = n
figure_after n (set_tick t) = n
figure_after n (schedule_thread c x) = n
figure_after n (schedule c f) = n
figure_after n (hardtick c) = n
figure_after n (stattick c t) = n
figure_after n (resched c) = n
figure_after n (maybe_preempt c) = n
figure_after n (donate c x k v) = n
figure_after n (remove_donation x) = n
figure_after n (set_critical x m) = n

abbrev pub InRange : ℕ → Type 0
InRange n = (least_shortest ≤ n) × (n ≤ most_shortest)

-- what holds of an obeyed request
record Obeyed (s : State) (q : Request) : Type 0 where
  figure : (obeys s q).state.limits.shortest ≡ figure_after s.limits.shortest q
  in_range : InRange s.limits.shortest → InRange (figure_after s.limits.shortest q)
  sealed_keeps : s.sealed ≡ true → figure_after s.limits.shortest q ≡ s.limits.shortest
  stays_sealed : s.sealed ≡ true → (obeys s q).state.sealed ≡ true
  before : s.sealed ≡ false → (obeys s q).answer ≡ nothing_shown 0

module _ (s : State) where
  -- after the seal: the figure stays, and there is no such request before it
  after : (q : Request) (l : List Question) → first_no (sealed_now s ∷ l) ≡ 0 → (obeys s q).state.limits.shortest ≡ s.limits.shortest
      → (obeys s q).state.sealed ≡ s.sealed → figure_after s.limits.shortest q ≡ s.limits.shortest → Obeyed s q
  unfolding sealed_now
  after q l e f g h =
      let t : s.sealed ≡ true = (yes 2 s.sealed l e).0 in
      record { figure = f ∙ sym h; in_range = λ r. rw h r; sealed_keeps = λ u. h; stays_sealed = λ u. g ∙ u; before = λ u. absurd (true≢false (sym t ∙ u)) }

  limits_on : (us x : ℕ) (w : World) (o : Option ℕ) → ((scheduled_on s us x w o).state.limits.shortest ≡ s.limits.shortest) × ((scheduled_on s us x w o).state.sealed ≡ s.sealed)
  unfolding scheduled_on ran
  limits_on us x w None = (refl, refl)
  limits_on us x w (Some c) = (refl, refl)

  set_goes : (n : ℕ) → first_no (concerning s (set_shortest n) ++ (room s ∷ [])) ≡ 0 → Obeyed s (set_shortest n)
  unfolding concerning open_yet shortest_in_range obeys changed shortened with_shortest figure_after
  set_goes n e =
      let a = yes 2 (not s.sealed) _ e in
      let b = yes 5 (leb least_shortest n && leb n most_shortest) _ a.1 in
      let unsealed : s.sealed ≡ false = not-true s.sealed a.0 in
      record {
        figure = refl;
        in_range = λ r. (leb-true _ _ (first_so (leb least_shortest n) (leb n most_shortest) b.0), leb-true _ _ (second_so (leb least_shortest n) (leb n most_shortest) b.0));
        sealed_keeps = λ t. absurd (true≢false (sym t ∙ unsealed));
        stays_sealed = λ t. t;
        before = λ t. refl;
      }

  goes : (q : Request) → first_no (concerning s q ++ (room s ∷ [])) ≡ 0 → Obeyed s q
  unfolding concerning obeys changed ran_on ran schedules figure_after
  goes (declare_cpu c) e = record { figure = refl; in_range = λ r. r; sealed_keeps = λ t. refl; stays_sealed = λ t. t; before = λ t. refl }
  goes (add_node p k) e = record { figure = refl; in_range = λ r. r; sealed_keeps = λ t. refl; stays_sealed = λ t. t; before = λ t. refl }
  goes (place_cpu n c) e = record { figure = refl; in_range = λ r. r; sealed_keeps = λ t. refl; stays_sealed = λ t. t; before = λ t. refl }
  goes seal e = record { figure = refl; in_range = λ r. r; sealed_keeps = λ t. refl; stays_sealed = λ t. refl; before = λ t. refl }
  goes (set_shortest n) e = set_goes n e
  goes (declare_thread x k v pin) e = after _ _ e refl refl refl
  goes (set_tick t) e = after _ _ e refl refl refl
  goes (schedule_thread c x) e = after _ _ e (limits_on c x _ _).0 (limits_on c x _ _).1 refl
  goes (schedule c f) e = after _ _ e refl refl refl
  goes (hardtick c) e = after _ _ e refl refl refl
  goes (stattick c n) e = after _ _ e refl refl refl
  goes (resched c) e = after _ _ e refl refl refl
  goes (maybe_preempt c) e = after _ _ e refl refl refl
  goes (donate c x k v) e = after _ _ e refl refl refl
  goes (remove_donation x) e = after _ _ e refl refl refl
  goes (set_critical x m) e = after _ _ e refl refl refl

-- ---- hex 05 among the bytes

figure_asked : (l : Limits) (n byte : ℕ) (v : List ℕ) → figure_after n (request l byte v) ≡ cond (eqb byte 0x05) (nth 0 v) n
unfolding request figure_after
figure_asked l n byte v = both (eqb byte 0x01) (λ e. rw (eqb-true byte 0x01 e)) (λ e. rw e (both (eqb byte 0x02) (λ e. rw (eqb-true byte 0x02 e)) (λ e. rw e (both (eqb byte 0x03) (λ e. rw (eqb-true byte 0x03 e)) (λ e. rw e
    (both (eqb byte 0x04) (λ e. rw (eqb-true byte 0x04 e)) (λ e. rw e (both (eqb byte 0x05) (λ e. rw e) (λ e. rw e (both (eqb byte 0x10) (λ e. rw e) (λ e. rw e (both (eqb byte 0x11) (λ e. rw e) (λ e. rw e
    (both (eqb byte 0x12) (λ e. rw e) (λ e. rw e (both (eqb byte 0x13) (λ e. rw e) (λ e. rw e (both (eqb byte 0x14) (λ e. rw e) (λ e. rw e (both (eqb byte 0x15) (λ e. rw e) (λ e. rw e
    (both (eqb byte 0x16) (λ e. rw e) (λ e. rw e (both (eqb byte 0x17) (λ e. rw e) (λ e. rw e (both (eqb byte 0x18) (λ e. rw e) (λ e. rw e (both (eqb byte 0x19) (λ e. rw e) (λ e. rw e)))))))))))))))))))))))))))))

first_operand : (l : Limits) (n byte : ℕ) (ns bytes : List ℕ) → widths l byte ≡ Some ns → cond (eqb byte 0x05) (nth 0 (operands ns bytes)) n ≡ cond (eqb byte 0x05) (operand 1 bytes) n
unfolding widths nth operands
first_operand l n byte ns bytes h =
    both (eqb byte 0x05)
    (λ e.
    let five : byte ≡ 0x05 = eqb-true byte 0x05 e in
    let row : Some (1 ∷ []) ≡ Some ns = rw five at h in
    let is : ns ≡ 1 ∷ [] = cc in
    rw (e, is))
    (λ e. rw e)

-- ---- a call

-- what holds of a reading
pub record Read (s : State) (q : Reading) (figure : ℕ) : Type 0 where
  pub becomes : (answered s q).state.limits.shortest ≡ cond (eqb (refusal s q) 0) figure s.limits.shortest
  pub in_range : InRange s.limits.shortest → InRange (answered s q).state.limits.shortest
  pub sealed_keeps : s.sealed ≡ true → (answered s q).state.limits.shortest ≡ s.limits.shortest
  pub stays_sealed : s.sealed ≡ true → (answered s q).state.sealed ≡ true
  pub before : s.sealed ≡ false → (answered s q).answer ≡ nothing_shown (refusal s q)

module _ (s : State) where
  read_asks : (q : Request) (used k : ℕ) → figure_after s.limits.shortest q ≡ k → Read s (asks q used) k
  unfolding answered refuses refusal
  read_asks q used k h =
      let n : ℕ = first_no (concerning s q ++ (room s ∷ [])) in
      both (eqb n 0)
      (λ e.
      let z : n ≡ 0 = eqb-true n 0 e in
      let o : Obeyed s q = goes s q z in
      record {
        becomes = rw e (o.figure ∙ h);
        in_range = λ r. rw (e, o.figure) (o.in_range r);
        sealed_keeps = λ t. rw e (o.figure ∙ o.sealed_keeps t);
        stays_sealed = λ t. rw e (o.stays_sealed t);
        before = λ t. rw e (o.before t ∙ ap nothing_shown (sym z));
      })
      (λ e. record { becomes = rw e; in_range = λ r. rw e r; sealed_keeps = λ t. rw e; stays_sealed = λ t. rw e t; before = λ t. rw e })

  read_call : (byte : ℕ) (bytes : List ℕ) (o : Option (List ℕ)) → widths s.limits byte ≡ o
      → Read s (read_operands s.limits byte bytes o) (cond (eqb byte 0x05) (operand 1 bytes) s.limits.shortest)
  unfolding read_operands
  read_call byte bytes None h = unfold answered refuses refusal in record { becomes = refl; in_range = λ r. r; sealed_keeps = λ t. refl; stays_sealed = λ t. t; before = λ t. refl }
  read_call byte bytes (Some ns) h =
      both (at_least (sum ns) bytes)
      (λ e. rw e (read_asks _ _ _ (figure_asked s.limits s.limits.shortest byte (operands ns bytes) ∙ first_operand s.limits s.limits.shortest byte ns bytes h)))
      (λ e. rw e (unfold answered refuses refusal in record { becomes = refl; in_range = λ r. r; sealed_keeps = λ t. refl; stays_sealed = λ t. t; before = λ t. refl }))

  pub read_bytes : (byte : ℕ) (bytes : List ℕ) → Read s (read s.limits (byte ∷ bytes)) (cond (eqb byte 0x05) (operand 1 bytes) s.limits.shortest)
  unfolding read
  read_bytes byte bytes = read_call byte bytes (widths s.limits byte) refl

  pub read_nothing : Read s (read s.limits []) s.limits.shortest
  unfolding read
  read_nothing = unfold answered refuses refusal in record { becomes = refl; in_range = λ r. r; sealed_keeps = λ t. refl; stays_sealed = λ t. t; before = λ t. refl }

-- what does not depend on the bytes
pub record Stepped (s : State) (bytes : List ℕ) : Type 0 where
  pub in_range : InRange s.limits.shortest → InRange (step s bytes).state.limits.shortest
  pub sealed_keeps : s.sealed ≡ true → (step s bytes).state.limits.shortest ≡ s.limits.shortest
  pub stays_sealed : s.sealed ≡ true → (step s bytes).state.sealed ≡ true
  pub before : s.sealed ≡ false → (step s bytes).answer ≡ nothing_shown (step s bytes).answer.refused

pub read_any : (s : State) (bytes : List ℕ) → Stepped s bytes
unfolding step
read_any s [] = let r = read_nothing s in record {
  in_range = r.in_range;
  sealed_keeps = r.sealed_keeps;
  stays_sealed = r.stays_sealed;
  before = λ t. r.before t ∙ ap nothing_shown (sym (answered_number s (read s.limits [])));
}
read_any s (byte ∷ bytes) = let r = read_bytes s byte bytes in record {
  in_range = r.in_range;
  sealed_keeps = r.sealed_keeps;
  stays_sealed = r.stays_sealed;
  before = λ t. r.before t ∙ ap nothing_shown (sym (answered_number s (read s.limits (byte ∷ bytes))));
}

-- the figure after a call
pub no_call : (s : State) → (step s []).state.limits.shortest ≡ s.limits.shortest
unfolding step read answered refuses
no_call s = refl

pub one_call : (s : State) (byte : ℕ) (bytes : List ℕ)
    → (step s (byte ∷ bytes)).state.limits.shortest ≡ cond (eqb (step s (byte ∷ bytes)).answer.refused 0) (cond (eqb byte 0x05) (operand 1 bytes) s.limits.shortest) s.limits.shortest
unfolding step
one_call s byte bytes =
    (read_bytes s byte bytes).becomes
    ∙ ap (λ (r : ℕ). cond (eqb r 0) (cond (eqb byte 0x05) (operand 1 bytes) s.limits.shortest) s.limits.shortest) (sym (answered_number s (read s.limits (byte ∷ bytes))))

-- ---- lists of calls

pub range_calls : (s : State) (calls : List (List ℕ)) → InRange s.limits.shortest → InRange (after_calls s calls).limits.shortest
range_calls s calls r = kept_by_calls (λ (v : State). InRange v.limits.shortest) (λ v bytes k. (read_any v bytes).in_range k) s calls r

pub sealed_calls : (s : State) (calls : List (List ℕ)) → s.sealed ≡ true → (after_calls s calls).limits.shortest ≡ s.limits.shortest
sealed_calls s calls t =
    (kept_by_calls (λ (v : State). (v.sealed ≡ true) × (v.limits.shortest ≡ s.limits.shortest))
    (λ v bytes k. ((read_any v bytes).stays_sealed k.0, (read_any v bytes).sealed_keeps k.0 ∙ k.1)) s calls (t, refl)).1

-- ---- the timeslice

module _ (shortest : ℕ) where
  abbrev slice : ℕ → ℕ
  slice load = timeslice shortest class.User load

  -- the larger of the figure and 32 / load
  larger : (load : ℕ) → 0 < load → slice load ≡ cond (ltb (32 / load) shortest) shortest (32 / load)
  unfolding timeslice
  larger load h = rw (ne_eqb load 0 (omega arith))

  pub slice_least : (load : ℕ) → 0 < load → shortest ≤ slice load
  slice_least load h = rw (larger load h) (both (ltb (32 / load) shortest) (λ e. rw e (omega arith)) (λ e. rw e (ltb-false _ _ e)))

  quotient_least : (load : ℕ) → 0 < load → 32 / load ≤ slice load
  quotient_least load h = rw (larger load h) (both (ltb (32 / load) shortest) (λ e. rw e (let f : 32 / load < shortest = ltb-true _ _ e in omega arith)) (λ e. rw e (omega arith)))

  -- what is at least the figure and 32 / load
  within : (load most : ℕ) → 0 < load → shortest ≤ most → 32 / load ≤ most → slice load ≤ most
  within load most h r k = rw (larger load h) (both (ltb (32 / load) shortest) (λ e. rw e r) (λ e. rw e k))

  pub slice_most : shortest ≤ most_shortest → (load : ℕ) → 0 < load → slice load ≤ 32
  unfolding most_shortest
  slice_most r load h = within load 32 h r (div-le_self 32 load)

  pub slice_falls : (load more : ℕ) → 0 < load → load ≤ more → slice more ≤ slice load
  slice_falls load more h k =
      let fewer : 32 / more ≤ 32 / load = div_mono 32 more 32 load (omega arith) h (mul-le-mul_left 32 k) in
      within more (slice load) (omega arith) (slice_least load h) (omega (arith, quotient_least load h))
