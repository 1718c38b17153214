-- `balance`: TWICE THE CHOICES UNTIL ONE MOVES A THREAD, AND THE MOVE, ARE THE RULES' TURNS.
use Prim.Native.Nat.{ℕ, zero, suc, ◌+◌, ◌≤◌, ◌<◌}
use Rattle.std.specs.Prelude.{◌≡◌, ◌⊎◌, Bool, false, ◌&&◌, ◌||◌, List, ltb, is_some}
use Rattle.std.proofs.Math.Path.{refl, ap, subst}
use Rattle.std.proofs.Common.{sym, ◌∙◌, inl, true≢false, arith}
use Rattle.std.proofs.Math.Logic.{inr}
use Rattle.std.proofs.Math.Bool.{true, not}
use Rattle.std.proofs.Math.Dec.{leb}
use borrow.Author.Tests.{ltb-true, ltb-false, lt-ltb, le-leb, lt-leb}
use Rattle.std.specs.Cmp.{first_so, second_so}
use Rattle.rules.proofs.Laws.Line.{both}
use Rattle.rules.specs.Puts.{PutOrTake}
use Rattle.rules.specs.State.{Limits, Topology}
use Rattle.rules.specs.Schedule as sched
use Rattle.rules.specs.Schedule.{World, Balancing}
use Rattle.rules.proofs.Laws.Sound.{Sound}
use Rattle.rules.proofs.Laws.Steps.{nobody_but}
use Rattle.thread.specs.declared.Thread.{Thread}
use Rattle.thread.specs.Thread.{NONE}
use Rattle.represents.specs.World.{Small, WorldRep, most_tick}
use Rattle.topology.specs.CpuSet.{sixteen_all, contains_all, max_cpu_id}
use Rattle.represents.specs.Topology.{TopologyRep}
use Rattle.sched_words.specs.declared.balance.Balancing as step
use Rattle.sched_words.specs.Balance.{begun, moved, is_done, balance_step_def, find_move}
use Rattle.processor.specs.Left.{Words, Left}
use Rattle.records.specs.Left.{Memory, mem}
use Rattle.sched_words.specs.declared.context.Context.{Context}
use Rattle.sched_ticks.specs.Balance.{move_one_def, move_two, balance_def}
use Rattle.sched_laws.specs.Hardtick.{context}
use Rattle.balance_laws.specs.Turns.{going}
use Rattle.balance_laws.proofs.Turns.{rest, step_more, turns_stop, spent}
use Rattle.balance_laws.proofs.Rest.{rest_next}
use Rattle.balance_laws.specs.Move.{Meets}
use Rattle.balance_laws.proofs.Move.{move_none, step_law}
use Rattle.balance_laws.specs.Balance.{BalanceLeft}

-- ---- whether another turn is due

done_is : (g : Bool) (i : ℕ) → (not g || leb 20 i) ≡ not (g && ltb i 20)
done_is false i = refl
done_is true i = both (ltb i 20) (λ e. rw (e, lt-leb 20 i (ltb-true i 20 e))) (λ e. rw (e, le-leb 20 i (ltb-false i 20 e)))

going_on : (B : Balancing) → going B ≡ true → (B.goes_on ≡ true) × (B.steps < 20)
unfolding going
going_on B e = (first_so B.goes_on _ e, ltb-true B.steps 20 (second_so B.goes_on _ e))

done_moves : (b : step.Balancing) → is_some b.moves ≡ true → is_done b ≡ true
unfolding is_done
done_moves b e = ap (λ (t : Bool). t || (not b.goes_on || leb 20 b.steps)) e

found_stops : (n : ℕ) (cs ns : List (List ℕ)) (us limit : ℕ) (b : step.Balancing) → is_done b ≡ true → find_move n ns us limit b cs ≡ record { answer = b; memory = cs }
unfolding find_move
found_stops zero cs ns us limit b e = refl
found_stops (suc n) cs ns us limit b e = rw e

found_goes : (n : ℕ) (cs ns : List (List ℕ)) (us limit : ℕ) (b : step.Balancing) → is_done b ≡ false
    → find_move (suc n) ns us limit b cs ≡ find_move n ns us limit (balance_step_def ns us limit b cs).answer (balance_step_def ns us limit b cs).memory
unfolding find_move
found_goes n cs ns us limit b e = rw e

module _ (limits : Limits) (topology : Topology) (tick us : ℕ) (known : ℕ → Bool) (numbered : (x : ℕ) → known x ≡ true → x < limits.threads) (small : Small limits)
    (early : tick ≤ most_tick) (H : ℕ → List PutOrTake) (us_in : us < limits.cpus) (active : ℕ → Bool) (nodes : List (List ℕ)) (tree : TopologyRep limits nodes topology) where
  abbrev k : Context
  k = context limits tick us

  abbrev next : Balancing → Balancing
  next B = sched.balance_step limits topology tick us B

  abbrev left : Balancing → Balancing
  left B = rest limits topology tick us B

  module _ (base : ℕ) (room : base + 2 ≤ NONE) where
    abbrev BalanceRep : List Thread → List (List ℕ) → ℕ → step.Balancing → Balancing → Type 0
    BalanceRep ts cs n b B = Meets limits topology tick us known numbered small early H us_in active base room ts cs n b B

    met_moved : {ts : List Thread} {cs : List (List ℕ)} {n : ℕ} {b : step.Balancing} {B : Balancing} → BalanceRep ts cs n b B → BalanceRep ts cs n (moved b) B
    unfolding moved
    met_moved m = record { shows = m.shows; safe = m.safe; words = m.words; allowed = m.allowed; steps = m.steps; goes_on = m.goes_on; counted = m.counted; few = m.few }

    done_shown : {ts : List Thread} {cs : List (List ℕ)} {n : ℕ} {b : step.Balancing} {B : Balancing} → BalanceRep ts cs n b B → is_some b.moves ≡ false → is_done b ≡ not (going B)
    unfolding is_done going
    done_shown {b = b} {B = B} m stays =
        ap (λ (t : Bool). t || (not b.goes_on || leb 20 b.steps)) stays ∙ ap (λ (t : Bool). not t || leb 20 b.steps) m.goes_on
        ∙ ap (λ i. not B.goes_on || leb 20 i) m.steps ∙ done_is B.goes_on B.steps

    -- Choices and the move that they came to: the rules have as much left to do as before, and have ended, or made so many steps.
    pub record BalanceAfter (ts : List Thread) (n : ℕ) (s : Left step.Balancing Words) (B : Balancing) (far : ℕ) : Type 0 where
      pub after : Balancing
      pub meets : BalanceRep (move_one_def k s.answer n (mem ts s.memory)).memory.threads (move_one_def k s.answer n (mem ts s.memory)).memory.cpus (move_one_def k s.answer n (mem ts s.memory)).answer s.answer after
      pub same : left B ≡ left after
      pub ends : (going after ≡ false) ⊎ (far ≤ after.steps)

    came_still : {ts : List Thread} {cs : List (List ℕ)} {n : ℕ} {b : step.Balancing} {B : Balancing} (far : ℕ) → BalanceRep ts cs n b B → is_some b.moves ≡ false → going B ≡ false
        → BalanceAfter ts n (record { answer = b; memory = cs }) B far
    came_still {ts} {cs} {n} {b} {B} far m stays e = record {
      after = B;
      meets = subst (λ (u : Left ℕ Memory). BalanceRep u.memory.threads u.memory.cpus u.answer b B) (sym (move_none ts cs k b n stays)) m;
      same = refl;
      ends = inl e;
    }

    pub found_law : (fuel : ℕ) (ts : List Thread) (cs : List (List ℕ)) (n : ℕ) (b : step.Balancing) (B : Balancing) (far : ℕ) → (going B ≡ true → 20 ≤ fuel + B.steps) → (going B ≡ true → far ≤ B.steps + 11)
        → is_some b.moves ≡ false → BalanceRep ts cs n b B → BalanceAfter ts n (find_move fuel nodes us limits.cpus b cs) B far
    found_law zero ts cs n b B far enough most stays m =
        both (going B)
        (λ g. absurd (omega (arith, enough g, (going_on B g).1)))
        (λ g. unfold find_move in came_still far m stays g)
    found_law (suc fuel) ts cs n b B far enough most stays m =
        both (going B)
        (λ g.
        let s : Left step.Balancing Words = balance_step_def nodes us limits.cpus b cs in
        let st = step_law limits topology tick us known numbered small early H us_in active base room nodes tree m stays (m.goes_on ∙ (going_on B g).0) (going_on B g).1 in
        subst (λ (r : Left step.Balancing Words). BalanceAfter ts n r B far) (sym (found_goes fuel cs nodes us limits.cpus b (done_shown m stays ∙ ap not g)))
        (both (is_some s.answer.moves)
        (λ t. subst (λ (r : Left step.Balancing Words). BalanceAfter ts n r B far) (sym (found_stops fuel s.memory nodes us limits.cpus s.answer (done_moves s.answer t)))
        (record { after = next B; meets = st.meets; same = rest_next limits topology tick us B g; ends = inr (omega (arith, most g, st.far t)) }))
        (λ t.
        let c = found_law fuel ts s.memory n s.answer (next B) far
        (λ h. omega (arith, enough g, step_more limits topology tick us B (going_on (next B) h).0))
        (λ h. omega (arith, most g, step_more limits topology tick us B (going_on (next B) h).0)) t
        (subst (λ (u : Left ℕ Memory). BalanceRep u.memory.threads u.memory.cpus u.answer s.answer (next B)) (move_none ts s.memory k s.answer n t) st.meets) in
        record { after = c.after; meets = c.meets; same = rest_next limits topology tick us B g ∙ c.same; ends = c.ends })))
        (λ g. subst (λ (r : Left step.Balancing Words). BalanceAfter ts n r B far) (sym (found_stops (suc fuel) cs nodes us limits.cpus b (done_shown m stays ∙ ap not g))) (came_still far m stays g))

  -- ---- the two rounds

  over : (B : Balancing) (far : ℕ) → 20 ≤ far → (going B ≡ false) ⊎ (far ≤ B.steps) → going B ≡ false
  over B far h (inl e) = e
  over B far h (inr l) = spent limits topology tick us B (omega arith)

  eleven_more : (B : Balancing) → (going B ≡ false) ⊎ (11 ≤ B.steps) → going B ≡ true → 22 ≤ B.steps + 11
  eleven_more B (inl e) g = absurd (true≢false (sym g ∙ e))
  eleven_more B (inr l) g = omega arith

  -- BALANCE
  pub balance_shown : {ts : List Thread} {cs : List (List ℕ)} {w : World} (n : ℕ) → WorldRep limits topology known active ts cs w → Sound limits known H nobody_but w → n ≡ w.wakeups → w.wakeups + 2 ≤ NONE
      → BalanceLeft limits topology known active H (balance_def (context limits tick us) n nodes (mem ts cs)) (sched.balance limits topology tick us w)
  unfolding balance_def move_two context moved begun sched.balance sched.max_steps
  balance_shown {ts} {cs} {w} n s safe e room =
      let B : Balancing = record { world = w; allowed = λ c. true; steps = 0; goes_on = true } in
      let b : step.Balancing = moved begun in
      let m : Meets limits topology tick us known numbered small early H us_in active w.wakeups room ts cs n b B = record {
        shows = s;
        safe = safe;
        words = sixteen_all;
        allowed = λ c h. contains_all c ∙ lt-ltb c max_cpu_id (omega (arith, tree.cpus_fit));
        steps = refl;
        goes_on = refl;
        counted = e;
        few = omega arith;
      } in
      let first = found_law w.wakeups room 20 ts cs n b B 11 (λ g. omega arith) (λ g. omega arith) refl m in
      let s₁ : Left step.Balancing Words = find_move 20 nodes us limits.cpus b cs in
      let m₁ : Left ℕ Memory = move_one_def k s₁.answer n (mem ts s₁.memory) in
      let second = found_law w.wakeups room 20 m₁.memory.threads m₁.memory.cpus m₁.answer (moved s₁.answer) first.after 22 (λ g. omega arith) (eleven_more first.after first.ends) refl
      (met_moved w.wakeups room first.meets) in
      let r : left B ≡ second.after = first.same ∙ second.same ∙ turns_stop limits topology tick us 20 second.after (over second.after 22 (omega arith) second.ends) in
      let u : sched.balance limits topology tick us w ≡ second.after.world = ap (λ (C : Balancing). C.world) r in
      subst (λ (v : World). BalanceLeft limits topology known active H (balance_def (context limits tick us) n nodes (mem ts cs)) v) (sym u)
      (record { shows = second.meets.shows; safe = second.meets.safe; counted = second.meets.counted })
