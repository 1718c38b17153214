-- The loop of `run`: what is left to feed gives what feeding all gives.
use Rattle.std.proofs.Common.{◌≡◌, ℕ, zero, suc, ◌-◌, ◌<◌, ◌≤◌, Bool, true, false, cond, not, T as Holds, eqb, ltb, List, Result, Ok, Err, sym, refl, ap, subst, ◌∙◌, sub-le, arith, ltb-true}
use borrow.Author.Tests.{eqb-false}
use Rattle.rules.proofs.Laws.Line.{both}
use Rattle.thread.specs.declared.Thread.{Thread}
use Rattle.lines.specs.Lines.{room, refusal_number, buffer_with}
use Rattle.outcome.specs.declared.answer.Answered.{Answered}
use Rattle.outcome.specs.Call.{asked_def}
use Rattle.request.specs.declared.Asked.{Asked}
use Rattle.request.specs.declared.Unread.{Unread}
use Rattle.request.specs.declared.Unread.TheVariants as unread
use Rattle.processor.specs.Left.{Left}
use Rattle.command.specs.Lent.{Lent}
use Rattle.command.specs.Command.{answered_def, command_def}
use Rattle.stream.specs.declared.progress.Progress.{Progress}
use Rattle.stream.specs.Progress.{COMMANDS, not_cut, more, whole, can_answer, must_wait, at_least_one, ends_by, next_at, counted, line_of_def, answered_fed}
use Rattle.stream.specs.Feed.{World, world_of_def, next_def, step_def, run_def}

holds : (t : Bool) → Holds t → t ≡ true
holds true h = refl
holds false h = absurd h

fails : (t : Bool) → Holds (not t) → t ≡ false
fails true h = absurd h
fails false h = refl

cond_false : (t s : Bool) → cond t s false ≡ true → (t ≡ true) × (s ≡ true)
cond_false true s h = (refl, h)
cond_false false s h = let z : false ≡ true = h in (cc, cc)

-- ---- one command, as the loop comes to it: it reads, then it answers or waits

-- what it reads
abbrev pub reading_of_def : List ℕ → ℕ → World → Result Asked Unread
reading_of_def bytes n w = asked_def bytes n w.fed.at w.fed.state.wide

abbrev answer_of_def : List ℕ → ℕ → World → Left Answered Lent
answer_of_def bytes n w = answered_def w.fed.state (reading_of_def bytes n w) (record { threads = w.threads; cpus = w.cpus; nodes = w.nodes })

-- `step_def`, over what was read
abbrev pub stepped : List ℕ → ℕ → World → World
stepped bytes n w =
    world_of_def (answer_of_def bytes n w).memory.threads (answer_of_def bytes n w).memory.cpus (answer_of_def bytes n w).memory.nodes
    (buffer_with w.output w.fed.done (line_of_def (answer_of_def bytes n w).answer w.fed)) (answered_fed w.output n (answer_of_def bytes n w).answer w.fed)

not_waits : (last : Bool) (r : Result Asked Unread) → cond last true (not_cut r) ≡ not (must_wait last r)
unfolding not_cut must_wait
not_waits true (Err unread.Unknown) = refl
not_waits true (Err unread.CutShort) = refl
not_waits true (Ok a) = refl
not_waits false (Err unread.Unknown) = refl
not_waits false (Err unread.CutShort) = refl
not_waits false (Ok a) = refl

-- the test of `run_def`, in the two steps of the loop
more_is : (bytes out : List ℕ) (n : ℕ) (last : Bool) (f : Progress)
    → more bytes out n last f ≡ cond (can_answer out n f) (not (must_wait last (asked_def bytes n f.at f.state.wide))) false
unfolding more whole can_answer
more_is bytes out n last f =
    both (eqb f.phase COMMANDS)
    (λ p. both (ltb f.at n) (λ q. both (room out f.done) (λ r. rw (p, q, r) (not_waits last _)) (λ r. rw (p, q, r))) (λ q. rw (p, q)))
    (λ p. rw p)

more_yes : (bytes : List ℕ) (n : ℕ) (last : Bool) (w : World) → Holds (can_answer w.output n w.fed) → Holds (not (must_wait last (reading_of_def bytes n w)))
    → Holds (more bytes w.output n last w.fed)
more_yes bytes n last w h k =
    let t : can_answer w.output n w.fed ≡ true = holds _ h in
    rw (more_is bytes w.output n last w.fed, t) k

more_waits : (bytes : List ℕ) (n : ℕ) (last : Bool) (w : World) → Holds (must_wait last (reading_of_def bytes n w)) → more bytes w.output n last w.fed ≡ false
more_waits bytes n last w k =
    let u : must_wait last (reading_of_def bytes n w) ≡ true = holds _ k in
    both (can_answer w.output n w.fed) (λ t. rw (more_is bytes w.output n last w.fed, t, u)) (λ t. rw (more_is bytes w.output n last w.fed, t))

more_no : (bytes : List ℕ) (n : ℕ) (last : Bool) (w : World) → Holds (not (can_answer w.output n w.fed)) → more bytes w.output n last w.fed ≡ false
more_no bytes n last w h =
    let t : can_answer w.output n w.fed ≡ false = fails _ h in
    rw (more_is bytes w.output n last w.fed, t)

module _ (bytes : List ℕ) (n : ℕ) (last : Bool) where
  -- a command is asked for only inside the block
  inside : (w : World) → Holds (more bytes w.output n last w.fed) → w.fed.at < n
  unfolding more
  inside w h =
      let m = holds _ h in
      let p = cond_false (eqb w.fed.phase COMMANDS) _ m in
      let q = cond_false (ltb w.fed.at n) _ p.1 in
      ltb-true w.fed.at n q.0

  at_least : (used : ℕ) → 1 ≤ at_least_one used
  unfolding at_least_one
  at_least used = both (eqb used 0) (λ e. rw e (omega arith)) (λ e. rw e (omega (arith, eqb-false used 0 e)))

  -- the run goes on behind the command
  further : (at used : ℕ) (ended : Bool) → at < n → at < next_at n at used ended
  unfolding next_at
  further at used true h = h
  further at used false h = both (ltb (at_least_one used) (n - at)) (λ e. rw e (omega (arith, at_least used))) (λ e. rw e h)

  nearer : (w : World) → Holds (more bytes w.output n last w.fed) → n - (step_def bytes n w).fed.at < n - w.fed.at
  unfolding answered_fed counted
  nearer w h = omega (arith, inside w h, further w.fed.at (next_def bytes n w).answer.used (ends_by w.fed.number (refusal_number (next_def bytes n w).answer.answer.refusal)) (inside w h))

abbrev pub Inv : ℕ → List ℕ → ℕ → Bool → World → World → Type 0
Inv N bytes n last w₀ w = (k : ℕ) × ((run_def k bytes n last w ≡ run_def N bytes n last w₀) × (n - w.fed.at ≤ k))

pub inv_start : (n : ℕ) (bytes : List ℕ) (last : Bool) (w : World) → Inv n bytes n last w w
inv_start n bytes last w = (n, (refl, sub-le n w.fed.at))

run_more : (k : ℕ) (bytes : List ℕ) (n : ℕ) (last : Bool) (w : World) → more bytes w.output n last w.fed ≡ true
    → run_def (suc k) bytes n last w ≡ run_def k bytes n last (step_def bytes n w)
unfolding run_def
run_more k bytes n last w h = rw h

run_over : (k : ℕ) (bytes : List ℕ) (n : ℕ) (last : Bool) (w : World) → more bytes w.output n last w.fed ≡ false → run_def k bytes n last w ≡ w
unfolding run_def
run_over zero bytes n last w h = refl
run_over (suc k) bytes n last w h = rw h

inv_go : (N : ℕ) (bytes : List ℕ) (n : ℕ) (last : Bool) (w₀ w : World) (k : ℕ) → run_def k bytes n last w ≡ run_def N bytes n last w₀ → n - w.fed.at ≤ k
    → Holds (more bytes w.output n last w.fed) → Inv N bytes n last w₀ (step_def bytes n w)
inv_go N bytes n last w₀ w zero e l h = absurd (omega (arith, inside bytes n last w h))
inv_go N bytes n last w₀ w (suc k) e l h = (k, (sym (run_more k bytes n last w (holds _ h)) ∙ e, omega (arith, nearer bytes n last w h)))

inv_over : (N : ℕ) (bytes : List ℕ) (n : ℕ) (last : Bool) (w₀ w : World) → Inv N bytes n last w₀ w
    → more bytes w.output n last w.fed ≡ false → w ≡ run_def N bytes n last w₀
inv_over N bytes n last w₀ w i h = sym (run_over i.0 bytes n last w h) ∙ i.1.0

module _ (N : ℕ) (bytes : List ℕ) (n : ℕ) (last : Bool) (w₀ w : World) (i : Inv N bytes n last w₀ w) where
  -- a turn, and the two ways out of the loop
  pub inv_next : Holds (can_answer w.output n w.fed) → Holds (not (must_wait last (reading_of_def bytes n w))) → Inv N bytes n last w₀ (stepped bytes n w)
  unfolding command_def
  inv_next h k = inv_go N bytes n last w₀ w i.0 i.1.0 i.1.1 (more_yes bytes n last w h k)

  pub inv_waits : Holds (must_wait last (reading_of_def bytes n w)) → w ≡ run_def N bytes n last w₀
  inv_waits k = inv_over N bytes n last w₀ w i (more_waits bytes n last w k)

  pub inv_end : Holds (not (can_answer w.output n w.fed)) → w ≡ run_def N bytes n last w₀
  inv_end h = inv_over N bytes n last w₀ w i (more_no bytes n last w h)

pub inv_near : (bytes : List ℕ) (n : ℕ) (last : Bool) (w : World) → Holds (can_answer w.output n w.fed) → Holds (not (must_wait last (reading_of_def bytes n w)))
    → n - (stepped bytes n w).fed.at < n - w.fed.at
unfolding command_def
inv_near bytes n last w h k = nearer bytes n last w (more_yes bytes n last w h k)

-- ---- a turn of the loop as the calls in it answer: the reading r, the answer a and the memory that is left, the output and how far the run is then
module _ {r : Result Asked Unread} {a : Answered} {ts : List Thread} {cs ns : List (List ℕ)} {out : List ℕ} {g : Progress} (bytes : List ℕ) (n : ℕ) (w : World)
    (read : r ≡ reading_of_def bytes n w)
    (left : ◌≡◌ {A = Left Answered Lent} (record { answer = a; memory = record { threads = ts; cpus = cs; nodes = ns } })
    (answered_def w.fed.state r (record { threads = w.threads; cpus = w.cpus; nodes = w.nodes })))
    (written : out ≡ buffer_with w.output w.fed.done (line_of_def a w.fed)) (on : g ≡ answered_fed w.output n a w.fed) where
  turned : world_of_def ts cs ns out g ≡ stepped bytes n w
  turned =
      let m : ◌≡◌ {A = Left Answered Lent} (record { answer = a; memory = record { threads = ts; cpus = cs; nodes = ns } }) (answer_of_def bytes n w) =
      left ∙ ap (λ (q : Result Asked Unread). answered_def w.fed.state q (record { threads = w.threads; cpus = w.cpus; nodes = w.nodes })) read in
      let b : a ≡ (answer_of_def bytes n w).answer = ap (λ (l : Left Answered Lent). l.answer) m in
      let t : ts ≡ (answer_of_def bytes n w).memory.threads = ap (λ (l : Left Answered Lent). l.memory.threads) m in
      let c : cs ≡ (answer_of_def bytes n w).memory.cpus = ap (λ (l : Left Answered Lent). l.memory.cpus) m in
      let d : ns ≡ (answer_of_def bytes n w).memory.nodes = ap (λ (l : Left Answered Lent). l.memory.nodes) m in
      rw (written, on, b, t, c, d)

  -- what holds of a step holds after the turn
  pub after_turn : (P : World → Type 0) → P (stepped bytes n w) → P (world_of_def ts cs ns out g)
  after_turn P h = subst P (sym turned) h
