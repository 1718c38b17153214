-- 2026-03: "question 9 shall be answered in one pass over the CPU numbers: after numbers 0 to n it is proved to hold the answer for those CPUs alone, got from the
-- answer up to n − 1 and from CPU n. Answers, numbers and states are the ones that document 01 gives." For any limit of CPU numbers.
use Rattle.std.specs.Prelude.{ℕ, zero, suc, ◌≤◌, ◌<◌, ◌≡◌, ◌↔◌, Bool, true, false, eqb}
use Rattle.std.proofs.Common.{◌∙◌, arith, eqb-true}
use Rattle.std.proofs.lemmas.Bool.{eqb-false}
use Rattle.rules.specs.State.{State}
use Rattle.rules.specs.Questions.{question, declared, all_placed_below, placed, all_placed}
use Rattle.rules.proofs.Laws.Line.{both}
use Rattle.rules.proofs.Laws.Seal as laws

-- Which CPU numbers are declared, and which are placed.
module _ (is_declared is_placed : ℕ → Bool) where
  -- What the pass holds after the numbers below n. "got from the answer up to n − 1 and from CPU n" is its definition (Questions, `placed_with`).
  abbrev held : ℕ → Bool
  held = all_placed_below is_declared is_placed

  -- After numbers 0 to n: "is CPU 0 declared and every declared CPU placed?", of CPUs 0 to n.
  pub after_numbers : (n : ℕ) → (held (suc n) ≡ true) ↔ ((is_declared 0 ≡ true) × ((c : ℕ) → c ≤ n → is_declared c ≡ true → is_placed c ≡ true))
  after_numbers n = (laws.yes_says is_declared is_placed n, λ h. laws.says_yes is_declared is_placed n h.0 h.1)

  -- Numbers from m on of which none is declared change nothing.
  pub undeclared_passed : (m n : ℕ) → m ≤ n → ((c : ℕ) → m ≤ c → c < n → is_declared c ≡ false) → held n ≡ held m
  undeclared_passed m zero h d = let e : m ≡ 0 = omega arith in rw e
  undeclared_passed m (suc n) h d =
      both (eqb m (suc n)) (λ e. rw (eqb-true m (suc n) e))
      (λ e.
      let l : m ≤ n = omega (arith, eqb-false m (suc n) e) in
      laws.after_undeclared is_declared is_placed n (d n l (omega arith)) ∙ undeclared_passed m n l (λ c a b. d c a (omega arith)))

-- "the answer for those CPUs alone": where CPUs 0 to n are declared and placed alike it is the same, whatever holds of the others.
pub those_alone : (is_declared is_declared' is_placed is_placed' : ℕ → Bool) (n : ℕ)
    → ((c : ℕ) → c ≤ n → is_declared c ≡ is_declared' c) → ((c : ℕ) → c ≤ n → is_placed c ≡ is_placed' c)
    → all_placed_below is_declared is_placed (suc n) ≡ all_placed_below is_declared' is_placed' (suc n)
those_alone d d' p p' zero h k = rw (laws.after_cpu_0 d p, laws.after_cpu_0 d' p', h 0 (omega arith), k 0 (omega arith))
those_alone d d' p p' (suc n) h k =
    rw (
      laws.after_later d p n,
      laws.after_later d' p' n,
      those_alone d d' p p' n (λ c l. h c (omega arith)) (λ c l. k c (omega arith)),
      h (suc n) (omega arith),
      k (suc n) (omega arith),
    )

-- Question 9 of a state: "is CPU 0 declared and every declared CPU placed?" A declared CPU's number is below the limit.
pub question_9 : (s : State) → ((all_placed s).answer ≡ true) ↔ ((declared s 0 ≡ true) × ((c : ℕ) → declared s c ≡ true → placed s c ≡ true))
unfolding all_placed question declared
question_9 s = laws.below_limit s.topology.declared (placed s) s.limits.cpus
