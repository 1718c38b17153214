-- Lemmas about the pass that answers question 9.
use Prim.Native.Nat.{ℕ, zero, suc, ◌≤◌, ◌<◌}
use Rattle.std.specs.Prelude.{◌≡◌, ◌↔◌, Bool, true, false, not, ◌&&◌, ◌||◌, eqb, ltb}
use Rattle.std.proofs.Common.{sym, ◌∙◌, arith}
use Rattle.std.proofs.lemmas.Bool.{false≢true}
use Rattle.std.proofs.Math.Bool.{and-true}
use borrow.Author.Tests.{eqb-true, eqb-false, ne_eqb, lt-ltb, ltb-true}
use Rattle.std.specs.Cmp.{first_so, second_so}
use Rattle.rules.specs.Questions.{placed_with, all_placed_below}
use Rattle.rules.proofs.Laws.Line.{both}

implies : (a b : Bool) → (not a || b) ≡ true → a ≡ true → b ≡ true
implies true b e h = e
implies false b e h = absurd (false≢true h)

module _ (is_declared is_placed : ℕ → Bool) where
  abbrev held : ℕ → Bool
  held = all_placed_below is_declared is_placed

  pub after_cpu_0 : held 1 ≡ (is_declared 0 && is_placed 0)
  unfolding all_placed_below placed_with
  after_cpu_0 = both (is_declared 0) (λ d. rw d) (λ d. rw d)

  pub after_later : (n : ℕ) → held (suc (suc n)) ≡ (held (suc n) && (not (is_declared (suc n)) || is_placed (suc n)))
  unfolding all_placed_below placed_with
  after_later n = rw (ne_eqb (suc n) 0 (λ e. omega arith))

  pub after_undeclared : (n : ℕ) → is_declared n ≡ false → held (suc n) ≡ held n
  unfolding all_placed_below
  after_undeclared zero d = rw (after_cpu_0, d)
  after_undeclared (suc n) d = rw (after_later n, d) (and-true _)

  pub yes_says : (n : ℕ) → held (suc n) ≡ true → (is_declared 0 ≡ true) × ((c : ℕ) → c ≤ n → is_declared c ≡ true → is_placed c ≡ true)
  yes_says zero e =
      let h : (is_declared 0 && is_placed 0) ≡ true = sym after_cpu_0 ∙ e in
      (first_so _ _ h, λ c l d. let z : c ≡ 0 = omega arith in rw z (second_so (is_declared 0) _ h))
  yes_says (suc n) e =
      let h : (held (suc n) && (not (is_declared (suc n)) || is_placed (suc n))) ≡ true = sym (after_later n) ∙ e in
      let before = yes_says n (first_so _ _ h) in (
        before.0,
        λ c l d.
            both (eqb c (suc n))
            (λ q. let z : c ≡ suc n = eqb-true c (suc n) q in rw z (implies (is_declared (suc n)) (is_placed (suc n)) (second_so (held (suc n)) _ h) (rw z at d)))
            (λ q. before.1 c (omega (arith, eqb-false c (suc n) q)) d),
      )

  pub says_yes : (n : ℕ) → is_declared 0 ≡ true → ((c : ℕ) → c ≤ n → is_declared c ≡ true → is_placed c ≡ true) → held (suc n) ≡ true
  says_yes zero a f = rw (after_cpu_0, a, f 0 (omega arith) a)
  says_yes (suc n) a f =
      rw (after_later n, says_yes n a (λ c l. f c (omega arith)))
      (both (is_declared (suc n)) (λ d. rw (d, f (suc n) (omega arith) d)) (λ d. rw d))

  pub below_limit : (limit : ℕ)
      → (held limit ≡ true) ↔ (((ltb 0 limit && is_declared 0) ≡ true) × ((c : ℕ) → (ltb c limit && is_declared c) ≡ true → is_placed c ≡ true))
  unfolding all_placed_below
  below_limit zero = ((λ e. absurd (false≢true e)), λ h. absurd (false≢true h.0))
  below_limit (suc n) = (
    (λ e.
        let h = yes_says n e in (
          rw (lt-ltb 0 (suc n) (omega arith)) h.0,
          λ c d. h.1 c (let l : c < suc n = ltb-true c (suc n) (first_so _ _ d) in omega arith) (second_so (ltb c (suc n)) _ d),
        )),
    (λ h. says_yes n (second_so (ltb 0 (suc n)) _ h.0) (λ c l d. h.1 c (rw (lt-ltb c (suc n) (omega arith)) d))),
  )
