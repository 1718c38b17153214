-- The first CPU that passes a test, over the numbers of a node and over nodes.
use Rattle.std.specs.Prelude.{ℕ, zero, suc, ◌+◌, ◌-◌, ◌≤◌, ◌<◌, ◌≡◌, Bool, cond, ◌&&◌, eqb, Option, None, Some, is_some, MatchOption}
use Rattle.std.proofs.Math.Path.{refl}
use Rattle.std.proofs.Common.{sym, ap, ◌∙◌, arith}
use Rattle.std.proofs.Math.Bool.{true, false}
use mathlib.Core.List.{List, [], ◌∷◌, ◌++◌}
use Rattle.rules.specs.State.{join_all}
use Rattle.rules.proofs.Laws.Line.{both}
use Rattle.rules.specs.Choice.{first_that}
use Rattle.topology.specs.Words.{word}
use Rattle.topology.specs.Walk.{those_from, to_root, those_turn, those_end, root_turn}

module _ (donor : ℕ → Bool) where
  -- one turn of the loop over the numbers of a node
  pub first_turn : (test : ℕ → Bool) (c to : ℕ) → c < to
      → first_that donor (those_from test c (to - c)) ≡ cond (test c && donor c) (Some c) (first_that donor (those_from test (c + 1) (to - (c + 1))))
  unfolding first_that
  first_turn test c to h =
      rw (those_turn test c to h)
      (both (test c) (λ p. rw p (both (donor c) (λ s. rw s) (λ s. rw s))) (λ p. rw p))

  pub first_end : (test : ℕ → Bool) (c to : ℕ) → to ≤ c → first_that donor (those_from test c (to - c)) ≡ None
  unfolding first_that
  first_end test c to h = rw (those_end test c to h)

  none_from : (test : ℕ → Bool) (n c to : ℕ) → to - c ≡ n → ((k : ℕ) → c ≤ k → k < to → (test k && donor k) ≡ false)
      → first_that donor (those_from test c (to - c)) ≡ None
  none_from test zero c to e h = first_end test c to (omega (arith, e))
  none_from test (suc n) c to e h =
      rw (first_turn test c to (omega (arith, e)), h c (omega arith) (omega (arith, e)))
      (none_from test n (c + 1) to (omega (arith, e)) (λ k p q. h k (omega (arith, p)) q))

  some_from : (test : ℕ → Bool) (n c to i : ℕ) → i - c ≡ n → c ≤ i → i < to → (test i && donor i) ≡ true
      → ((k : ℕ) → c ≤ k → k < i → (test k && donor k) ≡ false)
      → first_that donor (those_from test c (to - c)) ≡ Some i
  some_from test zero c to i e p q y0 n0 =
      let here : c ≡ i = omega (arith, e, p) in
      rw (here, first_turn test i to q, y0) refl
  some_from test (suc n) c to i e p q y0 n0 =
      rw (first_turn test c to (omega (arith, e, q)), n0 c (omega arith) (omega (arith, e)))
      (some_from test n (c + 1) to i (omega (arith, e)) (omega (arith, e)) q y0 (λ k u v. n0 k (omega (arith, u)) v))

  -- the first of the numbers from c up to `to`
  pub first_from : (test : ℕ → Bool) (c to : ℕ) (r : Option ℕ)
      → MatchOption r ((k : ℕ) → c ≤ k → k < to → (test k && donor k) ≡ false)
      (λ i. (c ≤ i) × (i < to) × ((test i && donor i) ≡ true) × ((k : ℕ) → c ≤ k → k < i → (test k && donor k) ≡ false))
      → r ≡ first_that donor (those_from test c (to - c))
  first_from test c to None h = sym (none_from test (to - c) c to refl h)
  first_from test c to (Some i) h = sym (some_from test (i - c) c to i refl h.0 h.1 h.2 h.3)

  first_found : (a b : List ℕ) → is_some (first_that donor a) ≡ true → first_that donor (a ++ b) ≡ first_that donor a
  unfolding first_that
  first_found [] b e = absurd_of e
    where
      absurd_of : {x y : Option ℕ} → false ≡ true → x ≡ y
      absurd_of e = cc
  first_found (c ∷ a) b e = both (donor c) (λ s. rw s) (λ s. rw s (first_found a b (rw s at e)))

  first_not : (a b : List ℕ) → is_some (first_that donor a) ≡ false → first_that donor (a ++ b) ≡ first_that donor b
  unfolding first_that
  first_not [] b e = refl
  first_not (c ∷ a) b e = both (donor c) (λ s. absurd_of (rw s at e)) (λ s. rw s (first_not a b (rw s at e)))
    where
      absurd_of : {x y : Option ℕ} → true ≡ false → x ≡ y
      absurd_of e = cc

  -- one turn of the loop over the nodes: found on this one, or not
  pub first_here : (rows : List (List ℕ)) (cpus : ℕ → List ℕ) (w k n : ℕ) → 0 < k → is_some (first_that donor (cpus n)) ≡ true
      → first_that donor (join_all cpus (to_root rows w k n)) ≡ first_that donor (cpus n)
  unfolding join_all
  first_here rows cpus w k n h e = rw (root_turn rows w k n h) (first_found (cpus n) _ e)

  pub first_on : (rows : List (List ℕ)) (cpus : ℕ → List ℕ) (w k n : ℕ) → 0 < k → is_some (first_that donor (cpus n)) ≡ false
      → first_that donor (join_all cpus (to_root rows w k n)) ≡ cond (eqb n 0) None (first_that donor (join_all cpus (to_root rows w (k - 1) (word rows n w))))
  unfolding join_all first_that
  first_on rows cpus w k n h e =
      rw (root_turn rows w k n h, first_not (cpus n) (join_all cpus (cond (eqb n 0) [] (to_root rows w (k - 1) (word rows n w)))) e)
      (both (eqb n 0) (λ z. rw z) (λ z. rw z))

-- what was found on a node, from the code's answer
pub found_so : (found : Option ℕ) (x : Option ℕ) (r t : Bool) → found ≡ x → r ≡ is_some found → r ≡ t → is_some x ≡ t
found_so found x r t e s u = ap is_some (sym e) ∙ sym s ∙ u
