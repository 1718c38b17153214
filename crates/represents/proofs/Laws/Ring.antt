-- A ring of numbers, each with the next and the one before: where one is put in before another.
use Rattle.std.specs.Prelude.{ℕ, zero, suc, ◌<◌, ◌≡◌, refl, true, ◌||◌, eqb, length}
use Rattle.std.proofs.Math.Path.{sym, ap}
use Rattle.std.proofs.Common.{◌∙◌, true≢false, arith}
use Rattle.std.proofs.Math.Bool.{false}
use Rattle.std.proofs.lemmas.Bool.{false≢true}
use mathlib.Core.List.{List, [], ◌∷◌, ◌++◌}
use borrow.Author.Tests.{eqb-true, eqb-false, eq-eqb, ne_eqb}
use Rattle.rules.specs.Line.{has, Distinct}
use Rattle.rules.proofs.Laws.Line.{both}
use Rattle.topology.specs.Words.{word}
use Rattle.topology.specs.Walk.{to_root}
use Rattle.represents.proofs.Laws.NumberLists.{ins, ins_none}
use Rattle.represents.specs.Topology.{Ring}

-- links that agree
pub linked_same : (next prev next' prev' : ℕ → ℕ) → ((z : ℕ) → next' z ≡ next z) → ((z : ℕ) → prev' z ≡ prev z) → (l : List ℕ) (x e : ℕ) → Ring next prev x l e → Ring next' prev' x l e
unfolding Ring
linked_same next prev next' prev' a b [] x e s = (a x ∙ s.0, b e ∙ s.1)
linked_same next prev next' prev' a b (y ∷ l) x e s = (a x ∙ s.0, (b y ∙ s.1.0, linked_same next prev next' prev' a b l y e s.1.1))

-- the walk along a word up to the root
pub linked_walk : (rows : List (List ℕ)) (w : ℕ) (prev : ℕ → ℕ) (l : List ℕ) (x k : ℕ) → Ring (λ z. word rows z w) prev x l 0 → has 0 l ≡ false → length l < k
    → to_root rows w k (word rows x w) ≡ l ++ (0 ∷ [])
unfolding Ring has to_root
linked_walk rows w prev [] x zero s h b = absurd (omega arith)
linked_walk rows w prev [] x (suc k) s h b = rw s.0
linked_walk rows w prev (y ∷ l) x zero s h b = absurd (omega arith)
linked_walk rows w prev (y ∷ l) x (suc k) s h b =
    both (eqb y 0) (λ e. absurd (true≢false (rw e at h)))
    (λ e. rw (s.0, e) (ap (λ (m : List ℕ). y ∷ m) (linked_walk rows w prev l y k s.1.1 (rw e at h) (omega arith))))

module _ (next prev : ℕ → ℕ) where
  -- the next of the one before is oneself
  pub linked_back : (l : List ℕ) (x e p : ℕ) → Ring next prev x l e → has p l ≡ true → next (prev p) ≡ p
  unfolding Ring has
  linked_back [] x e p s h = absurd (false≢true h)
  linked_back (y ∷ l) x e p s h =
      both (eqb y p) (λ q. rw (← eqb-true y p q, s.1.0, s.0)) (λ q. linked_back l y e p s.1.1 (rw q at h))

  pub linked_back_end : (l : List ℕ) (x e : ℕ) → Ring next prev x l e → next (prev e) ≡ e
  unfolding Ring
  linked_back_end [] x e s = rw (s.1, s.0)
  linked_back_end (y ∷ l) x e s = linked_back_end l y e s.1.1

  -- the one before somebody in the ring is in the ring
  pub linked_prev : (P : ℕ → Type 0) (l : List ℕ) (x e p : ℕ) → Ring next prev x l e → P x → ((y : ℕ) → has y l ≡ true → P y) → has p l ≡ true → P (prev p)
  unfolding Ring has
  linked_prev P [] x e p s a b h = absurd (false≢true h)
  linked_prev P (y ∷ l) x e p s a b h =
      both (eqb y p) (λ q. rw (← eqb-true y p q, s.1.0) a)
      (λ q. linked_prev P l y e p s.1.1 (b y (rw (eq-eqb y y refl))) (λ z m. b z (rw m (both (eqb y z) (λ r. rw r) (λ r. rw r)))) (rw q at h))

  pub linked_prev_end : (P : ℕ → Type 0) (l : List ℕ) (x e : ℕ) → Ring next prev x l e → P x → ((y : ℕ) → has y l ≡ true → P y) → P (prev e)
  unfolding Ring has
  linked_prev_end P [] x e s a b = rw s.1 a
  linked_prev_end P (y ∷ l) x e s a b =
      linked_prev_end P l y e s.1.1 (b y (rw (eq-eqb y y refl))) (λ z m. b z (rw m (both (eqb y z) (λ r. rw r) (λ r. rw r))))

  -- n is put in before p, behind q
  module _ (next' prev' : ℕ → ℕ) (n p q : ℕ) (back : prev p ≡ q) (forth : next q ≡ p) (n_next : next' n ≡ p) (q_next : next' q ≡ n)
      (next_else : (z : ℕ) → (z ≡ n → ⊥) → (z ≡ q → ⊥) → next' z ≡ next z) (p_prev : prev' p ≡ n) (n_prev : prev' n ≡ q)
      (prev_else : (z : ℕ) → (z ≡ n → ⊥) → (z ≡ p → ⊥) → prev' z ≡ prev z) where
    -- one whose next is not p is not q
    next_kept : (x y : ℕ) → (x ≡ n → ⊥) → next x ≡ y → (y ≡ p → ⊥) → next' x ≡ y
    next_kept x y a e d = next_else x a (λ r. d (sym e ∙ ap next r ∙ forth)) ∙ e

    not_in : (x y : ℕ) (l : List ℕ) → (eqb y x || has x l) ≡ false → y ≡ x → ⊥
    not_in x y l h r = true≢false (rw (eq-eqb y x r) at h)

    -- what does not name p stays
    linked_kept : (l : List ℕ) (x e : ℕ) → Ring next prev x l e → (x ≡ n → ⊥) → has n l ≡ false → (e ≡ n → ⊥) → has p l ≡ false → (e ≡ p → ⊥) → Ring next' prev' x l e
    unfolding Ring has
    linked_kept [] x e s a b c d f = (next_kept x e a s.0 f, prev_else e c f ∙ s.1)
    linked_kept (y ∷ l) x e s a b c d f =
        let yn : y ≡ n → ⊥ = not_in n y l b in
        let yp : y ≡ p → ⊥ = not_in p y l d in (
          next_kept x y a s.0 yp,
          (
            prev_else y yn yp ∙ s.1.0,
            linked_kept l y e s.1.1 yn (rw (ne_eqb y n yn) at b) c (rw (ne_eqb y p yp) at d) f,
          ),
        )

    pub linked_ins : (l : List ℕ) (x e : ℕ) → Ring next prev x l e → Distinct l → (x ≡ n → ⊥) → has n l ≡ false → (e ≡ n → ⊥) → has p l ≡ true → (e ≡ p → ⊥)
        → Ring next' prev' x (ins n p l) e
    unfolding Ring has ins Distinct
    linked_ins [] x e s u a b c d f = absurd (false≢true d)
    linked_ins (y ∷ l) x e s u a b c d f =
        let yn : y ≡ n → ⊥ = not_in n y l b in
        both (eqb y p)
        (λ r.
        let t : y ≡ p = eqb-true y p r in
        let g : has p l ≡ false = rw t at u.0 in
        let w : x ≡ q = sym s.1.0 ∙ ap prev t ∙ back in
        rw (r, ins_none n p l g)
        (ap next' w ∙ q_next, (n_prev ∙ sym w, (n_next ∙ sym t, (ap prev' t ∙ p_prev, linked_kept l y e s.1.1 yn (rw (ne_eqb y n yn) at b) c g f)))))
        (λ r. rw r (
          next_kept x y a s.0 (eqb-false y p r),
          (
            prev_else y yn (eqb-false y p r) ∙ s.1.0,
            linked_ins l y e s.1.1 u.1 yn (rw (ne_eqb y n yn) at b) c (rw r at d) f,
          ),
        ))

    pub linked_end : (l : List ℕ) (x e : ℕ) → Ring next prev x l e → (x ≡ n → ⊥) → has n l ≡ false → has p l ≡ false → e ≡ p → Ring next' prev' x (l ++ (n ∷ [])) e
    unfolding Ring has
    linked_end [] x e s a b d f =
        let w : x ≡ q = sym s.1 ∙ ap prev f ∙ back in
        (ap next' w ∙ q_next, (n_prev ∙ sym w, (n_next ∙ sym f, ap prev' f ∙ p_prev)))
    linked_end (y ∷ l) x e s a b d f =
        let yn : y ≡ n → ⊥ = not_in n y l b in
        let yp : y ≡ p → ⊥ = not_in p y l d in
        (next_kept x y a s.0 yp, (prev_else y yn yp ∙ s.1.0, linked_end l y e s.1.1 yn (rw (ne_eqb y n yn) at b) (rw (ne_eqb y p yp) at d) f))
