-- A test computed over all numbers below an end, and what it says of each of them.
use Rattle.std.specs.Prelude.{ℕ, zero, suc, ◌<◌, ◌≡◌, Bool, true, false, ◌&&◌, eqb}
use Rattle.std.proofs.Common.{arith, eqb-true}
use Rattle.std.proofs.lemmas.Bool.{eqb-false}
use Rattle.rules.proofs.Laws.Line.{both}

unfoldable pub all_below : ℕ → (ℕ → Bool) → Bool
all_below zero test = true
all_below (suc n) test = all_below n test && test n

pub at_below : (n : ℕ) (test : ℕ → Bool) → all_below n test ≡ true → (k : ℕ) → k < n → test k ≡ true
unfolding all_below
at_below zero test h k l = absurd (omega arith)
at_below (suc n) test h k l =
    both (all_below n test) (λ p. both (eqb k n)
    (λ e. rw (eqb-true k n e) (rw p at h))
    (λ e. at_below n test p k (omega (arith, eqb-false k n e))))
    (λ p. let z : false ≡ true = rw p at h in cc)
