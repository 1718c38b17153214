-- The flag of thread/flags.rs that the scheduler asks: bit 1 of the flags.
use Rattle.std.specs.Prelude.{ℕ, ◌+◌, ◌-◌, ◌/◌, ◌%◌, ◌≡◌, Bool, true, false, cond, eqb}
use Rattle.std.proofs.Common.{arith, eqb-true, eq-eqb, ne_eqb}
use Rattle.std.proofs.lemmas.Bool.{eqb-false}
use Rattle.rules.proofs.Laws.Line.{both}

unfoldable pub has_donated_priority : ℕ → Bool
has_donated_priority flags = eqb (flags / 2 % 2) 1

-- with that bit 1, and with that bit 0
unfoldable pub set_donated_priority : ℕ → ℕ
set_donated_priority flags = cond (has_donated_priority flags) flags (flags + 2)

unfoldable pub reset_donated_priority : ℕ → ℕ
reset_donated_priority flags = cond (has_donated_priority flags) (flags - 2) flags

pub has_set : (flags : ℕ) → has_donated_priority (set_donated_priority flags) ≡ true
unfolding has_donated_priority set_donated_priority
has_set flags =
    both (eqb (flags / 2 % 2) 1) (λ e. rw e e)
    (λ e. let n : flags / 2 % 2 ≡ 1 → ⊥ = eqb-false _ _ e in
    rw e (eq-eqb ((flags + 2) / 2 % 2) 1 (omega arith)))

pub has_reset : (flags : ℕ) → has_donated_priority (reset_donated_priority flags) ≡ false
unfolding has_donated_priority reset_donated_priority
has_reset flags =
    both (eqb (flags / 2 % 2) 1)
    (λ e. let p : flags / 2 % 2 ≡ 1 = eqb-true _ _ e in
    rw e (ne_eqb _ _ (λ z. let y : (flags - 2) / 2 % 2 ≡ 1 = z in omega arith)))
    (λ e. rw e e)
