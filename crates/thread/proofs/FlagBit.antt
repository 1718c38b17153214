-- The bit of the flag, as the code tests and changes it.
use Rattle.std.specs.Prelude.{◌≡◌, ℕ, ◌+◌, ◌-◌, ◌*◌, ◌/◌, ◌%◌, ◌^◌, ◌<◌, not, ◌==◌}
use Rattle.std.specs.Int.Bits.{bit_and, bit_or, or_add_and}
use Rattle.std.specs.Int.{bit_not, w64}
use Rattle.std.proofs.Common.{arith, eqb-true}
use Rattle.std.proofs.lemmas.Bool.{eqb-false}
use Rattle.std.proofs.lemmas.Nat.{and_comm, and-not}
use Rattle.std.proofs.lemmas.Nat.Bits.{and_pow}
use Rattle.rules.proofs.Laws.Line.{both}
use Rattle.thread.specs.Flags.{has_donated_priority, set_donated_priority, reset_donated_priority}

masked : (flags : ℕ) → bit_and flags 2 ≡ flags / 2 % 2 * 2
masked flags = and_pow flags 1

pub has_is : (flags : ℕ) → not (bit_and flags 2 == 0) ≡ has_donated_priority flags
unfolding has_donated_priority
has_is flags = grind (arith, masked flags)

pub set_is : (flags : ℕ) → bit_or flags 2 ≡ set_donated_priority flags
unfolding set_donated_priority has_donated_priority
set_is flags =
    let s : bit_or flags 2 + bit_and flags 2 ≡ flags + 2 = or_add_and flags 2 in
    both (flags / 2 % 2 == 1)
    (λ e. let h : flags / 2 % 2 ≡ 1 = eqb-true _ _ e in rw e (omega (arith, masked flags)))
    (λ e. let h : flags / 2 % 2 ≡ 1 → ⊥ = eqb-false _ _ e in rw e (omega (arith, masked flags)))

pub reset_is : (flags : ℕ) → flags < 2 ^ 64 → bit_and flags (bit_not w64 2) ≡ reset_donated_priority flags
unfolding reset_donated_priority has_donated_priority
reset_is flags f =
    let s : bit_and (2 ^ 64 - 1 - 2) flags + bit_and 2 flags ≡ flags = and-not 64 2 flags (omega arith) f in
    both (flags / 2 % 2 == 1)
    (λ e. let h : flags / 2 % 2 ≡ 1 = eqb-true _ _ e in rw e (omega (arith, masked flags, and_comm 2 flags, and_comm flags (2 ^ 64 - 1 - 2))))
    (λ e. let h : flags / 2 % 2 ≡ 1 → ⊥ = eqb-false _ _ e in rw e (omega (arith, masked flags, and_comm 2 flags, and_comm flags (2 ^ 64 - 1 - 2))))
