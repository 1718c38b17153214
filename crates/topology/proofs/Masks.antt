-- A bit of a word, as the code tests and changes it by a mask.
use Rattle.std.specs.Prelude.{◌≡◌, ℕ, ◌+◌, ◌-◌, ◌/◌, ◌%◌, ◌^◌, ◌<◌, true, false, not, ◌==◌}
use Rattle.std.specs.Int.Bits.{bit_and, bit_or, or_add_and}
use Rattle.std.proofs.Common.{arith, eqb-true, ne_eqb, pow_pos}
use Rattle.std.proofs.lemmas.Bool.{eqb-false}
use Rattle.std.proofs.lemmas.Nat.{and_comm, and-not}
use Rattle.std.proofs.lemmas.Nat.Bits.{and_pow}
use Rattle.std.proofs.Math.Pow.{pow-lt}
use Rattle.rules.proofs.Laws.Line.{both}
use Rattle.topology.specs.CpuSet.{power, bit, set_bit, clear_bit}

power_some : (i : ℕ) → 0 < power i
unfolding power
power_some i = pow_pos (i % 64)

power_below : (i : ℕ) → power i < 2 ^ 64
unfolding power
power_below i = pow-lt {i = i % 64} {j = 64} (omega arith)

-- the part of a word under the mask: all of the power or nothing
masked_one : (w i : ℕ) → bit w i ≡ true → bit_and w (power i) ≡ power i
unfolding bit power
masked_one w i e = let h : w / 2 ^ (i % 64) % 2 ≡ 1 = eqb-true _ _ e in rw (and_pow w (i % 64), h) (omega arith)

masked_none : (w i : ℕ) → bit w i ≡ false → bit_and w (power i) ≡ 0
unfolding bit power
masked_none w i e = let n : w / 2 ^ (i % 64) % 2 ≡ 1 → ⊥ = eqb-false _ _ e in let h : w / 2 ^ (i % 64) % 2 ≡ 0 = omega arith in rw (and_pow w (i % 64), h) (omega arith)

pub bit_is : (w i : ℕ) → not (bit_and w (power i) == 0) ≡ bit w i
bit_is w i =
    both (bit w i)
    (λ e. rw (e, masked_one w i e, ne_eqb (power i) 0 (λ z. let p : 0 < power i = power_some i in omega arith)))
    (λ e. rw (e, masked_none w i e))

pub set_is : (w i : ℕ) → bit_or w (power i) ≡ set_bit w i
unfolding set_bit
set_is w i =
    let s : bit_or w (power i) + bit_and w (power i) ≡ w + power i = or_add_and w (power i) in
    both (bit w i)
    (λ e. let m : bit_and w (power i) ≡ power i = masked_one w i e in rw e (omega arith))
    (λ e. let m : bit_and w (power i) ≡ 0 = masked_none w i e in rw e (omega arith))

pub clear_is : (w i : ℕ) → w < 2 ^ 64 → bit_and w (18446744073709551615 - power i) ≡ clear_bit w i
unfolding clear_bit
clear_is w i f =
    let s : bit_and (18446744073709551615 - power i) w + bit_and (power i) w ≡ w = and-not 64 (power i) w (power_below i) f in
    let t : bit_and (power i) w ≡ bit_and w (power i) = and_comm (power i) w in
    let u : bit_and w (18446744073709551615 - power i) ≡ bit_and (18446744073709551615 - power i) w = and_comm w (18446744073709551615 - power i) in
    both (bit w i)
    (λ e. let m : bit_and w (power i) ≡ power i = masked_one w i e in rw e (omega arith))
    (λ e. let m : bit_and w (power i) ≡ 0 = masked_none w i e in rw e (omega arith))
