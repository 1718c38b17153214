-- A processor field of 32 bits as a number with a sign: what is read of it, and what is stored; and sums of ticks.
use Rattle.std.specs.Prelude.{ℕ, ◌+◌, ◌-◌, ◌^◌, ◌≤◌, ◌<◌, ◌≡◌, refl, true, false, T, ltb, leb, ℤ, pos, negsuc, nat_abs, None, Some}
use Rattle.std.proofs.Common.{◌∙◌, true≢false, arith, Fits, SFits, to_z, of_z, lt-ltb, ltb-true, leb-true, leb-false, le-leb}
use Rattle.std.specs.Int.Signed.{lt_z, non_neg, nat_abs-le}
use Rattle.std.specs.Int.{w32, w64}
use Rattle.std.proofs.lemmas.Int.{to_z-of_z, to_z_pos}
use Rattle.std.proofs.lemmas.Bool.{lt-leb}
use Rattle.rules.proofs.Laws.Line.{both}
use Rattle.thread.specs.Reads.{cpu_in}
use Rattle.thread.specs.Time.{field_of}

below_zero : (z : ℤ) → lt_z z (pos 0) ≡ true → None ≡ cpu_in z
unfolding cpu_in
below_zero (pos n) e = absurd (omega (arith, ltb-true n 0 e))
below_zero (negsuc n) e = refl

not_below : (z : ℤ) → lt_z z (pos 0) ≡ false → T (non_neg z) × (Some (nat_abs z) ≡ cpu_in z)
unfolding cpu_in
not_below (pos n) e = (tt, refl)
not_below (negsuc n) e = absurd (true≢false e)

module _ (z : ℤ) (f : SFits w32 z) where
  abbrev read_back : ℤ
  read_back = to_z w32 (of_z w32 z)

  pub sign_below : lt_z read_back (pos 0) ≡ true → None ≡ cpu_in z
  sign_below e = below_zero z (rw (to_z-of_z w32 z f) at e)

  pub sign_above : lt_z read_back (pos 0) ≡ false → (T (non_neg read_back) × Fits w64 (nat_abs read_back)) × (Some (nat_abs read_back) ≡ cpu_in z)
  sign_above e =
      let g : T (non_neg z) × (Some (nat_abs z) ≡ cpu_in z) = not_below z (rw (to_z-of_z w32 z f) at e) in
      let h : nat_abs z ≤ 2 ^ 31 = nat_abs-le z f.sfits in
      rw (to_z-of_z w32 z f) ((g.0, record { fits = omega arith }), g.1)

-- the field of a CPU number, as a cast gives it
pub cast_field : (c : ℕ) → c < 2147483648 → to_z w32 c ≡ field_of c
unfolding field_of
cast_field c h = to_z_pos w32 c h ∙ rw (lt-ltb _ _ h)

pub field_fits : (c : ℕ) → SFits w32 (field_of c)
unfolding field_of
field_fits c = both (ltb c 2147483648) (λ e. rw e (record { sfits = ltb-true _ _ e })) (λ e. rw e (record { sfits = omega arith }))

-- a field that is stored is read as it was stored
pub stored_field : (c : ℕ) → to_z w32 (of_z w32 (field_of c)) ≡ field_of c
stored_field c = to_z-of_z w32 (field_of c) (field_fits c)

-- ticks paid reach what is allowed
pub reach : (paid ticks allowed : ℕ) → ticks < allowed → leb (allowed - ticks) paid ≡ leb allowed (paid + ticks)
reach paid ticks allowed h =
    both (leb allowed (paid + ticks))
    (λ e. let l : allowed ≤ paid + ticks = leb-true _ _ e in rw e (le-leb (allowed - ticks) paid (omega arith)))
    (λ e. let l : paid + ticks < allowed = leb-false _ _ e in rw e (lt-leb (allowed - ticks) paid (omega arith)))
