-- One turn of a loop over the words of a set of CPUs.
use Rattle.std.specs.Prelude.{◌≡◌, ℕ, zero, suc, ◌-◌, ◌<◌, false, cond, List, eqb, get_or}
use Rattle.std.proofs.Common.{arith}
use Rattle.topology.specs.CpuSet.{no_bits}

pub no_bits_step : (ws : List ℕ) (i : ℕ) → 0 < i → no_bits ws i ≡ cond (eqb (get_or ws (i - 1) 0) 0) (no_bits ws (i - 1)) false
unfolding no_bits
no_bits_step ws zero h = absurd (omega arith)
no_bits_step ws (suc i) h = let e : suc i - 1 ≡ i = omega arith in rw e
