-- Sums, differences and products modulo 2^64: what the code's counters do on any numbers.
use Rattle.std.specs.Prelude.{◌≡◌, ℕ, ◌+◌, ◌-◌, ◌*◌, ◌%◌, ◌^◌, ◌<◌, ◌≤◌}
use Rattle.std.proofs.Common.{mul-le-mul, arith}

unfoldable pub sum : ℕ → ℕ → ℕ
sum a b = (a + b) % 2 ^ 64

unfoldable pub difference : ℕ → ℕ → ℕ
difference a b = (a + (2 ^ 64 - b)) % 2 ^ 64

unfoldable pub product : ℕ → ℕ → ℕ
product a b = a * b % 2 ^ 64

-- ---- where nothing wraps

pub sum_exact : (a b : ℕ) → a + b < 18446744073709551616 → sum a b ≡ a + b
unfolding sum
sum_exact a b h = omega arith

pub difference_exact : (a b : ℕ) → a < 18446744073709551616 → b ≤ a → difference a b ≡ a - b
unfolding difference
difference_exact a b h l = omega arith

-- ---- for the proofs of the code

pub half_product : (x y : ℕ) → x < 4294967296 → y < 4294967296 → x * y < 18446744073709551616
half_product x y h k = let m : x * y ≤ 4294967295 * 4294967295 = let p : x ≤ 4294967295 = omega arith in let r : y ≤ 4294967295 = omega arith in mul-le-mul p r in omega arith
