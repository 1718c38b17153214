-- The number of buckets that a value stands behind the filling one.
use Rattle.std.specs.Prelude.{ℕ, zero, suc, ◌<◌}
use native.Mathlib.Omega.{arith}
use Rattle.rules.specs.Priority.{nr_values}
use Rattle.rules.specs.Queue.{nr_buckets, width, offset}

-- it is a number of buckets, as `realtime_bucket_in` (Laws/Effect) says of the other number of a value
pub offset_in : (v : ℕ) → offset v < nr_buckets
unfolding offset nr_buckets nr_values width
offset_in zero = omega arith
offset_in (suc v) = omega arith
