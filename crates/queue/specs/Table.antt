-- The constant table (src/table.rt) by its rule, and a number of it.
use Rattle.std.specs.Prelude.{◌≡◌, ℕ, zero, suc, ◌+◌, ◌*◌, ◌%◌, ◌<◌, List, [], ◌∷◌, length, slice_index}
use Rattle.rules.specs.Priority.{nr_values}
use Rattle.rules.specs.Queue.{realtime_bucket, offset}

-- "Realtime bucket and timeshare offset come from a constant table of 256 numbers, two for each value": those of k values from v on
unfoldable pub two_each : ℕ → ℕ → List ℕ
two_each v zero = []
two_each v (suc k) = realtime_bucket v ∷ offset v ∷ two_each (suc v) k

unfoldable pub table : List ℕ
table = two_each 0 nr_values

-- What holds of the whole table.
pub record ByRule (t : List ℕ) : Type 0 where
  pub entries : length t ≡ 256
  pub buckets : (v : ℕ) → v < nr_values → slice_index t (2 * v) ≡ realtime_bucket v
  pub offsets : (v : ℕ) → v < nr_values → slice_index t (2 * v + 1) ≡ offset v

-- number i of the table, counted round
unfoldable pub entry : ℕ → ℕ
entry i = slice_index table (i % 256)
