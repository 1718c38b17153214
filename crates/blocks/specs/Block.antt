-- The bytes that a block left over, at the front of the input.
use Rattle.std.specs.Prelude.{ℕ, ◌-◌, cond, List, ◌++◌, ltb, length, take, drop}

-- how many: those from `from` to below n, none where the input has fewer than n bytes
unfoldable pub kept_count : List ℕ → ℕ → ℕ → ℕ
kept_count input from n = cond (ltb (length input) n) 0 (n - from)

-- the input then: these bytes at the front, all others as they were
unfoldable pub kept_bytes : List ℕ → ℕ → ℕ → List ℕ
kept_bytes input from n = take (kept_count input from n) (drop from input) ++ drop (kept_count input from n) input
