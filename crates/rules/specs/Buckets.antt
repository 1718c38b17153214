-- n buckets of threads, each with the oldest first, read round from an index. Any number of buckets.
use Rattle.std.specs.Prelude.{ℕ, zero, suc, ◌%◌, get_or, set}
use mathlib.Core.List.{List, [], ◌∷◌, ◌++◌, tail}

abbrev pub Buckets : Type 0
Buckets = List (List ℕ)

-- the bucket at index i, counted round the n
unfoldable pub bucket : ℕ → Buckets → ℕ → List ℕ
bucket n bs i = get_or bs (i % n) []

-- the threads of k buckets from index i onward round
unfoldable pub around : ℕ → Buckets → ℕ → ℕ → List ℕ
around n bs i zero = []
around n bs i (suc k) = bucket n bs i ++ around n bs (suc i) k

-- what a scan finds: nothing, or a bucket that holds a thread, and its oldest
pub data Found : Type 0 where
  nothing : Found
  found : ℕ → ℕ → Found

unfoldable pub oldest : List ℕ → ℕ → Found → Found
oldest [] j later = later
oldest (x ∷ l) j later = found j x

-- the first of k buckets from index i onward round that holds a thread
unfoldable pub scan : ℕ → Buckets → ℕ → ℕ → Found
scan n bs i zero = nothing
scan n bs i (suc k) = oldest (bucket n bs i) (i % n) (scan n bs (suc i) k)

-- x joins bucket j as its newest
unfoldable pub join : Buckets → ℕ → ℕ → Buckets
join bs j x = set bs j (get_or bs j [] ++ (x ∷ []))

-- bucket j gives up its oldest
unfoldable pub pop : Buckets → ℕ → Buckets
pop bs j = set bs j (tail (get_or bs j []))
