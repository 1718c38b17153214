-- THE ROWS OF THE NODES: what a command leaves of those that are not made, and of the words that no rule speaks of.
use Rattle.std.specs.Prelude.{ℕ, ◌≤◌, ◌<◌, ◌≡◌, ◌≢◌, List, [], length, get_or}
use Rattle.topology.specs.Words.{width}

-- Of as many nodes as `count` says, made on rows that were found so: a row that is not made is as found, and in one that is made the words 7 to 31
-- but the first of the set, 16, are 0.
pub record Nodes (found : List (List ℕ)) (count : ℕ) (ns : List (List ℕ)) : Type 0 where
  pub as_many : length ns ≡ length found
  pub as_long : (n : ℕ) → length (get_or ns n []) ≡ length (get_or found n [])
  pub unmade : (n : ℕ) → count ≤ n → get_or ns n [] ≡ get_or found n []
  pub made : (n w : ℕ) → n < count → 7 ≤ w → w < width → w ≢ 16 → get_or (get_or ns n []) w 0 ≡ 0
