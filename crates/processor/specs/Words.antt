-- The words of all CPUs, a row to a CPU: one word read, one written.
use Rattle.std.specs.Prelude.{ℕ, ◌%◌, List, [], slice_index, slice_index_or, slice_set}

-- the words of a row
abbrev pub width : ℕ
width = 96

-- word w of row n; 0 past the end of the rows
unfoldable pub word : List (List ℕ) → ℕ → ℕ → ℕ
word rows n w = slice_index (slice_index_or rows n []) (w % width)

-- the rows with v as word w of row n; past the end of the rows nothing changes
unfoldable pub put_word : List (List ℕ) → ℕ → ℕ → ℕ → List (List ℕ)
put_word rows n w v = slice_set rows n (slice_set (slice_index_or rows n []) (w % width) v)
