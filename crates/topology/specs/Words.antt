-- Rows of words: one word read, one written.
use Rattle.std.specs.Prelude.{ℕ, ◌%◌, ◌≤◌, ◌≡◌, List, [], length, get_or, set}
use Rattle.std.proofs.Common.{length-set}
use Rattle.std.proofs.Math.ListN.{get_or-eq_default}
use Rattle.std.proofs.Math.Seq.{set_out}

-- the words of a row
abbrev pub width : ℕ
width = 32

-- word w of row n; 0 past the end of the rows
unfoldable pub word : List (List ℕ) → ℕ → ℕ → ℕ
word rows n w = get_or (get_or rows n []) (w % width) 0

-- the rows with v as word w of row n; past the end of the rows nothing changes
unfoldable pub put_word : List (List ℕ) → ℕ → ℕ → ℕ → List (List ℕ)
put_word rows n w v = set rows n (set (get_or rows n []) (w % width) v)

-- ---- for proofs

pub word_out : (rows : List (List ℕ)) (n w : ℕ) → length rows ≤ n → word rows n w ≡ 0
unfolding word
word_out rows n w h = rw (get_or-eq_default rows [] {n = n} h)

pub put_out : (rows : List (List ℕ)) (n w v : ℕ) → length rows ≤ n → put_word rows n w v ≡ rows
unfolding put_word
put_out rows n w v h = set_out rows n (set (get_or rows n []) (w % width) v) h

pub length_put : (rows : List (List ℕ)) (n w v : ℕ) → length (put_word rows n w v) ≡ length rows
unfolding put_word
length_put rows n w v = length-set rows n (set (get_or rows n []) (w % width) v)
