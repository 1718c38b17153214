-- Lemmas about Words.
use Rattle.std.specs.Prelude.{◌≡◌, ℕ, ◌%◌, ◌<◌, ◌≤◌, List, [], length, ◌==◌, ◌≢◌, nat_lt, slice_index, slice_index_or, slice_set}
use Rattle.std.proofs.Common.{length-set, get_or-set_same, get_or-set_other, eqb-true, ltb-true, ltb-false}
use Rattle.std.proofs.Math.ListN.{get_or-eq_default}
use Rattle.std.proofs.Math.Seq.{set_out}
use Rattle.std.proofs.lemmas.Bool.{eqb-false}
use Rattle.rules.proofs.Laws.Line.{both}
use Rattle.processor.specs.Words.{width, word, put_word}

-- ---- for proofs

pub word_out : (rows : List (List ℕ)) (n w : ℕ) → length rows ≤ n → word rows n w ≡ 0
unfolding word
word_out rows n w h = rw (get_or-eq_default rows [] {n = n} h)

pub put_out : (rows : List (List ℕ)) (n w v : ℕ) → length rows ≤ n → put_word rows n w v ≡ rows
unfolding put_word
put_out rows n w v h = set_out rows n (slice_set (slice_index_or rows n []) (w % width) v) h

pub length_put : (rows : List (List ℕ)) (n w v : ℕ) → length (put_word rows n w v) ≡ length rows
unfolding put_word
length_put rows n w v = length-set rows n (slice_set (slice_index_or rows n []) (w % width) v)

pub word_put_same : (rows : List (List ℕ)) (n w v : ℕ) → n < length rows → w % width < length (slice_index_or rows n []) → word (put_word rows n w v) n w ≡ v
unfolding word put_word
word_put_same rows n w v h l = rw (get_or-set_same rows n (slice_set (slice_index_or rows n []) (w % width) v) [] h) (get_or-set_same (slice_index_or rows n []) (w % width) v 0 l)

-- another word, or another row
pub word_put_other : (rows : List (List ℕ)) (n m w u v : ℕ) → (u % width ≡ w % width → m ≢ n) → word (put_word rows n w v) m u ≡ word rows m u
unfolding word put_word
word_put_other rows n m w u v h =
    both (m == n)
    (λ e. both (nat_lt n (length rows))
    (λ l. rw (eqb-true m n e, get_or-set_same rows n (slice_set (slice_index_or rows n []) (w % width) v) [] (ltb-true _ _ l))
    (get_or-set_other (slice_index_or rows n []) (w % width) (u % width) v 0 (λ r. h r (eqb-true m n e))))
    (λ l. rw (set_out rows n (slice_set (slice_index_or rows n []) (w % width) v) (ltb-false _ _ l))))
    (λ e. rw (get_or-set_other rows n m (slice_set (slice_index_or rows n []) (w % width) v) [] (eqb-false m n e)))

pub row_put_other : (rows : List (List ℕ)) (n m w v : ℕ) → (m ≢ n) → slice_index_or (put_word rows n w v) m [] ≡ slice_index_or rows m []
unfolding put_word
row_put_other rows n m w v h = get_or-set_other rows n m (slice_set (slice_index_or rows n []) (w % width) v) [] h

-- another word of any row
pub put_row_other : (rows : List (List ℕ)) (n m w i v : ℕ) → (i ≢ w % width) → slice_index (slice_index_or (put_word rows n w v) m []) i ≡ slice_index (slice_index_or rows m []) i
unfolding put_word
put_row_other rows n m w i v h =
    both (m == n)
    (λ e. both (nat_lt n (length rows))
    (λ l. rw (eqb-true m n e, get_or-set_same rows n (slice_set (slice_index_or rows n []) (w % width) v) [] (ltb-true _ _ l)) (get_or-set_other (slice_index_or rows n []) (w % width) i v 0 h))
    (λ l. rw (set_out rows n (slice_set (slice_index_or rows n []) (w % width) v) (ltb-false _ _ l))))
    (λ e. rw (get_or-set_other rows n m (slice_set (slice_index_or rows n []) (w % width) v) [] (eqb-false m n e)))

-- rows keep their lengths
pub row_length_put : (rows : List (List ℕ)) (n m w v : ℕ) → length (slice_index_or (put_word rows n w v) m []) ≡ length (slice_index_or rows m [])
unfolding put_word
row_length_put rows n m w v =
    both (m == n)
    (λ e. both (nat_lt n (length rows))
    (λ l. rw (eqb-true m n e, get_or-set_same rows n (slice_set (slice_index_or rows n []) (w % width) v) [] (ltb-true _ _ l)) (length-set (slice_index_or rows n []) (w % width) v))
    (λ l. rw (set_out rows n (slice_set (slice_index_or rows n []) (w % width) v) (ltb-false _ _ l))))
    (λ e. rw (get_or-set_other rows n m (slice_set (slice_index_or rows n []) (w % width) v) [] (eqb-false m n e)))
