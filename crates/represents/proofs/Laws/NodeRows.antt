-- A word read after one was written.
use Rattle.std.specs.Prelude.{ℕ, ◌%◌, ◌<◌, ◌≡◌, refl, List, [], eqb, ltb, length, get_or, set}
use Rattle.std.proofs.Common.{◌∙◌, arith, length-set, get_or-set_other, eqb-true, ltb-true, ltb-false}
use Rattle.std.proofs.Math.Seq.{get_or-set_same, set_out}
use Rattle.std.proofs.lemmas.Bool.{eqb-false}
use Rattle.rules.proofs.Laws.Line.{both}
use Rattle.topology.specs.Words.{width, word, put_word}
use Rattle.topology.specs.Node.{put_node}
use Rattle.represents.specs.Topology.{Sized}

row_same : (rows : List (List ℕ)) (n : ℕ) (row : List ℕ) (w : ℕ) → n < length rows → word (set rows n row) n w ≡ get_or row (w % width) 0
unfolding word
row_same rows n row w h = rw (get_or-set_same rows n row [] h)

row_other : (rows : List (List ℕ)) (n z : ℕ) (row : List ℕ) (w : ℕ) → (z ≡ n → ⊥) → word (set rows n row) z w ≡ word rows z w
unfolding word
row_other rows n z row w h = rw (get_or-set_other rows n z row [] h)

sized_set : (rows : List (List ℕ)) (n : ℕ) (row : List ℕ) → Sized rows → length row ≡ width → Sized (set rows n row)
unfolding Sized
sized_set rows n row s r = λ z h.
    let l : z < length rows = rw (length-set rows n row) at h in
    both (eqb z n) (λ e. rw (eqb-true z n e, get_or-set_same rows n row [] (rw (← eqb-true z n e) l)) r)
    (λ e. rw (get_or-set_other rows n z row [] (eqb-false z n e)) (s z l))

module _ (rows : List (List ℕ)) (s : Sized rows) (n : ℕ) (h : n < length rows) where
  pub put_same : (w v : ℕ) → word (put_word rows n w v) n w ≡ v
  unfolding put_word Sized
  put_same w v = row_same rows n _ w h ∙ get_or-set_same (get_or rows n []) (w % width) v 0 (rw (s n h) (omega arith))

pub put_other : (rows : List (List ℕ)) (n w v z : ℕ) (u : ℕ) → (z ≡ n → ⊥) → word (put_word rows n w v) z u ≡ word rows z u
unfolding put_word
put_other rows n w v z u d = row_other rows n z _ u d

pub put_elsewhere : (rows : List (List ℕ)) (n w v z : ℕ) (u : ℕ) → (u % width ≡ w % width → ⊥) → word (put_word rows n w v) z u ≡ word rows z u
unfolding put_word
put_elsewhere rows n w v z u d =
    both (eqb z n)
    (λ e. both (ltb n (length rows))
    (λ l. rw (eqb-true z n e) (row_same rows n _ u (ltb-true _ _ l) ∙ get_or-set_other (get_or rows n []) (w % width) (u % width) v 0 d ∙ unfold word in refl))
    (λ l. rw (set_out rows n (set (get_or rows n []) (w % width) v) (ltb-false _ _ l))))
    (λ e. row_other rows n z _ u (eqb-false z n e))

-- any word but the one that was written
pub put_past : (rows : List (List ℕ)) (n w v z : ℕ) (u : ℕ) → (z ≡ n → u % width ≡ w % width → ⊥) → word (put_word rows n w v) z u ≡ word rows z u
put_past rows n w v z u d = both (eqb z n) (λ e. put_elsewhere rows n w v z u (d (eqb-true z n e))) (λ e. put_other rows n w v z u (eqb-false z n e))

pub sized_put : (rows : List (List ℕ)) (n w v : ℕ) → Sized rows → Sized (put_word rows n w v)
unfolding put_word Sized
sized_put rows n w v s =
    both (ltb n (length rows))
    (λ l. sized_set rows n _ s (length-set (get_or rows n []) (w % width) v ∙ s n (ltb-true _ _ l)))
    (λ l. rw (set_out rows n (set (get_or rows n []) (w % width) v) (ltb-false _ _ l)) s)

pub node_same : (rows : List (List ℕ)) (n : ℕ) (row : List ℕ) (w : ℕ) → n < length rows → word (put_node rows n row) n w ≡ get_or row (w % width) 0
unfolding put_node
node_same = row_same

pub node_other : (rows : List (List ℕ)) (n z : ℕ) (row : List ℕ) (w : ℕ) → (z ≡ n → ⊥) → word (put_node rows n row) z w ≡ word rows z w
unfolding put_node
node_other = row_other

pub sized_node : (rows : List (List ℕ)) (n : ℕ) (row : List ℕ) → Sized rows → length row ≡ width → Sized (put_node rows n row)
unfolding put_node
sized_node = sized_set
