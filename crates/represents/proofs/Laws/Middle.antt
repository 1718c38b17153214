-- A LEAVING FROM THE MIDDLE OF A BUCKET: `unlink` with the thread before, whose link is led past the one that leaves. In the base nobody stands before
-- a thread that leaves.
use Rattle.std.specs.Prelude.{ℕ, ◌<◌, ◌≡◌, refl, true, false, cond, List, [], ◌∷◌, ◌++◌, get_or, set, eqb}
use Rattle.std.proofs.Math.Path.{sym}
use Rattle.std.proofs.Common.{◌∙◌, true≢false, append-nil, length-set, get_or-set_same, get_or-set_other, eqb-true, eq-eqb, ne_eqb, arith}
use Rattle.std.proofs.lemmas.Bool.{eqb-false}
use Rattle.std.proofs.Math.Nat.{mod-eq_of_lt}
use Rattle.rules.specs.Line.{has, Distinct, Below}
use Rattle.rules.proofs.Laws.Line.{both, has_left}
use Rattle.rules.specs.Buckets.{Buckets, around}
use Rattle.rules.specs.Queue.{nr_buckets, empty}
use Rattle.rules.specs.State.{at}
use Rattle.thread.specs.Thread.{NONE}
use Rattle.queue.specs.declared.lists.Lists.{Lists}
use Rattle.queue.specs.Lists.{unlinked}
use Rattle.represents.specs.Linked.{Chain, last, Ends, Linked}
use Rattle.represents.proofs.Laws.Linked.{linked_frame, chain_frame, has_later, last_in, below_has}
use Rattle.represents.specs.Linked.{ListsRep}
use Rattle.represents.proofs.Laws.Lists.{apart, distinct_bucket, below_bucket}
use Rattle.rules.proofs.Laws.Sound.{at_here, at_there}

chain_remove : (f : ℕ → ℕ) (h p : ℕ) (l : List ℕ) (x : ℕ) (r : List ℕ) → Chain f h ((p ∷ l) ++ (x ∷ r)) → Distinct ((p ∷ l) ++ (x ∷ r))
    → Chain (at f (last p l) (f x)) h ((p ∷ l) ++ r)
unfolding Chain last Distinct
chain_remove f h p [] x r (e, (k, c)) (n, d) = (
  e,
  rw (at_here f p (f x))
      (chain_frame f (at f p (f x)) (f x) r (λ z i. at_there f p (f x) z (λ q. true≢false (sym (has_later z x r i) ∙ rw q n))) c),
)
chain_remove f h p (w ∷ l) x r (e, c) (n, d) =
    let far : ¬ (p ≡ last w l) = λ q. true≢false (sym (has_left (last w l) (w ∷ l) (x ∷ r) (last_in w l)) ∙ rw (← q) n) in
    (e, rw (at_there f (last w l) (f x) p far) (chain_remove f (f p) w l x r c d))

last_append : (p : ℕ) (l : List ℕ) (x : ℕ) (r : List ℕ) → last p (l ++ (x ∷ r)) ≡ last x r
unfolding last
last_append p [] x r = refl
last_append p (w ∷ l) x r = last_append w l x r

-- the link of x leads to what is behind it
chain_behind : (f : ℕ → ℕ) (h : ℕ) (l : List ℕ) (x : ℕ) (r : List ℕ) → Chain f h (l ++ (x ∷ r)) → Below NONE (l ++ (x ∷ r)) → eqb (f x) NONE ≡ empty r
unfolding Chain Below empty
chain_behind f h [] x [] (e, c) b = eq-eqb (f x) NONE c
chain_behind f h [] x (y ∷ r) (e, (k, c)) (b, (d, _)) = ne_eqb (f x) NONE (λ q. let z : y ≡ NONE = sym k ∙ q in omega arith)
chain_behind f h (w ∷ l) x r (e, c) (b, d) = chain_behind f (f w) l x r c d

ends_remove : (t p : ℕ) (l : List ℕ) (x : ℕ) (r : List ℕ) → Ends t ((p ∷ l) ++ (x ∷ r)) → Ends (cond (empty r) (last p l) t) ((p ∷ l) ++ r)
unfolding Ends empty
ends_remove t p l x [] e = rw (append-nil l)
ends_remove t p l x (y ∷ r) e = e ∙ last_append p l x (y ∷ r) ∙ (unfold last in sym (last_append p l y r))

-- ONE LIST
pub linked_remove : (f : ℕ → ℕ) (h t p : ℕ) (l : List ℕ) (x : ℕ) (r : List ℕ) → Linked f h t ((p ∷ l) ++ (x ∷ r)) → Distinct ((p ∷ l) ++ (x ∷ r)) → Below NONE ((p ∷ l) ++ (x ∷ r))
    → Linked (at f (last p l) (f x)) h (cond (eqb (f x) NONE) (last p l) t) ((p ∷ l) ++ r)
linked_remove f h t p l x r k d b =
    rw (chain_behind f h (p ∷ l) x r k.runs b) (record { runs = chain_remove f h p l x r k.runs d; ends = ends_remove t p l x r k.ends })

-- ONE PART: thread x leaves bucket j from behind the last of p ∷ l, and the other buckets stay
module _ (f : ℕ → ℕ) (ls : Lists) (bs : Buckets) (s : ℕ) (w : ListsRep f ls bs) (d : Distinct (around nr_buckets bs s nr_buckets)) (b : Below NONE (around nr_buckets bs s nr_buckets))
    (j p : ℕ) (l : List ℕ) (x : ℕ) (r : List ℕ) (jn : j < nr_buckets) (e : get_or bs j [] ≡ (p ∷ l) ++ (x ∷ r)) where
  abbrev previous : ℕ
  previous = last p l

  abbrev left : Lists
  left = unlinked ls j previous (f x)

  previous_in : has previous (get_or bs j []) ≡ true
  previous_in = rw e (has_left previous (p ∷ l) (x ∷ r) (last_in p l))

  previous_some : eqb previous NONE ≡ false
  previous_some = ne_eqb previous NONE (λ q. let k : previous < NONE = below_has NONE (get_or bs j []) (below_bucket nr_buckets bs NONE s j jn b) previous previous_in in omega arith)

  heads_stay : left.heads ≡ ls.heads
  unfolding unlinked
  heads_stay = rw previous_some (both (eqb (f x) NONE) (λ q. rw q) (λ q. rw q))

  tails_are : left.tails ≡ cond (eqb (f x) NONE) (set ls.tails j previous) ls.tails
  unfolding unlinked
  tails_are = rw (previous_some, mod-eq_of_lt jn) (both (eqb (f x) NONE) (λ q. rw q) (λ q. rw q))

  tail_here : get_or left.tails j 0 ≡ cond (eqb (f x) NONE) previous (get_or ls.tails j 0)
  tail_here = rw tails_are (both (eqb (f x) NONE) (λ q. rw q (get_or-set_same ls.tails j previous 0 (rw w.tails_full jn))) (λ q. rw q))

  tail_there : (i : ℕ) → eqb i j ≡ false → get_or left.tails i 0 ≡ get_or ls.tails i 0
  tail_there i n = rw tails_are (both (eqb (f x) NONE) (λ q. rw q (get_or-set_other ls.tails j i previous 0 (eqb-false i j n))) (λ q. rw q))

  pub shown_unlink : ListsRep (at f previous (f x)) left (set bs j ((p ∷ l) ++ r))
  shown_unlink = record {
    heads_full = rw heads_stay w.heads_full;
    tails_full = rw tails_are (both (eqb (f x) NONE) (λ q. rw q (length-set ls.tails j previous ∙ w.tails_full)) (λ q. rw q w.tails_full));
    full = length-set bs j _ ∙ w.full;
    linked = λ i h. both (eqb i j) (λ q. rw (eqb-true i j q) here) (λ q. there i h q);
  }
    where
      here : Linked (at f previous (f x)) (get_or left.heads j 0) (get_or left.tails j 0) (get_or (set bs j ((p ∷ l) ++ r)) j [])
      here = rw (heads_stay, tail_here, get_or-set_same bs j ((p ∷ l) ++ r) [] (rw w.full jn))
          (linked_remove f _ _ p l x r (rw e at (w.linked j jn)) (rw e at (distinct_bucket nr_buckets bs s j jn d)) (rw e at (below_bucket nr_buckets bs NONE s j jn b)))

      there : (i : ℕ) → i < nr_buckets → eqb i j ≡ false → Linked (at f previous (f x)) (get_or left.heads i 0) (get_or left.tails i 0) (get_or (set bs j ((p ∷ l) ++ r)) i [])
      there i h n = rw (heads_stay, tail_there i n, get_or-set_other bs j i ((p ∷ l) ++ r) [] (eqb-false i j n))
          (linked_frame f (at f previous (f x)) _ _ (get_or bs i [])
          (λ z a. at_there f previous (f x) z (λ q. eqb-false i j n (apart nr_buckets bs s i j z h jn d a (rw q previous_in))))
          (w.linked i h))
