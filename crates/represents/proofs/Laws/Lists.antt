-- One part of a run queue: the code's first and last threads of each list, and the links, show the buckets.
use Prim.Native.Nat.{ℕ, zero, suc, ◌+◌, ◌-◌, ◌%◌, ◌≤◌, ◌<◌}
use Rattle.std.specs.Prelude.{◌≡◌, false, set, replicate, eqb, ltb, Option, None, Some}
use Rattle.std.proofs.Math.Path.{refl, sym, ap}
use Rattle.std.proofs.Common.{◌∙◌, add-one}
use Rattle.std.proofs.Math.Bool.{true, cond, true≢false}
use mathlib.Core.List.{List, [], ◌∷◌, ◌++◌, tail}
use Rattle.std.proofs.Math.ListN.{length, get_or, length-set}
use Rattle.std.proofs.lemmas.List.{length-replicate, get_or-replicate}
use Rattle.std.proofs.Math.Seq.{get_or-set_same, get_or-set_other}
use borrow.Author.Tests.{eqb-true, eqb-false, eq-eqb, ne_eqb, ltb-true, ltb-false}
use Rattle.std.proofs.Math.Nat.{mod-lt, mod-eq_of_lt}
use native.Mathlib.Omega.{arith}
use Rattle.rules.specs.Line.{has, Distinct, Below}
use Rattle.rules.proofs.Laws.Line.{both, distinct_left, distinct_right, distinct_apart}
use Rattle.rules.specs.Buckets.{Buckets, bucket, around, nothing, found, scan, oldest, join, pop}
use Rattle.rules.proofs.Laws.Buckets.{round_meets, around_at}
use Rattle.rules.specs.Buckets.{Found as Foundₗ}
use Rattle.rules.specs.Queue.{nr_buckets, empty, highest_bucket}
use Rattle.rules.proofs.Laws.Effect.{some_bucket}
use Rattle.rules.proofs.Laws.Held.{has_around}
use Rattle.rules.specs.Waits.{Under}
use Rattle.queue.specs.declared.lists.Lists.{Lists}
use Rattle.queue.specs.declared.lists.Found.{Found}
use Rattle.thread.specs.Thread.{NONE}
use Rattle.queue.specs.Lists.{found_at, no_lists_def, push_back, unlinked, scan_heads, top_heads}
use Rattle.represents.specs.Linked.{Chain, Ends, Linked}
use Rattle.represents.proofs.Laws.Linked.{link_after, Alike, linked_frame, linked_head, linked_pop, linked_push, link_alike, below_has, linked_none, behind_in}
use Rattle.represents.specs.Linked.{ListsRep}

-- the code's answer for what a scan finds
unfoldable pub as_found : Foundₗ → Option Found
as_found nothing = None
as_found (found j x) = found_at j x

-- ---- a bucket is in the line

module _ (n : ℕ) (bs : Buckets) where
  pub has_bucket : (s i z : ℕ) → i < n → has z (get_or bs i []) ≡ true → has z (around n bs s n) ≡ true
  has_bucket s i z h e = let (m, p, q) = round_meets n s i h in has_around n bs s n m z p (unfold bucket in rw q e)

  pub no_bucket : (s i z : ℕ) → i < n → has z (around n bs s n) ≡ false → has z (get_or bs i []) ≡ false
  no_bucket s i z h e = both (has z (get_or bs i [])) (λ p. absurd (true≢false (sym (has_bucket s i z h p) ∙ e))) (λ p. p)

  pub distinct_bucket : (s i : ℕ) → i < n → Distinct (around n bs s n) → Distinct (get_or bs i [])
  distinct_bucket s i h d =
      let (m, p, q) = round_meets n s i h in
      let e : Distinct (around n bs s m ++ (bucket n bs (s + m) ++ around n bs (suc (s + m)) (n - suc m))) = rw (around_at n bs s n m (n - suc m) (omega arith)) at d in
      let f : Distinct (bucket n bs (s + m)) = distinct_left (bucket n bs (s + m)) _ (distinct_right (around n bs s m) _ e) in
      unfold bucket in rw q at f

  apart_far : (s m k z : ℕ) → m < k → k < n → Distinct (around n bs s n) → has z (bucket n bs (s + m)) ≡ true → has z (bucket n bs (s + k)) ≡ true → ⊥
  apart_far s m k z h l d a b =
      let e : Distinct (around n bs s m ++ (bucket n bs (s + m) ++ around n bs (suc (s + m)) (n - suc m))) = rw (around_at n bs s n m (n - suc m) (omega arith)) at d in
      let f : Distinct (bucket n bs (s + m) ++ around n bs (suc (s + m)) (n - suc m)) = distinct_right (around n bs s m) _ e in
      let g : suc (s + m) + (k - suc m) ≡ s + k = omega arith in
      true≢false (sym a ∙ distinct_apart z (bucket n bs (s + m)) _ f (has_around n bs (suc (s + m)) (n - suc m) (k - suc m) z (omega arith) (rw g b)))

  -- nobody stands in two buckets
  pub apart : (s i j z : ℕ) → i < n → j < n → Distinct (around n bs s n) → has z (get_or bs i []) ≡ true → has z (get_or bs j []) ≡ true → i ≡ j
  apart s i j z h l d a b =
      let (m, p, q) = round_meets n s i h in
      let (k, r, t) = round_meets n s j l in
      let a' : has z (bucket n bs (s + m)) ≡ true = unfold bucket in rw q a in
      let b' : has z (bucket n bs (s + k)) ≡ true = unfold bucket in rw t b in
      both (ltb m k) (λ e. absurd (apart_far s m k z (ltb-true m k e) r d a' b')) λ e.
      both (ltb k m) (λ f. absurd (apart_far s k m z (ltb-true k m f) p d b' a')) λ f.
      let same : m ≡ k = omega (arith, ltb-false m k e, ltb-false k m f) in
      sym q ∙ rw same t

pub below_of : (n : ℕ) (l : List ℕ) → ((z : ℕ) → has z l ≡ true → z < n) → Below n l
unfolding Below has
below_of n [] h = tt
below_of n (x ∷ l) h = (h x (rw (eq-eqb x x refl)), below_of n l (λ z e. h z (rw e (both (eqb x z) (λ p. rw p) (λ p. rw p)))))

pub below_bucket : (n : ℕ) (bs : Buckets) (b s i : ℕ) → i < n → Below b (around n bs s n) → Below b (get_or bs i [])
below_bucket n bs b s i h l = below_of b (get_or bs i []) (λ z e. below_has b (around n bs s n) l z (has_bucket n bs s i z h e))

-- ---- the part

pub no_lists : (next : ℕ → ℕ) → ListsRep next no_lists_def (replicate nr_buckets [])
unfolding no_lists_def Chain Ends
no_lists next = record {
  heads_full = length-replicate nr_buckets NONE;
  tails_full = length-replicate nr_buckets NONE;
  full = length-replicate nr_buckets [];
  linked = λ i h. rw (get_or-replicate nr_buckets i NONE 0 h, get_or-replicate {A = List ℕ} nr_buckets i [] [] h) (record { runs = refl; ends = tt });
}

module _ (f : ℕ → ℕ) (l : Lists) (bs : Buckets) (s : ℕ) (w : ListsRep f l bs) where
  -- links of others may change
  pub shown_frame : (g : ℕ → ℕ) → Alike g f (around nr_buckets bs s nr_buckets) → ListsRep g l bs
  shown_frame g a = record {
    heads_full = w.heads_full;
    tails_full = w.tails_full;
    full = w.full;
    linked = λ i h. linked_frame f g _ _ (get_or bs i []) (λ z e. a z (has_bucket nr_buckets bs s i z h e)) (w.linked i h);
  }

  -- ONE COMES IN
  module _ (j y : ℕ) (jn : j < nr_buckets) (d : Distinct (around nr_buckets bs s nr_buckets)) (b : Below NONE (around nr_buckets bs s nr_buckets))
      (free : has y (around nr_buckets bs s nr_buckets) ≡ false) where
    abbrev head : ℕ
    head = get_or l.heads j 0

    abbrev end : ℕ
    end = get_or l.tails j 0

    pub push_behind : (push_back l j y).behind ≡ cond (eqb head NONE) None (Some end)
    unfolding push_back
    push_behind = rw (mod-eq_of_lt jn) (both (eqb head NONE) (λ e. rw e) (λ e. rw e))

    push_heads : (push_back l j y).queue.heads ≡ cond (eqb head NONE) (set l.heads j y) l.heads
    unfolding push_back
    push_heads = rw (mod-eq_of_lt jn) (both (eqb head NONE) (λ e. rw e) (λ e. rw e))

    push_tails : (push_back l j y).queue.tails ≡ set l.tails j y
    unfolding push_back
    push_tails = rw (mod-eq_of_lt jn) (both (eqb head NONE) (λ e. rw e) (λ e. rw e))

    abbrev links : ℕ → ℕ
    links = link_after f (push_back l j y).behind y

    pub push_alike : (z : ℕ) → has z (get_or bs j []) ≡ false → eqb z y ≡ false → links z ≡ f z
    push_alike z n e = rw push_behind (link_alike f head end (get_or bs j []) y (w.linked j jn) (below_bucket nr_buckets bs NONE s j jn b) z n e)

    pub push_in : (k : ℕ) → Below k (around nr_buckets bs s nr_buckets) → Under k (push_back l j y).behind
    push_in k c = rw push_behind (behind_in k f head end (get_or bs j []) (w.linked j jn) (below_bucket nr_buckets bs k s j jn c) (below_bucket nr_buckets bs NONE s j jn b))

    push_here : Linked links (get_or (push_back l j y).queue.heads j 0) (get_or (push_back l j y).queue.tails j 0) (get_or (join bs j y) j [])
    unfolding join
    push_here =
        let p : j < length l.heads = rw w.heads_full jn in
        let q : j < length l.tails = rw w.tails_full jn in
        let r : j < length bs = rw w.full jn in
        let k : get_or (cond (eqb head NONE) (set l.heads j y) l.heads) j 0 ≡ cond (eqb head NONE) y head =
        both (eqb head NONE) (λ e. rw e (get_or-set_same l.heads j y 0 p)) (λ e. rw e) in
        rw (push_behind, push_heads, push_tails, k, get_or-set_same l.tails j y 0 q, get_or-set_same bs j (get_or bs j [] ++ (y ∷ [])) [] r)
        (linked_push f head end (get_or bs j []) y (w.linked j jn) (distinct_bucket nr_buckets bs s j jn d) (below_bucket nr_buckets bs NONE s j jn b) (no_bucket nr_buckets bs s j y jn free))

    push_there : (i : ℕ) → i < nr_buckets → eqb i j ≡ false → Linked links (get_or (push_back l j y).queue.heads i 0) (get_or (push_back l j y).queue.tails i 0) (get_or (join bs j y) i [])
    unfolding join
    push_there i h e =
        let far : i ≡ j → ⊥ = eqb-false i j e in
        let k : get_or (cond (eqb head NONE) (set l.heads j y) l.heads) i 0 ≡ get_or l.heads i 0 =
        both (eqb head NONE) (λ e. rw e (get_or-set_other l.heads j i y 0 far)) (λ e. rw e) in
        rw (push_heads, push_tails, k, get_or-set_other l.tails j i y 0 far, get_or-set_other bs j i (get_or bs j [] ++ (y ∷ [])) [] far)
        (linked_frame f links _ _ (get_or bs i [])
        (λ z p. push_alike z
        (both (has z (get_or bs j [])) (λ q. absurd (far (apart nr_buckets bs s i j z h jn d p q))) (λ q. q))
        (ne_eqb z y (λ q. true≢false (sym (has_bucket nr_buckets bs s i z h p) ∙ rw q free))))
        (w.linked i h))

    pub shown_push : ListsRep links (push_back l j y).queue (join bs j y)
    unfolding join
    shown_push = record {
      heads_full = rw push_heads (both (eqb head NONE) (λ e. rw e (length-set l.heads j y ∙ w.heads_full)) (λ e. rw e w.heads_full));
      tails_full = rw push_tails (length-set l.tails j y ∙ w.tails_full);
      full = length-set bs j _ ∙ w.full;
      linked = λ i h. both (eqb i j) (λ e. rw (eqb-true i j e) push_here) (λ e. push_there i h e);
    }

  -- THE FIRST OF A BUCKET LEAVES
  pub shown_pop : (j x : ℕ) (rest : List ℕ) → j < nr_buckets → get_or bs j [] ≡ x ∷ rest → ListsRep f (unlinked l j NONE (f x)) (pop bs j)
  unfolding unlinked pop
  shown_pop j x rest jn e =
      let p : j < length l.heads = rw w.heads_full jn in
      let r : j < length bs = rw w.full jn in
      record {
        heads_full = length-set l.heads _ (f x) ∙ w.heads_full;
        tails_full = w.tails_full;
        full = length-set bs j _ ∙ w.full;
        linked = λ i h. rw (mod-eq_of_lt jn)
            (both (eqb i j)
            (λ q. rw (eqb-true i j q, get_or-set_same l.heads j (f x) 0 p, get_or-set_same bs j (tail (get_or bs j [])) [] r, e) (linked_pop f _ _ x rest (rw e at (w.linked j jn))))
            (λ q. rw (get_or-set_other l.heads j i (f x) 0 (eqb-false i j q), get_or-set_other bs j i (tail (get_or bs j [])) [] (eqb-false i j q)) (w.linked i h)));
      }

  module _ (b : Below NONE (around nr_buckets bs s nr_buckets)) where
    bucket_none : (i : ℕ) → i < nr_buckets → eqb (get_or l.heads i 0) NONE ≡ empty (get_or bs i [])
    bucket_none i h = linked_none f _ _ (get_or bs i []) (w.linked i h) (below_bucket nr_buckets bs NONE s i h b)

    -- THE SCANS AGREE
    pub scan_same : (i k : ℕ) → scan_heads nr_buckets l.heads i k ≡ as_found (scan nr_buckets bs i k)
    unfolding scan_heads scan as_found bucket
    scan_same i zero = refl
    scan_same i (suc k) =
        let h : i % nr_buckets < nr_buckets = mod-lt i some_bucket in
        rw (bucket_none (i % nr_buckets) h, add-one) (go (get_or bs (i % nr_buckets) []) (w.linked (i % nr_buckets) h) (scan_same (suc i) k))
      where
        go : (t : List ℕ) → Linked f (get_or l.heads (i % nr_buckets) 0) (get_or l.tails (i % nr_buckets) 0) t
            → scan_heads nr_buckets l.heads (suc i) k ≡ as_found (scan nr_buckets bs (suc i) k)
            → cond (empty t) (scan_heads nr_buckets l.heads (suc i) k) (found_at (i % nr_buckets) (get_or l.heads (i % nr_buckets) 0)) ≡ as_found (oldest t (i % nr_buckets) (scan nr_buckets bs (suc i) k))
        go [] c ih = unfold empty oldest in ih
        go (x ∷ t) c ih = unfold empty oldest in ap (found_at (i % nr_buckets)) (linked_head f _ _ x t c)

    pub top_same : (k : ℕ) → k ≤ nr_buckets → top_heads l.heads k ≡ highest_bucket bs k
    unfolding top_heads highest_bucket bucket
    top_same zero h = refl
    top_same (suc k) h = let j : k < nr_buckets = omega arith in rw (bucket_none k j, top_same k (omega arith), mod-eq_of_lt j)
