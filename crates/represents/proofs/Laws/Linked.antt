-- One list of threads that runs through the thread records: from the first by each one's link to the last, whose link leads nowhere.
use Rattle.std.specs.Prelude.{ℕ, zero, suc, ◌≤◌, ◌<◌, ◌≡◌, refl, true, false, cond, List, [], ◌∷◌, ◌++◌, length, eqb, Option, None, Some}
use Rattle.std.proofs.Common.{sym, ◌∙◌, true≢false, eqb-true, eq-eqb, ne_eqb, arith}
use Rattle.std.proofs.lemmas.Bool.{false≢true}
use Rattle.rules.specs.Line.{has, Distinct, Below}
use Rattle.rules.proofs.Laws.Line.{both}
use Rattle.rules.specs.Queue.{empty}
use Rattle.rules.specs.State.{at}
use Rattle.rules.proofs.Laws.Held.{has_head}
use Rattle.rules.specs.Waits.{Under}
use Rattle.thread.specs.Thread.{NONE}
use Rattle.represents.specs.QueueRead.{walk}
use Rattle.represents.specs.Linked.{Chain, last, Ends, Linked}

-- the links once y has come in behind: y leads nowhere, and whoever it stands behind, if anybody, leads to y
unfoldable pub link_after : (ℕ → ℕ) → Option ℕ → ℕ → ℕ → ℕ
link_after next None y = at next y NONE
link_after next (Some b) y = at (at next y NONE) b y

-- ---- for proofs

-- g leads on from each of a list as f does
abbrev pub Alike : (ℕ → ℕ) → (ℕ → ℕ) → List ℕ → Type 0
Alike g f l = (z : ℕ) → has z l ≡ true → g z ≡ f z

pub has_later : (z x : ℕ) (l : List ℕ) → has z l ≡ true → has z (x ∷ l) ≡ true
unfolding has
has_later z x l h = rw h (both (eqb x z) (λ e. rw e) (λ e. rw e))

pub below_has : (n : ℕ) (l : List ℕ) → Below n l → (z : ℕ) → has z l ≡ true → z < n
unfolding Below has
below_has n [] b z h = absurd (false≢true h)
below_has n (x ∷ l) b z h = both (eqb x z) (λ e. rw (← eqb-true x z e) b.0) (λ e. below_has n l b.1 z (rw e at h))

pub last_in : (x : ℕ) (l : List ℕ) → has (last x l) (x ∷ l) ≡ true
unfolding last
last_in x [] = has_head x []
last_in x (y ∷ l) = has_later (last y l) x (y ∷ l) (last_in y l)

pub last_push : (x : ℕ) (l : List ℕ) (y : ℕ) → y ≡ last x (l ++ (y ∷ []))
unfolding last
last_push x [] y = refl
last_push x (z ∷ l) y = last_push z l y

pub chain_frame : (f g : ℕ → ℕ) (h : ℕ) (l : List ℕ) → Alike g f l → Chain f h l → Chain g h l
unfolding Chain
chain_frame f g h [] a c = c
chain_frame f g h (x ∷ l) a c = (c.0, chain_frame f g (g x) l (λ z e. a z (has_later z x l e)) (rw (a x (has_head x l)) c.1))

-- y behind a list that is not empty: only its last leads elsewhere
chain_push : (f g : ℕ → ℕ) (h x : ℕ) (l : List ℕ) (y : ℕ) → Chain f h (x ∷ l) → Distinct (x ∷ l) → g y ≡ NONE → g (last x l) ≡ y
    → ((z : ℕ) → has z (x ∷ l) ≡ true → eqb z (last x l) ≡ false → g z ≡ f z) → Chain g h ((x ∷ l) ++ (y ∷ []))
unfolding Chain last Distinct
chain_push f g h x [] y c d p q a = (c.0, (q, p))
chain_push f g h x (w ∷ l) y c d p q a =
    let apart : eqb x (last w l) ≡ false = both (eqb x (last w l)) (λ e. absurd (true≢false (sym (last_in w l) ∙ (rw (eqb-true x (last w l) e) at d.0)))) (λ e. e) in
    (c.0, rw (a x (has_head x (w ∷ l)) apart) (chain_push f g (f x) w l y c.1 d.1 p q (λ z e n. a z (has_later z x (w ∷ l) e) n)))

pub linked_frame : (f g : ℕ → ℕ) (h t : ℕ) (l : List ℕ) → Alike g f l → Linked f h t l → Linked g h t l
linked_frame f g h t l a k = record { runs = chain_frame f g h l a k.runs; ends = k.ends }

pub linked_head : (f : ℕ → ℕ) (h t x : ℕ) (l : List ℕ) → Linked f h t (x ∷ l) → h ≡ x
unfolding Chain
linked_head f h t x l k = k.runs.0

-- THE FIRST LEAVES
pub linked_pop : (f : ℕ → ℕ) (h t x : ℕ) (l : List ℕ) → Linked f h t (x ∷ l) → Linked f (f x) t l
unfolding Chain Ends last
linked_pop f h t x [] k = record { runs = k.runs.1; ends = tt }
linked_pop f h t x (y ∷ l) k = record { runs = k.runs.1; ends = k.ends }

-- the last of a list is a thread
last_some : (h t x : ℕ) (l : List ℕ) → t ≡ last x l → Below NONE (x ∷ l) → eqb t NONE ≡ false
last_some h t x l e b = ne_eqb t NONE (λ q. let k : t < NONE = rw e (below_has NONE (x ∷ l) b (last x l) (last_in x l)) in omega arith)

-- ONE COMES IN BEHIND
pub linked_push : (f : ℕ → ℕ) (h t : ℕ) (l : List ℕ) (y : ℕ) → Linked f h t l → Distinct l → Below NONE l → has y l ≡ false
    → Linked (link_after f (cond (eqb h NONE) None (Some t)) y) (cond (eqb h NONE) y h) y (l ++ (y ∷ []))
unfolding Chain Ends last Below link_after at
linked_push f h t [] y k d b n =
    rw (eq-eqb h NONE k.runs) (record { runs = (refl, rw (eq-eqb y y refl)); ends = refl })
linked_push f h t (x ∷ l) y k d b n =
    let first : h ≡ x = k.runs.0 in
    let some : eqb h NONE ≡ false = ne_eqb h NONE (λ e. let z : x ≡ NONE = sym first ∙ e in omega (arith, b.0)) in
    let other : eqb y t ≡ false = both (eqb y t) (λ e. absurd (true≢false (sym (last_in x l) ∙ (rw (eqb-true y t e, k.ends) at n)))) (λ e. e) in
    rw some (record {
      runs = chain_push f (at (at f y NONE) t y) h x l y k.runs d
          (rw (other, eq-eqb y y refl))
          (rw (← k.ends, eq-eqb t t refl))
          (λ z e p. rw (k.ends, p, ne_eqb z y (λ q. true≢false (sym e ∙ (rw (← q) at n)))));
      ends = last_push x l y;
    })

-- who was not in the list, and did not come in, leads where it did
pub link_alike : (f : ℕ → ℕ) (h t : ℕ) (l : List ℕ) (y : ℕ) → Linked f h t l → Below NONE l → (z : ℕ) → has z l ≡ false → eqb z y ≡ false
    → link_after f (cond (eqb h NONE) None (Some t)) y z ≡ f z
unfolding Chain Ends last Below link_after at
link_alike f h t [] y k b z n e = rw (eq-eqb h NONE k.runs, e)
link_alike f h t (x ∷ l) y k b z n e =
    let first : h ≡ x = k.runs.0 in
    let some : eqb h NONE ≡ false = ne_eqb h NONE (λ e. let z : x ≡ NONE = sym first ∙ e in omega (arith, b.0)) in
    let other : eqb z t ≡ false = both (eqb z t) (λ q. absurd (true≢false (sym (last_in x l) ∙ (rw (eqb-true z t q, k.ends) at n)))) (λ q. q) in
    rw (some, other, e)

-- the first is nobody exactly when nobody is there
pub linked_none : (f : ℕ → ℕ) (h t : ℕ) (l : List ℕ) → Linked f h t l → Below NONE l → eqb h NONE ≡ empty l
unfolding Chain Below empty
linked_none f h t [] k b = eq-eqb h NONE k.runs
linked_none f h t (x ∷ l) k b = ne_eqb h NONE (λ q. let z : x ≡ NONE = sym k.runs.0 ∙ q in omega (arith, b.0))

-- whoever it stands behind, if anybody, is in the list
pub behind_in : (n : ℕ) (f : ℕ → ℕ) (h t : ℕ) (l : List ℕ) → Linked f h t l → Below n l → Below NONE l → Under n (cond (eqb h NONE) None (Some t))
unfolding Chain Ends Under
behind_in n f h t [] k b c = rw (eq-eqb h NONE k.runs) tt
behind_in n f h t (x ∷ l) k b c = rw (linked_none f h t (x ∷ l) k c) (unfold empty in rw k.ends (below_has n (x ∷ l) b (last x l) (last_in x l)))

-- a walk along the links meets the list
pub walk_chain : (f : ℕ → ℕ) (k h : ℕ) (l : List ℕ) → Chain f h l → Below NONE l → length l ≤ k → walk f k h ≡ l
unfolding walk Chain Below
walk_chain f zero h [] c b n = refl
walk_chain f zero h (x ∷ l) c b n = absurd (omega arith)
walk_chain f (suc k) h [] c b n = rw (eq-eqb h NONE c)
walk_chain f (suc k) h (x ∷ l) c b n =
    rw (c.0, ne_eqb x NONE (λ e. let z : x ≡ NONE = e in omega (arith, b.0)), walk_chain f k (f x) l c.1 b.1 (omega arith))
