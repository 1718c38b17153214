-- Who waits, as puts and takes are added at the end: lemmas of Puts.antt.
use Rattle.std.specs.Prelude.{ℕ, suc, ◌+◌, ◌<◌, ◌≡◌, refl, Bool, true, false, cond, ◌||◌, List, [], ◌∷◌, ◌++◌, length, eqb, None, Some}
use Rattle.std.proofs.Common.{sym, ap, ◌∙◌, true≢false, inl, inr, eqb-true, eq-eqb, ne_eqb, add-zero, add-suc, suc-add, arith}
use Rattle.std.proofs.lemmas.Bool.{false≢true, eqb-false}
use Rattle.std.proofs.Math.Bool.{or-false, or_assoc}
use Rattle.rules.specs.Line.{has, Distinct}
use Rattle.rules.proofs.Laws.Line.{both, without}
use Rattle.rules.specs.Puts.{Put, PutOrTake, a_put, a_take}
use Rattle.rules.specs.State.{is_number}
use Rattle.rules.specs.Ahead.{gone, Wait, at_time, waiting, threads, how_many, In}

pub eqb_swap : (a b : ℕ) → eqb a b ≡ eqb b a
eqb_swap a b =
    both (eqb a b) (λ p. p ∙ sym (eq-eqb b a (sym (eqb-true a b p)))) (λ p. p ∙ sym (ne_eqb b a (λ e. eqb-false a b p (sym e))))

-- ---- those that pass a test, and those of other threads

unfoldable pub pick : (Wait → Bool) → List Wait → List Wait
pick t [] = []
pick t (w ∷ ws) = cond (t w) (w ∷ pick t ws) (pick t ws)

unfoldable pub others : ℕ → List Wait → List Wait
others x [] = []
others x (w ∷ ws) = cond (eqb w.put.thread x) (others x ws) (w ∷ others x ws)

pub threads_append : (vs ws : List Wait) → threads (vs ++ ws) ≡ threads vs ++ threads ws
unfolding threads
threads_append [] ws = refl
threads_append (v ∷ vs) ws = rw (threads_append vs ws)

pub pick_append : (t : Wait → Bool) (vs ws : List Wait) → pick t (vs ++ ws) ≡ pick t vs ++ pick t ws
unfolding pick
pick_append t [] ws = refl
pick_append t (v ∷ vs) ws = both (t v) (λ p. rw (p, pick_append t vs ws)) (λ p. rw (p, pick_append t vs ws))

pub how_many_append : (t : Wait → Bool) (vs ws : List Wait) → how_many t (vs ++ ws) ≡ how_many t vs + how_many t ws
unfolding how_many
how_many_append t [] ws = omega arith
how_many_append t (v ∷ vs) ws = rw (how_many_append t vs ws) (omega arith)

pub pick_length : (t : Wait → Bool) (ws : List Wait) → length (threads (pick t ws)) ≡ how_many t ws
unfolding pick threads how_many
pick_length t [] = refl
pick_length t (w ∷ ws) = both (t w) (λ p. rw p (omega (arith, pick_length t ws))) (λ p. rw p (omega (arith, pick_length t ws)))

-- who does not wait is not among those that pass a test
pub pick_absent : (t : Wait → Bool) (x : ℕ) (ws : List Wait) → has x (threads ws) ≡ false → has x (threads (pick t ws)) ≡ false
unfolding pick threads has
pick_absent t x [] h = refl
pick_absent t x (w ∷ ws) h =
    both (eqb w.put.thread x) (λ p. absurd (true≢false (rw p at h))) λ p.
    both (t w) (λ q. rw (q, p) (pick_absent t x ws (rw p at h))) (λ q. rw q (pick_absent t x ws (rw p at h)))

pub pick_distinct : (t : Wait → Bool) (ws : List Wait) → Distinct (threads ws) → Distinct (threads (pick t ws))
unfolding pick threads Distinct
pick_distinct t [] d = tt
pick_distinct t (w ∷ ws) d =
    both (t w) (λ q. rw q (pick_absent t w.put.thread ws d.0, pick_distinct t ws d.1)) (λ q. rw q (pick_distinct t ws d.1))

-- a thread among those that pass one test and those that pass another passes both
pub pick_both : (s t : Wait → Bool) (x : ℕ) (ws : List Wait) → Distinct (threads ws) → has x (threads (pick s ws)) ≡ true → has x (threads (pick t ws)) ≡ true
    → (w : Wait) × (s w ≡ true) × (t w ≡ true)
unfolding pick threads has Distinct
pick_both s t x [] d h k = absurd (false≢true h)
pick_both s t x (w ∷ ws) d h k =
    both (eqb w.put.thread x)
    (λ p.
    let none_later : has x (threads ws) ≡ false = rw (eqb-true w.put.thread x p) at d.0 in
    both (s w)
    (λ m. both (t w) (λ n. (w, m, n)) (λ n. absurd (true≢false (sym (rw n at k) ∙ pick_absent t x ws none_later))))
    (λ m. absurd (true≢false (sym (rw m at h) ∙ pick_absent s x ws none_later))))
    (λ p. pick_both s t x ws d.1
    (both (s w) (λ m. rw (m, p) at h) (λ m. rw m at h))
    (both (t w) (λ m. rw (m, p) at k) (λ m. rw m at k)))

pub others_threads : (x : ℕ) (ws : List Wait) → threads (others x ws) ≡ without x (threads ws)
unfolding others threads without
others_threads x [] = refl
others_threads x (w ∷ ws) = both (eqb w.put.thread x) (λ p. rw (p, others_threads x ws)) (λ p. rw (p, others_threads x ws))

pub pick_others : (t : Wait → Bool) (x : ℕ) (ws : List Wait) → threads (pick t (others x ws)) ≡ without x (threads (pick t ws))
unfolding others pick threads without
pick_others t x [] = refl
pick_others t x (w ∷ ws) =
    both (eqb w.put.thread x)
    (λ p. both (t w) (λ q. rw (p, q, pick_others t x ws, p)) (λ q. rw (p, q, pick_others t x ws)))
    (λ p. both (t w) (λ q. rw (p, q, pick_others t x ws, p)) (λ q. rw (p, q, pick_others t x ws)))

-- ---- a put or a take more

pub gone_append : (x : ℕ) (es fs : List PutOrTake) → gone x (es ++ fs) ≡ (gone x es || gone x fs)
unfolding gone
gone_append x [] fs = refl
gone_append x (a_put p ∷ es) fs = gone_append x es fs
gone_append x (a_take s o ∷ es) fs = rw (gone_append x es fs, or_assoc)

pub waiting_put : (n : ℕ) (es : List PutOrTake) (p : Put) → waiting n (es ++ (a_put p ∷ [])) ≡ waiting n es ++ (at_time (n + length es) p ∷ [])
unfolding waiting gone
waiting_put n [] p = rw add-zero
waiting_put n (a_put r ∷ es) p =
    let e : gone r.thread (es ++ (a_put p ∷ [])) ≡ gone r.thread es = gone_append r.thread es (a_put p ∷ []) ∙ or-false _ in
    both (gone r.thread es) (λ t. rw (e, t, add-suc, ← suc-add) (waiting_put (suc n) es p)) (λ t. rw (e, t, add-suc, ← suc-add, waiting_put (suc n) es p))
waiting_put n (a_take s o ∷ es) p = rw (add-suc, ← suc-add) (waiting_put (suc n) es p)

pub waiting_none : (n : ℕ) (es : List PutOrTake) (s : Bool) → waiting n (es ++ (a_take s None ∷ [])) ≡ waiting n es
unfolding waiting gone is_number
waiting_none n [] s = refl
waiting_none n (a_put r ∷ es) s =
    let e : gone r.thread (es ++ (a_take s None ∷ [])) ≡ gone r.thread es = gone_append r.thread es (a_take s None ∷ []) ∙ or-false _ in
    both (gone r.thread es) (λ t. rw (e, t) (waiting_none (suc n) es s)) (λ t. rw (e, t, waiting_none (suc n) es s))
waiting_none n (a_take t o ∷ es) s = waiting_none (suc n) es s

pub waiting_some : (n : ℕ) (es : List PutOrTake) (s : Bool) (y : ℕ) → waiting n (es ++ (a_take s (Some y) ∷ [])) ≡ others y (waiting n es)
unfolding waiting gone is_number others
waiting_some n [] s y = refl
waiting_some n (a_put r ∷ es) s y =
    let e : gone r.thread (es ++ (a_take s (Some y) ∷ [])) ≡ (gone r.thread es || eqb r.thread y) =
    gone_append r.thread es (a_take s (Some y) ∷ []) ∙ rw (or-false, eqb_swap y r.thread) in
    both (gone r.thread es)
    (λ t. rw (e, t) (waiting_some (suc n) es s y))
    (λ t. both (eqb r.thread y) (λ u. rw (e, t, u) (waiting_some (suc n) es s y)) (λ u. rw (e, t, u, waiting_some (suc n) es s y)))
waiting_some n (a_take t o ∷ es) s y = waiting_some (suc n) es s y

-- ---- the times rise

unfoldable pub Older : ℕ → List Wait → Type 0
Older t [] = Unit
Older t (w ∷ ws) = (w.time < t) × Older t ws

unfoldable pub Newer : ℕ → List Wait → Type 0
Newer t [] = Unit
Newer t (w ∷ ws) = (t < w.time) × Newer t ws

unfoldable pub Rising : List Wait → Type 0
Rising [] = Unit
Rising (w ∷ ws) = Newer w.time ws × Rising ws

waiting_newer : (t n : ℕ) (es : List PutOrTake) → t < n → Newer t (waiting n es)
unfolding waiting Newer
waiting_newer t n [] h = tt
waiting_newer t n (a_put p ∷ es) h =
    both (gone p.thread es) (λ e. rw e (waiting_newer t (suc n) es (omega arith))) (λ e. rw e (h, waiting_newer t (suc n) es (omega arith)))
waiting_newer t n (a_take s o ∷ es) h = waiting_newer t (suc n) es (omega arith)

pub waiting_rising : (n : ℕ) (es : List PutOrTake) → Rising (waiting n es)
unfolding waiting Rising
waiting_rising n [] = tt
waiting_rising n (a_put p ∷ es) =
    both (gone p.thread es) (λ e. rw e (waiting_rising (suc n) es)) (λ e. rw e (waiting_newer n (suc n) es (omega arith), waiting_rising (suc n) es))
waiting_rising n (a_take s o ∷ es) = waiting_rising (suc n) es

-- where a put stands among those that wait
pub record Placed (w : Wait) (ws : List Wait) : Type 0 where
  pub front : List Wait
  pub back : List Wait
  pub whole : ws ≡ front ++ (w ∷ back)
  pub older : Older w.time front
  pub newer : Newer w.time back

newer_in : (t : ℕ) (w : Wait) (ws : List Wait) → Newer t ws → In w ws → t < w.time
unfolding Newer In
newer_in t w [] n i = absurd i
newer_in t w (v ∷ ws) n (inl e) = rw (← e) n.0
newer_in t w (v ∷ ws) n (inr i) = newer_in t w ws n.1 i

pub placed : (w : Wait) (ws : List Wait) → Rising ws → In w ws → Placed w ws
unfolding Rising In Older
placed w [] r i = absurd i
placed w (v ∷ ws) r (inl e) = record { front = []; back = ws; whole = rw e; older = tt; newer = rw (← e) r.0 }
placed w (v ∷ ws) r (inr i) =
    let p : Placed w ws = placed w ws r.1 i in
    record { front = v ∷ p.front; back = p.back; whole = ap (λ (l : List Wait). v ∷ l) p.whole; older = (newer_in v.time w ws r.0 i, p.older); newer = p.newer }

-- a put whose thread was not handed out since waits
pub put_in_waiting : (n t : ℕ) (pre : List PutOrTake) (p : Put) (mid : List PutOrTake) → t ≡ n + length pre → gone p.thread mid ≡ false
    → In (at_time t p) (waiting n (pre ++ (a_put p ∷ mid)))
unfolding waiting In
put_in_waiting n t [] p mid e h = let f : t ≡ n = omega arith in rw (h, f) (inl refl)
put_in_waiting n t (a_put r ∷ pre) p mid e h =
    let i = put_in_waiting (suc n) t pre p mid (omega arith) h in
    both (gone r.thread (pre ++ (a_put p ∷ mid))) (λ u. rw u i) (λ u. rw u (inr i))
put_in_waiting n t (a_take s o ∷ pre) p mid e h = put_in_waiting (suc n) t pre p mid (omega arith) h
