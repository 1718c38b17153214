-- What every put, take and `advance_insert_index` keeps of a queue and its puts and takes, and what follows of demand 3 for one queue.
use Rattle.std.specs.Prelude.{ℕ, suc, ◌+◌, ◌*◌, ◌≤◌, ◌<◌, ◌≡◌, refl, ◌≢◌, ◌↔◌, Bool, true, false, cond, not, ◌&&◌, ◌||◌, length, eqb, Option, None, Some}
use Rattle.std.proofs.Common.{sym, ap, subst, ◌∙◌, inl, inr, true≢false, length-append, eqb-true, eq-eqb, ne_eqb, zero-add, arith}
use Rattle.std.proofs.lemmas.Bool.{false≢true, eqb-false, or_parts}
use Rattle.std.proofs.Math.Bool.{or-false}
use mathlib.Core.List.{List, [], ◌∷◌, ◌++◌, append_assoc, append-nil, nil≢cons}
use Rattle.std.specs.Cmp.{first_so, second_so}
use Rattle.rules.specs.declared.Part.{Part}
use Rattle.rules.specs.declared.Part.TheVariants as part
use Rattle.rules.specs.Line.{has, ahead, count, Distinct, Below}
use Rattle.rules.proofs.Laws.Line.{both, Comes, comes_has, comes_distinct, comes_below, comes_length, distinct_length, without}
use Rattle.rules.proofs.Laws.Line.{distinct_without}
use Rattle.rules.specs.Buckets.{bucket}
use Rattle.rules.specs.Priority.{nr_values}
use Rattle.rules.specs.Queue.{Queue, nr_buckets, no_queue, order, Arrival, part_for, bucket_for, join_in, insert, movable, Next, nobody, next_in, next, leave, asked, advance_insert_index}
use Rattle.rules.specs.Puts.{Put, PutOrTake, a_put, a_take, put_made}
use Rattle.rules.specs.State.{is_number}
use Rattle.rules.specs.Ahead.{gone, Wait, at_time, waiting, who_waits, threads, In, how_many, ahead_of, put_after, a_of, puts_ahead, b_of, counts, served, puts, calm_in, calm_while, unpinned}
use Rattle.rules.proofs.Laws.Effect.{Shape, start_shape, start_order, bucket_for_in, join_comes, join_shape, NextIs, next_nobody, next_head, next_is, buckets_of}
use Rattle.rules.proofs.Laws.Effect.{advance_order, advance_buckets, advance_shape}
use Rattle.rules.proofs.Laws.Waiting.{eqb_swap, others, threads_append, how_many_append, others_threads, gone_append, waiting_put, waiting_none, waiting_some, waiting_rising, placed, put_in_waiting}
use Rattle.rules.proofs.Laws.Held.{Held, held_start, held_join, Left, held_left, leave_left, place}
use Rattle.rules.proofs.Laws.Bound.{Soon, soon_now, soon_join, soon_in, Falls, falls, soon_advance}

-- ---- lists that grow at their end

-- an element of a list that has grown is the new one, or one of the old
data Grown (l : List PutOrTake) (e : PutOrTake) (pre : List PutOrTake) (m : PutOrTake) (post : List PutOrTake) : Type 0 where
  the_new : l ≡ pre → e ≡ m → post ≡ [] → Grown l e pre m post
  an_old : (post' : List PutOrTake) → l ≡ pre ++ (m ∷ post') → post ≡ post' ++ (e ∷ []) → Grown l e pre m post

nil_not : {A : Type 0} (pre : List A) (m : A) (post : List A) → [] ≡ pre ++ (m ∷ post) → ⊥
nil_not [] m post e = nil≢cons e
nil_not (x ∷ pre) m post e = nil≢cons e

grown : (l : List PutOrTake) (e : PutOrTake) (pre : List PutOrTake) (m : PutOrTake) (post : List PutOrTake) → l ++ (e ∷ []) ≡ pre ++ (m ∷ post) → Grown l e pre m post
grown [] e [] m post h = the_new refl (cc) (cc)
grown [] e (y ∷ pre) m post h = let z : ◌≡◌ {A = List PutOrTake} [] (pre ++ (m ∷ post)) = cc in absurd (nil_not pre m post z)
grown (x ∷ l) e [] m post h = an_old l (cc) (cc)
grown (x ∷ l) e (y ∷ pre) m post h = go (grown l e pre m post (cc))
  where
    same : x ≡ y
    same = cc

    go : Grown l e pre m post → Grown (x ∷ l) e (y ∷ pre) m post
    go (the_new a b c) = the_new (cc) b c
    go (an_old p a b) = an_old p (cc) b

-- ---- what is counted, with one more at the end

gone_put : (x : ℕ) (es : List PutOrTake) (p : Put) → gone x (es ++ (a_put p ∷ [])) ≡ gone x es
unfolding gone
gone_put x es p = gone_append x es (a_put p ∷ []) ∙ or-false (gone x es)

gone_take : (x : ℕ) (es : List PutOrTake) (s : Bool) (o : Option ℕ) → gone x (es ++ (a_take s o ∷ [])) ≡ (gone x es || is_number x o)
unfolding gone
gone_take x es s o = gone_append x es (a_take s o ∷ []) ∙ rw (or-false (is_number x o))

served_put : (es : List PutOrTake) (p : Put) → served (es ++ (a_put p ∷ [])) ≡ served es
unfolding served
served_put [] p = refl
served_put (a_put r ∷ es) p = served_put es p
served_put (a_take s o ∷ es) p = rw (served_put es p)

served_take : (es : List PutOrTake) (s : Bool) (o : Option ℕ) → served (es ++ (a_take s o ∷ [])) ≡ served es + counts o
unfolding served
served_take [] s o = omega arith
served_take (a_put r ∷ es) s o = served_take es s o
served_take (a_take t r ∷ es) s o = rw (served_take es s o) (omega arith)

puts_put : (es : List PutOrTake) (p : Put) → puts (es ++ (a_put p ∷ [])) ≡ suc (puts es)
unfolding puts
puts_put [] p = refl
puts_put (a_put r ∷ es) p = rw (puts_put es p)
puts_put (a_take s o ∷ es) p = puts_put es p

puts_take : (es : List PutOrTake) (s : Bool) (o : Option ℕ) → puts (es ++ (a_take s o ∷ [])) ≡ puts es
unfolding puts
puts_take [] s o = refl
puts_take (a_put r ∷ es) s o = rw (puts_take es s o)
puts_take (a_take t r ∷ es) s o = puts_take es s o

ahead_take : (w : Wait) (n : ℕ) (es : List PutOrTake) (s : Bool) (o : Option ℕ) → puts_ahead w n (es ++ (a_take s o ∷ [])) ≡ puts_ahead w n es
unfolding puts_ahead
ahead_take w n [] s o = both (is_number w.put.thread o) (λ e. rw e) (λ e. rw e)
ahead_take w n (a_put r ∷ es) s o = rw (ahead_take w (suc n) es s o)
ahead_take w n (a_take t r ∷ es) s o = rw (ahead_take w (suc n) es s o)

ahead_put : (w : Wait) (n t : ℕ) (es : List PutOrTake) (p : Put) → t ≡ n + length es
    → puts_ahead w n (es ++ (a_put p ∷ [])) ≡ puts_ahead w n es + cond (gone w.put.thread es) 0 (count (ahead_of p.take_idx (at_time t p) w))
unfolding puts_ahead gone
ahead_put w n t [] p e = let f : t ≡ n = omega arith in rw f (omega arith)
ahead_put w n t (a_put r ∷ es) p e = rw (ahead_put w (suc n) t es p (omega arith)) (omega arith)
ahead_put w n t (a_take s o ∷ es) p e =
    both (is_number w.put.thread o) (λ f. rw f) (λ f. rw f (ahead_put w (suc n) t es p (omega arith)))

calm_put : (x : ℕ) (es : List PutOrTake) (p : Put) → gone x es ≡ false → calm_while x (es ++ (a_put p ∷ [])) ≡ true → (calm_while x es ≡ true) × (calm_in p.part p ≡ true)
unfolding calm_while gone
calm_put x [] p g h = (refl, first_so (calm_in p.part p) true h)
calm_put x (a_put r ∷ es) p g h =
    let t = calm_put x es p g (second_so (calm_in r.part r) (calm_while x (es ++ (a_put p ∷ []))) h) in
    (rw (first_so (calm_in r.part r) (calm_while x (es ++ (a_put p ∷ []))) h, t.0), t.1)
calm_put x (a_take s o ∷ es) p g h = both (is_number x o) (λ f. absurd (true≢false (rw f at g))) (λ f. rw f (calm_put x es p (rw f at g) (rw f at h)))

calm_gone : (x : ℕ) (es fs : List PutOrTake) → gone x es ≡ true → calm_while x (es ++ fs) ≡ calm_while x es
unfolding calm_while gone
calm_gone x [] fs g = absurd (false≢true g)
calm_gone x (a_put r ∷ es) fs g = rw (calm_gone x es fs g)
calm_gone x (a_take s o ∷ es) fs g = both (is_number x o) (λ f. rw f) (λ f. rw f (calm_gone x es fs (rw f at g)))

calm_take : (x : ℕ) (es : List PutOrTake) (s : Bool) (o : Option ℕ) → calm_while x (es ++ (a_take s o ∷ [])) ≡ calm_while x es
unfolding calm_while
calm_take x [] s o = both (is_number x o) (λ f. rw f) (λ f. rw f)
calm_take x (a_put r ∷ es) s o = rw (calm_take x es s o)
calm_take x (a_take t r ∷ es) s o = rw (calm_take x es s o)

-- ---- what is kept

-- the queue is that of the puts and takes l
pub record Fits (limit : ℕ) (q : Queue) (l : List PutOrTake) : Type 0 where
  pub shape : Shape q
  pub held : Held q (who_waits l)
  pub once : Distinct (order q)
  pub holds : (x : ℕ) → has x (order q) ≡ has x (threads (who_waits l))
  pub apart : Distinct (threads (who_waits l))
  pub below : Below limit (order q)
  pub load_is : length (order q) + served l ≡ puts l

-- of a put p, with pre before it and mid after it
pub record Turning (limit : ℕ) (q : Queue) (pre : List PutOrTake) (p : Put) (mid : List PutOrTake) : Type 0 where
  pub waits_yet : gone p.thread mid ≡ false → ahead p.thread (order q) + served mid ≡ a_of pre p + b_of pre p mid
  pub has_left : gone p.thread mid ≡ true → a_of pre p + b_of pre p mid + 1 ≤ served mid
  pub soon : p.part ≡ part.Timeshare → calm_while p.thread mid ≡ true → gone p.thread mid ≡ false → (k : ℕ) × Soon limit p.thread q k × (k + served mid ≤ limit * nr_buckets)
  pub within : p.part ≡ part.Timeshare → calm_while p.thread mid ≡ true → a_of pre p + b_of pre p mid + 1 ≤ limit * nr_buckets

-- of puts and takes, at their end
pub record Moment (limit : ℕ) (l : List PutOrTake) : Type 0 where
  pub still : (pre mid : List PutOrTake) (p : Put) → l ≡ pre ++ (a_put p ∷ mid) → (gone p.thread mid ≡ false) ↔ (served mid < a_of pre p + b_of pre p mid + 1)
  pub within : (pre mid : List PutOrTake) (p : Put) → l ≡ pre ++ (a_put p ∷ mid) → p.part ≡ part.Timeshare → calm_while p.thread mid ≡ true
      → a_of pre p + b_of pre p mid + 1 ≤ limit * nr_buckets
  pub turn : (pre mid : List PutOrTake) (p : Put) (s : Bool) (y : ℕ) → l ≡ (pre ++ (a_put p ∷ mid)) ++ (a_take s (Some y) ∷ []) → gone p.thread mid ≡ false
      → (y ≡ p.thread) ↔ (served mid + 1 ≡ a_of pre p + b_of pre p mid + 1)
  pub own : (pre : List PutOrTake) (o : Option ℕ) → l ≡ pre ++ (a_take false o ∷ []) → (o ≡ None) ↔ (who_waits pre ≡ [])
  pub stealing : (pre : List PutOrTake) (o : Option ℕ) → l ≡ pre ++ (a_take true o ∷ []) → (o ≡ None) ↔ (how_many unpinned (who_waits pre) ≡ 0)

pub record Kept (limit : ℕ) (q : Queue) (l : List PutOrTake) : Type 0 where
  pub fits : Fits limit q l
  pub turns : (pre mid : List PutOrTake) (p : Put) → l ≡ pre ++ (a_put p ∷ mid) → Turning limit q pre p mid
  pub past : (pre post : List PutOrTake) → l ≡ pre ++ post → Moment limit pre

-- ---- at the start

pub kept_start : (limit : ℕ) → Kept limit no_queue []
unfolding waiting threads Distinct Below has served puts
kept_start limit = record {
  fits = record { shape = start_shape; held = held_start; once = rw start_order tt; holds = λ x. rw start_order refl; apart = tt; below = rw start_order tt; load_is = rw start_order refl };
  turns = λ pre mid p e. absurd (nil_not pre (a_put p) mid e);
  past = λ pre post e. let f : pre ≡ [] = nil_front pre post e in rw f (record {
    still = λ pre mid p e. absurd (nil_not pre (a_put p) mid e);
    within = λ pre mid p e. absurd (nil_not pre (a_put p) mid e);
    turn = λ pre mid p s y e. absurd (nil_not (pre ++ (a_put p ∷ mid)) (a_take s (Some y)) [] e);
    own = λ pre o e. absurd (nil_not pre (a_take false o) [] e);
    stealing = λ pre o e. absurd (nil_not pre (a_take true o) [] e);
  });
}
  where
    nil_front : (pre post : List PutOrTake) → [] ≡ pre ++ post → pre ≡ []
    nil_front [] post e = refl
    nil_front (x ∷ pre) post e = absurd (nil≢cons e)

-- ---- one put or take more

-- what a new take is about
record NewTake (q q' : Queue) (l : List PutOrTake) (e : PutOrTake) : Type 0 where
  head : (s : Bool) (y : ℕ) → e ≡ a_take s (Some y) → order q ≡ y ∷ order q'
  own : (o : Option ℕ) → e ≡ a_take false o → (o ≡ None) ↔ (who_waits l ≡ [])
  stealing : (o : Option ℕ) → e ≡ a_take true o → (o ≡ None) ↔ (how_many unpinned (who_waits l) ≡ 0)

nil_snoc : (l : List PutOrTake) (e : PutOrTake) → [] ≡ l ++ (e ∷ []) → ⊥
nil_snoc l e h = nil_not l e [] h

last_of : (l : List PutOrTake) (e : PutOrTake) (pre : List PutOrTake) (m : PutOrTake) → l ++ (e ∷ []) ≡ pre ++ (m ∷ []) → (l ≡ pre) × (e ≡ m)
last_of l e pre m h = go (grown l e pre m [] h)
  where
    go : Grown l e pre m [] → (l ≡ pre) × (e ≡ m)
    go (the_new a b c) = (a, b)
    go (an_old p a b) = absurd (nil_snoc p e b)

-- x is the head of the order if nobody is ahead of it
head_number : (x y : ℕ) (l m : List ℕ) (n k : ℕ) → l ≡ y ∷ m → ahead x l + n ≡ k → (y ≡ x) ↔ (n + 1 ≡ k + 1)
unfolding ahead
head_number x y l m n k e h =
    both (eqb y x)
    (λ r. let z : ahead x l ≡ 0 = rw (e, r) in (λ f. omega arith, λ f. eqb-true y x r))
    (λ r. let z : ahead x l ≡ suc (ahead x m) = rw (e, r) in (λ f. absurd (eqb-false y x r f), λ f. absurd (omega arith)))

module _ {limit : ℕ} {q : Queue} {l : List PutOrTake} (k : Kept limit q l) (q' : Queue) (e : PutOrTake) (f : Fits limit q' (l ++ (e ∷ [])))
    (new : (pre : List PutOrTake) (p : Put) → l ≡ pre → e ≡ a_put p → Turning limit q' pre p [])
    (old : (pre mid : List PutOrTake) (p : Put) → l ≡ pre ++ (a_put p ∷ mid) → Turning limit q' pre p (mid ++ (e ∷ [])))
    (t : NewTake q q' l e) where
  turns_now : (pre mid : List PutOrTake) (p : Put) → l ++ (e ∷ []) ≡ pre ++ (a_put p ∷ mid) → Turning limit q' pre p mid
  turns_now pre mid p h = go (grown l e pre (a_put p) mid h)
    where
      go : Grown l e pre (a_put p) mid → Turning limit q' pre p mid
      go (the_new a b c) = rw c (new pre p a b)
      go (an_old m a c) = rw c (old pre m p a)

  moment_now : Moment limit (l ++ (e ∷ []))
  moment_now = record {
    still = λ pre mid p h. (
      λ g. omega (arith, (turns_now pre mid p h).waits_yet g),
      λ n. both (gone p.thread mid) (λ g. absurd (omega (arith, (turns_now pre mid p h).has_left g))) (λ g. g),
    );
    within = λ pre mid p h. (turns_now pre mid p h).within;
    turn = λ pre mid p s y h g.
        let z = last_of l e (pre ++ (a_put p ∷ mid)) (a_take s (Some y)) h in
        head_number p.thread y (order q) (order q') (served mid) _ (t.head s y z.1) ((k.turns pre mid p z.0).waits_yet g);
    own = λ pre o h. let z = last_of l e pre (a_take false o) h in rw (← z.0) (t.own o z.1);
    stealing = λ pre o h. let z = last_of l e pre (a_take true o) h in rw (← z.0) (t.stealing o z.1);
  }

  past_now : (pre post : List PutOrTake) → l ++ (e ∷ []) ≡ pre ++ post → Moment limit pre
  past_now pre [] h = subst (Moment limit) (h ∙ append-nil pre) moment_now
  past_now pre (m ∷ post) h = go (grown l e pre m post h)
    where
      go : Grown l e pre m post → Moment limit pre
      go (the_new a b c) = k.past pre [] (a ∙ sym (append-nil pre))
      go (an_old p a c) = k.past pre (m ∷ p) a

  grows : Kept limit q' (l ++ (e ∷ []))
  grows = record { fits = f; turns = turns_now; past = past_now }

-- ---- where a put stands

crowd : {limit : ℕ} {q : Queue} {l : List PutOrTake} → Fits limit q l → length (order q) ≤ limit
crowd {limit} {q} f = distinct_length limit (order q) f.once f.below

place_of : {limit : ℕ} {q : Queue} {l : List PutOrTake} (pre mid : List PutOrTake) (p : Put) → Fits limit q l → l ≡ pre ++ (a_put p ∷ mid) → gone p.thread mid ≡ false
    → (has p.thread (order q) ≡ true) × (ahead p.thread (order q) ≡ how_many (λ v. ahead_of q.take_idx v (put_after pre p)) (who_waits l))
unfolding put_after
place_of {limit} {q} {l} pre mid p f e g =
    let w : Wait = at_time (length pre) p in
    let i : In w (who_waits l) = rw e (put_in_waiting 0 (length pre) pre p mid (omega arith) g) in
    place q (who_waits l) w f.shape f.held f.once f.apart (placed w (who_waits l) (waiting_rising 0 l) i)

-- a new put
turn_new : {limit : ℕ} {q : Queue} (pre : List PutOrTake) (p : Put) → Fits limit q (pre ++ (a_put p ∷ [])) → q.take_idx ≡ p.take_idx
    → (p.part ≡ part.Timeshare → (k : ℕ) × Soon limit p.thread q k × (k ≤ limit * nr_buckets)) → Turning limit q pre p []
unfolding gone served a_of b_of puts_ahead
turn_new {limit} {q} pre p f i s =
    let x : ℕ = p.thread in
    let z = place_of pre [] p f refl refl in
    let a : ahead x (order q) ≡ a_of pre p = z.1 ∙ rw i in
    record {
      waits_yet = λ g. omega arith;
      has_left = λ g. absurd (false≢true g);
      soon = λ e c g. let (k, t, m) = s e in (k, t, omega arith);
      within = λ e c. let (k, t, m) = s e in omega (arith, soon_now limit x q k (crowd f) z.0 t);
    }

-- an old put, when another comes in
b_put : (l pre mid : List PutOrTake) (p r : Put) → l ≡ pre ++ (a_put p ∷ mid)
    → b_of pre p (mid ++ (a_put r ∷ [])) ≡ b_of pre p mid + cond (gone p.thread mid) 0 (count (ahead_of r.take_idx (at_time (length l) r) (put_after pre p)))
unfolding b_of put_after
b_put l pre mid p r e =
    ahead_put (at_time (length pre) p) (suc (length pre)) (length l) mid r (ap length e ∙ omega (arith, length-append pre (a_put p ∷ mid)))

one_more : (i j : ℕ) (l : List PutOrTake) (r : Put) (w : Wait) → i ≡ j
    → how_many (λ v. ahead_of i v w) (who_waits (l ++ (a_put r ∷ []))) ≡ how_many (λ v. ahead_of j v w) (who_waits l) + count (ahead_of j (at_time (length l) r) w)
unfolding how_many
one_more i j l r w e = rw (e, waiting_put 0 l r, how_many_append, zero-add) (omega arith)

module _ {limit : ℕ} {q q' : Queue} (l pre mid : List PutOrTake) (p r : Put) (f : Fits limit q l) (f' : Fits limit q' (l ++ (a_put r ∷ []))) (i : q'.take_idx ≡ q.take_idx)
    (j : r.take_idx ≡ q.take_idx) (s : (x k : ℕ) → calm_in r.part r ≡ true → Soon limit x q k → Soon limit x q' k) (e : l ≡ pre ++ (a_put p ∷ mid))
    (t : Turning limit q pre p mid) where
  there_yet : gone p.thread mid ≡ false
      → (has p.thread (order q') ≡ true) × (ahead p.thread (order q') ≡ ahead p.thread (order q) + count (ahead_of r.take_idx (at_time (length l) r) (put_after pre p)))
  there_yet g =
      let z = place_of pre mid p f e g in
      let z' = place_of pre (mid ++ (a_put r ∷ [])) p f' (rw e (append_assoc pre (a_put p ∷ mid) (a_put r ∷ []))) (gone_put p.thread mid r ∙ g) in
      let o = one_more q'.take_idx q.take_idx l r (put_after pre p) i in
      let c = ap (λ (n : ℕ). count (ahead_of n (at_time (length l) r) (put_after pre p))) j in
      (z'.0, omega (arith, z.1, z'.1, o, c))

  turn_put : Turning limit q' pre p (mid ++ (a_put r ∷ []))
  turn_put =
      let x : ℕ = p.thread in
      let m : ℕ = served (mid ++ (a_put r ∷ [])) in
      let m_is : m ≡ served mid = served_put mid r in
      let b_is = b_put l pre mid p r e in
      let g_is = gone_put x mid r in
      let calm_now : calm_while x (mid ++ (a_put r ∷ [])) ≡ true → gone x mid ≡ false → p.part ≡ part.Timeshare → (k : ℕ) × Soon limit x q' k × (k + served mid ≤ limit * nr_buckets) =
      λ c g u. let v = calm_put x mid r g c in let (k, w, n) = t.soon u v.0 g in (k, s x k v.1 w, n) in
      record {
        waits_yet = λ g.
            let h : gone x mid ≡ false = sym g_is ∙ g in
            let y = t.waits_yet h in
            let z = (there_yet h).1 in
            omega (arith, rw h at b_is);
        has_left = λ g.
            let h : gone x mid ≡ true = sym g_is ∙ g in
            let y = t.has_left h in
            omega (arith, rw h at b_is);
        soon = λ u c g. let (k, w, n) = calm_now c (sym g_is ∙ g) u in (k, w, omega arith);
        within = λ u c.
            both (gone x mid)
            (λ h. let y = t.within u (sym (calm_gone x mid (a_put r ∷ []) h) ∙ c) in omega (arith, rw h at b_is))
            (λ h.
            let (k, w, n) = calm_now c h u in
            let z = there_yet h in
            omega (arith, rw h at b_is, t.waits_yet h, z.1, soon_now limit x q' k (crowd f') z.0 w));
      }

-- an old put, when a take hands out nothing
turn_none : {limit : ℕ} {q : Queue} (pre mid : List PutOrTake) (p : Put) (s : Bool) → Turning limit q pre p mid → Turning limit q pre p (mid ++ (a_take s None ∷ []))
unfolding b_of counts is_number
turn_none pre mid p s t =
    let x : ℕ = p.thread in
    let m_is = served_take mid s None in
    let b_is = ahead_take (put_after pre p) (suc (length pre)) mid s None in
    let g_is : gone x (mid ++ (a_take s None ∷ [])) ≡ gone x mid = gone_take x mid s None ∙ or-false (gone x mid) in
    let c_is = calm_take x mid s None in
    record {
      waits_yet = λ g. let y = t.waits_yet (sym g_is ∙ g) in omega arith;
      has_left = λ g. let y = t.has_left (sym g_is ∙ g) in omega arith;
      soon = λ u c g. let (k, w, n) = t.soon u (sym c_is ∙ c) (sym g_is ∙ g) in (k, w, omega arith);
      within = λ u c. let y = t.within u (sym c_is ∙ c) in omega arith;
    }

-- an old put, when a take hands out the head of the order
not_head : (x y : ℕ) (l m : List ℕ) → l ≡ y ∷ m → eqb y x ≡ false → ahead x l ≡ suc (ahead x m)
unfolding ahead
not_head x y l m e f = rw (e, f)

is_head : (x y : ℕ) (l m : List ℕ) → l ≡ y ∷ m → eqb y x ≡ true → ahead x l ≡ 0
unfolding ahead
is_head x y l m e f = rw (e, f)

turn_some : {limit : ℕ} {q q' : Queue} (pre mid : List PutOrTake) (p : Put) (s : Bool) (y : ℕ) → order q ≡ y ∷ order q'
    → ((x k : ℕ) → eqb y x ≡ false → Soon limit x q k → (k' : ℕ) × Soon limit x q' k' × (k' < k)) → Turning limit q pre p mid → Turning limit q' pre p (mid ++ (a_take s (Some y) ∷ []))
unfolding b_of counts is_number
turn_some {limit} {q} {q'} pre mid p s y o f t =
    let x : ℕ = p.thread in
    let m_is = served_take mid s (Some y) in
    let b_is = ahead_take (put_after pre p) (suc (length pre)) mid s (Some y) in
    let g_is : gone x (mid ++ (a_take s (Some y) ∷ [])) ≡ (gone x mid || eqb y x) = gone_take x mid s (Some y) in
    let c_is = calm_take x mid s (Some y) in
    record {
      waits_yet = λ g.
          let (h, n) = or_parts (gone x mid) (eqb y x) (sym g_is ∙ g) in
          let w = t.waits_yet h in
          omega (arith, not_head x y (order q) (order q') o n);
      has_left = λ g.
          both (gone x mid)
          (λ h. let w = t.has_left h in omega arith)
          (λ h. let w = t.waits_yet h in omega (arith, is_head x y (order q) (order q') o (rw h at (sym g_is ∙ g))));
      soon = λ u c g.
          let (h, n) = or_parts (gone x mid) (eqb y x) (sym g_is ∙ g) in
          let (k, w, m) = t.soon u (sym c_is ∙ c) h in
          let (k', w', l) = f x k n w in
          (k', w', omega arith);
      within = λ u c. let w = t.within u (sym c_is ∙ c) in omega arith;
    }

-- ---- the queue is that of its puts and takes: after a put

fits_put : {limit : ℕ} {q : Queue} {l : List PutOrTake} (a : Arrival) (pinned : Bool) → Fits limit q l → a.value < nr_values → a.thread < limit → has a.thread (order q) ≡ false
    → Fits limit (insert q a) (l ++ (a_put (put_made pinned q a) ∷ []))
unfolding insert put_made threads has
fits_put {limit} {q} {l} a pinned f v h n =
    let r : Put = put_made pinned q a in
    let w : Wait = at_time (length l) r in
    let j = bucket_for_in (part_for a) q a f.shape v in
    let c : Comes a.thread (order q) (order (insert q a)) = join_comes (part_for a) q (bucket_for (part_for a) q a) a.thread f.shape j in
    let ws : who_waits (l ++ (a_put (put_made pinned q a) ∷ [])) ≡ who_waits l ++ (w ∷ []) = waiting_put 0 l (put_made pinned q a) ∙ rw zero-add in
    let d : Comes a.thread (threads (who_waits l)) (threads (who_waits l ++ (w ∷ []))) =
    record { front = threads (who_waits l); back = []; before = sym (append-nil _); after = threads_append (who_waits l) (w ∷ []) } in
    record {
      shape = join_shape (part_for a) q (bucket_for (part_for a) q a) a.thread f.shape;
      held = rw ws (held_join q (who_waits l) w f.shape j f.held);
      once = comes_distinct c n f.once;
      holds = λ x. comes_has c x ∙ rw (f.holds x, ws) (sym (comes_has d x));
      apart = rw ws (comes_distinct d (sym (f.holds a.thread) ∙ n) f.apart);
      below = comes_below c limit h f.below;
      load_is = omega (arith, comes_length c, served_put l r, puts_put l r, f.load_is);
    }

-- ---- after a leaving, of a thread anywhere in the order

remove_distinct : (y : ℕ) (f b : List ℕ) → Distinct (f ++ (y ∷ b)) → Distinct (f ++ b) × (has y (f ++ b) ≡ false)
unfolding Distinct has
remove_distinct y [] b d = (d.1, d.0)
remove_distinct y (z ∷ f) b d =
    let ih = remove_distinct y f b d.1 in
    let c : Comes y (f ++ b) (f ++ (y ∷ b)) = record { front = f; back = b; before = refl; after = refl } in
    let (m, n) = or_parts (eqb y z) (has z (f ++ b)) (sym (comes_has c z) ∙ d.0) in
    ((n, ih.0), rw (eqb_swap z y, m) ih.1)

remove_below : (n y : ℕ) (f b : List ℕ) → Below n (f ++ (y ∷ b)) → Below n (f ++ b)
unfolding Below
remove_below n y [] b d = d.1
remove_below n y (z ∷ f) b d = (d.0, remove_below n y f b d.1)

has_without_is : (x y : ℕ) (l : List ℕ) → has x (without y l) ≡ (not (eqb y x) && has x l)
unfolding has without
has_without_is x y [] = both (eqb y x) (λ e. rw e) (λ e. rw e)
has_without_is x y (z ∷ l) =
    both (eqb z y)
    (λ p. rw (p, has_without_is x y l, eqb-true z y p) (both (eqb y x) (λ e. rw e) (λ e. rw e)))
    (λ p. rw (p, has_without_is x y l) (both (eqb z x)
    (λ e. let n : eqb y x ≡ false = ne_eqb y x (λ f. eqb-false z y p (eqb-true z x e ∙ sym f)) in rw (e, n))
    (λ e. rw e)))

pub fits_left : {limit : ℕ} {q : Queue} {l : List PutOrTake} (q' : Queue) (s : Bool) (y : ℕ) → Fits limit q l → Shape q' → Left y q q' → Comes y (order q') (order q)
    → Fits limit q' (l ++ (a_take s (Some y) ∷ []))
unfolding counts
fits_left {limit} {q} {l} q' s y f h m c =
    let ws : who_waits (l ++ (a_take s (Some y) ∷ [])) ≡ others y (who_waits l) = waiting_some 0 l s y in
    let (d, n) = remove_distinct y c.front c.back (rw c.after at f.once) in
    let gone_from : has y (order q') ≡ false = rw c.before n in
    record {
      shape = h;
      held = rw ws (held_left y q q' (who_waits l) f.held m);
      once = rw c.before d;
      holds = λ x. rw (ws, others_threads y (who_waits l), has_without_is x y (threads (who_waits l)), ← (f.holds x), comes_has c x)
          (both (eqb y x) (λ e. rw e (rw (eqb-true y x e) at gone_from)) (λ e. rw e));
      apart = rw (ws, others_threads) (distinct_without y (threads (who_waits l)) f.apart);
      below = rw c.before (remove_below limit y c.front c.back (rw c.after at f.below));
      load_is = omega (arith, comes_length c, served_take l s (Some y), puts_take l s (Some y), f.load_is);
    }

fits_none : {limit : ℕ} {q : Queue} {l : List PutOrTake} (s : Bool) → Fits limit q l → Fits limit q (l ++ (a_take s None ∷ []))
unfolding counts
fits_none {limit} {q} {l} s f =
    let ws = waiting_none 0 l s in
    record { shape = f.shape; held = rw ws f.held; once = f.once; holds = rw ws f.holds; apart = rw ws f.apart; below = f.below; load_is = omega (arith, served_take l s None, puts_take l s None, f.load_is) }

-- ---- who is pinned

-- the pins are those of the puts that wait
abbrev pub Agrees : (ℕ → Bool) → List Wait → Type 0
Agrees pinned ws = (v : Wait) → In v ws → pinned v.put.thread ≡ v.put.pinned

pub in_threads : (v : Wait) (ws : List Wait) → In v ws → has v.put.thread (threads ws) ≡ true
unfolding In threads has
in_threads v [] i = absurd i
in_threads v (w ∷ ws) (inl e) = rw (ap (λ (u : Wait). u.put.thread) e, eq-eqb v.put.thread v.put.thread refl)
in_threads v (w ∷ ws) (inr i) = rw (in_threads v ws i) (both (eqb w.put.thread v.put.thread) (λ e. rw e) (λ e. rw e))

pub threads_in : (x : ℕ) (ws : List Wait) → has x (threads ws) ≡ true → (v : Wait) × In v ws × (v.put.thread ≡ x)
unfolding In threads has
threads_in x [] h = absurd (false≢true h)
threads_in x (w ∷ ws) h =
    both (eqb w.put.thread x)
    (λ e. (w, inl refl, eqb-true _ _ e))
    (λ e. let (v, i, f) = threads_in x ws (rw e at h) in (v, inr i, f))

nobody_waits : (ws : List Wait) → ((x : ℕ) → has x (threads ws) ≡ false) → ws ≡ []
unfolding threads has
nobody_waits [] h = refl
nobody_waits (w ∷ ws) h = absurd (true≢false (rw (eq-eqb w.put.thread w.put.thread refl) at (h w.put.thread)))

movable_none : (pinned : ℕ → Bool) (l : List ℕ) → ((x : ℕ) → has x l ≡ true → pinned x ≡ true) → movable pinned l ≡ 0
unfolding movable has
movable_none pinned [] h = refl
movable_none pinned (y ∷ l) h =
    let first : pinned y ≡ true = h y (rw (eq-eqb y y refl)) in
    let others_none : movable pinned l ≡ 0 = movable_none pinned l (λ x i. h x (rw i (both (eqb y x) (λ e. rw e) (λ e. rw e)))) in
    rw first (omega arith)

none_movable : (pinned : ℕ → Bool) (l : List ℕ) (x : ℕ) → movable pinned l ≡ 0 → has x l ≡ true → pinned x ≡ true
unfolding movable has
none_movable pinned [] x m h = absurd (false≢true h)
none_movable pinned (y ∷ l) x m h =
    both (pinned y)
    (λ e.
    let none_later : movable pinned l ≡ 0 = omega (arith, m) in
    both (eqb y x) (λ f. rw (eqb-true y x f) at e) (λ f. none_movable pinned l x none_later (rw f at h)))
    (λ e. let none_here : 1 ≤ 0 = omega (arith, rw e at m) in absurd (omega arith))

unpinned_none : (ws : List Wait) → ((v : Wait) → In v ws → v.put.pinned ≡ true) → how_many unpinned ws ≡ 0
unfolding how_many unpinned In
unpinned_none [] h = refl
unpinned_none (w ∷ ws) h = rw (h w (inl refl), unpinned_none ws (λ v i. h v (inr i)))

none_unpinned : (ws : List Wait) (v : Wait) → how_many unpinned ws ≡ 0 → In v ws → v.put.pinned ≡ true
unfolding how_many unpinned In
none_unpinned [] v m i = absurd i
none_unpinned (w ∷ ws) v m (inl e) =
    both w.put.pinned (λ f. rw (← e) f) (λ f. let z : 1 + how_many unpinned ws ≡ 0 = rw f at m in absurd (omega arith))
none_unpinned (w ∷ ws) v m (inr i) =
    both w.put.pinned (λ f. none_unpinned ws v (rw (f, zero-add) at m) i) (λ f. let z : 1 + how_many unpinned ws ≡ 0 = rw f at m in absurd (omega arith))

movable_is : {limit : ℕ} {q : Queue} {l : List PutOrTake} (pinned : ℕ → Bool) → Fits limit q l → Agrees pinned (who_waits l)
    → (movable pinned (order q) ≡ 0) ↔ (how_many unpinned (who_waits l) ≡ 0)
movable_is {limit} {q} {l} pinned f g = (
  λ m. unpinned_none (who_waits l)
      (λ v i. sym (g v i) ∙ none_movable pinned (order q) v.put.thread m (f.holds v.put.thread ∙ in_threads v (who_waits l) i)),
  λ m. movable_none pinned (order q) (λ x h. let (v, i, e) = threads_in x (who_waits l) (sym (f.holds x) ∙ h) in
      rw (← e) (g v i ∙ none_unpinned (who_waits l) v m i)),
)

-- ---- a take that hands out nothing, and one that hands out a thread

empty_waits : {limit : ℕ} {q : Queue} {l : List PutOrTake} → Fits limit q l → order q ≡ [] → who_waits l ≡ []
unfolding has
empty_waits {limit} {q} {l} f e = nobody_waits (who_waits l) (λ x. sym (f.holds x) ∙ rw e)

some_waits : {limit : ℕ} {q : Queue} {l : List PutOrTake} (x : ℕ) (r : List ℕ) → Fits limit q l → order q ≡ x ∷ r → who_waits l ≡ [] → ⊥
unfolding has threads
some_waits {limit} {q} {l} x r f e w =
    let a : has x (order q) ≡ true = rw (e, eq-eqb x x refl) in
    let b : has x (order q) ≡ false = f.holds x ∙ rw w in
    true≢false (sym a ∙ b)

put_is_no_take : {A : Type 0} (p : Put) (s : Bool) (o : Option ℕ) → a_put p ≡ a_take s o → A
put_is_no_take p s o e = let z : ◌≡◌ {A = ℕ} 0 1 = cc in absurd (omega arith)

no_take : (q q' : Queue) (l : List PutOrTake) (p : Put) → NewTake q q' l (a_put p)
no_take q q' l p = record {
  head = λ s y e. put_is_no_take p s (Some y) e;
  own = λ o e. put_is_no_take p false o e;
  stealing = λ o e. put_is_no_take p true o e;
}

-- why a take is answered so: a stealing one found nobody who may move; or the next was asked for
data Asking (pinned : ℕ → Bool) (q : Queue) (s : Bool) (n : Next) : Type 0 where
  nobody_moves : s ≡ true → movable pinned (order q) ≡ 0 → n ≡ nobody → Asking pinned q s n
  the_next : (s ≡ true → movable pinned (order q) ≢ 0) → n ≡ next q → Asking pinned q s n

asking : (pinned : ℕ → Bool) (q : Queue) (s : Bool) → Asking pinned q s (asked pinned q s)
unfolding asked
asking pinned q s =
    both (s && eqb (movable pinned (order q)) 0)
    (λ e. nobody_moves (first_so _ _ e) (eqb-true _ _ (second_so s _ e)) (rw e))
    (λ e. the_next (λ f m. true≢false (sym (rw (f, eq-eqb (movable pinned (order q)) 0 m)) ∙ e)) (rw e))

-- ---- what a put, a take and `advance_insert_index` keep

insert_take_idx : (p : Part) (q : Queue) (j x : ℕ) → (join_in p q j x).take_idx ≡ q.take_idx
unfolding join_in
insert_take_idx part.Realtime q j x = refl
insert_take_idx part.Timeshare q j x = refl
insert_take_idx part.Idle q j x = refl

soon_at : (limit : ℕ) (q : Queue) (p : Part) (j x : ℕ) → p ≡ part.Timeshare → Shape q → j < nr_buckets → length (order (join_in p q j x)) ≤ limit
    → (k : ℕ) × Soon limit x (join_in p q j x) k × (k ≤ limit * nr_buckets)
soon_at limit q p j x e s h w = rw e (soon_in limit q j x s h (rw e at w))

pub kept_put : {limit : ℕ} {q : Queue} {l : List PutOrTake} (a : Arrival) (pinned : Bool) → Kept limit q l → a.value < nr_values → a.thread < limit
    → has a.thread (order q) ≡ false → Kept limit (insert q a) (l ++ (a_put (put_made pinned q a) ∷ []))
unfolding insert put_made
kept_put {limit} {q} {l} a pinned k v h n =
    let r : Put = put_made pinned q a in
    let j : ℕ = bucket_for (part_for a) q a in
    let f : Fits limit (insert q a) (l ++ (a_put r ∷ [])) = fits_put a pinned k.fits v h n in
    let i : (insert q a).take_idx ≡ q.take_idx = insert_take_idx (part_for a) q j a.thread in
    grows k (insert q a) (a_put r) f
    (λ pre p e z. let same : r ≡ p = cc in rw (← e, ← same)
    (turn_new l r f i (λ t. soon_at limit q (part_for a) j a.thread t k.fits.shape (bucket_for_in (part_for a) q a k.fits.shape v) (crowd f))))
    (λ pre mid p e. turn_put l pre mid p r k.fits f i refl (λ x m c t. soon_join (part_for a) q a pinned refl k.fits.shape c t) e (k.turns pre mid p e))
    (no_take q (insert q a) l r)

nobody_next : (q : Queue) → Shape q → nobody ≡ next q → order q ≡ []
nobody_next q s e = go (next_is q s)
  where
    go : NextIs q (next q) → order q ≡ []
    go (next_nobody f o) = o
    go (next_head p j x rest f h b o t) = cc

no_movable : (pinned : ℕ → Bool) (l : List ℕ) → l ≡ [] → movable pinned l ≡ 0
unfolding movable
no_movable pinned l e = rw e

pub kept_none : {limit : ℕ} {q : Queue} {l : List PutOrTake} (pinned : ℕ → Bool) (s : Bool) → Kept limit q l → Agrees pinned (who_waits l) → asked pinned q s ≡ nobody
    → Kept limit q (l ++ (a_take s None ∷ []))
kept_none {limit} {q} {l} pinned s k g a =
    grows k q (a_take s None) (fits_none s k.fits) (λ pre p e z. put_is_no_take p s None (sym z)) (λ pre mid p e. turn_none pre mid p s (k.turns pre mid p e)) (record {
      head = λ t y z. cc;
      own = λ o z. (λ e. own (asking pinned q s) (cc), λ e. cc);
      stealing = λ o z. (λ e. stealing (asking pinned q s), λ e. cc);
    })
  where
    own : Asking pinned q s (asked pinned q s) → s ≡ false → who_waits l ≡ []
    own (nobody_moves t m e) f = cc
    own (the_next m e) f = empty_waits k.fits (nobody_next q k.fits.shape (sym a ∙ e))

    stealing : Asking pinned q s (asked pinned q s) → how_many unpinned (who_waits l) ≡ 0
    stealing (nobody_moves t m e) = (movable_is pinned k.fits g).0 m
    stealing (the_next m e) = (movable_is pinned k.fits g).0 (no_movable pinned (order q) (nobody_next q k.fits.shape (sym a ∙ e)))

-- a take that hands out y: it is the head of the order, the oldest of bucket j of part p
pub record Head (pinned : ℕ → Bool) (q : Queue) (s : Bool) (p : Part) (j y : ℕ) : Type 0 where
  pub rest : List ℕ
  pub near : j < nr_buckets
  pub oldest : bucket nr_buckets (buckets_of p q) j ≡ y ∷ rest
  pub first : order q ≡ y ∷ order (leave p q j)
  pub shape : Shape (leave p q j)
  pub is_next : next q ≡ next_in p j y
  pub may_move : s ≡ true → movable pinned (order q) ≢ 0

pub asked_head : (pinned : ℕ → Bool) (q : Queue) (s : Bool) (p : Part) (j y : ℕ) → Shape q → asked pinned q s ≡ next_in p j y → Head pinned q s p j y
asked_head pinned q s p j y h a = go (asking pinned q s)
  where
    next_to : NextIs q (next_in p j y) → next q ≡ next_in p j y → (s ≡ true → movable pinned (order q) ≢ 0) → Head pinned q s p j y
    next_to (next_nobody e o) n m = let z : ◌≡◌ {A = ℕ} 0 1 = cc in absurd (omega arith)
    next_to (next_head p' j' y' rest e i b o t) n m =
        let same_part : p' ≡ p = cc in
        let same_bucket : j' ≡ j = cc in
        record { rest = rest; near = rw same_bucket at i; oldest = cc; first = cc; shape = rw (same_part, same_bucket) at t; is_next = n; may_move = m }

    go : Asking pinned q s (asked pinned q s) → Head pinned q s p j y
    go (nobody_moves u m e) = let z : ◌≡◌ {A = ℕ} 0 1 = cc in absurd (omega arith)
    go (the_next m e) =
        let n : next q ≡ next_in p j y = sym e ∙ a in
        next_to (subst (NextIs q) n (next_is q h)) n m

pub kept_leave : {limit : ℕ} {q : Queue} {l : List PutOrTake} (pinned : ℕ → Bool) (s : Bool) (p : Part) (j y : ℕ) → Kept limit q l → Agrees pinned (who_waits l)
    → asked pinned q s ≡ next_in p j y → Kept limit (leave p q j) (l ++ (a_take s (Some y) ∷ []))
unfolding Falls
kept_leave {limit} {q} {l} pinned s p j y k g a =
    let h : Head pinned q s p j y = asked_head pinned q s p j y k.fits.shape a in
    let left : Left y q (leave p q j) = leave_left q (who_waits l) p j y h.rest k.fits.shape k.fits.held k.fits.apart h.near h.oldest in
    let comes : Comes y (order (leave p q j)) (order q) = record { front = []; back = order (leave p q j); before = refl; after = h.first } in
    grows k (leave p q j) (a_take s (Some y)) (fits_left (leave p q j) s y k.fits h.shape left comes)
    (λ pre r f z. put_is_no_take r s (Some y) (sym z))
    (λ pre mid r f. turn_some pre mid r s y h.first
    (λ x i d u. (subst (Falls limit x i q) h.is_next (falls limit x i q k.fits.shape (crowd k.fits) u)) d)
    (k.turns pre mid r f)) (record {
      head = λ u z f. let v : y ≡ z = cc in rw (← v) h.first;
      own = λ v f. (λ w. cc, λ w. absurd (some_waits y (order (leave p q j)) k.fits h.first w));
      stealing = λ v f. (λ w. cc, λ w. absurd (h.may_move (cc) ((movable_is pinned k.fits g).1 w)));
    })

pub kept_advance : {limit : ℕ} {q : Queue} {l : List PutOrTake} → Kept limit q l → Kept limit (advance_insert_index q) l
kept_advance {limit} {q} {l} k =
    let o = advance_order q in
    record {
      fits = record {
        shape = advance_shape q k.fits.shape;
        held = λ p i. rw (advance_buckets p q) (k.fits.held p i);
        once = rw o k.fits.once;
        holds = rw o k.fits.holds;
        apart = k.fits.apart;
        below = rw o k.fits.below;
        load_is = rw o k.fits.load_is;
      };
      turns = λ pre mid p e.
          let t = k.turns pre mid p e in
          record {
            waits_yet = rw o t.waits_yet;
            has_left = t.has_left;
            soon = λ u c g. let (m, s, n) = t.soon u c g in (m, soon_advance q s, n);
            within = t.within;
          };
      past = k.past;
    }
