-- What document 01 says over the puts and takes of one queue, and over nothing else: who waits, who is ahead of whom, a, b, the takes by number, and what
-- the bound asks of the arrivals.
use Rattle.std.specs.Prelude.{ℕ, suc, ◌+◌, ◌-◌, ◌%◌, ◌≡◌, ◌⊎◌, Bool, true, false, cond, not, ◌&&◌, ◌||◌, List, [], ◌∷◌, ◌++◌, length, eqb, ltb, Option, None, Some}
use Rattle.rules.specs.declared.Part.{Part}
use Rattle.rules.specs.declared.Part.TheVariants as part
use Rattle.rules.specs.Line.{count}
use Rattle.rules.specs.Queue.{nr_buckets}
use Rattle.rules.specs.Puts.{Put, PutOrTake, a_put, a_take}
use Rattle.rules.specs.State.{is_number}

-- ---- who waits

-- one of the takes hands out thread x
unfoldable pub gone : ℕ → List PutOrTake → Bool
gone x [] = false
gone x (a_put p ∷ es) = gone x es
gone x (a_take s o ∷ es) = is_number x o || gone x es

-- A put whose thread waits, and its time: how many puts and takes of the queue went before it.
pub record Wait : Type 0 where
  pub put : Put
  pub time : ℕ

abbrev pub at_time : ℕ → Put → Wait
at_time n p = record { put = p; time = n }

-- "A thread waits from its put to the take that hands it out": the puts that wait after the puts and takes es, the first of which has time n, oldest first
unfoldable pub waiting : ℕ → List PutOrTake → List Wait
waiting n [] = []
waiting n (a_put p ∷ es) = cond (gone p.thread es) (waiting (suc n) es) (at_time n p ∷ waiting (suc n) es)
waiting n (a_take s o ∷ es) = waiting (suc n) es

abbrev pub who_waits : List PutOrTake → List Wait
who_waits es = waiting 0 es

unfoldable pub threads : List Wait → List ℕ
threads [] = []
threads (w ∷ ws) = w.put.thread ∷ threads ws

-- put w is one of ws
unfoldable pub In : Wait → List Wait → Type 0
In w [] = ⊥
In w (v ∷ ws) = (v ≡ w) ⊎ In w ws

-- how many of them pass a test
unfoldable pub how_many : (Wait → Bool) → List Wait → ℕ
how_many test [] = 0
how_many test (w ∷ ws) = count (test w) + how_many test ws

unfoldable pub unpinned : Wait → Bool
unpinned w = not w.put.pinned

-- ---- who is ahead

-- the parts in the order in which they are served
unfoldable pub rank : Part → ℕ
rank part.Realtime = 0
rank part.Timeshare = 1
rank part.Idle = 2

-- where the buckets of a part are counted from: "from bucket 0, in timeshare from the emptying index" i
unfoldable pub first_bucket : Part → ℕ → ℕ
first_bucket part.Realtime i = 0
first_bucket part.Timeshare i = i
first_bucket part.Idle i = 0

-- how far bucket j is from bucket i, "onward round the eight"
unfoldable pub onward : ℕ → ℕ → ℕ
onward i j = (j + (nr_buckets - i)) % nr_buckets

unfoldable pub earlier_part : Wait → Wait → Bool
earlier_part v w = ltb (rank v.put.part) (rank w.put.part)

unfoldable pub same_part : Wait → Wait → Bool
same_part v w = eqb (rank v.put.part) (rank w.put.part)

-- how far the bucket of v is onward in the part of w
unfoldable pub how_far : ℕ → Wait → Wait → ℕ
how_far i w v = onward (first_bucket w.put.part i) v.put.bucket

-- "One waiting thread is ahead of another in the same run queue if its part (realtime, timeshare, idle) is earlier; in the same part, if its bucket is earlier,
-- counted from bucket 0, in timeshare from the emptying index onward round the eight; in the same bucket, if it was put in earlier."
-- v is ahead of w at emptying index i; part and bucket are those of the put.
unfoldable pub ahead_of : ℕ → Wait → Wait → Bool
ahead_of i v w =
    earlier_part v w
    || (same_part v w && (ltb (how_far i w v) (how_far i w w) || (eqb (how_far i w v) (how_far i w w) && ltb v.time w.time)))

-- ---- a, b and the takes by number

-- the put p after the puts and takes pre
unfoldable pub put_after : List PutOrTake → Put → Wait
put_after pre p = at_time (length pre) p

-- "For one put, a is how many threads are ahead of it just after": the emptying index is then that of just before, since a put moves none
unfoldable pub a_of : List PutOrTake → Put → ℕ
a_of pre p = how_many (λ v. ahead_of p.take_idx v (put_after pre p)) (who_waits (pre ++ (a_put p ∷ [])))

-- "b counts the later puts into that queue, up to the take looked at, that are ahead of it just after theirs, a returning thread each time anew";
-- nobody is ahead of one who waits no longer. The first of es has time n.
unfoldable pub puts_ahead : Wait → ℕ → List PutOrTake → ℕ
puts_ahead w n [] = 0
puts_ahead w n (a_put p ∷ es) = count (ahead_of p.take_idx (at_time n p) w) + puts_ahead w (suc n) es
puts_ahead w n (a_take s o ∷ es) = cond (is_number w.put.thread o) 0 (puts_ahead w (suc n) es)

unfoldable pub b_of : List PutOrTake → Put → List PutOrTake → ℕ
b_of pre p mid = puts_ahead (put_after pre p) (suc (length pre)) mid

-- "The later takes that hand out a thread, own or stealing, are numbered from 1": how many of the takes hand out a thread
unfoldable pub counts : Option ℕ → ℕ
counts None = 0
counts (Some y) = 1

unfoldable pub served : List PutOrTake → ℕ
served [] = 0
served (a_put p ∷ es) = served es
served (a_take s o ∷ es) = counts o + served es

-- how many puts there are
unfoldable pub puts : List PutOrTake → ℕ
puts [] = 0
puts (a_put p ∷ es) = suc (puts es)
puts (a_take s o ∷ es) = puts es

-- ---- the provisos of the bound

-- What is asked of each arrival while a timeshare thread waits: it is none in the realtime part; in timeshare it comes in neither as the current thread nor
-- while the filling and emptying buckets are the same, or, where it does, it joins another bucket than the emptying one all the same. Nothing is asked of those
-- who wait already, in realtime or elsewhere.
unfoldable pub calm_in : Part → Put → Bool
calm_in part.Realtime p = false
calm_in part.Timeshare p = (not p.current && not (eqb p.insert_idx p.take_idx)) || not (eqb p.bucket p.take_idx)
calm_in part.Idle p = true

-- so it is of every arrival while thread x waits
unfoldable pub calm_while : ℕ → List PutOrTake → Bool
calm_while x [] = true
calm_while x (a_put p ∷ es) = calm_in p.part p && calm_while x es
calm_while x (a_take s o ∷ es) = cond (is_number x o) true (calm_while x es)
