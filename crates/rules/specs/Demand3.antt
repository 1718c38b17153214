-- Demand 3. Document 01:
-- "After every call the queues it left hold exactly the threads that then wait by these puts and takes, in the order of being ahead; this belongs to demand 3."
-- "For one put, a is how many threads are ahead of it just after; b counts the later puts into that queue, up to the take looked at, that are ahead of it just
-- after theirs, a returning thread each time anew. The later takes that hand out a thread, own or stealing, are numbered from 1. While the thread waits, take n
-- hands it out exactly when n = a + b + 1."
-- A CPU's own take finds nothing exactly when nobody waits in its queue, a stealing one exactly when nobody unpinned does.
-- A timeshare thread is gone within 8,192 of those takes, if nobody arrives while it waits in the realtime part, as the current thread, or in timeshare while
-- the filling and emptying buckets are the same.
-- Waiting, being ahead, a, b, and what is asked of the arrivals are defined in Ahead.antt, over the puts and takes alone.
use Rattle.std.specs.Prelude.{ℕ, ◌+◌, ◌≤◌, ◌<◌, ◌≡◌, ◌↔◌, Bool, true, false, List, [], ◌∷◌, ◌++◌, Option, None, Some}
use Rattle.rules.specs.declared.Part.TheVariants as part
use Rattle.rules.specs.Line.{has, ahead, Distinct}
use Rattle.rules.specs.Queue.{Queue, order}
use Rattle.rules.specs.Puts.{Put, PutOrTake, a_put, a_take}
use Rattle.rules.specs.Ahead.{Wait, who_waits, threads, In, how_many, unpinned, ahead_of, gone, a_of, b_of, served, calm_while}

-- What is demanded of a queue and of all its puts and takes, oldest first. The put looked at is p: pre came before it, mid after it, post later still; so
-- every moment is looked at, also within a call.
pub record AsDemanded (bound : ℕ) (q : Queue) (log : List PutOrTake) : Type 0 where
  -- 1. It holds exactly the threads that wait, each once, in the order of being ahead.
  pub holds : (x : ℕ) → has x (order q) ≡ has x (threads (who_waits log))
  pub once : Distinct (order q)
  pub in_order : (v w : Wait) → In v (who_waits log) → In w (who_waits log)
      → (ahead v.put.thread (order q) < ahead w.put.thread (order q)) ↔ (ahead_of q.take_idx v w ≡ true)
  -- 2. While the thread waits, the take with the next number hands it out exactly when that number is a + b + 1; it waits exactly while fewer were made.
  pub turn : (pre mid post : List PutOrTake) (p : Put) (stealing : Bool) (x : ℕ) → log ≡ pre ++ (a_put p ∷ mid) ++ (a_take stealing (Some x) ∷ post)
      → gone p.thread mid ≡ false → (x ≡ p.thread) ↔ (served mid + 1 ≡ a_of pre p + b_of pre p mid + 1)
  pub waits : (pre mid post : List PutOrTake) (p : Put) → log ≡ pre ++ (a_put p ∷ mid) ++ post
      → (gone p.thread mid ≡ false) ↔ (served mid < a_of pre p + b_of pre p mid + 1)
  -- 3. An own take finds nothing exactly when nobody waits, a stealing one exactly when nobody unpinned does.
  pub own : (pre post : List PutOrTake) (out : Option ℕ) → log ≡ pre ++ (a_take false out ∷ post) → (out ≡ None) ↔ (who_waits pre ≡ [])
  pub stealing : (pre post : List PutOrTake) (out : Option ℕ) → log ≡ pre ++ (a_take true out ∷ post) → (out ≡ None) ↔ (how_many unpinned (who_waits pre) ≡ 0)
  -- 4. A timeshare thread is gone when so many takes as the bound have handed out a thread, if the arrivals are calm while it waits: the number of its turn
  -- is at most the bound.
  pub within : (pre mid post : List PutOrTake) (p : Put) → log ≡ pre ++ (a_put p ∷ mid) ++ post → p.part ≡ part.Timeshare → calm_while p.thread mid ≡ true
      → (a_of pre p + b_of pre p mid + 1 ≤ bound) × (bound ≤ served mid → gone p.thread mid ≡ true)
