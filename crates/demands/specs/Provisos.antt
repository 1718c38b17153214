-- The bound of demand 3 in the committee's own words:
-- "Every timeshare thread is gone within 8,192 of the counted takes, if so many are made, provided that nobody waits there as realtime when it comes in and
-- that, while it waits, no arrival there goes to the realtime queue or into timeshare as the current thread, and the filling and emptying buckets differ at each
-- arrival in timeshare."
-- The four provisos, and that under them the bound of AsDemanded holds; the first is not needed for it.
use Rattle.std.specs.Prelude.{ℕ, ◌≡◌, ◌≢◌, false, cond, List, [], ◌∷◌}
use Rattle.rules.specs.declared.Part.TheVariants as part
use Rattle.rules.specs.Puts.{Put, PutOrTake, a_put, a_take}
use Rattle.rules.specs.Ahead.{Wait, who_waits, In}
use Rattle.rules.specs.State.{is_number}

-- Every arrival among the puts and takes es, up to the take that hands out thread x, is as P says.
unfoldable pub Arrivals : ℕ → List PutOrTake → (Put → Type 0) → Type 0
Arrivals x [] P = Unit
Arrivals x (a_put p ∷ es) P = P p × Arrivals x es P
Arrivals x (a_take s o ∷ es) P = cond (is_number x o) Unit (Arrivals x es P)

-- What the demand asks for the put p of a timeshare thread: pre came before it, mid after it.
pub record Provided (pre : List PutOrTake) (p : Put) (mid : List PutOrTake) : Type 0 where
  -- "nobody waits there as realtime when it comes in"
  pub nobody_realtime : (w : Wait) → In w (who_waits pre) → w.put.part ≢ part.Realtime
  -- "while it waits, no arrival there goes to the realtime queue"
  pub none_to_realtime : Arrivals p.thread mid (λ r. r.part ≢ part.Realtime)
  -- "or into timeshare as the current thread"
  pub none_current : Arrivals p.thread mid (λ r. r.part ≡ part.Timeshare → r.current ≡ false)
  -- "and the filling and emptying buckets differ at each arrival in timeshare"
  pub buckets_differ : Arrivals p.thread mid (λ r. r.part ≡ part.Timeshare → r.insert_idx ≢ r.take_idx)
