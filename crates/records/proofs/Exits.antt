-- The part of a put.
use mathlib.Core.Path.{◌≡◌, refl}
use Rattle.rules.specs.declared.Part.{Part}
use Rattle.rules.specs.declared.Part.TheVariants as part
use Rattle.runqueue.specs.declared.rq.Arrival.{Arrival}
use Rattle.runqueue.specs.declared.rq.RunQueue.{RunQueue}
use Rattle.runqueue.specs.RunQueue.{rq_insert_realtime, rq_insert_timeshare, rq_insert_idle, rq_insert_into}

-- a put into a part is one of that part
pub put_part : (p : Part) (q : RunQueue) (a : Arrival) → (rq_insert_into p q a).part ≡ p
unfolding rq_insert_into rq_insert_realtime rq_insert_timeshare rq_insert_idle
put_part part.Realtime q a = refl
put_part part.Timeshare q a = refl
put_part part.Idle q a = refl
