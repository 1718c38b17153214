-- A run queue by document 01, its buckets as lists of thread numbers: what a put, a take and `advance_insert_index` do to it, the order of those who
-- wait, and the priority that a CPU advertises.
use Rattle.std.specs.Prelude.{ℕ, zero, suc, ◌+◌, ◌-◌, ◌*◌, ◌/◌, ◌%◌, Bool, true, false, cond, not, ◌&&◌, List, [], ◌∷◌, ◌++◌, replicate, length, eqb, ltb, Option, None, Some}
use Rattle.rules.specs.declared.PriorityClass.{PriorityClass}
use Rattle.rules.specs.declared.PriorityClass.TheVariants as class
use Rattle.rules.specs.declared.Priority.{Priority}
use Rattle.rules.specs.declared.Part.{Part}
use Rattle.rules.specs.declared.Part.TheVariants as part
use Rattle.rules.specs.Line.{count}
use Rattle.rules.specs.Buckets.{Buckets, bucket, around, Found, nothing, found, scan, join, pop}
use Rattle.rules.specs.Priority.{nr_values, cut, priority, less, class_number}

-- "Eight buckets"; sixteen values to a bucket.
unfoldable pub nr_buckets : ℕ
nr_buckets = 8

unfoldable pub width : ℕ
width = 16

-- "Realtime, timeshare, idle, served in that order."
-- insert_idx is document 01's filling index, take_idx its emptying index.
pub record Queue : Type 0 where
  pub realtime : Buckets
  pub timeshare : Buckets
  pub insert_idx : ℕ
  pub take_idx : ℕ
  pub idle : Buckets

unfoldable pub no_queue : Queue
no_queue = record { realtime = replicate nr_buckets []; timeshare = replicate nr_buckets []; insert_idx = 0; take_idx = 0; idle = replicate nr_buckets [] }

-- ---- who waits, in the order of being ahead: the part, then the bucket "counted from bucket 0, in timeshare from the emptying index onward round
-- the eight", then who "was put in earlier"

unfoldable pub realtime_line : Queue → List ℕ
realtime_line q = around nr_buckets q.realtime 0 nr_buckets

unfoldable pub timeshare_line : Queue → List ℕ
timeshare_line q = around nr_buckets q.timeshare q.take_idx nr_buckets

unfoldable pub idle_line : Queue → List ℕ
idle_line q = around nr_buckets q.idle 0 nr_buckets

unfoldable pub order : Queue → List ℕ
order q = realtime_line q ++ (timeshare_line q ++ idle_line q)

-- the queue load, and the timeshare load
unfoldable pub load : Queue → ℕ
load q = length (order q)

unfoldable pub timeshare_load : Queue → ℕ
timeshare_load q = length (timeshare_line q)

-- none wait
unfoldable pub empty : List ℕ → Bool
empty [] = true
empty (x ∷ l) = false

-- how many of a line are not pinned
unfoldable pub movable : (ℕ → Bool) → List ℕ → ℕ
movable pinned [] = 0
movable pinned (x ∷ l) = count (not (pinned x)) + movable pinned l

-- ---- a put

-- What a put is told of the thread: its effective priority's class and value; whether it comes in as the current thread; due: its deadline is not past the tick.
pub record Arrival : Type 0 where
  pub thread : ℕ
  pub class : PriorityClass
  pub value : ℕ
  pub current : Bool
  pub due : Bool

-- "Class Realtime goes to realtime; User too if its deadline is not past the tick, else to timeshare; Background and Idle go to idle."
unfoldable pub part_of : PriorityClass → Bool → Part
part_of class.Realtime due = part.Realtime
part_of class.User true = part.Realtime
part_of class.User false = part.Timeshare
part_of class.Background due = part.Idle
part_of class.Idle due = part.Idle

unfoldable pub part_for : Arrival → Part
part_for a = part_of a.class a.due

unfoldable pub is_timeshare : Part → Bool
is_timeshare part.Realtime = false
is_timeshare part.Timeshare = true
is_timeshare part.Idle = false

-- "Realtime and idle have eight buckets by value / 16"; a value of 128 or more, which no command gives, is cut to 127 as `from_raw` cuts it
unfoldable pub realtime_bucket : ℕ → ℕ
realtime_bucket v = cut v / width

-- "a User thread in bucket 7"
unfoldable pub class_bucket : PriorityClass → ℕ → ℕ
class_bucket class.User v = nr_buckets - 1
class_bucket class.Realtime v = realtime_bucket v
class_bucket class.Background v = realtime_bucket v
class_bucket class.Idle v = realtime_bucket v

-- "Value 0 shall have offset 7; all other offsets keep their formula": "Offset = (128 − value) / 16 rounded down"
unfoldable pub offset : ℕ → ℕ
offset zero = nr_buckets - 1
offset (suc v) = (nr_values - suc v) / width

-- "bucket = (filling + offset) modulo 8,"
unfoldable pub value_bucket : Queue → ℕ → ℕ
value_bucket q v = (q.insert_idx + offset v) % nr_buckets

-- "stepped back by one (0 to 7)"
unfoldable pub step_back : ℕ → ℕ
step_back zero = nr_buckets - 1
step_back (suc j) = j

abbrev pub indexes_differ : Queue → Bool
indexes_differ q = not (eqb q.insert_idx q.take_idx)

-- "if it is the emptying bucket and the indexes differ. A current thread joins the emptying bucket."
unfoldable pub timeshare_bucket : Queue → ℕ → Bool → ℕ
timeshare_bucket q v true = q.take_idx
timeshare_bucket q v false = cond (eqb (value_bucket q v) q.take_idx && indexes_differ q) (step_back (value_bucket q v)) (value_bucket q v)

-- the bucket of part p that a thread joins
unfoldable pub bucket_for : Part → Queue → Arrival → ℕ
bucket_for part.Realtime q a = class_bucket a.class a.value
bucket_for part.Timeshare q a = timeshare_bucket q a.value a.current
bucket_for part.Idle q a = class_bucket a.class a.value

-- thread x joins bucket j of part p as its newest
unfoldable pub join_in : Part → Queue → ℕ → ℕ → Queue
join_in part.Realtime q j x = record { realtime = join q.realtime j x; timeshare = q.timeshare; insert_idx = q.insert_idx; take_idx = q.take_idx; idle = q.idle }
join_in part.Timeshare q j x = record { realtime = q.realtime; timeshare = join q.timeshare j x; insert_idx = q.insert_idx; take_idx = q.take_idx; idle = q.idle }
join_in part.Idle q j x = record { realtime = q.realtime; timeshare = q.timeshare; insert_idx = q.insert_idx; take_idx = q.take_idx; idle = join q.idle j x }

unfoldable pub insert : Queue → Arrival → Queue
insert q a = join_in (part_for a) q (bucket_for (part_for a) q a) a.thread

-- ---- a take

-- Who is handed out next: nobody, or a thread with its part and bucket.
pub data Next : Type 0 where
  nobody : Next
  next_in : Part → ℕ → ℕ → Next

unfoldable pub first_in : Part → Found → Next → Next
first_in p nothing later = later
first_in p (found j x) later = next_in p j x

-- "served in that order"; "bucket 0 is handed out first"; "A take scans from the emptying index for the first bucket holding a thread, hands out its oldest"
unfoldable pub next_idle : Queue → Next
next_idle q = first_in part.Idle (scan nr_buckets q.idle 0 nr_buckets) nobody

unfoldable pub next_timeshare : Queue → Next
next_timeshare q = first_in part.Timeshare (scan nr_buckets q.timeshare q.take_idx nr_buckets) (next_idle q)

unfoldable pub next : Queue → Next
next q = first_in part.Realtime (scan nr_buckets q.realtime 0 nr_buckets) (next_timeshare q)

-- "and moves the index there, and one further if that bucket is now empty and the indexes differ": the emptying index after a take from bucket j,
-- which left the timeshare buckets ts
unfoldable pub next_take_idx : ℕ → Buckets → ℕ → ℕ
next_take_idx insert_idx ts j = cond (empty (bucket nr_buckets ts j) && not (eqb j insert_idx)) (suc j % nr_buckets) j

-- the queue when the oldest of bucket j of part p has left
unfoldable pub leave : Part → Queue → ℕ → Queue
leave part.Realtime q j = record { realtime = pop q.realtime j; timeshare = q.timeshare; insert_idx = q.insert_idx; take_idx = q.take_idx; idle = q.idle }
leave part.Timeshare q j = record {
  realtime = q.realtime;
  timeshare = pop q.timeshare j;
  insert_idx = q.insert_idx;
  take_idx = next_take_idx q.insert_idx (pop q.timeshare j) j;
  idle = q.idle;
}
leave part.Idle q j = record { realtime = q.realtime; timeshare = q.timeshare; insert_idx = q.insert_idx; take_idx = q.take_idx; idle = pop q.idle j }

-- What a take hands out, and the queue that it leaves.
pub record Done : Type 0 where
  pub out : Option ℕ
  pub left : Queue

unfoldable pub hand_out : Queue → Next → Done
hand_out q nobody = record { out = None; left = q }
hand_out q (next_in p j x) = record { out = Some x; left = leave p q j }

-- "Passing over pinned threads in a steal. Only the movable count is asked": a stealing take finds nothing at movable count 0
unfoldable pub asked : (ℕ → Bool) → Queue → Bool → Next
asked pinned q stealing = cond (stealing && eqb (movable pinned (order q)) 0) nobody (next q)

unfoldable pub take : (ℕ → Bool) → Queue → Bool → Done
take pinned q stealing = hand_out q (asked pinned q stealing)

-- ---- the insert index

-- "`advance_insert_index` does nothing on an empty queue."
unfoldable pub advance_insert_index : Queue → Queue
advance_insert_index q =
    cond (empty (timeshare_line q)) q (record {
      realtime = q.realtime;
      timeshare = q.timeshare;
      insert_idx = suc q.insert_idx % nr_buckets;
      take_idx = q.take_idx;
      idle = q.idle;
    })

-- ---- the priority that is advertised

-- A put raises it to the thread's, if that is greater.
unfoldable pub said_after_put : Priority → Priority → Priority
said_after_put said p = cond (less said p) p said

-- the least value of the highest of the first k buckets that holds a thread, 0 if none does
unfoldable pub highest_bucket : Buckets → ℕ → ℕ
highest_bucket bs zero = 0
highest_bucket bs (suc k) = cond (empty (bucket nr_buckets bs k)) (highest_bucket bs k) (k * width)

-- the least value of the highest sixteen values of which one waits; value x: that of thread x when it was put in
unfoldable pub highest_value : (ℕ → ℕ) → List ℕ → ℕ
highest_value value [] = 0
highest_value value (x ∷ l) = cond (ltb (highest_value value l) (value x / width * width)) (value x / width * width) (highest_value value l)

abbrev pub is_class : PriorityClass → Priority → Bool
is_class c p = eqb (class_number p.class) (class_number c)

-- "When a take empties the realtime part while class Realtime is advertised, it says User 127."
unfoldable pub said_realtime : Queue → Priority
said_realtime q = cond (empty (realtime_line q)) (priority class.User 127) (priority class.Realtime (highest_bucket q.realtime nr_buckets))

unfoldable pub said_idle : Queue → Priority
said_idle q = priority class.Idle (highest_bucket q.idle nr_buckets)

unfoldable pub said_timeshare : (ℕ → ℕ) → Queue → Priority
said_timeshare value q = cond (empty (timeshare_line q)) (said_idle q) (priority class.User (highest_value value (timeshare_line q)))

-- what is advertised after a take from part p that left q
unfoldable pub said_after_take : Part → (ℕ → ℕ) → Priority → Queue → Priority
said_after_take part.Realtime value said q = cond (is_class class.Realtime said) (said_realtime q) said
said_after_take part.Timeshare value said q = cond (is_class class.User said) (said_timeshare value q) said
said_after_take part.Idle value said q = said_idle q
