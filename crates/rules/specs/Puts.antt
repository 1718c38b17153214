-- Document 01's puts and takes, as the rules give them beside state and answer.
use Rattle.std.specs.Prelude.{ℕ, Bool, ◌&&◌, Option}
use Rattle.rules.specs.declared.Part.{Part}
use Rattle.rules.specs.Queue.{Queue, Arrival, part_for, bucket_for, is_timeshare}

-- "A put, or arrival, is a thread going into a part of that queue; it comes in as the current thread if the rule for a current thread gives its bucket."
-- "The filling and emptying buckets at an arrival are those of the two indexes just before it": insert_idx and take_idx.
pub record Put : Type 0 where
  pub thread : ℕ
  pub part : Part
  pub bucket : ℕ
  pub current : Bool
  pub pinned : Bool
  pub insert_idx : ℕ
  pub take_idx : ℕ

-- "A take is each time a thread is asked of that queue, also if none comes out: a stealing one if `try_steal` or `balance` asks, else the CPU's own."
-- a_take: whether it is a stealing one, and what it handed out.
pub data PutOrTake : Type 0 where
  a_put : Put → PutOrTake
  a_take : Bool → Option ℕ → PutOrTake

-- the put that `insert q a` makes; pinned: whether the thread is
unfoldable pub put_made : Bool → Queue → Arrival → Put
put_made pinned q a = record {
  thread = a.thread;
  part = part_for a;
  bucket = bucket_for (part_for a) q a;
  current = a.current && is_timeshare (part_for a);
  pinned = pinned;
  insert_idx = q.insert_idx;
  take_idx = q.take_idx;
}
