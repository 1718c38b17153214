-- The timeshare part as the code has it.
use Rattle.std.specs.Prelude.{◌≡◌, ℕ, zero, suc, ◌+◌, ◌-◌, ◌*◌, ◌/◌, ◌%◌, ◌<◌, Bool, cond, List, replicate, ◌==◌, slice_index, slice_set, refl, Option, None}
use Rattle.std.proofs.Common.{arith}
use Rattle.thread.specs.Thread.{NONE}
use Rattle.rules.specs.Queue.{nr_buckets, width, offset, step_back}
use Rattle.queue.specs.declared.lists.Lists.{Lists}
use Rattle.queue.specs.declared.lists.Put.{Put}
use Rattle.queue.specs.declared.lists.Found.{Found}
use Rattle.queue.specs.declared.timeshare.TimeshareQueue.{TimeshareQueue}
use Rattle.queue.specs.Num.{sum, difference}
use Rattle.queue.specs.Lists.{no_lists_def, push_back, unlinked, first_from}

-- newly made
unfoldable pub no_timeshare : TimeshareQueue
no_timeshare = record { count = 0; priorities = replicate nr_buckets 0; insert_idx = 0; take_idx = 0; queues = no_lists_def }

-- nobody waits: the Rust's flag of the part
unfoldable pub ts_empty : TimeshareQueue → Bool
ts_empty t = t.count == 0

-- the least value of the highest of the first k counts that is not 0
unfoldable pub top_counts_def : List ℕ → ℕ → ℕ
top_counts_def ps zero = 0
top_counts_def ps (suc k) = cond (slice_index ps k == 0) (top_counts_def ps k) (k * width)

-- the least value of the highest sixteen of which one waits, 0 if none does
unfoldable pub ts_highest : TimeshareQueue → ℕ
ts_highest t = cond (t.count == 0) 0 (top_counts_def t.priorities nr_buckets)

-- document 01's bucket before it is stepped back
unfoldable pub ts_index : TimeshareQueue → ℕ → ℕ
ts_index t v = (t.insert_idx + offset v) % nr_buckets

-- the bucket that a thread joins: "stepped back by one if it is the emptying bucket and the indexes differ"; a current thread joins the emptying bucket
unfoldable pub ts_bucket : TimeshareQueue → ℕ → Bool → ℕ
ts_bucket t v current =
    cond current t.take_idx
    (cond (ts_index t v == t.take_idx) (cond (t.insert_idx == t.take_idx) (ts_index t v) (step_back (ts_index t v))) (ts_index t v))

-- which of the eight counts a value belongs to
unfoldable pub slot : ℕ → ℕ
slot v = v / width % nr_buckets

-- thread x of value v comes in
unfoldable pub ts_insert : TimeshareQueue → ℕ → ℕ → Bool → Put TimeshareQueue
ts_insert t x v current =
    let u : Put Lists = push_back t.queues (ts_bucket t v current) x in
    record {
      queue = record {
        count = sum t.count 1;
        priorities = slice_set t.priorities (slot v) (sum (slice_index t.priorities (slot v)) 1);
        insert_idx = t.insert_idx;
        take_idx = t.take_idx;
        queues = u.queue;
      };
      behind = u.behind;
    }

-- "A take scans from the emptying index for the first bucket holding a thread"
unfoldable pub ts_front : TimeshareQueue → Option Found
ts_front t = cond (t.count == 0) None (first_from t.queues t.take_idx)

-- the take index once a thread has left bucket q: one further if the bucket is now empty and the indexes differ
unfoldable pub ts_next : TimeshareQueue → ℕ → ℕ → ℕ → ℕ
ts_next t q previous next = cond (previous == NONE) (cond (next == NONE) (cond (q == t.insert_idx) q ((q + 1) % nr_buckets)) q) q

-- the Rust's saturating_sub(1)
unfoldable pub less_one_def : ℕ → ℕ
less_one_def x = x - 1

-- a thread of value v has left bucket q from behind `previous`; its link was `next`
unfoldable pub ts_taken : TimeshareQueue → ℕ → ℕ → ℕ → ℕ → TimeshareQueue
ts_taken t q previous next v = record {
  count = difference t.count 1;
  priorities = slice_set t.priorities (slot v) (less_one_def (slice_index t.priorities (slot v)));
  insert_idx = t.insert_idx;
  take_idx = ts_next t q previous next;
  queues = unlinked t.queues q previous next;
}

-- the filling index moves on
unfoldable pub ts_step : TimeshareQueue → ℕ → TimeshareQueue
ts_step t steps = record { count = t.count; priorities = t.priorities; insert_idx = (t.insert_idx + steps) % nr_buckets; take_idx = t.take_idx; queues = t.queues }

-- "`advance_insert_index` does nothing on an empty queue"; without force, nor where the indexes differ
unfoldable pub ts_advance : TimeshareQueue → ℕ → Bool → TimeshareQueue
ts_advance t steps force =
    cond (t.count == 0) t (cond (t.insert_idx == t.take_idx) (ts_step t steps) (cond force (ts_step t steps) t))

-- ---- for the proofs of the code

-- a step back by seven steps round
pub back_round : (j : ℕ) → j < 8 → (j + 7) % 8 ≡ step_back j
unfolding step_back nr_buckets
back_round zero h = refl
back_round (suc j) h = omega arith

-- the code reduces an index before it adds
pub round_sum : (a b : ℕ) → (a % 8 + b % 8) % 8 ≡ (a + b) % nr_buckets
unfolding nr_buckets
round_sum a b = omega arith

pub round_left : (a b : ℕ) → (a % 8 + b) % 8 ≡ (a + b) % nr_buckets
unfolding nr_buckets
round_left a b = omega arith
