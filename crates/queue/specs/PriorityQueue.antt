-- The realtime and the idle part as the code has them.
use Rattle.std.specs.Prelude.{ℕ, Bool, cond, ◌==◌, Option, None}
use Rattle.rules.specs.declared.PriorityClass.{PriorityClass}
use Rattle.rules.specs.Queue.{class_bucket}
use Rattle.queue.specs.declared.lists.Lists.{Lists}
use Rattle.queue.specs.declared.lists.Put.{Put}
use Rattle.queue.specs.declared.lists.Found.{Found}
use Rattle.queue.specs.declared.pq.PriorityQueue.{PriorityQueue}
use Rattle.queue.specs.Num.{sum, difference}
use Rattle.queue.specs.Lists.{no_lists_def, push_back, unlinked, first_from, highest_held}

-- newly made
unfoldable pub no_priority : PriorityQueue
no_priority = record { count = 0; queues = no_lists_def }

-- nobody waits: the Rust's flag of the part
unfoldable pub pq_empty : PriorityQueue → Bool
pq_empty p = p.count == 0

-- the least value of the highest bucket that holds a thread, 0 if none does
unfoldable pub pq_highest : PriorityQueue → ℕ
pq_highest p = cond (p.count == 0) 0 (highest_held p.queues)

-- thread x of class c and value v comes in
unfoldable pub pq_insert : PriorityQueue → ℕ → PriorityClass → ℕ → Put PriorityQueue
pq_insert p x c v =
    let u : Put Lists = push_back p.queues (class_bucket c v) x in
    record { queue = record { count = sum p.count 1; queues = u.queue }; behind = u.behind }

-- "bucket 0 is handed out first"
unfoldable pub pq_front : PriorityQueue → Option Found
pq_front p = cond (p.count == 0) None (first_from p.queues 0)

-- a thread has left bucket q from behind `previous`; its link was `next`
unfoldable pub pq_taken : PriorityQueue → ℕ → ℕ → ℕ → PriorityQueue
pq_taken p q previous next = record { count = difference p.count 1; queues = unlinked p.queues q previous next }
