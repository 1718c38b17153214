-- WHAT RUN QUEUES STAND FOR. The code's run queue has heads, tails and counters, the thread records have links; document 01's queue is lists.
use Rattle.std.specs.Prelude.{ℕ, ◌+◌, ◌/◌, ◌≤◌, ◌<◌, ◌≡◌, Bool, true, List, [], ◌∷◌, length, get_or, eqb}
use Rattle.rules.specs.Line.{has, count, Distinct, Below}
use Rattle.rules.specs.Queue.{width, movable, nr_buckets, Queue, order, load, timeshare_load}
use Rattle.rules.specs.Buckets.{Buckets, around}
use Rattle.rules.specs.Priority.{nr_values, from_raw}
use Rattle.queue.specs.declared.pq.PriorityQueue.{PriorityQueue}
use Rattle.queue.specs.declared.timeshare.TimeshareQueue.{TimeshareQueue}
use Rattle.represents.specs.Linked.{ListsRep}
use Rattle.runqueue.specs.declared.rq.RunQueue.{RunQueue}
use Rattle.represents.specs.QueueRead.{Marks, marks}
use Rattle.thread.specs.declared.Thread.{Thread}
use Rattle.processor.specs.Queue.{queue_at}
use Rattle.rules.specs.declared.Priority.{Priority}

-- the threads of a part, from an index onward round
abbrev pub line : Buckets → ℕ → List ℕ
line bs s = around nr_buckets bs s nr_buckets

-- how many of a line were put in with a value of the k-th sixteen
unfoldable pub tally : (ℕ → ℕ) → ℕ → List ℕ → ℕ
tally value k [] = 0
tally value k (x ∷ l) = count (eqb (value x / width) k) + tally value k l

-- realtime or idle
pub record PartRep (next : ℕ → ℕ) (p : PriorityQueue) (bs : Buckets) : Type 0 where
  pub shown : ListsRep next p.queues bs
  pub counted : p.count ≡ length (line bs 0)

-- timeshare, at its two indexes. value: with what value each thread was put in
pub record TimeshareRep (next value : ℕ → ℕ) (t : TimeshareQueue) (bs : Buckets) (insert_idx take_idx : ℕ) : Type 0 where
  pub shown : ListsRep next t.queues bs
  pub counted : t.count ≡ length (line bs take_idx)
  pub insert_is : t.insert_idx ≡ insert_idx
  pub take_is : t.take_idx ≡ take_idx
  pub insert_in : insert_idx < nr_buckets
  pub take_in : take_idx < nr_buckets
  pub values_in : (x : ℕ) → has x (line bs take_idx) ≡ true → value x < nr_values
  pub priorities_full : length t.priorities ≡ nr_buckets
  pub priorities_are : (k : ℕ) → k < nr_buckets → get_or t.priorities k 0 ≡ tally value k (line bs take_idx)

-- What is read off one CPU's run queue: document 01's queue, the priority that it advertises, and the tick of its last hard tick.
pub record QueueReading : Type 0 where
  pub queue : Queue
  pub advertised : Priority
  pub last_tick : ℕ

-- WELL FORMED, AND READS AS R. Each bucket's list runs from head to tail below the limit and ends; nobody stands twice; the counts, loads and the
-- movable count are those of the lists; both indexes are below 8; what is advertised and the last tick are R's.
pub record QueueRep (limit : ℕ) (m : Marks) (q : RunQueue) (R : QueueReading) : Type 0 where
  pub realtime : PartRep m.next q.realtime R.queue.realtime
  pub timeshare : TimeshareRep m.next m.value q.timeshare R.queue.timeshare R.queue.insert_idx R.queue.take_idx
  pub idle : PartRep m.next q.idle R.queue.idle
  pub once : Distinct (order R.queue)
  pub numbered : Below limit (order R.queue)
  pub load_is : q.load ≡ load R.queue
  pub timeshare_load_is : q.timeshare_load ≡ timeshare_load R.queue
  pub movable_is : q.movable ≡ movable m.pinned (order R.queue)
  pub advertised_is : from_raw q.current_priority ≡ R.advertised
  pub last_tick_is : q.last_tick ≡ R.last_tick

-- thread z waits at CPU c
abbrev pub waits : (ℕ → QueueReading) → ℕ → ℕ → Bool
waits Rs c z = has z (order (Rs c).queue)

-- Each of the n CPUs' run queues is well formed and reads as Rs says, and nobody waits at two CPUs.
pub record AllQueuesRep (limit n : ℕ) (m : Marks) (qs : ℕ → RunQueue) (Rs : ℕ → QueueReading) : Type 0 where
  pub each : (c : ℕ) → c < n → QueueRep limit m (qs c) (Rs c)
  pub apart : (c d z : ℕ) → c < n → d < n → waits Rs c z ≡ true → waits Rs d z ≡ true → c ≡ d

-- WELL FORMED MEMORY, AND READS AS Rs: there is a record for each thread below the limit and a row of words for each of the n CPUs; each CPU's run
-- queue is well formed and reads as Rs says; nobody waits at two CPUs.
pub record QueuesRep (limit n : ℕ) (ts : List Thread) (cs : List (List ℕ)) (Rs : ℕ → QueueReading) : Type 0 where
  pub records : limit ≤ length ts
  pub cpus : n ≤ length cs
  pub rows : (c : ℕ) → c < n → 72 ≤ length (get_or cs c [])
  pub shows : AllQueuesRep limit n (marks ts) (queue_at cs) Rs
