-- THE QUEUE IN MEMORY: document 01's queue, read off the thread records and the words of a CPU by a walk along the links.
use Rattle.std.specs.Prelude.{ℕ, zero, suc, cond, Bool, List, [], ◌∷◌, map, eqb}
use Rattle.rules.specs.Queue.{Queue}
use Rattle.thread.specs.Thread.{NONE}
use Rattle.rules.specs.Times.{pinned}
use Rattle.thread.specs.declared.Thread.{Thread}
use Rattle.thread.specs.Reads.{reads}
use Rattle.records.specs.Rq.{record_at}
use Rattle.runqueue.specs.declared.rq.RunQueue.{RunQueue}

-- from thread h along the links, at most k threads; NONE ends the list
unfoldable pub walk : (ℕ → ℕ) → ℕ → ℕ → List ℕ
walk next zero h = []
walk next (suc k) h = cond (eqb h NONE) [] (h ∷ walk next k (next h))

-- What a run queue asks of the thread records, by thread number: the link, whether it is pinned, and the value with which it was put into timeshare.
pub record Marks : Type 0 where
  pub next : ℕ → ℕ
  pub pinned : ℕ → Bool
  pub value : ℕ → ℕ

-- What run queues ask of the records.
unfoldable pub marks : List Thread → Marks
marks ts = record {
  next = λ z. (record_at ts z).next;
  pinned = λ z. pinned (reads (record_at ts z));
  value = λ z. (reads (record_at ts z)).stable.value;
}

-- the queue: from each head along the links, at most `limit` threads
unfoldable pub queue_read : ℕ → Marks → RunQueue → Queue
queue_read limit m q = record {
  realtime = map (walk m.next limit) q.realtime.queues.heads;
  timeshare = map (walk m.next limit) q.timeshare.queues.heads;
  insert_idx = q.timeshare.insert_idx;
  take_idx = q.timeshare.take_idx;
  idle = map (walk m.next limit) q.idle.queues.heads;
}
