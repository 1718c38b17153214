-- THE THREAD NUMBERS IN A RUN QUEUE: each is below 1,024 or none, and every operation of the queue keeps that.
use Rattle.std.specs.Prelude.{ℕ, ◌≤◌, ◌≡◌, length, get_or, Option, None, Some}
use Rattle.thread.specs.Thread.{NONE}
use Rattle.queue.specs.declared.lists.Lists.{Lists}
use Rattle.queue.specs.declared.lists.Found.{Found}
use Rattle.runqueue.specs.declared.rq.RunQueue.{RunQueue}
use Rattle.runqueue.specs.declared.rq.Front.{Front}
use Rattle.processor.proofs.Laws.Queue.{Eight}

-- a link number: that of a thread, or none
abbrev pub Link : ℕ → Type 0
Link x = 1024 ≤ x → x ≡ NONE

-- ---- eight lists

pub record ListsInRange (l : Lists) : Type 0 where
  pub eight : Eight l
  pub heads : (b : ℕ) → Link (get_or l.heads b 0)
  pub tails : (b : ℕ) → Link (get_or l.tails b 0)

-- ---- who is found

unfoldable pub FoundLink : Option Found → Type 0
FoundLink (Some f) = Link f.thread
FoundLink None = Unit

unfoldable pub FrontLink : Option Front → Type 0
FrontLink (Some f) = Link f.thread
FrontLink None = Unit

-- ---- whose link leads to a thread that came in

unfoldable pub BehindLink : Option ℕ → Type 0
BehindLink None = Unit
BehindLink (Some b) = Link b

-- ---- the run queue

pub record QueueInRange (q : RunQueue) : Type 0 where
  pub realtime : ListsInRange q.realtime.queues
  pub timeshare : ListsInRange q.timeshare.queues
  pub idle : ListsInRange q.idle.queues
  pub counts : length q.timeshare.priorities ≡ 8
