-- A run queue in the first 72 words of a CPU: a load after a store gives the queue again, and neither another word nor another CPU is touched.
use Rattle.std.specs.Prelude.{ℕ, ◌+◌, List, [], ◌∷◌, slice_index, slice_index_or, slice_set, Option}
use Rattle.rules.specs.declared.Part.{Part}
use Rattle.queue.specs.declared.lists.Lists.{Lists}
use Rattle.runqueue.specs.declared.rq.Arrival.{Arrival}
use Rattle.runqueue.specs.declared.rq.RunQueue.{RunQueue}
use Rattle.runqueue.specs.RunQueue.{rq_insert_into}
use Rattle.processor.specs.Left.{Words, Left}
use Rattle.processor.specs.Window.{load_n, place_n}

unfoldable pub lists_at : List ℕ → ℕ → Lists
lists_at ws at = record { heads = load_n ws at 8 8; tails = load_n ws (at + 8) 8 8 }

unfoldable pub lists_stored_def : List ℕ → ℕ → Lists → List ℕ
lists_stored_def ws at l = place_n (place_n ws at l.heads 8) (at + 8) l.tails 8

unfoldable pub first_eight : RunQueue → List ℕ
first_eight q = q.realtime.count ∷ q.timeshare.count ∷ q.timeshare.insert_idx ∷ q.timeshare.take_idx ∷ q.idle.count ∷ q.current_priority ∷ q.load ∷ q.timeshare_load ∷ []

unfoldable pub last_two : RunQueue → List ℕ
last_two q = q.movable ∷ q.last_tick ∷ 0 ∷ 0 ∷ 0 ∷ 0 ∷ 0 ∷ 0 ∷ []

unfoldable pub built_of : Lists → List ℕ → Lists → Lists → List ℕ → List ℕ → RunQueue
built_of a c d f s t = record {
  realtime = record { count = slice_index s 0; queues = a };
  timeshare = record { count = slice_index s 1; priorities = c; insert_idx = slice_index s 2; take_idx = slice_index s 3; queues = d };
  idle = record { count = slice_index s 4; queues = f };
  current_priority = slice_index s 5;
  load = slice_index s 6;
  timeshare_load = slice_index s 7;
  movable = slice_index t 0;
  last_tick = slice_index t 1;
}

unfoldable pub queue_from : List ℕ → ℕ → RunQueue
queue_from ws at = built_of (lists_at ws at) (load_n ws (at + 16) 8 8) (lists_at ws (at + 24)) (lists_at ws (at + 40)) (load_n ws (at + 56) 8 8) (load_n ws (at + 64) 8 8)

unfoldable pub stored_from : List ℕ → ℕ → RunQueue → List ℕ
stored_from ws at q =
    place_n (place_n (lists_stored_def (lists_stored_def (place_n (lists_stored_def ws at q.realtime.queues) (at + 16) q.timeshare.priorities 8) (at + 24) q.timeshare.queues)
    (at + 40) q.idle.queues) (at + 56) (first_eight q) 8) (at + 64) (last_two q) 8

-- read off a row of words, and stored into it
unfoldable pub queue_in_def : List ℕ → RunQueue
queue_in_def row = queue_from row 0

unfoldable pub queue_into : List ℕ → RunQueue → List ℕ
queue_into row q = stored_from row 0 q

-- of CPU c; past the last CPU all words are 0, and nothing is stored
unfoldable pub queue_at : List (List ℕ) → ℕ → RunQueue
queue_at cs c = queue_in_def (slice_index_or cs c [])

unfoldable pub queue_stored : List (List ℕ) → ℕ → RunQueue → List (List ℕ)
queue_stored cs c q = slice_set cs c (queue_into (slice_index_or cs c []) q)

-- a thread goes into this part of the queue of CPU c: whose link is set to it, if anybody's
unfoldable pub inserted_def : Part → ℕ → Arrival → Words → Left (Option ℕ) Words
inserted_def p c a cs = record {
  answer = (rq_insert_into p (queue_at cs c) a).behind;
  memory = queue_stored cs c (rq_insert_into p (queue_at cs c) a).queue;
}
