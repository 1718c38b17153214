-- One part of a run queue and its numbers, stored into the words of its CPU: where an operation changes no other part, this stores the queue.
use Rattle.std.specs.Prelude.{ℕ, List, [], slice_index_or, slice_set}
use Rattle.rules.specs.declared.Part.{Part}
use Rattle.rules.specs.declared.Part.TheVariants as part
use Rattle.queue.specs.declared.lists.Lists.{Lists}
use Rattle.runqueue.specs.declared.rq.RunQueue.{RunQueue}
use Rattle.processor.specs.Window.{place_n}
use Rattle.processor.specs.Queue.{lists_stored_def, first_eight, last_two}

-- ---- in a row of words

unfoldable pub numbers_into : List ℕ → RunQueue → List ℕ
numbers_into row q = place_n (place_n row 56 (first_eight q) 8) 64 (last_two q) 8

unfoldable pub part_into : Part → List ℕ → RunQueue → List ℕ
part_into part.Realtime row q = numbers_into (lists_stored_def row 0 q.realtime.queues) q
part_into part.Timeshare row q = numbers_into (lists_stored_def (place_n row 16 q.timeshare.priorities 8) 24 q.timeshare.queues) q
part_into part.Idle row q = numbers_into (lists_stored_def row 40 q.idle.queues) q

-- ---- in the row of CPU c; past the last CPU nothing is stored

unfoldable pub numbers_stored : List (List ℕ) → ℕ → RunQueue → List (List ℕ)
numbers_stored cs c q = slice_set cs c (numbers_into (slice_index_or cs c []) q)

unfoldable pub part_stored : Part → List (List ℕ) → ℕ → RunQueue → List (List ℕ)
part_stored p cs c q = slice_set cs c (part_into p (slice_index_or cs c []) q)

-- ---- the lists of a queue, of which the row holds all but those of one part

abbrev pub lists_stored : List ℕ → Lists → List ℕ → Lists → Lists → List ℕ
lists_stored row a c d f = lists_stored_def (lists_stored_def (place_n (lists_stored_def row 0 a) 16 c 8) 24 d) 40 f
