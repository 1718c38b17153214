-- A STREAM FED BLOCK BY BLOCK: lists of calls of `feed`, over the definition that its contract (stream/src/feed.rt) cites. A reader reads all of this file, after
-- demands' Calls, and then Taken and Output.
use Rattle.std.specs.Prelude.{ℕ, ◌+◌, ◌*◌, ◌^◌, ◌≤◌, ◌<◌, ◌≡◌, Bool, true, false, List, [], ◌∷◌, ◌++◌, length, take, drop}
use Rattle.thread.specs.declared.Thread.{Thread}
use Rattle.lines.specs.Lines.{room}
use Rattle.stream.specs.declared.progress.Progress.{Progress}
use Rattle.stream.specs.Progress.{ENDED, begin}
use Rattle.stream.specs.Feed.{World, world_of_def, feed_def}
use Rattle.demands.specs.Calls.{LentState}

-- One call: a block of new bytes, what else stands in the input behind them, the buffer for the output, and whether it says that no byte is to come.
pub record Call : Type 0 where
  pub block : List ℕ
  pub behind : List ℕ
  pub buffer : List ℕ
  pub last : Bool

-- Between calls: the lent memory, how far the run is, and the bytes left over: those that the last call did not take.
pub record Run : Type 0 where
  pub threads : List Thread
  pub cpus : List (List ℕ)
  pub nodes : List (List ℕ)
  pub fed : Progress
  pub left_over : List ℕ

-- the bytes left over go to the front of the next block
unfoldable pub in_hand : Run → Call → List ℕ
in_hand r c = r.left_over ++ c.block

-- what `feed` leaves of memory, buffer and run
unfoldable pub fed_by : Run → Call → World
fed_by r c = feed_def (in_hand r c ++ c.behind) (length (in_hand r c)) c.last (world_of_def r.threads r.cpus r.nodes c.buffer r.fed)

unfoldable pub after : Run → Call → Run
after r c =
    let w : World = fed_by r c in
    record { threads = w.threads; cpus = w.cpus; nodes = w.nodes; fed = w.fed; left_over = drop w.fed.at (in_hand r c) }

-- the bytes of output that the call made
unfoldable pub output_of : Run → Call → List ℕ
output_of r c = take (fed_by r c).fed.done (fed_by r c).output

-- does a line of at most 48 bytes fit behind them?
unfoldable pub room_left : Run → Call → Bool
room_left r c = room (fed_by r c).output (fed_by r c).fed.done

-- ---- one call after the other

unfoldable pub after_all : Run → List Call → Run
after_all r [] = r
after_all r (c ∷ calls) = after_all (after r c) calls

-- the outputs, one behind the other
unfoldable pub outputs : Run → List Call → List ℕ
outputs r [] = []
outputs r (c ∷ calls) = output_of r c ++ outputs (after r c) calls

-- the blocks, one behind the other: the stream that is cut into them
unfoldable pub stream : List Call → List ℕ
stream [] = []
stream (c ∷ calls) = c.block ++ stream calls

-- A call says `last` only where no byte comes after it, and its buffer's length is a usize; to_come: the bytes after all these calls.
unfoldable pub Proper : List Call → List ℕ → Type 0
Proper [] to_come = Unit
Proper (c ∷ calls) to_come = (c.last ≡ true → stream calls ++ to_come ≡ []) × ((length c.buffer < 2 ^ 64) × Proper calls to_come)

-- A buffer with room for a line of each command that its call may meet: 48 bytes for each byte of its block, and for ten more.
unfoldable pub Roomy : List Call → Type 0
Roomy [] = Unit
Roomy (c ∷ calls) = (48 * (length c.block + 10) ≤ length c.buffer) × Roomy calls

-- the last call says `last`
unfoldable pub says_last : List Call → Bool
says_last [] = false
says_last (c ∷ []) = c.last
says_last (c ∷ d ∷ calls) = says_last (d ∷ calls)

-- the end line is written, or at most eight bytes are left over
pub data Settled (r : Run) : Type 0 where
  over : r.fed.phase ≡ ENDED → Settled r
  few : length r.left_over ≤ 8 → Settled r

-- ---- the start

-- a run that begins on what `start` left when it answered Ready (demands' Calls says what that is)
unfoldable pub begun : LentState → Run
begun h = record { threads = h.threads; cpus = h.cpus; nodes = h.nodes; fed = begin h.state; left_over = [] }
