-- THE MEMORY THAT THE SCHEDULER WRITES: records below 1,024, and of the rows below 64 the words of the run queue and the ten words beside it. What
-- a record or a word is written, what stays, and that every number of a thread or a CPU in the memory then stays small.
use Rattle.std.specs.Prelude.{ℕ, ◌≤◌, ◌<◌, ◌≡◌, List, [], length, get_or}
use Rattle.rules.specs.Waits.{Under}
use Rattle.thread.specs.declared.Thread.{Thread}
use Rattle.thread.specs.Thread.{NONE}
use Rattle.thread.specs.Reads.{cpu_in}
use Rattle.processor.specs.Words.{width, word}
use Rattle.processor.specs.Word.{RUNNING}
use Rattle.processor.specs.Queue.{queue_at}
use Rattle.records.specs.Left.{Memory}
use Rattle.records.specs.Rq.{record_at}
use Rattle.command_laws.specs.Links.{Link, QueueInRange}

-- ---- the words of the CPUs

-- Rows keep their lengths, rows from 64 on and words from 82 on stay.
pub record Rows (cs cs' : List (List ℕ)) : Type 0 where
  pub as_many : length cs' ≡ length cs
  pub as_long : (c : ℕ) → length (get_or cs' c []) ≡ length (get_or cs c [])
  pub past : (c : ℕ) → 64 ≤ c → get_or cs' c [] ≡ get_or cs c []
  pub words : (c w : ℕ) → 82 ≤ w → w < width → get_or (get_or cs' c []) w 0 ≡ get_or (get_or cs c []) w 0

-- The words 66 to 71 of CPU c are 0.
abbrev pub Zeros : List (List ℕ) → ℕ → Type 0
Zeros cs c = (w : ℕ) → 66 ≤ w → w < 72 → get_or (get_or cs c []) w 0 ≡ 0

-- ---- all of it

-- A record whose link is a thread or none, and whose pin and last CPU are CPUs or none.
pub record ThreadInRange (t : Thread) : Type 0 where
  pub link : Link t.next
  pub pin : Under 64 (cpu_in t.pinned_cpu)
  pub last : Under 64 (cpu_in t.last_cpu)

-- Every record is such a one, and every thread number in the words of a CPU is a link number.
pub record InRange (m : Memory) : Type 0 where
  pub none_past : length m.threads ≤ NONE
  pub records : (x : ℕ) → ThreadInRange (record_at m.threads x)
  pub cpus : 64 ≤ length m.cpus
  pub rows : (c : ℕ) → c < 64 → length (get_or m.cpus c []) ≡ width
  pub queues : (c : ℕ) → c < 64 → QueueInRange (queue_at m.cpus c)
  pub running : (c : ℕ) → c < 64 → Link (word m.cpus c RUNNING)
  pub zeros : (c : ℕ) → c < 64 → Zeros m.cpus c

-- From m the memory comes to n.
pub record StaysInRange (m n : Memory) : Type 0 where
  pub tame : InRange n
  pub as_many : length n.threads ≡ length m.threads
  pub past : (x : ℕ) → 1024 ≤ x → record_at n.threads x ≡ record_at m.threads x
  pub rows : Rows m.cpus n.cpus
