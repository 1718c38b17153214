-- WHAT LENT MEMORY SHOWS: thread records ts and words cs of the CPUs that show the CPUs and threads of the rules' World w. A reader reads all of this
-- file.
use Rattle.std.specs.Prelude.{ℕ, ◌^◌, ◌≤◌, ◌<◌, ◌≡◌, Bool, true, false, not, List, [], length, get_or, eqb, Option, None, Some, is_some}
use Rattle.rules.specs.Questions.{most_shortest}
use Rattle.rules.specs.Priority.{from_raw}
use Rattle.rules.specs.State.{Limits, Topology, Cpu}
use Rattle.rules.specs.Schedule.{World}
use Rattle.rules.specs.Waits.{Under, waits, Free}
use Rattle.thread.specs.declared.Thread.{Thread}
use Rattle.thread.specs.declared.place.Place.{Place}
use Rattle.thread.specs.declared.place.Place.TheVariants as place
use Rattle.thread.specs.Thread.{NONE}
use Rattle.thread.specs.Reads.{reads}
use Rattle.thread.specs.Place.{place_in}
use Rattle.processor.specs.Words.{width, word}
use Rattle.processor.specs.Word.{DECLARED, PLACED, RUNNING, OWN_PRIORITY, IS_IDLE, MUST_REBALANCE, PREEMPT, RAND_STATE, CUR_REBALANCE_TIME, IDLE_TIMESLICE}
use Rattle.represents.specs.Queue.{QueueReading}
use Rattle.records.specs.Rq.{record_at}
use Rattle.represents.specs.Queue.{QueuesRep}

-- ---- one CPU

-- what its run queue reads as
unfoldable pub reading_of : Cpu → QueueReading
reading_of p = record { queue = p.queue; advertised = p.advertised; last_tick = p.last_tick }

-- the word for a number or none
unfoldable pub number_or_none : Option ℕ → ℕ
number_or_none None = NONE
number_or_none (Some x) = x

-- any number but 0 is a mark
unfoldable pub mark_in : ℕ → Bool
mark_in n = not (eqb n 0)

-- Its words beside those of the run queue, said by the numbers that they have in processor's words.rt: of the first two the topology speaks.
pub record WordsRead (topology : Topology) (c : ℕ) (said : ℕ → ℕ) (p : Cpu) : Type 0 where
  pub declared : mark_in (said DECLARED) ≡ topology.declared c
  pub placed : said PLACED ≡ number_or_none (topology.placed c)
  pub running : said RUNNING ≡ number_or_none p.running
  pub own_priority : from_raw (said OWN_PRIORITY) ≡ p.own_priority
  pub is_idle : eqb (said IS_IDLE) 0 ≡ is_some p.running
  pub must_rebalance : mark_in (said MUST_REBALANCE) ≡ p.must_rebalance
  pub preempt : mark_in (said PREEMPT) ≡ p.preempt
  pub draw_state : said RAND_STATE ≡ p.draw_state
  pub rebalance_time : said CUR_REBALANCE_TIME ≡ p.rebalance_time
  pub idle_timeslice : said IDLE_TIMESLICE ≡ p.idle_timeslice

abbrev pub WordsRep : Topology → List (List ℕ) → ℕ → Cpu → Type 0
WordsRep topology cs c p = WordsRead topology c (word cs c) p

-- ---- the places of threads

abbrev pub place_at : List Thread → ℕ → Place
place_at ts x = place_in (record_at ts x).place

-- A thread that waits is marked so; active are the threads that run, and within a command those on their way from one queue to another or to a CPU.
pub record Places (limit : ℕ) (known active : ℕ → Bool) (ts : List Thread) (w : World) : Type 0 where
  pub waiting : (c x : ℕ) → waits w c x ≡ true → place_at ts x ≡ place.Waiting
  pub running : (x : ℕ) → active x ≡ true → place_at ts x ≡ place.Running
  pub blocked : (x : ℕ) → x < limit → known x ≡ true → active x ≡ false → Free w x → place_at ts x ≡ place.Blocked
  pub undeclared : (x : ℕ) → known x ≡ false → place_at ts x ≡ place.Undeclared

-- ---- all of it

-- 8: "at most 2^62"
abbrev pub most_tick : ℕ
most_tick = 2 ^ 62

-- Limits with which no sum of the scheduler wraps and every CPU number fits a record.
pub record Small (limits : Limits) : Type 0 where
  pub cpus : limits.cpus ≤ 2147483648
  pub threads : limits.threads ≤ 2147483648
  pub shortest : limits.shortest ≤ most_shortest

-- There are records and rows enough, and no record has the number for none; each run queue is well formed and reads as the rules' (`QueuesRep`);
-- each record below the limit reads as the rules' thread, whose queue is that of a CPU, and each other word of a CPU as the rules' field; the places of
-- threads agree with who waits.
pub record WorldRep (limits : Limits) (topology : Topology) (known active : ℕ → Bool) (ts : List Thread) (cs : List (List ℕ)) (w : World) : Type 0 where
  pub queues : QueuesRep limits.threads limits.cpus ts cs (λ c. reading_of (w.cpus c))
  pub none_past : length ts ≤ NONE
  pub rows : (c : ℕ) → c < limits.cpus → length (get_or cs c []) ≡ width
  pub threads : (x : ℕ) → x < limits.threads → reads (record_at ts x) ≡ w.threads x
  pub queue_cpus : (x : ℕ) → x < limits.threads → Under limits.cpus (w.threads x).queue_cpu
  pub words : (c : ℕ) → c < limits.cpus → WordsRep topology cs c (w.cpus c)
  pub places : Places limits.threads known active ts w
