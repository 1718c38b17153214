-- THE MEMORY THAT THE RULES LEAVE FREE: the parts of the lent memory that stand for nothing in the rules, so that demand 2 does not speak of them. What holds
-- of each after every list of calls from the library's start, obeyed and refused: that it is as found, or what it is written. A reader reads the record and,
-- in proofs/Frame, the theorem.
use Rattle.std.specs.Prelude.{ℕ, ◌≤◌, ◌<◌, ◌≡◌, ◌≢◌, ◌⊎◌, List, [], length, get_or}
use Rattle.thread.specs.Thread.{NONE, blank}
use Rattle.records.specs.Left.{mem}
use Rattle.command.specs.Lent.{Lent}
use Rattle.command_laws.specs.InRange.{StaysInRange}
use Rattle.command_laws.specs.Nodes.{Nodes}
use Rattle.demands.specs.Calls.{LentState}

-- found: the memory as it was lent to `start`; h: what `start` and the calls left.
pub record Frame (found : Lent) (h : LentState) : Type 0 where
  -- The slices keep their lengths, and so does every row.
  pub as_many_records : length h.threads ≡ length found.threads
  pub as_many_cpus : length h.cpus ≡ length found.cpus
  pub as_many_nodes : length h.nodes ≡ length found.nodes
  pub cpus_as_long : (c : ℕ) → length (get_or h.cpus c []) ≡ length (get_or found.cpus c [])
  pub nodes_as_long : (n : ℕ) → length (get_or h.nodes n []) ≡ length (get_or found.nodes n [])
  -- A record from 1,024 on is blank, as `start` makes every record.
  pub records_past : (x : ℕ) → 1024 ≤ x → get_or h.threads x blank ≡ blank
  -- The row of a CPU from 64 on is as found.
  pub cpus_past : (c : ℕ) → 64 ≤ c → get_or h.cpus c [] ≡ get_or found.cpus c []
  -- The words 82 to 95 of every CPU are as found.
  pub words_past : (c w : ℕ) → 82 ≤ w → w < 96 → get_or (get_or h.cpus c []) w 0 ≡ get_or (get_or found.cpus c []) w 0
  -- The words 66 to 71 of a CPU below 64 are 0: `start` writes them, and so does every store of its run queue.
  pub queue_zeros : (c w : ℕ) → c < 64 → 66 ≤ w → w < 72 → get_or (get_or h.cpus c []) w 0 ≡ 0
  -- The row of a node that is not made is as found.
  pub nodes_unmade : (n : ℕ) → h.state.node_count ≤ n → get_or h.nodes n [] ≡ get_or found.nodes n []
  -- The words 7 to 15 of a node that is made are 0, and so are 17 to 31, the set's past CPU 63: making the node writes them.
  pub node_zeros : (n w : ℕ) → n < h.state.node_count → 7 ≤ w → w < 32 → w ≢ 16 → get_or (get_or h.nodes n []) w 0 ≡ 0
  -- The link of a thread that does not wait, and the tail of a bucket that holds nobody, are left over. Every link, and every head (words 0 to 7, 24 to 31,
  -- 40 to 47) and tail (8 to 15, 32 to 39, 48 to 55) of a CPU below 64, is a number below 1,024 or the one for none.
  pub links : (x : ℕ) → 1024 ≤ (get_or h.threads x blank).next → (get_or h.threads x blank).next ≡ NONE
  pub ends : (c w : ℕ) → c < 64 → (w < 16) ⊎ ((24 ≤ w) × (w < 56)) → 1024 ≤ get_or (get_or h.cpus c []) w 0 → get_or (get_or h.cpus c []) w 0 ≡ NONE

-- ---- for the proof

pub record KeptFree (found : List (List ℕ)) (b h : LentState) : Type 0 where
  pub memory : StaysInRange (mem b.threads b.cpus) (mem h.threads h.cpus)
  pub nodes : Nodes found h.state.node_count h.nodes
