-- There is memory on which `start` answers Ready: 1,024 records, 64 CPUs and 128 nodes of zeros.
use Rattle.std.specs.Prelude.{ℕ, List, replicate}
use Rattle.thread.specs.declared.Thread.{Thread}
use Rattle.thread.specs.Thread.{blank}
use Rattle.processor.specs.Words as cpu
use Rattle.topology.specs.Words as node
use Rattle.command_laws.specs.Law.{lent}
use Rattle.stream.specs.Start.{initial, start_def}
use Rattle.demands.specs.Calls.{LentState}

abbrev pub records : List Thread
records = replicate 1024 blank

abbrev pub zeros : ℕ → List ℕ
zeros k = replicate k 0

abbrev pub rows : ℕ → ℕ → List (List ℕ)
rows n k = replicate n (zeros k)

abbrev pub begun : LentState
begun = record {
  threads = (start_def (lent records (rows 64 cpu.width) (rows 128 node.width))).memory.threads;
  cpus = (start_def (lent records (rows 64 cpu.width) (rows 128 node.width))).memory.cpus;
  nodes = (start_def (lent records (rows 64 cpu.width) (rows 128 node.width))).memory.nodes;
  state = initial;
}
