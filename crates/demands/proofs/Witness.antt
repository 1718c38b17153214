-- There is memory on which `start` answers Ready: 1,024 records, 64 CPUs and 128 nodes of zeros.
use Rattle.std.specs.Prelude.{ℕ, ◌<◌, ◌≡◌, refl, [], length, get_or}
use Rattle.std.proofs.Common.{arith}
use Rattle.std.proofs.lemmas.List.{length-replicate, get_or-replicate}
use Rattle.thread.specs.Thread.{blank}
use Rattle.processor.specs.Words as cpu
use Rattle.topology.specs.Words as node
use Rattle.represents.specs.Topology.{Sized}
use Rattle.stream.specs.Start.{no_room_def, start_def}
use Rattle.demands.specs.Calls.{Ready}
use Rattle.demands.specs.Witness.{begun, records, rows, zeros}

row_long : (n k c : ℕ) → c < length (rows n k) → length (get_or (rows n k) c []) ≡ k
row_long n k c h = rw (get_or-replicate n c (zeros k) [] (rw (length-replicate n (zeros k)) at h)) (length-replicate {A = ℕ} k 0)

pub ready : Ready begun
unfolding start_def no_room_def Sized
ready = record {
  threads = records;
  cpus = rows 64 cpu.width;
  nodes = rows 128 node.width;
  typed = record {
    records = rw (length-replicate 1024 blank) (omega arith);
    cpu_rows = row_long 64 cpu.width;
    node_rows = row_long 128 node.width;
  };
  answered = refl;
  left_threads = refl;
  left_cpus = refl;
  left_nodes = refl;
}
