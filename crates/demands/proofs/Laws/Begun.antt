-- What `start` leaves of the memory that was lent to it: the rows of CPUs from 64 on and the words from 82 on as found, all numbers of threads and CPUs
-- small, the root alone on the nodes.
use Prim.Native.Nat.{ℕ, zero, suc, ◌≤◌, ◌<◌}
use Rattle.std.specs.Prelude.{◌≡◌, false, List, [], length, get_or, replicate, ltb}
use Rattle.std.proofs.Common.{sym, subst, ◌∙◌, true≢false, arith, ltb-false}
use Rattle.std.proofs.lemmas.List.{length-replicate}
use Rattle.rules.proofs.Laws.Line.{both}
use Rattle.rules.specs.State.{base_limits, new_cpu}
use Rattle.thread.specs.declared.Thread.{Thread}
use Rattle.thread.specs.Thread.{blank, NONE}
use Rattle.runqueue.specs.RunQueue.{no_run_queue}
use Rattle.processor.specs.Words.{width, word}
use Rattle.processor.specs.Word.{RUNNING}
use Rattle.records.specs.Left.{mem}
use Rattle.records.specs.Rq.{record_at}
use Rattle.represents.specs.World.{number_or_none}
use Rattle.represents.specs.Topology.{Sized}
use Rattle.stream.specs.Start.{new_marks, new_numbers, new_cpu_def, new_cpus, no_room_def, start_def, initial}
use Rattle.question_laws.proofs.Blank.{blank_at}
use Rattle.question_laws.proofs.Start.{new_all}
use Rattle.command_laws.specs.Law.{lent}
use Rattle.command_laws.specs.Links.{Link, QueueInRange}
use Rattle.command_laws.proofs.Links.{orderly_none}
use Rattle.command_laws.specs.InRange.{Rows, InRange, Zeros}
use Rattle.command_laws.proofs.InRange.{rows_none, rows_then, rows_put, rows_store}
use Rattle.command_laws.specs.Nodes.{Nodes}
use Rattle.command_laws.proofs.Nodes.{nodes_root}
use Rattle.demands.specs.Calls.{LentState, Ready}
use Rattle.demands.proofs.Laws.Kept.{is_ready}
use Rattle.demands.proofs.Laws.New.{zeros_new, records_new}

-- ---- the rows of the CPUs

rows_marks : (cs : List (List ℕ)) (c : ℕ) → c < 64 → Rows cs (new_marks cs c)
unfolding new_marks
rows_marks cs c h =
    rows_then (rows_put cs c 72 0 h (omega arith)) (rows_then (rows_put _ c 73 NONE h (omega arith)) (rows_then (rows_put _ c 74 NONE h (omega arith))
    (rows_then (rows_put _ c 75 0 h (omega arith)) (rows_put _ c 76 1 h (omega arith)))))

rows_numbers : (cs : List (List ℕ)) (c : ℕ) → c < 64 → Rows cs (new_numbers cs c)
unfolding new_numbers
rows_numbers cs c h =
    rows_then (rows_put cs c 77 0 h (omega arith)) (rows_then (rows_put _ c 78 0 h (omega arith)) (rows_then (rows_put _ c 79 0 h (omega arith))
    (rows_then (rows_put _ c 80 0 h (omega arith)) (rows_put _ c 81 0 h (omega arith)))))

rows_new : (cs : List (List ℕ)) (c : ℕ) → c < 64 → Rows cs (new_cpu_def cs c)
unfolding new_cpu_def
rows_new cs c h = rows_then (rows_store cs c no_run_queue h) (rows_then (rows_marks _ c h) (rows_numbers _ c h))

module _ (cs : List (List ℕ)) (room : 64 ≤ length cs) (long : (c : ℕ) → c < 64 → length (get_or cs c []) ≡ width) where
  rows_all : (k : ℕ) → k ≤ 64 → Rows cs (new_cpus k cs)
  unfolding new_cpus
  rows_all zero h = rows_none cs
  rows_all (suc k) h = rows_then (rows_all k (omega arith)) (rows_new (new_cpus k cs) k (omega arith))

  zeros_all : (k : ℕ) → k ≤ 64 → (d : ℕ) → d < k → Zeros (new_cpus k cs) d
  unfolding new_cpus
  zeros_all zero h d l = absurd (omega arith)
  zeros_all (suc k) h d l =
      let s = rows_all k (omega arith) in
      zeros_new (new_cpus k cs) k d (omega (arith, s.as_many)) (omega (arith, s.as_long k, long k (omega arith))) (λ n. zeros_all k (omega arith) d (omega arith))

  -- ---- all numbers are small

  running_none : (c : ℕ) → c < 64 → Link (word (new_cpus 64 cs) c RUNNING)
  unfolding new_cpu number_or_none
  running_none c h = λ i. (new_all base_limits cs 64 room long c h).words.running

  tame_new : (n : ℕ) → n ≤ NONE → InRange (mem (replicate n blank) (new_cpus 64 cs))
  tame_new n h =
      let s = rows_all 64 (omega arith) in
      record {
        none_past = rw (length-replicate n blank) h;
        records = records_new n;
        cpus = omega (arith, s.as_many);
        rows = λ c l. s.as_long c ∙ long c l;
        queues = λ c l. subst QueueInRange (sym (new_all base_limits cs 64 room long c l).queue) orderly_none;
        running = running_none;
        zeros = zeros_all 64 (omega arith);
      }

-- ---- all of it

room_for : (t c n : ℕ) → no_room_def t c n ≡ false → (64 ≤ c) × (0 < n)
unfolding no_room_def
room_for t c n e =
    both (ltb t 1024) (λ p. absurd (true≢false (rw p at e)))
    (λ p. both (ltb c 64) (λ q. absurd (true≢false (rw (p, q) at e)))
    (λ q. both (ltb n 128) (λ r. absurd (true≢false (rw (p, q, r) at e))) (λ r. (ltb-false _ _ q, omega (arith, ltb-false n 128 r)))))

pub record Begun (ts : List Thread) (cs ns : List (List ℕ)) (h : LentState) : Type 0 where
  pub tame : InRange (mem h.threads h.cpus)
  pub as_many : length h.threads ≡ length ts
  pub blanks : (x : ℕ) → record_at h.threads x ≡ blank
  pub rows : Rows cs h.cpus
  pub nodes : Nodes ns h.state.node_count h.nodes

left : (ts : List Thread) (cs ns : List (List ℕ)) → no_room_def (length ts) (length cs) (length ns) ≡ false → length ts ≤ NONE → ((c : ℕ) → c < length cs → length (get_or cs c []) ≡ width) → Sized ns
    → Begun ts cs ns (record {
      threads = (start_def (lent ts cs ns)).memory.threads;
      cpus = (start_def (lent ts cs ns)).memory.cpus;
      nodes = (start_def (lent ts cs ns)).memory.nodes;
      state = initial;
    })
unfolding start_def initial
left ts cs ns e most long sized =
    let r = room_for (length ts) (length cs) (length ns) e in
    let rows_long : (c : ℕ) → c < 64 → length (get_or cs c []) ≡ width = λ c h. long c (omega (arith, r.0)) in
    rw e (record {
      tame = tame_new cs r.0 rows_long (length ts) most;
      as_many = length-replicate (length ts) blank;
      blanks = blank_at (length ts);
      rows = rows_all cs r.0 rows_long 64 (omega arith);
      nodes = nodes_root ns r.1 sized;
    })

pub ready_begun : (h : LentState) (r : Ready h) → Begun r.threads r.cpus r.nodes h
ready_begun h r =
    let ts : List Thread = r.threads in
    let cs : List (List ℕ) = r.cpus in
    let ns : List (List ℕ) = r.nodes in
    let e = is_ready ts cs ns h.state r.answered in
    let same : record {
      threads = (start_def (lent ts cs ns)).memory.threads;
      cpus = (start_def (lent ts cs ns)).memory.cpus;
      nodes = (start_def (lent ts cs ns)).memory.nodes;
      state = initial;
    } ≡ h = λ i. record { threads = sym r.left_threads i; cpus = sym r.left_cpus i; nodes = sym r.left_nodes i; state = sym e.1 i } in
    subst (Begun ts cs ns) same (left ts cs ns e.0 r.typed.records r.typed.cpu_rows r.typed.node_rows)
