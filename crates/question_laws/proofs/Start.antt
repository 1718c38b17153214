-- THE LIBRARY'S START: cleared records, new CPUs and the root alone stand for the rules' start. Any limits.
use Prim.Native.Nat.{ℕ, zero, suc, ◌≤◌, ◌<◌}
use Rattle.std.specs.Prelude.{◌≡◌, refl, ◌≢◌, false, get_or, replicate, eqb}
use Rattle.std.proofs.Common.{sym, ◌∙◌, arith, length-set}
use Rattle.std.proofs.lemmas.Bool.{false≢true}
use mathlib.Core.List.{List, []}
use Rattle.std.proofs.Math.ListN.{length}
use Rattle.std.proofs.lemmas.List.{length-replicate}
use borrow.Author.Tests.{eqb-true, eqb-false}
use Rattle.rules.specs.Line.{has}
use Rattle.rules.proofs.Laws.Line.{both}
use Rattle.rules.specs.Priority.{from_raw, class_at, cut, nr_values}
use Rattle.rules.specs.Queue.{nr_buckets}
use Rattle.rules.specs.State.{Limits, is_number, runs_on, start, new_cpu, new_thread, idle_priority}
use Rattle.rules.specs.Commands.{world_of}
use Rattle.rules.proofs.Laws.Effect.{start_order}
use Rattle.rules.specs.Waits.{Under, waits}
use Rattle.thread.specs.Thread.{NONE, blank}
use Rattle.thread.specs.Place.{place_in, reads_blank}
use Rattle.queue.specs.Lists.{no_lists_def}
use Rattle.queue.specs.PriorityQueue.{no_priority}
use Rattle.queue.specs.Timeshare.{no_timeshare}
use Rattle.runqueue.specs.RunQueue.{no_run_queue}
use Rattle.processor.specs.Words.{width, word}
use Rattle.processor.specs.Queue.{queue_at}
use Rattle.processor.proofs.Laws.Queue.{Eights, queue_after_store, queue_elsewhere, row_length_store, length_store}
use Rattle.topology.specs.CpuSet.{max_cpu_id}
use Rattle.topology.specs.Node.{new_root, put_node}
use Rattle.represents.proofs.Laws.Readings.{new_reading}
use Rattle.represents.proofs.Laws.System.{new_law}
use Rattle.represents.specs.World.{reading_of, number_or_none, mark_in, Small, WorldRep}
use Rattle.represents.proofs.Laws.Frames.{words_same}
use Rattle.represents.proofs.Laws.NumberLists.{any_none}
use Rattle.represents.specs.Topology.{Sized}
use Rattle.represents.proofs.Laws.Grown.{tree_start}
use Rattle.questions.specs.declared.state.State.{State}
use Rattle.represents.specs.State.{limits_in, runs, StateRep}
use Rattle.stream.specs.Start.{new_cpu_def, new_cpus}
use Rattle.question_laws.specs.Start.{New}
use Rattle.question_laws.proofs.Blank.{blank_at}
use Rattle.question_laws.proofs.Written.{long_stored, all_written}

-- ---- a CPU made new

no_eights : Eights no_run_queue
unfolding no_run_queue no_timeshare no_priority no_lists_def nr_buckets
no_eights = record {
  realtime_8 = record { heads_8 = refl; tails_8 = refl };
  priorities_8 = refl;
  timeshare_8 = record { heads_8 = refl; tails_8 = refl };
  idle_8 = record { heads_8 = refl; tails_8 = refl };
}

module _ (cs : List (List ℕ)) (c : ℕ) (h : c < length cs) (l : length (get_or cs c []) ≡ width) where
  pub new_here : (limits : Limits) → New limits (new_cpu_def cs c) c
  unfolding start new_cpu number_or_none mark_in idle_priority from_raw class_at cut nr_values
  new_here limits = record {
    row = (all_written cs c h l).beside.as_long c ∙ long_stored cs c h l;
    queue = (all_written cs c h l).beside.queue c ∙ queue_after_store cs c no_run_queue h (omega (arith, l)) no_eights;
    words = words_same (λ u m k. (all_written cs c h l).words u k) (record {
      declared = refl;
      placed = refl;
      running = refl;
      own_priority = refl;
      is_idle = refl;
      must_rebalance = refl;
      preempt = refl;
      draw_state = refl;
      rebalance_time = refl;
      idle_timeslice = refl;
    });
  }

  as_many : length (new_cpu_def cs c) ≡ length cs
  as_many = (all_written cs c h l).beside.as_many ∙ length_store cs c no_run_queue

  as_long : (d : ℕ) → length (get_or (new_cpu_def cs c) d []) ≡ length (get_or cs d [])
  as_long d = (all_written cs c h l).beside.as_long d ∙ row_length_store cs c d no_run_queue

  other_word : (d u : ℕ) → d ≢ c → word (new_cpu_def cs c) d u ≡ word cs d u
  other_word d u n = (all_written cs c h l).beside.others d u n ∙ (unfold word in rw (queue_elsewhere cs c d no_run_queue n))

  other_queue : (d : ℕ) → d ≢ c → queue_at (new_cpu_def cs c) d ≡ queue_at cs d
  other_queue d n = (all_written cs c h l).beside.queue d ∙ (unfold queue_at in rw (queue_elsewhere cs c d no_run_queue n))

  pub new_there : (limits : Limits) (d : ℕ) → d ≢ c → New limits cs d → New limits (new_cpu_def cs c) d
  new_there limits d n w = record { row = as_long d ∙ w.row; queue = other_queue d n ∙ w.queue; words = words_same (λ u m k. other_word d u n) w.words }

-- the first n CPUs are made new, one after the other
module _ (limits : Limits) (cs : List (List ℕ)) (n : ℕ) (m : n ≤ length cs) (l : (c : ℕ) → c < n → length (get_or cs c []) ≡ width) where
  record SoFar (k : ℕ) : Type 0 where
    many : n ≤ length (new_cpus k cs)
    long : (c : ℕ) → c < n → length (get_or (new_cpus k cs) c []) ≡ width
    news : (c : ℕ) → c < k → New limits (new_cpus k cs) c

  so_far : (k : ℕ) → k ≤ n → SoFar k
  unfolding new_cpus
  so_far zero h = record { many = m; long = l; news = λ c i. absurd (omega arith) }
  so_far (suc k) h =
      let g : List (List ℕ) = new_cpus k cs in
      let p : SoFar k = so_far k (omega arith) in
      let there : k < length g = omega (arith, p.many) in
      let row : length (get_or g k []) ≡ width = p.long k (omega arith) in
      record {
        many = rw (as_many g k there row) p.many;
        long = λ c i. as_long g k there row c ∙ p.long c i;
        news = λ c i. both (eqb c k)
            (λ e. rw (eqb-true c k e) (new_here g k there row limits))
            (λ e. new_there g k there row limits c (eqb-false c k e) (p.news c (let q : c ≡ k → ⊥ = eqb-false c k e in omega arith)));
      }

  -- ALL CPUS ARE NEW
  pub new_all : (c : ℕ) → c < n → New limits (new_cpus n cs) c
  new_all c h = (so_far n (omega arith)).news c h

  pub as_many_cpus : n ≤ length (new_cpus n cs)
  as_many_cpus = (so_far n (omega arith)).many

-- ---- the start stands

root_rows : (ns : List (List ℕ)) → length (new_root ns) ≡ length ns
unfolding new_root put_node
root_rows ns = length-set ns 0 _

nobody_runs : (limits : Limits) (x : ℕ) → runs (start limits) x ≡ false
unfolding runs runs_on start new_cpu is_number
nobody_runs limits x = any_none limits.cpus _ (λ c h. refl)

nobody_waits : (limits : Limits) (c x : ℕ) → waits (world_of (start limits)) c x ≡ false
unfolding world_of start new_cpu has
nobody_waits limits c x = rw start_order

shows_start : (n : ℕ) (cs : List (List ℕ)) (limits : Limits) → limits.threads ≤ n → n ≤ NONE → limits.cpus ≤ length cs → ((c : ℕ) → c < limits.cpus → New limits cs c)
    → WorldRep limits (start limits).topology (start limits).known (runs (start limits)) (replicate n blank) cs (world_of (start limits))
unfolding start world_of new_cpu reading_of new_reading new_thread Under
shows_start n cs limits t p m w = record {
  queues = new_law limits.threads limits.cpus (replicate n blank) cs (rw (length-replicate n blank) t) m (λ c h. omega (arith, (w c h).row)) (λ c h. (w c h).queue);
  none_past = rw (length-replicate n blank) p;
  rows = λ c h. (w c h).row;
  threads = λ x h. rw (blank_at n x) reads_blank;
  queue_cpus = λ x h. tt;
  words = λ c h. (w c h).words;
  places = record {
    waiting = λ c x e. absurd (false≢true (sym (nobody_waits limits c x) ∙ e));
    running = λ x e. absurd (false≢true (sym (nobody_runs limits x) ∙ e));
    blocked = λ x l k. absurd (false≢true k);
    undeclared = λ x k. rw (blank_at n x) (unfold place_in in refl);
  };
}

-- THE START: n cleared records, new CPUs, the root alone, and a state that says the limits
pub stands_start : (n : ℕ) (cs ns : List (List ℕ)) (a : State) (limits : Limits) → limits ≡ limits_in a → a.sealed ≡ false → a.tick ≡ 0 → a.accepted ≡ 0 → a.node_count ≡ 1
    → Small limits → limits.cpus ≤ max_cpu_id → limits.nodes ≤ 2147483648 → 0 < limits.nodes
    → limits.threads ≤ n → n ≤ NONE → limits.cpus ≤ length cs → ((c : ℕ) → c < limits.cpus → New limits cs c) → limits.nodes ≤ length ns → Sized ns
    → StateRep (replicate n blank) cs (new_root ns) a (start limits)
unfolding start
stands_start n cs ns a limits e sealed tick accepted count small fit few one t p m w r sized = record {
  limits = e;
  sealed = sealed;
  tick = tick;
  accepted = accepted;
  node_count = count;
  tree = tree_start limits ns sized (omega arith) fit;
  rows = rw (root_rows ns) r;
  shows = shows_start n cs limits t p m w;
  small = small;
  few_nodes = few;
  nodes_fit = omega arith;
  tick_fits = omega arith;
}
