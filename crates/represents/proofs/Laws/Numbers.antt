-- WHAT IS READ: each number that the scheduler asks of the words is the rules'.
use Prim.Native.Nat.{ℕ, ◌+◌, ◌*◌, ◌%◌, ◌^◌, ◌≤◌, ◌<◌}
use Rattle.std.specs.Prelude.{◌≡◌, refl, Bool, not, List, [], get_or, eqb, Option, None, Some, is_some}
use Rattle.std.proofs.Common.{sym, ◌∙◌, arith, mul-le-mul, ne_eqb}
use Rattle.std.proofs.Math.Path.{ap}
use Rattle.std.proofs.Math.Bool.{cond}
use Rattle.rules.specs.Questions.{most_shortest}
use Rattle.rules.specs.declared.PriorityClass.{PriorityClass}
use Rattle.rules.proofs.Laws.Line.{distinct_length}
use Rattle.rules.specs.Priority.{from_raw}
use Rattle.rules.specs.Times.{timeslice, deadline_distance, pinned}
use Rattle.rules.specs.Queue.{Queue, order, load, timeshare_load}
use Rattle.rules.specs.State.{Limits, Topology}
use Rattle.rules.specs.Schedule.{World, one_unless_idle, current_load, current_priority, is_empty, movable_on}
use Rattle.thread.specs.declared.Thread.{Thread}
use Rattle.thread.specs.Thread.{NONE}
use Rattle.queue.specs.Num.{sum, sum_exact}
use Rattle.runqueue.specs.RunQueue.{rq_empty}
use Rattle.processor.specs.Words.{word}
use Rattle.processor.specs.Window.{load_at}
use Rattle.processor.specs.Queue.{queue_at, queue_in_def, queue_from, built_of}
use Rattle.processor.specs.Cpu as cpu
use Rattle.processor.specs.Word.{CURRENT_PRIORITY, LOAD, MOVABLE, RUNNING}
use Rattle.represents.proofs.Laws.Linked.{below_has}
use Rattle.represents.specs.Queue.{QueueRep}
use Rattle.represents.proofs.Laws.Operations.{empty_is, movable_same, slice_most, deadline_exact}
use Rattle.represents.specs.QueueRead.{marks}
use Rattle.represents.specs.World.{reading_of, number_or_none, Small, WorldRep, most_tick}
use Rattle.represents.proofs.Laws.PutTake.{fits}

-- ---- words that are read by themselves

pub word_priority : (cs : List (List ℕ)) (c : ℕ) → word cs c CURRENT_PRIORITY ≡ (queue_at cs c).current_priority
unfolding word queue_at queue_in_def queue_from built_of
word_priority cs c = sym (load_at (get_or cs c []) 56 8 8 5 (omega arith) (omega arith))

pub word_load : (cs : List (List ℕ)) (c : ℕ) → word cs c LOAD ≡ (queue_at cs c).load
unfolding word queue_at queue_in_def queue_from built_of
word_load cs c = sym (load_at (get_or cs c []) 56 8 8 6 (omega arith) (omega arith))

pub word_movable : (cs : List (List ℕ)) (c : ℕ) → word cs c MOVABLE ≡ (queue_at cs c).movable
unfolding word queue_at queue_in_def queue_from built_of
word_movable cs c = sym (load_at (get_or cs c []) 64 8 8 0 (omega arith) (omega arith))

-- the word for none
pub none_number : (o : Option ℕ) → ((x : ℕ) → o ≡ Some x → x < NONE) → eqb (number_or_none o) NONE ≡ not (is_some o)
unfolding number_or_none
none_number None h = refl
none_number (Some x) h = let l : x < NONE = h x refl in ne_eqb x NONE (λ e. omega arith)

-- ---- bounds

-- the sum of a tick and a deadline distance does not wrap
distance_most : (shortest : ℕ) (c : PriorityClass) (l n : ℕ) → shortest ≤ 2147483648 → n ≤ 2147483648 → deadline_distance shortest c l n ≤ 4611686018427387904
unfolding deadline_distance
distance_most shortest c l n h k =
    let m : timeslice shortest c l * n ≤ 2147483648 * 2147483648 = mul-le-mul (slice_most 2147483648 shortest c l (omega arith) h) k in omega arith

one_more : (n : ℕ) (o : Option ℕ) → n ≤ 2147483648 → cond (is_some o) ((n + 1) % 2 ^ 64) n ≡ n + one_unless_idle o
unfolding one_unless_idle
one_more n None h = omega arith
one_more n (Some x) h = omega arith

one_most : (o : Option ℕ) → one_unless_idle o ≤ 1
unfolding one_unless_idle
one_most None = omega arith
one_most (Some x) = omega arith

module _ {limits : Limits} {topology : Topology} {known active : ℕ → Bool} {ts : List Thread} {cs : List (List ℕ)} {w : World} (s : WorldRep limits topology known active ts cs w) (small : Small limits) (c : ℕ) (near : c < limits.cpus) where
  well : QueueRep limits.threads (marks ts) (queue_at cs c) (reading_of (w.cpus c))
  well = s.queues.shows.each c near

  -- the run queue
  pub load_shown : (queue_at cs c).load ≡ load (w.cpus c).queue
  unfolding reading_of
  load_shown = well.load_is

  pub timeshare_load_shown : (queue_at cs c).timeshare_load ≡ timeshare_load (w.cpus c).queue
  unfolding reading_of
  timeshare_load_shown = well.timeshare_load_is

  pub advertised_shown : from_raw (queue_at cs c).current_priority ≡ (w.cpus c).advertised
  unfolding reading_of
  advertised_shown = well.advertised_is

  pub empty_shown : rq_empty (queue_at cs c) ≡ is_empty (w.cpus c)
  unfolding reading_of is_empty
  empty_shown = empty_is limits.threads (fits small) (marks ts) (queue_at cs c) (reading_of (w.cpus c)) well

  pub movable_shown : (queue_at cs c).movable ≡ movable_on w c
  unfolding reading_of movable_on marks
  movable_shown =
      well.movable_is
      ∙ movable_same (marks ts).pinned (λ x. pinned (w.threads x)) (order (w.cpus c).queue)
      (λ z h. ap pinned (s.threads z (below_has limits.threads (order (w.cpus c).queue) well.numbered z h)))

  pub load_most : load (w.cpus c).queue ≤ limits.threads
  unfolding reading_of load
  load_most = distinct_length limits.threads (order (w.cpus c).queue) well.once well.numbered

  -- `current_load`
  pub current_load_shown : cpu.current_load cs c ≡ current_load (w.cpus c)
  unfolding cpu.current_load current_load
  current_load_shown =
      ap (λ (b : Bool). cond b ((word cs c LOAD + 1) % 2 ^ 64) (word cs c LOAD)) (s.words c near).is_idle
      ∙ ap (λ n. cond (is_some (w.cpus c).running) ((n + 1) % 2 ^ 64) n) (word_load cs c ∙ load_shown)
      ∙ one_more (load (w.cpus c).queue) (w.cpus c).running (omega (arith, load_most, small.threads))

  pub current_load_most : current_load (w.cpus c) ≤ 2147483649
  unfolding current_load
  current_load_most = omega (arith, load_most, small.threads, one_most (w.cpus c).running)

  -- the priority that a choice compares
  pub priority_shown : cpu.current_priority cs c ≡ current_priority (w.cpus c)
  unfolding cpu.current_priority current_priority
  priority_shown = rw (word_priority cs c, advertised_shown, (s.words c near).own_priority)

  -- deadlines
  pub deadline_shown : (tick : ℕ) (k : PriorityClass) → tick ≤ most_tick
      → sum tick (deadline_distance limits.shortest k (queue_at cs c).timeshare_load (queue_at cs c).load % 2 ^ 64)
      ≡ tick + deadline_distance limits.shortest k (timeshare_load (w.cpus c).queue) (load (w.cpus c).queue)
  unfolding reading_of most_shortest
  deadline_shown tick k h =
      let Q : Queue = (w.cpus c).queue in
      let d : ℕ = deadline_distance limits.shortest k (timeshare_load Q) (load Q) in
      let short : limits.shortest ≤ 32 = small.shortest in
      let m : d ≤ 4611686018427387904 = distance_most limits.shortest k (timeshare_load Q) (load Q) (omega arith) (omega (arith, load_most, small.threads)) in
      ap (sum tick) (deadline_exact limits.threads (fits small) (marks ts) (queue_at cs c) (reading_of (w.cpus c)) well limits.shortest k (omega arith) (omega (arith, small.threads)))
      ∙ sum_exact tick d (omega arith)

  -- what it runs
  pub running_shown : word cs c RUNNING ≡ number_or_none (w.cpus c).running
  running_shown = (s.words c near).running
