-- What a command asks, the thread that it names, and the state that it leaves.
use Rattle.std.specs.Prelude.{◌≡◌, ℕ, ◌+◌, ◌/◌, ◌%◌, ◌^◌, Bool, true, cond, List, take, drop, ◌==◌, refl, get_or, Option, None, Some, Result, Ok, Err}
use Rattle.std.specs.Result.{result_err}
use Rattle.std.proofs.Common.{sym}
use Rattle.rules.specs.declared.Priority.{Priority}
use Rattle.rules.specs.Priority.{priority, class_at}
use Rattle.rules.specs.Requests as rules
use Rattle.thread.specs.declared.Thread.{Thread}
use Rattle.thread.specs.Thread.{blank}
use Rattle.request.specs.declared.Request.{Request}
use Rattle.request.specs.declared.Request.TheVariants as req
use Rattle.request.specs.declared.Asked.{Asked}
use Rattle.request.specs.declared.Unread.{Unread}
use Rattle.request.specs.declared.Unread.TheVariants as unread
use Rattle.request.specs.Request.{limits_of, request_of, reading_of}
use Rattle.lines.specs.declared.Refusal.{Refusal}
use Rattle.lines.specs.declared.Refusal.TheVariants as refusal
use Rattle.lines.specs.Lines.{question_number, refusal_number}
use Rattle.topology.specs.CpuSet.{max_cpu_id}
use Rattle.topology.specs.Node.{lesser}
use Rattle.questions.specs.declared.state.State.{State}
use Rattle.questions.specs.Questions.{answer_number}
use Rattle.sched_words.specs.declared.context.Context.{Context}
use Rattle.sched_words.specs.declared.context.SchedFlags.{SchedFlags}

-- ---- the declared case of what the rules read, and of a refusal's number

unfoldable pub request_back : rules.Request → Request
request_back (rules.declare_cpu c) = req.DeclareCpu c
request_back (rules.add_node p k) = req.AddNode p k
request_back (rules.place_cpu n c) = req.PlaceCpu n c
request_back rules.seal = req.Seal
request_back (rules.set_shortest n) = req.SetShortest n
request_back (rules.declare_thread x k v p) = req.DeclareThread x k v p
request_back (rules.set_tick t) = req.SetTick t
request_back (rules.schedule_thread c x) = req.ScheduleThread c x
request_back (rules.schedule c f) = req.Schedule c f
request_back (rules.hardtick c) = req.Hardtick c
request_back (rules.stattick c n) = req.Stattick c n
request_back (rules.resched c) = req.Resched c
request_back (rules.maybe_preempt c) = req.MaybePreempt c
request_back (rules.donate c x k v) = req.Donate c x k v
request_back (rules.remove_donation x) = req.RemoveDonation x
request_back (rules.set_critical x m) = req.SetCritical x m

unfoldable pub reading_back : rules.Reading → Result Asked Unread
reading_back rules.unknown = Err unread.Unknown
reading_back rules.cut_short = Err unread.CutShort
reading_back (rules.asks r used) = Ok (record { request = request_back r; used = used })

-- any number past 10 but 12 is that of a small buffer
unfoldable pub refusal_back : ℕ → Option Refusal
refusal_back n =
    cond (n == 0) None
    (cond (n == 1) (Some refusal.UnknownCommand)
    (cond (n == 2) (Some refusal.CutShort)
    (cond (n == 3) (Some refusal.WrongSideOfSeal)
    (cond (n == 4) (Some refusal.Cpu)
    (cond (n == 5) (Some refusal.Thread)
    (cond (n == 6) (Some refusal.OutOfRange)
    (cond (n == 7) (Some refusal.NotBlocked)
    (cond (n == 8) (Some refusal.Tick)
    (cond (n == 9) (Some refusal.NotPlaced)
    (cond (n == 10) (Some refusal.TooMany)
    (cond (n == 12) (Some refusal.ShortBuffer) (Some refusal.SmallBuffer))))))))))))

-- what the bytes from `at` to below n ask
abbrev pub asked_def : List ℕ → ℕ → ℕ → Bool → Result Asked Unread
asked_def bytes n at wide = reading_back (rules.read (limits_of wide) (drop at (take n bytes)))

-- ---- of a command's operands

-- the thread that a request names
unfoldable pub thread_named : rules.Request → Option ℕ
thread_named (rules.declare_cpu c) = None
thread_named (rules.add_node p k) = None
thread_named (rules.place_cpu n c) = None
thread_named rules.seal = None
thread_named (rules.set_shortest n) = None
thread_named (rules.declare_thread x k v pin) = Some x
thread_named (rules.set_tick n) = None
thread_named (rules.schedule_thread c x) = Some x
thread_named (rules.schedule c flags) = None
thread_named (rules.hardtick c) = None
thread_named (rules.stattick c n) = None
thread_named (rules.resched c) = None
thread_named (rules.maybe_preempt c) = None
thread_named (rules.donate c x k v) = Some x
thread_named (rules.remove_donation x) = Some x
thread_named (rules.set_critical x m) = Some x

unfoldable pub thread_in : rules.Reading → Option ℕ
thread_in rules.unknown = None
thread_in rules.cut_short = None
thread_in (rules.asks r used) = thread_named r

-- its record, blank where none is named
unfoldable pub named_record : List Thread → Option ℕ → Thread
named_record ts None = blank
named_record ts (Some x) = get_or ts x blank

unfoldable pub priority_in : ℕ → ℕ → Priority
priority_in class value = priority (class_at class) value

-- the limit of CPU numbers is that of the state, cut to what a set of CPUs can hold
unfoldable pub context_of : State → ℕ → Context
context_of s c = record { us = c; tick = s.tick; shortest = s.shortest; limit = lesser s.cpus max_cpu_id }

-- "flags 1 (yield 1, preempt 2, reinsert 4)"
unfoldable pub flags_in : ℕ → SchedFlags
flags_in n = record { yields = (n % 2 == 1); preempt = (n / 2 % 2 == 1); reinsert = (n / 4 % 2 == 1) }

-- ---- the states that a command leaves, before it is counted

unfoldable pub ticked : State → ℕ → State
ticked s tick = record {
  cpus = s.cpus;
  nodes = s.nodes;
  shortest = s.shortest;
  wide = s.wide;
  tick = tick;
  sealed = s.sealed;
  accepted = s.accepted;
  node_count = s.node_count;
}

unfoldable pub sealed_now : State → State
sealed_now s = record {
  cpus = s.cpus;
  nodes = s.nodes;
  shortest = s.shortest;
  wide = s.wide;
  tick = s.tick;
  sealed = true;
  accepted = s.accepted;
  node_count = s.node_count;
}

unfoldable pub with_shortest : State → ℕ → State
with_shortest s ticks = record {
  cpus = s.cpus;
  nodes = s.nodes;
  shortest = ticks;
  wide = s.wide;
  tick = s.tick;
  sealed = s.sealed;
  accepted = s.accepted;
  node_count = s.node_count;
}

unfoldable pub one_node_more : State → State
one_node_more s = record {
  cpus = s.cpus;
  nodes = s.nodes;
  shortest = s.shortest;
  wide = s.wide;
  tick = s.tick;
  sealed = s.sealed;
  accepted = s.accepted;
  node_count = (s.node_count + 1) % 2 ^ 64;
}

-- ---- for proofs: there and back

pub request_again : (r : Request) → request_back (request_of r) ≡ r
unfolding request_back request_of
request_again (req.DeclareCpu c) = refl
request_again (req.AddNode p k) = refl
request_again (req.PlaceCpu n c) = refl
request_again req.Seal = refl
request_again (req.SetShortest n) = refl
request_again (req.DeclareThread x k v p) = refl
request_again (req.SetTick t) = refl
request_again (req.ScheduleThread c x) = refl
request_again (req.Schedule c f) = refl
request_again (req.Hardtick c) = refl
request_again (req.Stattick c n) = refl
request_again (req.Resched c) = refl
request_again (req.MaybePreempt c) = refl
request_again (req.Donate c x k v) = refl
request_again (req.RemoveDonation x) = refl
request_again (req.SetCritical x m) = refl

pub reading_again : (r : Result Asked Unread) → reading_back (reading_of r) ≡ r
unfolding reading_back reading_of
reading_again (Err unread.Unknown) = refl
reading_again (Err unread.CutShort) = refl
reading_again (Ok a) = rw request_again

pub refusal_again : (r : Option Refusal) → refusal_back (refusal_number r) ≡ r
unfolding refusal_back refusal_number question_number
refusal_again None = refl
refusal_again (Some refusal.UnknownCommand) = refl
refusal_again (Some refusal.CutShort) = refl
refusal_again (Some refusal.WrongSideOfSeal) = refl
refusal_again (Some refusal.Cpu) = refl
refusal_again (Some refusal.Thread) = refl
refusal_again (Some refusal.OutOfRange) = refl
refusal_again (Some refusal.NotBlocked) = refl
refusal_again (Some refusal.Tick) = refl
refusal_again (Some refusal.NotPlaced) = refl
refusal_again (Some refusal.TooMany) = refl
refusal_again (Some refusal.SmallBuffer) = refl
refusal_again (Some refusal.ShortBuffer) = refl

pub judged_again : {A : Type 0} → (r : Result A Refusal) → result_err r ≡ refusal_back (answer_number r)
unfolding answer_number refusal_back question_number refusal_number
judged_again (Ok a) = refl
judged_again (Err r) = sym (refusal_again (Some r))
