-- What every list of calls keeps: the memory stands for the state that the rules reach over the same bytes.
use Rattle.std.specs.Prelude.{ℕ, ◌<◌, ◌≡◌, false, List, [], ◌∷◌, length, Some, None}
use Rattle.std.proofs.Common.{sym, ap, subst, arith, take_all}
use Rattle.std.proofs.lemmas.Option.{none-some, same_Some}
use Rattle.rules.proofs.Laws.Line.{both}
use Rattle.rules.proofs.Laws.Limits.{SameButShortest}
use Rattle.rules.specs.Puts.{PutOrTake}
use Rattle.rules.specs.State as rules
use Rattle.rules.specs.State.{base_limits, start}
use Rattle.rules.specs.Commands.{step, no_log, after_calls, world_of}
use Rattle.thread.specs.declared.Thread.{Thread}
use Rattle.represents.specs.Queue.{QueueReading}
use Rattle.represents.proofs.Laws.Readings.{reading}
use Rattle.represents.proofs.Laws.System.{reads_as}
use Rattle.represents.specs.World.{reading_of}
use Rattle.questions.specs.declared.state.State.{State}
use Rattle.stream.specs.Start.{no_room_def, initial, start_def}
use Rattle.represents.specs.State.{StateRep}
use Rattle.question_laws.proofs.Started.{start_stands}
use Rattle.command_laws.specs.Law.{lent, Reachable, AsRuled}
use Rattle.command_laws.proofs.Law.{reachable_start, reachable_step}
use Rattle.command_laws.proofs.Command.{command_law}
use Rattle.demands.specs.Calls.{LentState, Ready, call, left_by, after, queue_in}

abbrev pub Represents : LentState → rules.State → Type 0
Represents h s = StateRep h.threads h.cpus h.nodes h.state s

-- ---- the start

pub is_ready : (ts : List Thread) (cs ns : List (List ℕ)) (a : State) → (start_def (lent ts cs ns)).answer ≡ Some a → (no_room_def (length ts) (length cs) (length ns) ≡ false) × (a ≡ initial)
unfolding start_def
is_ready ts cs ns a e =
    both (no_room_def (length ts) (length cs) (length ns))
    (λ t. let z : None ≡ Some a = rw t at e in absurd (none-some a z))
    (λ t. let z : Some initial ≡ Some a = rw t at e in (t, sym (same_Some initial a z)))

pub ready_stands : (h : LentState) → Ready h → Represents h (start base_limits)
ready_stands h r =
    let ts : List Thread = r.threads in
    let cs : List (List ℕ) = r.cpus in
    let ns : List (List ℕ) = r.nodes in
    let e = is_ready ts cs ns h.state r.answered in
    rw (r.left_threads, r.left_cpus, r.left_nodes, e.1) (start_stands ts cs ns e.0 r.typed.records r.typed.cpu_rows r.typed.node_rows)

-- ---- one call

pub call_ruled : {H : ℕ → List PutOrTake} {s : rules.State} (h : LentState) (bytes : List ℕ) → Represents h s → Reachable H s → AsRuled (call h bytes) (step s bytes)
call_ruled {s = s} h bytes m r = subst (λ (b : List ℕ). AsRuled (call h bytes) (step s b)) (take_all (length bytes) bytes (omega arith)) (command_law m r bytes (length bytes) 0)

-- ---- lists of calls

pub record RepresentsReached (h : LentState) (s : rules.State) : Type 0 where
  pub puts_and_takes : ℕ → List PutOrTake
  pub stood : Represents h s
  pub reachable : Reachable puts_and_takes s

pub follows_after : (h : LentState) (s : rules.State) (calls : List (List ℕ)) → RepresentsReached h s → RepresentsReached (after h calls) (after_calls s calls)
unfolding after after_calls
follows_after h s [] f = f
follows_after h s (bytes ∷ calls) f =
    follows_after (left_by (call h bytes)) (step s bytes).state calls
    (record { puts_and_takes = _; stood = (call_ruled h bytes f.stood f.reachable).stands; reachable = reachable_step bytes f.reachable })

pub follows_start : (h : LentState) → Ready h → RepresentsReached h (start base_limits)
follows_start h r = record { puts_and_takes = no_log; stood = ready_stands h r; reachable = reachable_start base_limits }

-- ---- the queues read off the memory

pub queue_is : (h : LentState) (s : rules.State) → SameButShortest base_limits s.limits → Represents h s → (c : ℕ) → c < 64 → queue_in h c ≡ (s.cpus c).queue
unfolding reading reading_of world_of base_limits rules.with_shortest
queue_is h s e m c near =
    let threads : s.limits.threads ≡ 1024 = ap (λ (l : rules.Limits). l.threads) e in
    let near_c : c < s.limits.cpus = rw (ap (λ (l : rules.Limits). l.cpus) e) near in
    rw (← threads) (ap (λ (r : QueueReading). r.queue) (reads_as s.limits.threads s.limits.cpus h.threads h.cpus (λ d. reading_of (s.cpus d)) m.shows.queues (rw threads (omega arith)) c near_c))
