-- No line is longer than 48 bytes, the least buffer that is written to: neither the line of any command nor the end line.
use Rattle.std.specs.Prelude.{ℕ, suc, ◌≤◌, ◌<◌, ◌≡◌, refl, List, [], ◌∷◌, ◌++◌, Option, None, Some}
use Rattle.std.proofs.Common.{ap, length-append, arith}
use Rattle.std.proofs.Math.ListN.{length}
use Rattle.rules.proofs.Laws.Limits.{SameButShortest}
use Rattle.rules.proofs.Laws.Line.{distinct_length}
use Rattle.rules.specs.Puts.{PutOrTake}
use Rattle.rules.specs.Queue.{order, load}
use Rattle.rules.specs.State.{Limits, base_limits, with_shortest, State}
use Rattle.rules.specs.Schedule.{World}
use Rattle.rules.specs.Requests.{Request, declare_cpu, add_node, place_cpu, seal, set_shortest, declare_thread, set_tick, schedule_thread, schedule, hardtick, stattick, resched, maybe_preempt, donate, remove_donation, set_critical, read, Reading}
use Rattle.rules.specs.Questions.{concerning, first_no, room, refusal}
use Rattle.rules.specs.declared.Running.TheVariants as running
use Rattle.rules.specs.Commands.{Answer, Step, nothing_shown, running_of, shown, refuses, changed, world_of, ran, ran_on, scheduled_on, schedules, obeys, step, answered}
use Rattle.rules.specs.Waits.{Under}
use Rattle.rules.proofs.Laws.Steps.{select_cpu_selected}
use Rattle.rules.proofs.Laws.Answered.{by_answer}
use Rattle.rules.proofs.Laws.Reached.{Reached, reached_step, runs_below}
use Rattle.rules.specs.Lines.{space, line_feed, header, end_word, line, end_line}
use Rattle.lines.specs.declared.Refusal.{Refusal}
use Rattle.lines.specs.declared.Refusal.TheVariants as refusal
use Rattle.lines.specs.Lines.{question_number, refusal_number}
use Rattle.lines.proofs.Digits.{decimal_most, decimal_length}
use Rattle.lines.proofs.Laws.{RunsBelow, number_length, running_length}
use Rattle.stream_laws.proofs.Laws.Wakeups.{wakeups_two}

-- ---- what a command shows is within the limits

record ShownWithin (l : Limits) (a : Answer) : Type 0 where
  cpu : Under l.cpus a.cpu
  running : RunsBelow l.threads a.running
  load : Under (suc l.threads) a.load

within_nothing : (l : Limits) (n : ℕ) → ShownWithin l (nothing_shown n)
unfolding nothing_shown Under RunsBelow
within_nothing l n = record { cpu = tt; running = tt; load = tt }

running_within : (limit : ℕ) (o : Option ℕ) → ((x : ℕ) → o ≡ Some x → x < limit) → RunsBelow limit (Some (running_of o))
unfolding running_of RunsBelow
running_within limit None h = tt
running_within limit (Some x) h = h x refl

module _ {H : ℕ → List PutOrTake} (s : State) where
  ran_within : (w : World) (c : ℕ) → Reached H (ran s w (shown w c)).state → c < s.limits.cpus → ShownWithin s.limits (ran s w (shown w c)).answer
  unfolding ran shown Under load world_of
  ran_within w c r h = record {
    cpu = h;
    running = running_within s.limits.threads (w.cpus c).running (λ x e. r.numbered x (r.sound.runs c x e).1);
    load =
        let f = (r.sound.kept c).fits in
        let m : length (order (w.cpus c).queue) ≤ s.limits.threads = distinct_length s.limits.threads (order (w.cpus c).queue) f.once f.below in
        omega arith;
  }

  scheduled_within : (us x : ℕ) (w : World) (o : Option ℕ) → us < s.limits.cpus → Under s.limits.cpus o → Reached H (scheduled_on s us x w o).state
      → ShownWithin s.limits (scheduled_on s us x w o).answer
  unfolding scheduled_on Under
  scheduled_within us x w None h u r = ran_within w us r h
  scheduled_within us x w (Some c) h u r = ran_within _ c r u

  obeyed_within : {G : ℕ → List PutOrTake} (q : Request) → Reached G s → first_no (concerning s q ++ (room s ∷ [])) ≡ 0 → Reached H (obeys s q).state
      → ShownWithin s.limits (obeys s q).answer
  unfolding obeys changed concerning ran_on schedules
  obeyed_within (declare_cpu c) g e r = within_nothing s.limits 0
  obeyed_within (add_node p k) g e r = within_nothing s.limits 0
  obeyed_within (place_cpu n c) g e r = within_nothing s.limits 0
  obeyed_within seal g e r = within_nothing s.limits 0
  obeyed_within (set_shortest n) g e r = within_nothing s.limits 0
  obeyed_within (declare_thread x k v p) g e r = within_nothing s.limits 0
  obeyed_within (set_tick t) g e r = within_nothing s.limits 0
  obeyed_within {G} (schedule_thread c x) g e r =
      let a = runs_below s c _ e in
      let d = select_cpu_selected s.limits s.topology s.tick c s.known g.numbered G a.0 (world_of s) x None (g.sound.mild x) in
      scheduled_within c x _ _ a.0 d.under r
  obeyed_within (schedule c f) g e r = ran_within _ c r (runs_below s c _ e).0
  obeyed_within (hardtick c) g e r = ran_within _ c r (runs_below s c _ e).0
  obeyed_within (stattick c n) g e r = ran_within _ c r (runs_below s c _ e).0
  obeyed_within (resched c) g e r = ran_within _ c r (runs_below s c _ e).0
  obeyed_within (maybe_preempt c) g e r = ran_within _ c r (runs_below s c _ e).0
  obeyed_within (donate c x k v) g e r = ran_within _ c r (runs_below s c _ e).0
  obeyed_within (remove_donation x) g e r = within_nothing s.limits 0
  obeyed_within (set_critical x m) g e r = within_nothing s.limits 0

  answered_within : {G : ℕ → List PutOrTake} (q : Reading) → Reached G s → Reached H (answered s q).state → ShownWithin s.limits (answered s q).answer
  unfolding refuses
  answered_within q g r =
      by_answer (λ (a : Step). Reached H a.state → ShownWithin s.limits a.answer) s q (λ n h. within_nothing s.limits n) (λ p e h. obeyed_within p g e h) r

step_within : {H : ℕ → List PutOrTake} (s : State) (bytes : List ℕ) → Reached H s → ShownWithin s.limits (step s bytes).answer
unfolding step
step_within s bytes r = answered_within s (read s.limits bytes) r (reached_step bytes r)

-- ---- how many bytes

question_most : (r : Refusal) → question_number r ≤ 12
unfolding question_number
question_most refusal.UnknownCommand = omega arith
question_most refusal.CutShort = omega arith
question_most refusal.WrongSideOfSeal = omega arith
question_most refusal.Cpu = omega arith
question_most refusal.Thread = omega arith
question_most refusal.OutOfRange = omega arith
question_most refusal.NotBlocked = omega arith
question_most refusal.Tick = omega arith
question_most refusal.NotPlaced = omega arith
question_most refusal.TooMany = omega arith
question_most refusal.SmallBuffer = omega arith
question_most refusal.ShortBuffer = omega arith

refusal_most : (r : Option Refusal) → refusal_number r ≤ 12
unfolding refusal_number
refusal_most None = omega arith
refusal_most (Some r) = question_most r

line_most : (l : Limits) (number : ℕ) (a : Answer) → l.cpus ≤ 100 → l.threads < 10000 → a.refused ≤ 12 → ShownWithin l a → Under 3 a.wakeups
    → length (line number a) ≤ 48
unfolding line space line_feed
line_most l number a cpus threads r w few =
    simp length-append
    (omega (
      arith,
      decimal_most number,
      decimal_length 1 a.refused (omega arith),
      number_length 1 l.cpus a.cpu (omega arith) w.cpu,
      running_length l.threads a.running (omega arith) w.running,
      number_length 3 (suc l.threads) a.load (omega arith) w.load,
      number_length 0 3 a.wakeups (omega arith) few,
    ))

-- the line of a command, under the base's limits and any shortest timeslice, with any number
pub line_fits : {H : ℕ → List PutOrTake} (s : State) (bytes : List ℕ) (number : ℕ) (r : Option Refusal) → Reached H s → SameButShortest base_limits s.limits
    → (step s bytes).answer.refused ≡ refusal_number r → length (line number (step s bytes).answer) ≤ 48
unfolding base_limits with_shortest
line_fits s bytes number r d e f =
    line_most s.limits number (step s bytes).answer (rw (ap (λ (l : Limits). l.cpus) e) (omega arith)) (rw (ap (λ (l : Limits). l.threads) e) (omega arith))
    (rw f (refusal_most r)) (step_within s bytes d) (wakeups_two s bytes)

pub end_fits : (number refused : ℕ) → length (end_line number refused) ≤ 48
unfolding end_line end_word space line_feed
end_fits number refused = simp length-append (omega (arith, decimal_most number, decimal_most refused))

pub header_length : length header ≡ 8
unfolding header
header_length = refl
