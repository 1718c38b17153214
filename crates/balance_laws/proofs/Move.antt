-- ONE CHOICE OF `balance`, and the move that it comes to: memory that meets the rules' balancing meets it again after the rules' step.
use Prim.Native.Nat.{ℕ, ◌+◌, ◌≤◌, ◌<◌}
use Rattle.std.specs.Prelude.{◌≡◌, Bool, false, eqb, ltb, Option, None, Some, is_none, unwrap_or, is_some}
use Rattle.std.proofs.Math.Path.{refl, sym, ap, subst}
use Rattle.std.proofs.Common.{◌∙◌, true≢false, eqb-true, arith}
use Rattle.std.proofs.Math.Bool.{true, cond, not}
use mathlib.Core.List.{List, ◌∷◌}
use Rattle.std.proofs.lemmas.Bool.{eqb-false}
use Rattle.rules.specs.declared.choice.Pair.{Pair}
use Rattle.rules.specs.declared.choice.Chosen.{Chosen}
use Rattle.rules.specs.Line.{has}
use Rattle.rules.proofs.Laws.Line.{both}
use Rattle.rules.specs.Queue.{order, load, Next, nobody, next_in, asked, leave}
use Rattle.rules.specs.Puts.{PutOrTake}
use Rattle.rules.proofs.Laws.Kept.{asked_head}
use Rattle.rules.specs.State.{at, Limits, Topology}
use Rattle.rules.specs.Topology.{cpus_of}
use Rattle.rules.specs.Choice.{pair_at, choose_cpu_balance}
use Rattle.rules.specs.Schedule as sched
use Rattle.rules.specs.Schedule.{World, Got, Balancing, with_cpu, with_draws, set_rebalance, pinned_in}
use Rattle.rules.proofs.Laws.Sound.{at_here, at_there, Sound, New, Taken, not_true_is, same_cpu_changed, sound_same, at_keeps}
use Rattle.rules.specs.Waits.{waits}
use Rattle.rules.proofs.Laws.Steps.{nobody_but, ok_put, PairUnder, choose_in, cpus_in}
use Rattle.rules.proofs.Laws.Held.{has_head}
use Rattle.thread.specs.declared.Thread.{Thread}
use Rattle.thread.specs.Thread.{NONE}
use Rattle.queue.specs.Num.{sum, sum_exact}
use Rattle.runqueue.specs.declared.rq.RunQueue.{RunQueue}
use Rattle.runqueue.specs.declared.rq.Front.{Front}
use Rattle.runqueue.specs.RunQueue.{rq_front}
use Rattle.processor.specs.Words.{word, put_word}
use Rattle.processor.specs.Queue.{queue_at}
use Rattle.processor.specs.Cpu as cpu
use Rattle.processor.specs.Word.{LOAD, MUST_REBALANCE, RAND_STATE}
use Rattle.records.specs.Rq.{took_from_def, take_def}
use Rattle.represents.specs.World.{Small, WorldRep, most_tick}
use Rattle.represents.proofs.Laws.Frames.{beside_put, in_rows, shows_must_rebalance, shows_draws, at_again}
use Rattle.represents.proofs.Laws.PutTake.{active_with, TakeShows}
use Rattle.represents.proofs.Laws.Numbers.{word_load, load_shown, current_load_shown}
use Rattle.topology.specs.CpuSet as cpus
use Rattle.topology.specs.CpuSet.{Sixteen, sixteen_remove, remove_same, remove_other}
use Rattle.represents.specs.Topology.{TopologyRep}
use Rattle.choice_laws.proofs.Memory.{balance_memory}
use Rattle.sched_words.specs.declared.balance.Balancing as step
use Rattle.sched_words.specs.Balance.{passed, stopped, without, moving, hands_out, outcome, pair_step, pair_of_def, chosen_at, balance_step_def}
use Rattle.processor.specs.Left.{Words, Left}
use Rattle.records.specs.Left.{Memory, mem}
use Rattle.sched_words.specs.declared.context.Context.{Context}
use Rattle.sched_queues.specs.Queues.{schedule_thread_on_cpu_def, moved_for_def, take_from}
use Rattle.sched_ticks.specs.Balance.{received, move_made, move_one_def}
use Rattle.sched_laws.proofs.Frames.{from_wakeups, put_one}
use Rattle.sched_laws.specs.Hardtick.{context}
use Rattle.sched_laws.proofs.Queues.{nobody_moved, shows_scheduled, counts_scheduled, from_handed, shows_taken_from}
use Rattle.balance_laws.specs.Move.{Meets as MeetsAt, Stepped as SteppedAt}

-- ---- what a take answers

somebody_answers : (ts : List Thread) (cs : List (List ℕ)) (c : ℕ) (f : Option Front) → is_some f ≡ is_some (took_from_def c f (mem ts cs)).answer
unfolding took_from_def
somebody_answers ts cs c None = refl
somebody_answers ts cs c (Some f) = refl

nobody_left : (ts : List Thread) (cs : List (List ℕ)) (c : ℕ) (f : Option Front) → (took_from_def c f (mem ts cs)).answer ≡ None → ((took_from_def c f (mem ts cs)).memory.threads ≡ ts) × ((took_from_def c f (mem ts cs)).memory.cpus ≡ cs)
unfolding took_from_def
nobody_left ts cs c None e = (refl, refl)
nobody_left ts cs c (Some f) e = let z : ◌≡◌ {A = ℕ} 0 1 = cc in absurd (omega arith)

somebody_is : (o : Option ℕ) → not (is_none o) ≡ is_some o
somebody_is None = refl
somebody_is (Some x) = refl

moved_answer : (r : ℕ) (g : Left (Option ℕ) Memory) → (moved_for_def r g).answer ≡ g.answer
unfolding moved_for_def
moved_answer r g = both (is_none g.answer) (λ e. rw e) (λ e. rw e)

-- ---- a move

move_made_none : (k : Context) (o : Option Pair) (n : ℕ) (m : Memory) → is_some o ≡ false → move_made k o n m ≡ record { answer = n; memory = m }
unfolding move_made
move_made_none k None n m e = refl
move_made_none k (Some p) n m e = absurd (true≢false e)

pub move_none : (ts : List Thread) (cs : List (List ℕ)) (k : Context) (b : step.Balancing) (n : ℕ) → is_some b.moves ≡ false → move_one_def k b n (mem ts cs) ≡ record { answer = n; memory = mem ts cs }
move_none ts cs k b n e = move_made_none k b.moves n (mem ts cs) e

move_made_some : (k : Context) (o : Option Pair) (p : Pair) (n : ℕ) (m : Memory) → o ≡ Some p → move_made k o n m ≡ received k p.recipient n (take_from p.donor p.recipient m)
unfolding move_made
move_made_some k o p n m e = rw e refl

pub move_some : (ts : List Thread) (cs : List (List ℕ)) (k : Context) (b : step.Balancing) (p : Pair) (n : ℕ) → b.moves ≡ Some p
    → move_one_def k b n (mem ts cs) ≡ received k p.recipient n (take_from p.donor p.recipient (mem ts cs))
move_some ts cs k b p n e = move_made_some k b.moves p n (mem ts cs) e

received_some : (k : Context) (r n : ℕ) (g : Left (Option ℕ) Memory) (x : ℕ) → g.answer ≡ Some x → received k r n g ≡ schedule_thread_on_cpu_def k r x n g.memory
unfolding received
received_some k r n g x e =
    ap (λ (a : Option ℕ). cond (is_none a) (record { answer = n; memory = g.memory }) (schedule_thread_on_cpu_def k r (unwrap_or a NONE) n g.memory)) e

-- us: the CPU that runs the command; base: the wake-ups counted before, which leave room for those of two moves
module _ (limits : Limits) (topology : Topology) (tick us : ℕ) (known : ℕ → Bool) (numbered : (x : ℕ) → known x ≡ true → x < limits.threads) (small : Small limits)
    (early : tick ≤ most_tick) (H : ℕ → List PutOrTake) (us_in : us < limits.cpus) (active : ℕ → Bool) (base : ℕ) (room : base + 2 ≤ NONE) where
  abbrev pub k : Context
  k = context limits tick us

  abbrev OK : World → Type 0
  OK w = Sound limits known H nobody_but w

  abbrev Meets : List Thread → List (List ℕ) → ℕ → step.Balancing → Balancing → Type 0
  Meets ts cs wakeups b B = MeetsAt limits topology tick us known numbered small early H us_in active base room ts cs wakeups b B

  -- ---- the rules

  handed_waited : (w : World) (c : ℕ) (s : Bool) (x : ℕ) → OK w → (n : Next) → asked (pinned_in w) (w.cpus c).queue s ≡ n
      → (sched.handed_out limits topology tick us w c s n).got ≡ Some x → waits w c x ≡ true
  unfolding sched.handed_out
  handed_waited w c s x d nobody a e = cc
  handed_waited w c s x d (next_in p j y) a e =
      let z : y ≡ x = cc in
      ap (has x) (asked_head (pinned_in w) (w.cpus c).queue s p j y (d.kept c).fits.shape a).first
      ∙ ap (λ v. has x (v ∷ order (leave p (w.cpus c).queue j))) z ∙ has_head x (order (leave p (w.cpus c).queue j))

  moved_got : (r : ℕ) (o : Option ℕ) (w : World) → (sched.moved_for limits topology tick us r o w).got ≡ o
  unfolding sched.moved_for
  moved_got r None w = refl
  moved_got r (Some x) w = refl

  -- the move of the rules, by what is taken
  abbrev taken_from : World → ℕ → ℕ → Got
  taken_from w donor recipient = sched.take_a_thread_from_cpu limits topology tick us w donor recipient

  rules_some : (w : World) (allowed : ℕ → Bool) (n donor recipient x : ℕ) → (taken_from w donor recipient).got ≡ Some x
      → sched.move_one limits topology tick us w allowed n donor recipient
      ≡ record { world = sched.schedule_thread_on_cpu limits topology tick us (taken_from w donor recipient).world recipient x; allowed = at allowed recipient false; steps = n + 11; goes_on = true }
  unfolding sched.move_one sched.received
  rules_some w allowed n donor recipient x e = ap (sched.received limits topology tick us (taken_from w donor recipient).world (at allowed recipient false) n recipient) e

  rules_none : (w : World) (allowed : ℕ → Bool) (n donor recipient : ℕ) → (taken_from w donor recipient).got ≡ None
      → sched.move_one limits topology tick us w allowed n donor recipient
      ≡ record { world = (taken_from w donor recipient).world; allowed = at allowed recipient false; steps = n + 1; goes_on = true }
  unfolding sched.move_one sched.received
  rules_none w allowed n donor recipient e = ap (sched.received limits topology tick us (taken_from w donor recipient).world (at allowed recipient false) n recipient) e

  active_again : (x : ℕ) → active x ≡ false → at (at active x true) x false ≡ active
  active_again x h = λ i z. (at_again active x true false z ∙ at_keeps (λ (b : Bool). b) active x false (sym h) z) i

  -- ---- a thread is taken for the recipient, and put there

  module _ {ts : List Thread} {cs : List (List ℕ)} {w : World} (s : WorldRep limits topology known active ts cs w) (safe : OK w) (donor recipient : ℕ) (donor_in : donor < limits.cpus)
      (recipient_in : recipient < limits.cpus) where
    abbrev d : Left (Option ℕ) Memory
    d = take_from donor recipient (mem ts cs)

    abbrev front_there : Option Front
    front_there = rq_front (queue_at cs donor) (not (eqb recipient donor))

    abbrev g : Got
    g = taken_from w donor recipient

    taken_shows : TakeShows limits topology known active d g
    taken_shows = shows_taken_from limits topology tick us known numbered small early us_in H s safe donor recipient donor_in recipient_in

    taken_safe : Taken limits topology tick us known numbered H nobody_but w g
    taken_safe = from_handed limits topology tick us known numbered small early us_in H nobody_but w donor recipient safe

    -- the answer of the queue's own take
    own_answer : (took_from_def donor front_there (mem ts cs)).answer ≡ g.got
    unfolding take_from take_def
    own_answer = sym (moved_answer recipient (take_def donor (not (eqb recipient donor)) (mem ts cs))) ∙ taken_shows.answer

    hands_shown : hands_out cs donor recipient ≡ is_some g.got
    unfolding hands_out
    hands_shown = somebody_answers ts cs donor front_there ∙ ap (λ (a : Option ℕ). is_some a) own_answer

    left_shows : (o : Option ℕ) → g.got ≡ o → WorldRep limits topology known (active_with active o) d.memory.threads d.memory.cpus g.world
    left_shows o e = subst (λ (o : Option ℕ). WorldRep limits topology known (active_with active o) d.memory.threads d.memory.cpus g.world) e taken_shows.left

    -- nobody was handed out: only the rules' log has changed
    none_shows : g.got ≡ None → WorldRep limits topology known active ts cs g.world
    unfolding take_from take_def active_with
    none_shows e =
        let a : (took_from_def donor front_there (mem ts cs)).answer ≡ None = own_answer ∙ e in
        let l = nobody_left ts cs donor front_there a in
        let k = subst (λ (t : Left (Option ℕ) Memory). WorldRep limits topology known active t.memory.threads t.memory.cpus g.world) (nobody_moved recipient (took_from_def donor front_there (mem ts cs)) a) (left_shows None e) in
        subst (λ (r : List (List ℕ)). WorldRep limits topology known active ts r g.world) l.1
        (subst (λ (r : List Thread). WorldRep limits topology known active r (took_from_def donor front_there (mem ts cs)).memory.cpus g.world) l.0 k)

    module _ (x : ℕ) (e : g.got ≡ Some x) where
      answered : d.answer ≡ Some x
      answered = taken_shows.answer ∙ e

      moved_shows : WorldRep limits topology known (at active x true) d.memory.threads d.memory.cpus g.world
      unfolding active_with
      moved_shows = left_shows (Some x) e

      moved_new : New limits known nobody_but g.world recipient x
      moved_new = record {
        nowhere = taken_safe.handed_free x e;
        is_known = taken_safe.handed_known x e;
        near = recipient_in;
        runs_not = λ i b r. taken_safe.handed_idle x i e b (sym (taken_safe.running i) ∙ r);
      }

      was_waiting : waits w donor x ≡ true
      unfolding sched.take_a_thread_from_cpu sched.take_thread
      was_waiting = handed_waited w donor (not (eqb recipient donor)) x safe (asked (pinned_in w) (w.cpus donor).queue (not (eqb recipient donor))) refl (sym (moved_got recipient _ _) ∙ e)

      was_idle : active x ≡ false
      was_idle = not_true_is (active x) (λ t.
          let a = s.places.waiting donor x was_waiting in
          let b = s.places.running x t in
          let z : ◌≡◌ {A = ℕ} 0 1 = cc in omega arith)

      abbrev left : ℕ → Left ℕ Memory
      left n = schedule_thread_on_cpu_def k recipient x n d.memory

      put_shows : (n : ℕ) → WorldRep limits topology known active (left n).memory.threads (left n).memory.cpus (sched.schedule_thread_on_cpu limits topology tick us g.world recipient x)
      put_shows n =
          subst (λ (f : ℕ → Bool). WorldRep limits topology known f (left n).memory.threads (left n).memory.cpus (sched.schedule_thread_on_cpu limits topology tick us g.world recipient x)) (active_again x was_idle)
          (shows_scheduled limits topology tick us known numbered small early us_in H moved_shows recipient x moved_new n)

      put_wakeups : (n : ℕ) → n ≡ w.wakeups → w.wakeups < NONE → (left n).answer ≡ (sched.schedule_thread_on_cpu limits topology tick us g.world recipient x).wakeups
      put_wakeups n c h =
          let same = from_wakeups limits topology tick us w donor recipient in
          counts_scheduled limits topology tick us known numbered small early us_in H moved_shows recipient x moved_new n (c ∙ sym same) (rw same h)

      put_safely : OK (sched.schedule_thread_on_cpu limits topology tick us g.world recipient x)
      put_safely = ok_put limits topology tick us known numbered H us_in nobody_but g.world recipient x taken_safe.sound moved_new

      put_wakeups_few : (sched.schedule_thread_on_cpu limits topology tick us g.world recipient x).wakeups ≤ w.wakeups + 1
      put_wakeups_few =
          subst (λ i. (sched.schedule_thread_on_cpu limits topology tick us g.world recipient x).wakeups ≤ i + 1) (from_wakeups limits topology tick us w donor recipient) (put_one limits topology tick us g.world recipient x)

  -- ---- one choice

  abbrev Stepped : List Thread → ℕ → Left step.Balancing Words → ℕ → Balancing → Type 0
  Stepped ts n s before B = SteppedAt limits topology tick us known numbered small early H us_in active base room ts n s before B

  still : {ts : List Thread} {n : ℕ} (s : Left step.Balancing Words) (before : ℕ) (B : Balancing) → is_some s.answer.moves ≡ false → Meets ts s.memory n s.answer B → Stepped ts n s before B
  still {ts} {n} s before B e m = record {
    meets = subst (λ (u : Left ℕ Memory). Meets u.memory.threads u.memory.cpus u.answer s.answer B) (sym (move_none ts s.memory k s.answer n e)) m;
    far = λ t. absurd (true≢false (sym t ∙ e));
  }

  module _ {ts : List Thread} {cs : List (List ℕ)} {n : ℕ} {b : step.Balancing} {B : Balancing} (m : Meets ts cs n b B) (stays : is_some b.moves ≡ false) (on : b.goes_on ≡ true) (under : B.steps < 20) where
    abbrev w : World
    w = B.world

    one_more : sum b.steps 1 ≡ B.steps + 1
    one_more = ap (λ i. sum i 1) m.steps ∙ sum_exact B.steps 1 (omega arith)

    removed : (c d : ℕ) → d < limits.cpus → cpus.contains (cpus.remove b.allowed c) d ≡ at B.allowed c false d
    removed c d h =
        both (eqb d c)
        (λ e. rw (eqb-true d c e) (remove_same b.allowed m.words c ∙ sym (at_here B.allowed c false)))
        (λ e. remove_other b.allowed m.words c d (eqb-false d c e) ∙ m.allowed d h ∙ sym (at_there B.allowed c false d (eqb-false d c e)))

    module _ (donor recipient : ℕ) (donor_in : donor < limits.cpus) (recipient_in : recipient < limits.cpus) where
      abbrev v : World
      v = with_cpu w donor (set_rebalance (w.cpus donor))

      abbrev marked : List (List ℕ)
      marked = put_word cs donor MUST_REBALANCE 1

      marked_shows : WorldRep limits topology known active ts marked v
      marked_shows = shows_must_rebalance m.shows donor donor_in

      marked_safe : OK v
      unfolding set_rebalance
      marked_safe = sound_same (same_cpu_changed limits w donor (set_rebalance (w.cpus donor)) refl refl) m.safe

      v_counts : v.wakeups ≡ w.wakeups
      unfolding with_cpu
      v_counts = refl

      abbrev got : Got
      got = taken_from v donor recipient

      got_counts : got.world.wakeups ≡ w.wakeups
      got_counts = from_wakeups limits topology tick us v donor recipient ∙ v_counts

      hands_now : hands_out cs donor recipient ≡ is_some got.got
      unfolding hands_out
      hands_now =
          ap (λ (q : RunQueue). is_some (rq_front q (not (eqb recipient donor)))) (sym ((beside_put cs donor 77 1 (in_rows m.shows donor donor_in) (omega arith) (omega arith)).queue donor))
          ∙ hands_shown marked_shows marked_safe donor recipient donor_in recipient_in

      abbrev moved_B : Balancing
      moved_B = sched.move_one limits topology tick us v B.allowed B.steps donor recipient

      -- nobody is handed out
      move_nobody : got.got ≡ None → Stepped ts n (record { answer = without b recipient; memory = marked }) B.steps moved_B
      unfolding without
      move_nobody e =
          let r : moved_B ≡ record { world = got.world; allowed = at B.allowed recipient false; steps = B.steps + 1; goes_on = true } = rules_none v B.allowed B.steps donor recipient e in
          still (record { answer = without b recipient; memory = marked }) B.steps moved_B stays
          (subst (λ (C : Balancing). Meets ts marked n (without b recipient) C) (sym r) (record {
            shows = none_shows marked_shows marked_safe donor recipient donor_in recipient_in e;
            safe = (taken_safe marked_shows marked_safe donor recipient donor_in recipient_in).sound;
            words = sixteen_remove b.allowed m.words recipient;
            allowed = removed recipient;
            steps = one_more;
            goes_on = on;
            counted = m.counted ∙ sym got_counts;
            few = omega (arith, m.few, got_counts);
          }))

      -- a thread moves
      move_somebody : (x : ℕ) → got.got ≡ Some x → Stepped ts n (record { answer = moving b donor recipient; memory = marked }) B.steps moved_B
      unfolding moving
      move_somebody x e =
          let r : moved_B ≡ record {
            world = sched.schedule_thread_on_cpu limits topology tick us got.world recipient x;
            allowed = at B.allowed recipient false;
            steps = B.steps + 11;
            goes_on = true;
          } = rules_some v B.allowed B.steps donor recipient x e in
          let t : move_one_def k (moving b donor recipient) n (mem ts marked) ≡ left marked_shows marked_safe donor recipient donor_in recipient_in x e n =
          move_some ts marked k (moving b donor recipient) (record { donor = donor; recipient = recipient }) n refl ∙ received_some k recipient n (take_from donor recipient (mem ts marked)) x (answered marked_shows marked_safe donor recipient donor_in recipient_in x e) in
          record {
            meets = subst (λ (u : Left ℕ Memory). Meets u.memory.threads u.memory.cpus u.answer (moving b donor recipient) moved_B) (sym t)
                (subst (λ (C : Balancing). Meets (left marked_shows marked_safe donor recipient donor_in recipient_in x e n).memory.threads (left marked_shows marked_safe donor recipient donor_in recipient_in x e n).memory.cpus
                (left marked_shows marked_safe donor recipient donor_in recipient_in x e n).answer (moving b donor recipient) C) (sym r) (record {
                  shows = put_shows marked_shows marked_safe donor recipient donor_in recipient_in x e n;
                  safe = put_safely marked_shows marked_safe donor recipient donor_in recipient_in x e;
                  words = sixteen_remove b.allowed m.words recipient;
                  allowed = removed recipient;
                  steps = ap (λ i. sum i 11) m.steps ∙ sum_exact B.steps 11 (omega arith);
                  goes_on = on;
                  counted = put_wakeups marked_shows marked_safe donor recipient donor_in recipient_in x e n (m.counted ∙ sym v_counts) (omega (arith, v_counts, m.few, room));
                  few = omega (arith, put_wakeups_few marked_shows marked_safe donor recipient donor_in recipient_in x e, v_counts, m.few);
                }));
            far = λ z. let l : moved_B.steps ≡ B.steps + 11 = ap (λ (C : Balancing). C.steps) r in omega arith;
          }

      move_law : (o : Option ℕ) → got.got ≡ o → Stepped ts n (record { answer = cond (is_some o) (moving b donor recipient) (without b recipient); memory = marked }) B.steps moved_B
      move_law None e = move_nobody e
      move_law (Some x) e = move_somebody x e

      abbrev passed_B : (ℕ → Bool) → Balancing
      passed_B allowed = record { world = v; allowed = allowed; steps = B.steps + 1; goes_on = true }

      kept_going : (b' : step.Balancing) (allowed : ℕ → Bool) → is_some b'.moves ≡ false → b'.steps ≡ sum b.steps 1 → b'.goes_on ≡ true → Sixteen b'.allowed
          → ((c : ℕ) → c < limits.cpus → cpus.contains b'.allowed c ≡ allowed c) → Stepped ts n (record { answer = b'; memory = marked }) B.steps (passed_B allowed)
      kept_going b' allowed z i o f a =
          still (record { answer = b'; memory = marked }) B.steps (passed_B allowed) z
          (record { shows = marked_shows; safe = marked_safe; words = f; allowed = a; steps = i ∙ one_more; goes_on = o; counted = m.counted ∙ sym v_counts; few = omega (arith, v_counts, m.few) })

      -- nobody waits at the donor: it leaves the allowed set if it has no more than the thread that it runs
      none_waits : Stepped ts n (record { answer = cond (eqb (sched.current_load (w.cpus donor)) 1) (without b donor) (passed b); memory = marked }) B.steps
          (passed_B (cond (eqb (sched.current_load (w.cpus donor)) 1) (at B.allowed donor false) B.allowed))
      unfolding without passed
      none_waits =
          both (eqb (sched.current_load (w.cpus donor)) 1)
          (λ e. rw e (kept_going (without b donor) (at B.allowed donor false) stays refl on (sixteen_remove b.allowed m.words donor) (removed donor)))
          (λ e. rw e (kept_going (passed b) B.allowed stays refl on m.words m.allowed))

      load_at_donor : cpu.current_load cs donor ≡ sched.current_load (w.cpus donor)
      load_at_donor = current_load_shown m.shows small donor donor_in

      waiting_at_donor : word cs donor LOAD ≡ load (w.cpus donor).queue
      waiting_at_donor = word_load cs donor ∙ load_shown m.shows small donor donor_in

      outcome_is : outcome b donor recipient (cpu.current_load cs donor) (word cs donor LOAD) (hands_out cs donor recipient)
          ≡ outcome b donor recipient (sched.current_load (w.cpus donor)) (load (w.cpus donor).queue) (is_some got.got)
      outcome_is =
          ap (λ i. outcome b donor recipient i (word cs donor LOAD) (hands_out cs donor recipient)) load_at_donor
          ∙ ap (λ i. outcome b donor recipient (sched.current_load (w.cpus donor)) i (hands_out cs donor recipient)) waiting_at_donor
          ∙ ap (λ (t : Bool). outcome b donor recipient (sched.current_load (w.cpus donor)) (load (w.cpus donor).queue) t) hands_now

      pair_is : pair_step b donor recipient cs
          ≡ cond (eqb (sched.current_load (w.cpus donor)) 0) (record { answer = stopped b; memory = cs })
          (record { answer = outcome b donor recipient (sched.current_load (w.cpus donor)) (load (w.cpus donor).queue) (is_some got.got); memory = marked })
      unfolding pair_step
      pair_is =
          ap (λ i. cond (eqb i 0) (record { answer = stopped b; memory = cs })
          (record { answer = outcome b donor recipient (cpu.current_load cs donor) (word cs donor LOAD) (hands_out cs donor recipient); memory = marked })) load_at_donor
          ∙ ap (λ (c : step.Balancing). cond (eqb (sched.current_load (w.cpus donor)) 0) (record { answer = stopped b; memory = cs }) (record { answer = c; memory = marked })) outcome_is

      abbrev stopped_B : Balancing
      stopped_B = record { world = w; allowed = B.allowed; steps = B.steps; goes_on = false }

      stop_law : Stepped ts n (record { answer = stopped b; memory = cs }) B.steps stopped_B
      unfolding stopped
      stop_law = still (record { answer = stopped b; memory = cs }) B.steps stopped_B stays
          (record { shows = m.shows; safe = m.safe; words = m.words; allowed = m.allowed; steps = m.steps; goes_on = refl; counted = m.counted; few = m.few })

      on_law : Stepped ts n (record { answer = outcome b donor recipient (sched.current_load (w.cpus donor)) (load (w.cpus donor).queue) (is_some got.got); memory = marked }) B.steps
          (cond (ltb 0 (load (w.cpus donor).queue)) moved_B (passed_B (cond (eqb (sched.current_load (w.cpus donor)) 1) (at B.allowed donor false) B.allowed)))
      unfolding outcome
      on_law =
          both (ltb 0 (load (w.cpus donor).queue))
          (λ e. rw e (move_law got.got refl))
          (λ e. rw e none_waits)

      donor_law : Stepped ts n (pair_step b donor recipient cs) B.steps (sched.balance_pair limits topology tick us w B.allowed B.steps (pair_at donor recipient))
      unfolding sched.balance_pair
      donor_law =
          subst (λ (s : Left step.Balancing Words). Stepped ts n s B.steps (sched.balance_pair limits topology tick us w B.allowed B.steps (pair_at donor recipient))) (sym pair_is)
          (both (eqb (sched.current_load (w.cpus donor)) 0) (λ e. rw e stop_law) (λ e. rw e on_law))

    pair_law : (p : Option Pair) → PairUnder limits.cpus p → Stepped ts n (pair_of_def b p cs) B.steps (sched.balance_pair limits topology tick us w B.allowed B.steps p)
    unfolding pair_of_def passed sched.balance_pair PairUnder
    pair_law None h =
        still (record { answer = passed b; memory = cs }) B.steps (record { world = w; allowed = B.allowed; steps = B.steps + 1; goes_on = true }) stays
        (record { shows = m.shows; safe = m.safe; words = m.words; allowed = m.allowed; steps = one_more; goes_on = on; counted = m.counted; few = omega (arith, m.few) })
    pair_law (Some p) h = donor_law p.donor p.recipient h.0 h.1

  -- the draws of a choice
  drawn_meets : {ts : List Thread} {cs : List (List ℕ)} {n : ℕ} {b : step.Balancing} {B : Balancing} → Meets ts cs n b B → (d : ℕ)
      → Meets ts (put_word cs us RAND_STATE d) n b (record { world = with_cpu B.world us (with_draws (B.world.cpus us) d); allowed = B.allowed; steps = B.steps; goes_on = B.goes_on })
  unfolding with_draws with_cpu
  drawn_meets {B = B} m d = record {
    shows = shows_draws m.shows us us_in d;
    safe = sound_same (same_cpu_changed limits B.world us (with_draws (B.world.cpus us) d) refl refl) m.safe;
    words = m.words;
    allowed = m.allowed;
    steps = m.steps;
    goes_on = m.goes_on;
    counted = m.counted;
    few = m.few;
  }

  module _ (nodes : List (List ℕ)) (tree : TopologyRep limits nodes topology) where
    -- ONE CHOICE AND THE MOVE THAT IT COMES TO ARE ONE STEP OF THE RULES
    pub step_law : {ts : List Thread} {cs : List (List ℕ)} {n : ℕ} {b : step.Balancing} {B : Balancing} → Meets ts cs n b B → is_some b.moves ≡ false → b.goes_on ≡ true → B.steps < 20
        → Stepped ts n (balance_step_def nodes us limits.cpus b cs) B.steps (sched.balance_step limits topology tick us B)
    unfolding balance_step_def chosen_at sched.balance_step
    step_law {ts} {cs} {n} {b} {B} m stays on under =
        let f : Chosen = choose_cpu_balance us B.allowed (λ c. sched.current_load (B.world.cpus c)) (cpus_of limits topology 0) (B.world.cpus us).draw_state in
        subst (λ (c : Chosen). Stepped ts n (pair_of_def b c.found (put_word cs us RAND_STATE c.draws)) B.steps
        (sched.balance_pair limits topology tick us (with_cpu B.world us (with_draws (B.world.cpus us) f.draws)) B.allowed B.steps f.found))
        (sym (balance_memory m.shows small us us_in nodes tree (cpus.contains b.allowed) B.allowed m.allowed))
        (pair_law (drawn_meets m f.draws) stays on under f.found (choose_in limits.cpus us B.allowed _ _ _ (cpus_in limits topology 0)))
