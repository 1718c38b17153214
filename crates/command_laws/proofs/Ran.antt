-- THE COMMANDS THAT A CPU RUNS (hex 12 to 18): over memory that stands for a state that the rules reach, each leaves and answers what the rules say.
use Prim.Native.Nat.{ℕ, ◌+◌, ◌%◌, ◌^◌, ◌≤◌, ◌<◌}
use Rattle.std.specs.Prelude.{◌≡◌, Bool, true, List, Option, None, Some, is_some}
use Rattle.std.proofs.Math.Path.{refl, sym, ap, subst}
use Rattle.std.proofs.Common.{◌∙◌}
use Rattle.std.proofs.lemmas.Bool.{false≢true}
use native.Mathlib.Omega.{arith}
use Rattle.rules.specs.declared.Priority.{Priority}
use Rattle.rules.specs.Priority.{nr_values, priority, class_at}
use Rattle.rules.specs.Queue.{load}
use Rattle.rules.specs.Puts.{PutOrTake}
use Rattle.rules.specs.State as rules
use Rattle.rules.specs.State.{runs_on, blocked}
use Rattle.rules.specs.Schedule as sched
use Rattle.rules.specs.Schedule.{World, Got}
use Rattle.rules.specs.Requests.{schedule_thread, schedule, hardtick, stattick, resched, maybe_preempt, donate, asks, flags_of}
use Rattle.rules.specs.Questions.{refusal, concerning, thread_declared, thread_blocked, most_accepted}
use Rattle.rules.specs.Commands as rule
use Rattle.rules.specs.Commands.{Answer, world_of, running_of, obeys, schedules, scheduled_on}
use Rattle.rules.specs.Waits.{Under}
use Rattle.rules.proofs.Laws.Sound.{Sound, New}
use Rattle.rules.proofs.Laws.Steps.{nobody_but, select_cpu_selected, ok_scheduled, ok_schedule, ok_hardtick, ok_stattick, ok_resched, ok_maybe_preempt, ok_donate}
use Rattle.rules.proofs.Laws.Reached.{yes, value_below, blocked_new}
use Rattle.thread.specs.declared.Thread.{Thread}
use Rattle.thread.specs.Thread.{NONE}
use Rattle.processor.specs.Words.{word}
use Rattle.processor.specs.Word.{LOAD, RUNNING}
use Rattle.represents.specs.World.{WorldRep, most_tick}
use Rattle.represents.proofs.Laws.Frames.{shows_alike}
use Rattle.represents.proofs.Laws.Numbers.{word_load, load_shown, running_shown}
use Rattle.lines.specs.Lines.{refusal_number, answer_of}
use Rattle.topology.specs.CpuSet.{max_cpu_id}
use Rattle.topology.specs.Node.{lesser}
use Rattle.questions.specs.declared.state.State.{State}
use Rattle.sched_words.specs.declared.context.Context.{Context}
use Rattle.sched_words.specs.declared.context.Scheduled.{Scheduled}
use Rattle.sched.specs.Schedule.{schedule_def, schedule_thread_def}
use Rattle.sched_ticks.specs.Balance.{schedule_stattick_def}
use Rattle.sched_ticks.specs.Ticks.{schedule_hardtick_def, schedule_resched_def}
use Rattle.sched.specs.Preempt.{schedule_maybe_preempt_def}
use Rattle.sched_queues.specs.Donate.{donate_priority_def}
use Rattle.outcome.specs.Answer.{accepted, running_in, shown, ran}
use Rattle.outcome.specs.Call.{priority_in, context_of, flags_in}
use Rattle.command.specs.Command.{scheduled_thread_def, schedule_thread_command, schedule_command, hardtick_command, stattick_command, resched_command, maybe_preempt_command, donate_command}
use Rattle.sched_laws.specs.Hardtick.{context}
use Rattle.sched_laws.specs.Switch.{Settled, no_one, Ends}
use Rattle.sched_laws.specs.Schedule as law
use Rattle.sched_laws.specs.Schedule.{Leaves}
use Rattle.sched_laws.proofs.Schedule.{shows_schedule}
use Rattle.sched_laws.specs.Commands.{runs_somewhere}
use Rattle.sched_laws.proofs.Commands.{settled_same, settled_runs, ends_runs, shows_maybe_preempt, ends_resched, ends_hardtick, woken_on, wakes, scheduled_thread}
use Rattle.sched_laws.proofs.Donate.{shows_donated, counts_donated}
use Rattle.sched_laws.proofs.Frames.{donate_running, resched_wakeups, hardtick_wakeups}
use Rattle.balance_laws.proofs.Stattick.{stattick_law}
use Rattle.represents.specs.State.{limits_in, runs, StateRep}
use Rattle.command_laws.specs.Law.{Reachable, AsRuled}
use Rattle.command_laws.proofs.Numbers.{few_accepted}
use Rattle.command_laws.specs.Asked.{On}
use Rattle.command_laws.proofs.Asked.{on_node}
use Rattle.command_laws.proofs.Plain.{one_more}
use Rattle.command_laws.proofs.Running.{running_same, uncut}
use Rattle.command_laws.specs.Law.{lent}
use Rattle.command.specs.Lent.{in_memory, in_threads, in_cpus}
use Rattle.processor.specs.Left.{Left}
use Rattle.records.specs.Left.{Memory, mem}

module _ {H : ℕ → List PutOrTake} {ts : List Thread} {cs ns : List (List ℕ)} {a : State} {s : rules.State} (m : StateRep ts cs ns a s) (r : Reachable H s) where
  abbrev Soundly : World → Type 0
  Soundly v = Sound s.limits s.known H nobody_but v

  abbrev Leave : Left ℕ Memory → World → Type 0
  Leave d v = Leaves s.limits s.topology s.known d v

  abbrev w : World
  w = world_of s

  safe : Soundly w
  safe = r.reached.sound

  early : s.tick ≤ most_tick
  early = m.tick_fits

  settled : Settled no_one (runs s) w
  unfolding runs runs_on runs_somewhere world_of
  settled = settled_runs s.limits w (λ c x e. (safe.runs c x e).0)

  no_wakeups : 0 ≡ w.wakeups
  unfolding world_of
  no_wakeups = refl

  few : w.wakeups < NONE
  unfolding world_of
  few = omega arith

  few_still : w.wakeups + 2 ≤ NONE
  unfolding world_of
  few_still = omega arith

  told : (c : ℕ) → context s.limits s.tick c ≡ record { us = c; tick = a.tick; shortest = a.shortest; limit = lesser a.cpus max_cpu_id }
  unfolding context limits_in
  told c = λ i. record { us = c; tick = sym m.tick i; shortest = (m.limits i).shortest; limit = (ap (λ (l : rules.Limits). l.cpus) m.limits ∙ sym (uncut a.cpus (rw (← ap (λ (l : rules.Limits). l.cpus) m.limits) m.tree.cpus_fit))) i }

  -- ---- what is left: the records and words show what the rules leave

  shows_left : {ts' : List Thread} {cs' : List (List ℕ)} (v : World) (x : Answer) → Soundly v → Ends s.limits s.topology s.known ts' cs' v
      → WorldRep s.limits s.topology s.known (runs (rule.ran s v x).state) ts' cs' (world_of (rule.ran s v x).state)
  unfolding rule.ran runs runs_on runs_somewhere world_of
  shows_left v x d e = shows_alike v _ (λ c. refl) (λ z. refl) (ends_runs (λ c y q. (d.runs c y q).0) e)

  stands_ran : {ts' : List Thread} {cs' : List (List ℕ)} (v : World) (x : Answer) → s.accepted < most_accepted → Soundly v → Ends s.limits s.topology s.known ts' cs' v
      → StateRep ts' cs' ns (accepted a) (rule.ran s v x).state
  unfolding rule.ran accepted limits_in
  stands_ran v x room d e = record {
    limits = m.limits;
    sealed = m.sealed;
    tick = m.tick;
    accepted = ap (λ (n : ℕ). (n + 1) % 2 ^ 64) m.accepted ∙ one_more s.accepted room;
    node_count = m.node_count;
    tree = m.tree;
    rows = m.rows;
    shows = shows_left v x d e;
    small = m.small;
    few_nodes = m.few_nodes;
    nodes_fit = m.nodes_fit;
    tick_fits = m.tick_fits;
  }

  -- ---- what is answered

  shown_same : {active : ℕ → Bool} {ts' : List Thread} {cs' : List (List ℕ)} (v : World) (c n : ℕ) → c < s.limits.cpus → Soundly v → WorldRep s.limits s.topology s.known active ts' cs' v → n ≡ v.wakeups
      → answer_of (shown cs' c n) ≡ rule.shown v c
  unfolding answer_of shown rule.shown refusal_number
  shown_same {cs' = cs'} v c n near d e k =
      let p : running_in (word cs' c RUNNING) ≡ running_of (v.cpus c).running =
      ap running_in (running_shown e m.small c near)
      ∙ running_same (v.cpus c).running (λ x q. omega (arith, r.reached.numbered x (d.runs c x q).1, m.small.threads)) in
      let l : word cs' c LOAD ≡ load (v.cpus c).queue = word_load cs' c ∙ load_shown e m.small c near in
      λ i. record { refused = 0; cpu = Some c; running = Some (p i); load = Some (l i); wakeups = Some (k i) }

  -- ---- a command that a CPU ran, and whose line shows CPU c
  ran_law : (d : Left ℕ Memory) (v : World) (c used : ℕ) → s.accepted < most_accepted → c < s.limits.cpus → Soundly v → Leave d v
      → AsRuled (record { answer = ran d.memory.cpus a c d.answer used; memory = lent d.memory.threads d.memory.cpus ns }) (rule.ran s v (rule.shown v c))
  unfolding ran
  ran_law d v c used room near ok e = record {
    stands = stands_ran v _ room ok e.ends;
    answer = shown_same v c d.answer near ok e.ends.shows e.counted ∙ (unfold rule.ran in refl);
  }

  -- a blocked thread goes into the queue of the CPU selected for it
  module _ (c x used : ℕ) (on : On s c) (room : s.accepted < most_accepted) (known : s.known x ≡ true) (idle : blocked s x ≡ true) where
    abbrev chosen : Got
    chosen = sched.select_cpu s.limits s.topology s.tick c w x None

    on_chosen : (o : Option ℕ) → chosen.got ≡ o → is_some o ≡ true → Under s.limits.cpus o
        → AsRuled (in_memory (lent ts cs ns) (schedule_thread_command a c x used ns (mem ts cs))) (scheduled_on s c x chosen.world o)
    unfolding Under scheduled_on schedule_thread_command context_of
    on_chosen None e i u = absurd (false≢true i)
    on_chosen (Some d) e i u =
        let new : (b : ℕ) → b < s.limits.cpus → New s.limits s.known nobody_but w b x = λ b h. blocked_new b x r.reached idle known h in
        let v : World = sched.schedule_thread_on_cpu s.limits s.topology s.tick c chosen.world d x in
        let same = (select_cpu_selected s.limits s.topology s.tick c s.known r.reached.numbered H on.near w x None (safe.mild x)).same in
        subst (λ (k : Context). AsRuled (in_memory (lent ts cs ns) (scheduled_thread_def a used (schedule_thread_def k x ns (mem ts cs)))) (rule.ran s v (rule.shown v d))) (told c)
        (subst (λ (z : Left Scheduled Memory). AsRuled (in_memory (lent ts cs ns) (scheduled_thread_def a used z)) (rule.ran s v (rule.shown v d)))
        (sym (scheduled_thread s.limits s.topology s.tick c s.known r.reached.numbered m.small early on.near H ns m.tree on.node on.put_on m.shows safe settled 0 no_wakeups few x known new d e))
        (ran_law _ v d used room u (ok_scheduled s.limits s.topology s.tick c s.known r.reached.numbered H on.near w chosen.world x d safe same (new d u))
        (wakes s.limits s.topology s.tick c s.known r.reached.numbered m.small early on.near H ns m.tree on.node on.put_on m.shows safe settled 0 no_wakeups few x known new d e u no_wakeups)))

  -- 12
  pub ran_schedule_thread : (c x used : ℕ) → refusal s (asks (schedule_thread c x) used) ≡ 0
      → AsRuled (in_memory (lent ts cs ns) (schedule_thread_command a c x used ns (mem ts cs))) (obeys s (schedule_thread c x))
  unfolding refusal concerning thread_declared thread_blocked obeys schedules
  ran_schedule_thread c x used e =
      let there = on_node s c _ r.sealed e in
      let on : On s c = there.0 in
      let known = yes 4 (s.known x) _ there.1 in
      let idle = yes 6 (blocked s x) _ known.1 in
      let new : (b : ℕ) → b < s.limits.cpus → New s.limits s.known nobody_but w b x = λ b h. blocked_new b x r.reached idle.0 known.0 h in
      on_chosen c x used on (few_accepted s (schedule_thread c x) used e) known.0 idle.0 _ refl
      (woken_on s.limits s.topology s.tick c s.known r.reached.numbered m.small early on.near H ns m.tree on.node on.put_on m.shows safe settled 0 no_wakeups few x known.0 new)
      (select_cpu_selected s.limits s.topology s.tick c s.known r.reached.numbered H on.near w x None (safe.mild x)).under

  -- 13
  pub ran_schedule : (c f used : ℕ) → refusal s (asks (schedule c f) used) ≡ 0 → AsRuled (in_memory (lent ts cs ns) (schedule_command a c f used ns (mem ts cs))) (obeys s (schedule c f))
  unfolding refusal concerning schedule_command context_of flags_in obeys rule.ran_on flags_of law.flags_in
  ran_schedule c f used e =
      let on : On s c = (on_node s c _ r.sealed e).0 in
      let v : World = sched.schedule s.limits s.topology s.tick c w (flags_of f) in
      ran_law _ v c used (few_accepted s (schedule c f) used e) on.near
      (ok_schedule s.limits s.topology s.tick c s.known r.reached.numbered H on.near w (flags_of f) safe)
      (subst (λ (k : Context). Leave (schedule_def k (flags_in f) 0 ns (mem ts cs)) v) (told c)
      (shows_schedule s.limits s.topology s.tick c s.known r.reached.numbered m.small early on.near H ns m.tree on.node on.put_on m.shows safe settled 0 no_wakeups few
      (flags_in f)))

  -- 14
  pub ran_hardtick : (c used : ℕ) → refusal s (asks (hardtick c) used) ≡ 0 → AsRuled (in_memory (lent ts cs ns) (hardtick_command a c used (mem ts cs))) (obeys s (hardtick c))
  unfolding refusal concerning hardtick_command context_of obeys rule.ran_on
  ran_hardtick c used e =
      let on : On s c = (on_node s c _ r.sealed e).0 in
      let v : World = sched.schedule_hardtick s.limits s.topology s.tick c w in
      let late : (w.cpus c).last_tick ≤ s.tick = unfold world_of in r.late.last c in
      ran_law _ v c used (few_accepted s (hardtick c) used e) on.near
      (ok_hardtick s.limits s.topology s.tick c s.known r.reached.numbered H on.near w safe)
      (subst (λ (k : Context). Leave (record { answer = 0; memory = schedule_hardtick_def k (mem ts cs) }) v) (told c)
      (record {
        ends = ends_hardtick s.limits s.topology s.tick c s.known r.reached.numbered m.small early on.near H ns m.tree on.node on.put_on m.shows safe settled 0 no_wakeups few late;
        counted = no_wakeups ∙ sym (hardtick_wakeups s.limits s.topology s.tick c w);
      }))

  -- 15
  pub ran_stattick : (c n used : ℕ) → refusal s (asks (stattick c n) used) ≡ 0 → AsRuled (in_memory (lent ts cs ns) (stattick_command a c n used ns (mem ts cs))) (obeys s (stattick c n))
  unfolding refusal concerning stattick_command context_of obeys rule.ran_on
  ran_stattick c n used e =
      let on : On s c = (on_node s c _ r.sealed e).0 in
      let v : World = sched.schedule_stattick s.limits s.topology s.tick c w n in
      ran_law _ v c used (few_accepted s (stattick c n) used e) on.near
      (ok_stattick s.limits s.topology s.tick c s.known r.reached.numbered H on.near w n safe)
      (subst (λ (k : Context). Leave (schedule_stattick_def k n 0 ns (mem ts cs)) v) (told c)
      (stattick_law s.limits s.topology s.tick c s.known r.reached.numbered m.small early on.near H ns m.tree m.shows safe settled 0 no_wakeups few_still n))

  -- 16
  pub ran_resched : (c used : ℕ) → refusal s (asks (resched c) used) ≡ 0 → AsRuled (in_cpus (lent ts cs ns) (resched_command a c used ts cs)) (obeys s (resched c))
  unfolding refusal concerning resched_command obeys rule.ran_on
  ran_resched c used e =
      let on : On s c = (on_node s c _ r.sealed e).0 in
      let v : World = sched.schedule_resched s.limits s.topology s.tick c w in
      ran_law (record { answer = 0; memory = mem ts (schedule_resched_def c ts cs) }) v c used (few_accepted s (resched c) used e) on.near
      (ok_resched s.limits s.topology s.tick c s.known r.reached.numbered H on.near w safe)
      (record {
        ends = ends_resched s.limits s.topology s.tick c s.known r.reached.numbered m.small early on.near H ns m.tree on.node on.put_on m.shows safe settled 0 no_wakeups few;
        counted = no_wakeups ∙ sym (resched_wakeups s.limits s.topology s.tick c w);
      })

  -- 17
  pub ran_maybe_preempt : (c used : ℕ) → refusal s (asks (maybe_preempt c) used) ≡ 0 → AsRuled (in_memory (lent ts cs ns) (maybe_preempt_command a c used ns (mem ts cs))) (obeys s (maybe_preempt c))
  unfolding refusal concerning maybe_preempt_command context_of obeys rule.ran_on
  ran_maybe_preempt c used e =
      let on : On s c = (on_node s c _ r.sealed e).0 in
      let v : World = sched.schedule_maybe_preempt s.limits s.topology s.tick c w in
      ran_law _ v c used (few_accepted s (maybe_preempt c) used e) on.near
      (ok_maybe_preempt s.limits s.topology s.tick c s.known r.reached.numbered H on.near w safe)
      (subst (λ (k : Context). Leave (schedule_maybe_preempt_def k 0 ns (mem ts cs)) v) (told c)
      (shows_maybe_preempt s.limits s.topology s.tick c s.known r.reached.numbered m.small early on.near H ns m.tree on.node on.put_on m.shows safe settled 0 no_wakeups few))

  -- 18
  pub ran_donate : (c x k v used : ℕ) → refusal s (asks (donate c x k v) used) ≡ 0 → AsRuled (in_threads (lent ts cs ns) (donate_command a c x k v used cs ts)) (obeys s (donate c x k v))
  unfolding refusal concerning thread_declared donate_command priority_in obeys rule.ran_on
  ran_donate c x k v used e =
      let there = on_node s c _ r.sealed e in
      let on : On s c = there.0 in
      let known = yes 4 (s.known x) _ there.1 in
      let p : Priority = priority (class_at k) v in
      let low : v < nr_values = value_below k v _ known.1 in
      let u : World = sched.donate_priority s.limits s.topology s.tick c w x p in
      let d : Left ℕ (List Thread) = donate_priority_def c x p 0 cs ts in
      let below : x < s.limits.threads = r.reached.numbered x known.0 in
      ran_law (record { answer = d.answer; memory = mem d.memory cs }) u c used (few_accepted s (donate c x k v) used e) on.near
      (ok_donate s.limits s.topology s.tick c s.known r.reached.numbered H on.near w x p low safe)
      (record {
        ends = record {
          active = runs s;
          shows = shows_donated s.limits s.topology s.tick c s.known r.reached.numbered m.small early on.near m.shows x below p low 0;
          settled = settled_same w u (donate_running s.limits s.topology s.tick c w x p) settled;
        };
        counted = counts_donated s.limits s.topology s.tick c s.known r.reached.numbered m.small early on.near m.shows x below p low (λ y q. (safe.runs c y q).1) 0 no_wakeups few;
      })
