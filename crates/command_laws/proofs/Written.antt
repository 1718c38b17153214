-- WHAT ONE CALL WRITES: over memory that stands for a state which calls reach from the start, it keeps to the records below 1,024, the rows of CPUs below 64
-- and the nodes that are made.
use Prim.Native.Nat.{ℕ, suc, ◌+◌, ◌%◌, ◌^◌, ◌≤◌, ◌<◌}
use Rattle.std.specs.Prelude.{◌≡◌, true, false, ◌&&◌, List, take, drop, eqb, ltb, Option, None, Some}
use Rattle.std.proofs.Math.Path.{refl, sym, ap, subst}
use Rattle.std.proofs.Common.{◌∙◌, arith}
use Rattle.std.proofs.Math.Bool.{not}
use Rattle.std.proofs.Math.ListN.{length}
use borrow.Author.Tests.{eqb-true, ltb-true}
use Rattle.std.specs.Cmp.{first_so}
use Rattle.rules.specs.declared.Priority.{Priority}
use Rattle.rules.proofs.Laws.Line.{both}
use Rattle.rules.proofs.Laws.Limits.{SameButShortest}
use Rattle.rules.specs.Puts.{PutOrTake}
use Rattle.rules.specs.State as rules
use Rattle.rules.specs.State.{base_limits}
use Rattle.rules.specs.Topology.{nr_nodes}
use Rattle.rules.specs.Requests.{Request, declare_cpu, add_node, place_cpu, seal, set_shortest, declare_thread, set_tick, schedule_thread, schedule, hardtick, stattick, resched, maybe_preempt, donate, remove_donation, set_critical, Reading, unknown, cut_short, asks, read}
use Rattle.rules.specs.Questions.{refusal, concerning, declared, open_yet, sealed_now, cpu_new, cpu_unplaced, thread_declared, thread_new, at_most, node_exists, parent_without_cpus, node_fits}
use Rattle.rules.specs.Waits.{Under}
use Rattle.rules.proofs.Laws.Reached.{yes, declared_in, runs_below, pin_in}
use Rattle.thread.specs.declared.Thread.{Thread}
use Rattle.thread.specs.Thread.{NONE}
use Rattle.thread.specs.Reads.{cpu_in}
use Rattle.thread.specs.Time.{named_none}
use Rattle.thread.specs.Place.{pin_number, new}
use Rattle.topology.specs.CpuSet.{max_cpu_id}
use Rattle.topology.specs.Node.{lesser}
use Rattle.represents.specs.Topology.{Sized}
use Rattle.request.specs.Request.{limits_of}
use Rattle.lines.specs.Lines.{refusal_number}
use Rattle.questions.specs.declared.state.State.{State}
use Rattle.records.specs.Left.{mem}
use Rattle.outcome.specs.Answer.{accepted, refuses, changed, ran}
use Rattle.outcome.specs.Call.{refusal_back, thread_in, context_of, ticked, sealed_now as sealing, with_shortest, one_node_more}
use Rattle.command.specs.Command.{declare_thread_command, schedule_thread_command, schedule_command, hardtick_command, stattick_command, resched_command, maybe_preempt_command, donate_command, remove_donation_command, set_critical_command, obey_def, command_def}
use Rattle.represents.specs.State.{StateRep, limits_in}
use Rattle.represents.proofs.Laws.State.{threads_are}
use Rattle.question_laws.proofs.Refusals.{refusal_same}
use Rattle.command_laws.specs.Law.{lent, Reachable}
use Rattle.command_laws.proofs.Numbers.{refusal_most}
use Rattle.command_laws.proofs.Call.{number_there, numbered_call, unread_call, read_call, command_read}
use Rattle.command_laws.specs.Links.{Link}
use Rattle.command_laws.specs.InRange.{ThreadInRange, InRange}
use Rattle.command_laws.proofs.InRange.{goes_none, goes_record, goes_word}
use Rattle.command_laws.proofs.Writes.{under_field, goes_donated, goes_removed, goes_critical, goes_schedule, goes_preempt, goes_thread, goes_resched, goes_hardtick, goes_stattick}
use Rattle.command_laws.specs.Nodes.{Nodes}
use Rattle.command_laws.proofs.Nodes.{nodes_placed, nodes_grown}
use Rattle.command_laws.specs.Written.{WrittenInRange}

-- ---- the limits of the base

uncut : (n : ℕ) → n ≡ 64 → lesser n max_cpu_id ≡ 64
unfolding lesser max_cpu_id
uncut n h = rw h

tidy_new : (p : Priority) (pin : Option ℕ) → Under 64 pin → ThreadInRange (new p (pin_number pin))
unfolding new pin_number Under cpu_in
tidy_new p None u = record { link = λ h. refl; pin = rw (named_none NONE (omega arith)) tt; last = tt }
tidy_new p (Some c) u = record { link = λ h. refl; pin = under_field c u; last = tt }

module _ {H : ℕ → List PutOrTake} {ts : List Thread} {cs ns : List (List ℕ)} {a : State} {s : rules.State} (m : StateRep ts cs ns a s) (r : Reachable H s) (base : SameButShortest base_limits s.limits)
    (found : List (List ℕ)) (sized : Sized found) (t : InRange (mem ts cs)) (k : Nodes found a.node_count ns) where
  cpus_64 : s.limits.cpus ≡ 64
  unfolding base_limits rules.with_shortest
  cpus_64 = ap (λ (l : rules.Limits). l.cpus) base

  near : (c : ℕ) → c < s.limits.cpus → c < 64
  near c h = subst (λ (n : ℕ). c < n) cpus_64 h

  link : (x : ℕ) → x < s.limits.threads → Link x
  link x h i = absurd (omega (arith, threads_are m))

  known_link : (x : ℕ) → s.known x ≡ true → Link x
  known_link x e = link x (r.reached.numbered x e)

  limit : lesser a.cpus max_cpu_id ≡ 64
  unfolding limits_in
  limit = uncut a.cpus (sym (ap (λ (l : rules.Limits). l.cpus) m.limits) ∙ cpus_64)

  abbrev Keeps : Request → Type 0
  Keeps q = (used : ℕ) → refusal s (asks q used) ≡ 0 → WrittenInRange found ts cs (obey_def a q used (lent ts cs ns))

  -- 01 to 05
  keeps_declare_cpu : (c : ℕ) → Keeps (declare_cpu c)
  unfolding refusal concerning open_yet cpu_new obey_def changed accepted
  keeps_declare_cpu c used e =
      let new_one = yes 3 (ltb c s.limits.cpus && not (s.topology.declared c)) _ (yes 2 (not s.sealed) _ e).1 in
      let h : c < s.limits.cpus = ltb-true c s.limits.cpus (first_so (ltb c s.limits.cpus) _ new_one.0) in
      record { memory = goes_word ts cs c 72 1 t (near c h) (omega arith) (omega arith) (λ q. absurd (omega arith)); nodes = k }

  keeps_add_node : (p type : ℕ) → Keeps (add_node p type)
  unfolding refusal concerning open_yet at_most node_exists parent_without_cpus node_fits obey_def changed accepted one_node_more nr_nodes
  keeps_add_node p type used e =
      let there = yes 5 _ _ (yes 5 _ _ (yes 2 _ _ e).1).1 in
      let fits = yes 5 _ _ (yes 5 _ _ there.1).1 in
      let room : length s.topology.nodes < s.limits.nodes = ltb-true _ _ fits.0 in
      let count : a.node_count ≡ length s.topology.nodes = m.node_count in
      let more : (a.node_count + 1) % 2 ^ 64 ≡ suc (length s.topology.nodes) = omega (arith, m.few_nodes) in
      record {
        memory = goes_none t;
        nodes = rw (more, count)
            (nodes_grown p type m.tree (ltb-true _ _ there.0) (omega (arith, m.rows, k.as_many)) sized (subst (λ (n : ℕ). Nodes found n ns) count k));
      }

  keeps_place_cpu : (n c : ℕ) → Keeps (place_cpu n c)
  unfolding refusal concerning open_yet cpu_unplaced node_exists obey_def changed accepted nr_nodes
  keeps_place_cpu n c used e =
      let unplaced = yes 3 _ _ (yes 2 _ _ e).1 in
      let there = yes 5 _ _ unplaced.1 in
      let h : c < 64 = near c (declared_in s c (first_so (declared s c) _ unplaced.0)) in
      let count : a.node_count ≡ length s.topology.nodes = m.node_count in
      record {
        memory = goes_word ts cs c 73 n t h (omega arith) (omega arith) (λ q. absurd (omega arith));
        nodes = rw count (nodes_placed n c m.tree (ltb-true _ _ there.0) h (subst (λ (n : ℕ). Nodes found n ns) count k));
      }

  keeps_seal : Keeps seal
  unfolding obey_def changed accepted sealing
  keeps_seal used e = record { memory = goes_none t; nodes = k }

  keeps_set_shortest : (n : ℕ) → Keeps (set_shortest n)
  unfolding obey_def changed accepted with_shortest
  keeps_set_shortest n used e = record { memory = goes_none t; nodes = k }

  -- 10, 11
  keeps_declare_thread : (x class v : ℕ) (pin : Option ℕ) → Keeps (declare_thread x class v pin)
  unfolding refusal concerning sealed_now thread_new obey_def declare_thread_command changed accepted
  keeps_declare_thread x class v pin used e =
      let pinned = pin_in s pin _ (yes 2 _ _ e).1 in
      let new_one = yes 4 _ _ pinned.1 in
      let h : x < s.limits.threads = ltb-true x s.limits.threads (first_so (ltb x s.limits.threads) _ new_one.0) in
      record { memory = goes_record ts cs x _ t (link x h) (tidy_new _ pin (subst (λ (n : ℕ). Under n pin) cpus_64 pinned.0)); nodes = k }

  keeps_set_tick : (n : ℕ) → Keeps (set_tick n)
  unfolding obey_def changed accepted ticked
  keeps_set_tick n used e = record { memory = goes_none t; nodes = k }

  -- 12 to 18
  keeps_schedule_thread : (c x : ℕ) → Keeps (schedule_thread c x)
  unfolding refusal concerning thread_declared obey_def schedule_thread_command ran accepted context_of
  keeps_schedule_thread c x used e =
      let on = runs_below s c _ e in
      let known = yes 4 (s.known x) _ on.1 in
      record { memory = goes_thread (context_of a c) (near c on.0) limit x ns (mem ts cs) t (known_link x known.0); nodes = k }

  keeps_schedule : (c f : ℕ) → Keeps (schedule c f)
  unfolding refusal concerning obey_def schedule_command ran accepted context_of
  keeps_schedule c f used e =
      record { memory = goes_schedule (context_of a c) (near c (runs_below s c _ e).0) limit _ 0 ns (mem ts cs) t; nodes = k }

  keeps_hardtick : (c : ℕ) → Keeps (hardtick c)
  unfolding refusal concerning obey_def hardtick_command ran accepted context_of
  keeps_hardtick c used e =
      record { memory = goes_hardtick (context_of a c) (near c (runs_below s c _ e).0) limit (mem ts cs) t; nodes = k }

  keeps_stattick : (c n : ℕ) → Keeps (stattick c n)
  unfolding refusal concerning obey_def stattick_command ran accepted context_of
  keeps_stattick c n used e =
      record { memory = goes_stattick (context_of a c) (near c (runs_below s c _ e).0) limit n 0 ns (mem ts cs) t; nodes = k }

  keeps_resched : (c : ℕ) → Keeps (resched c)
  unfolding refusal concerning obey_def resched_command ran accepted context_of
  keeps_resched c used e =
      record { memory = goes_resched (context_of a c) (near c (runs_below s c _ e).0) limit ts cs t; nodes = k }

  keeps_maybe_preempt : (c : ℕ) → Keeps (maybe_preempt c)
  unfolding refusal concerning obey_def maybe_preempt_command ran accepted context_of
  keeps_maybe_preempt c used e =
      record { memory = goes_preempt (context_of a c) (near c (runs_below s c _ e).0) limit 0 ns (mem ts cs) t; nodes = k }

  keeps_donate : (c x class v : ℕ) → Keeps (donate c x class v)
  unfolding refusal concerning thread_declared obey_def donate_command ran accepted
  keeps_donate c x class v used e =
      let known = yes 4 (s.known x) _ (runs_below s c _ e).1 in
      record { memory = goes_donated ts cs t x (known_link x known.0) c _ 0; nodes = k }

  -- 19, 1A
  keeps_remove_donation : (x : ℕ) → Keeps (remove_donation x)
  unfolding refusal concerning sealed_now thread_declared obey_def remove_donation_command changed accepted
  keeps_remove_donation x used e =
      let known = yes 4 (s.known x) _ (yes 2 _ _ e).1 in
      record { memory = goes_removed ts cs t x (known_link x known.0); nodes = k }

  keeps_set_critical : (x n : ℕ) → Keeps (set_critical x n)
  unfolding refusal concerning sealed_now thread_declared obey_def set_critical_command changed accepted
  keeps_set_critical x n used e =
      let known = yes 4 (s.known x) _ (yes 2 _ _ e).1 in
      record { memory = goes_critical ts cs t x (known_link x known.0) n; nodes = k }

  obey_confined : (q : Request) → Keeps q
  obey_confined (declare_cpu c) used e = keeps_declare_cpu c used e
  obey_confined (add_node p type) used e = keeps_add_node p type used e
  obey_confined (place_cpu n c) used e = keeps_place_cpu n c used e
  obey_confined seal used e = keeps_seal used e
  obey_confined (set_shortest n) used e = keeps_set_shortest n used e
  obey_confined (declare_thread x class v pin) used e = keeps_declare_thread x class v pin used e
  obey_confined (set_tick n) used e = keeps_set_tick n used e
  obey_confined (schedule_thread c x) used e = keeps_schedule_thread c x used e
  obey_confined (schedule c f) used e = keeps_schedule c f used e
  obey_confined (hardtick c) used e = keeps_hardtick c used e
  obey_confined (stattick c n) used e = keeps_stattick c n used e
  obey_confined (resched c) used e = keeps_resched c used e
  obey_confined (maybe_preempt c) used e = keeps_maybe_preempt c used e
  obey_confined (donate c x class v) used e = keeps_donate c x class v used e
  obey_confined (remove_donation x) used e = keeps_remove_donation x used e
  obey_confined (set_critical x n) used e = keeps_set_critical x n used e

  -- ---- the call: obeyed, or everything as found

  refused_confined : (q : Request) (used n : ℕ) → eqb (refusal_number (refusal_back n)) 0 ≡ false → WrittenInRange found ts cs (numbered_call ts cs ns a q used n)
  unfolding numbered_call refuses
  refused_confined q used n e = rw e (record { memory = goes_none t; nodes = k })

  obeyed_confined : (q : Request) (used n : ℕ) → n ≤ 10 → refusal s (asks q used) ≡ n → WrittenInRange found ts cs (numbered_call ts cs ns a q used n)
  obeyed_confined q used n l e =
      both (eqb (refusal_number (refusal_back n)) 0)
      (λ z. unfold numbered_call in rw z (obey_confined q used (e ∙ sym (number_there n l) ∙ eqb-true _ 0 z)))
      (λ z. refused_confined q used n z)

  read_confined : (q : Reading) → WrittenInRange found ts cs (read_call ts cs ns a q)
  unfolding read_call unread_call refuses thread_in
  read_confined unknown = record { memory = goes_none t; nodes = k }
  read_confined cut_short = record { memory = goes_none t; nodes = k }
  read_confined (asks q used) = obeyed_confined q used _ (omega (arith, refusal_most s (asks q used), refusal_same m r.reached (asks q used))) (sym (refusal_same m r.reached (asks q used)))

  pub command_confined : (bytes : List ℕ) (n at : ℕ) → WrittenInRange found ts cs (command_def n at a bytes (lent ts cs ns))
  command_confined bytes n at =
      subst (WrittenInRange found ts cs) (sym (command_read ts cs ns a bytes n at)) (read_confined (read (limits_of a.wide) (drop at (take n bytes))))
