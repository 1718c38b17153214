-- THE NEXT THREAD OF A CPU: `switch_to` and what `do_schedule` does once the thread running is back in a queue or blocked.
use Rattle.std.specs.Prelude.{ℕ, ◌≤◌, ◌<◌, ◌≡◌, ◌≢◌, Bool, true, cond, List, eqb, Option, None, Some, is_none, unwrap_or}
use Rattle.std.proofs.Math.Path.{refl, ap, subst}
use Rattle.std.proofs.Common.{sym, ◌∙◌, eqb-true, eq-eqb, ne_eqb, arith}
use Rattle.std.proofs.Math.Bool.{false}
use Rattle.std.proofs.lemmas.Bool.{eqb-false}
use Rattle.rules.proofs.Laws.Line.{both}
use Rattle.rules.specs.Puts.{PutOrTake}
use Rattle.rules.specs.State.{at, Limits, Topology, Cpu}
use Rattle.rules.specs.Schedule as sched
use Rattle.rules.specs.Schedule.{World, Got, with_cpu, with_thread, with_running}
use Rattle.rules.proofs.Laws.Sound.{at_here, at_there, Sound, Taken, take_taken}
use Rattle.rules.proofs.Laws.Steps.{same_cpu_is}
use Rattle.thread.specs.declared.Thread.{Thread}
use Rattle.thread.specs.Thread.{NONE}
use Rattle.records.specs.Rq.{take_def}
use Rattle.represents.specs.World.{number_or_none, Small, WorldRep, most_tick}
use Rattle.represents.proofs.Laws.PutTake.{active_with, TakeShows, shows_take}
use Rattle.represents.specs.Topology.{TopologyRep}
use Rattle.sched_words.specs.Running.{ran_idle_def}
use Rattle.sched_words.specs.declared.context.Context.{Context}
use Rattle.processor.specs.Left.{Left}
use Rattle.records.specs.Left.{mem, Memory}
use Rattle.sched_queues.specs.Queues.{try_steal_def}
use Rattle.sched.specs.Schedule.{switch_to_def, run_taken_def, idle_unless, run_stolen_def, pick_stolen, pick_taken, pick_next_def}
use Rattle.sched_laws.proofs.Words.{shows_ran_idle, shows_switched}
use Rattle.sched_laws.specs.Hardtick.{context}
use Rattle.sched_laws.proofs.Queues.{shows_stolen, stolen_handed}
use Rattle.sched_laws.specs.Switch.{Ends, Settled, no_one}

-- CPU us runs o now
settle : (us : ℕ) (active : ℕ → Bool) (w v : World) (o : Option ℕ) → (v.cpus us).running ≡ o → ((c : ℕ) → c ≢ us → (v.cpus c).running ≡ (w.cpus c).running)
    → Settled (λ c. eqb c us) active w → Settled no_one (active_with active o) v
unfolding active_with
settle us active w v None e f s = record {
  runs = λ c x b r. both (eqb c us)
      (λ p. let z : None ≡ Some x = sym e ∙ ap (λ d. (v.cpus d).running) (sym (eqb-true c us p)) ∙ r in cc)
      (λ p. s.runs c x p (sym (f c (eqb-false c us p)) ∙ r));
  others = λ x h. s.others x (λ c b r. h c refl (f c (eqb-false c us b) ∙ r));
}
settle us active w v (Some y) e f s = record {
  runs = λ c x b r. both (eqb x y) (λ q. rw (eqb-true x y q) (at_here active y true))
      (λ q. at_there active y true x (eqb-false x y q) ∙ both (eqb c us)
      (λ p. let z : Some y ≡ Some x = sym e ∙ ap (λ d. (v.cpus d).running) (sym (eqb-true c us p)) ∙ r in let n : y ≡ x = cc in absurd (eqb-false x y q (sym n)))
      (λ p. s.runs c x p (sym (f c (eqb-false c us p)) ∙ r)));
  others = λ x h.
      let n : x ≢ y = λ q. h us refl (e ∙ ap Some (sym q)) in
      at_there active y true x n ∙ s.others x (λ c b r. h c refl (f c (eqb-false c us b) ∙ r));
}

-- what is done with what a take answered

stolen_some : (ts : List Thread) (cs : List (List ℕ)) (us cur y : ℕ) → run_stolen_def us cur (Some y) (mem ts cs) ≡ switch_to_def us y (mem ts cs)
unfolding run_stolen_def
stolen_some ts cs us cur y = refl

stolen_idle : (ts : List Thread) (cs : List (List ℕ)) (us : ℕ) → run_stolen_def us NONE None (mem ts cs) ≡ record { threads = ts; cpus = cs }
unfolding run_stolen_def idle_unless
stolen_idle ts cs us = refl

stolen_none : (ts : List Thread) (cs : List (List ℕ)) (us x : ℕ) → x < NONE → run_stolen_def us x None (mem ts cs) ≡ record { threads = ts; cpus = ran_idle_def cs us }
unfolding run_stolen_def idle_unless
stolen_none ts cs us x h = rw (ne_eqb x NONE (λ e. omega arith))

picked_some : (ns : List (List ℕ)) (k : Context) (cur y : ℕ) (D : Left (Option ℕ) Memory) → D.answer ≡ Some y → pick_taken k cur ns D ≡ run_taken_def k.us cur y D.memory
unfolding pick_taken
picked_some ns k cur y D e =
    ap (λ (a : Option ℕ). cond (is_none a) (pick_stolen k cur (try_steal_def k ns D.memory)) (run_taken_def k.us cur (unwrap_or a NONE) D.memory)) e

picked_none : (ns : List (List ℕ)) (k : Context) (cur : ℕ) (D : Left (Option ℕ) Memory) → D.answer ≡ None → pick_taken k cur ns D ≡ pick_stolen k cur (try_steal_def k ns D.memory)
unfolding pick_taken
picked_none ns k cur D e =
    ap (λ (a : Option ℕ). cond (is_none a) (pick_stolen k cur (try_steal_def k ns D.memory)) (run_taken_def k.us cur (unwrap_or a NONE) D.memory)) e

same_thread : (y : ℕ) (o : Option ℕ) → y < NONE → eqb y (number_or_none o) ≡ sched.same_cpu y o
unfolding number_or_none sched.same_cpu
same_thread y None h = ne_eqb y NONE (λ e. omega arith)
same_thread y (Some z) h = both (eqb z y) (λ e. rw e (eq-eqb y z (sym (eqb-true z y e)))) (λ e. rw e (ne_eqb y z (λ q. eqb-false z y e (sym q))))

no_number : number_or_none None ≡ NONE
unfolding number_or_none
no_number = refl

pub some_number : (x : ℕ) → number_or_none (Some x) ≡ x
unfolding number_or_none
some_number x = refl

module _ (limits : Limits) (topology : Topology) (tick us : ℕ) (known : ℕ → Bool) (numbered : (x : ℕ) → known x ≡ true → x < limits.threads) (small : Small limits)
    (early : tick ≤ most_tick) (us_in : us < limits.cpus) (H : ℕ → List PutOrTake) (ns : List (List ℕ)) (tree : TopologyRep limits ns topology) (node : ℕ) (put_on : topology.placed us ≡ Some node) where
  abbrev k : Context
  k = context limits tick us

  abbrev only_us : ℕ → Bool
  only_us c = eqb c us

  abbrev Picked : Memory → World → Type 0
  Picked m v = Ends limits topology known m.threads m.cpus v

  switched_here : (w : World) (o : Option ℕ) → ((sched.switch_to limits topology tick us w o).cpus us).running ≡ o
  unfolding sched.switch_to sched.activated with_cpu with_thread with_running
  switched_here w None = ap (λ (p : Cpu). p.running) (at_here w.cpus us _)
  switched_here w (Some x) = ap (λ (p : Cpu). p.running) (at_here w.cpus us _)

  switched_there : (w : World) (o : Option ℕ) (c : ℕ) → c ≢ us → ((sched.switch_to limits topology tick us w o).cpus c).running ≡ (w.cpus c).running
  unfolding sched.switch_to sched.activated with_cpu with_thread
  switched_there w None c n = ap (λ (p : Cpu). p.running) (at_there w.cpus us _ c n)
  switched_there w (Some x) c n = ap (λ (p : Cpu). p.running) (at_there w.cpus us _ c n)

  module _ {active : ℕ → Bool} {w : World} (st : Settled only_us active w) where
    -- thread y, which was taken, is switched to
    to_thread : (ts : List Thread) (cs : List (List ℕ)) (v : World) (y : ℕ) → known y ≡ true → ((c : ℕ) → (v.cpus c).running ≡ (w.cpus c).running)
        → WorldRep limits topology known (at active y true) ts cs v → Picked (switch_to_def us y (mem ts cs)) (sched.switch_to limits topology tick us v (Some y))
    unfolding switch_to_def active_with
    to_thread ts cs v y h f s = record {
      active = at active y true;
      shows = shows_switched limits topology tick us known numbered small early s us_in y (numbered y h);
      settled = settle us active w _ (Some y) (switched_here v (Some y)) (λ c n. switched_there v (Some y) c n ∙ f c) st;
    }

    -- a steal answered
    stolen : (D : Left (Option ℕ) Memory) (o cur : Option ℕ) (v : World) → (w.cpus us).running ≡ cur → ((c : ℕ) → (v.cpus c).running ≡ (w.cpus c).running) → ((x : ℕ) → o ≡ Some x → known x ≡ true)
        → TakeShows limits topology known active D (record { got = o; world = v }) → ((x : ℕ) → cur ≡ Some x → x < NONE)
        → Picked (pick_stolen k (number_or_none cur) D) (sched.run_stolen limits topology tick us v cur o)
    unfolding pick_stolen sched.run_stolen active_with context
    stolen D (Some y) cur v r f h T l =
        subst (λ (m : Memory). Picked m (sched.switch_to limits topology tick us v (Some y)))
        (sym (ap (λ (a : Option ℕ). run_stolen_def us (number_or_none cur) a D.memory) T.answer ∙ stolen_some D.memory.threads D.memory.cpus us (number_or_none cur) y))
        (to_thread D.memory.threads D.memory.cpus v y (h y refl) f T.left)
    stolen D None None v r f h T l =
        subst (λ (m : Memory). Picked m v)
        (sym (ap (λ (a : Option ℕ). run_stolen_def us (number_or_none None) a D.memory) T.answer ∙ ap (λ n. run_stolen_def us n None D.memory) no_number ∙ stolen_idle D.memory.threads D.memory.cpus us))
        (record { active = active; shows = T.left; settled = settle us active w v None (f us ∙ r) (λ c n. f c) st })
    stolen D None (Some x) v r f h T l =
        subst (λ (m : Memory). Picked m (sched.switch_to limits topology tick us v None))
        (sym (ap (λ (a : Option ℕ). run_stolen_def us (number_or_none (Some x)) a D.memory) T.answer ∙ ap (λ n. run_stolen_def us n None D.memory) (some_number x) ∙ stolen_none D.memory.threads D.memory.cpus us x (l x refl)))
        (record {
          active = active;
          shows = shows_ran_idle limits topology tick us known numbered small early T.left us_in;
          settled = settle us active w _ None (switched_here v None) (λ c n. switched_there v None c n ∙ f c) st;
        })

    module _ {ts : List Thread} {cs : List (List ℕ)} (s : WorldRep limits topology known active ts cs w) (safe : Sound limits known H only_us w) where
      -- a take of the own queue answered
      own : (D : Left (Option ℕ) Memory) (o cur : Option ℕ) (v : World) → (w.cpus us).running ≡ cur → Taken limits topology tick us known numbered H only_us w (record { got = o; world = v })
          → TakeShows limits topology known active D (record { got = o; world = v }) → ((x : ℕ) → cur ≡ Some x → x < NONE)
          → Picked (pick_taken k (number_or_none cur) ns D) (sched.run_taken limits topology tick us v cur o)
      unfolding sched.run_taken active_with context run_taken_def
      own D (Some y) cur v r t T l =
          let yn : y < NONE = omega (arith, numbered y (t.handed_known y refl), small.threads) in
          subst (λ (m : Memory). Picked m (cond (sched.same_cpu y cur) v (sched.switch_to limits topology tick us v (Some y))))
          (sym (picked_some ns k (number_or_none cur) y D T.answer))
          (both (sched.same_cpu y cur)
          (λ e. rw (same_thread y cur yn, e) (record { active = at active y true; shows = T.left; settled = settle us active w v (Some y) (t.running us ∙ r ∙ same_cpu_is y cur e) (λ c n. t.running c) st }))
          (λ e. rw (same_thread y cur yn, e) (to_thread D.memory.threads D.memory.cpus v y (t.handed_known y refl) t.running T.left)))
      own D None cur v r t T l =
          let g : Got = sched.try_steal limits topology tick us v in
          let h = stolen_handed limits topology tick us known numbered small early us_in H T.left t.sound in
          subst (λ (m : Memory). Picked m (sched.run_stolen limits topology tick us g.world cur g.got))
          (sym (picked_none ns k (number_or_none cur) D T.answer))
          (stolen (try_steal_def k ns D.memory) g.got cur g.world r (λ c. h.running c ∙ t.running c) h.handed_known
          (shows_stolen limits topology tick us known numbered small early us_in H T.left t.sound ns tree node put_on) l)

      -- PICK NEXT
      pub shows_picked : Picked (pick_next_def k (number_or_none (w.cpus us).running) ns (mem ts cs)) (sched.pick_next limits topology tick us w)
      unfolding pick_next_def sched.pick_next context
      shows_picked =
          own (take_def us false (mem ts cs)) _ (w.cpus us).running _ refl (take_taken limits topology tick us known numbered H only_us w us false safe)
          (shows_take limits topology tick us known numbered small H s safe us us_in false)
          (λ x e. omega (arith, numbered x (safe.runs us x e).1, small.threads))
