-- THREADS GO INTO QUEUES AND COME OUT OF THEM: puts on a CPU, takes for a CPU, steals.
use Rattle.std.specs.Prelude.{ℕ, ◌≤◌, ◌<◌, refl, Bool, true, false, cond, not, List, set, eqb, Option, None, Some, is_none, unwrap_or}
use Rattle.std.proofs.Math.Path.{◌≡◌, subst}
use Rattle.std.proofs.Common.{sym, ap, arith}
use Rattle.rules.specs.Line.{Below}
use Rattle.rules.specs.Times as times
use Rattle.rules.specs.Puts.{PutOrTake}
use Rattle.rules.specs.State.{at, Limits, Topology}
use Rattle.rules.proofs.Laws.Steps.{join_in_all, cpus_in, first_in}
use Rattle.rules.specs.Topology.{cpus_of, nearest, nearest_from}
use Rattle.rules.specs.Schedule as sched
use Rattle.rules.specs.Schedule.{World, Got, with_thread}
use Rattle.rules.specs.Waits.{Under}
use Rattle.rules.proofs.Laws.Sound.{alike_queue, Same, same_thread_changed, sound_same, New, Sound, Taken, take_taken}
use Rattle.thread.specs.Thread.{NONE}
use Rattle.thread.specs.Time.{moving_to_queue}
use Rattle.processor.specs.Left.{Left}
use Rattle.records.specs.Left.{Memory}
use Rattle.records.specs.Rq.{record_at, take_def}
use Rattle.represents.specs.World.{Small, most_tick}
use Rattle.represents.proofs.Laws.PutTake.{active_with, TakeShows, shows_take}
use Rattle.represents.specs.Topology.{TopologyRep}
use Rattle.choice_laws.proofs.Memory.{steal_memory}
use Rattle.sched_words.specs.Choose.{steal_from_def}
use Rattle.sched_words.specs.declared.context.Context.{Context}
use Rattle.sched_queues.specs.Queues.{moved_in, schedule_thread_on_cpu_def, moved_for_def, take_from, try_steal_def}
use Rattle.sched_laws.proofs.Words.{shows_moving_to_queue, shows_put, put_counts}
use Rattle.sched_laws.specs.Hardtick.{context}
use Rattle.sched_laws.specs.Queues.{MemoryRep}

-- ---- the CPUs near a CPU are below the limit

near_in : (limits : Limits) (topology : Topology) (o : Option ℕ) → Below limits.cpus (nearest_from limits topology o)
unfolding nearest_from Below
near_in limits topology None = tt
near_in limits topology (Some m) = join_in_all limits.cpus (cpus_of limits topology) _ (cpus_in limits topology)

-- ---- what a take answers

pub nobody_moved : (d : ℕ) (D : Left (Option ℕ) Memory) → D.answer ≡ None → moved_for_def d D ≡ D
unfolding moved_for_def
nobody_moved d D e = ap (λ (a : Option ℕ). cond (is_none a) D (record {
  answer = D.answer;
  memory = record { threads = set D.memory.threads (unwrap_or a NONE) (moving_to_queue (record_at D.memory.threads (unwrap_or a NONE)) d); cpus = D.memory.cpus };
})) e

somebody_moved : (d x : ℕ) (D : Left (Option ℕ) Memory) → D.answer ≡ Some x
    → moved_for_def d D ≡ record { answer = D.answer; memory = record { threads = set D.memory.threads x (moving_to_queue (record_at D.memory.threads x) d); cpus = D.memory.cpus } }
unfolding moved_for_def
somebody_moved d x D e = ap (λ (a : Option ℕ). cond (is_none a) D (record {
  answer = D.answer;
  memory = record { threads = set D.memory.threads (unwrap_or a NONE) (moving_to_queue (record_at D.memory.threads (unwrap_or a NONE)) d); cpus = D.memory.cpus };
})) e

module _ (limits : Limits) (topology : Topology) (tick us : ℕ) (known : ℕ → Bool) (numbered : (x : ℕ) → known x ≡ true → x < limits.threads) (small : Small limits)
    (early : tick ≤ most_tick) (us_in : us < limits.cpus) (H : ℕ → List PutOrTake) where
  abbrev k : Context
  k = context limits tick us

  abbrev pub OK : (ℕ → Bool) → World → Type 0
  OK but w = Sound limits known H but w

  abbrev pub Handed : (ℕ → Bool) → World → Got → Type 0
  Handed but w g = Taken limits topology tick us known numbered H but w g

  -- ---- `schedule_thread_on_cpu`

  module _ {active but : ℕ → Bool} {m : Memory} {w : World} (s : MemoryRep limits topology known active m w) (c x : ℕ) (n : New limits known but w c x) (wakeups : ℕ) where
    pub shows_scheduled : (let d = schedule_thread_on_cpu_def k c x wakeups m in
        MemoryRep limits topology known (at active x false) d.memory (sched.schedule_thread_on_cpu limits topology tick us w c x))
    unfolding schedule_thread_on_cpu_def moved_in context
    shows_scheduled = shows_put limits topology tick us known numbered small early s c x n

    pub counts_scheduled : wakeups ≡ w.wakeups → w.wakeups < NONE → (schedule_thread_on_cpu_def k c x wakeups m).answer ≡ (sched.schedule_thread_on_cpu limits topology tick us w c x).wakeups
    unfolding schedule_thread_on_cpu_def context
    counts_scheduled e h = put_counts limits topology tick us known numbered small early s c x n wakeups e h

  -- ---- `take_a_thread_from_cpu`

  -- what is kept of a take that is for CPU d
  moved_handed : (but : ℕ → Bool) (w : World) (d : ℕ) (o : Option ℕ) (v : World) → Handed but w (record { got = o; world = v }) → Handed but w (sched.moved_for limits topology tick us d o v)
  unfolding sched.moved_for with_thread
  moved_handed but w d None v t = t
  moved_handed but w d (Some x) v t =
      let a : Same limits v (with_thread v x (times.moving_to_queue (v.threads x) d)) = same_thread_changed limits v x _ (alike_queue limits (v.threads x) d) in
      record {
        sound = sound_same a t.sound;
        running = t.running;
        still_free = t.still_free;
        handed_free = t.handed_free;
        handed_known = t.handed_known;
        handed_idle = t.handed_idle;
      }

  pub from_handed : (but : ℕ → Bool) (w : World) (c d : ℕ) → OK but w → Handed but w (sched.take_a_thread_from_cpu limits topology tick us w c d)
  unfolding sched.take_a_thread_from_cpu
  from_handed but w c d s = moved_handed but w d _ _ (take_taken limits topology tick us known numbered H but w c (not (eqb d c)) s)

  moved_shows : {active : ℕ → Bool} (D : Left (Option ℕ) Memory) (o : Option ℕ) (v : World) (d : ℕ) → d < limits.cpus → ((x : ℕ) → o ≡ Some x → known x ≡ true)
      → TakeShows limits topology known active D (record { got = o; world = v }) → TakeShows limits topology known active (moved_for_def d D) (sched.moved_for limits topology tick us d o v)
  unfolding active_with sched.moved_for
  moved_shows {active} D None v d dn h T = subst (λ (E : Left (Option ℕ) Memory). TakeShows limits topology known active E (record { got = None; world = v })) (sym (nobody_moved d D T.answer)) T
  moved_shows {active} D (Some x) v d dn h T =
      subst (λ (E : Left (Option ℕ) Memory). TakeShows limits topology known active E (record { got = Some x; world = with_thread v x (times.moving_to_queue (v.threads x) d) })) (sym (somebody_moved d x D T.answer))
      (record { answer = T.answer; left = shows_moving_to_queue limits topology tick us known numbered small early T.left d dn x (numbered x (h x refl)) })

  module _ {active but : ℕ → Bool} {m : Memory} {w : World} (s : MemoryRep limits topology known active m w) (safe : OK but w) where
    pub shows_taken_from : (c d : ℕ) → c < limits.cpus → d < limits.cpus
        → TakeShows limits topology known active (take_from c d m) (sched.take_a_thread_from_cpu limits topology tick us w c d)
    unfolding take_from sched.take_a_thread_from_cpu
    shows_taken_from c d cn dn =
        moved_shows (take_def c (not (eqb d c)) m) _ _ d dn (take_taken limits topology tick us known numbered H but w c (not (eqb d c)) safe).handed_known
        (shows_take limits topology tick us known numbered small H s safe c cn (not (eqb d c)))

    -- ---- `try_steal`

    steals : (o : Option ℕ) → Under limits.cpus o
        → TakeShows limits topology known active (cond (is_none o) (record { answer = None; memory = m }) (take_from (unwrap_or o NONE) us m)) (sched.steal_from limits topology tick us w o)
    unfolding sched.steal_from active_with Under
    steals None u = record { answer = refl; left = s }
    steals (Some c) u = shows_taken_from c us u us_in

    pub shows_stolen : (ns : List (List ℕ)) → TopologyRep limits ns topology → (node : ℕ) → topology.placed us ≡ Some node
        → TakeShows limits topology known active (try_steal_def k ns m) (sched.try_steal limits topology tick us w)
    unfolding try_steal_def steal_from_def context sched.try_steal
    shows_stolen ns tree node e =
        subst (λ (o : Option ℕ). TakeShows limits topology known active
        (cond (is_none o) (record { answer = None; memory = m }) (take_from (unwrap_or o NONE) us m)) (sched.try_steal limits topology tick us w))
        (sym (steal_memory s small us us_in ns tree tick node e))
        (steals (sched.choose_cpu_steal_via_topo limits topology tick us w) chosen_in)
      where
        chosen_in : Under limits.cpus (sched.choose_cpu_steal_via_topo limits topology tick us w)
        chosen_in = unfold sched.choose_cpu_steal_via_topo nearest in first_in limits.cpus _ _ (near_in limits topology (topology.placed us))

    steal_handed : (o : Option ℕ) → Handed but w (sched.steal_from limits topology tick us w o)
    unfolding sched.steal_from
    steal_handed None = record {
      sound = safe;
      running = λ c. refl;
      still_free = λ x f. f;
      handed_free = λ x g. (λ i. cc);
      handed_known = λ x g. cc;
      handed_idle = λ x i g b r. let z : ◌≡◌ {A = ℕ} 0 1 = cc in omega arith;
    }
    steal_handed (Some c) = from_handed but w c us safe

    pub stolen_handed : Handed but w (sched.try_steal limits topology tick us w)
    unfolding sched.try_steal
    stolen_handed = steal_handed (sched.choose_cpu_steal_via_topo limits topology tick us w)
