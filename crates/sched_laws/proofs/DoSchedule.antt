-- `do_schedule` AND `schedule` OVER RECORDS AND WORDS ARE THE RULES'.
use Rattle.std.specs.Prelude.{ℕ, ◌≤◌, ◌<◌, ◌≡◌, ◌≢◌, Bool, true, false, cond, set, eqb, ltb, Option, None, Some, is_some}
use Rattle.std.proofs.Math.Path.{refl, sym, ap, subst}
use Rattle.std.proofs.Common.{◌∙◌, true≢false, eqb-true, arith}
use Rattle.std.proofs.lemmas.Bool.{false≢true, eqb-false}
use mathlib.Core.List.{List, [], ◌∷◌}
use Rattle.rules.specs.declared.choice.Searched.{Searched}
use Rattle.rules.specs.declared.choice.Best.{Best}
use Rattle.rules.proofs.Laws.Line.{both}
use Rattle.rules.specs.Times as times
use Rattle.rules.specs.Times.{effective_priority, either}
use Rattle.rules.specs.Puts.{PutOrTake}
use Rattle.rules.specs.State.{at, Limits, Topology}
use Rattle.rules.specs.Topology.{visited}
use Rattle.rules.specs.Choice.{lower, find_cpu}
use Rattle.rules.specs.Schedule as sched
use Rattle.rules.specs.Schedule.{World, Got}
use Rattle.rules.proofs.Laws.Sound.{at_here, at_there, Sound}
use Rattle.rules.specs.Waits.{Under, Free}
use Rattle.rules.proofs.Laws.Steps.{nobody_but}
use Rattle.thread.specs.declared.Thread.{Thread}
use Rattle.thread.specs.declared.place.Place.TheVariants as place
use Rattle.thread.specs.declared.time.Preferred.{Preferred}
use Rattle.thread.specs.declared.time.Preferred.TheVariants as preferred
use Rattle.thread.specs.Reads.{reads}
use Rattle.thread.specs.Thread.{BLOCKED, with_place}
use Rattle.thread.specs.Place.{place_in, reads_place}
use Rattle.thread.specs.Time.{preferred_cpu, chosen, reads_preferred_cpu}
use Rattle.records.specs.Rq.{record_at}
use Rattle.represents.specs.World.{place_at, Places, Small, WorldRep, most_tick}
use Rattle.represents.proofs.Laws.Frames.{shows_record, in_records, places_moved, shows_same_thread}
use Rattle.represents.proofs.Laws.Records.{field_set}
use Rattle.represents.specs.Topology.{TopologyRep}
use Rattle.choice.specs.Select as choice
use Rattle.choice_laws.proofs.Select.{select_memory}
use Rattle.sched_words.specs.Choose.{preferred_of_def, select_for, selected_for}
use Rattle.sched_queues.specs.Queues.{block_def}
use Rattle.sched_laws.specs.Switch.{Settled, no_one}
use Rattle.sched_laws.specs.DoSchedule.{is_found}

lower_found : (b : Option Best) (s c : ℕ) → is_found (lower b s c) ≡ true
unfolding lower is_found
lower_found None s c = refl
lower_found (Some b) s c = both (ltb s b.score) (λ e. rw e) (λ e. rw e)

find_keeps : (us : ℕ) (skip : ℕ → Bool) (load : ℕ → ℕ) (l : List ℕ) (f : Searched) → is_found f.found ≡ true → is_found (find_cpu us skip load l f).found ≡ true
unfolding find_cpu
find_keeps us skip load [] f h = h
find_keeps us skip load (c ∷ l) f h =
    both (skip c) (λ e. rw e (find_keeps us skip load l f h)) (λ e. rw e (find_keeps us skip load l _ (lower_found f.found _ c)))

find_finds : (us : ℕ) (skip : ℕ → Bool) (load : ℕ → ℕ) (l : List ℕ) (f : Searched) → l ≢ [] → ((c : ℕ) → skip c ≡ false) → is_found (find_cpu us skip load l f).found ≡ true
unfolding find_cpu
find_finds us skip load [] f n h = absurd (n refl)
find_finds us skip load (c ∷ l) f n h = rw (h c) (find_keeps us skip load l _ (lower_found f.found _ c))

-- ---- the thread running is on its way

pub unsettle : (us x : ℕ) (active : ℕ → Bool) (w v : World) → (w.cpus us).running ≡ Some x → ((c d y : ℕ) → (w.cpus c).running ≡ Some y → (w.cpus d).running ≡ Some y → c ≡ d)
    → ((c : ℕ) → (v.cpus c).running ≡ (w.cpus c).running) → Settled no_one active w → Settled (λ c. eqb c us) (at active x false) v
unsettle us x active w v r one f s = record {
  runs = λ c y b q.
      let n : y ≢ x = λ e. eqb-false c us b (one c us x (sym (f c) ∙ q ∙ ap Some e) r) in
      at_there active x false y n ∙ s.runs c y refl (sym (f c) ∙ q);
  others = λ y h. both (eqb y x)
      (λ e. rw (eqb-true y x e) (at_here active x false))
      (λ e. at_there active x false y (eqb-false y x e)
      ∙ s.others y (λ c b q. both (eqb c us)
      (λ p. let z : Some x ≡ Some y = sym r ∙ ap (λ d. (w.cpus d).running) (sym (eqb-true c us p)) ∙ q in let m : x ≡ y = cc in eqb-false y x e (sym m))
      (λ p. h c p (f c ∙ q))));
}

-- ---- the CPU preferred

preferred_as : (p : Option Preferred) → (preferred_of_def p) ≡ chosen p
unfolding preferred_of_def chosen
preferred_as (Some (preferred.Pinned c)) = refl
preferred_as (Some (preferred.Last c)) = refl
preferred_as None = refl

preferred_reads : (t : Thread) → (preferred_of_def (preferred_cpu t)) ≡ times.preferred_cpu (reads t)
preferred_reads t = preferred_as (preferred_cpu t) ∙ reads_preferred_cpu t

either_in : (n : ℕ) (a b : Option ℕ) → Under n a → Under n b → (c : ℕ) → either a b ≡ Some c → c < n
unfolding either Under
either_in n None None u v c e = let z : ◌≡◌ {A = ℕ} 0 1 = cc in absurd (omega arith)
either_in n None (Some d) u v c e = let z : d ≡ c = cc in rw (← z) v
either_in n (Some d) b u v c e = let z : d ≡ c = cc in rw (← z) u

module _ (limits : Limits) (topology : Topology) (tick us : ℕ) (known : ℕ → Bool) (numbered : (x : ℕ) → known x ≡ true → x < limits.threads) (small : Small limits)
    (early : tick ≤ most_tick) (us_in : us < limits.cpus) (H : ℕ → List PutOrTake) (ns : List (List ℕ)) (tree : TopologyRep limits ns topology) (node : ℕ) (put_on : topology.placed us ≡ Some node) where
  abbrev OK : (ℕ → Bool) → World → Type 0
  OK but w = Sound limits known H but w

  -- ---- a choice finds a CPU, since there is one

  module _ (crowd : visited limits topology ≢ []) where
    cpu_found : (b : Option Best) → is_found b ≡ true → is_some (sched.cpu_of limits topology tick us b) ≡ true
    unfolding is_found sched.cpu_of
    cpu_found None e = e
    cpu_found (Some b) e = refl

    any_finds : (w : World) → is_some (sched.find_cpu_from_topo limits topology tick us w None).got ≡ true
    unfolding sched.find_cpu_from_topo sched.skips
    any_finds w = cpu_found _ (find_finds us _ _ (visited limits topology) _ crowd (λ c. refl))

    or_any_finds : (w : World) (avoid o : Option ℕ) → is_some (sched.found_or_any limits topology tick us w avoid o).got ≡ true
    unfolding sched.found_or_any
    or_any_finds w avoid None = any_finds w
    or_any_finds w avoid (Some c) = both (sched.same_cpu c avoid) (λ e. rw e (any_finds w)) (λ e. rw e)

    select_from_finds : (w : World) (x : ℕ) (avoid o : Option ℕ) → is_some (sched.select_from limits topology tick us w x avoid o).got ≡ true
    unfolding sched.select_from
    select_from_finds w x avoid None = or_any_finds _ avoid _
    select_from_finds w x avoid (Some c) = refl

    pub select_finds : (w : World) (x : ℕ) (avoid : Option ℕ) → is_some (sched.select_cpu limits topology tick us w x avoid).got ≡ true
    unfolding sched.select_cpu
    select_finds w x avoid = select_from_finds w x avoid _

  -- ---- the thread running is blocked

  module _ {active : ℕ → Bool} {ts : List Thread} {cs : List (List ℕ)} {w : World} (s : WorldRep limits topology known active ts cs w) (x : ℕ) (is_known : known x ≡ true) (free : Free w x) where
    abbrev t : Thread
    t = with_place (record_at ts x) BLOCKED

    blocked_at : (z : ℕ) → place_at (set ts x t) z ≡ cond (eqb z x) place.Blocked (place_at ts z)
    unfolding place_in with_place
    blocked_at z = field_set (λ (u : Thread). place_in u.place) ts x t z (in_records s x (numbered x is_known))

    block_places : Places limits.threads known (at active x false) (set ts x t) w
    block_places =
        places_moved x place.Blocked blocked_at is_known (λ z h. refl) (λ z h. at_there active x false z h) (λ d z h. refl) (λ d h. absurd (true≢false (sym h ∙ free d)))
        (λ h. absurd (false≢true (sym (at_here active x false) ∙ h))) (λ a f. refl) s.places

    pub shows_blocked : WorldRep limits topology known (at active x false) (block_def x ts) cs w
    unfolding block_def with_place
    shows_blocked =
        let h = numbered x is_known in
        shows_same_thread w x
        (shows_record s x t (w.threads x) h (reads_place (record_at ts x) BLOCKED ∙ s.threads x h) (λ d e. (refl, (refl, refl))) (s.queue_cpus x h) block_places)

  -- ---- where the thread running goes back into a queue

  module _ {active : ℕ → Bool} {ts : List Thread} {cs : List (List ℕ)} {w : World} (s : WorldRep limits topology known active ts cs w) (safe : OK nobody_but w) where
    pref_in : (x c : ℕ) → times.preferred_cpu (w.threads x) ≡ Some c → c < limits.cpus
    unfolding times.preferred_cpu
    pref_in x c e = either_in limits.cpus (w.threads x).pin (w.threads x).last (safe.mild x).pin (safe.mild x).last c e

    -- `select_cpu` for thread x
    module _ (x : ℕ) (below : x < limits.threads) (avoid : Option ℕ) where
      abbrev G : Got
      G = sched.select_cpu limits topology tick us w x avoid

      pub select_shown : select_for cs ns us limits.cpus (record_at ts x) avoid ≡ G.got
      unfolding select_for
      select_shown =
          ap (λ (o : Option ℕ). choice.select_cpu cs ns us limits.cpus o (effective_priority (reads (record_at ts x))) avoid) (preferred_reads (record_at ts x))
          ∙ ap (λ (t : times.Thread). choice.select_cpu cs ns us limits.cpus (times.preferred_cpu t) (effective_priority t) avoid) (s.threads x below)
          ∙ sym (select_memory s small us us_in ns tree tick x avoid (pref_in x)).0

      pub shows_selected : WorldRep limits topology known active ts (selected_for cs ns us limits.cpus (record_at ts x) avoid) G.world
      unfolding selected_for
      shows_selected =
          subst (λ (cs' : List (List ℕ)). WorldRep limits topology known active ts cs' G.world)
          (sym (ap (λ (o : Option ℕ). choice.after_select cs ns us limits.cpus o (effective_priority (reads (record_at ts x))) avoid) (preferred_reads (record_at ts x))
          ∙ ap (λ (t : times.Thread). choice.after_select cs ns us limits.cpus (times.preferred_cpu t) (effective_priority t) avoid) (s.threads x below)))
          (select_memory s small us us_in ns tree tick x avoid (pref_in x)).1
