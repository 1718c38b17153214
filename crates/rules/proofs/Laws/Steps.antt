-- Every function of Schedule.antt keeps what Sound.antt says.
use Prim.Native.Nat.{ℕ, zero, suc, ◌+◌, ◌-◌, ◌%◌, ◌≤◌, ◌<◌}
use Rattle.std.specs.Prelude.{◌≡◌, ◌≢◌, Bool, cond, ◌&&◌, ◌||◌, List, [], ◌∷◌, ◌++◌, eqb, Option, None, Some}
use Rattle.std.proofs.Math.Path.{refl, sym, ap}
use Rattle.std.proofs.Common.{◌∙◌, arith}
use Rattle.std.proofs.Math.Bool.{true, false, not}
use Rattle.std.proofs.lemmas.Bool.{false≢true}
use Rattle.std.proofs.lemmas.Option.{none-some}
use Rattle.std.proofs.Math.Dec.{ltb}
use borrow.Author.Tests.{eqb-true, eqb-false, ne_eqb}
use Rattle.rules.specs.declared.choice.Searched.{Searched}
use Rattle.rules.specs.declared.choice.Pair.{Pair}
use Rattle.rules.specs.declared.choice.Extremes.{Extremes}
use Rattle.rules.specs.declared.choice.Best.{Best}
use Rattle.rules.specs.declared.Priority.{Priority}
use Rattle.rules.specs.Line.{has, Below}
use Rattle.rules.proofs.Laws.Line.{both, of_either}
use Rattle.rules.specs.Priority.{nr_values, less, donation_accepted}
use Rattle.rules.specs.Times.{Thread, either, preferred_cpu, effective_priority, moving_to_queue, donated_to}
use Rattle.rules.specs.Queue.{Queue, order, load}
use Rattle.rules.specs.Puts.{PutOrTake}
use Rattle.rules.specs.Draw.{next_state, draw}
use Rattle.rules.specs.State.{those_below, join_all, Limits, Topology, Cpu}
use Rattle.rules.specs.Topology.{leaf, children, cpus_of, visits, visited}
use Rattle.rules.specs.Choice.{lower, find_cpu, first_that, weigh, extremes, pair_of, choose_cpu_balance}
use Rattle.rules.specs.Schedule.{World, Got, Balancing, Flags, with_cpu, with_thread, with_running, with_draws, with_preempt, set_rebalance, with_rebalance_time, with_ticks, same_cpu}
use Rattle.rules.specs.Schedule as sched
use Rattle.rules.specs.Waits.{Under, waits, Free}
use Rattle.rules.proofs.Laws.Sound.{Valued, Mild, alike_queue, alike_active, alike_reset, alike_paid, alike_donated, at_here, at_there, at_keeps, Sound, Same, same_self, same_then, same_free}
use Rattle.rules.proofs.Laws.Sound.{same_cpu_changed, same_thread_changed, same_wakeup, sound_same, New, sound_insert, Taken, take_taken, sound_clock}

-- ---- the CPUs that a search can find

pub below_append : (n : ℕ) (l m : List ℕ) → Below n l → Below n m → Below n (l ++ m)
unfolding Below
below_append n [] m b c = c
below_append n (x ∷ l) m b c = (b.0, below_append n l m b.1 c)

pub those_in : (n k : ℕ) (test : ℕ → Bool) → k ≤ n → Below n (those_below k test)
unfolding those_below Below
those_in n zero test h = tt
those_in n (suc k) test h =
    below_append n (those_below k test) _ (those_in n k test (omega arith)) (both (test k) (λ e. rw e (h, tt)) (λ e. rw e tt))

pub join_in_all : (n : ℕ) (f : ℕ → List ℕ) (l : List ℕ) → ((x : ℕ) → Below n (f x)) → Below n (join_all f l)
unfolding join_all Below
join_in_all n f [] h = tt
join_in_all n f (x ∷ l) h = below_append n (f x) _ (h x) (join_in_all n f l h)

unfoldable pub BestUnder : ℕ → Option Best → Type 0
BestUnder n None = Unit
BestUnder n (Some b) = b.cpu < n

lower_in : (n : ℕ) (b : Option Best) (s c : ℕ) → BestUnder n b → c < n → BestUnder n (lower b s c)
unfolding lower BestUnder
lower_in n None s c b h = h
lower_in n (Some b0) s c b h = both (ltb s b0.score) (λ e. rw e h) (λ e. rw e b)

pub find_in : (n us : ℕ) (skip : ℕ → Bool) (load : ℕ → ℕ) (l : List ℕ) (f : Searched) → Below n l → BestUnder n f.found → BestUnder n (find_cpu us skip load l f).found
unfolding find_cpu Below
find_in n us skip load [] f b h = h
find_in n us skip load (c ∷ l) f b h =
    both (skip c)
    (λ e. rw e (find_in n us skip load l f b.1 h))
    (λ e. rw e (find_in n us skip load l _ b.1 (lower_in n f.found _ c h b.0)))

pub first_in : (n : ℕ) (test : ℕ → Bool) (l : List ℕ) → Below n l → Under n (first_that test l)
unfolding first_that Below Under
first_in n test [] b = tt
first_in n test (c ∷ l) b = both (test c) (λ e. rw e b.0) (λ e. rw e (first_in n test l b.1))

-- the lowest so far
weigh_lowest : (n : ℕ) (e : Extremes) (s c d : ℕ) → c < n → BestUnder n e.lowest → BestUnder n (weigh e s c d).lowest
unfolding weigh
weigh_lowest n e s c d h b = both (ltb e.highest_score s) (λ t. rw t b) (λ t. rw t (lower_in n e.lowest s c b h))

extremes_lowest : (n us : ℕ) (allowed : ℕ → Bool) (load : ℕ → ℕ) (l : List ℕ) (e : Extremes) → Below n l → BestUnder n e.lowest → BestUnder n (extremes us allowed load l e).lowest
unfolding extremes Below
extremes_lowest n us allowed load [] e b h = h
extremes_lowest n us allowed load (c ∷ l) e b h =
    both (allowed c)
    (λ t. rw t (extremes_lowest n us allowed load l _ b.1 (weigh_lowest n e _ c _ b.0 h)))
    (λ t. rw t (extremes_lowest n us allowed load l e b.1 h))

-- both so far
record Within (n : ℕ) (e : Extremes) : Type 0 where
  high : e.highest < n
  low : BestUnder n e.lowest

weigh_in : (n : ℕ) (e : Extremes) (s c d : ℕ) → c < n → Within n e → Within n (weigh e s c d)
weigh_in n e s c d h b = record { high = unfold weigh in both (ltb e.highest_score s) (λ t. rw t h) (λ t. rw t b.high); low = weigh_lowest n e s c d h b.low }

extremes_in : (n us : ℕ) (allowed : ℕ → Bool) (load : ℕ → ℕ) (l : List ℕ) (e : Extremes) → Below n l → Within n e → Within n (extremes us allowed load l e)
unfolding extremes Below
extremes_in n us allowed load [] e b h = h
extremes_in n us allowed load (c ∷ l) e b h =
    both (allowed c)
    (λ t. rw t (extremes_in n us allowed load l _ b.1 (weigh_in n e _ c _ b.0 h)))
    (λ t. rw t (extremes_in n us allowed load l e b.1 h))

-- the CPU to which a thread moves, and both
unfoldable RecipientUnder : ℕ → Option Pair → Type 0
RecipientUnder n None = Unit
RecipientUnder n (Some p) = p.recipient < n

pair_recipient : (n h : ℕ) (b : Option Best) → BestUnder n b → RecipientUnder n (pair_of h b)
unfolding pair_of BestUnder RecipientUnder
pair_recipient n h None b = tt
pair_recipient n h (Some b0) b = both (eqb b0.cpu h) (λ e. rw e tt) (λ e. rw e b)

unfoldable pub PairUnder : ℕ → Option Pair → Type 0
PairUnder n None = Unit
PairUnder n (Some p) = (p.donor < n) × (p.recipient < n)

pair_in : (n h : ℕ) (b : Option Best) → h < n → BestUnder n b → PairUnder n (pair_of h b)
unfolding pair_of BestUnder PairUnder
pair_in n h None l b = tt
pair_in n h (Some b0) l b = both (eqb b0.cpu h) (λ e. rw e tt) (λ e. rw e (l, b))

-- both are of the list; over an empty one there is none
pub choose_in : (n us : ℕ) (allowed : ℕ → Bool) (load : ℕ → ℕ) (l : List ℕ) (d : ℕ) → Below n l → PairUnder n (choose_cpu_balance us allowed load l d).found
unfolding choose_cpu_balance BestUnder Below
choose_in n us allowed load [] d b = unfold extremes pair_of PairUnder in tt
choose_in n us allowed load (c ∷ l) d b =
    let w : Within n (extremes us allowed load (c ∷ l) (record { highest = 0; highest_score = 0; lowest = None; draws = d })) =
    extremes_in n us allowed load (c ∷ l) _ b (record { high = omega (arith, b.0); low = tt }) in
    pair_in n _ _ w.high w.low

module _ (limits : Limits) (topology : Topology) where
  pub cpus_in : (m : ℕ) → Below limits.cpus (cpus_of limits topology m)
  unfolding cpus_of
  cpus_in m = those_in limits.cpus limits.cpus _ (omega arith)

  visits_in : (k m : ℕ) → Below limits.cpus (visits limits topology k m)
  unfolding visits Below
  visits_in zero m = tt
  visits_in (suc k) m =
      both (leaf limits topology m) (λ e. rw e (cpus_in m)) (λ e. rw e (join_in_all limits.cpus (visits limits topology k) (children limits topology m) (visits_in k)))

  visited_in : Below limits.cpus (visited limits topology)
  unfolding visited
  visited_in = visits_in _ 0

-- ---- the functions, as in Schedule.antt: us is a CPU below the limit

pub same_cpu_is : (c : ℕ) (o : Option ℕ) → same_cpu c o ≡ true → o ≡ Some c
unfolding same_cpu
same_cpu_is c None e = absurd (false≢true e)
same_cpu_is c (Some d) e = ap Some (eqb-true d c e)

unfoldable pub nobody_but : ℕ → Bool
nobody_but c = false

module _ (limits : Limits) (topology : Topology) (tick us : ℕ) (known : ℕ → Bool) (numbered : (x : ℕ) → known x ≡ true → x < limits.threads) (H : ℕ → List PutOrTake)
    (us_in : us < limits.cpus) where
  abbrev only_us : ℕ → Bool
  only_us c = eqb c us

  abbrev OK : (ℕ → Bool) → World → Type 0
  OK but w = Sound limits known H but w

  abbrev Took : (ℕ → Bool) → World → Got → Type 0
  Took but w g = Taken limits topology tick us known numbered H but w g

  pub new_same : {but : ℕ → Bool} {w v : World} {c x : ℕ} → Same limits w v → New limits known but w c x → New limits known but v c x
  new_same {x = x} s n = record {
    nowhere = same_free x s n.nowhere;
    is_known = n.is_known;
    near = n.near;
    runs_not = λ d b r. n.runs_not d b (sym (s.running d) ∙ r);
  }

  -- ---- a put on a CPU

  same_reset : (w : World) (c x : ℕ) → Same limits w (sched.reset_thread_time limits topology tick us w c x)
  unfolding sched.reset_thread_time
  same_reset w c x = same_thread_changed limits w x _ (alike_reset limits (w.threads x) _)

  pub ok_put : (but : ℕ → Bool) (w : World) (c x : ℕ) → OK but w → New limits known but w c x → OK but (sched.schedule_thread_on_cpu limits topology tick us w c x)
  unfolding sched.schedule_thread_on_cpu
  ok_put but w c x d n =
      let v : World = with_thread w x (moving_to_queue (w.threads x) c) in
      let s : Same limits w (sched.reset_thread_time limits topology tick us v c x) =
      same_then (same_thread_changed limits w x _ (alike_queue limits (w.threads x) c)) (same_reset v c x) in
      sound_same (same_wakeup limits us _ c _) (sound_insert limits topology tick us known numbered H but _ c x false (sound_same s d) (new_same s n))

  -- ---- the choice of a CPU: it changes draws alone, and finds CPUs below the limit

  pub record Selected (w : World) (g : Got) : Type 0 where
    pub same : Same limits w g.world
    pub under : Under limits.cpus g.got

  draws_same : (w : World) (n : ℕ) → Same limits w (with_cpu w us (with_draws (w.cpus us) n))
  unfolding with_draws
  draws_same w n = same_cpu_changed limits w us (with_draws (w.cpus us) n) refl refl

  best_under : (b : Option Best) → BestUnder limits.cpus b → Under limits.cpus (sched.cpu_of limits topology tick us b)
  unfolding sched.cpu_of BestUnder Under
  best_under None h = tt
  best_under (Some b) h = h

  find_selected : (w : World) (p : Option Priority) → Selected w (sched.find_cpu_from_topo limits topology tick us w p)
  unfolding sched.find_cpu_from_topo BestUnder
  find_selected w p = record {
    same = draws_same w _;
    under = best_under _ (find_in limits.cpus us _ _ (visited limits topology) _ (visited_in limits topology) tt);
  }

  selected_then : {v w : World} {g : Got} → Same limits v w → Selected w g → Selected v g
  selected_then s t = record { same = same_then s t.same; under = t.under }

  -- as it is
  selected_self : (w : World) (c : ℕ) → c < limits.cpus → Selected w (record { got = Some c; world = w })
  unfolding Under
  selected_self w c h = record { same = same_self limits w; under = h }

  found_selected : (w : World) (avoid o : Option ℕ) → Under limits.cpus o → Selected w (sched.found_or_any limits topology tick us w avoid o)
  unfolding sched.found_or_any Under
  found_selected w avoid None h = find_selected w None
  found_selected w avoid (Some c) h = both (same_cpu c avoid) (λ e. rw e (find_selected w None)) (λ e. rw e (selected_self w c h))

  select_selected : (w : World) (x : ℕ) (avoid o : Option ℕ) → Under limits.cpus o → Selected w (sched.select_from limits topology tick us w x avoid o)
  unfolding sched.select_from Under
  select_selected w x avoid None h =
      let g = find_selected w (Some (effective_priority (w.threads x))) in
      selected_then g.same (found_selected _ avoid _ g.under)
  select_selected w x avoid (Some c) h = selected_self w c h

  preferred_under : (w : World) (x : ℕ) (avoid o : Option ℕ) → Under limits.cpus o → Under limits.cpus (sched.preferred limits topology tick us w x avoid o)
  unfolding sched.preferred Under
  preferred_under w x avoid None h = tt
  preferred_under w x avoid (Some c) h = of_either (Under limits.cpus)
      (not (same_cpu c avoid) && (eqb (load (w.cpus c).queue) 0 || less (sched.current_priority (w.cpus c)) (effective_priority (w.threads x)))) (Some c) None h tt

  either_under : (n : ℕ) (a b : Option ℕ) → Under n a → Under n b → Under n (either a b)
  unfolding either Under
  either_under n None b h k = k
  either_under n (Some c) b h k = h

  pub select_cpu_selected : (w : World) (x : ℕ) (avoid : Option ℕ) → Mild limits (w.threads x) → Selected w (sched.select_cpu limits topology tick us w x avoid)
  unfolding sched.select_cpu preferred_cpu
  select_cpu_selected w x avoid m =
      select_selected w x avoid _ (preferred_under w x avoid _ (either_under limits.cpus (w.threads x).pin (w.threads x).last m.pin m.last))

  -- ---- takes and steals

  taken_none : (but : ℕ → Bool) (w : World) → OK but w → Took but w (record { got = None; world = w })
  taken_none but w d = record {
    sound = d;
    running = λ c. refl;
    still_free = λ x f. f;
    handed_free = λ x g i. cc;
    handed_known = λ x g. cc;
    handed_idle = λ x i g b r. let z : ◌≡◌ {A = ℕ} 0 1 = cc in omega arith;
  }

  moved_taken : (but : ℕ → Bool) (w : World) (d : ℕ) (o : Option ℕ) (v : World) → Took but w (record { got = o; world = v }) → Took but w (sched.moved_for limits topology tick us d o v)
  unfolding sched.moved_for
  moved_taken but w d None v t = t
  moved_taken but w d (Some x) v t =
      let s : Same limits v (with_thread v x (moving_to_queue (v.threads x) d)) = same_thread_changed limits v x _ (alike_queue limits (v.threads x) d) in
      record {
        sound = sound_same s t.sound;
        running = λ c. s.running c ∙ t.running c;
        still_free = λ y f. same_free y s (t.still_free y f);
        handed_free = λ y g. same_free y s (t.handed_free y g);
        handed_known = t.handed_known;
        handed_idle = t.handed_idle;
      }

  take_from_taken : (but : ℕ → Bool) (w : World) (c d : ℕ) → OK but w → Took but w (sched.take_a_thread_from_cpu limits topology tick us w c d)
  unfolding sched.take_a_thread_from_cpu
  take_from_taken but w c d s = moved_taken but w d _ _ (take_taken limits topology tick us known numbered H but w c (not (eqb d c)) s)

  steal_taken : (but : ℕ → Bool) (w : World) (o : Option ℕ) → OK but w → Took but w (sched.steal_from limits topology tick us w o)
  unfolding sched.steal_from
  steal_taken but w None d = taken_none but w d
  steal_taken but w (Some c) d = take_from_taken but w c us d

  try_steal_taken : (but : ℕ → Bool) (w : World) → OK but w → Took but w (sched.try_steal limits topology tick us w)
  unfolding sched.try_steal
  try_steal_taken but w d = steal_taken but w _ d

  -- ---- `balance`

  -- a thread that was taken may be put elsewhere
  taken_new : {but : ℕ → Bool} {w : World} {g : Got} (c x : ℕ) → c < limits.cpus → Took but w g → g.got ≡ Some x → New limits known but g.world c x
  taken_new c x h t e = record {
    nowhere = t.handed_free x e;
    is_known = t.handed_known x e;
    near = h;
    runs_not = λ d b r. t.handed_idle x d e b (sym (t.running d) ∙ r);
  }

  ok_received : (w : World) (allowed : ℕ → Bool) (n recipient : ℕ) (g : Got) (o : Option ℕ) → g.got ≡ o → recipient < limits.cpus → Took nobody_but w g
      → OK nobody_but (sched.received limits topology tick us g.world allowed n recipient o).world
  unfolding sched.received
  ok_received w allowed n recipient g None e h t = t.sound
  ok_received w allowed n recipient g (Some x) e h t = ok_put nobody_but g.world recipient x t.sound (taken_new recipient x h t e)

  ok_move : (w : World) (allowed : ℕ → Bool) (n donor recipient : ℕ) → recipient < limits.cpus → OK nobody_but w
      → OK nobody_but (sched.move_one limits topology tick us w allowed n donor recipient).world
  unfolding sched.move_one
  ok_move w allowed n donor recipient h d = ok_received w _ n recipient _ _ refl h (take_from_taken nobody_but w donor recipient d)

  ok_pair : (w : World) (allowed : ℕ → Bool) (n : ℕ) (p : Option Pair) → PairUnder limits.cpus p → OK nobody_but w → OK nobody_but (sched.balance_pair limits topology tick us w allowed n p).world
  unfolding sched.balance_pair PairUnder set_rebalance
  ok_pair w allowed n None h d = d
  ok_pair w allowed n (Some p) h d =
      let v : World = with_cpu w p.donor (set_rebalance (w.cpus p.donor)) in
      let d' : OK nobody_but v = sound_same (same_cpu_changed limits w p.donor (set_rebalance (w.cpus p.donor)) refl refl) d in
      both (eqb (sched.current_load (w.cpus p.donor)) 0)
      (λ e. rw e d)
      (λ e. rw e (both (ltb 0 (load (w.cpus p.donor).queue)) (λ f. rw f (ok_move v allowed n p.donor p.recipient h.1 d')) (λ f. rw f d')))

  ok_step : (b : Balancing) → OK nobody_but b.world → OK nobody_but (sched.balance_step limits topology tick us b).world
  unfolding sched.balance_step
  ok_step b d = ok_pair _ b.allowed b.steps _ (choose_in limits.cpus us b.allowed _ _ _ (cpus_in limits topology 0)) (sound_same (draws_same b.world _) d)

  ok_turns : (n : ℕ) (b : Balancing) → OK nobody_but b.world → OK nobody_but (sched.balance_turns limits topology tick us n b).world
  unfolding sched.balance_turns
  ok_turns zero b d = d
  ok_turns (suc n) b d =
      of_either (λ (c : Balancing). OK nobody_but c.world) (b.goes_on && ltb b.steps (sched.max_steps limits topology tick us)) (sched.balance_turns limits topology tick us n (sched.balance_step limits topology tick us b)) b
      (ok_turns n (sched.balance_step limits topology tick us b) (ok_step b d)) d

  ok_balance : (w : World) → OK nobody_but w → OK nobody_but (sched.balance limits topology tick us w)
  unfolding sched.balance
  ok_balance w d = ok_turns _ _ d

  -- ---- `switch_to`

  -- a thread that may run here: it waits nowhere, and runs on no other CPU
  abbrev Fine : World → Option ℕ → Type 0
  Fine w x = (y : ℕ) → x ≡ Some y → Free w y × (known y ≡ true) × ((d : ℕ) → d ≢ us → (w.cpus d).running ≢ Some y)

  pub weaker : (w : World) → OK nobody_but w → OK only_us w
  unfolding nobody_but
  weaker w d = record {
    kept = d.kept;
    pins = d.pins;
    mild = d.mild;
    alone = d.alone;
    placed = d.placed;
    free = λ c x b r. d.free c x refl r;
    one = d.one;
    runs = d.runs;
  }

  whole : (w : World) → OK only_us w → ((y : ℕ) → (w.cpus us).running ≡ Some y → Free w y) → OK nobody_but w
  whole w d f = record {
    kept = d.kept;
    pins = d.pins;
    mild = d.mild;
    alone = d.alone;
    placed = d.placed;
    free = λ c x b r. both (eqb c us) (λ p. f x (rw (eqb-true c us p) at r)) (λ p. d.free c x p r);
    one = d.one;
    runs = d.runs;
  }

  module _ (w : World) (x : Option ℕ) (own : Priority) (d : OK only_us w) (f : Fine w x) where
    abbrev switched : World
    switched = with_cpu w us (with_running (w.cpus us) x own)

    queue_kept : (c : ℕ) → (switched.cpus c).queue ≡ (w.cpus c).queue
    unfolding with_cpu with_running
    queue_kept = at_keeps (λ (u : Cpu). u.queue) w.cpus us _ refl

    runs_here : (switched.cpus us).running ≡ x
    unfolding with_cpu with_running
    runs_here = ap (λ (u : Cpu). u.running) (at_here w.cpus us _)

    runs_there : (c : ℕ) → c ≢ us → (switched.cpus c).running ≡ (w.cpus c).running
    unfolding with_cpu
    runs_there c n = ap (λ (u : Cpu). u.running) (at_there w.cpus us _ c n)

    back : (c y : ℕ) → waits switched c y ≡ waits w c y
    back c y = ap (λ (q : Queue). has y (order q)) (queue_kept c)

    here : (c y : ℕ) → eqb c us ≡ true → (switched.cpus c).running ≡ Some y → x ≡ Some y
    here c y p r = sym runs_here ∙ (rw (eqb-true c us p) at r)

    there : (c y : ℕ) → eqb c us ≡ false → (switched.cpus c).running ≡ Some y → (w.cpus c).running ≡ Some y
    there c y p r = sym (runs_there c (eqb-false c us p)) ∙ r

    ok_running : OK nobody_but switched
    unfolding with_cpu
    ok_running = record {
      kept = λ c. rw (queue_kept c) (d.kept c);
      pins = d.pins;
      mild = d.mild;
      alone = λ c e y h k. d.alone c e y (sym (back c y) ∙ h) (sym (back e y) ∙ k);
      placed = λ c y h. d.placed c y (sym (back c y) ∙ h);
      free = λ c y b r e. back e y ∙ both (eqb c us) (λ p. (f y (here c y p r)).0 e) (λ p. d.free c y p (there c y p r) e);
      one = λ c e y h k.
          both (eqb c us)
          (λ p. both (eqb e us)
          (λ s. eqb-true c us p ∙ sym (eqb-true e us s))
          (λ s. absurd ((f y (here c y p h)).2 e (eqb-false e us s) (there e y s k))))
          (λ p. both (eqb e us)
          (λ s. absurd ((f y (here e y s k)).2 c (eqb-false c us p) (there c y p h)))
          (λ s. d.one c e y (there c y p h) (there e y s k)));
      runs = λ c y r. both (eqb c us) (λ p. (rw (eqb-true c us p) us_in, (f y (here c y p r)).1)) (λ p. d.runs c y (there c y p r));
    }

  same_activated : (w : World) (x : Option ℕ) → Same limits w (sched.activated limits topology tick us w x)
  unfolding sched.activated
  same_activated w None = same_self limits w
  same_activated w (Some x) = same_thread_changed limits w x _ (alike_active limits (w.threads x) us us_in)

  ok_switch : (w : World) (x : Option ℕ) → OK only_us w → Fine w x → OK nobody_but (sched.switch_to limits topology tick us w x)
  unfolding sched.switch_to
  ok_switch w x d f = sound_same (same_activated _ x) (ok_running w x _ d f)

  ok_switch_idle : (w : World) → OK only_us w → OK nobody_but (sched.switch_to limits topology tick us w None)
  ok_switch_idle w d = ok_switch w None d (λ y e. absurd (none-some y e))

  -- a thread that was taken may run here
  taken_fine : {w : World} {g : Got} (y : ℕ) → Took only_us w g → g.got ≡ Some y → Fine g.world (Some y)
  taken_fine y t e z f =
      let s : y ≡ z = cc in
      rw (← s) (t.handed_free y e, t.handed_known y e, λ d n r. t.handed_idle y d e (ne_eqb d us n) (sym (t.running d) ∙ r))

  ok_stolen : (w : World) (g : Got) (cur o : Option ℕ) → g.got ≡ o → (w.cpus us).running ≡ cur → Took only_us w g
      → OK nobody_but (sched.run_stolen limits topology tick us g.world cur o)
  unfolding sched.run_stolen
  ok_stolen w g cur (Some y) e r t = ok_switch g.world (Some y) t.sound (taken_fine y t e)
  ok_stolen w g None None e r t = whole g.world t.sound (λ y s c. let z : None ≡ Some y = sym r ∙ sym (t.running us) ∙ s in cc)
  ok_stolen w g (Some x) None e r t = ok_switch_idle g.world t.sound

  ok_taken : (w : World) (g : Got) (cur o : Option ℕ) → g.got ≡ o → (w.cpus us).running ≡ cur → Took only_us w g
      → OK nobody_but (sched.run_taken limits topology tick us g.world cur o)
  unfolding sched.run_taken
  ok_taken w g cur (Some y) e r t =
      both (same_cpu y cur)
      (λ s. rw s (whole g.world t.sound
      (λ z q. let same : y ≡ z = cc (same_cpu_is y cur s, r, t.running us, q) in rw (← same) (t.handed_free y e))))
      (λ s. rw s (ok_switch g.world (Some y) t.sound (taken_fine y t e)))
  ok_taken w g cur None e r t =
      ok_stolen g.world (sched.try_steal limits topology tick us g.world) cur _ refl (t.running us ∙ r) (try_steal_taken only_us g.world t.sound)

  ok_pick : (w : World) → OK only_us w → OK nobody_but (sched.pick_next limits topology tick us w)
  unfolding sched.pick_next
  ok_pick w d = ok_taken w _ _ _ refl refl (take_taken limits topology tick us known numbered H only_us w us false d)

  -- ---- `do_schedule`, `schedule`

  -- the thread running here may go into a queue
  pub running_new : (w : World) (c x : ℕ) → OK nobody_but w → (w.cpus us).running ≡ Some x → c < limits.cpus → New limits known only_us w c x
  unfolding nobody_but
  running_new w c x d r h = record {
    nowhere = d.free us x refl r;
    is_known = (d.runs us x r).1;
    near = h;
    runs_not = λ e b s. eqb-false e us b (d.one e us x s r);
  }

  ok_reinserted : (w v : World) (x : ℕ) (o : Option ℕ) → OK nobody_but w → (w.cpus us).running ≡ Some x → Same limits w v → Under limits.cpus o
      → OK only_us (sched.reinserted limits topology tick us v x o)
  unfolding sched.reinserted Under
  ok_reinserted w v x None d r s h = sound_same s (weaker w d)
  ok_reinserted w v x (Some c) d r s h = ok_put only_us v c x (sound_same s (weaker w d)) (new_same s (running_new w c x d r h))

  selected_if : (w : World) (t : Bool) (g h : Got) → Selected w g → Selected w h → Selected w (cond t g h)
  selected_if w true g h a b = a
  selected_if w false g h a b = b

  reinsert_selected : (w : World) (x : ℕ) → OK nobody_but w → Selected w (sched.reinsert_at limits topology tick us w x)
  unfolding sched.reinsert_at
  reinsert_selected w x d = selected_if w (w.cpus us).must_rebalance _ _ (select_cpu_selected w x (Some us) (d.mild x)) (selected_self w us us_in)

  ok_reinsert : (w : World) (x : ℕ) (yield preempt : Bool) → OK nobody_but w → (w.cpus us).running ≡ Some x → OK nobody_but (sched.reinsert limits topology tick us w x yield preempt)
  unfolding sched.reinsert
  ok_reinsert w x yield preempt d r =
      let g = reinsert_selected w x d in
      of_either (OK nobody_but) (preempt || ((w.cpus us).must_rebalance || sched.has_higher limits topology tick us w x yield)) _ _
      (ok_pick _ (ok_reinserted w _ x _ d r g.same g.under))
      (of_either (OK nobody_but) yield _ _ (ok_pick _ (ok_put only_us w us x (weaker w d) (running_new w us x d r us_in))) (sound_same (same_reset w us x) d))

  ok_schedule_of : (w : World) (cur : Option ℕ) (f : Flags) → (w.cpus us).running ≡ cur → OK nobody_but w → OK nobody_but (sched.do_schedule_of limits topology tick us w cur f)
  unfolding sched.do_schedule_of
  ok_schedule_of w None f r d = ok_pick w (weaker w d)
  ok_schedule_of w (Some x) f r d = of_either (OK nobody_but) f.again _ _ (ok_reinsert w x f.yield f.preempt d r) (ok_pick w (weaker w d))

  pub ok_schedule : (w : World) (f : Flags) → OK nobody_but w → OK nobody_but (sched.schedule limits topology tick us w f)
  unfolding sched.schedule sched.do_schedule
  ok_schedule w f d = of_either (OK nobody_but) (sched.critical_running w (w.cpus us).running) _ _ d (ok_schedule_of w _ f refl d)

  -- ---- ticks and preemption

  ok_mark : (w : World) (t : Bool) → OK nobody_but w → OK nobody_but (sched.mark_preempt limits topology tick us w t)
  unfolding sched.mark_preempt with_preempt
  ok_mark w t d = of_either (OK nobody_but) t _ _ (sound_same (same_cpu_changed limits w us (with_preempt (w.cpus us) true) refl refl) d) d

  ok_paid : (w : World) (o : Option ℕ) (n : ℕ) → OK nobody_but w → OK nobody_but (sched.paid_by limits topology tick us w o n)
  unfolding sched.paid_by with_ticks with_cpu
  ok_paid w None n d = sound_same (same_cpu_changed limits w us (with_ticks (w.cpus us) tick n) refl refl) d
  ok_paid w (Some x) n d =
      sound_same (same_then (same_cpu_changed limits w us (with_ticks (w.cpus us) tick (w.cpus us).idle_timeslice) refl refl)
      (same_thread_changed limits _ x _ (alike_paid limits (w.threads x) n))) d

  pub ok_hardtick : (w : World) → OK nobody_but w → OK nobody_but (sched.schedule_hardtick limits topology tick us w)
  unfolding sched.schedule_hardtick
  ok_hardtick w d = ok_mark _ _ (ok_paid w _ _ d)

  ok_rebalance : (w : World) (n : ℕ) → OK nobody_but w → OK nobody_but (sched.maybe_rebalance limits topology tick us w n)
  unfolding sched.maybe_rebalance with_rebalance_time with_draws
  ok_rebalance w n d =
      let p : Cpu = w.cpus us in
      let state : ℕ = next_state us p.draw_state in
      let soon : Cpu = with_rebalance_time (with_draws p state) (500000000 + draw state % sched.rebalance_period limits topology tick us) in
      let late : Cpu = with_rebalance_time p (p.rebalance_time - n) in
      of_either (OK nobody_but) (eqb us 0) _ _
      (of_either (OK nobody_but) (ltb p.rebalance_time n) _ _ (ok_balance _ (sound_same (same_cpu_changed limits w us soon refl refl) d)) (sound_same (same_cpu_changed limits w us late refl refl) d)) d

  pub ok_stattick : (w : World) (n : ℕ) → OK nobody_but w → OK nobody_but (sched.schedule_stattick limits topology tick us w n)
  unfolding sched.schedule_stattick
  ok_stattick w n d = sound_clock limits topology tick us known numbered H nobody_but _ (ok_rebalance w n d)

  pub ok_resched : (w : World) → OK nobody_but w → OK nobody_but (sched.schedule_resched limits topology tick us w)
  unfolding sched.schedule_resched
  ok_resched w d = ok_mark w _ d

  pub ok_maybe_preempt : (w : World) → OK nobody_but w → OK nobody_but (sched.schedule_maybe_preempt limits topology tick us w)
  unfolding sched.schedule_maybe_preempt with_preempt
  ok_maybe_preempt w d = of_either (OK nobody_but) (w.cpus us).preempt _ _ (ok_schedule _ _ (sound_same (same_cpu_changed limits w us (with_preempt (w.cpus us) false) refl refl) d)) d

  -- ---- donation

  ok_wakeup : (w : World) (x : ℕ) (o : Option ℕ) → OK nobody_but w → OK nobody_but (sched.maybe_wakeup limits topology tick us w x o)
  unfolding sched.maybe_wakeup
  ok_wakeup w x None d = d
  ok_wakeup w x (Some c) d = sound_same (same_wakeup limits us w c _) d

  pub ok_donate : (w : World) (x : ℕ) (p : Priority) → p.value < nr_values → OK nobody_but w → OK nobody_but (sched.donate_priority limits topology tick us w x p)
  unfolding sched.donate_priority Valued
  ok_donate w x p h d =
      let e : OK nobody_but (with_thread w x (donated_to (w.threads x) (Some p))) = sound_same (same_thread_changed limits w x _ (alike_donated limits (w.threads x) (Some p) h)) d in
      let t : Thread = w.threads x in
      of_either (OK nobody_but) (donation_accepted t.donated p) _ _
      (of_either (OK nobody_but) (less (effective_priority t) p && not (same_cpu x (w.cpus us).running)) _ _ (ok_wakeup _ x t.queue_cpu e) e) d

  -- ---- 12: a blocked thread is put on the CPU chosen

  pub ok_scheduled : (w v : World) (x c : ℕ) → OK nobody_but w → Same limits w v → New limits known nobody_but w c x → OK nobody_but (sched.schedule_thread_on_cpu limits topology tick us v c x)
  ok_scheduled w v x c d s n = ok_put nobody_but v c x (sound_same s d) (new_same s n)
