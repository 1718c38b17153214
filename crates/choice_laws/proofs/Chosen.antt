-- On words that are a tree of nodes and show the CPUs of a world, each choice is the choice of the rules.
use Prim.Native.Nat.{ℕ, zero, suc, ◌<◌}
use Rattle.std.specs.Prelude.{◌≡◌, Bool, true, cond, eqb, Option, None, Some}
use Rattle.std.proofs.Math.Path.{refl, ap}
use Rattle.std.proofs.Common.{sym, ◌∙◌, mod-eq_of_lt, eq-eqb}
use Rattle.std.proofs.lemmas.Bool.{false≢true}
use Rattle.std.proofs.Math.Bool.{or-true}
use mathlib.Core.List.{List, [], ◌∷◌}
use Rattle.rules.specs.declared.choice.Searched.{Searched}
use Rattle.rules.specs.declared.choice.Extremes.{Extremes}
use Rattle.rules.specs.declared.choice.Best.{Best}
use Rattle.rules.specs.declared.Priority.{Priority}
use Rattle.rules.specs.Line.{has}
use Rattle.rules.proofs.Laws.Line.{both, has_append}
use Rattle.rules.specs.Priority.{less}
use Rattle.rules.specs.Times.{effective_priority}
use Rattle.rules.specs.Queue.{load}
use Rattle.rules.specs.State.{at, Limits, Topology, Cpu, join_all}
use Rattle.rules.specs.Topology.{nr_nodes, children, leaf, cpus_of, visits, visited, nearest_from, nearest, above}
use Rattle.rules.specs.Choice as rule
use Rattle.rules.specs.Choice.{best_at, find_cpu, first_that, may_steal_from, extremes, choose_cpu_balance}
use Rattle.rules.specs.Schedule as sched
use Rattle.rules.specs.Schedule.{World, Got, with_cpu, with_draws, current_load, current_priority, movable_on, same_cpu, skips, cpu_of}
use Rattle.rules.proofs.Laws.Sound.{at_keeps, at_here}
use Rattle.topology.specs.Walk.{cpus_at, nearest_at}
use Rattle.processor.specs.Words.{word}
use Rattle.choice.specs.Reads.{load_at, weight_at, movable_at, skips_at, draw_word}
use Rattle.choice.specs.Found.{begun}
use Rattle.choice.specs.Select.{runs_at_once, at_once, cpu_found, search_from}
use Rattle.represents.proofs.Laws.NumberLists.{below_has}
use Rattle.represents.specs.Topology.{TopologyRep}
use Rattle.represents.proofs.Laws.Topology.{cpus_same, nearest_same, visited_same}
use Rattle.represents.proofs.Laws.Frames.{at_again}
use Rattle.choice_laws.specs.Chosen.{ChoiceReads, drawn}

-- ---- searches that agree on the CPUs of a list

find_same : (us : ℕ) (skip skip' : ℕ → Bool) (weight weight' : ℕ → ℕ) (l : List ℕ) (f : Searched) → ((c : ℕ) → has c l ≡ true → (skip c ≡ skip' c) × (weight c ≡ weight' c))
    → find_cpu us skip weight l f ≡ find_cpu us skip' weight' l f
unfolding find_cpu has
find_same us skip skip' weight weight' [] f h = refl
find_same us skip skip' weight weight' (c ∷ l) f h =
    let a : (skip c ≡ skip' c) × (weight c ≡ weight' c) = h c (rw (eq-eqb c c refl)) in
    let b : (d : ℕ) → has d l ≡ true → (skip d ≡ skip' d) × (weight d ≡ weight' d) = λ d e. h d (rw e (or-true (eqb c d))) in
    rw (a.0, a.1)
    (both (skip' c) (λ e. rw e (find_same us skip skip' weight weight' l f b)) (λ e. rw e (find_same us skip skip' weight weight' l _ b)))

first_same : (f g : ℕ → Bool) (l : List ℕ) → ((c : ℕ) → has c l ≡ true → f c ≡ g c) → first_that f l ≡ first_that g l
unfolding first_that has
first_same f g [] h = refl
first_same f g (c ∷ l) h = rw (h c (rw (eq-eqb c c refl)), first_same f g l (λ d e. h d (rw e (or-true (eqb c d)))))

extremes_same : (us : ℕ) (allowed allowed' : ℕ → Bool) (weight weight' : ℕ → ℕ) (l : List ℕ) (e : Extremes)
    → ((c : ℕ) → has c l ≡ true → (allowed c ≡ allowed' c) × (weight c ≡ weight' c)) → extremes us allowed weight l e ≡ extremes us allowed' weight' l e
unfolding extremes has
extremes_same us allowed allowed' weight weight' [] e h = refl
extremes_same us allowed allowed' weight weight' (c ∷ l) e h =
    let a : (allowed c ≡ allowed' c) × (weight c ≡ weight' c) = h c (rw (eq-eqb c c refl)) in
    let b : (d : ℕ) → has d l ≡ true → (allowed d ≡ allowed' d) × (weight d ≡ weight' d) = λ d q. h d (rw q (or-true (eqb c d))) in
    rw (a.0, a.1)
    (both (allowed' c) (λ q. rw q (extremes_same us allowed allowed' weight weight' l _ b)) (λ q. rw q (extremes_same us allowed allowed' weight weight' l e b)))

-- ---- the CPUs that a search meets are below the limit

join_from : (P : Type 0) (c : ℕ) (f : ℕ → List ℕ) (l : List ℕ) → ((x : ℕ) → has c (f x) ≡ true → P) → has c (join_all f l) ≡ true → P
unfolding join_all has
join_from P c f [] g h = absurd (false≢true h)
join_from P c f (x ∷ l) g h = both (has c (f x)) (λ e. g x e) (λ e. join_from P c f l g (rw e at (sym (has_append c (f x) (join_all f l)) ∙ h)))

module _ (limits : Limits) (t : Topology) where
  cpus_below : (n c : ℕ) → has c (cpus_of limits t n) ≡ true → c < limits.cpus
  unfolding cpus_of
  cpus_below n c h = (below_has limits.cpus _ c h).0

  visits_below : (k n c : ℕ) → has c (visits limits t k n) ≡ true → c < limits.cpus
  unfolding visits has
  visits_below zero n c h = absurd (false≢true h)
  visits_below (suc k) n c h =
      both (leaf limits t n) (λ e. cpus_below n c (rw e at h)) (λ e. join_from (c < limits.cpus) c (visits limits t k) (children limits t n) (λ x q. visits_below k x c q) (rw e at h))

  visited_below : (c : ℕ) → has c (visited limits t) ≡ true → c < limits.cpus
  unfolding visited
  visited_below c h = visits_below (suc (nr_nodes limits t)) 0 c h

  nearest_below : (o : Option ℕ) (c : ℕ) → has c (nearest_from limits t o) ≡ true → c < limits.cpus
  unfolding nearest_from has
  nearest_below None c h = absurd (false≢true h)
  nearest_below (Some m) c h = join_from (c < limits.cpus) c (cpus_of limits t) (above limits t m) (λ x q. cpus_below x c q) h

-- ---- the laws

module _ (limits : Limits) (t : Topology) (tick us : ℕ) (cpus nodes : List (List ℕ)) (tree : TopologyRep limits nodes t) where
  module _ (w : World) (shows : ChoiceReads limits cpus w) where
    weights : (c : ℕ) → c < limits.cpus → weight_at cpus c ≡ current_load (w.cpus c)
    unfolding weight_at
    weights c h = rw (shows.loads c h) (mod-eq_of_lt (shows.small c h))

    skipped : (p : Option Priority) (c : ℕ) → c < limits.cpus → skips_at cpus p c ≡ skips limits t tick us w p c
    unfolding skips_at skips
    skipped None c h = refl
    skipped (Some p) c h = ap (less p) (shows.priorities c h)

    -- THE SEARCH OF THE TREE
    pub find_law : (p : Option Priority) (draws : ℕ)
        → search_from cpus nodes us limits.cpus p draws ≡ find_cpu us (skips limits t tick us w p) (λ c. current_load (w.cpus c)) (visited limits t) (begun draws)
    unfolding search_from
    find_law p draws =
        ap (λ (l : List ℕ). find_cpu us (skips_at cpus p) (weight_at cpus) l (begun draws)) (visited_same limits nodes t tree)
        ∙ find_same us (skips_at cpus p) (skips limits t tick us w p) (weight_at cpus) (λ c. current_load (w.cpus c)) (visited limits t) (begun draws)
        (λ c h. let b : c < limits.cpus = visited_below limits t c h in (skipped p c b, weights c b))

    -- STEALING
    may : (c : ℕ) → c < limits.cpus → may_steal_from us (load_at cpus) (movable_at cpus) c ≡ may_steal_from us (λ c. current_load (w.cpus c)) (movable_on w) c
    unfolding may_steal_from
    may c h = rw (shows.loads c h, shows.movables c h)

    pub steal_law : (m : ℕ) → t.placed us ≡ Some m
        → first_that (may_steal_from us (load_at cpus) (movable_at cpus)) (nearest_at nodes limits.cpus m) ≡ sched.choose_cpu_steal_via_topo limits t tick us w
    unfolding sched.choose_cpu_steal_via_topo nearest
    steal_law m e =
        rw e
        (ap (first_that (may_steal_from us (load_at cpus) (movable_at cpus))) (nearest_same limits nodes t tree m (tree.sound.placed_there us m e).1.0)
        ∙ first_same (may_steal_from us (load_at cpus) (movable_at cpus)) (may_steal_from us (λ c. current_load (w.cpus c)) (movable_on w)) (nearest_from limits t (Some m))
        (λ c q. may c (nearest_below limits t (Some m) c q)))

    -- BALANCING
    pub balance_law : (allowed allowed' : ℕ → Bool) (draws : ℕ) → ((c : ℕ) → c < limits.cpus → allowed c ≡ allowed' c)
        → choose_cpu_balance us allowed (weight_at cpus) (cpus_at nodes limits.cpus 0) draws ≡ choose_cpu_balance us allowed' (λ c. current_load (w.cpus c)) (cpus_of limits t 0) draws
    unfolding choose_cpu_balance
    balance_law allowed allowed' draws h =
        ap (λ (e : Extremes). record { found = rule.pair_of e.highest e.lowest; draws = e.draws })
        (ap (λ (l : List ℕ). extremes us allowed (weight_at cpus) l (record { highest = 0; highest_score = 0; lowest = None; draws = draws })) (cpus_same limits nodes t tree 0 tree.sound.root)
        ∙ extremes_same us allowed allowed' (weight_at cpus) (λ c. current_load (w.cpus c)) (cpus_of limits t 0) _
        (λ c q. let b : c < limits.cpus = cpus_below limits t 0 c q in (h c b, weights c b)))

drawn_at : (us : ℕ) (w : World) (d : ℕ) → (drawn us w d).cpus us ≡ with_draws (w.cpus us) d
unfolding drawn with_cpu
drawn_at us w d = at_here w.cpus us _

draws_twice : (p : Cpu) (d e : ℕ) → with_draws (with_draws p d) e ≡ with_draws p e
unfolding with_draws
draws_twice p d e = refl

drawn_again : (us : ℕ) (w : World) (d e : ℕ) → drawn us (drawn us w d) e ≡ drawn us w e
unfolding drawn with_cpu
drawn_again us w d e =
    let h : with_draws ((drawn us w d).cpus us) e ≡ with_draws (w.cpus us) e = ap (λ (p : Cpu). with_draws p e) (drawn_at us w d) ∙ draws_twice (w.cpus us) d e in
    λ i. record {
      cpus = (ap (at (at w.cpus us (with_draws (w.cpus us) d)) us) h ∙ (λ j c. at_again w.cpus us (with_draws (w.cpus us) d) (with_draws (w.cpus us) e) c j)) i;
      threads = w.threads;
      log = w.log;
      wakeups = w.wakeups;
    }

-- what does not look at draw states
kept : {A : Type 0} (g : Cpu → A) → ((p : Cpu) (d : ℕ) → g (with_draws p d) ≡ g p) → (us : ℕ) (w : World) (d c : ℕ) → g ((drawn us w d).cpus c) ≡ g (w.cpus c)
unfolding drawn with_cpu
kept g q us w d c = at_keeps g w.cpus us _ (q (w.cpus us) d) c

load_kept : (p : Cpu) (d : ℕ) → current_load (with_draws p d) ≡ current_load p
unfolding current_load with_draws
load_kept p d = refl

priority_kept : (p : Cpu) (d : ℕ) → current_priority (with_draws p d) ≡ current_priority p
unfolding current_priority with_draws
priority_kept p d = refl

queue_kept : (p : Cpu) (d : ℕ) → (with_draws p d).queue ≡ p.queue
unfolding with_draws
queue_kept p d = refl

threads_kept : (us : ℕ) (w : World) (d : ℕ) → (drawn us w d).threads ≡ w.threads
unfolding drawn with_cpu
threads_kept us w d = refl

movable_kept : (us : ℕ) (w : World) (d c : ℕ) → movable_on (drawn us w d) c ≡ movable_on w c
unfolding movable_on
movable_kept us w d c = rw (threads_kept us w d, kept (λ (p : Cpu). p.queue) queue_kept us w d c)

reads_drawn : (limits : Limits) (cpus : List (List ℕ)) (us : ℕ) (w : World) (d : ℕ) → ChoiceReads limits cpus w → ChoiceReads limits cpus (drawn us w d)
reads_drawn limits cpus us w d s = record {
  loads = λ c h. s.loads c h ∙ sym (kept current_load load_kept us w d c);
  waiting = λ c h. s.waiting c h ∙ sym (kept (λ (p : Cpu). load p.queue) (λ p e. ap load (queue_kept p e)) us w d c);
  movables = λ c h. s.movables c h ∙ sym (movable_kept us w d c);
  priorities = λ c h. s.priorities c h ∙ sym (kept current_priority priority_kept us w d c);
  small = λ c h. rw (kept current_load load_kept us w d c) (s.small c h);
}

module _ (limits : Limits) (t : Topology) (tick us : ℕ) (cpus nodes : List (List ℕ)) (tree : TopologyRep limits nodes t) where
  got_found : (b : Option Best) → cpu_of limits t tick us b ≡ cpu_found b
  unfolding cpu_of cpu_found
  got_found None = refl
  got_found (Some b) = refl

  -- what the search finds, and the draw state that it leaves
  unfoldable pub searched : World → Searched → Got
  searched w f = record { got = cpu_found f.found; world = drawn us w f.draws }

  pub find_got : (w : World) → ChoiceReads limits cpus w → (p : Option Priority) (d : ℕ) → (w.cpus us).draw_state ≡ d
      → sched.find_cpu_from_topo limits t tick us w p ≡ searched w (search_from cpus nodes us limits.cpus p d)
  unfolding sched.find_cpu_from_topo drawn searched begun with_draws
  find_got w s p d e =
      rw e
      (ap (λ (f : Searched). record { got = cpu_of limits t tick us f.found; world = with_cpu w us (with_draws (w.cpus us) f.draws) }) (sym (find_law limits t tick us cpus nodes tree w s p d))
      ∙ (λ i. record {
        got = got_found (search_from cpus nodes us limits.cpus p d).found i;
        world = with_cpu w us (with_draws (w.cpus us) (search_from cpus nodes us limits.cpus p d).draws);
      }))

  module _ (w : World) (shows : ChoiceReads limits cpus w) (state : word cpus us draw_word ≡ (w.cpus us).draw_state) (x : ℕ) (avoid : Option ℕ) where
    abbrev p : Priority
    p = effective_priority (w.threads x)

    -- 1
    pub preferred_law : (o : Option ℕ) → ((c : ℕ) → o ≡ Some c → c < limits.cpus) → sched.preferred limits t tick us w x avoid o ≡ cond (at_once cpus p avoid o) o None
    unfolding sched.preferred at_once runs_at_once
    preferred_law None h = refl
    preferred_law (Some c) h = rw (shows.waiting c (h c refl), shows.priorities c (h c refl))

    pub taken : (o : Option ℕ) → at_once cpus p avoid o ≡ true → sched.select_from limits t tick us w x avoid o ≡ record { got = o; world = w }
    unfolding sched.select_from at_once
    taken None e = absurd (false≢true e)
    taken (Some c) e = refl

    -- 3: the search without a priority, after draws
    pub second : (d : ℕ) → sched.find_cpu_from_topo limits t tick us (drawn us w d) None ≡ searched w (search_from cpus nodes us limits.cpus None d)
    unfolding searched
    second d =
        find_got (drawn us w d) (reads_drawn limits cpus us w d shows) None d (ap (λ (c : Cpu). c.draw_state) (drawn_at us w d) ∙ unfold with_draws in refl)
        ∙ (λ i. record { got = cpu_found (search_from cpus nodes us limits.cpus None d).found; world = drawn_again us w d (search_from cpus nodes us limits.cpus None d).draws i })
