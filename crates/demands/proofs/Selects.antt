-- ONCE SEALED, A CPU IS ALWAYS FOUND: after every list of calls with the seal among them, `select_cpu` on a declared CPU finds a CPU, in every world that a command
-- may come to. So the rules' clauses for "none found" (`scheduled_on` in Commands, `reinserted` in Schedule) are never taken.
use Rattle.std.specs.Prelude.{ℕ, ◌<◌, ◌≡◌, refl, true, List, Option, None, Some, is_some}
use Rattle.std.proofs.Common.{ap}
use Rattle.std.proofs.lemmas.Bool.{false≢true}
use Rattle.rules.specs.State as rules
use Rattle.rules.specs.State.{base_limits, start}
use Rattle.rules.specs.Schedule as sched
use Rattle.rules.specs.Schedule.{World}
use Rattle.rules.specs.Commands.{after_calls}
use Rattle.rules.proofs.Laws.Reached.{limits_kept}
use Rattle.sched_laws.proofs.Visited.{visited_placed}
use Rattle.sched_laws.proofs.DoSchedule.{select_finds}
use Rattle.demands.specs.Calls.{LentState, after}
use Rattle.demands.proofs.Laws.Kept.{RepresentsReached, follows_start, follows_after}
use Rattle.demands.specs.Witness.{begun}
use Rattle.demands.proofs.Witness.{ready}

-- a search by a CPU that was put on a node
module _ (h : LentState) (s : rules.State) (f : RepresentsReached h s) (us : ℕ) (us_in : us < s.limits.cpus) (w : World) (x : ℕ) (avoid : Option ℕ) where
  placed_finds : (o : Option ℕ) → s.topology.placed us ≡ o → is_some o ≡ true → is_some (sched.select_cpu s.limits s.topology s.tick us w x avoid).got ≡ true
  placed_finds None e i = absurd (false≢true i)
  placed_finds (Some node) e i =
      select_finds s.limits s.topology s.tick us s.known f.reachable.reached.numbered f.stood.small f.stood.tick_fits us_in f.puts_and_takes h.nodes
      f.stood.tree node e (visited_placed s.limits s.topology f.stood.tree.sound us node e) w x avoid

pub selects : (calls : List (List ℕ)) (us : ℕ) → us < 64
    → (let s : rules.State = after_calls (start base_limits) calls in
    s.sealed ≡ true → s.topology.declared us ≡ true → (w : World) (x : ℕ) (avoid : Option ℕ) → is_some (sched.select_cpu s.limits s.topology s.tick us w x avoid).got ≡ true)
unfolding start base_limits rules.with_shortest
selects calls us near sealed declared w x avoid =
    let s : rules.State = after_calls (start base_limits) calls in
    let f : RepresentsReached (after begun calls) s = follows_after begun (start base_limits) calls (follows_start begun ready) in
    let near_us : us < s.limits.cpus = rw (ap (λ (l : rules.Limits). l.cpus) (limits_kept (start base_limits) calls)) near in
    placed_finds (after begun calls) s f us near_us w x avoid (s.topology.placed us) refl (f.reachable.sealed.on_node sealed us near_us declared)
