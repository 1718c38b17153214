-- THE MEMORY THAT THE RULES LEAVE FREE: the parts of the lent memory that stand for nothing in the rules, so that demand 2 does not speak of them. What holds
-- of each after every list of calls from the library's start, obeyed and refused: that it is as found, or what it is written. A reader reads the record,
-- which stands in specs/Frame, and the theorem.
use Rattle.std.specs.Prelude.{ℕ, refl, List, [], ◌∷◌, length}
use Rattle.std.proofs.Common.{◌∙◌}
use Rattle.rules.specs.State as rules
use Rattle.rules.specs.State.{base_limits, start}
use Rattle.rules.specs.Commands.{step, after_calls}
use Rattle.rules.proofs.Laws.Limits.{SameButShortest, same_limits, then_same}
use Rattle.rules.proofs.Laws.Reached.{limits_kept}
use Rattle.records.specs.Left.{mem}
use Rattle.represents.specs.Topology.{Sized}
use Rattle.command_laws.specs.Law.{lent}
use Rattle.command_laws.proofs.Law.{reachable_step}
use Rattle.command_laws.specs.InRange.{InRange}
use Rattle.command_laws.proofs.InRange.{goes_none, goes_then, tame_ends}
use Rattle.command_laws.specs.Nodes.{Nodes}
use Rattle.command_laws.proofs.Written.{command_confined}
use Rattle.demands.specs.Calls.{LentState, Ready, call, left_by, after}
use Rattle.demands.proofs.Laws.Kept.{RepresentsReached, call_ruled, follows_start}
use Rattle.demands.proofs.Laws.Begun.{ready_begun}
use Rattle.demands.specs.Frame.{Frame, KeptFree}

free_after : (found : List (List ℕ)) → Sized found → (h : LentState) (s : rules.State) (calls : List (List ℕ)) → RepresentsReached h s → SameButShortest base_limits s.limits → InRange (mem h.threads h.cpus)
    → Nodes found h.state.node_count h.nodes → KeptFree found h (after h calls)
unfolding after after_calls step
free_after found sized h s [] f base t k = record { memory = goes_none t; nodes = k }
free_after found sized h s (bytes ∷ calls) f base t k =
    let c = command_confined f.stood f.reachable base found sized t k bytes (length bytes) 0 in
    let g : RepresentsReached (left_by (call h bytes)) (step s bytes).state =
    record { puts_and_takes = _; stood = (call_ruled h bytes f.stood f.reachable).stands; reachable = reachable_step bytes f.reachable } in
    let r = free_after found sized (left_by (call h bytes)) (step s bytes).state calls g (then_same base_limits s.limits (step s bytes).state.limits base (limits_kept s (bytes ∷ []))) c.memory.tame c.nodes in
    record { memory = goes_then c.memory r.memory; nodes = r.nodes }

-- THE THEOREM: `start` answered Ready on the memory found, and left h; for every list of calls, of any length, each on any bytes.
pub frame : (h : LentState) (ready : Ready h) (calls : List (List ℕ)) → Frame (lent ready.threads ready.cpus ready.nodes) (after h calls)
frame h ready calls =
    let b = ready_begun h ready in
    let k = free_after ready.nodes ready.typed.node_rows h (start base_limits) calls (follows_start h ready) (same_limits (unfold start in refl)) b.tame b.nodes in
    record {
      as_many_records = k.memory.as_many ∙ b.as_many;
      as_many_cpus = k.memory.rows.as_many ∙ b.rows.as_many;
      as_many_nodes = k.nodes.as_many;
      cpus_as_long = λ c. k.memory.rows.as_long c ∙ b.rows.as_long c;
      nodes_as_long = k.nodes.as_long;
      records_past = λ x l. k.memory.past x l ∙ b.blanks x;
      cpus_past = λ c l. k.memory.rows.past c l ∙ b.rows.past c l;
      words_past = λ c w l m. k.memory.rows.words c w l m ∙ b.rows.words c w l m;
      queue_zeros = λ c w l. k.memory.tame.zeros c l w;
      nodes_unmade = k.nodes.unmade;
      node_zeros = k.nodes.made;
      links = λ x. (k.memory.tame.records x).link;
      ends = λ c w l i. tame_ends k.memory.tame c w l i;
    }
