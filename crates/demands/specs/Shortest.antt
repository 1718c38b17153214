-- 2026-07, of the library's calls: "sets the shortest User timeslice to 2 to 32; unset it is 2, the last one given holds", "before the seal". What the calls give is
-- defined in the rules' Shortest (`given`: the operands of the obeyed calls of hex 05, in their order).
use Rattle.std.specs.Prelude.{ℕ, ◌≤◌, ◌≡◌, true, List}
use Rattle.rules.specs.State.{base_limits, start}
use Rattle.rules.specs.Shortest.{given, last_or}
use Rattle.demands.specs.Calls.{LentState, after}

-- The figure in the state that the calls left, and that more calls leave.
pub record FigureLeft (h : LentState) (calls : List (List ℕ)) : Type 0 where
  pub last_given : (after h calls).state.shortest ≡ last_or 2 (given (start base_limits) calls)
  pub least : 2 ≤ (after h calls).state.shortest
  pub most : (after h calls).state.shortest ≤ 32
  pub settled : (after h calls).state.sealed ≡ true → (more : List (List ℕ)) → (after (after h calls) more).state.shortest ≡ (after h calls).state.shortest
