-- 2026-07: "New command hex 05 before the seal, operand 1 byte, sets the shortest User timeslice to 2 to 32; unset it is 2, the last one given holds. Timeslices at
-- timeshare load 0 are still 100. Deadlines and hard ticks use the new figure." "Its line shows `-` four times, as do those of commands later added before the seal."
use Rattle.std.specs.Prelude.{ℕ, ◌≤◌, ◌≡◌, true, false, cond, List, [], ◌∷◌, ◌++◌, eqb}
use Rattle.std.proofs.Common.{arith, sym, ap, ◌∙◌}
use Rattle.std.proofs.Math.Path.{refl}
use Rattle.rules.specs.State.{Limits, base_limits, State, start}
use Rattle.rules.specs.Requests.{operand}
use Rattle.rules.specs.Questions.{least_shortest, most_shortest}
use Rattle.rules.specs.Commands.{step, after_calls}
use Rattle.rules.specs.Witnesses.{one_cpu, comes}
use Rattle.rules.proofs.Laws.Line.{both}
use Rattle.rules.specs.Laws.Computed.{computed}
use Rattle.rules.proofs.Laws.Shortest as laws
use Rattle.rules.specs.Shortest.{Figure, busy, figure, given, last_or, marked, some_given}

-- ---- for the proof

last_then : (n : ℕ) (l m : List ℕ) → last_or n (l ++ m) ≡ last_or (last_or n l) m
unfolding last_or
last_then n [] m = refl
last_then n (k ∷ l) m = last_then k l m

figure_step : (s : State) (bytes : List ℕ) → (step s bytes).state.limits.shortest ≡ last_or s.limits.shortest (cond (eqb (step s bytes).answer.refused 0) (figure bytes) [])
unfolding last_or figure
figure_step s [] = laws.no_call s ∙ sym (unless (step s []).answer.refused s.limits.shortest)
  where
    unless : (r n : ℕ) → last_or n (cond (eqb r 0) [] []) ≡ n
    unless r n = both (eqb r 0) (λ e. rw e) (λ e. rw e)
figure_step s (byte ∷ bytes) = laws.one_call s byte bytes ∙ chosen (step s (byte ∷ bytes)).answer.refused s.limits.shortest
  where
    chosen : (r n : ℕ) → cond (eqb r 0) (cond (eqb byte 0x05) (operand 1 bytes) n) n ≡ last_or n (cond (eqb r 0) (cond (eqb byte 0x05) (operand 1 bytes ∷ []) []) [])
    chosen r n = both (eqb r 0) (λ e. rw e (both (eqb byte 0x05) (λ f. rw f) (λ f. rw f))) (λ e. rw e)

figure_calls : (s : State) (calls : List (List ℕ)) → (after_calls s calls).limits.shortest ≡ last_or s.limits.shortest (given s calls)
unfolding after_calls given last_or
figure_calls s [] = refl
figure_calls s (bytes ∷ calls) =
    figure_calls (step s bytes).state calls ∙ ap (λ (n : ℕ). last_or n (given (step s bytes).state calls)) (figure_step s bytes)
    ∙ sym (last_then s.limits.shortest (cond (eqb (step s bytes).answer.refused 0) (figure bytes) []) (given (step s bytes).state calls))

-- THE THEOREM: for every list of calls, of any length, each on any bytes, where the start's figure is in range, as the base's is.
pub figure_held : (limits : Limits) → least_shortest ≤ limits.shortest → limits.shortest ≤ most_shortest → (calls : List (List ℕ)) → Figure limits calls
unfolding start
figure_held limits low high calls =
    let r : laws.InRange (after_calls (start limits) calls).limits.shortest = laws.range_calls (start limits) calls (low, high) in
    record {
      last_given = figure_calls (start limits) calls;
      least = r.0;
      most = r.1;
      settled = λ t more. laws.sealed_calls (after_calls (start limits) calls) more t;
    }

-- "unset it is 2": with document 01's limits
pub figure_of_base : (calls : List (List ℕ)) → (after_calls (start base_limits) calls).limits.shortest ≡ last_or 2 (given (start base_limits) calls)
unfolding base_limits least_shortest most_shortest
figure_of_base calls = (figure_held base_limits (omega arith) (omega arith) calls).last_given

-- ---- witnesses

the_last_holds : (given (start base_limits) some_given ≡ 32 ∷ 2 ∷ 3 ∷ []) × ((after_calls (start base_limits) some_given).limits.shortest ≡ 3) × ((after_calls (start base_limits) some_given).sealed ≡ true)
unfolding computed given figure some_given one_cpu
the_last_holds = (refl, refl, refl)

-- unset, the timeslices are 16 at load 2 and 10 at load 3; at 20 they are 20
deadlines : (((after_calls (start base_limits) (busy 9)).threads 5).deadline ≡ 48) × (((after_calls (start base_limits) ((0x05 ∷ 20 ∷ []) ∷ busy 9)).threads 5).deadline ≡ 60)
unfolding computed busy one_cpu comes
deadlines = (refl, refl)

hard_ticks : (marked (busy 9) ≡ false) × (marked (busy 10) ≡ true) × (marked ((0x05 ∷ 20 ∷ []) ∷ busy 19) ≡ false) × (marked ((0x05 ∷ 20 ∷ []) ∷ busy 20) ≡ true)
unfolding computed busy marked one_cpu comes
hard_ticks = (refl, refl, refl, refl)
