-- DEMAND 2, its proved half, of what the calls leave in the lent memory.
-- "Proved besides: each step gives what document 01's rules give."
use Rattle.std.specs.Prelude.{ℕ, ◌≡◌, refl, List, [], ◌∷◌, map}
use Rattle.rules.specs.State as rules
use Rattle.rules.specs.State.{base_limits, start}
use Rattle.rules.specs.Commands.{step, after_calls}
use Rattle.lines.specs.Lines.{answer_of}
use Rattle.command_laws.specs.Law.{AsRuled}
use Rattle.command_laws.proofs.Law.{reachable_step}
use Rattle.demands.specs.Calls.{LentState, Ready, call, left_by, after, answers, ruled_answers}
use Rattle.demands.proofs.Laws.Kept.{Represents, RepresentsReached, call_ruled, follows_start, follows_after}

-- After every list of calls the memory stands for the state that the rules leave over the same bytes (represents' State says what that is: limits, seal,
-- tick, commands accepted, topology, every thread, every queue, every CPU).
pub demand_2_state : (h : LentState) → Ready h → (calls : List (List ℕ)) → Represents (after h calls) (after_calls (start base_limits) calls)
demand_2_state h ready calls = (follows_after h (start base_limits) calls (follows_start h ready)).stood

-- The next call, on any bytes, leaves and answers what the rules' step does.
pub demand_2_step : (h : LentState) → Ready h → (calls : List (List ℕ)) (bytes : List ℕ) → AsRuled (call (after h calls) bytes) (step (after_calls (start base_limits) calls) bytes)
demand_2_step h ready calls bytes =
    let f = follows_after h (start base_limits) calls (follows_start h ready) in
    call_ruled (after h calls) bytes f.stood f.reachable

answers_ruled : (h : LentState) (s : rules.State) (calls : List (List ℕ)) → RepresentsReached h s → map answer_of (answers h calls) ≡ ruled_answers s calls
unfolding answers ruled_answers
answers_ruled h s [] f = refl
answers_ruled h s (bytes ∷ calls) f =
    let a = call_ruled h bytes f.stood f.reachable in
    rw (a.answer, answers_ruled (left_by (call h bytes)) (step s bytes).state calls (record { puts_and_takes = _; stood = a.stands; reachable = reachable_step bytes f.reachable }))

-- All answers of a list: refusal, CPU, thread running or idle, queue load, wake-ups.
pub demand_2_answers : (h : LentState) → Ready h → (calls : List (List ℕ)) → map answer_of (answers h calls) ≡ ruled_answers (start base_limits) calls
demand_2_answers h ready calls = answers_ruled h (start base_limits) calls (follows_start h ready)
