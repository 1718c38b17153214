-- 2026-07: "New command hex 05 before the seal, operand 1 byte, sets the shortest User timeslice to 2 to 32; unset it is 2, the last one given holds. Timeslices at
-- timeshare load 0 are still 100. Deadlines and hard ticks use the new figure." "Its line shows `-` four times, as do those of commands later added before the seal."
use Rattle.std.specs.Prelude.{ℕ, ◌≤◌, ◌≡◌, Bool, true, cond, List, [], ◌∷◌, ◌++◌, eqb}
use Rattle.rules.specs.State.{Limits, base_limits, State, start}
use Rattle.rules.specs.Requests.{operand}
use Rattle.rules.specs.Questions.{least_shortest, most_shortest}
use Rattle.rules.specs.Commands.{step, after_calls}
use Rattle.rules.specs.Witnesses.{one_cpu, comes}

-- ---- "unset it is 2, the last one given holds". The figure is the shortest User timeslice that holds, `limits.shortest` of a state.

-- what a call gives: the operand of hex 05, one byte; nothing if its byte is another
unfoldable pub figure : List ℕ → List ℕ
figure [] = []
figure (byte ∷ bytes) = cond (eqb byte 0x05) (operand 1 bytes ∷ []) []

-- what the obeyed ones of the calls give, in their order
unfoldable pub given : State → List (List ℕ) → List ℕ
given s [] = []
given s (bytes ∷ calls) = cond (eqb (step s bytes).answer.refused 0) (figure bytes) [] ++ given (step s bytes).state calls

-- the last of a list, n if it is empty
unfoldable pub last_or : ℕ → List ℕ → ℕ
last_or n [] = n
last_or n (m ∷ l) = last_or m l

-- The figure after a list of calls, obeyed and refused, for any limits.
pub record Figure (limits : Limits) (calls : List (List ℕ)) : Type 0 where
  pub last_given : (after_calls (start limits) calls).limits.shortest ≡ last_or limits.shortest (given (start limits) calls)
  -- "2 to 32"
  pub least : least_shortest ≤ (after_calls (start limits) calls).limits.shortest
  pub most : (after_calls (start limits) calls).limits.shortest ≤ most_shortest
  -- "before the seal": once sealed it never changes
  pub settled : (after_calls (start limits) calls).sealed ≡ true → (more : List (List ℕ))
      → (after_calls (after_calls (start limits) calls) more).limits.shortest ≡ (after_calls (start limits) calls).limits.shortest

-- ---- witnesses

-- Hex 05 is given before any CPU, again, out of range and so refused, and after the seal, where it is refused.
unfoldable pub some_given : List (List ℕ)
some_given = (0x05 ∷ 32 ∷ []) ∷ (0x05 ∷ 2 ∷ []) ∷ (0x05 ∷ 3 ∷ []) ∷ (0x05 ∷ 1 ∷ []) ∷ (0x05 ∷ 33 ∷ []) ∷ one_cpu ++ ((0x05 ∷ 9 ∷ []) ∷ [])

-- "Deadlines and hard ticks use the new figure." Thread 1 runs and is critical, so that only its own timeslice preempts it; threads 2 to 5 wait. The first of them has
-- deadline 0, is due at once and waits in realtime; the others in timeshare. Thread 5 came in at load 3 and timeshare load 2: its deadline is three times the timeslice
-- at load 2. Then comes a hard tick at tick t: thread 1 is preempted if it has paid the timeslice at load 3.
unfoldable pub busy : ℕ → List (List ℕ)
busy t = one_cpu ++ comes 1 2 10 255 ++ ((0x13 ∷ 0 ∷ 0 ∷ []) ∷ (0x1a ∷ 1 ∷ 0 ∷ 1 ∷ []) ∷ []) ++ comes 2 2 10 255 ++ comes 3 2 10 255 ++ comes 4 2 10 255 ++ comes 5 2 10 255
    ++ ((0x11 ∷ t ∷ 0 ∷ 0 ∷ 0 ∷ 0 ∷ 0 ∷ 0 ∷ 0 ∷ []) ∷ (0x14 ∷ 0 ∷ []) ∷ [])

-- whether CPU 0 is to preempt
unfoldable pub marked : List (List ℕ) → Bool
marked calls = ((after_calls (start base_limits) calls).cpus 0).preempt
