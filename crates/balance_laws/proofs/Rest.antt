-- The turns of the rules' `balance`: what is left to do after another turn.
use Prim.Native.Nat.{ℕ}
use Rattle.std.specs.Prelude.{◌≡◌, true}
use Rattle.std.proofs.Common.{sym, ◌∙◌}
use native.Mathlib.Omega.{arith}
use Rattle.rules.proofs.Laws.Line.{both}
use Rattle.rules.specs.State.{Limits, Topology}
use Rattle.rules.specs.Schedule as sched
use Rattle.rules.specs.Schedule.{Balancing}
use Rattle.balance_laws.specs.Turns.{going}
use Rattle.balance_laws.proofs.Turns.{rest as rest_of, step_more, stops, turns_stop, turns_next, turns_enough}

module _ (limits : Limits) (topology : Topology) (tick us : ℕ) where
  abbrev step : Balancing → Balancing
  step b = sched.balance_step limits topology tick us b

  abbrev rest : Balancing → Balancing
  rest b = rest_of limits topology tick us b

  pub rest_next : (b : Balancing) → going b ≡ true → rest b ≡ rest (step b)
  rest_next b e =
      turns_next limits topology tick us 19 b e
      ∙ both (step b).goes_on
      (λ g. turns_enough limits topology tick us 19 20 (step b) (omega (arith, step_more limits topology tick us b g)) (omega arith))
      (λ g. turns_stop limits topology tick us 19 (step b) (stops limits topology tick us (step b) g) ∙ sym (turns_stop limits topology tick us 20 (step b) (stops limits topology tick us (step b) g)))
