-- The turns of the rules' `balance`: twenty are enough, wherever one begins to count.
use Prim.Native.Nat.{ℕ, zero, suc, ◌+◌, ◌≤◌, ◌<◌}
use Rattle.std.specs.Prelude.{◌≡◌, Bool, true, false, ◌&&◌, eqb, Option, None, Some}
use Rattle.std.proofs.Math.Path.{refl, ap}
use Rattle.std.proofs.Common.{sym, ◌∙◌, le-ltb}
use Rattle.std.proofs.lemmas.Bool.{false≢true}
use Rattle.std.proofs.Math.Dec.{ltb}
use native.Mathlib.Omega.{arith}
use Rattle.rules.specs.declared.choice.Pair.{Pair}
use Rattle.rules.proofs.Laws.Line.{both}
use Rattle.rules.specs.Queue.{load}
use Rattle.rules.specs.State.{Limits, Topology}
use Rattle.rules.specs.Schedule as sched
use Rattle.rules.specs.Schedule.{World, Balancing, current_load}
use Rattle.balance_laws.specs.Turns.{going}

module _ (limits : Limits) (topology : Topology) (tick us : ℕ) where
  abbrev pub step : Balancing → Balancing
  step b = sched.balance_step limits topology tick us b

  abbrev pub turns : ℕ → Balancing → Balancing
  turns n b = sched.balance_turns limits topology tick us n b

  -- what is left to do
  abbrev pub rest : Balancing → Balancing
  rest b = turns 20 b

  received_more : (w : World) (allowed : ℕ → Bool) (n recipient : ℕ) (o : Option ℕ) → n < (sched.received limits topology tick us w allowed n recipient o).steps
  unfolding sched.received
  received_more w allowed n recipient None = omega arith
  received_more w allowed n recipient (Some x) = omega arith

  pair_more : (w : World) (allowed : ℕ → Bool) (n : ℕ) (p : Option Pair) → (sched.balance_pair limits topology tick us w allowed n p).goes_on ≡ true
      → n < (sched.balance_pair limits topology tick us w allowed n p).steps
  unfolding sched.balance_pair sched.move_one
  pair_more w allowed n None = λ h. omega arith
  pair_more w allowed n (Some p) =
      both (eqb (current_load (w.cpus p.donor)) 0)
      (λ e. rw e (λ h. absurd (false≢true h)))
      (λ e. rw e (both (ltb 0 (load (w.cpus p.donor).queue)) (λ f. rw f (λ h. received_more _ _ n p.recipient _)) (λ f. rw f (λ h. omega arith))))

  -- a turn that does not end it is a step at least
  pub step_more : (b : Balancing) → (step b).goes_on ≡ true → b.steps < (step b).steps
  unfolding sched.balance_step
  step_more b h = pair_more _ b.allowed b.steps _ h

  pub stops : (b : Balancing) → b.goes_on ≡ false → going b ≡ false
  unfolding going
  stops b e = ap (λ (t : Bool). t && ltb b.steps 20) e

  pub spent : (b : Balancing) → 20 ≤ b.steps → going b ≡ false
  unfolding going
  spent b h = rw (le-ltb b.steps 20 h) (both b.goes_on (λ e. rw e) (λ e. rw e))

  pub turns_stop : (n : ℕ) (b : Balancing) → going b ≡ false → turns n b ≡ b
  unfolding sched.balance_turns sched.max_steps going
  turns_stop zero b e = refl
  turns_stop (suc n) b e = rw e

  pub turns_next : (n : ℕ) (b : Balancing) → going b ≡ true → turns (suc n) b ≡ turns n (step b)
  unfolding sched.balance_turns sched.max_steps going
  turns_next n b e = rw e

  -- TURNS BEYOND THE STEPS THAT ARE LEFT CHANGE NOTHING
  pub turns_enough : (n m : ℕ) (b : Balancing) → 20 ≤ n + b.steps → 20 ≤ m + b.steps → turns n b ≡ turns m b
  turns_enough zero zero b h k = refl
  turns_enough zero (suc m) b h k = turns_stop zero b (spent b (omega arith)) ∙ sym (turns_stop (suc m) b (spent b (omega arith)))
  turns_enough (suc n) zero b h k = turns_stop (suc n) b (spent b (omega arith)) ∙ sym (turns_stop zero b (spent b (omega arith)))
  turns_enough (suc n) (suc m) b h k =
      both (going b)
      (λ e. turns_next n b e
      ∙ both (step b).goes_on
      (λ g. turns_enough n m (step b) (omega (arith, step_more b g)) (omega (arith, step_more b g)))
      (λ g. turns_stop n (step b) (stops (step b) g) ∙ sym (turns_stop m (step b) (stops (step b) g)))
      ∙ sym (turns_next m b e))
      (λ e. turns_stop (suc n) b e ∙ sym (turns_stop (suc m) b e))
