-- What the rules keep in every state that calls reach from the start (Reachable, in specs/Law): at the start, and by each step.
use Rattle.std.specs.Prelude.{ℕ, List, ◌++◌}
use Rattle.rules.specs.Puts.{PutOrTake}
use Rattle.rules.specs.State.{Limits, State, start}
use Rattle.rules.specs.Commands.{no_log, step}
use Rattle.rules.proofs.Laws.Reached.{reached_start, reached_step}
use Rattle.sched_laws.proofs.Sealed.{sealed_start, sealed_step}
use Rattle.sched_laws.proofs.TickBound.{late_start, late_step}
use Rattle.command_laws.specs.Law.{Reachable}

-- ---- for proofs: the start, and each step

pub reachable_start : (limits : Limits) → Reachable no_log (start limits)
reachable_start limits = record { reached = reached_start limits; sealed = sealed_start limits; late = late_start limits }

pub reachable_step : {H : ℕ → List PutOrTake} {s : State} (bytes : List ℕ) → Reachable H s → Reachable (λ c. H c ++ (step s bytes).log c) (step s bytes).state
reachable_step {H} {s} bytes r = record { reached = reached_step bytes r.reached; sealed = sealed_step s r.sealed bytes; late = late_step s r.late bytes }
