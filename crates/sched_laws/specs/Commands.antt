-- THE COMMANDS THAT A CPU RUNS, over records and words: hex 12, 14, 16 and 17; 13 is in Schedule.antt.
use Rattle.std.specs.Prelude.{ℕ, Bool}
use Rattle.rules.specs.State.{any_below, is_number, Limits}
use Rattle.rules.specs.Schedule.{World}

-- thread x runs on one of the CPUs
unfoldable pub runs_somewhere : Limits → World → ℕ → Bool
runs_somewhere limits w x = any_below limits.cpus (λ c. is_number x (w.cpus c).running)
