-- `schedule_hardtick` OVER RECORDS AND WORDS IS THE RULES'.
use Rattle.std.specs.Prelude.{ℕ}
use Rattle.rules.specs.State.{Limits}
use Rattle.sched_words.specs.declared.context.Context.{Context}

-- what a command of CPU us is told
unfoldable pub context : Limits → ℕ → ℕ → Context
context limits tick us = record { us = us; tick = tick; shortest = limits.shortest; limit = limits.cpus }
