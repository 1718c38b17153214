-- 2026-01: "The last field of a line counts every call of `wakeup`, also a donation's call to the CPU that runs the command. It shall count only calls to a
-- different CPU." A put and a donation call it, nothing else. In what follows: the limits, the topology, the tick, and us, the CPU that runs the command.
use Rattle.std.specs.Prelude.{ℕ}
use Rattle.rules.specs.Schedule.{World}

-- the same world with another count
unfoldable pub with_count : World → ℕ → World
with_count w n = record { cpus = w.cpus; threads = w.threads; log = w.log; wakeups = n }
