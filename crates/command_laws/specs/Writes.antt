-- WHAT EACH FUNCTION OF THE SCHEDULER WRITES: records of threads and words of CPUs that the memory or the command names, so records below 1,024 and
-- rows below 64.
use Rattle.std.specs.Prelude.{ℕ, Option, unwrap_or}
use Rattle.thread.specs.Thread.{NONE}
use Rattle.processor.specs.Left.{Left}
use Rattle.records.specs.Left.{Memory}
use Rattle.command_laws.specs.Links.{Link}
use Rattle.command_laws.specs.InRange.{StaysInRange}

-- what a take comes to, and whom it hands out
pub record Took (m : Memory) (g : Left (Option ℕ) Memory) : Type 0 where
  pub goes : StaysInRange m g.memory
  pub link : Link (unwrap_or g.answer NONE)
