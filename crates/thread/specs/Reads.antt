-- What a record says, in the terms of the rules.
use Rattle.std.specs.Prelude.{ℕ, Bool, cond, not, eqb, ℤ, pos, negsuc, Option, None, Some}
use Rattle.rules.specs.declared.Priority.{Priority}
use Rattle.rules.specs.Priority.{from_raw}
use Rattle.rules.specs.Times as times
use Rattle.thread.specs.declared.Thread.{Thread}
use Rattle.thread.specs.Thread.{NO_DONATION}
use Rattle.thread.specs.Flags.{has_donated_priority}

-- the answers as the rules have them
-- the donation that a record holds: the flag says that there is one, and the number is not the one for none
unfoldable pub donated_in : Thread → Option Priority
donated_in t =
    cond (has_donated_priority t.flags)
    (cond (eqb t.donated_priority NO_DONATION) None (Some (from_raw t.donated_priority))) None

-- "below zero means none"
unfoldable pub cpu_in : ℤ → Option ℕ
cpu_in (pos c) = Some c
cpu_in (negsuc n) = None

-- any number but 0 marks a thread as critical
unfoldable pub critical_in : ℕ → Bool
critical_in n = not (eqb n 0)

unfoldable pub reads : Thread → times.Thread
reads t = record {
  own = from_raw t.priority;
  donated = (donated_in t);
  stable = from_raw t.stable_priority;
  pin = (cpu_in t.pinned_cpu);
  last = (cpu_in t.last_cpu);
  queue_cpu = (cpu_in t.current_processor_queue);
  deadline = t.deadline;
  timeslice = t.timeslice;
  critical = critical_in t.critical;
}
