-- Timeslices, deadlines and what a thread keeps of its times (thread/time.rs, rq.rs).
use Rattle.std.specs.Prelude.{ℕ, ◌+◌, ◌*◌, ◌/◌, ◌%◌, ◌^◌, Bool, true, false, cond, eqb, ltb, leb, Option, None, Some, is_some}
use Rattle.rules.specs.declared.PriorityClass.{PriorityClass}
use Rattle.rules.specs.declared.PriorityClass.TheVariants as class
use Rattle.rules.specs.declared.Priority.{Priority}
use Rattle.rules.specs.Priority.{effective}

-- "User timeslice: 100 at timeshare load 0, else 32 / load rounded down, at least 2; others 100." 2026-07: the least is a setting, "2 to 32; unset it is 2", here
-- the argument `shortest`. "Timeslices at timeshare load 0 are still 100."
unfoldable pub timeslice : ℕ → PriorityClass → ℕ → ℕ
timeslice shortest class.User load = cond (eqb load 0) 100 (cond (ltb (32 / load) shortest) shortest (32 / load))
timeslice shortest class.Realtime load = 100
timeslice shortest class.Background load = 100
timeslice shortest class.Idle load = 100

-- "Deadline distance = timeslice × queue load."
unfoldable pub deadline_distance : ℕ → PriorityClass → ℕ → ℕ → ℕ
deadline_distance shortest c timeshare_load load = timeslice shortest c timeshare_load * load

-- A thread pays ticks: its timeslice expires if what it has paid reaches what is allowed, and starts anew from 0.
-- "Where the file narrows a tick difference, the port gives the same number": what it has paid is kept modulo 2^32.
pub record Paid : Type 0 where
  pub timeslice : ℕ
  pub expired : Bool

unfoldable pub pay_ticks : ℕ → ℕ → ℕ → Paid
pay_ticks paid ticks allowed =
    cond (leb allowed (paid + ticks)) (record { timeslice = 0; expired = true })
    (record { timeslice = (paid + ticks % 2 ^ 32) % 2 ^ 32; expired = false })

-- What is kept of a thread. The CPU it is pinned to, the one last used, and the one whose queue it was put into: none where the Rust has a number below zero.
-- stable: the priority as it was at the last put into a timeshare part. timeslice: what it has paid of it.
pub record Thread : Type 0 where
  pub own : Priority
  pub donated : Option Priority
  pub stable : Priority
  pub pin : Option ℕ
  pub last : Option ℕ
  pub queue_cpu : Option ℕ
  pub deadline : ℕ
  pub timeslice : ℕ
  pub critical : Bool

unfoldable pub effective_priority : Thread → Priority
effective_priority t = effective t.own t.donated

-- the first that there is
unfoldable pub either : Option ℕ → Option ℕ → Option ℕ
either None d = d
either (Some c) d = Some c

-- the pin, else the CPU last used
unfoldable pub preferred_cpu : Thread → Option ℕ
preferred_cpu t = either t.pin t.last

unfoldable pub pinned : Thread → Bool
pinned t = is_some t.pin

-- ---- one field changed

unfoldable pub donated_to : Thread → Option Priority → Thread
donated_to t d = record {
  own = t.own;
  donated = d;
  stable = t.stable;
  pin = t.pin;
  last = t.last;
  queue_cpu = t.queue_cpu;
  deadline = t.deadline;
  timeslice = t.timeslice;
  critical = t.critical;
}

-- its stable priority becomes its effective one
unfoldable pub steadied : Thread → Thread
steadied t = record {
  own = t.own;
  donated = t.donated;
  stable = effective_priority t;
  pin = t.pin;
  last = t.last;
  queue_cpu = t.queue_cpu;
  deadline = t.deadline;
  timeslice = t.timeslice;
  critical = t.critical;
}

unfoldable pub moving_to_queue : Thread → ℕ → Thread
moving_to_queue t c = record {
  own = t.own;
  donated = t.donated;
  stable = t.stable;
  pin = t.pin;
  last = t.last;
  queue_cpu = Some c;
  deadline = t.deadline;
  timeslice = t.timeslice;
  critical = t.critical;
}

unfoldable pub moving_to_active : Thread → ℕ → Thread
moving_to_active t c = record {
  own = t.own;
  donated = t.donated;
  stable = t.stable;
  pin = t.pin;
  last = Some c;
  queue_cpu = None;
  deadline = t.deadline;
  timeslice = t.timeslice;
  critical = t.critical;
}

-- the deadline is set, and nothing is paid of the new timeslice
unfoldable pub reset_time : Thread → ℕ → Thread
reset_time t d = record {
  own = t.own;
  donated = t.donated;
  stable = t.stable;
  pin = t.pin;
  last = t.last;
  queue_cpu = t.queue_cpu;
  deadline = d;
  timeslice = 0;
  critical = t.critical;
}

unfoldable pub paid_to : Thread → ℕ → Thread
paid_to t n = record {
  own = t.own;
  donated = t.donated;
  stable = t.stable;
  pin = t.pin;
  last = t.last;
  queue_cpu = t.queue_cpu;
  deadline = t.deadline;
  timeslice = n;
  critical = t.critical;
}

unfoldable pub critical_at : Thread → Bool → Thread
critical_at t m = record {
  own = t.own;
  donated = t.donated;
  stable = t.stable;
  pin = t.pin;
  last = t.last;
  queue_cpu = t.queue_cpu;
  deadline = t.deadline;
  timeslice = t.timeslice;
  critical = m;
}
