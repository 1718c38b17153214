-- The record of a thread: its numbers, what it is at first, and the record with a field changed.
use Rattle.std.specs.Prelude.{ℕ, ℤ, negsuc}
use Rattle.thread.specs.declared.Thread.{Thread}

-- the link number that leads nowhere
abbrev pub NONE : ℕ
NONE = 18446744073709551615

-- the donated priority, raw, where there is no donation
abbrev pub NO_DONATION : ℕ
NO_DONATION = 4294967295

-- the numbers of a thread's places; any other counts as undeclared
abbrev pub UNDECLARED : ℕ
UNDECLARED = 0

abbrev pub BLOCKED : ℕ
BLOCKED = 1

abbrev pub RUNNING : ℕ
RUNNING = 2

abbrev pub WAITING : ℕ
WAITING = 3

-- an undeclared thread, as the library's start makes each record
abbrev pub blank : Thread
blank = record {
  priority = 0;
  donated_priority = NO_DONATION;
  stable_priority = 0;
  flags = 0;
  critical = 0;
  place = UNDECLARED;
  next = NONE;
  last_cpu = negsuc 0;
  pinned_cpu = negsuc 0;
  current_processor_queue = negsuc 0;
  deadline = 0;
  timeslice = 0;
}

-- ---- a record with fields changed

unfoldable pub with_donated : Thread → ℕ → ℕ → Thread
with_donated t d f = record {
  priority = t.priority;
  donated_priority = d;
  stable_priority = t.stable_priority;
  flags = f;
  critical = t.critical;
  place = t.place;
  next = t.next;
  last_cpu = t.last_cpu;
  pinned_cpu = t.pinned_cpu;
  current_processor_queue = t.current_processor_queue;
  deadline = t.deadline;
  timeslice = t.timeslice;
}

unfoldable pub with_stable : Thread → ℕ → Thread
with_stable t s = record {
  priority = t.priority;
  donated_priority = t.donated_priority;
  stable_priority = s;
  flags = t.flags;
  critical = t.critical;
  place = t.place;
  next = t.next;
  last_cpu = t.last_cpu;
  pinned_cpu = t.pinned_cpu;
  current_processor_queue = t.current_processor_queue;
  deadline = t.deadline;
  timeslice = t.timeslice;
}

unfoldable pub with_critical : Thread → ℕ → Thread
with_critical t m = record {
  priority = t.priority;
  donated_priority = t.donated_priority;
  stable_priority = t.stable_priority;
  flags = t.flags;
  critical = m;
  place = t.place;
  next = t.next;
  last_cpu = t.last_cpu;
  pinned_cpu = t.pinned_cpu;
  current_processor_queue = t.current_processor_queue;
  deadline = t.deadline;
  timeslice = t.timeslice;
}

unfoldable pub with_place : Thread → ℕ → Thread
with_place t p = record {
  priority = t.priority;
  donated_priority = t.donated_priority;
  stable_priority = t.stable_priority;
  flags = t.flags;
  critical = t.critical;
  place = p;
  next = t.next;
  last_cpu = t.last_cpu;
  pinned_cpu = t.pinned_cpu;
  current_processor_queue = t.current_processor_queue;
  deadline = t.deadline;
  timeslice = t.timeslice;
}

unfoldable pub with_next : Thread → ℕ → Thread
with_next t n = record {
  priority = t.priority;
  donated_priority = t.donated_priority;
  stable_priority = t.stable_priority;
  flags = t.flags;
  critical = t.critical;
  place = t.place;
  next = n;
  last_cpu = t.last_cpu;
  pinned_cpu = t.pinned_cpu;
  current_processor_queue = t.current_processor_queue;
  deadline = t.deadline;
  timeslice = t.timeslice;
}

unfoldable pub with_last : Thread → ℤ → Thread
with_last t z = record {
  priority = t.priority;
  donated_priority = t.donated_priority;
  stable_priority = t.stable_priority;
  flags = t.flags;
  critical = t.critical;
  place = t.place;
  next = t.next;
  last_cpu = z;
  pinned_cpu = t.pinned_cpu;
  current_processor_queue = t.current_processor_queue;
  deadline = t.deadline;
  timeslice = t.timeslice;
}

unfoldable pub with_pinned : Thread → ℤ → Thread
with_pinned t z = record {
  priority = t.priority;
  donated_priority = t.donated_priority;
  stable_priority = t.stable_priority;
  flags = t.flags;
  critical = t.critical;
  place = t.place;
  next = t.next;
  last_cpu = t.last_cpu;
  pinned_cpu = z;
  current_processor_queue = t.current_processor_queue;
  deadline = t.deadline;
  timeslice = t.timeslice;
}

unfoldable pub with_queue : Thread → ℤ → Thread
with_queue t z = record {
  priority = t.priority;
  donated_priority = t.donated_priority;
  stable_priority = t.stable_priority;
  flags = t.flags;
  critical = t.critical;
  place = t.place;
  next = t.next;
  last_cpu = t.last_cpu;
  pinned_cpu = t.pinned_cpu;
  current_processor_queue = z;
  deadline = t.deadline;
  timeslice = t.timeslice;
}

unfoldable pub with_deadline : Thread → ℕ → Thread
with_deadline t d = record {
  priority = t.priority;
  donated_priority = t.donated_priority;
  stable_priority = t.stable_priority;
  flags = t.flags;
  critical = t.critical;
  place = t.place;
  next = t.next;
  last_cpu = t.last_cpu;
  pinned_cpu = t.pinned_cpu;
  current_processor_queue = t.current_processor_queue;
  deadline = d;
  timeslice = t.timeslice;
}

unfoldable pub with_timeslice : Thread → ℕ → Thread
with_timeslice t n = record {
  priority = t.priority;
  donated_priority = t.donated_priority;
  stable_priority = t.stable_priority;
  flags = t.flags;
  critical = t.critical;
  place = t.place;
  next = t.next;
  last_cpu = t.last_cpu;
  pinned_cpu = t.pinned_cpu;
  current_processor_queue = t.current_processor_queue;
  deadline = t.deadline;
  timeslice = n;
}
