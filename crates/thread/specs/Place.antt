-- Where a thread is, its link, and the mark that it is critical.
use Rattle.std.specs.Prelude.{ℕ, zero, suc, ◌<◌, ◌≡◌, refl, Bool, true, false, cond, eqb, negsuc, Option, None, Some}
use Rattle.std.proofs.Common.{arith}
use Rattle.rules.specs.declared.Priority.{Priority}
use Rattle.rules.specs.Priority.{nr_values, class_at, cut, from_raw, raw}
use Rattle.rules.specs.Times.{critical_at}
use Rattle.rules.specs.State.{new_thread, idle_priority}
use Rattle.thread.specs.declared.Thread.{Thread}
use Rattle.thread.specs.declared.place.Place.{Place}
use Rattle.thread.specs.declared.place.Place.TheVariants as place
use Rattle.thread.specs.Thread.{NONE, NO_DONATION, UNDECLARED, BLOCKED, RUNNING, WAITING, blank, with_place, with_next, with_critical}
use Rattle.thread.specs.Flags.{has_donated_priority}
use Rattle.thread.specs.Reads.{donated_in, cpu_in, critical_in, reads}
use Rattle.thread.specs.Priority.{raw_again}
use Rattle.thread.specs.Time.{field_of}

-- the number of a place
abbrev pub number : Place → ℕ
number place.Undeclared = UNDECLARED
number place.Blocked = BLOCKED
number place.Running = RUNNING
number place.Waiting = WAITING

-- the place that a number says
unfoldable pub place_in : ℕ → Place
place_in n = cond (eqb n BLOCKED) place.Blocked (cond (eqb n RUNNING) place.Running (cond (eqb n WAITING) place.Waiting place.Undeclared))

unfoldable pub is_declared : Place → Bool
is_declared place.Undeclared = false
is_declared place.Blocked = true
is_declared place.Running = true
is_declared place.Waiting = true

-- the CPU that a new thread is pinned to, NONE for none
unfoldable pub pin_number : Option ℕ → ℕ
pin_number None = NONE
pin_number (Some c) = c

-- a declared thread, blocked, of this priority, pinned to this CPU; a number past the largest of an i32 pins it to none
unfoldable pub new : Priority → ℕ → Thread
new p pin = record {
  priority = raw p;
  donated_priority = NO_DONATION;
  stable_priority = raw p;
  flags = 0;
  critical = 0;
  place = BLOCKED;
  next = NONE;
  last_cpu = negsuc 0;
  pinned_cpu = field_of pin;
  current_processor_queue = negsuc 0;
  deadline = 0;
  timeslice = 0;
}

-- ---- what each is in the rules

pub reads_new : (p : Priority) (pin : ℕ) → p.value < nr_values → reads (new p pin) ≡ new_thread p (cpu_in (field_of pin))
unfolding reads new new_thread donated_in has_donated_priority cpu_in critical_in
reads_new p pin h = rw (raw_again p h)

pub reads_blank : reads blank ≡ new_thread idle_priority None
unfolding reads new_thread idle_priority donated_in has_donated_priority cpu_in critical_in from_raw class_at cut nr_values
reads_blank = refl

-- the place and the link are not the rules' business
pub reads_place : (t : Thread) (p : ℕ) → reads (with_place t p) ≡ reads t
unfolding reads with_place donated_in
reads_place t p = refl

pub reads_next : (t : Thread) (n : ℕ) → reads (with_next t n) ≡ reads t
unfolding reads with_next donated_in
reads_next t n = refl

pub reads_critical : (t : Thread) (m : ℕ) → reads (with_critical t m) ≡ critical_at (reads t) (critical_in m)
unfolding reads with_critical critical_at donated_in
reads_critical t m = refl

-- of the marks 0 and 1 the second is critical
pub critical_mark : (m : ℕ) → m < 2 → critical_in m ≡ eqb m 1
unfolding critical_in
critical_mark zero h = refl
critical_mark (suc zero) h = refl
critical_mark (suc (suc m)) h = absurd (omega arith)
