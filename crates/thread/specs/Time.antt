-- Processors and times of a record (thread/time.rs): what the code does to it, and what that is in the rules.
use Rattle.std.specs.Prelude.{ℕ, ◌+◌, ◌%◌, ◌^◌, ◌≤◌, ◌<◌, ◌≡◌, refl, Bool, true, false, cond, ltb, leb, ℤ, pos, negsuc, Option, None, Some, is_some}
use Rattle.std.proofs.Common.{lt-ltb, le-ltb}
use Rattle.std.proofs.Math.Nat.{mod-add-mod}
use Rattle.rules.specs.Times as times
use Rattle.thread.specs.declared.Thread.{Thread}
use Rattle.thread.specs.declared.time.Paid.{Paid}
use Rattle.thread.specs.declared.time.Preferred.{Preferred}
use Rattle.thread.specs.declared.time.Preferred.TheVariants as preferred
use Rattle.thread.specs.Thread.{with_last, with_pinned, with_queue, with_deadline, with_timeslice}
use Rattle.rules.proofs.Laws.Line.{both}
use Rattle.thread.specs.Reads.{cpu_in, donated_in, reads}

-- the field for a CPU number; a number past the largest of an i32 is none
unfoldable pub field_of : ℕ → ℤ
field_of c = cond (ltb c 2147483648) (pos c) (negsuc 0)

unfoldable pub pin_cpu : Thread → ℕ → Thread
pin_cpu t c = with_pinned t (field_of c)

unfoldable pub moving_to_queue : Thread → ℕ → Thread
moving_to_queue t c = with_queue t (field_of c)

unfoldable pub moving_to_active : Thread → ℕ → Thread
moving_to_active t c = with_last (with_queue t (negsuc 0)) (field_of c)

-- the ticks paid, in 32 bits
unfoldable pub narrow_sum : ℕ → ℕ → ℕ
narrow_sum paid ticks = (paid % 4294967296 + ticks % 4294967296) % 4294967296

unfoldable pub pay_ticks : Thread → ℕ → ℕ → Paid
pay_ticks t ticks allowed =
    cond (leb allowed (t.timeslice + ticks))
    (record { thread = with_timeslice t 0; expired = true })
    (record { thread = with_timeslice t (narrow_sum t.timeslice ticks); expired = false })

unfoldable pub reset_timeslice : Thread → Thread
reset_timeslice t = with_timeslice t 0

unfoldable pub set_deadline : Thread → ℕ → Thread
set_deadline t d = with_deadline t d

unfoldable pub preferred_last : Option ℕ → Option Preferred
preferred_last (Some c) = Some (preferred.Last c)
preferred_last None = None

unfoldable pub preferred_of : Option ℕ → Option ℕ → Option Preferred
preferred_of (Some c) last = Some (preferred.Pinned c)
preferred_of None last = preferred_last last

unfoldable pub preferred_cpu : Thread → Option Preferred
preferred_cpu t = preferred_of (cpu_in t.pinned_cpu) (cpu_in t.last_cpu)

-- ---- what each is in the rules, for a CPU number that fits an i32

pub named_field : (c : ℕ) → c < 2147483648 → (cpu_in (field_of c)) ≡ Some c
unfolding cpu_in field_of
named_field c h = rw (lt-ltb _ _ h)

pub named_none : (c : ℕ) → 2147483648 ≤ c → (cpu_in (field_of c)) ≡ None
unfolding cpu_in field_of
named_none c h = rw (le-ltb _ _ h)

pub reads_pin_cpu : (t : Thread) (c : ℕ) → c < 2147483648 → (reads (pin_cpu t c)).pin ≡ Some c
unfolding reads pin_cpu with_pinned
reads_pin_cpu t c h = named_field c h

pub reads_moving_to_queue : (t : Thread) (c : ℕ) → c < 2147483648 → reads (moving_to_queue t c) ≡ times.moving_to_queue (reads t) c
unfolding reads moving_to_queue with_queue times.moving_to_queue donated_in
reads_moving_to_queue t c h = rw (named_field c h)

pub reads_moving_to_active : (t : Thread) (c : ℕ) → c < 2147483648 → reads (moving_to_active t c) ≡ times.moving_to_active (reads t) c
unfolding reads moving_to_active with_queue with_last times.moving_to_active donated_in cpu_in
reads_moving_to_active t c h = rw (named_field c h)

pub reads_set_deadline : (t : Thread) (d : ℕ) → reads (reset_timeslice (set_deadline t d)) ≡ times.reset_time (reads t) d
unfolding reads reset_timeslice set_deadline with_deadline with_timeslice times.reset_time donated_in
reads_set_deadline t d = refl

narrow_same : (paid ticks : ℕ) → narrow_sum paid ticks ≡ (paid + ticks % 2 ^ 32) % 2 ^ 32
unfolding narrow_sum
narrow_same paid ticks = mod-add-mod paid 4294967296 (ticks % 4294967296)

pub reads_pay_ticks : (t : Thread) (ticks allowed : ℕ)
    → reads (pay_ticks t ticks allowed).thread ≡ times.paid_to (reads t) (times.pay_ticks t.timeslice ticks allowed).timeslice
unfolding reads pay_ticks with_timeslice times.paid_to times.pay_ticks donated_in
reads_pay_ticks t ticks allowed = both (leb allowed (t.timeslice + ticks)) (λ e. rw e) (λ e. rw (e, narrow_same t.timeslice ticks))

pub expired_pay_ticks : (t : Thread) (ticks allowed : ℕ) → (pay_ticks t ticks allowed).expired ≡ (times.pay_ticks t.timeslice ticks allowed).expired
unfolding pay_ticks times.pay_ticks
expired_pay_ticks t ticks allowed = both (leb allowed (t.timeslice + ticks)) (λ e. rw e) (λ e. rw e)

-- the CPU preferred, as the rules have it, and whether it is a pin
unfoldable pub chosen : Option Preferred → Option ℕ
chosen (Some (preferred.Pinned c)) = Some c
chosen (Some (preferred.Last c)) = Some c
chosen None = None

unfoldable pub is_pin : Option Preferred → Bool
is_pin (Some (preferred.Pinned c)) = true
is_pin (Some (preferred.Last c)) = false
is_pin None = false

preferred_as : (p l : Option ℕ) → chosen (preferred_of p l) ≡ times.either p l
unfolding chosen preferred_of preferred_last times.either
preferred_as (Some c) l = refl
preferred_as None (Some d) = refl
preferred_as None None = refl

pin_as : (p l : Option ℕ) → is_pin (preferred_of p l) ≡ is_some p
unfolding is_pin preferred_of preferred_last
pin_as (Some c) l = refl
pin_as None (Some d) = refl
pin_as None None = refl

pub reads_preferred_cpu : (t : Thread) → chosen (preferred_cpu t) ≡ times.preferred_cpu (reads t)
unfolding preferred_cpu times.preferred_cpu reads
reads_preferred_cpu t = preferred_as (cpu_in t.pinned_cpu) (cpu_in t.last_cpu)

pub reads_pinned : (t : Thread) → is_pin (preferred_cpu t) ≡ times.pinned (reads t)
unfolding preferred_cpu times.pinned reads
reads_pinned t = pin_as (cpu_in t.pinned_cpu) (cpu_in t.last_cpu)
