-- Donations and the stable priority of a record (thread/priority.rs): what the code does to it, and what that is in the rules.
use Rattle.std.specs.Prelude.{ℕ, ◌+◌, ◌*◌, ◌/◌, ◌%◌, ◌<◌, ◌≡◌, refl, true, false, cond, eqb, None, Some}
use Rattle.std.proofs.Common.{arith, lt-ltb, ne_eqb}
use Rattle.rules.proofs.Laws.Line.{both}
use Rattle.rules.proofs.Laws.Effect.{cut_below}
use Rattle.rules.specs.declared.PriorityClass.{PriorityClass}
use Rattle.rules.specs.declared.PriorityClass.TheVariants as class
use Rattle.rules.specs.declared.Priority.{Priority}
use Rattle.rules.specs.Priority.{class_number, class_at, cut, nr_values, from_raw, raw, less, greater_of, effective, donation_accepted}
use Rattle.rules.specs.Times.{effective_priority, donated_to, steadied}
use Rattle.thread.specs.declared.Thread.{Thread}
use Rattle.thread.specs.declared.priority.Donation.{Donation}
use Rattle.thread.specs.declared.priority.Stable.{Stable}
use Rattle.thread.specs.Thread.{NO_DONATION, with_donated, with_stable}
use Rattle.thread.specs.Flags.{has_donated_priority, set_donated_priority, reset_donated_priority, has_set, has_reset}
use Rattle.thread.specs.Reads.{donated_in, reads}

unfoldable pub stable_effective_priority : Thread → Stable
stable_effective_priority t = record {
  thread = with_stable t (raw (effective_priority (reads t)));
  priority = effective_priority (reads t);
}

unfoldable pub donate_priority : Thread → Priority → Donation
donate_priority t p =
    cond (donation_accepted (donated_in t) p)
    (record { thread = with_donated t (raw p) (set_donated_priority t.flags); accepted = true; needs_resched = less (effective_priority (reads t)) p })
    (record { thread = t; accepted = false; needs_resched = false })

unfoldable pub remove_donated_priority : Thread → Thread
remove_donated_priority t = cond (has_donated_priority t.flags) (with_donated t NO_DONATION (reset_donated_priority t.flags)) t

-- ---- raw numbers

pub class_below : (c : PriorityClass) → class_number c < 4
unfolding class_number
class_below class.Idle = omega arith
class_below class.Background = omega arith
class_below class.User = omega arith
class_below class.Realtime = omega arith

pub class_again : (c : PriorityClass) → class_at (class_number c) ≡ c
unfolding class_at class_number
class_again class.Idle = refl
class_again class.Background = refl
class_again class.User = refl
class_again class.Realtime = refl

-- A RAW PRIORITY IS READ AS IT WAS WRITTEN
pub raw_again : (p : Priority) → p.value < nr_values → from_raw (raw p) ≡ p
unfolding from_raw raw cut nr_values
raw_again p h =
    let q : (class_number p.class * 65536 + p.value % 65536) / 65536 ≡ class_number p.class = omega arith in
    let r : (class_number p.class * 65536 + p.value % 65536) % 65536 ≡ p.value = omega arith in
    rw (q, r, lt-ltb _ _ h, class_again p.class)

-- no priority is the number for none
raw_some : (p : Priority) → raw p ≡ NO_DONATION → ⊥
unfolding raw
raw_some p e = omega (arith, class_below p.class)

pub from_raw_below : (r : ℕ) → (from_raw r).value < nr_values
unfolding from_raw
from_raw_below r = cut_below (r % 65536)

greater_below : (p q : Priority) → p.value < nr_values → q.value < nr_values → (greater_of p q).value < nr_values
unfolding greater_of
greater_below p q h k = both (less p q) (λ e. rw e k) (λ e. rw e h)

pub effective_below : (t : Thread) → (effective_priority (reads t)).value < nr_values
unfolding effective_priority reads donated_in effective
effective_below t =
    both (has_donated_priority t.flags)
    (λ e. rw e (both (eqb t.donated_priority NO_DONATION)
    (λ z. rw z (from_raw_below t.priority))
    (λ z. rw z (greater_below (from_raw t.priority) (from_raw t.donated_priority) (from_raw_below t.priority) (from_raw_below t.donated_priority)))))
    (λ e. rw e (from_raw_below t.priority))

-- ---- what each is in the rules

pub reads_stable : (t : Thread) → reads (stable_effective_priority t).thread ≡ steadied (reads t)
unfolding stable_effective_priority with_stable steadied reads donated_in
reads_stable t = rw (raw_again (effective_priority (reads t)) (effective_below t))

pub reads_donated : (t : Thread) (p : Priority) → p.value < nr_values
    → reads (donate_priority t p).thread ≡ cond (donation_accepted (reads t).donated p) (donated_to (reads t) (Some p)) (reads t)
unfolding donate_priority with_donated donated_to reads donated_in
reads_donated t p h =
    both (donation_accepted (donated_in t) p)
    (λ e. rw (e, has_set t.flags, ne_eqb _ _ (raw_some p), raw_again p h))
    (λ e. rw e)

pub reads_removed : (t : Thread) → reads (remove_donated_priority t) ≡ donated_to (reads t) None
unfolding remove_donated_priority with_donated donated_to reads donated_in
reads_removed t =
    both (has_donated_priority t.flags)
    (λ e. rw (e, has_reset t.flags))
    (λ e. rw (e, e))
