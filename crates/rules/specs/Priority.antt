-- Priorities (thread/priority.rs).
use Rattle.std.specs.Prelude.{ℕ, ◌+◌, ◌*◌, ◌/◌, ◌%◌, Bool, true, cond, not, ◌&&◌, ◌||◌, eqb, ltb, Option, None, Some}
use Rattle.rules.specs.declared.PriorityClass.{PriorityClass}
use Rattle.rules.specs.declared.PriorityClass.TheVariants as class
use Rattle.rules.specs.declared.Priority.{Priority}

-- "Classes 0 Idle, 1 Background, 2 User, 3 Realtime; value 0 to 127."
unfoldable pub nr_values : ℕ
nr_values = 128

unfoldable pub class_number : PriorityClass → ℕ
class_number class.Idle = 0
class_number class.Background = 1
class_number class.User = 2
class_number class.Realtime = 3

abbrev pub priority : PriorityClass → ℕ → Priority
priority c v = record { class = c; value = v }

-- "`from_raw` reads the class from the upper 16 bits, everything from 3 up as Realtime, and cuts the value to 127."
unfoldable pub class_at : ℕ → PriorityClass
class_at n = cond (eqb n 0) class.Idle (cond (eqb n 1) class.Background (cond (eqb n 2) class.User class.Realtime))

unfoldable pub cut : ℕ → ℕ
cut v = cond (ltb v nr_values) v 127

unfoldable pub from_raw : ℕ → Priority
from_raw r = priority (class_at (r / 65536)) (cut (r % 65536))

-- The number that `from_raw` reads back: the class in the upper 16 bits, the value in the lower.
unfoldable pub raw : Priority → ℕ
raw p = class_number p.class * 65536 + p.value % 65536

-- "Order: class, then value": p is less than q.
unfoldable pub less : Priority → Priority → Bool
less p q =
    ltb (class_number p.class) (class_number q.class)
    || (eqb (class_number p.class) (class_number q.class) && ltb p.value q.value)

unfoldable pub at_most : Priority → Priority → Bool
at_most p q = not (less q p)

unfoldable pub greater_of : Priority → Priority → Priority
greater_of p q = cond (less p q) q p

-- "The effective priority is the greater of own and donated."
unfoldable pub effective : Priority → Option Priority → Priority
effective own None = own
effective own (Some donated) = greater_of own donated

-- "`donate_priority` answers false only if a donation held is greater."
unfoldable pub donation_accepted : Option Priority → Priority → Bool
donation_accepted None p = true
donation_accepted (Some held) p = not (less p held)
