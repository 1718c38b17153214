-- A CPU or none, and a pin, are one type for the code and for the rules, std's `Option`.
-- From the one to the other, and back, each case goes to itself.
use Rattle.std.specs.Prelude.{ℕ, Option, None, Some}

unfoldable pub each_case : {T : Type 0} → Option T → Option T
each_case None = None
each_case (Some x) = Some x

-- a CPU or none: what the rules call it, and back
abbrev pub named : Option ℕ → Option ℕ
named c = each_case c

abbrev pub as_cpu : Option ℕ → Option ℕ
as_cpu c = each_case c

-- a pin: what the rules call it, and back
abbrev pub pin_option : Option ℕ → Option ℕ
pin_option p = each_case p

abbrev pub pin_back : Option ℕ → Option ℕ
pin_back p = each_case p
