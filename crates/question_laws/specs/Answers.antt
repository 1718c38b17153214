-- THE QUESTIONS: each, asked of memory that stands for a state which the rules reach, is answered as the rules answer it; so the refusal of every reading
-- is that of the rules.
use Rattle.std.specs.Prelude.{Bool, true, false}
use Rattle.thread.specs.declared.place.Place.{Place}
use Rattle.thread.specs.declared.place.Place.TheVariants as place

unfoldable pub is_blocked : Place → Bool
is_blocked place.Undeclared = false
is_blocked place.Blocked = true
is_blocked place.Running = false
is_blocked place.Waiting = false
