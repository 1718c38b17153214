-- Wake-ups.
use Rattle.std.specs.Prelude.{ℕ, Bool, cond, not, ◌&&◌, ◌==◌}
use Rattle.queue.specs.Num.{sum}

-- The count once CPU `from`, which runs the command, has signalled CPU `to`, if it is due: "It shall count only calls to a different CPU."
unfoldable pub signal : ℕ → ℕ → ℕ → Bool → ℕ
signal wakeups from to due = cond (not (to == from) && due) (sum wakeups 1) wakeups
