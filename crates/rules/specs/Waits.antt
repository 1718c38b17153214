-- Who waits in a world, and who waits nowhere.
use Rattle.std.specs.Prelude.{ℕ, ◌<◌, ◌≡◌, Bool, false, Option, None, Some}
use Rattle.rules.specs.Line.{has}
use Rattle.rules.specs.Queue.{order}
use Rattle.rules.specs.Schedule.{World}

-- none, or a number below n
unfoldable pub Under : ℕ → Option ℕ → Type 0
Under n None = Unit
Under n (Some c) = c < n

-- thread x waits in the queue of CPU c
abbrev pub waits : World → ℕ → ℕ → Bool
waits w c x = has x (order (w.cpus c).queue)

-- x waits in no queue
abbrev pub Free : World → ℕ → Type 0
Free w x = (c : ℕ) → waits w c x ≡ false
