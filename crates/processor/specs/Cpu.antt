-- What is read of a CPU's words.
use Rattle.std.specs.Prelude.{ℕ, ◌+◌, ◌%◌, ◌^◌, cond, List, ◌==◌}
use Rattle.rules.specs.declared.Priority.{Priority}
use Rattle.rules.specs.Priority.{from_raw, greater_of}
use Rattle.processor.specs.Words.{word}
use Rattle.processor.specs.Word.{CURRENT_PRIORITY, LOAD, OWN_PRIORITY, IS_IDLE}

-- "`current_load` is queue load plus 1 unless idle."
unfoldable pub current_load : List (List ℕ) → ℕ → ℕ
current_load cs c = cond (word cs c IS_IDLE == 0) ((word cs c LOAD + 1) % 2 ^ 64) (word cs c LOAD)

-- the greater of what its queue advertises and what it runs at
unfoldable pub current_priority : List (List ℕ) → ℕ → Priority
current_priority cs c = greater_of (from_raw (word cs c CURRENT_PRIORITY)) (from_raw (word cs c OWN_PRIORITY))
