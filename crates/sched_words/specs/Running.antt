-- The thread that runs on a CPU, and its marks.
use Rattle.std.specs.Prelude.{ℕ, Bool, not, List, ◌==◌}
use Rattle.rules.specs.Priority.{raw}
use Rattle.rules.specs.Times.{effective_priority}
use Rattle.thread.specs.declared.Thread.{Thread}
use Rattle.thread.specs.Thread.{NONE}
use Rattle.thread.specs.Reads.{reads}
use Rattle.processor.specs.Words.{word, put_word}
use Rattle.processor.specs.Word.{OWN_PRIORITY, IS_IDLE, RUNNING, MUST_REBALANCE}

-- the thread that CPU c runs; NONE: its idle thread
unfoldable pub running_at : List (List ℕ) → ℕ → ℕ
running_at cs c = word cs c RUNNING

unfoldable pub must_rebalance_def : List (List ℕ) → ℕ → Bool
must_rebalance_def cs c = not (word cs c MUST_REBALANCE == 0)

-- a thread runs now, with its priority; nothing asks for a rebalance
unfoldable pub ran_by_def : List (List ℕ) → ℕ → ℕ → Thread → List (List ℕ)
ran_by_def cs c x t =
    put_word (put_word (put_word (put_word cs c OWN_PRIORITY (raw (effective_priority (reads t)))) c IS_IDLE 0) c MUST_REBALANCE 0) c RUNNING x

unfoldable pub ran_idle_def : List (List ℕ) → ℕ → List (List ℕ)
ran_idle_def cs c = put_word (put_word (put_word (put_word cs c IS_IDLE 1) c OWN_PRIORITY 0) c MUST_REBALANCE 0) c RUNNING NONE
