-- What the choice reads of the CPUs' words.
use Rattle.std.specs.Prelude.{ℕ, ◌%◌, ◌^◌, Bool, false, List, Option, None, Some}
use Rattle.rules.specs.declared.Priority.{Priority}
use Rattle.rules.specs.Priority.{less}
use Rattle.processor.specs.Words.{word}
use Rattle.processor.specs.Cpu.{current_load, current_priority}
use Rattle.processor.specs.Word.{LOAD, MOVABLE, RAND_STATE}

-- "`current_load` is queue load plus 1 unless idle."
abbrev pub load_at : List (List ℕ) → ℕ → ℕ
load_at cpus c = current_load cpus c

-- the load as a score counts it: 256 times it, modulo 2^64, are 256 times its last 56 bits
unfoldable pub weight_at : List (List ℕ) → ℕ → ℕ
weight_at cpus c = load_at cpus c % 2 ^ 56

-- the greater of what its queue advertises and the priority of the thread last switched to
abbrev pub priority_at : List (List ℕ) → ℕ → Priority
priority_at cpus c = current_priority cpus c

-- how many wait, and how many of them are not pinned
unfoldable pub queue_load_at : List (List ℕ) → ℕ → ℕ
queue_load_at cpus c = word cpus c LOAD

unfoldable pub movable_at : List (List ℕ) → ℕ → ℕ
movable_at cpus c = word cpus c MOVABLE

-- the CPU passes over a thread of this priority, if one is given
unfoldable pub skips_at : List (List ℕ) → Option Priority → ℕ → Bool
skips_at cpus None c = false
skips_at cpus (Some p) c = less p (priority_at cpus c)

-- the word of the draw state
abbrev pub draw_word : ℕ
draw_word = RAND_STATE
