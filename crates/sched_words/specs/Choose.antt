-- The CPU for a thread whose record is given, and the CPU from which to steal.
use Rattle.std.specs.Prelude.{ℕ, cond, List, Option, Some, None}
use Rattle.rules.specs.Times.{effective_priority}
use Rattle.rules.specs.Choice.{may_steal_from, first_that}
use Rattle.thread.specs.declared.Thread.{Thread}
use Rattle.thread.specs.declared.time.Preferred.{Preferred}
use Rattle.thread.specs.declared.time.Preferred.TheVariants as preferred
use Rattle.thread.specs.Reads.{reads}
use Rattle.thread.specs.Time.{preferred_cpu}
use Rattle.processor.specs.Left.{Words, Left}
use Rattle.processor.specs.Words.{word}
use Rattle.topology.specs.Walk.{nearest_at}
use Rattle.choice.specs.Reads.{load_at, movable_at}
use Rattle.choice.specs.Select.{select_cpu, after_select}
use Rattle.processor.specs.Word.{PLACED}
use Rattle.sched_words.specs.Running.{must_rebalance_def}

unfoldable pub preferred_of_def : Option Preferred → Option ℕ
preferred_of_def (Some (preferred.Pinned c)) = Some c
preferred_of_def (Some (preferred.Last c)) = Some c
preferred_of_def None = None

unfoldable pub select_for : List (List ℕ) → List (List ℕ) → ℕ → ℕ → Thread → Option ℕ → Option ℕ
select_for cs ns us limit t avoid = (select_cpu cs ns us limit (preferred_of_def (preferred_cpu t)) (effective_priority (reads t)) avoid)

unfoldable pub selected_for : List (List ℕ) → List (List ℕ) → ℕ → ℕ → Thread → Option ℕ → List (List ℕ)
selected_for cs ns us limit t avoid = after_select cs ns us limit (preferred_of_def (preferred_cpu t)) (effective_priority (reads t)) avoid

-- where the thread running goes back into a queue: another CPU if this one must rebalance
unfoldable pub reinsert_at_def : Words → ℕ → ℕ → Thread → Words → Left (Option ℕ) Words
reinsert_at_def ns us limit t cs =
    cond (must_rebalance_def cs us)
    (record { answer = select_for cs ns us limit t (Some us); memory = selected_for cs ns us limit t (Some us) })
    (record { answer = Some us; memory = cs })

unfoldable pub steal_from_def : List (List ℕ) → List (List ℕ) → ℕ → ℕ → Option ℕ
steal_from_def cs ns us limit = (first_that (may_steal_from us (load_at cs) (movable_at cs)) (nearest_at ns limit (word cs us PLACED)))
