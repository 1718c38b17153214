-- Donation, and the mark that a thread is critical.
use Rattle.std.specs.Prelude.{ℕ, List, set}
use Rattle.rules.specs.declared.Priority.{Priority}
use Rattle.thread.specs.declared.Thread.{Thread}
use Rattle.thread.specs.Thread.{with_critical}
use Rattle.thread.specs.Priority.{donate_priority, remove_donated_priority}
use Rattle.processor.specs.Left.{Words, Left}
use Rattle.records.specs.Rq.{record_at}
use Rattle.sched_words.specs.Donate.{donation_signals}

unfoldable pub donate_priority_def : ℕ → ℕ → Priority → ℕ → Words → List Thread → Left ℕ (List Thread)
donate_priority_def us x p wakeups cs ts = record {
  answer = donation_signals cs us x (donate_priority (record_at ts x) p) wakeups;
  memory = set ts x (donate_priority (record_at ts x) p).thread;
}

unfoldable pub remove_donated : ℕ → List Thread → List Thread
remove_donated x ts = set ts x (remove_donated_priority (record_at ts x))

unfoldable pub set_critical_def : ℕ → ℕ → List Thread → List Thread
set_critical_def x mark ts = set ts x (with_critical (record_at ts x) mark)
