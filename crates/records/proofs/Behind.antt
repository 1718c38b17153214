-- Whose link a put sets, said by a number.
use Rattle.std.specs.Prelude.{◌≡◌, refl, ℕ, ◌≤◌, cond, List, length, set, eqb, Option, None, Some, unwrap_or}
use Rattle.std.proofs.Common.{eqb-true}
use Rattle.std.proofs.Math.Seq.{set_out}
use Rattle.rules.proofs.Laws.Line.{both}
use Rattle.thread.specs.declared.Thread.{Thread}
use Rattle.thread.specs.Thread.{NONE, with_next}
use Rattle.records.specs.Rq.{record_at, link_behind}

-- NO RECORD HAS THE NUMBER NONE: to stand behind it is to stand behind nobody
pub link_number : (ts : List Thread) (b : Option ℕ) (x : ℕ) → length ts ≤ NONE
    → (let n : ℕ = unwrap_or b NONE in
    link_behind ts b x ≡ cond (eqb n NONE) ts (set ts n (with_next (record_at ts n) x)))
unfolding link_behind
link_number ts None x h = refl
link_number ts (Some b) x h = both (eqb b NONE) (λ e. rw (e, eqb-true b NONE e) (set_out ts NONE _ h)) (λ e. rw e)
