-- Every record of a cleared memory is blank, whatever its number.
use Prim.Native.Nat.{ℕ}
use Rattle.std.specs.Prelude.{◌≡◌, replicate, ltb}
use Rattle.std.proofs.Math.ListN.{get_or-eq_default}
use Rattle.std.proofs.lemmas.List.{length-replicate, get_or-replicate}
use borrow.Author.Tests.{ltb-true, ltb-false}
use Rattle.rules.proofs.Laws.Line.{both}
use Rattle.thread.specs.Thread.{blank}
use Rattle.records.specs.Rq.{record_at}

pub blank_at : (n x : ℕ) → record_at (replicate n blank) x ≡ blank
blank_at n x =
    both (ltb x n) (λ e. get_or-replicate n x blank blank (ltb-true _ _ e))
    (λ e. get_or-eq_default (replicate n blank) blank {n = x} (rw (length-replicate n blank) (ltb-false _ _ e)))
