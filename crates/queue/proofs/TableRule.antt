-- That the constant table holds what its rule says.
use Rattle.std.specs.Prelude.{◌≡◌, ℕ, zero, suc, ◌+◌, ◌*◌, ◌%◌, ◌<◌, length, nat_lt, slice_index, refl}
use Rattle.std.proofs.Common.{sym, ◌∙◌, add-zero, zero-add, arith, lt-ltb, ltb-false}
use Rattle.rules.proofs.Laws.Line.{both}
use Rattle.rules.proofs.Laws.Effect.{cut_below, offset_past}
use Rattle.rules.specs.Priority.{nr_values, cut}
use Rattle.rules.specs.Queue.{width, realtime_bucket, offset}
use Rattle.queue.specs.Table.{ByRule, entry, table, two_each}

entries_of : (w k : ℕ) → length (two_each w k) ≡ 2 * k
unfolding two_each
entries_of w zero = refl
entries_of w (suc k) = rw (entries_of (suc w) k) (omega arith)

two_at : (w k v : ℕ) → v < k → (slice_index (two_each w k) (2 * v) ≡ realtime_bucket (w + v)) × (slice_index (two_each w k) (2 * v + 1) ≡ offset (w + v))
unfolding two_each
two_at w zero v h = absurd (omega arith)
two_at w (suc k) zero h = rw (add-zero w) (refl, refl)
two_at w (suc k) (suc v) h =
    let i : 2 * suc v ≡ suc (suc (2 * v)) = omega arith in
    let j : 2 * suc v + 1 ≡ suc (suc (2 * v + 1)) = omega arith in
    let e : w + suc v ≡ suc w + v = omega arith in
    rw (j, i, e) (two_at (suc w) k v (omega arith))

pub table_rule : ByRule table
unfolding table nr_values
table_rule = record {
  entries = entries_of 0 128;
  buckets = λ v h. rw (zero-add v) at (two_at 0 128 v h).0;
  offsets = λ v h. rw (zero-add v) at (two_at 0 128 v h).1;
}

-- ---- the two numbers of any value

cut_cut : (v : ℕ) → cut (cut v) ≡ cut v
unfolding cut
cut_cut v = rw (lt-ltb (cut v) nr_values (cut_below v))

pub bucket_entry : (v : ℕ) → entry (2 * cut v) ≡ realtime_bucket v
unfolding entry realtime_bucket nr_values
bucket_entry v = let e : 2 * cut v % 256 ≡ 2 * cut v = omega (arith, cut_below v) in rw (e, table_rule.buckets (cut v) (cut_below v), cut_cut v)

offset_127 : offset 127 ≡ 0
unfolding offset nr_values width
offset_127 = refl

offset_cut : (v : ℕ) → offset (cut v) ≡ offset v
unfolding cut
offset_cut v = both (nat_lt v nr_values) (λ p. rw p) (λ p. rw p (offset_127 ∙ sym (offset_past v (ltb-false v nr_values p))))

pub offset_entry : (v : ℕ) → entry (2 * cut v + 1) ≡ offset v
unfolding entry nr_values
offset_entry v = let e : (2 * cut v + 1) % 256 ≡ 2 * cut v + 1 = omega (arith, cut_below v) in rw (e, table_rule.offsets (cut v) (cut_below v)) (offset_cut v)
