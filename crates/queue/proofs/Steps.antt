-- Laws of the counters and of one turn of a loop over the lists.
use Rattle.std.specs.Prelude.{◌≡◌, ◌≢◌, ℕ, zero, suc, ◌+◌, ◌-◌, ◌*◌, ◌%◌, ◌^◌, ◌<◌, ◌≤◌, cond, List, slice_index, ◌==◌, refl}
use Rattle.std.proofs.Common.{arith}
use Rattle.rules.specs.Queue.{nr_buckets, width, step_back}
use Rattle.thread.specs.Thread.{NONE}
use Rattle.queue.specs.Num.{difference, product}
use Rattle.queue.specs.Lists.{top_heads}
use Rattle.queue.specs.Timeshare.{top_counts_def}

pub difference_is : (r a b : ℕ) → r < 18446744073709551616 → b < 18446744073709551616 → (r + b) % 2 ^ 64 ≡ a → r ≡ difference a b
unfolding difference
difference_is r a b h l e = omega arith

halves : (a1 a0 b1 b0 : ℕ) → (a1 * 4294967296 + a0) * (b1 * 4294967296 + b0) ≡ a1 * b1 * 18446744073709551616 + (a1 * b0 + a0 * b1) * 4294967296 + a0 * b0
halves a1 a0 b1 b0 = omega arith

pub product_is : (a b a1 a0 b1 b0 m : ℕ) → a ≡ a1 * 4294967296 + a0 → b ≡ b1 * 4294967296 + b0 → m ≡ (a1 * b0 + a0 * b1) % 2 ^ 64
    → (m % 4294967296 * 4294967296 + a0 * b0) % 2 ^ 64 ≡ product a b
unfolding product
product_is a b a1 a0 b1 b0 m e f g = rw (e, f, halves a1 a0 b1 b0) (omega arith)

pub top_step : (hs : List ℕ) (i : ℕ) → 1 ≤ i → top_heads hs i ≡ cond (slice_index hs (i - 1) == NONE) (top_heads hs (i - 1)) ((i - 1) * width)
unfolding top_heads
top_step hs (suc i) h = let e : suc i - 1 ≡ i = omega arith in rw e
top_step hs zero h = absurd (omega arith)

pub tops_step : (ps : List ℕ) (i : ℕ) → 1 ≤ i → top_counts_def ps i ≡ cond (slice_index ps (i - 1) == 0) (top_counts_def ps (i - 1)) ((i - 1) * width)
unfolding top_counts_def
tops_step ps (suc i) h = let e : suc i - 1 ≡ i = omega arith in rw e
tops_step ps zero h = absurd (omega arith)

pub back_zero : (j : ℕ) → j ≡ 0 → 7 ≡ step_back j
unfolding step_back nr_buckets
back_zero j e = rw e

pub back_one : (j : ℕ) → (j ≢ 0) → j - 1 ≡ step_back j
unfolding step_back
back_one zero h = absurd (h refl)
back_one (suc j) h = omega arith
