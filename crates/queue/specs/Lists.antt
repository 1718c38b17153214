-- The lists as the code has them: the first and the last thread of each.
use Rattle.std.specs.Prelude.{◌≡◌, ℕ, zero, suc, ◌+◌, ◌-◌, ◌*◌, ◌%◌, ◌<◌, ◌≤◌, cond, List, replicate, ◌==◌, slice_index, slice_set, Option, None, Some}
use Rattle.std.proofs.Common.{arith, add-zero}
use Rattle.std.proofs.Math.Nat.{sub-zero}
use Rattle.thread.specs.Thread.{NONE}
use Rattle.rules.specs.Queue.{nr_buckets, width}
use Rattle.queue.specs.declared.lists.Lists.{Lists}
use Rattle.queue.specs.declared.lists.Put.{Put}
use Rattle.queue.specs.declared.lists.Found.{Found}

-- eight lists with nobody
unfoldable pub no_lists_def : Lists
no_lists_def = record { heads = replicate nr_buckets NONE; tails = replicate nr_buckets NONE }

-- A thread comes in as the last of bucket b: the lists, and whose link has to lead to it, if anybody's.
unfoldable pub push_back : Lists → ℕ → ℕ → Put Lists
push_back l b t =
    cond (slice_index l.heads (b % nr_buckets) == NONE)
    (record { queue = record { heads = slice_set l.heads (b % nr_buckets) t; tails = slice_set l.tails (b % nr_buckets) t }; behind = None })
    (record { queue = record { heads = l.heads; tails = slice_set l.tails (b % nr_buckets) t }; behind = Some (slice_index l.tails (b % nr_buckets)) })

-- A thread leaves bucket b from behind `previous`, where its link was `next`.
unfoldable pub unlinked : Lists → ℕ → ℕ → ℕ → Lists
unlinked l b previous next =
    cond (previous == NONE) (record { heads = slice_set l.heads (b % nr_buckets) next; tails = l.tails })
    (cond (next == NONE) (record { heads = l.heads; tails = slice_set l.tails (b % nr_buckets) previous }) l)

-- a thread found at the head of a bucket
abbrev pub found_at : ℕ → ℕ → Option Found
found_at b x = Some (record { bucket = b; thread = x })

-- the first of k lists from i onward round n that holds a thread
unfoldable pub scan_heads : ℕ → List ℕ → ℕ → ℕ → Option Found
scan_heads n hs i zero = None
scan_heads n hs i (suc k) = cond (slice_index hs (i % n) == NONE) (scan_heads n hs (i + 1) k) (found_at (i % n) (slice_index hs (i % n)))

-- the first of the eight from one onward round that holds a thread
unfoldable pub first_from : Lists → ℕ → Option Found
first_from l from = scan_heads nr_buckets l.heads (from % nr_buckets) nr_buckets

-- the least value of the highest of the first k lists that holds a thread
unfoldable pub top_heads : List ℕ → ℕ → ℕ
top_heads hs zero = 0
top_heads hs (suc k) = cond (slice_index hs k == NONE) (top_heads hs k) (k * width)

unfoldable pub highest_held : Lists → ℕ
highest_held l = top_heads l.heads nr_buckets

-- ---- one turn of a loop over them

pub scan_start : (n : ℕ) (hs : List ℕ) (j k : ℕ) → scan_heads n hs j k ≡ scan_heads n hs (j + 0) (k - 0)
scan_start n hs j k = rw (add-zero, sub-zero)

pub scan_step : (n : ℕ) (hs : List ℕ) (j k i : ℕ) → i < k
    → scan_heads n hs (j + i) (k - i) ≡ cond (slice_index hs ((j + i) % n) == NONE) (scan_heads n hs (j + (i + 1)) (k - (i + 1))) (found_at ((j + i) % n) (slice_index hs ((j + i) % n)))
unfolding scan_heads
scan_step n hs j k i h =
    let e : k - i ≡ suc (k - (i + 1)) = omega arith in
    let f : j + (i + 1) ≡ j + i + 1 = omega arith in
    rw (e, f)

pub scan_end : (n : ℕ) (hs : List ℕ) (j k i : ℕ) → k ≤ i → scan_heads n hs (j + i) (k - i) ≡ None
unfolding scan_heads
scan_end n hs j k i h = let e : k - i ≡ 0 = omega arith in rw e
