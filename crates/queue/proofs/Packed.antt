-- Sixteen numbers of the table in one word, four bits to each: read back, each is that of the table.
use Rattle.std.specs.Prelude.{◌≡◌, ℕ, zero, suc, ◌+◌, ◌*◌, ◌/◌, ◌%◌, ◌^◌, ◌<◌, true, List, nat_eq, slice_index, slice_index_or, refl}
use Rattle.std.proofs.Common.{arith, eqb-true}
use Rattle.rules.proofs.Laws.Below.{all_below, at_below}
use Rattle.rules.specs.Priority.{nr_values, cut}
use Rattle.rules.specs.Queue.{nr_buckets, width, realtime_bucket, offset}
use Rattle.queue.specs.Table.{entry, table, two_each}

-- the first k numbers of row r: each comes in at the highest four bits (times 2 ^ 60) and moves the others down, so that the first of sixteen ends lowest
unfoldable pub packed : ℕ → List ℕ → ℕ → ℕ
packed zero t r = 0
packed (suc k) t r = packed k t r / 16 + slice_index t (r * 16 + k) % 16 * 1152921504606846976

abbrev pub row_word : List ℕ → ℕ → ℕ
row_word t r = packed 16 t (r % 16)

-- number n of the table out of its row's word
abbrev pub unpacked : ℕ → ℕ
unpacked n = row_word table (n / 16) / 2 ^ (n % 16 * 4) % 16

-- it fits a word
pub packed_below : (k : ℕ) (t : List ℕ) (r : ℕ) → packed k t r < 18446744073709551616
unfolding packed
packed_below zero t r = omega arith
packed_below (suc k) t r = omega (arith, packed_below k t r)

read_back : all_below 256 (λ n. nat_eq (unpacked n) (slice_index table n)) ≡ true
unfolding all_below packed table two_each nr_values realtime_bucket cut offset width nr_buckets
read_back = refl

pub entry_unpacked : (i : ℕ) → row_word table (i / 16) / 2 ^ (i % 16 * 4) % 16 ≡ entry i
unfolding entry
entry_unpacked i =
    let h : i % 256 < 256 = omega arith in
    let r : i % 256 / 16 % 16 ≡ i / 16 % 16 = omega arith in
    let d : i % 256 % 16 ≡ i % 16 = omega arith in
    let e : unpacked (i % 256) ≡ slice_index_or table (i % 256) 0 = eqb-true _ _ (at_below 256 _ read_back (i % 256) h) in
    rw (r, d) at e
