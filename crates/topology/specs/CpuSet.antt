-- Sets of CPU numbers (CpuSet, processor/sched.rs): sixteen words of 64 bits.
use Rattle.std.specs.Prelude.{ℕ, zero, suc, ◌+◌, ◌-◌, ◌*◌, ◌/◌, ◌%◌, ◌^◌, ◌≤◌, ◌<◌, ◌≡◌, refl, Bool, true, false, cond, List, eqb, ltb, length, get_or, set, replicate}
use Rattle.std.proofs.Common.{ap, ◌∙◌, arith, length-set, get_or-set_same, get_or-set_other, shl_exact, eqb-true, eq-eqb, ne_eqb, ltb-true, ltb-false, lt-ltb, le-ltb}
use Rattle.std.proofs.lemmas.Bool.{false≢true, eqb-false}
use Rattle.std.proofs.lemmas.List.{length-replicate}
use Rattle.std.proofs.Math.ListN.{get_or-eq_default}
use borrow.Table.Steps.{cases as both}
use Rattle.topology.specs.declared.cpuset.CpuSet.{CpuSet}
use Rattle.topology.specs.Bits.{digit, zero_digit, add_same, add_other, add_below, one_least, sub_same, sub_other, all_zero, ones_digit}

-- the number with bit i % 64 alone
unfoldable pub power : ℕ → ℕ
power i = 2 ^ (i % 64)

-- bit i % 64 of a word is 1
unfoldable pub bit : ℕ → ℕ → Bool
bit word i = eqb (word / 2 ^ (i % 64) % 2) 1

-- the word with that bit 1, and with that bit 0
unfoldable pub set_bit : ℕ → ℕ → ℕ
set_bit word i = cond (bit word i) word (word + power i)

unfoldable pub clear_bit : ℕ → ℕ → ℕ
clear_bit word i = cond (bit word i) (word - power i) word

-- CPU numbers are below this; no other number is in a set
unfoldable pub max_cpu_id : ℕ
max_cpu_id = 1024

unfoldable pub all : CpuSet
all = record { set = replicate 16 18446744073709551615 }

unfoldable pub empty : CpuSet
empty = record { set = replicate 16 0 }

-- the word that has the bit of a CPU number
unfoldable pub word_of : CpuSet → ℕ → ℕ
word_of s id = get_or s.set (id / 64) 0

unfoldable pub contains : CpuSet → ℕ → Bool
contains s id = cond (ltb id max_cpu_id) (bit (word_of s id) id) false

unfoldable pub insert : CpuSet → ℕ → CpuSet
insert s id = cond (ltb id max_cpu_id) (record { set = set s.set (id / 64) (set_bit (word_of s id) id) }) s

unfoldable pub remove : CpuSet → ℕ → CpuSet
remove s id = cond (ltb id max_cpu_id) (record { set = set s.set (id / 64) (clear_bit (word_of s id) id) }) s

-- none of the first k words has a bit that is 1
unfoldable pub no_bits : List ℕ → ℕ → Bool
no_bits ws zero = true
no_bits ws (suc k) = cond (eqb (get_or ws k 0) 0) (no_bits ws k) false

unfoldable pub is_empty : CpuSet → Bool
is_empty s = no_bits s.set 16

-- sixteen words of 64 bits: what every set is that the code can hold
pub record Sixteen (s : CpuSet) : Type 0 where
  pub sized : length s.set ≡ 16
  pub small : (i : ℕ) → get_or s.set i 0 < 2 ^ 64

-- ---- bits

bit_one : (w i : ℕ) → bit w i ≡ true → digit w (i % 64) ≡ 1
unfolding bit digit
bit_one w i e = eqb-true _ _ e

bit_zero : (w i : ℕ) → bit w i ≡ false → digit w (i % 64) ≡ 0
unfolding bit digit
bit_zero w i e = let n : w / 2 ^ (i % 64) % 2 ≡ 1 → ⊥ = eqb-false _ _ e in omega arith

one_bit : (w i : ℕ) → digit w (i % 64) ≡ 1 → bit w i ≡ true
unfolding bit digit
one_bit w i e = eq-eqb _ _ e

zero_bit : (w i : ℕ) → digit w (i % 64) ≡ 0 → bit w i ≡ false
unfolding bit digit
zero_bit w i e = ne_eqb _ _ (λ z. let n : w / 2 ^ (i % 64) % 2 ≡ 1 = z in omega arith)

-- bits of the same place in words with the same digit there
same_bit : (v w i : ℕ) → digit v (i % 64) ≡ digit w (i % 64) → bit v i ≡ bit w i
unfolding bit digit
same_bit v w i e = ap (λ (n : ℕ). eqb n 1) e

-- a bit that is 0 is added within the word, one that is 1 is taken from it
pub add_fits : (w i : ℕ) → w < 2 ^ 64 → bit w i ≡ false → w + power i < 2 ^ 64
unfolding power
add_fits w i h e = add_below 64 w (i % 64) (bit_zero w i e) h (omega arith)

pub sub_fits : (w i : ℕ) → bit w i ≡ true → power i ≤ w
unfolding power
sub_fits w i e = one_least w (i % 64) (bit_one w i e)

set_small : (w i : ℕ) → w < 2 ^ 64 → set_bit w i < 2 ^ 64
unfolding set_bit
set_small w i h = both (bit w i) (λ e. rw e h) (λ e. rw e (add_fits w i h e))

clear_small : (w i : ℕ) → w < 2 ^ 64 → clear_bit w i < 2 ^ 64
unfolding clear_bit
clear_small w i h = both (bit w i) (λ e. rw e (omega arith)) (λ e. rw e h)

pub set_same : (w i : ℕ) → bit (set_bit w i) i ≡ true
unfolding set_bit power
set_same w i = both (bit w i) (λ e. rw e e) (λ e. rw e (one_bit (w + 2 ^ (i % 64)) i (add_same w (i % 64) (bit_zero w i e))))

pub set_other : (w i j : ℕ) → (j % 64 ≡ i % 64 → ⊥) → bit (set_bit w i) j ≡ bit w j
unfolding set_bit power
set_other w i j n =
    both (bit w i) (λ e. rw e)
    (λ e. rw e (same_bit (w + 2 ^ (i % 64)) w j (add_other w (i % 64) (j % 64) (bit_zero w i e) n)))

clear_same : (w i : ℕ) → bit (clear_bit w i) i ≡ false
unfolding clear_bit power
clear_same w i = both (bit w i) (λ e. rw e (zero_bit (w - 2 ^ (i % 64)) i (sub_same w (i % 64) (bit_one w i e)))) (λ e. rw e e)

clear_other : (w i j : ℕ) → (j % 64 ≡ i % 64 → ⊥) → bit (clear_bit w i) j ≡ bit w j
unfolding clear_bit power
clear_other w i j n =
    both (bit w i) (λ e. rw e (same_bit (w - 2 ^ (i % 64)) w j (sub_other w (i % 64) (j % 64) (bit_one w i e) n)))
    (λ e. rw e)

pub power_fits : (i : ℕ) → 1 * 2 ^ (i % 64) % 2 ^ 64 ≡ power i
unfolding power
power_fits i = shl_exact 1 (i % 64) 64 (omega arith) (omega arith) ∙ omega arith

-- ---- sets

-- a number past the largest is in no set, and neither put in nor taken out
pub outside : (s : CpuSet) (id : ℕ) → max_cpu_id ≤ id → contains s id ≡ false
unfolding contains
outside s id h = rw (le-ltb _ _ h)

pub insert_outside : (s : CpuSet) (id : ℕ) → max_cpu_id ≤ id → insert s id ≡ s
unfolding insert
insert_outside s id h = rw (le-ltb _ _ h)

pub remove_outside : (s : CpuSet) (id : ℕ) → max_cpu_id ≤ id → remove s id ≡ s
unfolding remove
remove_outside s id h = rw (le-ltb _ _ h)

word_small : (s : CpuSet) → Sixteen s → (id : ℕ) → word_of s id < 2 ^ 64
unfolding word_of
word_small s t id = t.small (id / 64)

-- the word of id changed to v
unfoldable changed : CpuSet → ℕ → ℕ → CpuSet
changed s id v = record { set = set s.set (id / 64) v }

changed_sixteen : (s : CpuSet) (id v : ℕ) → Sixteen s → v < 2 ^ 64 → Sixteen (changed s id v)
unfolding changed
changed_sixteen s id v t h = record {
  sized = length-set s.set (id / 64) v ∙ t.sized;
  small = λ i. both (eqb i (id / 64))
      (λ e. both (ltb i (length s.set))
      (λ l. rw (← eqb-true i (id / 64) e, get_or-set_same s.set i v 0 (ltb-true _ _ l)) h)
      (λ l. rw (get_or-eq_default (set s.set (id / 64) v) 0 {n = i} (rw (length-set s.set (id / 64) v) (ltb-false _ _ l))) (omega arith)))
      (λ e. rw (get_or-set_other s.set (id / 64) i v 0 (eqb-false _ _ e)) (t.small i));
}

changed_same : (s : CpuSet) (id v : ℕ) → Sixteen s → id < max_cpu_id → contains (changed s id v) id ≡ bit v id
unfolding contains word_of changed max_cpu_id
changed_same s id v t h = rw (lt-ltb _ _ h, get_or-set_same s.set (id / 64) v 0 (rw t.sized (omega arith)))

changed_other : (s : CpuSet) (id j v : ℕ) → Sixteen s → id < max_cpu_id → (j ≡ id → ⊥) → ((j % 64 ≡ id % 64 → ⊥) → bit v j ≡ bit (word_of s id) j)
    → contains (changed s id v) j ≡ contains s j
unfolding contains word_of changed max_cpu_id
changed_other s id j v t h n k =
    both (ltb j 1024)
    (λ l. rw l (both (eqb (j / 64) (id / 64))
    (λ e. let q : j / 64 ≡ id / 64 = eqb-true _ _ e in
    rw (q, get_or-set_same s.set (id / 64) v 0 (rw t.sized (omega arith))) (k (λ r. n (omega arith))))
    (λ e. rw (get_or-set_other s.set (id / 64) (j / 64) v 0 (eqb-false _ _ e)))))
    (λ l. rw l)

module _ (s : CpuSet) (t : Sixteen s) (id : ℕ) where
  pub sixteen_insert : Sixteen (insert s id)
  unfolding insert changed
  sixteen_insert = both (ltb id max_cpu_id) (λ l. rw l (changed_sixteen s id (set_bit (word_of s id) id) t (set_small _ id (word_small s t id)))) (λ l. rw l t)

  pub sixteen_remove : Sixteen (remove s id)
  unfolding remove changed
  sixteen_remove = both (ltb id max_cpu_id) (λ l. rw l (changed_sixteen s id (clear_bit (word_of s id) id) t (clear_small _ id (word_small s t id)))) (λ l. rw l t)

  -- A NUMBER THAT WAS INSERTED IS IN THE SET, ONE THAT WAS REMOVED IS NOT, AND ANOTHER NUMBER IS IN IT AS BEFORE
  pub insert_same : id < max_cpu_id → contains (insert s id) id ≡ true
  unfolding insert changed
  insert_same h = rw (lt-ltb _ _ h) (changed_same s id (set_bit (word_of s id) id) t h ∙ set_same (word_of s id) id)

  pub insert_other : (j : ℕ) → (j ≡ id → ⊥) → contains (insert s id) j ≡ contains s j
  unfolding insert changed
  insert_other j n =
      both (ltb id max_cpu_id)
      (λ l. rw l (changed_other s id j (set_bit (word_of s id) id) t (ltb-true _ _ l) n (set_other (word_of s id) id j)))
      (λ l. rw l)

  pub remove_same : contains (remove s id) id ≡ false
  unfolding remove changed
  remove_same =
      both (ltb id max_cpu_id)
      (λ l. rw l (changed_same s id (clear_bit (word_of s id) id) t (ltb-true _ _ l) ∙ clear_same (word_of s id) id))
      (λ l. rw l (outside s id (ltb-false _ _ l)))

  pub remove_other : (j : ℕ) → (j ≡ id → ⊥) → contains (remove s id) j ≡ contains s j
  unfolding remove changed
  remove_other j n =
      both (ltb id max_cpu_id)
      (λ l. rw l (changed_other s id j (clear_bit (word_of s id) id) t (ltb-true _ _ l) n (clear_other (word_of s id) id j)))
      (λ l. rw l)

-- ---- the empty set and the full one

get_d_replicate : (n x i : ℕ) → i < n → get_or (replicate n x) i 0 ≡ x
get_d_replicate zero x i h = absurd (omega arith)
get_d_replicate (suc n) x zero h = refl
get_d_replicate (suc n) x (suc i) h = get_d_replicate n x i (omega arith)

replicate_small : (n x m : ℕ) → x < m → 0 < m → (i : ℕ) → get_or (replicate n x) i 0 < m
replicate_small zero x m h z i = z
replicate_small (suc n) x m h z zero = h
replicate_small (suc n) x m h z (suc i) = replicate_small n x m h z i

pub sixteen_empty : Sixteen empty
unfolding empty
sixteen_empty = record { sized = length-replicate {A = ℕ} 16 0; small = replicate_small 16 0 (2 ^ 64) (omega arith) (omega arith) }

pub sixteen_all : Sixteen all
unfolding all
sixteen_all = record { sized = length-replicate {A = ℕ} 16 18446744073709551615; small = replicate_small 16 18446744073709551615 (2 ^ 64) (omega arith) (omega arith) }

-- THE EMPTY SET HAS NO NUMBER, THE FULL ONE EVERY NUMBER BELOW 1,024
pub contains_empty : (id : ℕ) → contains empty id ≡ false
unfolding contains empty word_of max_cpu_id
contains_empty id =
    both (ltb id 1024)
    (λ l. let h : id < 1024 = ltb-true _ _ l in
    rw (l, get_d_replicate 16 0 (id / 64) (omega arith)) (zero_bit 0 id (zero_digit (id % 64))))
    (λ l. rw l)

pub contains_all : (id : ℕ) → contains all id ≡ ltb id max_cpu_id
unfolding contains all word_of max_cpu_id
contains_all id =
    both (ltb id 1024)
    (λ l. let h : id < 1024 = ltb-true _ _ l in
    rw (l, get_d_replicate 16 18446744073709551615 (id / 64) (omega arith)) (one_bit 18446744073709551615 id (ones_digit 64 (id % 64) (omega arith))))
    (λ l. rw l)

-- A SET IS EMPTY IF AND ONLY IF NO NUMBER IS IN IT
no_bits_at : (ws : List ℕ) (k : ℕ) → no_bits ws k ≡ true → (i : ℕ) → i < k → get_or ws i 0 ≡ 0
unfolding no_bits
no_bits_at ws zero e i h = absurd (omega arith)
no_bits_at ws (suc k) e i h =
    both (eqb (get_or ws k 0) 0)
    (λ z. both (eqb i k) (λ q. rw (eqb-true i k q) (eqb-true _ _ z))
    (λ q. let n : i ≡ k → ⊥ = eqb-false i k q in no_bits_at ws k (rw z at e) i (omega arith)))
    (λ z. let b : ◌≡◌ {A = Bool} false true = rw z at e in absurd (false≢true b))

at_no_bits : (ws : List ℕ) (k : ℕ) → ((i : ℕ) → i < k → get_or ws i 0 ≡ 0) → no_bits ws k ≡ true
unfolding no_bits
at_no_bits ws zero h = refl
at_no_bits ws (suc k) h = rw (eq-eqb _ _ (h k (omega arith))) (at_no_bits ws k (λ i l. h i (omega arith)))

pub empty_none : (s : CpuSet) → is_empty s ≡ true → (id : ℕ) → contains s id ≡ false
unfolding is_empty contains word_of max_cpu_id
empty_none s e id =
    both (ltb id 1024)
    (λ l. let h : id < 1024 = ltb-true _ _ l in
    rw (l, no_bits_at s.set 16 e (id / 64) (omega arith)) (zero_bit 0 id (zero_digit (id % 64))))
    (λ l. rw l)

pub none_empty : (s : CpuSet) → Sixteen s → ((id : ℕ) → contains s id ≡ false) → is_empty s ≡ true
unfolding is_empty contains word_of max_cpu_id
none_empty s t n =
    at_no_bits s.set 16
    (λ i l. all_zero 64 (get_or s.set i 0) (t.small i)
    (λ k m.
    let q : (i * 64 + k) / 64 ≡ i = omega arith in
    let r : (i * 64 + k) % 64 ≡ k = omega arith in
    let b : i * 64 + k < 1024 = omega arith in
    let z : contains s (i * 64 + k) ≡ false = n (i * 64 + k) in
    let y : bit (get_or s.set ((i * 64 + k) / 64) 0) (i * 64 + k) ≡ false = rw (lt-ltb _ _ b) at z in
    let x : bit (get_or s.set i 0) (i * 64 + k) ≡ false = rw q at y in
    rw r at (bit_zero (get_or s.set i 0) (i * 64 + k) x)))
