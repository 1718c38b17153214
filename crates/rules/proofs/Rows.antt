-- "Edge table (rows to be proved)": the ten rows, as numbers, checked against the definitions by one theorem over the table.
use Rattle.std.specs.Prelude.{ℕ, zero, suc, ltb, ◌≡◌, refl, true, false, List, [], ◌∷◌, ◌++◌, Option, None, Some}
use Rattle.std.proofs.Common.{arith, lt-ltb}
use Rattle.rules.specs.declared.choice.Pair.{Pair}
use Rattle.rules.specs.declared.PriorityClass.TheVariants as class
use Rattle.rules.specs.declared.Priority.{Priority}
use Rattle.rules.specs.Priority.{class_number, from_raw}
use Rattle.rules.specs.Draw.{next_state, draw}
use Rattle.rules.specs.Times.{timeslice}
use Rattle.rules.specs.Queue.{Queue, no_queue, insert, take, timeshare_bucket}
use Rattle.rules.specs.Choice.{score, weigh, extremes, pair_of, choose_cpu_balance}
use Rattle.rules.specs.Laws.Computed.{computed}

-- a priority as its class and its value
numbers : Priority → List ℕ
numbers p = class_number p.class ∷ p.value ∷ []

-- the timeshare bucket at a filling and an emptying index
bucket_at : ℕ → ℕ → ℕ → ℕ
bucket_at filling emptying value =
    timeshare_bucket (record { realtime = []; timeshare = []; insert_idx = filling; take_idx = emptying; idle = [] }) value false

-- the first n draws of a CPU
draws : ℕ → ℕ → ℕ → List ℕ
draws zero cpu state = []
draws (suc n) cpu state = draw (next_state cpu state) ∷ draws n cpu (next_state cpu state)

-- a Realtime thread whose number is its value is put in
put_realtime : ℕ → Queue → Queue
put_realtime v q = insert q (record { thread = v; class = class.Realtime; value = v; current = false; due = false })

-- who is handed out first
number : Option ℕ → List ℕ
number None = []
number (Some x) = x ∷ []

first_out : Queue → List ℕ
first_out q = number (take (λ x. false) q false).out

-- a donor and a recipient
pair_numbers : Option Pair → List ℕ
pair_numbers None = []
pair_numbers (Some p) = p.donor ∷ p.recipient ∷ []

-- row 10: loads 1, 2, 3 on CPUs 0, 1, 2
unfoldable pub row_10_load : ℕ → ℕ
row_10_load c = suc c

-- what the table says, a row to a line, row 5 as request 2026-04 has it; row 10: no donor and no recipient
pub given : List (List ℕ)
given =
    (100 ∷ 32 ∷ 2 ∷ 2 ∷ 2 ∷ [])
    ∷ (2 ∷ 127 ∷ [])
    ∷ (3 ∷ 16 ∷ [])
    ∷ (0 ∷ 0 ∷ 1 ∷ 7 ∷ [])
    ∷ (7 ∷ [])
    ∷ (4 ∷ [])
    ∷ (7 ∷ [])
    ∷ (0 ∷ 5 ∷ 36287 ∷ 1 ∷ [])
    ∷ (20 ∷ [])
    ∷ []
    ∷ []

-- what the definitions give
pub found : List (List ℕ)
found =
    (timeslice 2 class.User 0 ∷ timeslice 2 class.User 1 ∷ timeslice 2 class.User 15 ∷ timeslice 2 class.User 16 ∷ timeslice 2 class.User 17 ∷ [])
    ∷ numbers (from_raw 0x0002ffff)
    ∷ numbers (from_raw 0x00050010)
    ∷ (bucket_at 0 0 127 ∷ bucket_at 0 0 113 ∷ bucket_at 0 0 112 ∷ bucket_at 0 0 1 ∷ [])
    ∷ (bucket_at 0 0 0 ∷ [])
    ∷ (bucket_at 3 5 96 ∷ [])
    ∷ (bucket_at 1 0 16 ∷ [])
    ∷ (draws 3 0 0 ++ draws 1 1 0)
    ∷ first_out (put_realtime 20 (put_realtime 100 no_queue))
    ∷ pair_numbers (choose_cpu_balance 0 (λ c. true) row_10_load (0 ∷ 1 ∷ 2 ∷ []) 0).found
    ∷ []

-- all ten rows
pub rows : found ≡ given
unfolding computed numbers bucket_at draws put_realtime number first_out pair_numbers row_10_load given found
rows = refl

-- Row 10 whichever CPU asks and whatever its draw state is: each CPU raises the highest score, so none is tested for the lowest.
rises : (l a b : ℕ) → ltb (score l a) (score (suc l) b) ≡ true
unfolding score
rises l a b = lt-ltb (score l a) (score (suc l) b) (omega arith)

above_0 : (a : ℕ) → ltb 0 (score 1 a) ≡ true
unfolding score
above_0 a = lt-ltb 0 (score 1 a) (omega arith)

pub row_10 : (us draws : ℕ) → (choose_cpu_balance us (λ c. true) row_10_load (0 ∷ 1 ∷ 2 ∷ []) draws).found ≡ None
unfolding choose_cpu_balance extremes weigh row_10_load pair_of
row_10 us draws = rw (above_0, rises 1, rises 2)
