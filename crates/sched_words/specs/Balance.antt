-- The choices of `balance`: until one moves a thread, twenty steps are made, or a donor has no load.
use Rattle.std.specs.Prelude.{◌≡◌, ℕ, zero, suc, ◌-◌, ◌<◌, Bool, true, false, cond, not, ◌||◌, List, length, ◌==◌, nat_le, nat_lt, refl, Option, None, Some, is_some}
use Rattle.std.proofs.Common.{◌∙◌, arith}
use Rattle.rules.proofs.Laws.Line.{both}
use Rattle.rules.specs.Choice.{pair_at, choose_cpu_balance}
use Rattle.queue.specs.Num.{sum}
use Rattle.runqueue.specs.RunQueue.{rq_front}
use Rattle.processor.specs.Left.{Words, Left}
use Rattle.processor.specs.Words.{word, put_word}
use Rattle.processor.proofs.Laws.Words.{length_put}
use Rattle.processor.specs.Queue.{queue_at}
use Rattle.processor.specs.Cpu.{current_load}
use Rattle.topology.specs.CpuSet as set
use Rattle.topology.specs.Walk.{cpus_at}
use Rattle.rules.specs.declared.choice.Chosen.{Chosen}
use Rattle.rules.specs.declared.choice.Pair.{Pair}
use Rattle.choice.specs.Reads.{weight_at}
use Rattle.sched_words.specs.declared.balance.Balancing.{Balancing}
use Rattle.processor.specs.Word.{LOAD, RAND_STATE, MUST_REBALANCE}

-- "`balance` makes at most 20 choices and moves at most two threads": a choice is one step, a move ten more, until twenty steps are made.
abbrev pub max_steps : ℕ
max_steps = 20

unfoldable pub begun : Balancing
begun = record { allowed = set.all; steps = 0; goes_on = true; moves = None }

-- the move was made
unfoldable pub moved : Balancing → Balancing
moved b = record b { moves = None }

unfoldable pub passed : Balancing → Balancing
passed b = record b { steps = sum b.steps 1 }

unfoldable pub stopped : Balancing → Balancing
stopped b = record b { goes_on = false }

-- a choice after which CPU c is no longer allowed
unfoldable pub without : Balancing → ℕ → Balancing
without b c = record b { allowed = set.remove b.allowed c; steps = sum b.steps 1 }

-- a choice that moves a thread; the recipient leaves the allowed set
unfoldable pub moving : Balancing → ℕ → ℕ → Balancing
moving b donor recipient = record b { allowed = set.remove b.allowed recipient; steps = sum b.steps 11; moves = pair_at donor recipient }

unfoldable pub is_done : Balancing → Bool
is_done b = is_some b.moves || (not b.goes_on || nat_le max_steps b.steps)

-- the queue of the donor hands out a thread to the recipient
unfoldable pub hands_out : List (List ℕ) → ℕ → ℕ → Bool
hands_out cs donor recipient = is_some (rq_front (queue_at cs donor) (not (recipient == donor)))

-- load and waiting are of the donor, the running thread counted in the first
unfoldable pub outcome : Balancing → ℕ → ℕ → ℕ → ℕ → Bool → Balancing
outcome b donor recipient load waiting hands =
    cond (nat_lt 0 waiting) (cond hands (moving b donor recipient) (without b recipient)) (cond (load == 1) (without b donor) (passed b))

-- a donor with no load ends it, before it is marked
unfoldable pub pair_step : Balancing → ℕ → ℕ → Words → Left Balancing Words
pair_step b donor recipient cs =
    cond (current_load cs donor == 0) (record { answer = stopped b; memory = cs })
    (record {
      answer = outcome b donor recipient (current_load cs donor) (word cs donor LOAD) (hands_out cs donor recipient);
      memory = put_word cs donor MUST_REBALANCE 1;
    })

unfoldable pub pair_of_def : Balancing → Option Pair → Words → Left Balancing Words
pair_of_def b None cs = record { answer = passed b; memory = cs }
pair_of_def b (Some p) cs = pair_step b p.donor p.recipient cs

-- one choice, with its draws
unfoldable pub chosen_at : List (List ℕ) → List (List ℕ) → ℕ → ℕ → Balancing → Chosen
chosen_at cs ns us limit b = choose_cpu_balance us (set.contains b.allowed) (weight_at cs) (cpus_at ns limit 0) (word cs us RAND_STATE)

unfoldable pub balance_step_def : Words → ℕ → ℕ → Balancing → Words → Left Balancing Words
balance_step_def ns us limit b cs =
    pair_of_def b (chosen_at cs ns us limit b).found (put_word cs us RAND_STATE (chosen_at cs ns us limit b).draws)

-- choices until one moves a thread or it ends, at most so many
unfoldable pub find_move : ℕ → Words → ℕ → ℕ → Balancing → Words → Left Balancing Words
find_move zero ns us limit b cs = record { answer = b; memory = cs }
find_move (suc n) ns us limit b cs =
    cond (is_done b) (record { answer = b; memory = cs })
    (find_move n ns us limit (balance_step_def ns us limit b cs).answer (balance_step_def ns us limit b cs).memory)

-- ---- for the proofs of the code

pub found_done : (n : ℕ) (cs ns : List (List ℕ)) (us limit : ℕ) (b : Balancing) → 0 < n → is_done b ≡ true
    → find_move n ns us limit b cs ≡ record { answer = b; memory = cs }
unfolding find_move
found_done zero cs ns us limit b h e = absurd (omega arith)
found_done (suc n) cs ns us limit b h e = rw e

pub found_next : (n : ℕ) (cs ns : List (List ℕ)) (us limit : ℕ) (b : Balancing) → 0 < n → is_done b ≡ false
    → find_move n ns us limit b cs ≡ find_move (n - 1) ns us limit (balance_step_def ns us limit b cs).answer (balance_step_def ns us limit b cs).memory
unfolding find_move
found_next zero cs ns us limit b h e = absurd (omega arith)
found_next (suc n) cs ns us limit b h e = let d : suc n - 1 ≡ n = omega arith in rw (e, d)

pub found_out : (n : ℕ) (cs ns : List (List ℕ)) (us limit : ℕ) (b : Balancing) → n ≡ 0 → find_move n ns us limit b cs ≡ record { answer = b; memory = cs }
unfolding find_move
found_out n cs ns us limit b e = rw e

length_pair : (cs : List (List ℕ)) (b : Balancing) (donor recipient : ℕ) → length (pair_step b donor recipient cs).memory ≡ length cs
unfolding pair_step
length_pair cs b donor recipient =
    both (current_load cs donor == 0) (λ e. rw e) (λ e. rw e (length_put cs donor MUST_REBALANCE 1))

length_of : (cs : List (List ℕ)) (b : Balancing) (p : Option Pair) → length (pair_of_def b p cs).memory ≡ length cs
unfolding pair_of_def
length_of cs b None = refl
length_of cs b (Some p) = length_pair cs b p.donor p.recipient

-- a choice keeps the number of CPUs
pub length_step : (cs ns : List (List ℕ)) (us limit : ℕ) (b : Balancing) → length (balance_step_def ns us limit b cs).memory ≡ length cs
unfolding balance_step_def
length_step cs ns us limit b = length_of _ b (chosen_at cs ns us limit b).found ∙ length_put cs us RAND_STATE (chosen_at cs ns us limit b).draws
