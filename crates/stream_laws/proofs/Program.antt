-- THE PROGRAM'S BUFFERS AND THE BYTES THAT IT KEEPS. `replay` (replay/src/main.rt) reads into an input of 4,096 bytes behind the bytes left over, feeds it with an output
-- of 32,768 bytes, writes what `feed` wrote, and moves the bytes not taken to the front by `keep` (stream/src/block.rt). Where that call left no room for a line it
-- feeds the bytes left over before it reads again. A reader reads the statements of this file, after Calls and Output.
use Rattle.std.specs.Prelude.{ℕ, zero, suc, ◌+◌, ◌-◌, ◌≤◌, ◌≡◌, ◌≢◌, true, false, List, [], ◌∷◌, ◌++◌, length, take, drop, eqb}
use Rattle.std.proofs.Common.{sym, ◌∙◌, arith, length-drop, take_at, length-take-le, le-ltb, eqb-true}
use Rattle.std.proofs.Math.Seq.{take-nil}
use Rattle.std.proofs.lemmas.Bool.{eqb-false}
use Rattle.rules.proofs.Laws.Line.{both}
use Rattle.stream.specs.Progress.{ENDED}
use Rattle.blocks.specs.Block.{kept_count, kept_bytes}
use Rattle.demands.specs.Calls.{LentState, Ready}
use Rattle.stream_laws.specs.Calls.{Call, Run, in_hand, after, room_left, after_all, stream, Proper, Settled, over, few, begun}
use Rattle.stream_laws.specs.Taken.{EndedWithin}
use Rattle.stream_laws.proofs.Laws.Fold.{next_settled, next_ends, next_by_command, next_full}

-- h is what `start` left when it answered Ready; c is a call with the program's output, after any calls.
module _ (h : LentState) (ready : Ready h) (calls : List Call) (c : Call) (to_come : List ℕ) (p : Proper (calls ++ (c ∷ [])) to_come) (size : length c.buffer ≡ 32768) where
  abbrev r : Run
  r = after_all (begun h) calls

  few_left : Settled (after r c) → (after r c).fed.phase ≢ ENDED → length (after r c).left_over ≤ 8
  few_left (over e) n = absurd (n e)
  few_left (few l) n = l

  enough : 48 ≤ length c.buffer
  enough = rw size (omega arith)

  -- A call that leaves no room for a line has taken 681 bytes or more: the program feeds a block of 4,096 bytes in at most seven calls.
  pub full_taken : room_left r c ≡ false → (after r c).fed.phase ≢ ENDED → length (after r c).left_over + 681 ≤ length (in_hand r c)
  full_taken e n = omega (arith, size, next_full h ready calls c to_come p e n)

  -- The program reads after a call that left room for a line. Until the end line is written at most eight bytes are then left over, so that every read has room for
  -- 4,088 bytes or more: one that adds none is the end of the input.
  pub room_to_read : room_left r c ≡ true → (after r c).fed.phase ≢ ENDED → length (after r c).left_over + 4088 ≤ 4096
  room_to_read e n = omega (arith, few_left (next_settled h ready calls c to_come p enough e) n)

  -- So the call at the end of the input, with these bytes alone, writes the end line; feed_ended says that the output is then whole.
  pub ended_at_last : c.last ≡ true → length (in_hand r c) ≤ 8 → (after r c).fed.phase ≡ ENDED
  ended_at_last l few_bytes =
      both (room_left r c) (λ e. next_ends h ready calls c to_come p enough e l)
      (λ e. both (eqb (after r c).fed.phase ENDED) (λ z. eqb-true (after r c).fed.phase ENDED z)
      (λ z. absurd (omega (arith, size, next_full h ready calls c to_come p e (eqb-false (after r c).fed.phase ENDED z)))))

  -- Without an end of the input: once the blocks given hold a command that ends the run, the end line is written by a call that leaves room for a line.
  pub ended_by_command : room_left r c ≡ true → EndedWithin (stream (calls ++ (c ∷ []))) → (after r c).fed.phase ≡ ENDED
  ended_by_command e d = next_by_command h ready calls c to_come p enough e d

drop_take : (k n : ℕ) (l : List ℕ) → drop k (take n l) ≡ take (n - k) (drop k l)
drop_take zero n l = let e : n - 0 ≡ n = omega arith in rw e
drop_take (suc k) zero l = let e : 0 - suc k ≡ 0 = omega arith in rw e
drop_take (suc k) (suc n) [] = sym (take-nil (suc n - suc k))
drop_take (suc k) (suc n) (x ∷ l) = let e : suc n - suc k ≡ n - k = omega arith in rw e (drop_take k n l)

-- What `keep` moves to the front of the input, of whose first n bytes `feed` took those before `at`, is what Calls calls left over: drop w.fed.at (in_hand r c).
pub kept_left_over : (input : List ℕ) (at n : ℕ) → n ≤ length input → take (kept_count input at n) (kept_bytes input at n) ≡ drop at (take n input)
unfolding kept_bytes kept_count
kept_left_over input at n h = rw (le-ltb (length input) n h) (take_at (take (n - at) (drop at input)) _ (n - at) (length-take-le (n - at) (drop at input) (simp length-drop (omega arith))) ∙ sym (drop_take at n input))
