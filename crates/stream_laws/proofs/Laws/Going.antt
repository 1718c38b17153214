-- What holds of a run between and within calls of `feed`, and what is left to write.
use Rattle.std.specs.Prelude.{ℕ, suc, ◌+◌, ◌*◌, ◌%◌, ◌^◌, ◌≤◌, ◌<◌, ◌≡◌, refl, true, cond, List, [], ◌++◌, length, take, drop, eqb}
use Rattle.std.proofs.Common.{ap, ◌∙◌, length-append, take_at, length-take-le, arith, mod-eq_of_lt}
use Rattle.std.proofs.Math.Seq.{length-sets}
use borrow.Author.Tests.{leb-true}
use Rattle.rules.specs.Puts.{PutOrTake}
use Rattle.rules.specs.State.{base_limits, State}
use Rattle.rules.proofs.Laws.Limits.{SameButShortest}
use Rattle.rules.specs.Lines.{header, end_line, lines_from}
use Rattle.thread.specs.declared.Thread.{Thread}
use Rattle.lines.specs.Lines.{room, rendered, buffer_with}
use Rattle.lines.proofs.Laws.{rendered_whole, buffer_whole}
use Rattle.stream.specs.declared.progress.Progress.{Progress}
use Rattle.stream.specs.Progress.{HEADER, COMMANDS, END, ENDED, written}
use Rattle.represents.specs.State.{StateRep}
use Rattle.command_laws.specs.Law.{Reachable}

-- ---- what is left to write, in state s and phase p, for the bytes that are not taken yet

unfoldable pub left_at : State → (phase number refused : ℕ) → List ℕ → List ℕ
left_at s phase number refused bytes =
    cond (eqb phase HEADER) (header ++ lines_from (length bytes) s number refused bytes)
    (cond (eqb phase COMMANDS) (lines_from (length bytes) s number refused bytes)
    (cond (eqb phase END) (end_line number refused) []))

abbrev pub left : State → Progress → List ℕ → List ℕ
left s f bytes = left_at s f.phase f.number f.refused bytes

pub left_header : (s : State) (number refused : ℕ) (bytes : List ℕ) → left_at s HEADER number refused bytes ≡ header ++ left_at s COMMANDS number refused bytes
unfolding left_at
left_header s number refused bytes = refl

pub left_commands : (s : State) (number refused : ℕ) (bytes : List ℕ) → left_at s COMMANDS number refused bytes ≡ lines_from (length bytes) s number refused bytes
unfolding left_at
left_commands s number refused bytes = refl

pub left_end : (s : State) (number refused : ℕ) (bytes : List ℕ) → left_at s END number refused bytes ≡ end_line number refused
unfolding left_at
left_end s number refused bytes = refl

pub left_ended : (s : State) (number refused : ℕ) (bytes : List ℕ) → left_at s ENDED number refused bytes ≡ []
unfolding left_at
left_ended s number refused bytes = refl

-- ---- between calls: memory stands for a state that calls reach, and no count wraps

pub record Going (ts : List Thread) (cs ns : List (List ℕ)) (f : Progress) (s : State) : Type 0 where
  pub history : ℕ → List PutOrTake
  pub stands : StateRep ts cs ns f.state s
  pub reachable : Reachable history s
  pub base : SameButShortest base_limits s.limits
  pub number_fits : f.number ≤ 4294967295
  pub goes_on : f.phase < END → f.number ≤ 4294967294
  pub refused_fits : f.refused ≤ f.number
  pub phase_fits : f.phase ≤ ENDED

-- ---- within a call: n bytes in hand, and the buffer

pub record Within (n : ℕ) (out : List ℕ) (f : Progress) : Type 0 where
  pub taken : f.at ≤ n
  pub done_fits : f.done ≤ length out
  pub small : length out < 2 ^ 64
  pub short : f.done ≤ 48 * suc f.at

-- ---- a line of at most 48 bytes where there is room

module _ (out : List ℕ) (done : ℕ) (l : List ℕ) (there : room out done ≡ true) (most : length l ≤ 48) where
  pub line_in : done + length l ≤ length out
  unfolding room
  line_in = omega (arith, leb-true (done + 48) (length out) there)

  pub done_after : length out < 2 ^ 64 → (done + written (rendered out done l)) % 2 ^ 64 ≡ done + length l
  unfolding written
  done_after h = rw (rendered_whole out done l there line_in) (mod-eq_of_lt (omega (arith, line_in)))

  pub taken_after : take (done + length l) (buffer_with out done l) ≡ take done out ++ l
  taken_after =
      ap (take (done + length l)) (buffer_whole out done l there line_in)
      ∙ take_at (take done out ++ l) (drop (done + length l) out) (done + length l) (rw (length-append, length-take-le done out (omega (arith, line_in))))

pub length_after : (out : List ℕ) (done : ℕ) (l : List ℕ) → room out done ≡ true → length (buffer_with out done l) ≡ length out
unfolding buffer_with
length_after out done l there = rw there (length-sets out done l)
