-- There are such calls: any stream cut into blocks of at most 4,096 bytes, each fed with one buffer of 262,144 bytes, and then a call with no new byte that says
-- `last`.
use Rattle.std.specs.Prelude.{ℕ, ◌≡◌, refl, true, List, [], ◌∷◌, ◌++◌, length}
use Rattle.std.proofs.Common.{ap, ◌∙◌, arith}
use Rattle.std.proofs.lemmas.Bool.{false≢true}
use Rattle.rules.specs.State.{base_limits, start}
use Rattle.rules.specs.Requests.{widths, read_operands, read}
use Rattle.rules.specs.Commands.{nothing_shown, refuses, answered, step}
use Rattle.rules.specs.Lines.{ends, no_bytes, output}
use Rattle.demands.specs.Calls.{LentState, Ready}
use Rattle.stream_laws.specs.Calls.{outputs, stream, Proper, Roomy, says_last, begun}
use Rattle.stream_laws.specs.Laws.Reading.{is_whole}
use Rattle.stream_laws.specs.Taken.{says, does, after_commands, EndedWithin}
use Rattle.stream_laws.proofs.Output.{feed_output}
use Rattle.stream_laws.specs.Witness.{Short, fed_with, joined}

stream_joined : (buffer : List ℕ) (blocks : List (List ℕ)) → stream (fed_with buffer blocks) ≡ joined blocks
unfolding stream fed_with joined
stream_joined buffer [] = refl
stream_joined buffer (block ∷ blocks) = ap (λ (l : List ℕ). block ++ l) (stream_joined buffer blocks)

proper : (buffer : List ℕ) (blocks : List (List ℕ)) → length buffer ≡ 262144 → Proper (fed_with buffer blocks) []
unfolding Proper fed_with stream
proper buffer [] e = (λ t. refl, (rw e (omega arith), tt))
proper buffer (block ∷ blocks) e = (λ t. absurd (false≢true t), (rw e (omega arith), proper buffer blocks e))

roomy : (buffer : List ℕ) (blocks : List (List ℕ)) → length buffer ≡ 262144 → Short blocks → Roomy (fed_with buffer blocks)
unfolding Roomy fed_with Short
roomy buffer [] e h = (rw e (omega arith), tt)
roomy buffer (block ∷ blocks) e h = (rw e (omega (arith, h.0)), roomy buffer blocks e h.1)

last_said : (buffer : List ℕ) (blocks : List (List ℕ)) → says_last (fed_with buffer blocks) ≡ true
unfolding says_last fed_with
last_said buffer [] = refl
last_said buffer (block ∷ []) = refl
last_said buffer (block ∷ next ∷ blocks) = last_said buffer (next ∷ blocks)

pub blocks_output : (h : LentState) → Ready h → (buffer : List ℕ) (blocks : List (List ℕ)) → length buffer ≡ 262144 → Short blocks
    → outputs (begun h) (fed_with buffer blocks) ≡ output base_limits (joined blocks)
blocks_output h ready buffer blocks e s =
    feed_output h ready (fed_with buffer blocks) (proper buffer blocks e) (roomy buffer blocks e s) (last_said buffer blocks)
    ∙ ap (output base_limits) (stream_joined buffer blocks)

-- And there are bytes that hold a command that ends the run: those that begin with one that no command has.
pub ended_at_once : (bytes : List ℕ) → EndedWithin (0 ∷ bytes)
unfolding after_commands no_bytes says is_whole read read_operands widths ends does step answered refuses nothing_shown start base_limits
ended_at_once bytes = record { number = 0; there = refl; whole = refl; ended = refl }
