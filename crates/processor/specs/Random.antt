-- The draw of a CPU.
use Rattle.std.specs.Prelude.{◌≡◌, ℕ, ◌+◌, ◌*◌, ◌/◌, ◌%◌}
use Rattle.std.proofs.Common.{sym, ap, ◌∙◌, arith}
use Rattle.std.proofs.Math.Nat.{mul-add-mod_self_left}
use Rattle.rules.specs.Draw.{next_state, draw}
use Rattle.processor.specs.Left.{Words, Left}
use Rattle.processor.specs.Word.{RAND_STATE}
use Rattle.processor.specs.Words.{word, put_word}

-- one draw of CPU c, of the state that it is left with
unfoldable pub quick_random_def : ℕ → Words → Left ℕ Words
quick_random_def c cs = record {
  answer = draw (next_state c (word cs c RAND_STATE));
  memory = put_word cs c RAND_STATE (next_state c (word cs c RAND_STATE));
}

-- ---- for the proof

-- the low 32 bits of a product come from the low 32 bits of a factor
pub low_product : (a : ℕ) → a % 4294967296 * 69069 % 4294967296 ≡ a * 69069 % 4294967296
low_product a =
    let e : a * 69069 ≡ 4294967296 * (a / 4294967296 * 69069) + a % 4294967296 * 69069 = omega arith in
    sym (ap (λ (n : ℕ). n % 4294967296) e ∙ mul-add-mod_self_left 4294967296 (a / 4294967296 * 69069) (a % 4294967296 * 69069))
