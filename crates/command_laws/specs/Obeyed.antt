-- A COMMAND THAT IS OBEYED, any of the table: memory and answer are those of the rules.
use Rattle.std.specs.Prelude.{ℕ, ◌≡◌}
use Rattle.lines.specs.Lines.{refusal_number}
use Rattle.command.specs.Lent.{Lent}
use Rattle.processor.specs.Left.{Left}
use Rattle.outcome.specs.declared.answer.Answered.{Answered}

-- ---- of any memory: it is answered as obeyed, and takes n bytes

pub record Obeyed (n : ℕ) (d : Left Answered Lent) : Type 0 where
  pub number : refusal_number d.answer.answer.refusal ≡ 0
  pub used : d.answer.used ≡ n
