use Rattle.std.proofs.Common.{◌≡◌, None, sym, ◌∙◌, arith, rules}
use Rattle.std.proofs.lemmas.Result.{err_from_is_err_and}
use Rattle.lines.specs.declared.Refusal.TheVariants as refusal
use Rattle.lines.specs.Lines.{question_number}
use Rattle.writer.specs.Writer.{written_of}
use Rattle.writer.proofs.Large.{large_answer}
use Rattle.writer.proofs.Rows.{unknown_answer, known_is}
use Rattle.writer.proofs.write_command.Goals as goal

pub returns-in_default : goal.returns-in_default
unfolding written_of question_number
returns-in_default c = large_answer _ _ _ _ (omega (arith, c.in_default.ensures))

pub returns-in_err-n : goal.returns-in_err-n
unfolding written_of question_number
returns-in_err-n c =
    let p = err_from_is_err_and c.from_residual.result c.from_residual.ensures.1 in
    let none : c.operand_bytes.result ≡ None = grind arith in
    let refused : c.in_err-n.field-0.0 ≡ refusal.UnknownCommand = cc (rw none at c.in_err-n.ensures.value) in
    let same : c.in-Ok.byte ≡ c.args.byte = search rules in
    rw (p.1, p.2, refused, ← same) (unknown_answer _ _ _ _ (sym c.operand_bytes.ensures ∙ none))

pub returns : goal.returns
returns c =
    let same : c.in-Ok.byte ≡ c.args.byte = search rules in
    rw (← same) (known_is _ _ _ _ _ (sym c.operand_bytes.ensures ∙ c.in_ok-n.ensures.ok_part) _ _ c.write_known.ensures)
