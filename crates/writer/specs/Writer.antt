-- What the declared answer stands for, and the questions put to a command whose operands have n bytes.
use Rattle.std.specs.Prelude.{ℕ, ◌+◌, Bool, cond, List, length, ltb, Result, Ok, Err}
use Rattle.std.proofs.lemmas.List.Edits.{sets}
use Rattle.rules.specs.Writer as rules
use Rattle.request.specs.Request.{limits_of}
use Rattle.request.specs.Fields.{list_of}
use Rattle.request.specs.declared.fields.Fields.{Fields}
use Rattle.lines.specs.declared.Refusal.{Refusal}
use Rattle.lines.specs.Lines.{question_number}

unfoldable pub written_of : Result ℕ Refusal → rules.Written
written_of (Ok n) = rules.bytes n
written_of (Err r) = rules.refused (question_number r)

unfoldable pub no_misfit : Bool → ℕ → List ℕ → Bool
no_misfit wide byte fields = (rules.no_misfit (limits_of wide) byte fields).answer

unfoldable pub known_answer : Bool → ℕ → ℕ → List ℕ → ℕ → rules.Written
known_answer wide byte n fields room = cond (no_misfit wide byte fields) (cond (ltb n room) (rules.bytes (n + 1)) (rules.refused 12)) (rules.refused 6)

unfoldable pub known_buffer : Bool → ℕ → ℕ → List ℕ → List ℕ → List ℕ
known_buffer wide byte n fields buffer =
    cond (no_misfit wide byte fields) (cond (ltb n (length buffer)) (sets buffer 0 (rules.bytes_of (limits_of wide) byte fields)) buffer) buffer

abbrev pub known : Bool → ℕ → ℕ → Fields → List ℕ → rules.Written
known wide byte n fields buffer = known_answer wide byte n (list_of fields) (length buffer)

abbrev pub known_after : Bool → ℕ → ℕ → Fields → List ℕ → List ℕ
known_after wide byte n fields buffer = known_buffer wide byte n (list_of fields) buffer

-- what the writer answers, and what is left of the buffer, by the rules
abbrev pub answer : Bool → ℕ → Fields → List ℕ → rules.Written
answer wide byte fields buffer = rules.write_answer (limits_of wide) byte (list_of fields) (length buffer)

abbrev pub buffer_after : Bool → ℕ → Fields → List ℕ → List ℕ
buffer_after wide byte fields buffer = rules.buffer_with (limits_of wide) byte (list_of fields) buffer
