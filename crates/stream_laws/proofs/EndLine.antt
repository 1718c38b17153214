-- The rules' output of every stream ends with an end line.
use Rattle.std.specs.Prelude.{ℕ, zero, suc, ◌+◌, refl, List, [], ◌++◌, length}
use Rattle.std.proofs.Common.{ap, sym, ◌∙◌, append_assoc}
use Rattle.rules.proofs.Laws.Line.{both}
use Rattle.rules.specs.State.{Limits, State, start}
use Rattle.rules.specs.Commands.{step}
use Rattle.rules.specs.Requests.{read, past}
use Rattle.rules.specs.Lines.{header, line, end_line, ends, used, refused_by, no_bytes, lines_from, output}
use Rattle.stream_laws.specs.EndLine.{EndsWithEndLine}

end_alone : (m r : ℕ) → EndsWithEndLine (end_line m r)
end_alone m r = record { before = []; commands = m; refused = r; is = refl }

end_behind : (l : List ℕ) {b : List ℕ} → EndsWithEndLine b → EndsWithEndLine (l ++ b)
end_behind l e = record {
  before = l ++ e.before;
  commands = e.commands;
  refused = e.refused;
  is = ap (λ (b : List ℕ). l ++ b) e.is ∙ sym (append_assoc l e.before (end_line e.commands e.refused));
}

lines_end : (k : ℕ) (s : State) (number refused : ℕ) (bytes : List ℕ) → EndsWithEndLine (lines_from k s number refused bytes)
unfolding lines_from
lines_end zero s number refused bytes = end_alone number refused
lines_end (suc k) s number refused bytes =
    both (no_bytes bytes) (λ e. rw e (end_alone number refused))
    (λ e. rw e (end_behind (line number (step s bytes).answer)
    (both (ends number (step s bytes).answer.refused) (λ f. rw f (end_alone (number + 1) _))
    (λ f. rw f (lines_end k (step s bytes).state (number + 1) (refused + refused_by (step s bytes).answer) (past (used (read s.limits bytes)) bytes))))))

pub output_ends : (limits : Limits) (bytes : List ℕ) → EndsWithEndLine (output limits bytes)
unfolding output
output_ends limits bytes = end_behind header (lines_end (length bytes) (start limits) 0 0 bytes)
