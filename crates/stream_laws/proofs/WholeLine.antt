-- THE LINE IN THE LENT BUFFER. Document 01, question 11: "has the lent buffer at least 48 bytes? 11 (Bytes past a rendered line keep their content.)" A yes
-- obliges the whole line. A reader reads specs/WholeLine, and of this file all but the lemma `line_whole`, after demands' Calls.
use Rattle.std.specs.Prelude.{ℕ, ◌≤◌, ◌≡◌, List, length}
use Rattle.std.proofs.Common.{sym, ap, ◌∙◌, le-leb, arith, zero-add}
use Rattle.std.proofs.lemmas.Bool.{lt-leb}
use Rattle.rules.specs.State.{base_limits, start}
use Rattle.rules.specs.Commands as rules
use Rattle.rules.specs.Commands.{step, after_calls}
use Rattle.rules.proofs.Laws.Reached.{limits_kept}
use Rattle.rules.specs.Lines.{line}
use Rattle.lines.specs.declared.Answer.{Answer}
use Rattle.lines.specs.Lines.{answer_of, room, rendered, buffer_with}
use Rattle.lines.proofs.Laws.{rendered_whole, buffer_whole}
use Rattle.demands.specs.Calls.{LentState, Ready, call, after}
use Rattle.demands.proofs.Laws.Kept.{follows_start, follows_after}
use Rattle.demands.proofs.Demand2.{demand_2_step}
use Rattle.stream_laws.proofs.Laws.Length.{line_fits}
use Rattle.stream_laws.specs.WholeLine.{WholeLine}

-- an answer that is the rules', with a line of at most 48 bytes
line_whole : (buffer : List ℕ) (number : ℕ) (answer : Answer) (r : rules.Answer) → answer_of answer ≡ r → length (line number r) ≤ 48
    → WholeLine buffer number answer (line number r)
unfolding room rendered buffer_with
line_whole buffer number answer r e short =
    let same : line number (answer_of answer) ≡ line number r = ap (line number) e in
    record {
      fits = short;
      written = λ h. ap (rendered buffer 0) same ∙ rendered_whole buffer 0 (line number r) (le-leb 48 (length buffer) h) (omega arith);
      holds = λ h.
          ap (buffer_with buffer 0) same
          ∙ (rw (zero-add (length (line number r))) at (buffer_whole buffer 0 (line number r) (le-leb 48 (length buffer) h) (omega arith)));
      refused = λ h. rw (lt-leb 48 (length buffer) h);
      as_found = λ h. rw (lt-leb 48 (length buffer) h);
    }

-- THE THEOREM: h is what `start` left when it answered Ready. After every list of calls, one more call on any bytes is answered, and the answer is rendered with
-- any number, so any of 64 bits, into any lent buffer: what is written whole is the line that the rules give over the same bytes.
pub whole_line : (h : LentState) → Ready h → (calls : List (List ℕ)) (bytes : List ℕ) (number : ℕ) (buffer : List ℕ)
    → WholeLine buffer number (call (after h calls) bytes).answer.answer (line number (step (after_calls (start base_limits) calls) bytes).answer)
unfolding answer_of start
whole_line h ready calls bytes number buffer =
    let s = after_calls (start base_limits) calls in
    let answer : Answer = (call (after h calls) bytes).answer.answer in
    let ruled = (demand_2_step h ready calls bytes).answer in
    let f = follows_after h (start base_limits) calls (follows_start h ready) in
    line_whole buffer number answer (step s bytes).answer ruled
    (line_fits s bytes number answer.refusal f.reachable.reached (limits_kept (start base_limits) calls) (ap (λ (x : rules.Answer). x.refused) (sym ruled)))
