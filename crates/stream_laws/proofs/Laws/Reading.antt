-- A command that stands whole at the front of some bytes reads the same whatever comes behind them; and how much it takes.
use Rattle.std.specs.Prelude.{ℕ, zero, suc, ◌+◌, ◌-◌, ◌≤◌, ◌≡◌, refl, true, false, cond, List, [], ◌∷◌, ◌++◌, length, eqb, ltb, Option, None, Some}
use Rattle.std.proofs.Common.{sym, ap, ◌∙◌, true≢false, length-append, length-drop, ltb-true, ltb-false, arith}
use Rattle.std.proofs.lemmas.Bool.{false≢true}
use Rattle.std.proofs.lemmas.List.{drop-append-le}
use Rattle.rules.proofs.Laws.Line.{both, of_either}
use Rattle.rules.specs.State.{Limits, State}
use Rattle.rules.specs.Requests.{operand, past, at_least, sum, operands, widths, request, Reading, unknown, cut_short, asks, read_operands, read}
use Rattle.rules.specs.Questions.{refusal}
use Rattle.rules.specs.Commands.{step}
use Rattle.rules.proofs.Laws.Refused.{refused_number}
use Rattle.rules.specs.Lines.{line, end_line, used, ends, refused_by, no_bytes, lines_from}
use Rattle.rules.proofs.Laws.Writer.{past_drop}
use Rattle.request.proofs.Bytes.{enough}
use Rattle.stream_laws.specs.Laws.Reading.{is_whole}

-- ---- the bytes behind

enough_is : (n : ℕ) (l : List ℕ) → at_least n l ≡ true → n ≤ length l
unfolding at_least
enough_is zero l e = omega arith
enough_is (suc n) [] e = absurd (false≢true e)
enough_is (suc n) (b ∷ l) e = omega (arith, enough_is n l e)

operand_more : (n : ℕ) (l m : List ℕ) → n ≤ length l → operand n (l ++ m) ≡ operand n l
unfolding operand
operand_more zero l m h = refl
operand_more (suc n) [] m h = absurd (omega arith)
operand_more (suc n) (b ∷ l) m h = rw (operand_more n l m (omega arith))

pub past_more : (n : ℕ) (l m : List ℕ) → n ≤ length l → past n (l ++ m) ≡ past n l ++ m
past_more n l m h = past_drop n (l ++ m) ∙ drop-append-le n l m h ∙ ap (λ (r : List ℕ). r ++ m) (sym (past_drop n l))

pub past_length : (n : ℕ) (l : List ℕ) → length (past n l) ≡ length l - n
past_length n l = ap length (past_drop n l) ∙ length-drop n l

operands_more : (ns l m : List ℕ) → sum ns ≤ length l → operands ns (l ++ m) ≡ operands ns l
unfolding operands sum
operands_more [] l m h = refl
operands_more (n ∷ ns) l m h =
    rw (operand_more n l m (omega arith), past_more n l m (omega arith))
    (ap (λ (r : List ℕ). operand n l ∷ r) (operands_more ns (past n l) m (omega (arith, past_length n l))))

operands_read : (l : Limits) (byte : ℕ) (bytes m : List ℕ) (o : Option (List ℕ)) → is_whole (read_operands l byte bytes o) ≡ true
    → read_operands l byte (bytes ++ m) o ≡ read_operands l byte bytes o
unfolding read_operands is_whole
operands_read l byte bytes m None e = refl
operands_read l byte bytes m (Some ns) e =
    both (at_least (sum ns) bytes)
    (λ t. let h : sum ns ≤ length bytes = enough_is (sum ns) bytes t in
    rw (t, enough (sum ns) (bytes ++ m) (rw length-append (omega arith)), operands_more ns bytes m h))
    (λ t. absurd (false≢true (rw t at e)))

pub read_more : (l : Limits) (bytes m : List ℕ) → no_bytes bytes ≡ false → is_whole (read l bytes) ≡ true → read l (bytes ++ m) ≡ read l bytes
unfolding read no_bytes
read_more l [] m h e = absurd (true≢false h)
read_more l (byte ∷ bytes) m h e = operands_read l byte bytes m (widths l byte) e

-- ---- how much a command takes

operands_used : (l : Limits) (byte : ℕ) (bytes : List ℕ) (o : Option (List ℕ)) → used (read_operands l byte bytes o) ≤ suc (length bytes)
unfolding read_operands used
operands_used l byte bytes None = omega arith
operands_used l byte bytes (Some ns) = both (at_least (sum ns) bytes) (λ t. rw t (omega (arith, enough_is (sum ns) bytes t))) (λ t. rw t (omega arith))

pub used_most : (l : Limits) (bytes : List ℕ) → used (read l bytes) ≤ length bytes
unfolding read used
used_most l [] = omega arith
used_most l (byte ∷ bytes) = operands_used l byte bytes (widths l byte)

operands_one : (l : Limits) (byte : ℕ) (bytes : List ℕ) (o : Option (List ℕ)) (r : _) (n : ℕ) → read_operands l byte bytes o ≡ asks r n → 1 ≤ n
unfolding read_operands
operands_one l byte bytes None r n e = absurd (let z : ◌≡◌ {A = ℕ} 0 1 = cc in omega arith)
operands_one l byte bytes (Some ns) r n e =
    both (at_least (sum ns) bytes)
    (λ t. let f : asks (request l byte (operands ns bytes)) (1 + sum ns) ≡ asks r n = rw t at e in let z : 1 + sum ns ≡ n = cc in omega arith)
    (λ t. let f : cut_short ≡ asks r n = rw t at e in absurd (let z : ◌≡◌ {A = ℕ} 0 1 = cc in omega arith))

read_one : (l : Limits) (bytes : List ℕ) (r : _) (n : ℕ) → read l bytes ≡ asks r n → 1 ≤ n
unfolding read
read_one l [] r n e = absurd (let z : ◌≡◌ {A = ℕ} 0 1 = cc in omega arith)
read_one l (byte ∷ bytes) r n e = operands_one l byte bytes (widths l byte) r n e

-- a command that does not end the run takes a byte at least
goes_on : (s : State) (bytes : List ℕ) (number : ℕ) (q : Reading) → read s.limits bytes ≡ q → ends number (refusal s q) ≡ false → 1 ≤ used q
unfolding ends refusal used
goes_on s bytes number unknown f e = absurd (true≢false e)
goes_on s bytes number cut_short f e = absurd (true≢false e)
goes_on s bytes number (asks r n) f e = read_one s.limits bytes r n f

pub used_one : (s : State) (bytes : List ℕ) (number : ℕ) → ends number (step s bytes).answer.refused ≡ false → 1 ≤ used (read s.limits bytes)
used_one s bytes number e = goes_on s bytes number (read s.limits bytes) refl (rw (refused_number s bytes) at e)

-- ---- more turns than bytes change nothing

pub lines_step : (k : ℕ) (s : State) (number refused : ℕ) (bytes : List ℕ) → no_bytes bytes ≡ false
    → lines_from (suc k) s number refused bytes
    ≡ line number (step s bytes).answer
    ++ cond (ends number (step s bytes).answer.refused) (end_line (number + 1) (refused + refused_by (step s bytes).answer))
    (lines_from k (step s bytes).state (number + 1) (refused + refused_by (step s bytes).answer) (past (used (read s.limits bytes)) bytes))
unfolding lines_from
lines_step k s number refused bytes e = rw e

pub lines_none : (k : ℕ) (s : State) (number refused : ℕ) → lines_from k s number refused [] ≡ end_line number refused
unfolding lines_from no_bytes
lines_none zero s number refused = refl
lines_none (suc k) s number refused = refl

pub bytes_some : (bytes : List ℕ) → no_bytes bytes ≡ false → 1 ≤ length bytes
unfolding no_bytes
bytes_some [] e = absurd (true≢false e)
bytes_some (b ∷ bytes) e = omega arith

pub bytes_none : (bytes : List ℕ) → no_bytes bytes ≡ true → bytes ≡ []
unfolding no_bytes
bytes_none [] e = refl
bytes_none (b ∷ bytes) e = absurd (false≢true e)

pub some_bytes : (bytes : List ℕ) → 1 ≤ length bytes → no_bytes bytes ≡ false
unfolding no_bytes
some_bytes [] h = absurd (omega arith)
some_bytes (b ∷ bytes) h = refl

lines_over : (k m : ℕ) (s : State) (number refused : ℕ) (bytes : List ℕ) → no_bytes bytes ≡ true
    → lines_from k s number refused bytes ≡ lines_from m s number refused bytes
lines_over k m s number refused bytes e = rw (bytes_none bytes e) (lines_none k s number refused ∙ sym (lines_none m s number refused))

pub turns : (k m : ℕ) (s : State) (number refused : ℕ) (bytes : List ℕ) → length bytes ≤ k → length bytes ≤ m
    → lines_from k s number refused bytes ≡ lines_from m s number refused bytes
turns zero m s number refused bytes h i =
    both (no_bytes bytes) (λ e. lines_over zero m s number refused bytes e) (λ e. absurd (omega (arith, bytes_some bytes e)))
turns (suc k) zero s number refused bytes h i =
    both (no_bytes bytes) (λ e. lines_over (suc k) zero s number refused bytes e) (λ e. absurd (omega (arith, bytes_some bytes e)))
turns (suc k) (suc m) s number refused bytes h i =
    both (no_bytes bytes) (λ e. lines_over (suc k) (suc m) s number refused bytes e)
    (λ f. rw (lines_step k s number refused bytes f, lines_step m s number refused bytes f)
    (both (ends number (step s bytes).answer.refused) (λ e. rw e) (λ e. rw e
    (let u : ℕ = used (read s.limits bytes) in
    let p : suc (length (past u bytes)) ≤ length bytes = omega (arith, past_length u bytes, used_one s bytes number e, bytes_some bytes f) in
    ap (λ (r : List ℕ). line number (step s bytes).answer ++ r)
    (turns k m (step s bytes).state (number + 1) (refused + refused_by (step s bytes).answer) (past u bytes) (omega arith) (omega arith))))))

-- ---- a command cut short has at most eight bytes

unfoldable sum_of : Option (List ℕ) → ℕ
sum_of None = 0
sum_of (Some ns) = sum ns

abbrev Short : Option (List ℕ) → Type 0
Short o = sum_of o ≤ 8

widths_most : (l : Limits) (byte : ℕ) → l.cpu_bytes ≤ 2 → l.node_bytes ≤ 2 → sum_of (widths l byte) ≤ 8
unfolding widths sum_of sum
widths_most l byte h i =
    of_either Short (eqb byte 0x01) _ _ (omega arith)
    (of_either Short (eqb byte 0x02) _ _ (omega arith)
    (of_either Short (eqb byte 0x03) _ _ (omega arith)
    (of_either Short (eqb byte 0x04) _ _ (omega arith)
    (of_either Short (eqb byte 0x05) _ _ (omega arith)
    (of_either Short (eqb byte 0x10) _ _ (omega arith)
    (of_either Short (eqb byte 0x11) _ _ (omega arith)
    (of_either Short (eqb byte 0x12) _ _ (omega arith)
    (of_either Short (eqb byte 0x13) _ _ (omega arith)
    (of_either Short (eqb byte 0x14) _ _ (omega arith)
    (of_either Short (eqb byte 0x15) _ _ (omega arith)
    (of_either Short (eqb byte 0x16) _ _ (omega arith)
    (of_either Short (eqb byte 0x17) _ _ (omega arith)
    (of_either Short (eqb byte 0x18) _ _ (omega arith)
    (of_either Short (eqb byte 0x19) _ _ (omega arith)
    (of_either Short (eqb byte 0x1a) _ _ (omega arith) (omega arith))))))))))))))))

operands_cut : (l : Limits) (byte : ℕ) (bytes : List ℕ) (o : Option (List ℕ)) → is_whole (read_operands l byte bytes o) ≡ false → suc (length bytes) ≤ sum_of o
unfolding read_operands is_whole sum_of
operands_cut l byte bytes None e = absurd (true≢false e)
operands_cut l byte bytes (Some ns) e =
    both (at_least (sum ns) bytes) (λ t. absurd (true≢false (rw t at e)))
    (λ t. both (ltb (length bytes) (sum ns)) (λ f. ltb-true (length bytes) (sum ns) f)
    (λ f. absurd (true≢false (sym (enough (sum ns) bytes (ltb-false (length bytes) (sum ns) f)) ∙ t))))

pub cut_most : (l : Limits) (bytes : List ℕ) → l.cpu_bytes ≤ 2 → l.node_bytes ≤ 2 → is_whole (read l bytes) ≡ false → length bytes ≤ 8
unfolding read is_whole
cut_most l [] h i e = omega arith
cut_most l (byte ∷ bytes) h i e = omega (arith, widths_most l byte h i, operands_cut l byte bytes (widths l byte) e)
