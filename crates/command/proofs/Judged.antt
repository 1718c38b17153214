-- A command by its refusal, or obeyed where there is none.
use Rattle.std.specs.Prelude.{ℕ, ◌≡◌, false, cond, not, eqb, Option, None, Some, Result, Ok, Err}
use Rattle.std.proofs.Common.{refl, sym, ap, ◌∙◌}
use Rattle.std.specs.Result.{result_err}
use Rattle.thread.specs.declared.Thread.{Thread}
use Rattle.rules.specs.Lines.{used}
use Rattle.request.specs.Request.{request_of, reading_of}
use Rattle.request.specs.declared.Asked.{Asked}
use Rattle.request.specs.declared.Unread.{Unread}
use Rattle.request.specs.declared.Unread.TheVariants as unread
use Rattle.lines.specs.declared.Refusal.{Refusal}
use Rattle.lines.specs.declared.Refusal.TheVariants as refusal
use Rattle.lines.specs.Lines.{question_number, refusal_number}
use Rattle.questions.specs.declared.state.State.{State}
use Rattle.questions.specs.Questions.{refusal_in}
use Rattle.processor.specs.Left.{Left}
use Rattle.outcome.specs.declared.answer.Answered.{Answered}
use Rattle.outcome.specs.Call.{refusal_back, thread_in, named_record}
use Rattle.outcome.specs.Answer.{refuses}
use Rattle.command.specs.Lent.{Lent, kept}
use Rattle.command.specs.Command.{judged_def, obey_def, answered_def}

numbered : (q : Refusal) → eqb (refusal_number (Some q)) 0 ≡ false
unfolding refusal_number question_number
numbered refusal.UnknownCommand = refl
numbered refusal.CutShort = refl
numbered refusal.WrongSideOfSeal = refl
numbered refusal.Cpu = refl
numbered refusal.Thread = refl
numbered refusal.OutOfRange = refl
numbered refusal.NotBlocked = refl
numbered refusal.Tick = refl
numbered refusal.NotPlaced = refl
numbered refusal.TooMany = refl
numbered refusal.SmallBuffer = refl
numbered refusal.ShortBuffer = refl

module _ (s : State) (w : Lent) where
  -- a command that was read, by its refusal
  abbrev by_refusal : Asked → Option Refusal → Left Answered Lent
  by_refusal a o = cond (not (eqb (refusal_number o) 0)) (kept w (refuses s o a.used)) (obey_def s (request_of a.request) a.used w)

  is_refused : (r : Result Asked Unread) (q : Refusal) → judged_def s r w ≡ Some q → answered_def s r w ≡ kept w (refuses s (Some q) (used (reading_of r)))
  unfolding answered_def used reading_of
  is_refused (Err unread.Unknown) q e = ap (λ (o : Option Refusal). kept w (refuses s o 0)) e
  is_refused (Err unread.CutShort) q e = ap (λ (o : Option Refusal). kept w (refuses s o 0)) e
  is_refused (Ok a) q e = ap (by_refusal a) e ∙ (rw (numbered q) refl)

  is_obeyed : (a : Asked) → judged_def s (Ok a) w ≡ None → answered_def s (Ok a) w ≡ obey_def s (request_of a.request) a.used w
  unfolding answered_def refusal_number
  is_obeyed a e = ap (by_refusal a) e

  -- the calls of `command_read`: the record t of the thread that is named, and what was judged, j
  module _ (r : Result Asked Unread) (t : Thread) (got : t ≡ named_record w.threads (thread_in (reading_of r)))
      (j : Result Asked Refusal) (judged : result_err j ≡ refusal_back (refusal_in w.cpus w.nodes s t (reading_of r))) where
    same : result_err j ≡ judged_def s r w
    same = judged ∙ ap (λ (u : Thread). refusal_back (refusal_in w.cpus w.nodes s u (reading_of r))) got

    pub refused : (q : Refusal) (n : ℕ) → j ≡ Err q → n ≡ used (reading_of r) → kept w (refuses s (Some q) n) ≡ answered_def s r w
    refused q n e k = ap (λ (m : ℕ). kept w (refuses s (Some q) m)) k ∙ sym (is_refused r q (sym same ∙ ap result_err e))

    pub obeyed : (a : Asked) → j ≡ Ok a → r ≡ Ok a → obey_def s (request_of a.request) a.used w ≡ answered_def s r w
    obeyed a e k =
        let z : judged_def s r w ≡ None = sym same ∙ ap result_err e in
        sym (ap (λ (i : Result Asked Unread). answered_def s i w) k ∙ is_obeyed a (sym (ap (λ (i : Result Asked Unread). judged_def s i w) k) ∙ z))
