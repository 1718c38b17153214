-- THE LAW OF ONE CALL. A reader reads all of this file, after Law.
use Rattle.std.specs.Prelude.{ℕ, ◌≡◌, ◌≢◌, List, take, drop}
use Rattle.std.proofs.Common.{sym, ap, subst, ◌∙◌}
use Rattle.rules.specs.Puts.{PutOrTake}
use Rattle.rules.specs.State as rules
use Rattle.rules.specs.Requests.{Reading, read}
use Rattle.rules.specs.Commands.{answered, step}
use Rattle.rules.specs.Lines.{used}
use Rattle.thread.specs.declared.Thread.{Thread}
use Rattle.request.specs.Request.{limits_of}
use Rattle.lines.specs.Lines.{refusal_number}
use Rattle.questions.specs.declared.state.State.{State}
use Rattle.command.specs.Command.{command_def}
use Rattle.represents.specs.State.{StateRep}
use Rattle.question_laws.proofs.Answers.{read_same}
use Rattle.command_laws.specs.Law.{Reachable, AsRuled}
use Rattle.command_laws.proofs.Call.{read_call, command_read, read_used, read_refused, read_law}
-- "The caller lends all of them at each call and hands them and the state back as the last call left them": over memory that stands for a state s which calls
-- reach, the call on the bytes from `at` to below n leaves memory that stands for the state which the rules' step on those bytes leaves, and answers what the
-- rules answer.
use Rattle.command_laws.specs.Law.{lent}
use Rattle.command.specs.Lent.{Lent}
use Rattle.processor.specs.Left.{Left}
use Rattle.outcome.specs.declared.answer.Answered.{Answered}

pub command_law : {H : ℕ → List PutOrTake} {ts : List Thread} {cs ns : List (List ℕ)} {a : State} {s : rules.State} → StateRep ts cs ns a s → Reachable H s
    → (bytes : List ℕ) (n at : ℕ) → AsRuled (command_def n at a bytes (lent ts cs ns)) (step s (drop at (take n bytes)))
unfolding step
command_law {H} {ts} {cs} {ns} {a} {s} m h bytes n at =
    let l : List ℕ = drop at (take n bytes) in
    subst (λ (d : Left Answered Lent). AsRuled d (answered s (read s.limits l))) (sym (command_read ts cs ns a bytes n at))
    (subst (λ (r : Reading). AsRuled (read_call ts cs ns a (read (limits_of a.wide) l)) (answered s r)) (read_same m h.reached l) (read_law m h (read (limits_of a.wide) l)))

-- It takes the bytes of its command; where they are no command, or one cut short, none.
pub command_used : {H : ℕ → List PutOrTake} {ts : List Thread} {cs ns : List (List ℕ)} {a : State} {s : rules.State} → StateRep ts cs ns a s → Reachable H s
    → (bytes : List ℕ) (n at : ℕ) → (command_def n at a bytes (lent ts cs ns)).answer.used ≡ used (read s.limits (drop at (take n bytes)))
command_used {H} {ts} {cs} {ns} {a} {s} m h bytes n at =
    ap (λ (d : Left Answered Lent). d.answer.used) (command_read ts cs ns a bytes n at)
    ∙ (read_used ts cs ns a (read (limits_of a.wide) (drop at (take n bytes))) ∙ ap used (read_same m h.reached (drop at (take n bytes))))

-- "A no gives the number, changes nothing", also "on other records or states".
pub command_refuses : (ts : List Thread) (cs ns : List (List ℕ)) (a : State) (bytes : List ℕ) (n at : ℕ)
    → let d : Left Answered Lent = command_def n at a bytes (lent ts cs ns) in
    refusal_number d.answer.answer.refusal ≢ 0 → (d.memory.threads ≡ ts) × (d.memory.cpus ≡ cs) × (d.memory.nodes ≡ ns) × (d.answer.state ≡ a)
command_refuses ts cs ns a bytes n at =
    subst (λ (d : Left Answered Lent). refusal_number d.answer.answer.refusal ≢ 0 → (d.memory.threads ≡ ts) × (d.memory.cpus ≡ cs) × (d.memory.nodes ≡ ns) × (d.answer.state ≡ a))
    (sym (command_read ts cs ns a bytes n at)) (read_refused ts cs ns a (read (limits_of a.wide) (drop at (take n bytes))))
