-- DEMAND 1, of the library's calls.
-- "The program takes every byte stream to an end line, and its library every call to an answer. A command it cannot obey is refused by the first question in
-- document 01 answered no, and leaves every thread, queue, CPU and lent byte as found. No caller does any checking beforehand."
use Rattle.std.specs.Prelude.{ℕ, ◌≡◌, ◌≢◌, List, length}
use Rattle.std.proofs.Common.{ap, ◌∙◌, arith, take_all}
use Rattle.rules.specs.State.{base_limits, start}
use Rattle.rules.specs.Requests.{read}
use Rattle.rules.specs.Questions.{refusal}
use Rattle.rules.specs.Commands.{Answer, after_calls}
use Rattle.rules.proofs.Laws.Limits.{read_alike}
use Rattle.rules.proofs.Laws.Reached.{limits_kept}
use Rattle.rules.proofs.Laws.Refused.{refused_number}
use Rattle.lines.specs.Lines.{refusal_number, answer_of}
use Rattle.rules.specs.Lines.{used}
use Rattle.command_laws.proofs.Command.{command_used, command_refuses}
use Rattle.demands.specs.Calls.{LentState, Ready, call, left_by, after}
use Rattle.demands.proofs.Laws.Kept.{follows_start, follows_after}
use Rattle.demands.proofs.Demand2.{demand_2_step}

-- The number that a call answers is that of the first question answered no, 0 if there is none; the questions are put to the state that the rules reach.
pub demand_1_question : (h : LentState) → Ready h → (calls : List (List ℕ)) (bytes : List ℕ)
    → refusal_number (call (after h calls) bytes).answer.answer.refusal ≡ refusal (after_calls (start base_limits) calls) (read base_limits bytes)
unfolding answer_of start
demand_1_question h ready calls bytes =
    let s = after_calls (start base_limits) calls in
    ap (λ (a : Answer). a.refused) (demand_2_step h ready calls bytes).answer ∙ refused_number s bytes
    ∙ ap (refusal s) (read_alike base_limits s.limits (limits_kept (start base_limits) calls) bytes)

-- A call takes the bytes of its command; where its bytes are no command, or one cut short, none.
pub demand_1_used : (h : LentState) → Ready h → (calls : List (List ℕ)) (bytes : List ℕ) → (call (after h calls) bytes).answer.used ≡ used (read base_limits bytes)
unfolding start
demand_1_used h ready calls bytes =
    let s = after_calls (start base_limits) calls in
    let f = follows_after h (start base_limits) calls (follows_start h ready) in
    command_used f.stood f.reachable bytes (length bytes) 0
    ∙ ap (λ (b : List ℕ). used (read s.limits b)) (take_all (length bytes) bytes (omega arith))
    ∙ ap used (read_alike base_limits s.limits (limits_kept (start base_limits) calls) bytes)

-- A refused call leaves everything as found: of all memory and states, also such as nobody made.
pub demand_1_as_found : (h : LentState) (bytes : List ℕ) → refusal_number (call h bytes).answer.answer.refusal ≢ 0 → left_by (call h bytes) ≡ h
demand_1_as_found h bytes n =
    let same = command_refuses h.threads h.cpus h.nodes h.state bytes (length bytes) 0 n in
    λ i. record { threads = same.0 i; cpus = same.1 i; nodes = same.2 i; state = same.3 i }
