-- 2026-07, of the library's calls: "sets the shortest User timeslice to 2 to 32; unset it is 2, the last one given holds", "before the seal". What the calls give is
-- defined in the rules' Shortest (`given`: the operands of the obeyed calls of hex 05, in their order).
use Rattle.std.specs.Prelude.{ℕ, ◌≡◌, true, false, List}
use Rattle.std.proofs.Common.{sym, ap, ◌∙◌, arith}
use Rattle.rules.specs.State.{Limits, base_limits, State, start}
use Rattle.rules.specs.Questions.{least_shortest, most_shortest}
use Rattle.rules.specs.Commands.{Answer, nothing_shown, after_calls}
use Rattle.rules.specs.Shortest.{Figure}
use Rattle.rules.proofs.Shortest.{figure_held}
use Rattle.rules.proofs.ShortestLine.{before_the_seal}
use Rattle.represents.specs.State.{limits_in}
use Rattle.lines.specs.Lines.{refusal_number, answer_of}
use Rattle.demands.specs.Calls.{LentState, Ready, call, after}
use Rattle.demands.proofs.Demand2.{demand_2_step}
use Rattle.demands.proofs.Laws.Kept.{Represents, follows_start, follows_after}
use Rattle.demands.specs.Shortest.{FigureLeft}

figure_is : (h : LentState) (s : State) → Represents h s → h.state.shortest ≡ s.limits.shortest
unfolding limits_in
figure_is h s m = sym (ap (λ (l : Limits). l.shortest) m.limits)

-- THE THEOREM: h is what `start` left when it answered Ready; for every list of calls, of any length, each on any bytes.
pub figure_left : (h : LentState) → Ready h → (calls : List (List ℕ)) → FigureLeft h calls
unfolding base_limits least_shortest most_shortest
figure_left h ready calls =
    let s : State = after_calls (start base_limits) calls in
    let f = follows_after h (start base_limits) calls (follows_start h ready) in
    let g : Figure base_limits calls = figure_held base_limits (omega arith) (omega arith) calls in
    let is : (after h calls).state.shortest ≡ s.limits.shortest = figure_is (after h calls) s f.stood in
    record {
      last_given = is ∙ g.last_given;
      least = rw is g.least;
      most = rw is g.most;
      settled = λ (t : (after h calls).state.sealed ≡ true) more.
          figure_is (after (after h calls) more) (after_calls s more) (follows_after (after h calls) s more f).stood
          ∙ g.settled (sym f.stood.sealed ∙ t) more ∙ sym is;
    }

-- "Its line shows `-` four times, as do those of commands later added before the seal": whatever the bytes of the call.
pub nothing_before_the_seal : (h : LentState) → Ready h → (calls : List (List ℕ)) (bytes : List ℕ) → (after h calls).state.sealed ≡ false
    → answer_of (call (after h calls) bytes).answer.answer ≡ nothing_shown (refusal_number (call (after h calls) bytes).answer.answer.refusal)
unfolding answer_of
nothing_before_the_seal h ready calls bytes e =
    let s : State = after_calls (start base_limits) calls in
    let f = follows_after h (start base_limits) calls (follows_start h ready) in
    let a = (demand_2_step h ready calls bytes).answer in
    a ∙ before_the_seal s bytes (sym f.stood.sealed ∙ e) ∙ ap nothing_shown (sym (ap (λ (x : Answer). x.refused) a))
