-- One command of a block.
use Prim.Native.Nat.{ℕ, suc, ◌+◌, ◌-◌, ◌≤◌, ◌<◌}
use Rattle.std.specs.Prelude.{◌≡◌, refl, Bool, cond, take, eqb, ltb}
use Rattle.std.proofs.Common.{sym, ◌∙◌, true≢false, length-drop, drop-drop, length-take-le, ltb-true, ltb-false, eqb-true, arith}
use Rattle.std.proofs.Math.Path.{ap}
use Rattle.std.proofs.Math.Bool.{true, false}
use mathlib.Core.List.{List, ◌++◌, append_assoc}
use Rattle.std.proofs.Math.ListN.{length, drop, length-append}
use Rattle.std.proofs.lemmas.Bool.{eqb-false}
use Rattle.std.proofs.Math.Nat.{mod-eq_of_lt}
use Rattle.rules.proofs.Laws.Line.{both}
use Rattle.rules.specs.State.{base_limits, State}
use Rattle.rules.proofs.Laws.Limits.{then_same}
use Rattle.rules.specs.Commands.{Answer, Step, step}
use Rattle.rules.specs.Requests.{read, past}
use Rattle.rules.specs.Lines.{line, end_line, lines_from, used, ends, refused_by, last_number}
use Rattle.rules.proofs.Laws.Writer.{past_drop}
use Rattle.lines.specs.Lines.{refusal_number, answer_of, room}
use Rattle.processor.specs.Left.{Left}
use Rattle.outcome.specs.declared.answer.Answered.{Answered}
use Rattle.command.specs.Lent.{Lent}
use Rattle.stream.specs.declared.progress.Progress.{Progress}
use Rattle.stream.specs.Progress.{COMMANDS, END, ENDED, ends_by, phase_after, at_least_one, next_at, one_if, counted, line_of_def, answered_fed}
use Rattle.stream.specs.Feed.{World, next_def, step_def}
use Rattle.command_laws.specs.Law.{AsRuled}
use Rattle.command_laws.proofs.Law.{reachable_step}
use Rattle.command_laws.proofs.Command.{command_law, command_used}
use Rattle.stream_laws.proofs.Laws.Reading.{past_more, past_length, used_most, used_one, lines_step, turns, some_bytes}
use Rattle.stream_laws.proofs.Laws.Length.{line_fits}
use Rattle.stream_laws.proofs.Laws.Going.{left_at, left, left_commands, left_end, Going, Within, line_in, done_after, taken_after, length_after}
use Rattle.stream_laws.specs.Taken.{after_commands, does, so_far}
use Rattle.stream_laws.proofs.Laws.Along.{Along, lines_next, same_step, state_then, refused_then, rest_then}
use Rattle.rules.proofs.Laws.Reached.{limits_step}

-- ---- the rules' lines, where the command stands whole in the block b, with more behind it

module _ (s : State) (b more : List ℕ) (some : 1 ≤ length b) (alike : read s.limits (b ++ more) ≡ read s.limits b) (number refused : ℕ) where
  -- what follows the line of the command
  unfoldable pub after_line : Step → List ℕ
  after_line st =
      cond (ends number st.answer.refused) (end_line (number + 1) (refused + refused_by st.answer))
      (lines_from (length (b ++ more)) st.state (number + 1) (refused + refused_by st.answer) (past (used (read s.limits b)) (b ++ more)))

  pub line_first : left_at s COMMANDS number refused (b ++ more) ≡ line number (step s b).answer ++ after_line (step s b)
  unfolding step after_line
  line_first =
      let k : ℕ = length (b ++ more) in
      left_commands s number refused (b ++ more) ∙ turns k (suc k) s number refused (b ++ more) (omega arith) (omega arith)
      ∙ lines_step k s number refused (b ++ more) (some_bytes (b ++ more) (rw length-append (omega arith)))
      ∙ rw alike

-- ---- where the next command begins

next_on : (n at u : ℕ) → at < n → 1 ≤ u → u ≤ n - at → next_at n at u false ≡ at + u
unfolding next_at at_least_one
next_on n at u h i j =
    both (eqb u 0) (λ e. absurd (omega (arith, eqb-true u 0 e)))
    (λ e. both (ltb u (n - at)) (λ f. rw (e, f)) (λ f. rw (e, f) (omega (arith, ltb-false u (n - at) f))))

next_end : (n at u : ℕ) → next_at n at u true ≡ n
unfolding next_at
next_end n at u = refl

-- the bytes of the block from the next command on
next_bytes : (block more : List ℕ) (at u : ℕ) → u ≤ length (drop at block) → drop (at + u) block ++ more ≡ past u (drop at block ++ more)
next_bytes block more at u h = ap (λ (l : List ℕ). l ++ more) (sym (drop-drop u at block) ∙ sym (past_drop u (drop at block))) ∙ sym (past_more u (drop at block) more h)

commands_after : phase_after false ≡ COMMANDS
unfolding phase_after
commands_after = refl

end_after : phase_after true ≡ END
unfolding phase_after
end_after = refl

-- what is left after the command is what the rules write after its line
module _ (s : State) (block more : List ℕ) (at : ℕ) (there : at < length block) (alike : read s.limits (drop at block ++ more) ≡ read s.limits (drop at block)) (number refused : ℕ) where
  abbrev pub b : List ℕ
  b = drop at block

  pub some_there : 1 ≤ length b
  some_there = omega (arith, length-drop at block)

  -- the bytes behind a command that does not end the run
  pub past_it : (u n : ℕ) → ends number (step s b).answer.refused ≡ false → u ≡ used (read s.limits b) → n ≡ length block
      → drop (next_at n at u false) block ++ more ≡ past (used (read s.limits b)) (b ++ more)
  past_it u n f i j =
      let c : ℕ = used (read s.limits b) in
      let one : 1 ≤ c = used_one s b number f in
      let most : c ≤ length b = used_most s.limits b in
      ap (λ (v : ℕ). drop (next_at n at v false) block ++ more) i
      ∙ ap (λ (v : ℕ). drop v block ++ more) (next_on n at c (omega arith) one (omega (arith, length-drop at block)))
      ∙ next_bytes block more at c most

  pub after_same : (e : Bool) (u n number' refused' : ℕ) → ends number (step s b).answer.refused ≡ e → u ≡ used (read s.limits b) → n ≡ length block
      → number' ≡ number + 1 → refused' ≡ refused + refused_by (step s b).answer
      → left_at (step s b).state (phase_after e) number' refused' (drop (next_at n at u e) block ++ more) ≡ after_line s b more some_there alike number refused (step s b)
  unfolding after_line
  after_same true u n number' refused' f i j k l =
      ap (λ (p : ℕ). left_at (step s b).state p number' refused' (drop (next_at n at u true) block ++ more)) end_after
      ∙ left_end (step s b).state number' refused' _ ∙ rw (f, k, l)
  after_same false u n number' refused' f i j k l =
      let c : ℕ = used (read s.limits b) in
      let one : 1 ≤ c = used_one s b number f in
      ap (λ (p : ℕ). left_at (step s b).state p number' refused' (drop (next_at n at u false) block ++ more)) commands_after
      ∙ rw (k, l, past_it u n f i j)
      (left_commands (step s b).state (number + 1) (refused + refused_by (step s b).answer) (past c (b ++ more))
      ∙ turns (length (past c (b ++ more))) (length (b ++ more)) (step s b).state (number + 1) (refused + refused_by (step s b).answer) (past c (b ++ more)) (omega arith) (omega (arith, past_length c (b ++ more)))
      ∙ rw f)

-- ---- the step

one_same : (r : ℕ) (a : Answer) → r ≡ a.refused → one_if r ≡ refused_by a
unfolding one_if refused_by
one_same r a e = ap (λ (v : ℕ). cond (eqb v 0) 0 1) e

one_most : (r : ℕ) → one_if r ≤ 1
unfolding one_if
one_most r = both (eqb r 0) (λ e. rw e (omega arith)) (λ e. rw e (omega arith))

ends_same : (number r : ℕ) → ends_by number r ≡ ends number r
unfolding ends_by ends
ends_same number r = refl

-- a command that does not end the run is not the last number
not_last : (number r : ℕ) → ends_by number r ≡ false → number ≤ 4294967294 → number + 1 ≤ 4294967294
unfolding ends_by last_number
not_last number r e h = both (eqb r 1) (λ p. absurd (true≢false (rw p at e)))
    (λ p. both (eqb r 2) (λ q. absurd (true≢false (rw (p, q) at e))) (λ q. both (eqb number 4294967294) (λ t. absurd (true≢false (rw (p, q, t) at e)))
    (λ t. let n : number ≡ 4294967294 → ⊥ = eqb-false number 4294967294 t in omega arith)))

phase_before : (e : Bool) → phase_after e < END → e ≡ false
unfolding phase_after
phase_before true h = absurd (omega arith)
phase_before false h = refl

phase_some : (e : Bool) → (1 ≤ phase_after e) × (phase_after e ≤ ENDED)
unfolding phase_after
phase_some true = (omega arith, omega arith)
phase_some false = (omega arith, omega arith)

-- the next command begins further on, and not past the block
next_further : (n at u : ℕ) (e : Bool) → at < n → (at < next_at n at u e) × (next_at n at u e ≤ n)
unfolding next_at at_least_one
next_further n at u true h = (h, omega arith)
next_further n at u false h =
    both (eqb u 0)
    (λ e. both (ltb 1 (n - at)) (λ f. rw (e, f) (omega arith, omega (arith, ltb-true 1 (n - at) f))) (λ f. rw (e, f) (omega arith, omega arith)))
    (λ e. let z : u ≡ 0 → ⊥ = eqb-false u 0 e in
    both (ltb u (n - at)) (λ f. rw (e, f) (omega arith, omega (arith, ltb-true u (n - at) f))) (λ f. rw (e, f) (omega arith, omega arith)))

-- a command further, none ended the run
went_then : (e : Bool) (k : ℕ) (stream : List ℕ) → e ≡ false → ends k (does (after_commands k stream)).answer.refused ≡ e
    → ((j : ℕ) → j < k → ends j (does (after_commands j stream)).answer.refused ≡ false) → (j : ℕ) → j < k + 1 → ends j (does (after_commands j stream)).answer.refused ≡ false
went_then e k stream c d w j q =
    both (ltb j k) (λ t. w j (ltb-true j k t))
    (λ t. let same : j ≡ k = omega (arith, ltb-false j k t) in rw same (d ∙ c))

module _ (bytes : List ℕ) (n : ℕ) (fits : n ≤ length bytes) (to_come : List ℕ) (w : World) (s : State)
    (g : Going w.threads w.cpus w.nodes w.fed s) (i : Within n w.output w.fed)
    (p : w.fed.phase ≡ COMMANDS) (h : w.fed.at < n) (there : room w.output w.fed.done ≡ true)
    (alike : read s.limits (drop w.fed.at (take n bytes) ++ to_come) ≡ read s.limits (drop w.fed.at (take n bytes))) where
  abbrev f : Progress
  f = w.fed

  abbrev block : List ℕ
  block = take n bytes

  abbrev st : Step
  st = step s (drop f.at block)

  abbrev next : Left Answered Lent
  next = next_def bytes n w

  abbrev v : World
  v = step_def bytes n w

  long : length block ≡ n
  long = length-take-le n bytes fits

  in_it : f.at < length block
  in_it = rw long h

  ruled : AsRuled next st
  ruled = command_law g.stands g.reachable bytes n f.at

  refused_is : refusal_number next.answer.answer.refusal ≡ st.answer.refused
  unfolding answer_of
  refused_is = ap (λ (a : Answer). a.refused) ruled.answer

  line_is : line_of_def next.answer f ≡ line f.number st.answer
  line_is = ap (line f.number) ruled.answer

  number_most : f.number ≤ 4294967294
  number_most = g.goes_on (rw p (omega arith))

  line_short : length (line_of_def next.answer f) ≤ 48
  line_short = rw line_is (line_fits s (drop f.at block) f.number next.answer.answer.refusal g.reachable.reached g.base (sym refused_is))

  done_is : v.fed.done ≡ f.done + length (line_of_def next.answer f)
  unfolding answered_fed counted
  done_is = done_after w.output f.done (line_of_def next.answer f) there line_short i.small

  written_is : take v.fed.done v.output ≡ take f.done w.output ++ line_of_def next.answer f
  written_is = ap (λ (d : ℕ). take d v.output) done_is ∙ taken_after w.output f.done (line_of_def next.answer f) there line_short

  number_is : v.fed.number ≡ f.number + 1
  unfolding answered_fed counted
  number_is = mod-eq_of_lt (omega (arith, number_most))

  refused_now : v.fed.refused ≡ f.refused + refused_by st.answer
  unfolding answered_fed counted
  refused_now =
      mod-eq_of_lt (omega (arith, number_most, g.refused_fits, one_most (refusal_number next.answer.answer.refusal)))
      ∙ ap (λ (x : ℕ). f.refused + x) (one_same (refusal_number next.answer.answer.refusal) st.answer refused_is)

  abbrev ended : Bool
  ended = ends_by f.number (refusal_number next.answer.answer.refusal)

  ended_is : ends f.number st.answer.refused ≡ ended
  ended_is = ap (ends f.number) (sym refused_is) ∙ sym (ends_same f.number _)

  left_is : left st.state v.fed (drop v.fed.at block ++ to_come)
      ≡ after_line s (drop f.at block) to_come (some_there s block to_come f.at in_it alike f.number f.refused) alike f.number f.refused st
  unfolding answered_fed counted
  left_is =
      after_same s block to_come f.at in_it alike f.number f.refused ended next.answer.used n v.fed.number v.fed.refused
      ended_is (command_used g.stands g.reachable bytes n f.at) (sym long) number_is refused_now

  line_then_left : line f.number st.answer ++ left st.state v.fed (drop v.fed.at block ++ to_come) ≡ left s f (drop f.at block ++ to_come)
  line_then_left =
      ap (λ (x : List ℕ). line f.number st.answer ++ x) left_is
      ∙ sym (line_first s (drop f.at block) to_come (some_there s block to_come f.at in_it alike f.number f.refused) alike f.number f.refused)
      ∙ ap (λ (q : ℕ). left_at s q f.number f.refused (drop f.at block ++ to_come)) (sym p)

  pub step_same : take v.fed.done v.output ++ left st.state v.fed (drop v.fed.at block ++ to_come)
      ≡ take f.done w.output ++ left s f (drop f.at block ++ to_come)
  step_same =
      ap (λ (x : List ℕ). x ++ left st.state v.fed (drop v.fed.at block ++ to_come)) written_is
      ∙ append_assoc (take f.done w.output) (line_of_def next.answer f) (left st.state v.fed (drop v.fed.at block ++ to_come))
      ∙ ap (λ (x : List ℕ). take f.done w.output ++ x)
      (ap (λ (x : List ℕ). x ++ left st.state v.fed (drop v.fed.at block ++ to_come)) line_is ∙ line_then_left)

  pub step_going : Going v.threads v.cpus v.nodes v.fed st.state
  unfolding answered_fed counted
  step_going = record {
    history = _;
    stands = ruled.stands;
    reachable = reachable_step (drop f.at block) g.reachable;
    base = then_same base_limits s.limits (step s (drop f.at block)).state.limits g.base (limits_step s (drop f.at block));
    number_fits = rw number_is (omega (arith, number_most));
    goes_on = λ q. rw number_is (not_last f.number _ (phase_before ended q) number_most);
    refused_fits = omega (arith, number_most, g.refused_fits, one_most (refusal_number next.answer.answer.refusal));
    phase_fits = (phase_some ended).1;
  }

  pub step_within : Within n v.output v.fed
  unfolding answered_fed counted
  step_within = record {
    taken = (next_further n f.at next.answer.used ended h).1;
    done_fits = rw (done_is, length_after w.output f.done (line_of_def next.answer f) there) (line_in w.output f.done (line_of_def next.answer f) there line_short);
    small = rw (length_after w.output f.done (line_of_def next.answer f) there) i.small;
    short = rw done_is (omega (arith, line_short, i.short, (next_further n f.at next.answer.used ended h).0));
  }

  pub step_further : f.at < v.fed.at
  unfolding answered_fed counted
  step_further = (next_further n f.at next.answer.used ended h).0

  pub step_phase : 1 ≤ v.fed.phase
  unfolding answered_fed counted
  step_phase = (phase_some ended).0

  -- one command further along the stream
  pub step_along : (stream : List ℕ) → Along stream s f (drop f.at block ++ to_come) → Along stream st.state v.fed (drop v.fed.at block ++ to_come)
  unfolding answered_fed counted
  step_along stream a =
      let going_on : f.phase < END = rw p (omega arith) in
      let rest_was : drop f.at block ++ to_come ≡ (after_commands f.number stream).bytes = a.rest_is going_on in
      record {
        state_is = rw number_is (state_then stream f.number s (drop f.at block) to_come alike a.state_is rest_was);
        rest_is = λ q. rw (number_is, phase_before ended q)
            (past_it s block to_come f.at in_it alike f.number f.refused next.answer.used n (ended_is ∙ phase_before ended q)
            (command_used g.stands g.reachable bytes n f.at) (sym long)
            ∙ rest_then stream f.number s (drop f.at block) to_come alike a.state_is rest_was);
        lines_is =
            let left_now : List ℕ = left st.state v.fed (drop v.fed.at block ++ to_come) in
            ap (λ (m : ℕ). so_far v.fed.phase m v.fed.refused stream ++ left_now) number_is
            ∙ ap (λ (l : List ℕ). l ++ left_now)
            (lines_next ended f.number f.refused v.fed.refused stream
            ∙ ap (λ (t : Step). so_far COMMANDS f.number f.refused stream ++ line f.number t.answer)
            (sym (same_step stream f.number s (drop f.at block) to_come alike a.state_is rest_was)))
            ∙ append_assoc (so_far COMMANDS f.number f.refused stream) (line f.number st.answer) left_now
            ∙ ap (λ (l : List ℕ). so_far COMMANDS f.number f.refused stream ++ l) line_then_left
            ∙ ap (λ (q : ℕ). so_far q f.number f.refused stream ++ left s f (drop f.at block ++ to_come)) (sym p)
            ∙ a.lines_is;
        none_yet = λ q. absurd (omega (arith, (phase_some ended).0, q));
        went_on = λ q. rw number_is
            (went_then ended f.number stream (phase_before ended q)
            (ap (ends f.number) (sym (refused_then stream f.number s (drop f.at block) to_come alike a.state_is rest_was)) ∙ ended_is)
            (a.went_on going_on));
      }
