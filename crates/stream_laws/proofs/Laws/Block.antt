-- One call of `feed`: written by it, and still owed, together: what was owed before.
use Prim.Native.Nat.{ℕ, zero, suc, ◌+◌, ◌*◌, ◌%◌, ◌^◌, ◌≤◌, ◌<◌}
use Rattle.std.specs.Prelude.{◌≡◌, refl, Bool, true, cond, ◌≢◌, eqb, ltb, leb}
use Rattle.std.proofs.Math.Path.{sym, ap, subst}
use Rattle.std.proofs.Common.{◌∙◌, true≢false, length-take-le, zero-add}
use Rattle.std.proofs.Math.Bool.{false}
use Rattle.std.proofs.lemmas.Bool.{false≢true}
use mathlib.Core.List.{List, [], ◌++◌, append-nil}
use Rattle.std.proofs.Math.ListN.{length, take, drop, length-drop, drop_of_length-le}
use borrow.Author.Tests.{le-ltb, ltb-true, ltb-false, leb-true, leb-false, le-leb, eqb-true, eqb-false, eq-eqb, ne_eqb}
use native.Mathlib.Omega.{arith}
use Rattle.rules.proofs.Laws.Limits.{read_alike}
use Rattle.rules.proofs.Laws.Line.{both}
use Rattle.rules.specs.State.{Limits, base_limits, with_shortest, State}
use Rattle.rules.specs.Commands.{step}
use Rattle.rules.specs.Requests as rules
use Rattle.rules.specs.Requests.{read}
use Rattle.rules.specs.Lines.{header, no_bytes}
use Rattle.request.specs.Request.{limits_of}
use Rattle.lines.specs.Lines.{room, rendered, buffer_with}
use Rattle.lines.proofs.Laws.{rendered_whole}
use Rattle.outcome.specs.Call.{reading_back}
use Rattle.stream.specs.declared.progress.Progress.{Progress}
use Rattle.stream.specs.Progress.{HEADER, COMMANDS, END, ENDED, not_cut, whole, more, written, with_output, at_start, headed, opened_fed, opened_out, due, end_line_of, ends_now, closed_fed, closed_out}
use Rattle.stream.specs.Feed.{World, world_of_def, step_def, run_def, opened_world, closed_world, feed_def}
use Rattle.question_laws.proofs.Answers.{read_same}
use Rattle.stream_laws.specs.Laws.Reading.{is_whole}
use Rattle.stream_laws.proofs.Laws.Reading.{read_more, cut_most, lines_none, some_bytes}
use Rattle.stream_laws.proofs.Laws.Length.{end_fits, header_length}
use Rattle.stream_laws.proofs.Laws.Going.{left_at, left, left_header, left_commands, left_end, left_ended, Going, Within, line_in, done_after, taken_after, length_after}
use Rattle.stream_laws.specs.Taken.{so_far}
use Rattle.stream_laws.proofs.Laws.Along.{Along, lines_first, lines_last, waits}
use Rattle.stream_laws.proofs.Laws.Step.{step_same, step_going, step_within, step_further, step_phase, step_along}

-- ---- what `more` says

pub record More (bytes out : List ℕ) (n : ℕ) (last : Bool) (f : Progress) : Type 0 where
  pub commands : f.phase ≡ COMMANDS
  pub there : f.at < n
  pub roomy : room out f.done ≡ true
  pub not_short : last ≡ false → whole bytes n f.at f.state.wide ≡ true

more_true : (bytes out : List ℕ) (n : ℕ) (last : Bool) (f : Progress) → more bytes out n last f ≡ true → More bytes out n last f
unfolding more
more_true bytes out n last f e =
    both (eqb f.phase COMMANDS)
    (λ p. both (ltb f.at n)
    (λ q. both (room out f.done)
    (λ r. record {
      commands = eqb-true f.phase COMMANDS p;
      there = ltb-true f.at n q;
      roomy = r;
      not_short = λ l. rw (p, q, r, l) at e;
    })
    (λ r. absurd (false≢true (rw (p, q, r) at e))))
    (λ q. absurd (false≢true (rw (p, q) at e))))
    (λ p. absurd (false≢true (rw p at e)))

whole_back : (r : rules.Reading) → not_cut (reading_back r) ≡ is_whole r
unfolding not_cut reading_back is_whole
whole_back rules.unknown = refl
whole_back rules.cut_short = refl
whole_back (rules.asks r n) = refl

-- no more, though there is room: the next command is cut short, or no bytes are left
then_cut : (t l w : Bool) → cond t (cond l true w) false ≡ false → t ≡ true → l ≡ false → w ≡ false
then_cut t l w e f g = rw (f, g) at e

then_none : (t l w : Bool) → cond t (cond l true w) false ≡ false → l ≡ true → t ≡ false
then_none true l w e f = absurd (true≢false (rw f at e))
then_none false l w e f = refl

waits_none : waits [] ≡ true
unfolding waits no_bytes
waits_none = refl

-- after a call with a large buffer the end line is written, or commands are answered and at most eight bytes are left over, none or of a command cut short
pub data Leaves (last : Bool) (f : Progress) (left_over : List ℕ) : Type 0 where
  run_ended : f.phase ≡ ENDED → Leaves last f left_over
  run_waits : f.phase ≡ COMMANDS → last ≡ false → length left_over ≤ 8 → waits left_over ≡ true → Leaves last f left_over

module _ (bytes : List ℕ) (n : ℕ) (fits : n ≤ length bytes) (to_come : List ℕ) (last : Bool) (none_to_come : last ≡ true → to_come ≡ []) where
  abbrev block : List ℕ
  block = take n bytes

  long : length block ≡ n
  long = length-take-le n bytes fits

  -- written so far, and left to write
  abbrev pub all : World → State → List ℕ
  all w s = take w.fed.done w.output ++ left s w.fed (drop w.fed.at block ++ to_come)

  -- how far along a stream
  abbrev pub Far : List ℕ → World → State → Type 0
  Far stream w s = Along stream s w.fed (drop w.fed.at block ++ to_come)

  pub record Kept (w v : World) (s : State) : Type 0 where
    pub state : State
    pub going : Going v.threads v.cpus v.nodes v.fed state
    pub within : Within n v.output v.fed
    pub same : all v state ≡ all w s
    pub size : length v.output ≡ length w.output
    pub begun : 1 ≤ w.fed.phase → 1 ≤ v.fed.phase
    pub along : (stream : List ℕ) → Far stream w s → Far stream v state

  abbrev OK : World → State → Type 0
  OK w s = Going w.threads w.cpus w.nodes w.fed s × Within n w.output w.fed

  kept_self : (w : World) (s : State) → OK w s → Kept w w s
  kept_self w s k = record { state = s; going = k.0; within = k.1; same = refl; size = refl; begun = λ h. h; along = λ stream a. a }

  -- ---- the commands

  -- the block's command is the stream's
  whole_is : (w : World) (s : State) → OK w s → (at : ℕ) → whole bytes n at w.fed.state.wide ≡ is_whole (read s.limits (drop at block))
  unfolding whole
  whole_is w s k at = whole_back (read (limits_of w.fed.state.wide) (drop at block)) ∙ ap is_whole (read_same k.0.stands k.0.reachable.reached (drop at block))

  alike : (w : World) (s : State) → OK w s → More bytes w.output n last w.fed
      → read s.limits (drop w.fed.at block ++ to_come) ≡ read s.limits (drop w.fed.at block)
  alike w s k m =
      both last (λ e. rw (none_to_come e, append-nil))
      (λ e. read_more s.limits (drop w.fed.at block) to_come
      (some_bytes (drop w.fed.at block) (omega (arith, length-drop w.fed.at block, long, m.there)))
      (sym (whole_is w s k w.fed.at) ∙ m.not_short e))

  module _ (w : World) (s : State) (k : OK w s) (m : More bytes w.output n last w.fed) where
    abbrev v : World
    v = step_def bytes n w

    abbrev t : State
    t = (step s (drop w.fed.at block)).state

    stepped : OK v t
    stepped = (
      step_going bytes n fits to_come w s k.0 k.1 m.commands m.there m.roomy (alike w s k m),
      step_within bytes n fits to_come w s k.0 k.1 m.commands m.there m.roomy (alike w s k m),
    )

    further : w.fed.at < v.fed.at
    further = step_further bytes n fits to_come w s k.0 k.1 m.commands m.there m.roomy (alike w s k m)

    kept_then : (u : World) → Kept v u t → Kept w u s
    kept_then u r = record {
      state = r.state;
      going = r.going;
      within = r.within;
      same = r.same ∙ step_same bytes n fits to_come w s k.0 k.1 m.commands m.there m.roomy (alike w s k m);
      size = r.size ∙ length_after w.output w.fed.done _ m.roomy;
      begun = λ h. r.begun (step_phase bytes n fits to_come w s k.0 k.1 m.commands m.there m.roomy (alike w s k m));
      along = λ stream a. r.along stream (step_along bytes n fits to_come w s k.0 k.1 m.commands m.there m.roomy (alike w s k m) stream a);
    }

  run_none : (w : World) (s : State) → OK w s → Kept w (run_def zero bytes n last w) s
  unfolding run_def
  run_none w s k = kept_self w s k

  run_one : (j : ℕ) (w : World) (s : State) → OK w s → ((u : World) (q : State) → OK u q → Kept u (run_def j bytes n last u) q) → Kept w (run_def (suc j) bytes n last w) s
  unfolding run_def
  run_one j w s k then =
      both (more bytes w.output n last w.fed)
      (λ e. rw e
      (let m = more_true bytes w.output n last w.fed e in
      kept_then w s k m (run_def j bytes n last (step_def bytes n w)) (then (step_def bytes n w) (t w s k m) (stepped w s k m))))
      (λ e. rw e (kept_self w s k))

  run_kept : (j : ℕ) (w : World) (s : State) → OK w s → Kept w (run_def j bytes n last w) s
  run_kept zero w s k = run_none w s k
  run_kept (suc j) w s k = run_one j w s k (run_kept j)

  -- with a turn for each byte in hand, it stops because there is no more
  over : (out : List ℕ) (f : Progress) → n ≤ f.at → more bytes out n last f ≡ false
  unfolding more
  over out f h = both (eqb f.phase COMMANDS) (λ p. rw (p, le-ltb f.at n h)) (λ p. rw p)

  more_rest : (out : List ℕ) (f : Progress) → f.phase ≡ COMMANDS → room out f.done ≡ true
      → more bytes out n last f ≡ cond (ltb f.at n) (cond last true (whole bytes n f.at f.state.wide)) false
  unfolding more
  more_rest out f e r = rw (eq-eqb f.phase COMMANDS e, r)

  abbrev Over : World → Type 0
  Over w = more bytes w.output n last w.fed ≡ false

  over_one : (j : ℕ) (w : World) (s : State) → OK w s → n ≤ w.fed.at + suc j → ((u : World) (q : State) → OK u q → n ≤ u.fed.at + j → Over (run_def j bytes n last u))
      → Over (run_def (suc j) bytes n last w)
  unfolding run_def
  over_one j w s k h then =
      both (more bytes w.output n last w.fed)
      (λ e. rw e
      (let m = more_true bytes w.output n last w.fed e in
      then (step_def bytes n w) (t w s k m) (stepped w s k m) (omega (arith, further w s k m))))
      (λ e. rw e e)

  over_none : (w : World) → n ≤ w.fed.at + zero → Over (run_def zero bytes n last w)
  unfolding run_def
  over_none w h = over w.output w.fed (omega arith)

  run_over : (j : ℕ) (w : World) (s : State) → OK w s → n ≤ w.fed.at + j → Over (run_def j bytes n last w)
  run_over zero w s k h = over_none w h
  run_over (suc j) w s k h = over_one j w s k h (run_over j)

  -- ---- the block's begin

  pub record Opened (w : World) (s : State) (v : World) : Type 0 where
    pub ok : OK v s
    pub same : all v s ≡ left s w.fed (block ++ to_come)
    pub size : length v.output ≡ length w.output
    pub begun : room w.output 0 ≡ true → 1 ≤ v.fed.phase
    pub along : (stream : List ℕ) → Along stream s w.fed (block ++ to_come) → Far stream v s

  module _ (w : World) (s : State) (g : Going w.threads w.cpus w.nodes w.fed s) (small : length w.output < 2 ^ 64) where
    abbrev f : Progress
    f = w.fed

    abbrev out : List ℕ
    out = w.output

    abbrev as_it_was : World
    as_it_was = world_of_def w.threads w.cpus w.nodes out (at_start f)

    abbrev with_header : World
    with_header = world_of_def w.threads w.cpus w.nodes (buffer_with out 0 header) (with_output (at_start f) (written (rendered out 0 header)) COMMANDS)

    opened_plain : headed out f ≡ false → Opened w s as_it_was
    unfolding at_start
    opened_plain e = record {
      ok = (
        record {
          history = g.history;
          stands = g.stands;
          reachable = g.reachable;
          base = g.base;
          number_fits = g.number_fits;
          goes_on = g.goes_on;
          refused_fits = g.refused_fits;
          phase_fits = g.phase_fits;
        },
        record { taken = omega arith; done_fits = omega arith; small = small; short = omega arith },
      );
      same = refl;
      size = refl;
      begun = λ r. both (eqb f.phase HEADER) (λ p. absurd (true≢false (rw (p, r) at e)))
          (λ p. let z : f.phase ≡ 0 → ⊥ = eqb-false f.phase HEADER p in omega arith);
      along = λ stream a. record { state_is = a.state_is; rest_is = a.rest_is; lines_is = a.lines_is; none_yet = a.none_yet; went_on = a.went_on };
    }

    module _ (e : headed out f ≡ true) where
      is_header : f.phase ≡ HEADER
      is_header = both (eqb f.phase HEADER) (λ p. eqb-true f.phase HEADER p) (λ p. absurd (false≢true (rw p at e)))

      roomy : room out 0 ≡ true
      roomy = both (eqb f.phase HEADER) (λ p. rw p at e) (λ p. absurd (false≢true (rw p at e)))

      header_short : length header ≤ 48
      header_short = rw header_length (omega arith)

      header_in : length header ≤ length out
      header_in = omega (arith, line_in out 0 header roomy header_short)

      header_done : with_header.fed.done ≡ length header
      unfolding with_output written
      header_done = rw (rendered_whole out 0 header roomy (line_in out 0 header roomy header_short))

      header_size : length (buffer_with out 0 header) ≡ length out
      header_size = length_after out 0 header roomy

      header_written : take with_header.fed.done with_header.output ≡ header
      header_written = ap (λ (d : ℕ). take d with_header.output) (header_done ∙ sym (zero-add (length header))) ∙ taken_after out 0 header roomy header_short

      opened_header : Opened w s with_header
      unfolding at_start with_output
      opened_header = record {
        ok = (
          record {
            history = g.history;
            stands = g.stands;
            reachable = g.reachable;
            base = g.base;
            number_fits = g.number_fits;
            goes_on = λ h. g.goes_on (rw is_header (omega arith));
            refused_fits = g.refused_fits;
            phase_fits = omega arith;
          },
          record {
            taken = omega arith;
            done_fits = rw (header_done, header_size) header_in;
            small = rw header_size small;
            short = rw (header_done, header_length) (omega arith);
          },
        );
        same = ap (λ (l : List ℕ). l ++ left_at s COMMANDS f.number f.refused (block ++ to_come)) header_written
            ∙ sym (left_header s f.number f.refused (block ++ to_come))
            ∙ ap (λ (p : ℕ). left_at s p f.number f.refused (block ++ to_come)) (sym is_header);
        size = header_size;
        begun = λ r. omega arith;
        along = λ stream a. record {
          state_is = a.state_is;
          rest_is = λ h. a.rest_is (rw is_header (omega arith));
          lines_is =
              lines_first f.number f.refused stream (left_at s COMMANDS f.number f.refused (block ++ to_come)) (a.none_yet is_header)
              ∙ ap (λ (l : List ℕ). so_far HEADER f.number f.refused stream ++ l) (sym (left_header s f.number f.refused (block ++ to_come)))
              ∙ ap (λ (p : ℕ). so_far p f.number f.refused stream ++ left_at s p f.number f.refused (block ++ to_come)) (sym is_header)
              ∙ a.lines_is;
          none_yet = λ h. a.none_yet is_header;
          went_on = λ h. a.went_on (rw is_header (omega arith));
        };
      }

    opened_kept : Opened w s (opened_world w)
    unfolding opened_fed opened_out
    opened_kept = both (headed out f) (λ e. rw e (opened_header e)) (λ e. rw e (opened_plain e))

  -- ---- the block's end

  -- after a call: what it wrote and what is left are `before`; and it is further along each stream that it was along in state s, with `rest` to take
  pub record Called (s : State) (f : Progress) (rest before : List ℕ) (v : World) : Type 0 where
    pub state : State
    pub going : Going v.threads v.cpus v.nodes v.fed state
    pub taken : v.fed.at ≤ n
    pub same : all v state ≡ before
    pub along : (stream : List ℕ) → Along stream s f rest → Far stream v state

  module _ (w : World) (s : State) (k : OK w s) where
    abbrev g : Progress
    g = w.fed

    abbrev now : List ℕ
    now = drop g.at block ++ to_come

    abbrev with_end : World
    with_end = world_of_def w.threads w.cpus w.nodes (buffer_with w.output g.done (end_line_of g))
        (with_output g ((g.done + written (rendered w.output g.done (end_line_of g))) % 2 ^ 64) ENDED)

    due_left : due n last g ≡ true → left s g (drop g.at block ++ to_come) ≡ end_line_of g
    unfolding due
    due_left e =
        both (eqb g.phase END)
        (λ p. ap (λ (q : ℕ). left_at s q g.number g.refused (drop g.at block ++ to_come)) (eqb-true g.phase END p) ∙ left_end s g.number g.refused _)
        (λ p. both (eqb g.phase COMMANDS)
        (λ q. both last
        (λ l. both (leb n g.at)
        (λ h. let nothing : drop g.at block ++ to_come ≡ [] = rw (none_to_come l, drop_of_length-le block {i = g.at} (rw long (leb-true n g.at h))) in
        ap (λ (r : ℕ). left_at s r g.number g.refused (drop g.at block ++ to_come)) (eqb-true g.phase COMMANDS q)
        ∙ ap (left_at s COMMANDS g.number g.refused) nothing
        ∙ left_commands s g.number g.refused [] ∙ lines_none 0 s g.number g.refused)
        (λ h. absurd (false≢true (rw (p, q, l, h) at e))))
        (λ l. absurd (false≢true (rw (p, q, l) at e))))
        (λ q. absurd (false≢true (rw (p, q) at e))))

    due_phase : due n last g ≡ true → (1 ≤ g.phase) × (g.phase ≤ END)
    unfolding due
    due_phase e =
        both (eqb g.phase END) (λ p. let q : g.phase ≡ END = eqb-true g.phase END p in (omega arith, omega arith))
        (λ p. both (eqb g.phase COMMANDS) (λ q. let r : g.phase ≡ COMMANDS = eqb-true g.phase COMMANDS q in (omega arith, omega arith))
        (λ q. absurd (false≢true (rw (p, q) at e))))

    module _ (e : ends_now w.output n last g ≡ true) where
      is_due : due n last g ≡ true
      is_due = both (due n last g) (λ d. d) (λ d. absurd (false≢true (rw d at e)))

      end_room : room w.output g.done ≡ true
      end_room = both (due n last g) (λ d. rw d at e) (λ d. absurd (false≢true (rw d at e)))

      end_short : length (end_line_of g) ≤ 48
      end_short = end_fits g.number g.refused

      end_done : with_end.fed.done ≡ g.done + length (end_line_of g)
      unfolding with_output
      end_done = done_after w.output g.done (end_line_of g) end_room end_short k.1.small

      closed_ended : Called s g now (all w s) with_end
      unfolding with_output
      closed_ended = record {
        state = s;
        going = record {
          history = k.0.history;
          stands = k.0.stands;
          reachable = k.0.reachable;
          base = k.0.base;
          number_fits = k.0.number_fits;
          goes_on = λ h. absurd (omega arith);
          refused_fits = k.0.refused_fits;
          phase_fits = omega arith;
        };
        taken = k.1.taken;
        same =
            ap (λ (l : List ℕ). l ++ left_at s ENDED g.number g.refused (drop g.at block ++ to_come))
            (ap (λ (d : ℕ). take d with_end.output) end_done ∙ taken_after w.output g.done (end_line_of g) end_room end_short)
            ∙ ap (λ (l : List ℕ). (take g.done w.output ++ end_line_of g) ++ l) (left_ended s g.number g.refused _)
            ∙ append-nil (take g.done w.output ++ end_line_of g)
            ∙ ap (λ (l : List ℕ). take g.done w.output ++ l) (sym (due_left is_due));
        along = λ stream a. record {
          state_is = a.state_is;
          rest_is = λ h. absurd (omega arith);
          lines_is =
              ap (λ (l : List ℕ). so_far ENDED g.number g.refused stream ++ l) (left_ended s g.number g.refused _)
              ∙ append-nil (so_far ENDED g.number g.refused stream)
              ∙ lines_last g.phase g.number g.refused stream (due_phase is_due).0 (due_phase is_due).1
              ∙ ap (λ (l : List ℕ). so_far g.phase g.number g.refused stream ++ l) (sym (due_left is_due))
              ∙ a.lines_is;
          none_yet = λ h. absurd (omega (arith, h));
          went_on = λ h. absurd (omega arith);
        };
      }

    closed_kept : Called s g now (all w s) (closed_world n last w)
    unfolding closed_fed closed_out
    closed_kept = both (ends_now w.output n last g) (λ e. rw e (closed_ended e)) (λ e. rw e (record { state = s; going = k.0; taken = k.1.taken; same = refl; along = λ stream a. a }))

  -- ---- the call

  module _ (w : World) (s : State) (begin_with : Going w.threads w.cpus w.nodes w.fed s) (fits_out : length w.output < 2 ^ 64) where
    first : Opened w s (opened_world w)
    first = opened_kept w s begin_with fits_out

    ran : Kept (opened_world w) (run_def n bytes n last (opened_world w)) s
    ran = run_kept n (opened_world w) s first.ok

    abbrev then : World
    then = run_def n bytes n last (opened_world w)

    ran_ok : OK then ran.state
    ran_ok = (ran.going, ran.within)

    closed : Called ran.state then.fed (now then ran.state ran_ok) (all then ran.state) (closed_world n last then)
    closed = closed_kept then ran.state ran_ok

    pub called : Called s w.fed (block ++ to_come) (left s w.fed (block ++ to_come)) (feed_def bytes n last w)
    unfolding feed_def
    called = record {
      state = closed.state;
      going = closed.going;
      taken = closed.taken;
      same = closed.same ∙ ran.same ∙ first.same;
      along = λ stream a. closed.along stream (ran.along stream (first.along stream a));
    }

    -- where the commands left room for a line
    module _ (some : 48 ≤ length w.output) (room_then : room then.output then.fed.done ≡ true) where
      room_first : room w.output 0 ≡ true
      unfolding room
      room_first = le-leb (0 + 48) (length w.output) (omega arith)

      phase_then : 1 ≤ then.fed.phase
      phase_then = ran.begun (first.begun room_first)

      stopped : more bytes then.output n last then.fed ≡ false
      stopped = run_over n (opened_world w) s first.ok (omega arith)

      closed_due : due n last then.fed ≡ true → (closed_fed then.output n last then.fed).phase ≡ ENDED
      unfolding closed_fed with_output
      closed_due e = rw (e, room_then)

      closed_not : due n last then.fed ≡ false → closed_fed then.output n last then.fed ≡ then.fed
      unfolding closed_fed
      closed_not e = rw e

      due_end : then.fed.phase ≡ END → due n last then.fed ≡ true
      unfolding due
      due_end e = rw (eq-eqb then.fed.phase END e)

      due_ended : then.fed.phase ≡ ENDED → due n last then.fed ≡ false
      unfolding due
      due_ended e = rw e

      due_commands : then.fed.phase ≡ COMMANDS → due n last then.fed ≡ cond last (leb n then.fed.at) false
      unfolding due
      due_commands e = rw e

      more_commands : then.fed.phase ≡ COMMANDS → cond (ltb then.fed.at n) (cond last true (whole bytes n then.fed.at then.fed.state.wide)) false ≡ false
      more_commands e = sym (more_rest then.output then.fed e room_then) ∙ stopped

      short_left : then.fed.phase ≡ COMMANDS → last ≡ false → length (drop then.fed.at block) ≤ 8
      unfolding base_limits with_shortest
      short_left e l =
          both (ltb then.fed.at n)
          (λ q. let cut : whole bytes n then.fed.at then.fed.state.wide ≡ false = then_cut (ltb then.fed.at n) last _ (more_commands e) q l in
          let most : length (drop then.fed.at block) ≤ 8 =
          cut_most ran.state.limits (drop then.fed.at block)
          (rw (ap (λ (m : Limits). m.cpu_bytes) ran.going.base) (omega arith)) (rw (ap (λ (m : Limits). m.node_bytes) ran.going.base) (omega arith))
          (sym (whole_is then ran.state ran_ok then.fed.at) ∙ cut) in
          omega arith)
          (λ q. omega (arith, length-drop then.fed.at block, long, ltb-false then.fed.at n q))

      waits_left : then.fed.phase ≡ COMMANDS → last ≡ false → waits (drop then.fed.at block) ≡ true
      unfolding waits
      waits_left e l =
          both (ltb then.fed.at n)
          (λ q. let cut : whole bytes n then.fed.at then.fed.state.wide ≡ false = then_cut (ltb then.fed.at n) last _ (more_commands e) q l in
          let cut_here : is_whole (read base_limits (drop then.fed.at block)) ≡ false =
          ap is_whole (sym (read_alike base_limits ran.state.limits ran.going.base (drop then.fed.at block))) ∙ sym (whole_is then ran.state ran_ok then.fed.at) ∙ cut in
          both (no_bytes (drop then.fed.at block)) (λ t. rw t) (λ t. rw (t, cut_here)))
          (λ q. rw (drop_of_length-le block {i = then.fed.at} (rw long (ltb-false then.fed.at n q))) waits_none)

      phase_three : (eqb then.fed.phase COMMANDS ≡ false) → (eqb then.fed.phase END ≡ false) → then.fed.phase ≡ ENDED
      phase_three p q =
          let a : then.fed.phase ≡ 1 → ⊥ = eqb-false then.fed.phase COMMANDS p in
          let b : then.fed.phase ≡ 2 → ⊥ = eqb-false then.fed.phase END q in
          omega (arith, phase_then, ran.going.phase_fits)

      leaves_then : Leaves last (closed_fed then.output n last then.fed) (drop (closed_fed then.output n last then.fed).at block)
      leaves_then =
          both (eqb then.fed.phase COMMANDS)
          (λ p. let c : then.fed.phase ≡ COMMANDS = eqb-true then.fed.phase COMMANDS p in
          both last
          (λ l. let q : ltb then.fed.at n ≡ false = then_none (ltb then.fed.at n) last _ (more_commands c) l in
          run_ended (closed_due (due_commands c ∙ ap (λ (b : Bool). cond b (leb n then.fed.at) false) l ∙ le-leb n then.fed.at (ltb-false then.fed.at n q))))
          (λ l. subst (λ (f : Progress). Leaves last f (drop f.at block))
          (sym (closed_not (due_commands c ∙ ap (λ (b : Bool). cond b (leb n then.fed.at) false) l))) (run_waits c l (short_left c l) (waits_left c l))))
          (λ p. both (eqb then.fed.phase END)
          (λ q. run_ended (closed_due (due_end (eqb-true then.fed.phase END q))))
          (λ q. let c : then.fed.phase ≡ ENDED = phase_three p q in run_ended (ap (λ (f : Progress). f.phase) (closed_not (due_ended c)) ∙ c)))

    room_large : 48 * (n + 2) ≤ length w.output → room then.output then.fed.done ≡ true
    unfolding room
    room_large large = le-leb (then.fed.done + 48) (length then.output) (omega (arith, ran.size, first.size, ran.within.short, ran.within.taken))

    pub leaves : 48 * (n + 2) ≤ length w.output → Leaves last (feed_def bytes n last w).fed (drop (feed_def bytes n last w).fed.at block)
    unfolding feed_def
    leaves large = leaves_then (omega arith) (room_large large)

    abbrev ends : Bool
    ends = ends_now then.output n last then.fed

    closed_ends : ends ≡ true → (closed_world n last then).fed.phase ≡ ENDED
    unfolding closed_fed with_output
    closed_ends e = rw e

    closed_same : ends ≡ false → closed_world n last then ≡ then
    unfolding closed_fed closed_out
    closed_same e = rw e

    abbrev room_after : World → Bool
    room_after v = room v.output v.fed.done

    -- a call that leaves room for a line,
    pub leaves_room : 48 ≤ length w.output → room_after (feed_def bytes n last w) ≡ true
        → Leaves last (feed_def bytes n last w).fed (drop (feed_def bytes n last w).fed.at block)
    unfolding feed_def
    leaves_room some h =
        both ends (λ e. run_ended (closed_ends e)) (λ e. leaves_then some (subst (λ (v : World). room_after v ≡ true) (closed_same e) h))

    full_done : room_after then ≡ false → length w.output < 48 * (then.fed.at + 2)
    unfolding room
    full_done h = omega (arith, leb-false (then.fed.done + 48) (length then.output) h, ran.size, first.size, ran.within.short)

    -- and one that leaves none
    pub full_takes : room_after (feed_def bytes n last w) ≡ false → (feed_def bytes n last w).fed.phase ≢ ENDED
        → length w.output < 48 * ((feed_def bytes n last w).fed.at + 2)
    unfolding feed_def
    full_takes h on =
        both ends (λ e. absurd (on (closed_ends e)))
        (λ e. subst (λ (v : World). length w.output < 48 * (v.fed.at + 2)) (sym (closed_same e)) (full_done (subst (λ (v : World). room_after v ≡ false) (closed_same e) h)))

-- ---- after the end line nothing changes

module _ (bytes : List ℕ) (n : ℕ) (last : Bool) where
  abbrev Ended : World → Type 0
  Ended w = w.fed.phase ≡ ENDED

  no_more : (w : World) → Ended w → more bytes w.output n last w.fed ≡ false
  unfolding more
  no_more w e = rw (ne_eqb w.fed.phase COMMANDS (omega (arith, e)))

  ran_stays : (k : ℕ) (w : World) → Ended w → Ended (run_def k bytes n last w)
  unfolding run_def
  ran_stays zero w e = e
  ran_stays (suc k) w e = rw (no_more w e) e

  opened_stays : (w : World) → Ended w → Ended (opened_world w)
  unfolding opened_fed at_start
  opened_stays w e = rw (ne_eqb w.fed.phase HEADER (omega (arith, e))) e

  closed_stays : (w : World) → Ended w → Ended (closed_world n last w)
  unfolding closed_fed due
  closed_stays w e = rw (ne_eqb w.fed.phase COMMANDS (omega (arith, e)), ne_eqb w.fed.phase END (omega (arith, e))) e

  pub stays_ended : (w : World) → Ended w → Ended (feed_def bytes n last w)
  unfolding feed_def
  stays_ended w e = closed_stays (run_def n bytes n last (opened_world w)) (ran_stays n (opened_world w) (opened_stays w e))
