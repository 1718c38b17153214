-- Where a run is in a stream: behind so many commands of it, by the rules.
use Rattle.std.specs.Prelude.{ℕ, zero, suc, ◌+◌, ◌≤◌, ◌<◌, ◌≡◌, Bool, true, false, cond, not, length, ltb}
use Rattle.std.proofs.Math.Path.{refl, ap}
use Rattle.std.proofs.Common.{sym, ◌∙◌, true≢false, length-append, arith}
use Rattle.std.proofs.lemmas.Bool.{false≢true, not-true}
use mathlib.Core.List.{List, [], ◌∷◌, ◌++◌, append_assoc, append-nil}
use borrow.Author.Tests.{ltb-true, ltb-false, ne_eqb}
use Rattle.std.proofs.Math.Numerals.{add-one}
use Rattle.rules.proofs.Laws.Line.{both}
use Rattle.rules.specs.State.{base_limits, State, start}
use Rattle.rules.proofs.Laws.Limits.{SameButShortest, same_limits, then_same, read_alike}
use Rattle.rules.proofs.Laws.Reached.{limits_step}
use Rattle.rules.specs.Requests.{Reading, unknown, cut_short, asks, read, past}
use Rattle.rules.specs.Commands.{Step, step}
use Rattle.rules.specs.Lines.{header, line, end_line, ends, used, refused_by, no_bytes, lines_from, output}
use Rattle.stream.specs.declared.progress.Progress.{Progress}
use Rattle.stream.specs.Progress.{HEADER, COMMANDS, END, ENDED, phase_after}
use Rattle.stream_laws.specs.Laws.Reading.{is_whole}
use Rattle.stream_laws.proofs.Laws.Reading.{read_more, past_more, past_length, used_most, used_one, lines_step, bytes_some, some_bytes}
use Rattle.stream_laws.proofs.Laws.Going.{left}
use Rattle.stream_laws.specs.Taken.{says, does, next_place, after_commands, lines_of, so_far, EndedWithin}

-- A run in state s, with `rest` not taken yet, is behind the first commands of the stream, as many as it counts; what is written of the output is so_far.
pub record Along (stream : List ℕ) (s : State) (f : Progress) (rest : List ℕ) : Type 0 where
  pub state_is : s ≡ (after_commands f.number stream).state
  pub rest_is : f.phase < END → rest ≡ (after_commands f.number stream).bytes
  pub lines_is : so_far f.phase f.number f.refused stream ++ left s f rest ≡ output base_limits stream
  pub none_yet : f.phase ≡ HEADER → f.number ≡ 0
  pub went_on : f.phase < END → (j : ℕ) → j < f.number → ends j (does (after_commands j stream)).answer.refused ≡ false

-- ---- what is written

pub lines_next : (e : Bool) (k r r' : ℕ) (stream : List ℕ)
    → so_far (phase_after e) (k + 1) r' stream ≡ so_far COMMANDS k r stream ++ line k (does (after_commands k stream)).answer
unfolding so_far lines_of phase_after
lines_next true k r r' stream = rw add-one (sym (append_assoc header (lines_of k stream) _))
lines_next false k r r' stream = rw add-one (sym (append_assoc header (lines_of k stream) _))

pub lines_first : (k r : ℕ) (stream rest : List ℕ) → k ≡ 0 → so_far COMMANDS k r stream ++ rest ≡ so_far HEADER k r stream ++ (header ++ rest)
unfolding so_far lines_of
lines_first k r stream rest e = rw (e, append-nil)

pub lines_last : (p k r : ℕ) (stream : List ℕ) → 1 ≤ p → p ≤ END → so_far ENDED k r stream ≡ so_far p k r stream ++ end_line k r
unfolding so_far
lines_last p k r stream h i = rw (ne_eqb p HEADER (omega arith), ne_eqb p ENDED (omega arith))

-- ---- one command more, which stands whole in b

module _ (stream : List ℕ) (k : ℕ) (s : State) (b more : List ℕ) (alike : read s.limits (b ++ more) ≡ read s.limits b)
    (state_is : s ≡ (after_commands k stream).state) (rest_is : b ++ more ≡ (after_commands k stream).bytes) where
  pub same_step : step s b ≡ does (after_commands k stream)
  unfolding step does
  same_step = rw (← state_is, ← rest_is, alike)

  pub state_then : (step s b).state ≡ (after_commands (k + 1) stream).state
  unfolding after_commands next_place
  state_then = rw add-one (ap (λ (t : Step). t.state) same_step)

  pub refused_then : (step s b).answer.refused ≡ (does (after_commands k stream)).answer.refused
  refused_then = ap (λ (t : Step). t.answer.refused) same_step

  pub rest_then : past (used (read s.limits b)) (b ++ more) ≡ (after_commands (k + 1) stream).bytes
  unfolding after_commands next_place says
  rest_then = rw (add-one, ← state_is, ← rest_is, alike)

-- ---- a command cut short is waited for

-- no bytes, or a command cut short
unfoldable pub waits : List ℕ → Bool
waits bytes = cond (no_bytes bytes) true (not (is_whole (read base_limits bytes)))

used_none : (r : Reading) → is_whole r ≡ false → used r ≡ 0
unfolding is_whole used
used_none unknown e = refl
used_none cut_short e = refl
used_none (asks q n) e = absurd (true≢false e)

stuck : (bytes : List ℕ) → waits bytes ≡ true → past (used (read base_limits bytes)) bytes ≡ bytes
unfolding waits no_bytes past read used
stuck [] e = refl
stuck (b ∷ bytes) e = rw (used_none (read base_limits (b ∷ bytes)) (not-true _ e))

base_at : (k : ℕ) (stream : List ℕ) → SameButShortest base_limits (after_commands k stream).state.limits
unfolding after_commands next_place does start
base_at zero stream = same_limits refl
base_at (suc k) stream =
    let p = after_commands k stream in
    then_same base_limits p.state.limits (step p.state p.bytes).state.limits (base_at k stream) (limits_step p.state p.bytes)

read_at : (k : ℕ) (stream bytes : List ℕ) → read (after_commands k stream).state.limits bytes ≡ read base_limits bytes
read_at k stream bytes = read_alike base_limits (after_commands k stream).state.limits (base_at k stream) bytes

stays_one : (k : ℕ) (stream : List ℕ) → waits (after_commands k stream).bytes ≡ true → (after_commands (suc k) stream).bytes ≡ (after_commands k stream).bytes
unfolding after_commands next_place says
stays_one k stream e = rw (read_at k stream (after_commands k stream).bytes) (stuck (after_commands k stream).bytes e)

stays : (k m : ℕ) (stream : List ℕ) → m ≤ k → waits (after_commands m stream).bytes ≡ true → (after_commands k stream).bytes ≡ (after_commands m stream).bytes
stays zero m stream h e = ap (λ (i : ℕ). (after_commands i stream).bytes) (omega arith)
stays (suc k) m stream h e =
    both (ltb k m)
    (λ t. ap (λ (i : ℕ). (after_commands i stream).bytes) (omega (arith, ltb-true k m t)))
    (λ t. let p : (after_commands k stream).bytes ≡ (after_commands m stream).bytes = stays k m stream (ltb-false k m t) e in
    stays_one k stream (ap waits p ∙ e) ∙ p)

not_there : (bytes : List ℕ) → waits bytes ≡ true → no_bytes bytes ≡ false → is_whole (read base_limits bytes) ≡ true → ⊥
unfolding waits
not_there bytes e f g = false≢true (rw (f, g) at e)

pub never_ended : (stream : List ℕ) (m : ℕ) → waits (after_commands m stream).bytes ≡ true
    → ((j : ℕ) → j < m → ends j (does (after_commands j stream)).answer.refused ≡ false) → EndedWithin stream → ⊥
unfolding says
never_ended stream m e w d =
    both (ltb d.number m)
    (λ t. true≢false (sym d.ended ∙ w d.number (ltb-true d.number m t)))
    (λ t. not_there (after_commands d.number stream).bytes
    (ap waits (stays d.number m stream (ltb-false d.number m t) e) ∙ e)
    d.there
    (ap is_whole (sym (read_at d.number stream (after_commands d.number stream).bytes)) ∙ d.whole))

-- ---- a command that ends the run does so whatever comes behind the bytes that hold it

waits_not : (bytes : List ℕ) → waits bytes ≡ false → (no_bytes bytes ≡ false) × (is_whole (read base_limits bytes) ≡ true)
unfolding waits
waits_not bytes e =
    both (no_bytes bytes) (λ t. absurd (true≢false (rw t at e)))
    (λ t. both (is_whole (read base_limits bytes)) (λ u. (t, u)) (λ u. absurd (true≢false (rw (t, u) at e))))

module _ (bytes more : List ℕ) (e : EndedWithin bytes) where
  abbrev s : ℕ → State
  s j = (after_commands j bytes).state

  abbrev b : ℕ → List ℕ
  b j = (after_commands j bytes).bytes

  comes : (j : ℕ) → j ≤ e.number → waits (b j) ≡ false
  unfolding says
  comes j h =
      both (waits (b j))
      (λ t. absurd (not_there (b e.number) (ap waits (stays e.number j bytes h t) ∙ t) e.there
      (ap is_whole (sym (read_at e.number bytes (b e.number))) ∙ e.whole)))
      (λ t. t)

  some_here : (j : ℕ) → j ≤ e.number → no_bytes (b j) ≡ false
  some_here j h = (waits_not (b j) (comes j h)).0

  alike_here : (j : ℕ) → j ≤ e.number → read (s j).limits (b j ++ more) ≡ read (s j).limits (b j)
  alike_here j h =
      read_more (s j).limits (b j) more (some_here j h)
      (ap is_whole (read_at j bytes (b j)) ∙ (waits_not (b j) (comes j h)).1)

  alike_step : (j : ℕ) → j ≤ e.number → step (s j) (b j ++ more) ≡ step (s j) (b j)
  unfolding step
  alike_step j h = rw (alike_here j h)

  some_more : (j : ℕ) → j ≤ e.number → no_bytes (b j ++ more) ≡ false
  some_more j h = some_bytes (b j ++ more) (rw length-append (omega (arith, bytes_some (b j) (some_here j h))))

  not_last : (j : ℕ) → j ≤ e.number → ends j (step (s j) (b j)).answer.refused ≡ false → suc j ≤ e.number
  unfolding does
  not_last j h f =
      both (ltb j e.number) (λ t. omega (arith, ltb-true j e.number t))
      (λ t. let same : e.number ≡ j = omega (arith, ltb-false j e.number t) in
      absurd (true≢false (sym e.ended ∙ ap (λ (i : ℕ). ends i (step (s i) (b i)).answer.refused) same ∙ f)))

  after_next : (j k m r : ℕ) → lines_from k (s (suc j)) (suc j) r (b (suc j) ++ more) ≡ lines_from m (s (suc j)) (suc j) r (b (suc j))
      → used (read (s j).limits (b j)) ≤ length (b j)
      → lines_from k (step (s j) (b j)).state (j + 1) r (past (used (read (s j).limits (b j))) (b j ++ more))
      ≡ lines_from m (step (s j) (b j)).state (j + 1) r (past (used (read (s j).limits (b j))) (b j))
  unfolding after_commands next_place does says
  after_next j k m r i h = rw (add-one, past_more (used (read (s j).limits (b j))) (b j) more h) i

  next_length : (j : ℕ) → length (b (suc j)) ≡ length (past (used (read (s j).limits (b j))) (b j))
  unfolding after_commands next_place says
  next_length j = refl

  same_lines : (k m r j : ℕ) → j ≤ e.number → length (b j ++ more) ≤ k → length (b j) ≤ m
      → lines_from k (s j) j r (b j ++ more) ≡ lines_from m (s j) j r (b j)
  same_lines zero m r j h p q = absurd (omega (arith, p, bytes_some (b j ++ more) (some_more j h)))
  same_lines (suc k) zero r j h p q = absurd (omega (arith, q, bytes_some (b j) (some_here j h)))
  same_lines (suc k) (suc m) r j h p q =
      rw (lines_step k (s j) j r (b j ++ more) (some_more j h), lines_step m (s j) j r (b j) (some_here j h), alike_step j h, alike_here j h)
      (both (ends j (step (s j) (b j)).answer.refused) (λ f. rw f)
      (λ f. rw f
      (let u : ℕ = used (read (s j).limits (b j)) in
      let one : 1 ≤ u = used_one (s j) (b j) j f in
      let most : u ≤ length (b j) = used_most (s j).limits (b j) in
      let shorter : length (b (suc j)) + 1 ≤ length (b j) = omega (arith, next_length j, past_length u (b j)) in
      ap (λ (l : List ℕ). line j (step (s j) (b j)).answer ++ l)
      (after_next j k m (r + refused_by (step (s j) (b j)).answer)
      (same_lines k m (r + refused_by (step (s j) (b j)).answer) (suc j) (not_last j h f)
      (rw length-append (omega (arith, length-append (b j) more))) (omega arith)) most))))

  pub ended_whatever : output base_limits (bytes ++ more) ≡ output base_limits bytes
  unfolding output after_commands
  ended_whatever = ap (λ (l : List ℕ). header ++ l) (same_lines (length (bytes ++ more)) (length bytes) 0 0 (omega arith) (omega arith) (omega arith))
