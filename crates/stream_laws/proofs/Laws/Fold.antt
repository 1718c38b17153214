-- Any list of calls: what they write and what is then left to write are the rules' output, and the memory is behind the commands whose lines they wrote.
use Rattle.std.specs.Prelude.{ℕ, ◌+◌, ◌-◌, ◌*◌, ◌^◌, ◌≤◌, ◌<◌, ◌≡◌, true, false, ◌≢◌, length, drop}
use Rattle.std.proofs.Math.Path.{refl, ap, subst}
use Rattle.std.proofs.Common.{sym, ◌∙◌, true≢false, length-append, length-drop, arith}
use Rattle.std.proofs.lemmas.Bool.{false≢true}
use mathlib.Core.List.{List, [], ◌∷◌, ◌++◌, append_assoc, append-nil, append_cancel_right, nil≢cons}
use Rattle.std.proofs.Math.ListN.{take}
use Rattle.std.proofs.Math.Seq.{take-append_seam}
use Rattle.rules.specs.State.{base_limits, State, start}
use Rattle.rules.proofs.Laws.Limits.{same_limits}
use Rattle.rules.specs.Lines.{no_bytes, output}
use Rattle.stream.specs.declared.progress.Progress.{Progress}
use Rattle.stream.specs.Progress.{END, ENDED, begin}
use Rattle.stream.specs.Feed.{World, world_of_def, feed_def}
use Rattle.command_laws.proofs.Law.{reachable_start}
use Rattle.demands.specs.Calls.{LentState, Ready}
use Rattle.demands.proofs.Laws.Kept.{ready_stands}
use Rattle.stream_laws.proofs.Laws.Going.{left_at, left, left_ended, Going}
use Rattle.stream_laws.specs.Taken.{after_commands, so_far, EndedWithin}
use Rattle.stream_laws.proofs.Laws.Along.{Along, waits, never_ended}
use Rattle.stream_laws.proofs.Laws.Block.{Called, called, Leaves, run_ended, run_waits, leaves, leaves_room, full_takes, stays_ended}
use Rattle.stream_laws.specs.Calls.{Call, Run, in_hand, fed_by, after, output_of, room_left, after_all, outputs, stream, Proper, Roomy, says_last, Settled, over, few, begun}

abbrev Goes : Run → State → Type 0
Goes r s = Going r.threads r.cpus r.nodes r.fed s

-- ---- one call

record One (r : Run) (c : Call) (s : State) (to_come : List ℕ) : Type 0 where
  state : State
  going : Goes (after r c) state
  same : output_of r c ++ left state (after r c).fed ((after r c).left_over ++ to_come) ≡ left s r.fed (in_hand r c ++ to_come)
  along : (bytes : List ℕ) → Along bytes s r.fed (in_hand r c ++ to_come) → Along bytes state (after r c).fed ((after r c).left_over ++ to_come)

module _ (r : Run) (c : Call) (s : State) (g : Goes r s) (small : length c.buffer < 2 ^ 64) (to_come : List ℕ) (none_to_come : c.last ≡ true → to_come ≡ []) where
  abbrev hand : List ℕ
  hand = in_hand r c

  abbrev world : World
  world = world_of_def r.threads r.cpus r.nodes c.buffer r.fed

  fits : length hand ≤ length (hand ++ c.behind)
  fits = rw length-append (omega arith)

  front : take (length hand) (hand ++ c.behind) ≡ hand
  front = take-append_seam hand c.behind

  made : Called (hand ++ c.behind) (length hand) fits to_come c.last none_to_come s r.fed (take (length hand) (hand ++ c.behind) ++ to_come) (left s r.fed (take (length hand) (hand ++ c.behind) ++ to_come)) (feed_def (hand ++ c.behind) (length hand) c.last world)
  made = called (hand ++ c.behind) (length hand) fits to_come c.last none_to_come world s g small

  one : One r c s to_come
  unfolding after output_of fed_by
  one = record {
    state = made.state;
    going = made.going;
    same =
        let w : World = feed_def (hand ++ c.behind) (length hand) c.last world in
        ap (λ (b : List ℕ). take w.fed.done w.output ++ left made.state w.fed (drop w.fed.at b ++ to_come)) (sym front)
        ∙ made.same ∙ ap (λ (b : List ℕ). left s r.fed (b ++ to_come)) front;
    along = λ bytes a.
        let w : World = feed_def (hand ++ c.behind) (length hand) c.last world in
        subst (λ (b : List ℕ). Along bytes made.state w.fed (drop w.fed.at b ++ to_come)) front
        (made.along bytes (subst (λ (b : List ℕ). Along bytes s r.fed (b ++ to_come)) (sym front) a));
  }

  one_leaves : 48 * (length hand + 2) ≤ length c.buffer → Leaves c.last (after r c).fed (after r c).left_over
  unfolding after fed_by
  one_leaves h =
      let w : World = feed_def (hand ++ c.behind) (length hand) c.last world in
      subst (λ (b : List ℕ). Leaves c.last w.fed (drop w.fed.at b)) front (leaves (hand ++ c.behind) (length hand) fits to_come c.last none_to_come world s g small h)

  one_room : 48 ≤ length c.buffer → room_left r c ≡ true → Leaves c.last (after r c).fed (after r c).left_over
  unfolding after fed_by room_left
  one_room some h =
      let w : World = feed_def (hand ++ c.behind) (length hand) c.last world in
      subst (λ (b : List ℕ). Leaves c.last w.fed (drop w.fed.at b)) front (leaves_room (hand ++ c.behind) (length hand) fits to_come c.last none_to_come world s g small some h)

  one_taken : (after r c).left_over ≡ drop (fed_by r c).fed.at hand
  unfolding after
  one_taken = refl

  one_within : (fed_by r c).fed.at ≤ length hand
  unfolding fed_by
  one_within = made.taken

  one_full : room_left r c ≡ false → (after r c).fed.phase ≢ ENDED → length c.buffer < 48 * ((fed_by r c).fed.at + 2)
  unfolding after fed_by room_left
  one_full h on = full_takes (hand ++ c.behind) (length hand) fits to_come c.last none_to_come world s g small h on

-- ---- a list of calls

pub record All (r : Run) (s : State) (calls : List Call) (to_come before : List ℕ) : Type 0 where
  pub state : State
  pub going : Goes (after_all r calls) state
  pub same : outputs r calls ++ left state (after_all r calls).fed ((after_all r calls).left_over ++ to_come) ≡ before
  pub along : (bytes : List ℕ) → Along bytes s r.fed (r.left_over ++ (stream calls ++ to_come)) → Along bytes state (after_all r calls).fed ((after_all r calls).left_over ++ to_come)

all_none : (r : Run) (s : State) (to_come : List ℕ) → Goes r s → All r s [] to_come (left s r.fed (r.left_over ++ (stream [] ++ to_come)))
unfolding after_all outputs stream
all_none r s to_come g = record { state = s; going = g; same = refl; along = λ bytes a. a }

proper_last : (c : Call) (calls : List Call) (to_come : List ℕ) → Proper (c ∷ calls) to_come → c.last ≡ true → stream calls ++ to_come ≡ []
unfolding Proper
proper_last c calls to_come p = p.0

proper_small : (c : Call) (calls : List Call) (to_come : List ℕ) → Proper (c ∷ calls) to_come → length c.buffer < 2 ^ 64
unfolding Proper
proper_small c calls to_come p = p.1.0

proper_rest : (c : Call) (calls : List Call) (to_come : List ℕ) → Proper (c ∷ calls) to_come → Proper calls to_come
unfolding Proper
proper_rest c calls to_come p = p.1.1

module _ (to_come : List ℕ) where
  here : (r : Run) (c : Call) (calls : List Call) (s : State) → Goes r s → Proper (c ∷ calls) to_come → One r c s (stream calls ++ to_come)
  here r c calls s g p = one r c s g (proper_small c calls to_come p) (stream calls ++ to_come) (proper_last c calls to_come p)

  all_then : (r : Run) (c : Call) (calls : List Call) (s : State) (o : One r c s (stream calls ++ to_come))
      → All (after r c) o.state calls to_come (left o.state (after r c).fed ((after r c).left_over ++ (stream calls ++ to_come)))
      → All r s (c ∷ calls) to_come (left s r.fed (r.left_over ++ (stream (c ∷ calls) ++ to_come)))
  unfolding after_all outputs stream in_hand
  all_then r c calls s o a = record {
    state = a.state;
    going = a.going;
    same =
        append_assoc (output_of r c) (outputs (after r c) calls) _ ∙ ap (λ (l : List ℕ). output_of r c ++ l) a.same ∙ o.same
        ∙ ap (left s r.fed) (append_assoc r.left_over c.block (stream calls ++ to_come) ∙ ap (λ (l : List ℕ). r.left_over ++ l) (sym (append_assoc c.block (stream calls) to_come)));
    along = λ bytes b. a.along bytes (o.along bytes (subst (Along bytes s r.fed)
        (sym (append_assoc r.left_over c.block (stream calls ++ to_come) ∙ ap (λ (l : List ℕ). r.left_over ++ l) (sym (append_assoc c.block (stream calls) to_come)))) b));
  }

  all_calls : (calls : List Call) (r : Run) (s : State) → Goes r s → Proper calls to_come → All r s calls to_come (left s r.fed (r.left_over ++ (stream calls ++ to_come)))
  all_calls [] r s g p = all_none r s to_come g
  all_calls (c ∷ calls) r s g p =
      all_then r c calls s (here r c calls s g p) (all_calls calls (after r c) (here r c calls s g p).state (here r c calls s g p).going (proper_rest c calls to_come p))

-- ---- from the start

begun_goes : (h : LentState) → Ready h → Goes (begun h) (start base_limits)
unfolding begun begin start
begun_goes h r = record {
  history = _;
  stands = ready_stands h r;
  reachable = reachable_start base_limits;
  base = same_limits refl;
  number_fits = omega arith;
  goes_on = λ i. omega arith;
  refused_fits = omega arith;
  phase_fits = omega arith;
}

begun_left : (h : LentState) (bytes : List ℕ) → left (start base_limits) (begun h).fed ((begun h).left_over ++ bytes) ≡ output base_limits bytes
unfolding begun begin left_at output
begun_left h bytes = refl

begun_along : (h : LentState) (bytes : List ℕ) → Along bytes (start base_limits) (begun h).fed ((begun h).left_over ++ bytes)
unfolding begun begin after_commands so_far
begun_along h bytes = record { state_is = refl; rest_is = λ q. refl; lines_is = begun_left h bytes; none_yet = λ q. refl; went_on = λ q j i. absurd (omega arith) }

module _ (h : LentState) (r : Ready h) (calls : List Call) (to_come : List ℕ) (p : Proper calls to_come) where
  pub from_start : All (begun h) (start base_limits) calls to_come (output base_limits (stream calls ++ to_come))
  from_start =
      subst (λ (o : List ℕ). All (begun h) (start base_limits) calls to_come o) (begun_left h (stream calls ++ to_come))
      (all_calls to_come calls (begun h) (start base_limits) (begun_goes h r) p)

  -- where the calls are in the stream
  pub from_start_along : Along (stream calls ++ to_come) from_start.state (after_all (begun h) calls).fed ((after_all (begun h) calls).left_over ++ to_come)
  from_start_along = from_start.along (stream calls ++ to_come) (begun_along h (stream calls ++ to_come))

  -- what they wrote
  pub from_start_so_far : outputs (begun h) calls
      ≡ so_far (after_all (begun h) calls).fed.phase (after_all (begun h) calls).fed.number (after_all (begun h) calls).fed.refused (stream calls ++ to_come)
  from_start_so_far =
      let f : Progress = (after_all (begun h) calls).fed in
      append_cancel_right (outputs (begun h) calls) (so_far f.phase f.number f.refused (stream calls ++ to_come))
      (left from_start.state f ((after_all (begun h) calls).left_over ++ to_come)) (from_start.same ∙ sym from_start_along.lines_is)

  pub from_start_ended : (after_all (begun h) calls).fed.phase ≡ ENDED → outputs (begun h) calls ≡ output base_limits (stream calls ++ to_come)
  from_start_ended e =
      let f : Progress = (after_all (begun h) calls).fed in
      let b : List ℕ = (after_all (begun h) calls).left_over ++ to_come in
      sym (append-nil (outputs (begun h) calls))
      ∙ ap (λ (l : List ℕ). outputs (begun h) calls ++ l)
      (sym (ap (λ (q : ℕ). left_at from_start.state q f.number f.refused b) e ∙ left_ended from_start.state f.number f.refused b))
      ∙ from_start.same

-- ---- with large buffers the run ends

-- between calls: the end line is written, or no byte is left over but those of a command cut short
data Rests (r : Run) : Type 0 where
  rests_over : r.fed.phase ≡ ENDED → Rests r
  rests_few : r.fed.phase < END → length r.left_over ≤ 8 → waits r.left_over ≡ true → Rests r

rests_after : (r : Run) (c : Call) → Leaves c.last (after r c).fed (after r c).left_over → Rests (after r c)
rests_after r c (run_ended e) = rests_over e
rests_after r c (run_waits e l h w) = rests_few (omega (arith, e)) h w

settled_after : (r : Run) → Rests r → Settled r
settled_after r (rests_over e) = over e
settled_after r (rests_few q h w) = few h

last_over : (r : Run) (c : Call) → c.last ≡ true → Leaves c.last (after r c).fed (after r c).left_over → (after r c).fed.phase ≡ ENDED
last_over r c l (run_ended e) = e
last_over r c l (run_waits e f h w) = absurd (true≢false (sym l ∙ f))

ended_stays : (r : Run) (c : Call) → r.fed.phase ≡ ENDED → (after r c).fed.phase ≡ ENDED
unfolding after fed_by
ended_stays r c e = stays_ended (in_hand r c ++ c.behind) (length (in_hand r c)) c.last (world_of_def r.threads r.cpus r.nodes c.buffer r.fed) e

roomy_first : (c : Call) (calls : List Call) → Roomy (c ∷ calls) → 48 * (length c.block + 10) ≤ length c.buffer
unfolding Roomy
roomy_first c calls h = h.0

roomy_rest : (c : Call) (calls : List Call) → Roomy (c ∷ calls) → Roomy calls
unfolding Roomy
roomy_rest c calls h = h.1

all_one : (r : Run) (c : Call) → after_all r (c ∷ []) ≡ after r c
unfolding after_all
all_one r c = refl

all_more : (r : Run) (c : Call) (calls : List Call) → after_all r (c ∷ calls) ≡ after_all (after r c) calls
unfolding after_all
all_more r c calls = refl

says_one : (c : Call) → says_last (c ∷ []) ≡ true → c.last ≡ true
unfolding says_last
says_one c e = e

says_more : (c d : Call) (calls : List Call) → says_last (c ∷ d ∷ calls) ≡ true → says_last (d ∷ calls) ≡ true
unfolding says_last
says_more c d calls e = e

says_none : says_last [] ≡ true → ⊥
unfolding says_last
says_none e = false≢true e

leaves_after : (to_come : List ℕ) (r : Run) (c : Call) (calls : List Call) (s : State) → Goes r s → Proper (c ∷ calls) to_come → Roomy (c ∷ calls) → Rests r
    → Leaves c.last (after r c).fed (after r c).left_over
unfolding in_hand
leaves_after to_come r c calls s g p m (rests_over e) = run_ended (ended_stays r c e)
leaves_after to_come r c calls s g p m (rests_few q h w) =
    one_leaves r c s g (proper_small c calls to_come p) (stream calls ++ to_come) (proper_last c calls to_come p)
    (omega (arith, roomy_first c calls m, length-append r.left_over c.block))

all_rests : (to_come : List ℕ) (calls : List Call) (r : Run) (s : State) → Goes r s → Proper calls to_come → Roomy calls → Rests r → Rests (after_all r calls)
unfolding after_all
all_rests to_come [] r s g p m h = h
all_rests to_come (c ∷ calls) r s g p m h =
    let o : One r c s (stream calls ++ to_come) = here to_come r c calls s g p in
    all_rests to_come calls (after r c) o.state o.going (proper_rest c calls to_come p) (roomy_rest c calls m)
    (rests_after r c (leaves_after to_come r c calls s g p m h))

all_end : (calls : List Call) (r : Run) (s : State) → Goes r s → Proper calls [] → Roomy calls → Rests r → says_last calls ≡ true → (after_all r calls).fed.phase ≡ ENDED
all_end [] r s g p m h e = absurd (says_none e)
all_end (c ∷ []) r s g p m h e = ap (λ (q : Run). q.fed.phase) (all_one r c) ∙ last_over r c (says_one c e) (leaves_after [] r c [] s g p m h)
all_end (c ∷ d ∷ calls) r s g p m h e =
    let o : One r c s (stream (d ∷ calls) ++ []) = here [] r c (d ∷ calls) s g p in
    ap (λ (q : Run). q.fed.phase) (all_more r c (d ∷ calls))
    ∙ all_end (d ∷ calls) (after r c) o.state o.going (proper_rest c (d ∷ calls) [] p) (roomy_rest c (d ∷ calls) m) (rests_after r c (leaves_after [] r c (d ∷ calls) s g p m h)) (says_more c d calls e)

begun_rests : (h : LentState) → Rests (begun h)
unfolding begun begin waits no_bytes
begun_rests h = rests_few (omega arith) (omega arith) refl

pub from_start_whole : (h : LentState) → Ready h → (calls : List Call) → Proper calls [] → Roomy calls → says_last calls ≡ true
    → outputs (begun h) calls ≡ output base_limits (stream calls)
from_start_whole h r calls p m e =
    from_start_ended h r calls [] p (all_end calls (begun h) (start base_limits) (begun_goes h r) p m (begun_rests h) e)
    ∙ ap (output base_limits) (append-nil (stream calls))

from_start_rests : (h : LentState) → Ready h → (calls : List Call) (to_come : List ℕ) → Proper calls to_come → Roomy calls → Rests (after_all (begun h) calls)
from_start_rests h r calls to_come p m = all_rests to_come calls (begun h) (start base_limits) (begun_goes h r) p m (begun_rests h)

pub from_start_settled : (h : LentState) → Ready h → (calls : List Call) (to_come : List ℕ) → Proper calls to_come → Roomy calls → Settled (after_all (begun h) calls)
from_start_settled h r calls to_come p m = settled_after (after_all (begun h) calls) (from_start_rests h r calls to_come p m)

-- ---- a run that a command ends

nothing_comes : (l to_come : List ℕ) → l ++ to_come ≡ [] → l ++ [] ≡ []
nothing_comes [] to_come e = refl
nothing_comes (b ∷ l) to_come e = absurd (nil≢cons (sym e))

-- calls that are proper with more to come are so with nothing to come
proper_none : (calls : List Call) (to_come : List ℕ) → Proper calls to_come → Proper calls []
unfolding Proper
proper_none [] to_come p = tt
proper_none (c ∷ calls) to_come p = (λ e. nothing_comes (stream calls) to_come (p.0 e), (p.1.0, proper_none calls to_come p.1.1))

still_waits : (bytes : List ℕ) (s : State) (f : Progress) (rest : List ℕ) → Along (bytes ++ []) s f (rest ++ []) → f.phase < END → waits rest ≡ true → EndedWithin bytes → ⊥
still_waits bytes s f rest a q w d =
    let b : Along bytes s f rest = rw (append-nil bytes, append-nil rest) at a in
    never_ended bytes f.number (ap waits (sym (b.rest_is q)) ∙ w) (b.went_on q) d

over_or_waits : (bytes : List ℕ) (s : State) (r : Run) → Along (bytes ++ []) s r.fed (r.left_over ++ []) → EndedWithin bytes → Rests r → r.fed.phase ≡ ENDED
over_or_waits bytes s r a d (rests_over e) = e
over_or_waits bytes s r a d (rests_few q h w) = absurd (still_waits bytes s r.fed r.left_over a q w d)

pub from_start_by_command : (h : LentState) → Ready h → (calls : List Call) (to_come : List ℕ) → Proper calls to_come → Roomy calls → EndedWithin (stream calls)
    → (after_all (begun h) calls).fed.phase ≡ ENDED
from_start_by_command h r calls to_come p m d =
    let p' : Proper calls [] = proper_none calls to_come p in
    over_or_waits (stream calls) (from_start h r calls [] p').state (after_all (begun h) calls) (from_start_along h r calls [] p') d (from_start_rests h r calls to_come p m)

-- ---- buffers of any size: the call after a list of calls

stream_behind : (calls more : List Call) → stream (calls ++ more) ≡ stream calls ++ stream more
unfolding stream
stream_behind [] more = refl
stream_behind (c ∷ calls) more = ap (λ (l : List ℕ). c.block ++ l) (stream_behind calls more) ∙ sym (append_assoc c.block (stream calls) (stream more))

proper_front : (calls more : List Call) (to_come : List ℕ) → Proper (calls ++ more) to_come → Proper calls (stream more ++ to_come)
unfolding Proper
proper_front [] more to_come p = tt
proper_front (c ∷ calls) more to_come p = (
  λ e. sym (append_assoc (stream calls) (stream more) to_come) ∙ ap (λ (l : List ℕ). l ++ to_come) (sym (stream_behind calls more)) ∙ p.0 e,
  (p.1.0, proper_front calls more to_come p.1.1),
)

proper_behind : (calls more : List Call) (to_come : List ℕ) → Proper (calls ++ more) to_come → Proper more to_come
unfolding Proper
proper_behind [] more to_come p = p
proper_behind (c ∷ calls) more to_come p = proper_behind calls more to_come p.1.1

all_behind : (r : Run) (calls : List Call) (c : Call) → after_all r (calls ++ (c ∷ [])) ≡ after (after_all r calls) c
unfolding after_all
all_behind r [] c = refl
all_behind r (d ∷ calls) c = all_behind (after r d) calls c

module _ (h : LentState) (ready : Ready h) (calls : List Call) (c : Call) (to_come : List ℕ) (p : Proper (calls ++ (c ∷ [])) to_come) where
  abbrev r : Run
  r = after_all (begun h) calls

  own : Proper (c ∷ []) to_come
  own = proper_behind calls (c ∷ []) to_come p

  before : All (begun h) (start base_limits) calls (stream (c ∷ []) ++ to_come) (output base_limits (stream calls ++ (stream (c ∷ []) ++ to_come)))
  before = from_start h ready calls (stream (c ∷ []) ++ to_come) (proper_front calls (c ∷ []) to_come p)

  -- what it leaves where there is room for a line
  next_room : 48 ≤ length c.buffer → room_left r c ≡ true → Leaves c.last (after r c).fed (after r c).left_over
  next_room = one_room r c before.state before.going (proper_small c [] to_come own) (stream [] ++ to_come) (proper_last c [] to_come own)

  pub next_settled : 48 ≤ length c.buffer → room_left r c ≡ true → Settled (after r c)
  next_settled some e = settled_after (after r c) (rests_after r c (next_room some e))

  pub next_ends : 48 ≤ length c.buffer → room_left r c ≡ true → c.last ≡ true → (after r c).fed.phase ≡ ENDED
  next_ends some e l = last_over r c l (next_room some e)

  pub next_by_command : 48 ≤ length c.buffer → room_left r c ≡ true → EndedWithin (stream (calls ++ (c ∷ []))) → (after r c).fed.phase ≡ ENDED
  next_by_command some e d =
      let all : List Call = calls ++ (c ∷ []) in
      let p' : Proper all [] = proper_none all to_come p in
      let same : after_all (begun h) all ≡ after r c = all_behind (begun h) calls c in
      sym (ap (λ (q : Run). q.fed.phase) same)
      ∙ over_or_waits (stream all) (from_start h ready all [] p').state (after_all (begun h) all) (from_start_along h ready all [] p') d
      (subst Rests (sym same) (rests_after r c (next_room some e)))

  -- what it took where there is none
  pub next_full : room_left r c ≡ false → (after r c).fed.phase ≢ ENDED → length c.buffer < 48 * ((length (in_hand r c) - length (after r c).left_over) + 2)
  next_full e on =
      let s = before.state in
      let small = proper_small c [] to_come own in
      let none = proper_last c [] to_come own in
      let full = one_full r c s before.going small (stream [] ++ to_come) none e on in
      let within = one_within r c s before.going small (stream [] ++ to_come) none in
      rw (one_taken r c s before.going small (stream [] ++ to_come) none, length-drop)
      (let k : length (in_hand r c) - (length (in_hand r c) - (fed_by r c).fed.at) ≡ (fed_by r c).fed.at = omega (arith, within) in rw k full)
