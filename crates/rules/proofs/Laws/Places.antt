-- Every thread is in one place, and a queue's load is its puts less the threads handed out: for every list of calls from the start.
use Rattle.std.specs.Prelude.{ℕ, zero, suc, ◌+◌, ◌<◌, ◌≡◌, refl, ◌↔◌, Bool, true, false, ◌||◌, List, Option, None, Some}
use Rattle.std.proofs.Common.{sym, ap, ◌∙◌, true≢false, eqb-true}
use Rattle.std.proofs.lemmas.Bool.{false≢true, not-true, or_parts}
use Rattle.rules.specs.Line.{has}
use Rattle.rules.proofs.Laws.Line.{both}
use Rattle.rules.specs.Queue.{order, load}
use Rattle.rules.specs.Puts.{PutOrTake}
use Rattle.rules.specs.State.{any_below, is_number, Limits, State, start, runs_on, waits_on, blocked}
use Rattle.rules.specs.Commands.{world_of, after_calls, history}
use Rattle.rules.specs.Ahead.{served, puts}
use Rattle.rules.proofs.Laws.Steps.{nobody_but}
use Rattle.rules.proofs.Laws.Sound.{not_true_is}
use Rattle.rules.proofs.Laws.Reached.{Reached, reached_start, reached_calls, kept_calls, any_not}

-- A thread runs on one CPU, waits in one queue, or is blocked, and no two of these. One that runs or waits is declared.
pub record InOnePlace (s : State) : Type 0 where
  pub runs_once : (c d x : ℕ) → runs_on s c x ≡ true → runs_on s d x ≡ true → c ≡ d
  pub waits_once : (c d x : ℕ) → waits_on s c x ≡ true → waits_on s d x ≡ true → c ≡ d
  pub not_both : (c d x : ℕ) → runs_on s c x ≡ true → waits_on s d x ≡ false
  pub else_blocked : (x : ℕ) → (blocked s x ≡ true) ↔ ((c : ℕ) → (runs_on s c x ≡ false) × (waits_on s c x ≡ false))
  pub declared : (c x : ℕ) → (runs_on s c x || waits_on s c x) ≡ true → s.known x ≡ true

-- ---- the proof

pub is_some_number : (x : ℕ) (o : Option ℕ) → is_number x o ≡ true → o ≡ Some x
unfolding is_number
is_some_number x None e = absurd (false≢true e)
is_some_number x (Some y) e = ap Some (eqb-true y x e)

all_not : (n : ℕ) (test : ℕ → Bool) → ((c : ℕ) → test c ≡ false) → any_below n test ≡ false
unfolding any_below
all_not zero test h = refl
all_not (suc n) test h = rw (all_not n test h, h n)

reached_places : {H : ℕ → List PutOrTake} {s : State} → Reached H s → InOnePlace s
unfolding runs_on waits_on blocked world_of nobody_but
reached_places {H} {s} r = record {
  runs_once = λ c d x h k. r.sound.one c d x (is_some_number x _ h) (is_some_number x _ k);
  waits_once = λ c d x h k. r.sound.alone c d x h k;
  not_both = λ c d x h. r.sound.free c x refl (is_some_number x _ h) d;
  else_blocked = λ x. (
    λ b c.
        let neither : (d : ℕ) → d < s.limits.cpus → (is_number x (s.cpus d).running ≡ false) × (has x (order (s.cpus d).queue) ≡ false) =
        λ d i. or_parts _ _ (any_not s.limits.cpus _ (not-true _ b) d i) in (
          not_true_is _ (λ t. true≢false (sym t ∙ (neither c (r.sound.runs c x (is_some_number x _ t)).0).0)),
          not_true_is _ (λ t. true≢false (sym t ∙ (neither c (r.sound.placed c x t).0).1)),
        ),
    λ h. rw (all_not s.limits.cpus (λ c. is_number x (s.cpus c).running || has x (order (s.cpus c).queue)) (λ c. rw ((h c).0, (h c).1))),
  );
  declared = λ c x h.
      both (is_number x (s.cpus c).running)
      (λ t. (r.sound.runs c x (is_some_number x _ t)).1)
      (λ t. (r.sound.placed c x (rw t at h)).1);
}

-- ---- for every list of calls from the start

pub in_one_place : (limits : Limits) (calls : List (List ℕ)) → InOnePlace (after_calls (start limits) calls)
in_one_place limits calls = reached_places (reached_calls calls (reached_start limits))

pub load_is : (limits : Limits) (calls : List (List ℕ)) (c : ℕ)
    → load ((after_calls (start limits) calls).cpus c).queue + served (history (start limits) calls c) ≡ puts (history (start limits) calls c)
unfolding load
load_is limits calls c = (kept_calls limits calls c).fits.load_is
