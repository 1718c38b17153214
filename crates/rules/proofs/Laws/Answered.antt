-- A call is refused or obeyed: what holds of both holds of it, and what each call keeps, lists of calls keep.
use Rattle.std.specs.Prelude.{ℕ, ◌≡◌, List, [], ◌∷◌, ◌++◌, eqb}
use Rattle.std.proofs.Common.{eqb-true}
use Rattle.rules.proofs.Laws.Line.{both}
use Rattle.rules.specs.State.{State}
use Rattle.rules.specs.Requests.{Request, Reading, unknown, cut_short, asks}
use Rattle.rules.specs.Questions.{concerning, first_no, room, refusal}
use Rattle.rules.specs.Commands.{Step, refuses, obeys, answered, step, after_calls}

pub by_answer : (P : Step → Type 0) (s : State) (q : Reading) → ((n : ℕ) → P (refuses s n)) → ((r : Request) → first_no (concerning s r ++ (room s ∷ [])) ≡ 0 → P (obeys s r)) → P (answered s q)
unfolding answered refusal
by_answer P s unknown refused goes = refused 1
by_answer P s cut_short refused goes = refused 2
by_answer P s (asks r used) refused goes =
    both (eqb (first_no (concerning s r ++ (room s ∷ []))) 0)
    (λ e. rw e (goes r (eqb-true _ 0 e)))
    (λ e. rw e (refused _))

-- what an obeyed command keeps
pub kept_by_answer : (P : State → Type 0) (s : State) (q : Reading) → P s → ((r : Request) → first_no (concerning s r ++ (room s ∷ [])) ≡ 0 → P (obeys s r).state) → P (answered s q).state
unfolding refuses
kept_by_answer P s q k goes = by_answer (λ (a : Step). P a.state) s q (λ n. k) goes

pub kept_by_calls : (P : State → Type 0) → ((s : State) (bytes : List ℕ) → P s → P (step s bytes).state) → (s : State) (calls : List (List ℕ)) → P s → P (after_calls s calls)
unfolding after_calls
kept_by_calls P keeps s [] k = k
kept_by_calls P keeps s (bytes ∷ calls) k = kept_by_calls P keeps (step s bytes).state calls (keeps s bytes k)
