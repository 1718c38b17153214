-- One question after another, and the CPUs past the rows lent.
use Rattle.std.specs.Prelude.{Option, None, Some}
use Prim.Native.Nat.{ℕ, min, ◌≤◌}
use mathlib.Core.Path.{◌≡◌, refl}
use mathlib.Core.Bool.{true, false}
use mathlib.Core.List.{List, [], ◌∷◌}
use lib.ListN.{length, get_or-eq_default}
use native.Mathlib.Omega.{arith}
use Rattle.rules.specs.Questions.{Question, question, first_no}
use Rattle.rules.proofs.Seal.{undeclared_passed}
use Rattle.processor.specs.Words.{word}
use Rattle.questions.specs.declared.state.State.{State}
use Rattle.questions.specs.Questions.{cpu_declared, pin_declared, declared_in, placed_in, all_placed_below}

pub yes : (q : Question) (l : List Question) → q.answer ≡ true → first_no (q ∷ l) ≡ first_no l
unfolding first_no
yes q l h = rw h

pub no : (q : Question) (l : List Question) → q.answer ≡ false → first_no (q ∷ l) ≡ q.number
unfolding first_no
no q l h = rw h

pub all_yes : first_no [] ≡ 0
unfolding first_no
all_yes = refl

-- past the rows lent no CPU is declared
undeclared : (cs : List (List ℕ)) (c : ℕ) → length cs ≤ c → declared_in cs c ≡ false
unfolding word
undeclared cs c h = rw (get_or-eq_default cs [] h)

pub in_rows : (cs : List (List ℕ)) (limit : ℕ) → all_placed_below cs limit ≡ all_placed_below cs (min limit (length cs))
in_rows cs limit = undeclared_passed (declared_in cs) (placed_in cs) (min limit (length cs)) limit (omega arith) (λ c a b. undeclared cs c (omega arith))

-- whatever the pin, the question is the fourth
pub pin_number : (cs : List (List ℕ)) (s : State) (o : Option ℕ) → (pin_declared cs s o).number ≡ 4
unfolding pin_declared cpu_declared question
pin_number cs s None = refl
pin_number cs s (Some c) = refl
