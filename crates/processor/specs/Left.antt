-- What a function leaves of a slice that it is lent, and what it answers: one equation for both.
use Rattle.std.specs.Prelude.{ℕ, ◌≡◌, List}
use Rattle.std.specs.Borrow.{MutBor}
use denote.Triple.Both.{Both}

-- the words of the CPUs, or of the nodes
abbrev pub Words : Type 0
Words = List (List ℕ)

-- an answer, and the memory as it is then
pub record Left (A M : Type 0) : Type 0 where
  pub answer : A
  pub memory : M

-- a lent slice in a contract, a `&mut [X]`: as it was, and as it is left
abbrev pub Slice : Type 0 → Type 0
Slice X = Both (MutBor (List X)) (MutBor (List X))

-- the function answers r and leaves the slice as f says
abbrev pub LeavesOne : {A X : Type 0} → (List X → Left A (List X)) → A → Slice X → Type 0
LeavesOne {A} {X} f r slice = ◌≡◌ {A = Left A (List X)} (record { answer = r; memory = slice.exit.now }) (f slice.entry.now)

-- the same of a function that answers nothing
abbrev pub BecomesOne : {X : Type 0} → (List X → List X) → Slice X → Type 0
BecomesOne {X} f slice = ◌≡◌ {A = List X} slice.exit.now (f slice.entry.now)
