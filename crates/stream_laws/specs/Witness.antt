-- There are such calls: any stream cut into blocks of at most 4,096 bytes, each fed with one buffer of 262,144 bytes, and then a call with no new byte that says
-- `last`.
use Rattle.std.specs.Prelude.{ℕ, ◌≤◌, Bool, true, false, List, [], ◌∷◌, ◌++◌, length}
use Rattle.stream_laws.specs.Calls.{Call}

abbrev pub call : List ℕ → Bool → List ℕ → Call
call buffer last block = record { block = block; behind = []; buffer = buffer; last = last }

unfoldable pub fed_with : List ℕ → List (List ℕ) → List Call
fed_with buffer [] = call buffer true [] ∷ []
fed_with buffer (block ∷ blocks) = call buffer false block ∷ fed_with buffer blocks

unfoldable pub joined : List (List ℕ) → List ℕ
joined [] = []
joined (block ∷ blocks) = block ++ joined blocks

unfoldable pub Short : List (List ℕ) → Type 0
Short [] = Unit
Short (block ∷ blocks) = (length block ≤ 4096) × Short blocks
