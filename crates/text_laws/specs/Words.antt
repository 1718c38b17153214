-- What a word without blanks and comments is.
use Rattle.std.specs.Prelude.{ℕ, Bool, true, false, cond, List, [], ◌∷◌, leb}

-- Every byte is a digit or comes behind the digits: no blank, no `#`, no `-`.
unfoldable pub plain : List ℕ → Bool
plain [] = true
plain (b ∷ l) = cond (leb 48 b) (plain l) false
