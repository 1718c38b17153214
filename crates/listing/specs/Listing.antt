-- The text of one command: its name, a space and a decimal number for each field of its row, a line feed.
use Rattle.std.specs.Prelude.{ℕ, Bool, cond, ◌&&◌, List, [], ◌∷◌, ◌++◌, eqb, length, take}
use Rattle.rules.specs.Lines.{decimal, space, line_feed}
use Rattle.request.specs.Request.{all_ones_of}
use Rattle.request.specs.Fields.{row}
use Rattle.rules.specs.Requests.{nth}
use Rattle.names.specs.Names.{name_of}

unfoldable pub numbers : List ℕ → List ℕ
numbers [] = []
numbers (v ∷ vs) = space ++ (decimal v ++ numbers vs)

-- "A pin of all ones is none": such a pin of hex 10 is not shown.
unfoldable pub no_pin : Bool → ℕ → List ℕ → Bool
no_pin wide byte fields = eqb byte 0x10 && eqb (nth 3 fields) (all_ones_of wide)

unfoldable pub shown_fields : Bool → ℕ → List ℕ → List ℕ
shown_fields wide byte fields = take (cond (no_pin wide byte fields) 3 (length (row wide byte))) fields

unfoldable pub listed : Bool → ℕ → List ℕ → List ℕ
listed wide byte fields = name_of byte ++ (numbers (shown_fields wide byte fields) ++ line_feed)
