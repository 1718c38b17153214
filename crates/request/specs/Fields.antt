-- The operands of a command as four numbers.
use Rattle.std.specs.Prelude.{ℕ, Bool, List, [], ◌∷◌}
use Rattle.rules.specs.Requests.{nth}
use Rattle.rules.specs.Writer as rules
use Rattle.request.specs.Request.{limits_of}
use Rattle.request.specs.declared.fields.Fields.{Fields}

unfoldable pub list_of : Fields → List ℕ
list_of f = f.first ∷ f.second ∷ f.third ∷ f.fourth ∷ []

-- a list cut after four numbers, or filled up with zeros
unfoldable pub four : List ℕ → List ℕ
four l = nth 0 l ∷ nth 1 l ∷ nth 2 l ∷ nth 3 l ∷ []

-- the widths of a command's operands in this form of the stream
unfoldable pub row : Bool → ℕ → List ℕ
row wide byte = rules.row (limits_of wide) byte
