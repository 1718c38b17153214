-- The text form of a command: the names of the commands and of their fields, in the order of document 01's table.
use Rattle.std.specs.Prelude.{ℕ, zero, suc, cond, List, [], ◌∷◌, eqb}
use Prim.Native.Char.{code}
use Prim.Native.String.{String, [] as end, ◌∷◌ as ◌then◌}

-- a text as its bytes; all texts here are ASCII
unfoldable pub ascii : String → List ℕ
ascii end = []
ascii (c then s) = code c ∷ ascii s

pub record Naming : Type 0 where
  pub byte : ℕ
  pub name : String
  pub fields : List String

unfoldable pub naming : ℕ → String → List String → Naming
naming byte name fields = record { byte = byte; name = name; fields = fields }

unfoldable pub namings : List Naming
namings =
    naming 0x01 "cpu" ("cpu" ∷ [])
    ∷ naming 0x02 "node" ("parent" ∷ "type" ∷ [])
    ∷ naming 0x03 "place" ("node" ∷ "cpu" ∷ [])
    ∷ naming 0x04 "seal" []
    ∷ naming 0x05 "shortest" ("ticks" ∷ [])
    ∷ naming 0x10 "thread" ("thread" ∷ "class" ∷ "value" ∷ "pin" ∷ [])
    ∷ naming 0x11 "tick" ("tick" ∷ [])
    ∷ naming 0x12 "wake" ("cpu" ∷ "thread" ∷ [])
    ∷ naming 0x13 "schedule" ("cpu" ∷ "flags" ∷ [])
    ∷ naming 0x14 "hardtick" ("cpu" ∷ [])
    ∷ naming 0x15 "stattick" ("cpu" ∷ "nanoseconds" ∷ [])
    ∷ naming 0x16 "resched" ("cpu" ∷ [])
    ∷ naming 0x17 "preempt" ("cpu" ∷ [])
    ∷ naming 0x18 "donate" ("cpu" ∷ "thread" ∷ "class" ∷ "value" ∷ [])
    ∷ naming 0x19 "undonate" ("thread" ∷ [])
    ∷ naming 0x1a "critical" ("thread" ∷ "mark" ∷ [])
    ∷ []

-- the row of a byte; a byte that is not in the table has no name and no fields
unfoldable pub naming_among : ℕ → List Naming → Naming
naming_among byte [] = naming byte "" []
naming_among byte (n ∷ ns) = cond (eqb byte n.byte) n (naming_among byte ns)

unfoldable pub nth_text : ℕ → List String → String
nth_text i [] = ""
nth_text zero (t ∷ ts) = t
nth_text (suc i) (t ∷ ts) = nth_text i ts

unfoldable pub name_of : ℕ → List ℕ
name_of byte = ascii (naming_among byte namings).name

-- the name of a command's field number i, from 0
unfoldable pub field_name : ℕ → ℕ → List ℕ
field_name byte i = ascii (nth_text i (naming_among byte namings).fields)
