-- What one line of text means: a name, then the fields of that command in the order of document 01's table.
use Rattle.std.specs.Prelude.{ℕ, zero, suc, ◌+◌, Bool, true, false, cond, List, [], ◌∷◌, eqb, length, set, Option, None, Some, Result, Ok, Err}
use Rattle.std.specs.Str.{bytes_eq}
use Rattle.names.specs.Names.{Naming, namings, ascii}
use Rattle.request.specs.Request.{all_ones_of}
use Rattle.request.specs.Fields.{list_of, four, row}
use Rattle.parse.specs.Words.{before_comment, skip_blanks, word, behind}
use Rattle.parse.specs.Numbers.{number_of}
use Rattle.request.specs.declared.fields.Command.{Command}
use Rattle.parse.specs.declared.Misfit.{Misfit}
use Rattle.parse.specs.declared.Misfit.TheVariants as misfit

-- A line without words means nothing. `unfit i`: word number i, the name being word 0, is missing, is no number, or is one too many. A command is its byte and
-- four fields, 0 where it has fewer.
pub data Meaning : Type 0 where
  nothing : Meaning
  unknown : Meaning
  unfit : ℕ → Meaning
  command : ℕ → List ℕ → Meaning

-- ---- the name

-- the byte of the command that has this name
unfoldable pub byte_among : List ℕ → List Naming → Option ℕ
byte_among name [] = None
byte_among name (n ∷ ns) = cond (bytes_eq name (ascii n.name)) (Some n.byte) (byte_among name ns)

unfoldable pub byte_named : List ℕ → Option ℕ
byte_named name = byte_among name namings

-- ---- the fields

-- The pin of a thread is the last field, number 3 of hex 10. It may be missing, or `-`: then it is all ones.
unfoldable pub is_pin : ℕ → ℕ → Bool
is_pin byte i = cond (eqb byte 0x10) (eqb i 3) false

unfoldable pub no_pin : List ℕ → Bool
no_pin word = cond (eqb (length word) 0) true (bytes_eq word (ascii "-"))

unfoldable pub pin : Bool → List ℕ → Option ℕ
pin wide word = cond (no_pin word) (Some (all_ones_of wide)) (number_of word)

-- field number i, from 0
unfoldable pub field : Bool → ℕ → ℕ → List ℕ → Option ℕ
field wide byte i word = cond (is_pin byte i) (pin wide word) (number_of word)

unfoldable pub given : Option ℕ → Meaning → (ℕ → Meaning) → Meaning
given None other then = other
given (Some n) other then = then n

-- All fields are read: the line has to end. If it does not, word number i is one too many.
unfoldable pub ended : ℕ → ℕ → List ℕ → List ℕ → Meaning
ended byte i fields text = cond (eqb (length (skip_blanks text)) 0) (command byte fields) (unfit i)

-- The fields from number i on, n of them, out of the text that is left; `fields` has those before them.
unfoldable pub fields_from : Bool → ℕ → ℕ → ℕ → List ℕ → List ℕ → Meaning
fields_from wide byte i zero fields text = ended byte (i + 1) fields text
fields_from wide byte i (suc n) fields text =
    given (field wide byte i (word (skip_blanks text))) (unfit (i + 1))
    (λ v. fields_from wide byte (suc i) n (set fields i v) (behind (skip_blanks text)))

-- ---- the line

-- what a name means with the text behind it
unfoldable pub named_meaning : Bool → List ℕ → Option ℕ → Meaning
named_meaning wide text None = unknown
named_meaning wide text (Some byte) = fields_from wide byte 0 (length (row wide byte)) (four []) text

unfoldable pub text_meaning : Bool → List ℕ → Meaning
text_meaning wide text =
    cond (eqb (length (skip_blanks text)) 0) nothing
    (named_meaning wide (behind (skip_blanks text)) (byte_named (word (skip_blanks text))))

unfoldable pub meaning : Bool → List ℕ → Meaning
meaning wide line = text_meaning wide (before_comment line)

-- ---- what the declared answers stand for

unfoldable pub meaning_of : Result (Option Command) Misfit → Meaning
meaning_of (Ok None) = nothing
meaning_of (Ok (Some c)) = command c.byte (list_of c.fields)
meaning_of (Err misfit.Unknown) = unknown
meaning_of (Err (misfit.Unfit i)) = unfit i
