-- Writing byte after byte into a buffer: where the next byte goes, and the parts of a line.
use Rattle.std.specs.Prelude.{◌≡◌, ℕ, ◌+◌, ◌/◌, ◌%◌, cond, List, [], ◌∷◌, ◌++◌, ltb, length, set, Option, Result}
use Rattle.std.specs.Borrow.{MutBor}
use denote.Triple.Both.{Both}
use Rattle.rules.specs.declared.Running.{Running}
use Rattle.rules.specs.Lines.{decimal, space, line_feed, number_or_dash, running_or_dash}
use Rattle.lines.specs.declared.Text as lent
use Rattle.lines.specs.declared.Refusal.{Refusal}
use Rattle.lines.specs.Lines.{rendered, buffer_with}

-- a buffer, and where the next byte goes
pub record Text : Type 0 where
  pub bytes : List ℕ
  pub at : ℕ

abbrev pub text : List ℕ → ℕ → Text
text bytes at = record { bytes = bytes; at = at }

-- one byte; past the end nothing is written
unfoldable pub write_one : Text → ℕ → Text
write_one t b = text (set t.bytes t.at b) (cond (ltb t.at (length t.bytes)) (t.at + 1) t.at)

unfoldable pub write : Text → List ℕ → Text
write t [] = t
write t (b ∷ l) = write (write_one t b) l

-- what the code's text stands for
abbrev pub text_of : lent.Text → Text
text_of t = text t.buffer.now t.at

-- these bytes went to t, which is u then, with the same buffer
abbrev pub Wrote : lent.Text → List ℕ → lent.Text → Type 0
Wrote t l u = (text_of u ≡ write (text_of t) l) × (u.buffer.ghost_name ≡ t.buffer.ghost_name)

-- a function that is lent a text writes these bytes to it
abbrev pub Writes : Both (MutBor lent.Text) (MutBor lent.Text) → List ℕ → Type 0
Writes t l = Wrote t.entry.now l t.exit.now

-- the same of a closure, of which `leaves` says what it leaves
abbrev pub Puts : (lent.Text → Unit {0} → lent.Text → Type 0) → List ℕ → Type 0
Puts leaves l = (t u : lent.Text) → leaves t tt u → Wrote t l u

-- a function that is lent a buffer renders this line into it, from `at` on, and answers r
abbrev pub Renders : Both (MutBor (List ℕ)) (MutBor (List ℕ)) → ℕ → List ℕ → Result ℕ Refusal → Type 0
Renders buffer at l r = (r ≡ rendered buffer.entry.now at l) × (buffer.exit.now ≡ buffer_with buffer.entry.now at l)

-- the last two digits of a number, and the last four, zeros too
unfoldable pub two_digits : ℕ → List ℕ
two_digits n = (48 + n / 10 % 10) ∷ (48 + n % 10) ∷ []

unfoldable pub four_digits : ℕ → List ℕ
four_digits n = two_digits (n / 100) ++ two_digits n

-- the parts of a command's line
unfoldable pub numbers_part : ℕ → ℕ → List ℕ
numbers_part n m = decimal n ++ (space ++ decimal m)

unfoldable pub cpu_part : Option ℕ → Option Running → List ℕ
cpu_part c r = space ++ (number_or_dash c ++ (space ++ running_or_dash r))

unfoldable pub counts_part : Option ℕ → Option ℕ → List ℕ
counts_part load wakeups = space ++ (number_or_dash load ++ (space ++ (number_or_dash wakeups ++ line_feed)))
