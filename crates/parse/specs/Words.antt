-- A line as words: what a comment is, what a blank is, where a word begins and ends.
use Rattle.std.specs.Prelude.{ℕ, zero, suc, ◌-◌, ◌≤◌, ◌≡◌, Bool, true, cond, List, [], ◌∷◌, eqb, length, take, drop}

-- `#` begins a comment, anywhere in a line
unfoldable pub before_comment : List ℕ → List ℕ
before_comment [] = []
before_comment (b ∷ l) = cond (eqb b 35) [] (b ∷ before_comment l)

-- space, tab, carriage return
unfoldable pub blank : ℕ → Bool
blank b = cond (eqb b 32) true (cond (eqb b 9) true (eqb b 13))

-- how many bytes at the front are blank, and how many are not
unfoldable pub blanks : List ℕ → ℕ
blanks [] = 0
blanks (b ∷ l) = cond (blank b) (suc (blanks l)) 0

unfoldable pub letters : List ℕ → ℕ
letters [] = 0
letters (b ∷ l) = cond (blank b) 0 (suc (letters l))

-- the text without the blanks at its front, the word that stands at its front, and what follows that word
unfoldable pub skip_blanks : List ℕ → List ℕ
skip_blanks text = drop (blanks text) text

unfoldable pub word : List ℕ → List ℕ
word text = take (letters text) text

unfoldable pub behind : List ℕ → List ℕ
behind text = drop (letters text) text

-- the text from word number i on, from 0; nothing if it has fewer words
unfoldable pub from_word : ℕ → List ℕ → List ℕ
from_word zero text = skip_blanks text
from_word (suc i) text = from_word i (behind (skip_blanks text))

-- the bytes `from` to `to` of a text, the last one not included, are these
pub record Part (text : List ℕ) (from to : ℕ) (bytes : List ℕ) : Type 0 where
  pub order : from ≤ to
  pub within : to ≤ length text
  pub are : take (to - from) (drop from text) ≡ bytes
