-- THE LINE IN THE LENT BUFFER. Document 01, question 11: "has the lent buffer at least 48 bytes? 11 (Bytes past a rendered line keep their content.)" A yes
-- obliges the whole line. A reader reads all of this file, and proofs/WholeLine but its lemma `line_whole`, after demands' Calls.
use Rattle.std.specs.Prelude.{ℕ, ◌≤◌, ◌<◌, ◌≡◌, List, ◌++◌, length, drop, Result, Ok, Err}
use Rattle.rules.specs.Lines.{line}
use Rattle.lines.specs.declared.Answer.{Answer}
use Rattle.lines.specs.declared.Refusal.{Refusal}
use Rattle.lines.specs.declared.Refusal.TheVariants as refusal
use Rattle.lines.specs.Lines.{answer_of, rendered, buffer_with}

-- What `render` returns for a number and an answer, and the lent buffer as it leaves it: the two equations of its contract (lines/src/lib.rt).
abbrev pub returned : List ℕ → ℕ → Answer → Result ℕ Refusal
returned buffer number answer = rendered buffer 0 (line number (answer_of answer))

abbrev pub left : List ℕ → ℕ → Answer → List ℕ
left buffer number answer = buffer_with buffer 0 (line number (answer_of answer))

-- `render` of this answer writes the whole of this line (a list of bytes), or nothing.
pub record WholeLine (buffer : List ℕ) (number : ℕ) (answer : Answer) (whole : List ℕ) : Type 0 where
  -- The line has at most 48 bytes.
  pub fits : length whole ≤ 48
  -- "has the lent buffer at least 48 bytes?" Yes: `render` returns the length of the line,
  pub written : 48 ≤ length buffer → returned buffer number answer ≡ Ok (length whole)
  -- and the buffer begins with the line; "Bytes past a rendered line keep their content".
  pub holds : 48 ≤ length buffer → left buffer number answer ≡ whole ++ drop (length whole) buffer
  -- No: it is refused by 11, and the buffer is as it was.
  pub refused : length buffer < 48 → returned buffer number answer ≡ Err refusal.SmallBuffer
  pub as_found : length buffer < 48 → left buffer number answer ≡ buffer
