-- The rules' output of every stream ends with an end line.
use Rattle.std.specs.Prelude.{ℕ, ◌≡◌, List, ◌++◌}
use Rattle.rules.specs.Lines.{end_line}

pub record EndsWithEndLine (bytes : List ℕ) : Type 0 where
  pub before : List ℕ
  pub commands : ℕ
  pub refused : ℕ
  pub is : bytes ≡ before ++ end_line commands refused
