-- The operands of a command that was read, given to the writer again.
use Rattle.std.specs.Prelude.{ℕ, List, ◌++◌, replicate}
use Rattle.rules.specs.State.{Limits}
use Rattle.rules.specs.Requests.{operands}
use Rattle.rules.specs.Writer.{row}

-- those of the command with this byte and these bytes behind it, with any number of zeros behind them
abbrev pub operands_read : Limits → ℕ → List ℕ → ℕ → List ℕ
operands_read l byte bytes zeros = operands (row l byte) bytes ++ replicate zeros 0
