use mathlib.Core.Path.{◌≡◌}
use lib.ListN.{drop}
use Rattle.lines.specs.Text.{text_of, write}
use Rattle.lines.proofs.Text.put_bytes.Given as goal

-- what is left to write makes of the text what all of it makes of the first one
abbrev pub invariant-loop-byte : goal.invariant-loop-byte
invariant-loop-byte l = record {
  written : write (text_of l.self) (drop l.byte-index l.bytes) ≡ write (text_of l.initial.self) l.bytes;
  same_buffer : l.self.buffer.ghost_name ≡ l.initial.self.buffer.ghost_name;
}
