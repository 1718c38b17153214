use Rattle.std.proofs.Common.{◌≡◌, drop}
use Rattle.lines.specs.Text.{text_of, write}
use Rattle.listing.specs.Listing.{numbers}
use Rattle.listing.proofs.put_fields.Given as goal

-- what is left to write makes of the text what all of it makes of the first one
abbrev pub invariant-loop-number : goal.invariant-loop-number
invariant-loop-number l = record {
  written : write (text_of l.text) (numbers (drop l.number-index l.number-items)) ≡ write (text_of l.initial.text) (numbers l.number-items);
  same_buffer : l.text.buffer.ghost_name ≡ l.initial.text.buffer.ghost_name;
}
