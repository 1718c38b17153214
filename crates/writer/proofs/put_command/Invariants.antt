use Rattle.std.proofs.Common.{◌≡◌, length}
use Rattle.std.specs.Iterator.Adapters.{zip_first, zip_second}
use Rattle.std.specs.Slice.Iter.{iter_rest}
use Rattle.rules.specs.Writer.{field_bytes}
use Rattle.lines.specs.Text.{text_of, write}
use Rattle.writer.proofs.Rows.{Narrow}
use Rattle.writer.proofs.put_command.Given as goal

-- what is left to write makes of the text what all of it makes of the first one
abbrev pub invariant-loop-n : goal.invariant-loop-n
invariant-loop-n l =
    let ws = iter_rest (zip_first l.n-iterator) in
    let vs = iter_rest (zip_second l.n-iterator) in
    record {
      alike : length ws ≡ length vs;
      narrow : Narrow ws;
      written : write (text_of l.text) (field_bytes ws vs) ≡ write (text_of l.initial.text) (field_bytes (iter_rest (zip_first l.initial.n-iterator)) (iter_rest (zip_second l.initial.n-iterator)));
      same_buffer : l.text.buffer.ghost_name ≡ l.initial.text.buffer.ghost_name;
    }
