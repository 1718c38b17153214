use Rattle.std.proofs.Common.{◌∙◌, drop-cons}
use Rattle.lines.proofs.Writing.{write_next}
use Rattle.lines.proofs.Text.put_bytes.Goals as goal

pub loop-byte-preserved : goal.loop-byte-preserved
loop-byte-preserved c = record {
  written = write_next _ _ c.args.bytes.now c.loop-byte.byte-index _ c.put.ensures.0 (drop-cons c.args.bytes.now c.loop-byte.byte-index 0 c.loop-byte-test.true) ∙ c.loop-byte.invariant.written;
  same_buffer = c.put.ensures.1 ∙ c.loop-byte.invariant.same_buffer;
}
