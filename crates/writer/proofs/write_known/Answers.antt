use Rattle.std.proofs.Common.{◌≡◌, true, ltb, length, lt-ltb}
use Rattle.request.specs.Fields.{list_of}
use Rattle.writer.specs.Writer.{written_of, no_misfit, known_answer, known_buffer}
use Rattle.writer.proofs.Rows.{at_front}
use Rattle.writer.proofs.write_known.Goals as goal

pub returns : goal.returns
unfolding written_of known_answer known_buffer
returns c =
    let m : no_misfit c.args.wide c.args.command.byte (list_of c.args.command.fields) ≡ true = cc in
    let t : ltb c.args.n (length c.args.buffer.now) ≡ true = lt-ltb _ _ c.if-buffer-n.false in
    (rw (m, t), rw (m, t) (at_front _ _ _ _ c.put_command.ensures))
