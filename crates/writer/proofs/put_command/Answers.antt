use Rattle.std.proofs.Common.{◌≡◌, rules, refl, arith, ◌∙◌, ◌∷◌, []}
use Rattle.std.specs.Iterator.Adapters.{zip_first, zip_second}
use Rattle.std.specs.Slice.Iter.{iter_rest}
use Rattle.std.proofs.lemmas.Iterator.{empty_from_Zip}
use Rattle.rules.specs.Writer.{field_bytes, bytes_of}
use Rattle.lines.specs.Text.{text, text_of, write}
use Rattle.lines.proofs.Writing.{then}
use Rattle.request.specs.Request.{limits_of}
use Rattle.request.specs.Fields.{list_of, four, row}
use Rattle.writer.proofs.Rows.{Narrow, narrow_row, field_put, bytes_row}
use Rattle.writer.proofs.put_command.Goals as goal

pub loop-n-init : goal.loop-n-init
unfolding four list_of
loop-n-init c =
    let ws : iter_rest (zip_first c.into_iter-n-iterator.result) ≡ four (row c.args.wide c.args.command.byte) = search rules in
    let vs : iter_rest (zip_second c.into_iter-n-iterator.result) ≡ c.from-fields.result = cc in
    record {
      alike = rw (ws, vs, c.from-fields.ensures);
      narrow = rw ws (narrow_row _ _ _ _ _ refl c.from-fields.ensures);
      written = refl;
      same_buffer = search rules;
    }

pub put_field-requires : goal.put_field-requires
unfolding Narrow
put_field-requires c = (rw c.in-Some.ensures.steps.0 at c.loop-n.invariant.narrow).0

pub loop-n-preserved : goal.loop-n-preserved
unfolding Narrow
loop-n-preserved c =
    let s = c.in-Some.ensures.steps in
    record {
      alike = omega (arith, rw (s.0, s.1) at c.loop-n.invariant.alike);
      narrow = (rw s.0 at c.loop-n.invariant.narrow).1;
      written = field_put _ _ _ _ _ _ c.put_field.ensures.0 ∙ rw (s.0, s.1) at c.loop-n.invariant.written;
      same_buffer = c.put_field.ensures.1 ∙ c.loop-n.invariant.same_buffer;
    }

pub returns : goal.returns
unfolding field_bytes four write
returns c =
    let ws : iter_rest (zip_first c.into_iter-n-iterator.result) ≡ four (row c.args.wide c.args.command.byte) = search rules in
    let vs : iter_rest (zip_second c.into_iter-n-iterator.result) ≡ c.from-fields.result = cc in
    let none = empty_from_Zip _ c.next.new.self _ c.in-None.is c.next.ensures.steps c.loop-n.invariant.alike in
    let left : text_of c.loop-n.text ≡ write (text_of c.put.new.self) (field_bytes (four (row c.args.wide c.args.command.byte)) c.from-fields.result) = rw (none.0, ws, vs) at c.loop-n.invariant.written in
    let all : text_of c.loop-n.text ≡ write (text c.args.buffer.now 0) (bytes_of (limits_of c.args.wide) c.args.command.byte (list_of c.args.command.fields)) =
    rw (← bytes_row c.args.wide c.args.command.byte c.args.command.fields _ _ refl c.from-fields.ensures) (then _ (text_of c.put.new.self) _ (c.args.command.byte ∷ []) (field_bytes (four (row c.args.wide c.args.command.byte)) c.from-fields.result) c.put.ensures.0 left) in
    search rules
