use Rattle.std.proofs.Common.{◌≡◌, true, false, refl, rules}
use Rattle.lines.specs.Lines.{room, buffer_with}
use Rattle.lines.specs.declared.Text as lent
use Rattle.lines.specs.Text.{text, text_of, write}
use Rattle.lines.proofs.Writing.{rendered_is, buffer_is, refused_is, buffer_kept}
use Rattle.lines.proofs.render_with.Goals as goal

pub returns-then-not-has_room : goal.returns-then-not-has_room
returns-then-not-has_room g c = λ l h.
    let small : room c.args.buffer.now c.args.at ≡ false = cc in
    (refused_is _ _ l small, buffer_kept _ _ l small)

pub returns : goal.returns
returns g c = λ l h.
    let fits : room c.args.buffer.now c.args.at ≡ true = cc in
    let u : lent.Text = c.put.new.arg2 in
    let is : text_of u ≡ write (text c.args.buffer.now c.args.at) l = (h _ _ (record { shown = _; shows = refl; left = _; met = c.put.ensures; leaves = refl })).0 in
    let same : u.buffer.ghost_name ≡ _ = (h _ _ (record { shown = _; shows = refl; left = _; met = c.put.ensures; leaves = refl })).1 in
    let left : u.buffer.now ≡ buffer_with c.args.buffer.now c.args.at l = buffer_is _ _ l fits _ _ is in
    (rw c.saturating_sub.ensures (rendered_is _ _ l fits _ _ is), search rules)
