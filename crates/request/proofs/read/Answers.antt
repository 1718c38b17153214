use Rattle.std.proofs.Common.{◌≡◌, sym, ◌∙◌, drop, rules}
use Rattle.std.proofs.lemmas.List.{take_rest}
use Rattle.request.specs.Request.{reading_of}
use Rattle.request.proofs.Table.{read_whole_of, read_cut_of}
use Rattle.request.proofs.read.Goals as goal

pub returns-then-rest-n : goal.returns-then-rest-n
unfolding reading_of
returns-then-rest-n c =
    let there = c.in-Some-len1-up in
    let e : there.field-0.now ≡ drop c.args.at c.args.bytes.now = there.ensures.lookup.0.2 ∙ take_rest c.args.bytes.now c.args.at in
    rw (← e) (read_cut_of _ _ _ _ there.len_at_least (sym c.operand_bytes.ensures ∙ c.in_ok-n.ensures.ok_part) c.if-rest-n.true (search (rules, take_rest)))

pub returns : goal.returns
unfolding reading_of
returns c =
    let there = c.in-Some-len1-up in
    let e : there.field-0.now ≡ drop c.args.at c.args.bytes.now = there.ensures.lookup.0.2 ∙ take_rest c.args.bytes.now c.args.at in
    rw (← e, c.ask-request.ensures)
    (read_whole_of _ _ _ _ there.len_at_least (sym c.operand_bytes.ensures ∙ c.in_ok-n.ensures.ok_part) c.if-rest-n.false (search (rules, take_rest)))
