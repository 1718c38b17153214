use Rattle.std.proofs.Common.{◌∙◌, sym, eqb, not, rules, tests}
use Rattle.parse.proofs.Walking.{front_count, comment_length}
use Rattle.parse.proofs.words.comment_begin.Goals as goal

pub returns : goal.returns
returns c =
    let l = c.args.line.now in
    front_count (λ b. not (eqb b 35)) l _ c.count.result c.count.ensures.ran (cc) (cc) (cc) (λ x b q k. search (rules, tests)) ∙ sym (comment_length l)
