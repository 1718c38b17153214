use Rattle.std.proofs.Common.{◌∙◌, sym, rules, tests}
use Rattle.parse.specs.Words.{blank}
use Rattle.parse.proofs.Walking.{front_count, blanks_length}
use Rattle.parse.proofs.words.blanks.Goals as goal

pub returns : goal.returns
returns c =
    let l = c.args.text.now in
    front_count blank l _ c.count.result c.count.ensures.ran (cc) (cc) (cc) (λ x b q k. search (rules, tests)) ∙ sym (blanks_length l)
