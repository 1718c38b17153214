use Rattle.std.proofs.Common.{◌∙◌, sym, not, rules, tests}
use Rattle.parse.specs.Words.{blank}
use Rattle.parse.proofs.Walking.{front_count, letters_length}
use Rattle.parse.proofs.words.letters.Goals as goal

pub returns : goal.returns
returns c =
    let l = c.args.text.now in
    front_count (λ b. not (blank b)) l _ c.count.result c.count.ensures.ran (cc) (cc) (cc) (λ x b q k. search (rules, tests)) ∙ sym (letters_length l)
