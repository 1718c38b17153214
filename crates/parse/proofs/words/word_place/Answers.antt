use Rattle.std.proofs.Common.{length, rules}
use Rattle.parse.specs.Words.{before_comment}
use Rattle.parse.proofs.Reading.{word_part, part_of_line}
use Rattle.parse.proofs.Walking.{comment_front, comment_within}
use Rattle.parse.proofs.words.word_place.Goals as goal

pub returns-clause-part : goal.returns-clause-part
returns-clause-part c =
    let l = c.args.line.now in
    part_of_line l _ (length (before_comment l)) _ _ (comment_within l) (rw (comment_front l) (word_part c.args.i (before_comment l) _ _ (search rules) (search rules)))
