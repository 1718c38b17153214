use Rattle.lines.proofs.Digits.{decimal_more}
use Rattle.lines.proofs.Writing.{then}
use Rattle.lines.proofs.+put_long.Goals as goal

pub returns : goal.returns
returns t c =
    rw (← decimal_more c.args.n c.if-n-lt10000.false c.ranges.n.fits)
    (then _ _ _ _ _ c.put_long-next.ensures c.put_four.ensures)
