use mathlib.Core.Path.{◌≡◌}
use Rattle.parse.specs.Numbers.{value, digits}
use lib.ListN.{drop}
use Rattle.parse.proofs.number.digits.Given as goal

abbrev pub invariant-loop-byte : goal.invariant-loop-byte
invariant-loop-byte l = digits l.hexadecimal l.word ≡ value l.hexadecimal l.n (drop l.byte-index l.word)
