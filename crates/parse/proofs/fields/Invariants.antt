use Rattle.parse.specs.Meaning.{fields_from}
use mathlib.Core.Path.{◌≡◌}
use Prim.Native.Nat.{◌-◌}
use Rattle.request.specs.Fields.{four}
use mathlib.Core.List.{[]}
use Rattle.parse.proofs.fields.Given as goal

abbrev pub invariant-loop-i : goal.invariant-loop-i
invariant-loop-i l = fields_from l.wide l.byte 0 l.count (four []) l.text ≡ fields_from l.wide l.byte l.i (l.count - l.i) l.found l.left
