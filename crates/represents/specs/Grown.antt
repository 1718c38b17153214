-- The topology with one node more: node p's new last child, of kind k.
use Rattle.std.specs.Prelude.{ℕ}
use Rattle.rules.specs.State.{Topology}
use Rattle.rules.specs.Commands.{with_node}

abbrev pub grown : Topology → ℕ → ℕ → Topology
grown t p k = with_node t p k
