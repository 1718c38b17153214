use Rattle.std.proofs.Common.{◌≡◌, ◌-◌, ◌&&◌, true, false, rules}
use Rattle.std.proofs.lemmas.Iterator.{first_from_Range}
use Rattle.rules.specs.Choice.{may_steal_from, first_that}
use Rattle.topology.specs.Node.{contains_at}
use Rattle.topology.specs.Walk.{those_from}
use Rattle.choice.specs.Reads.{load_at, movable_at}
use Rattle.choice.specs.Steal.{first_from}
use Rattle.choice.proofs.steal.steal_range.Goals as goal

pub returns : goal.returns
returns c =
    let test = contains_at c.args.nodes.now c.args.n in
    let donor = may_steal_from c.args.us (load_at c.args.cpus.now) (movable_at c.args.cpus.now) in
    let found : c.find.result ≡ first_that donor (those_from test c.args.from (c.args.to - c.args.from)) =
    first_from donor test c.args.from c.args.to c.find.result
    (first_from_Range _ _ _ _ (λ k. (test k && donor k) ≡ true) (λ k. (test k && donor k) ≡ false) c.find.ensures.ran
    (λ x q k. search rules)
    (λ x q k. search rules))
    in search (rules, found)
