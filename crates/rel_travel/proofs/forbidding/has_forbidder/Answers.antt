use Rattle.std.proofs.Common.{◌∙◌, sym, arith}
use Rattle.rel_travel.proofs.ForbiddenDeletions.{none_is, one_is, one_forbids, shown}
use Rattle.rel_travel.proofs.forbidding.has_forbidder.Goals as goal

pub returns-then-forbids_one : goal.returns-then-forbids_one
returns-then-forbids_one g c =
    let ids = g.G.Graph.ids c.args.graph.now in
    let members = c.args.members.now.items in
    sym (one_is (one_forbids ids members) c.args.referring.now c.loop-entity.entity-index 0 (omega arith) (sym c.forbids_one.ensures ∙ c.if-forbids_one.true))
    ∙ shown ids members (g.G.Graph.entities c.args.graph.now) c.args.referring.now c.requires.referring

pub returns : goal.returns
returns g c =
    let ids = g.G.Graph.ids c.args.graph.now in
    let members = c.args.members.now.items in
    sym (none_is (one_forbids ids members) c.args.referring.now c.loop-entity.entity-index (omega arith) c.loop-entity.invariant)
    ∙ shown ids members (g.G.Graph.entities c.args.graph.now) c.args.referring.now c.requires.referring
