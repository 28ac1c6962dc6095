use Rattle.std.proofs.Common.{◌↔◌, ℕ, ◌∙◌, sym}
use Rattle.ecs_model.specs.Links.{IsReached, reaches, upward}
use Rattle.ecs_model.proofs.ReachTests.{reaches_tells}
use Rattle.ecs_model.proofs.LivePairs.{upward_below}
use Rattle.ecs_model.proofs.Members.{alike}
use Rattle.rel_travel.specs.Lists.{IsListed}
use Rattle.rel_travel.proofs.Growth.{is_among_tells}
use Rattle.rel_travel.proofs.chains.leads.Goals as goal

pub begin-requires-clause-covered : goal.begin-requires-clause-covered
begin-requires-clause-covered g c = upward_below c.size.ensures.links c.args.relationship c.args.found.now.size c.requires.covered

pub gather_until-requires-clause-closed : goal.gather_until-requires-clause-closed
gather_until-requires-clause-closed g c = rw c.begin.ensures.size (upward_below c.size.ensures.links c.args.relationship c.args.found.now.size c.requires.covered)

-- the list goes on from what it begins with
pub returns-then-reach-clause-answer : goal.returns-then-reach-clause-answer
returns-then-reach-clause-answer g c =
    let ids = g.G.Graph.ids c.args.graph.now in
    let r = c.args.relationship in
    let begun : (y : ℕ) → IsListed c.reach_of-reach.result.is_transitive (upward ids r) c.begin.new.found.items y ↔ IsReached ids r c.args.source y = rw (← c.reach_of-reach.ensures.transitive, ← c.reach_of-reach.ensures.reflexive) c.begin.ensures.begun in
    let there = (rw c.if-reach.true at begun) c.args.target in
    let test = reaches_tells c.size.ensures.links r c.args.source c.args.target in
    alike c.gather_until.result (reaches ids (g.G.Graph.entities c.args.graph.now) r c.args.source c.args.target)
    (λ h. test.1 (there.0 (c.gather_until.ensures.reached.0 h))) (λ h. c.gather_until.ensures.reached.1 (there.1 (test.0 h)))

pub returns-clause-answer : goal.returns-clause-answer
returns-clause-answer g c =
    let ids = g.G.Graph.ids c.args.graph.now in
    let r = c.args.relationship in
    let begun : (y : ℕ) → IsListed c.reach_of-reach.result.is_transitive (upward ids r) c.begin.new.found.items y ↔ IsReached ids r c.args.source y = rw (← c.reach_of-reach.ensures.transitive, ← c.reach_of-reach.ensures.reflexive) c.begin.ensures.begun in
    let there = (rw c.if-reach.false at begun) c.args.target in
    let tells = is_among_tells c.begin.new.found.items c.args.target in
    let test = reaches_tells c.size.ensures.links r c.args.source c.args.target in
    alike c.is_found.result (reaches ids (g.G.Graph.entities c.args.graph.now) r c.args.source c.args.target)
    (λ h. test.1 (there.0 (tells.0 (sym c.is_found.ensures ∙ h)))) (λ h. c.is_found.ensures ∙ tells.1 (there.1 (test.0 h)))
