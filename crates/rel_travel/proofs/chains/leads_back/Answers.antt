use Rattle.std.proofs.Common.{◌≡◌, ◌∙◌, [], ◌∷◌, ap, subst, sym}
use Rattle.ecs_model.specs.Links.{upward}
use Rattle.ecs_model.specs.Reach.{IsReachedFrom}
use Rattle.ecs_model.proofs.LivePairs.{upward_below}
use Rattle.rel_travel.proofs.SearchStarts.{alone}
use Rattle.rel_travel.proofs.chains.leads_back.Goals as goal

pub gather_until-requires-clause-closed : goal.gather_until-requires-clause-closed
gather_until-requires-clause-closed g c =
    let size : c.add.new.self.size ≡ c.args.found.now.size = c.add.ensures.size ∙ ap (λ f. f.size) c.clear.ensures in
    rw size (upward_below c.size.ensures.links c.args.relationship c.args.found.now.size c.requires.covered)

pub returns-clause-answer : goal.returns-clause-answer
returns-clause-answer g c =
    let next = upward (g.G.Graph.ids c.args.graph.now) c.args.relationship in
    let items : c.add.new.self.items ≡ c.args.target ∷ [] = rw (c.add.ensures.items, c.clear.ensures) in
    let there = alone next c.args.target c.args.source in
    let reached = c.gather_until.ensures.reached in
    (λ h. there.0 (subst (λ xs. IsReachedFrom next xs c.args.source) items (reached.0 h)), λ r. reached.1 (subst (λ xs. IsReachedFrom next xs c.args.source) (sym items) (there.1 r)))
