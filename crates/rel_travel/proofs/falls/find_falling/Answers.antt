use Rattle.std.proofs.Common.{◌≡◌, ◌∙◌, [], ◌∷◌, ap}
use Rattle.ecs_model.specs.Cleanup.{falling}
use Rattle.rel_travel.proofs.Cleanup.{falling_below}
use Rattle.rel_travel.proofs.SearchStarts.{from_one}
use Rattle.rel_travel.proofs.falls.find_falling.Goals as goal

pub gather_found-requires : goal.gather_found-requires
gather_found-requires g c =
    let size : c.add.new.self.size ≡ c.args.found.now.size = c.add.ensures.size ∙ ap (λ f. f.size) c.clear.ensures in
    rw size (falling_below c.size.ensures.links c.args.found.now.size c.requires.covered)

pub returns-clause-least : goal.returns-clause-least
returns-clause-least g c =
    let next = falling (g.G.Graph.ids c.args.graph.now) (g.G.Graph.entities c.args.graph.now) in
    let items : c.add.new.self.items ≡ c.args.index ∷ [] = rw (c.add.ensures.items, c.clear.ensures) in
    from_one next c.args.index c.add.new.self.items c.gather_found.new.found.items items c.gather_found.ensures.least
