use Rattle.std.proofs.Common.{◌≤◌, ◌<◌, ◌∙◌, ℕ, length, arith}
use Rattle.rel_travel.specs.Holders.{holders_of_pair}
use Rattle.rel_travel.proofs.Cleanup.{pairs_below}
use Rattle.rel_travel.proofs.SearchRounds.{sought_first, sought_more, sought_of}
use Rattle.rel_travel.proofs.ways.go_on_below.Goals as goal

pub returns-then-not-is_from-clause-sought : goal.returns-then-not-is_from-clause-sought
returns-then-not-is_from-clause-sought g c =
    let now = c.begin.new.self in
    let down = λ (x : ℕ). holders_of_pair (g.G.Graph.entities c.args.graph.now) (g.G.Graph.ids c.args.graph.now) x c.args.relationship in
    let first = sought_first down c.args.target c.args.target now.is_alone now.found.items now.done c.begin.ensures.items c.begin.ensures.done in
    sought_of down now.start c.args.target now.is_alone now.found.items now.done c.begin.ensures.start first.0

pub follow-requires : goal.follow-requires
follow-requires g c =
    let size = c.turns.invariant.size in
    let covered : g.G.Graph.size c.args.graph.now ≤ c.turns.below.found.size = rw size c.requires.covered in
    pairs_below c.size.ensures.links c.args.relationship c.turns.below.found.size covered c.at-entity.result

pub turns-preserved : goal.turns-preserved
turns-preserved g c =
    let below = c.turns.below in
    let down = λ (x : ℕ). holders_of_pair (g.G.Graph.entities c.args.graph.now) (g.G.Graph.ids c.args.graph.now) x c.args.relationship in
    let l : below.done < length below.found.items = omega (arith, c.len.ensures.count, c.if-below-len.true) in
    record {
      size = c.follow.ensures.size ∙ c.turns.invariant.size;
      sought = sought_more down below.start below.is_alone below.found.items c.follow.new.found.items below.done l (rw (← c.at-entity.ensures) c.follow.ensures.grown) c.turns.invariant.sought;
    }
