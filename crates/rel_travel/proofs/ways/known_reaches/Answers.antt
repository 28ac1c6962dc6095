use Rattle.std.proofs.Common.{ℕ, subst, sym}
use Rattle.rel_travel.specs.Holders.{holders_of_pair}
use Rattle.rel_travel.specs.Ways.{IsSought, Known}
use Rattle.rel_travel.proofs.KnownWays.{told_of_other}
use Rattle.rel_travel.proofs.ways.known_reaches.Goals as goal

pub leads_to_other-requires-clause-below : goal.leads_to_other-requires-clause-below
leads_to_other-requires-clause-below g c =
    let down = λ (x : ℕ). holders_of_pair (g.G.Graph.entities c.args.graph.now) (g.G.Graph.ids c.args.graph.now) x c.args.relationship in
    let P : Known → Type 0 = λ k. IsSought down (k.below).start (k.below).is_alone (k.below).found (k.below).done in
    subst P (sym c.ways.view_is) c.fit.ensures.ways.below

pub returns-then-source-target-clause-answer : goal.returns-then-source-target-clause-answer
returns-then-source-target-clause-answer g c =
    told_of_other c.size.ensures.links c.args.relationship c.args.source c.args.target c.leads_to_other.result (c.fit.ensures.transitive c.if-fit.true) c.if-source-target.true c.leads_to_other.ensures.answer
