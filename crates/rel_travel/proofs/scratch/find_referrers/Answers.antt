use Rattle.std.proofs.Common.{◌↔◌, ℕ, List, ap, subst}
use Rattle.std.specs.List.{Contains}
use Rattle.rel_travel.specs.Referring.{referrers}
use Rattle.rel_travel.proofs.scratch.find_referrers.Goals as goal

pub returns-clause-exact : goal.returns-clause-exact
returns-clause-exact g c =
    let P : List ℕ → Type 0 = λ members. (y : ℕ) → Contains c.list_referrers.new.found.items y ↔ Contains (referrers (g.G.Graph.ids c.args.graph.now) (g.G.Graph.entities c.args.graph.now) members) y in
    subst P (ap (λ s. s.found) c.scratch.view_is) c.list_referrers.ensures.exact
