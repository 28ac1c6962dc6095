use Rattle.std.proofs.Common.{◌↔◌, ℕ, subst, sym}
use Rattle.std.specs.List.{Contains}
use Rattle.rel_travel.specs.Lists.{Work}
use Rattle.rel_travel.specs.Referring.{referrers}
use Rattle.rel_travel.proofs.scratch.deletion_is_forbidden.Goals as goal

pub has_forbidder-requires-clause-referring : goal.has_forbidder-requires-clause-referring
has_forbidder-requires-clause-referring g c =
    let P : Work → Type 0 = λ s. (y : ℕ) → Contains s.referrers y ↔ Contains (referrers (g.G.Graph.ids c.args.graph.now) (g.G.Graph.entities c.args.graph.now) s.found) y in
    rw c.as_slice.ensures.items (subst P (sym c.scratch.view_is) c.requires.referrers)
