use Rattle.std.proofs.Common.{◌≡◌, ◌↔◌, ◌⊎◌, ◌<◌, ◌≤◌, ℕ, true, false, ◌&&◌, not, refl, sym, ap, ◌∙◌, inl, inr, arith}
use Rattle.ecs_model.specs.Links.{IsReached, upward}
use Rattle.ecs_model.specs.Reach.{Reaches}
use Rattle.ecs_model.proofs.ReachSteps.{turned_reach}
use Rattle.rel_travel.specs.Coming.{below_list, downward, list_from, with_finds}
use Rattle.rel_travel.specs.Growing.{IsGrownBy}
use Rattle.rel_travel.specs.Holders.{holders_of_pair}
use Rattle.rel_travel.proofs.SearchStarts.{begun}
use Rattle.rel_travel.proofs.Cleanup.{holds_upward, pairs_below, upward_holds}
use Rattle.rel_travel.proofs.Lists.{downward_below}
use Rattle.rel_travel.proofs.Turns.{started, started_at, turns_alike}
use Rattle.rel_travel.proofs.scratch.below.Goals as goal
use Rattle.rel_travel.proofs.scratch.below.Goals.{then-begin_with, else-begin_with}

pub follow-requires : goal.follow-requires
follow-requires g c =
    let covered : g.G.Graph.size c.args.graph.now ≤ c.scratch.inside.found.size = rw (ap (λ s. s.size) c.scratch.view_is) c.requires.covered in
    rw c.begin_with.ensures.size (pairs_below c.size.ensures.links c.args.relationship c.scratch.inside.found.size covered c.args.index)

pub returns-clause-reached : goal.returns-clause-reached
returns-clause-reached g c y =
    let ids = g.G.Graph.ids c.args.graph.now in
    let r = c.args.relationship in
    let x = c.args.index in
    let reach = c.reach_of-reach.result in
    let found = c.if-begin_with.scratch-inside.found in
    let entities = g.G.Graph.entities c.args.graph.now in
    let links = c.size.ensures.links in
    let down = λ (z : ℕ). holders_of_pair entities ids z r in
    let start : ((not (reach.is_reflexive && reach.is_transitive) ≡ true) × IsGrownBy (down x) (begun reach.is_reflexive x) found.items)
    ⊎ ((not (reach.is_reflexive && reach.is_transitive) ≡ false) × (found.items ≡ begun reach.is_reflexive x)) =
    elim c.if-begin_with.branch [
      | then-begin_with w ↦ inl (sym c.begin_with.ensures.answer ∙ w.if-begin_with.true, rw (w.scratch-inside-is, ← c.begin_with.ensures.items) w.follow.ensures.grown)
      | else-begin_with w ↦ inr (sym c.begin_with.ensures.answer ∙ w.if-begin_with.false, rw w.scratch-inside-is c.begin_with.ensures.items)
    ] in
    let listed = started reach.is_transitive reach.is_reflexive down x found.items start y in
    let reached : Reaches reach.is_transitive reach.is_reflexive (upward ids r) y x ↔ IsReached ids r y x = rw (c.reach_of-reach.ensures.transitive, c.reach_of-reach.ensures.reflexive) (λ h. h, λ h. h) in (
      λ w. reached.0 (turned_reach down (upward ids r) (holds_upward links r) reach.is_transitive reach.is_reflexive x y (listed.0 w.0)),
      λ h. (listed.1 (turned_reach (upward ids r) down (upward_holds links r) reach.is_transitive reach.is_reflexive y x (reached.1 h)), λ n. omega (arith, n.1)),
    )

pub returns-clause-coming : goal.returns-clause-coming
returns-clause-coming g c =
    let size = g.G.Graph.size c.args.graph.now in
    let rows = g.G.Holders.rows c.args.graph.now in
    let tables = g.G.Holders.listed c.args.graph.now in
    let ids = g.G.Graph.ids c.args.graph.now in
    let r = c.args.relationship in
    let x = c.args.index in
    let reach = c.reach_of-reach.result in
    let found = c.if-begin_with.scratch-inside.found in
    let start : ((not (reach.is_reflexive && reach.is_transitive) ≡ true) × (found.items ≡ with_finds (begun reach.is_reflexive x) (downward rows tables r x)))
    ⊎ ((not (reach.is_reflexive && reach.is_transitive) ≡ false) × (found.items ≡ begun reach.is_reflexive x)) =
    elim c.if-begin_with.branch [
      | then-begin_with w ↦ inl (sym c.begin_with.ensures.answer ∙ w.if-begin_with.true, rw (w.scratch-inside-is, ← c.begin_with.ensures.items) w.follow.ensures.items)
      | else-begin_with w ↦ inr (sym c.begin_with.ensures.answer ∙ w.if-begin_with.false, rw w.scratch-inside-is c.begin_with.ensures.items)
    ] in
    let is = started_at (downward rows tables r) reach.is_transitive reach.is_reflexive x found.items start in
    let same_size : found.size ≡ c.scratch.inside.found.size =
    elim c.if-begin_with.branch [
      | then-begin_with w ↦ rw w.scratch-inside-is (w.follow.ensures.size ∙ c.begin_with.ensures.size)
      | else-begin_with w ↦ rw w.scratch-inside-is c.begin_with.ensures.size
    ] in
    let inside : x < found.size = rw (same_size, ap (λ s. s.size) c.scratch.view_is) c.requires.inside in
    let covered : g.G.Graph.size c.args.graph.now ≤ found.size = rw (same_size, ap (λ s. s.size) c.scratch.view_is) c.requires.covered in
    let same : list_from (downward rows tables r) size reach.is_transitive reach.is_reflexive x ≡ below_list rows tables size ids r x = rw (c.reach_of-reach.ensures.transitive, c.reach_of-reach.ensures.reflexive) refl in
    turns_alike (downward rows tables r) size (downward_below rows tables c.size.ensures.links c.lists_holders.ensures r) reach.is_transitive reach.is_reflexive x found.size found.items covered inside is ∙ same
