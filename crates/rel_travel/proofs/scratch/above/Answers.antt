use Rattle.std.proofs.Common.{◌≡◌, ◌↔◌, ◌⊎◌, ◌<◌, ◌≤◌, ℕ, true, false, ◌&&◌, not, sym, ap, ◌∙◌, inl, inr, refl, arith}
use Rattle.std.specs.List.{Contains}
use Rattle.std.proofs.lemmas.List.Elements.{All-contains}
use Rattle.ecs_model.specs.Links.{IsReached, upward}
use Rattle.ecs_model.specs.Reach.{Reaches}
use Rattle.ecs_model.proofs.LivePairs.{upward_below}
use Rattle.rel_travel.specs.Coming.{above_list, list_from, with_finds}
use Rattle.rel_travel.proofs.SearchStarts.{begun}
use Rattle.rel_travel.proofs.Turns.{begun_listed, started_at, turns_alike}
use Rattle.rel_travel.proofs.scratch.above.Goals as goal
use Rattle.rel_travel.proofs.scratch.above.Goals.{then-begin_with, else-begin_with}

pub follow-requires : goal.follow-requires
follow-requires g c =
    let covered : g.G.Graph.size c.args.graph.now ≤ c.scratch.inside.found.size = rw (ap (λ s. s.size) c.scratch.view_is) c.requires.covered in
    rw c.begin_with.ensures.size (upward_below c.size.ensures.links c.args.relationship c.scratch.inside.found.size covered c.args.index)

pub returns-clause-reached : goal.returns-clause-reached
returns-clause-reached g c y =
    let ids = g.G.Graph.ids c.args.graph.now in
    let r = c.args.relationship in
    let x = c.args.index in
    let reach = c.reach_of-reach.result in
    let found = c.if-begin_with.scratch-inside.found in
    let start : ((not (reach.is_reflexive && reach.is_transitive) ≡ true) × (found.items ≡ with_finds (begun reach.is_reflexive x) ((upward ids r) x)))
    ⊎ ((not (reach.is_reflexive && reach.is_transitive) ≡ false) × (found.items ≡ begun reach.is_reflexive x)) =
    elim c.if-begin_with.branch [
      | then-begin_with w ↦ inl (sym c.begin_with.ensures.answer ∙ w.if-begin_with.true, rw (w.scratch-inside-is, ← c.begin_with.ensures.items) w.follow.ensures.items)
      | else-begin_with w ↦ inr (sym c.begin_with.ensures.answer ∙ w.if-begin_with.false, rw w.scratch-inside-is c.begin_with.ensures.items)
    ] in
    let is = started_at (upward ids r) reach.is_transitive reach.is_reflexive x found.items start in
    let listed = begun_listed (upward ids r) reach.is_transitive reach.is_reflexive x y in
    let reached : Reaches reach.is_transitive reach.is_reflexive (upward ids r) x y ↔ IsReached ids r x y = rw (c.reach_of-reach.ensures.transitive, c.reach_of-reach.ensures.reflexive) (λ h. h, λ h. h) in (
      λ w. reached.0 (listed.0 (rw is at w.0)),
      λ h. (rw is (listed.1 (reached.1 h)), λ n. omega (arith, n.1)),
    )

pub returns-clause-coming : goal.returns-clause-coming
returns-clause-coming g c rows tables =
    let size = g.G.Graph.size c.args.graph.now in
    let ids = g.G.Graph.ids c.args.graph.now in
    let r = c.args.relationship in
    let x = c.args.index in
    let reach = c.reach_of-reach.result in
    let found = c.if-begin_with.scratch-inside.found in
    let start : ((not (reach.is_reflexive && reach.is_transitive) ≡ true) × (found.items ≡ with_finds (begun reach.is_reflexive x) ((upward ids r) x)))
    ⊎ ((not (reach.is_reflexive && reach.is_transitive) ≡ false) × (found.items ≡ begun reach.is_reflexive x)) =
    elim c.if-begin_with.branch [
      | then-begin_with w ↦ inl (sym c.begin_with.ensures.answer ∙ w.if-begin_with.true, rw (w.scratch-inside-is, ← c.begin_with.ensures.items) w.follow.ensures.items)
      | else-begin_with w ↦ inr (sym c.begin_with.ensures.answer ∙ w.if-begin_with.false, rw w.scratch-inside-is c.begin_with.ensures.items)
    ] in
    let is = started_at (upward ids r) reach.is_transitive reach.is_reflexive x found.items start in
    let same_size : found.size ≡ c.scratch.inside.found.size =
    elim c.if-begin_with.branch [
      | then-begin_with w ↦ rw w.scratch-inside-is (w.follow.ensures.size ∙ c.begin_with.ensures.size)
      | else-begin_with w ↦ rw w.scratch-inside-is c.begin_with.ensures.size
    ] in
    let inside : x < found.size = rw (same_size, ap (λ s. s.size) c.scratch.view_is) c.requires.inside in
    let covered : g.G.Graph.size c.args.graph.now ≤ found.size = rw (same_size, ap (λ s. s.size) c.scratch.view_is) c.requires.covered in
    let closed = λ (z y : ℕ) (h : Contains (upward ids r z) y). All-contains (λ t. t < size) (upward ids r z) y (upward_below c.size.ensures.links r size (omega arith) z) h in
    let same : list_from (upward ids r) size reach.is_transitive reach.is_reflexive x ≡ above_list size ids r x = rw (c.reach_of-reach.ensures.transitive, c.reach_of-reach.ensures.reflexive) refl in
    turns_alike (upward ids r) size closed reach.is_transitive reach.is_reflexive x found.size found.items covered inside is ∙ same
