use Rattle.std.proofs.Common.{◌≡◌, List, ◌∷◌, refl}
use Rattle.std.specs.List.{Contains}
use Rattle.ecs_model.specs.Added.{mirror}
use Rattle.ecs_model.specs.World.{Key}
use Rattle.rel_traits.proofs.SortedFacts.{held_ones}
use Rattle.rel_traits.proofs.removed.closure_remove.Goals as goal
use Rattle.rel_traits.proofs.removed.closure_remove.Goals.{in-Some+in_ok-push-2, in_default}

pub returns : goal.returns
returns g c =
    let ids = g.G.Graph.ids c.args.graph.now in
    let all : List Key = c.args.fact ∷ mirror ids c.args.fact in
    let items : c.match-mirror_of.removed.items ≡ all =
    elim c.match-mirror_of.branch [
      | in-Some+in_ok-push-2 w ↦ rw (w.removed-is, w.in_ok-push-2.ensures.items, c.in_ok-push.ensures.items, c.clear.ensures.items, ← w.in-Some.ensures) refl
      | in_default w ↦ rw (w.removed-is, c.in_ok-push.ensures.items, c.clear.ensures.items, ← w.in_default.ensures) refl
    ] in
    held_ones ids (Contains all) c.match-mirror_of.removed.items c.keep_held.new.facts.items c.put_in_order.new.facts.items (λ k. (λ h. rw items at h, λ h. rw items h)) c.keep_held.ensures c.put_in_order.ensures.ascend
    c.put_in_order.ensures.same
