use Rattle.std.proofs.Common.{◌≡◌, ℕ, List, ◌∙◌}
use Rattle.std.specs.List.{filter, list_any}
use Rattle.ecs_id.specs.Id.{Id}
use Rattle.ecs_model.specs.Map.{keys}
use Rattle.ecs_model.specs.World.{Key, WorldState, key_eq}
use Rattle.ecs_model.specs.steps.FactChanges.{removed}
use Rattle.rel_traits.specs.Sees.{Sees}
use Rattle.ecs_world.proofs.SeenGraph.{linked, sees}
use Rattle.ecs_world.proofs.Standings.{state_is}
use Rattle.ecs_world.proofs.World.list_removals.Goals as goal

-- the facts that go with a removed one
abbrev gone : WorldState → Key → List Key
gone w fact = filter (λ k. list_any (key_eq k) (removed w fact.0 fact.1)) (keys w.facts)

-- they are those of the world that is seen, of the very fact
gone_is : {live : List ℕ} {ids : ℕ → List Id} (ks : List Key) (v w : WorldState) (fact here : Key) → v ≡ w → here ≡ fact → ((u : WorldState) → Sees u live ids → ks ≡ gone u here) → Sees v live ids
    → ks ≡ gone w fact
gone_is ks v w fact here world is told shown = told v shown ∙ (λ j. gone (world j) (is j))

pub new-links-requires : goal.new-links-requires
new-links-requires g c = record { linked = linked c.self.invariant c.size.result c.size.ensures }

pub returns : goal.returns
returns g c =
    gone_is _ _ c.args.self.now.state (c.args.entity.index, c.args.id) c.new-fact.result (state_is c.self.view_is) c.new-fact.ensures c.in_ok-gather_remove.ensures (rw c.new-links.ensures (sees c.self.invariant))
