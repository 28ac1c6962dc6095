-- The entity of a name, by its index and its life.
use Rattle.std.specs.Prelude.{◌≡◌, ℕ, ◌==◌, true, List, Option, Some, None, option_map, IfSome, IsTrue}
use Rattle.std.specs.Option.{option_eq, option_map_or}
use Rattle.std.specs.Ordering.{nat_cmp}
use Rattle.std.proofs.Common.{ap, sym, ◌∙◌, arith}
use Rattle.std.proofs.lemmas.Bool.Decides.{nat_tests}
use Rattle.ecs_id.specs.declared.EntityId.{EntityId}
use Rattle.ecs_model.specs.Map.{value_at}
use Rattle.ecs_model.specs.World.{WorldState, entity_at, is_alive, named}

-- who is alive stands at its index
alive_there : (e : EntityId) (o : Option ℕ) → option_eq ◌==◌ o (Some e.generation) ≡ true → option_map (λ g. record { index = e.index; generation = g }) o ≡ Some e
alive_there e None h = absurd cc
alive_there e (Some g) h =
    let same : g ≡ e.generation = grind (arith, nat_tests) in ap (λ x. Some (record { index = e.index; generation = x })) same

-- the live entity that has a name
pub found_named : (w : WorldState) (n : List ℕ) (r : Option EntityId) → option_map (λ e. e.index) r ≡ named w n → IfSome r (λ e. IsTrue (is_alive w e)) → r ≡ option_map_or (entity_at w) (named w n) None
found_named w n None e h = ap (λ o. option_map_or (entity_at w) o None) e
found_named w n (Some x) e h =
    sym (alive_there x (value_at nat_cmp w.live x.index) h) ∙ ap (λ o. option_map_or (entity_at w) o None) e
