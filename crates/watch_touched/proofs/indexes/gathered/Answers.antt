use Rattle.std.specs.List.{cons_option}
use Rattle.std.specs.Prelude.{ℕ, List, [], Option, map, option_map}
use Rattle.ecs_id.specs.declared.EntityId.{EntityId}
use Rattle.std.proofs.Common.{◌++◌, ap, ◌∙◌, length, ◌≤◌, arith}
use Rattle.std.proofs.lemmas.List.{take_all}
use Rattle.ecs_model.specs.World.{Key}
use Rattle.watch_touched.proofs.TouchedEntities.{listed_in_turn}
use Rattle.watch_touched.proofs.indexes.gathered.Goals as goal

pub returns : goal.returns
returns g c =
    let changed = c.args.changes.now in
    let dead : List (EntityId × Option (List ℕ)) → List ℕ = map (λ d. (d.0).index) in
    let own : List Key → List ℕ = map (λ k. k.0) in
    let born = cons_option (option_map (λ (e : EntityId). e.index) changed.born) [] in
    let all_died : length changed.died ≤ c.loop-death.death-index = rw (← c.died-death-items.ensures) (omega arith) in
    listed_in_turn changed.born (dead changed.died) (own changed.came) (own changed.went) c.loop-death.indexes.items c.push_entities.new.indexes.items
    c.push_entities-2.new.indexes.items
    (c.loop-death.invariant ∙ ap (λ ds. born ++ dead ds) (take_all c.loop-death.death-index changed.died all_died))
    (c.in_ok-push_entities.ensures ∙ ap (λ ks. c.loop-death.indexes.items ++ own ks) c.came.ensures)
    (c.in_ok-push_entities-2.ensures ∙ ap (λ ks. c.push_entities.new.indexes.items ++ own ks) c.went.ensures)
