-- Which entities a command touches, and what it did to each.
use Rattle.std.specs.Prelude.{ℕ, List, ◌++◌, map, option_map}
use Rattle.std.specs.List.{cons_option}
use Rattle.ecs_model.specs.steps.Outcomes.{Changed}
use Rattle.ecs_model.specs.rows.View.{View}
use Rattle.query_local.specs.Touched.{Touch, held_in}

-- the indexes of the created entity, of the deleted entities, and of the entities of added and removed facts
abbrev pub indexes_of : Changed → List ℕ
indexes_of c = cons_option (option_map (λ e. e.index) c.born) (map (λ d. (d.0).index) c.died ++ (map (λ k. k.0) c.came ++ map (λ k. k.0) c.went))

-- what two views show of an entity
abbrev pub touch_at : View → View → ℕ → Touch
touch_at before after i = record { index = i; before = held_in before i; after = held_in after i }
