-- What entities hold after facts have come and gone.
use Rattle.std.specs.Prelude.{ℕ, ◌==◌, Bool, false, List, [], ◌∷◌, map, min, fold, replicate, filter_map, Option, Some, None, if◌then◌else◌}
use Rattle.std.specs.List.{list_any}
use Rattle.std.specs.Ordering.{is_lt}
use Rattle.ecs_id.specs.Id.{Id, id_cmp, id_eq}
use Rattle.ecs_model.specs.Map.{Map, with_value, without}
use Rattle.ecs_model.specs.World.{Key, key_eq}
use Rattle.ecs_table.specs.Archetype.{Cells}
use Rattle.ecs_archetypes.specs.Holdings.{Holdings}
use Rattle.table_store.specs.Store.{Shape}

-- facts that come, each with how many bytes its value has
abbrev pub Coming : Type 0
Coming = Map Key ℕ

-- their ids, each with its size
abbrev pub ids_coming : Coming → Shape
ids_coming came = map (λ c. (c.0.1, c.1)) came

-- the ids that come to the entity at an index
abbrev pub coming_to : ℕ → Coming → Shape
coming_to e came = filter_map (λ c. if c.0.0 == e then Some (c.0.1, c.1) else None) came

-- whether an id goes from the entity at an index
abbrev pub goes_from : ℕ → List Key → Id → Bool
goes_from e went i = list_any (key_eq (e, i)) went

-- cells without the ids that go, and with zeros for those that come
abbrev pub changed_cells : Shape → (Id → Bool) → Cells → Cells
changed_cells came goes cells = fold (λ m c. with_value id_cmp m c.0 (replicate c.1 0)) (without id_cmp cells goes) came

-- the shape of such cells
abbrev pub changed_shape : Shape → (Id → Bool) → Shape → Shape
changed_shape came goes f = fold (λ m c. with_value id_cmp m c.0 c.1) (without id_cmp f goes) came

-- each settled entity without its facts that go, and with zeros for those that come
abbrev pub with_facts_changed : Coming → List Key → Holdings → Holdings
with_facts_changed came went h = record h { cells = map (λ c. (c.0, changed_cells (coming_to c.0 came) (goes_from c.0 went) c.1)) h.cells }

-- the entity of the first fact of two lists
abbrev pub first_entity : Coming → List Key → Option ℕ
first_entity [] [] = None
first_entity (c ∷ came) [] = Some c.0.0
first_entity [] (k ∷ went) = Some k.0
first_entity (c ∷ came) (k ∷ went) = Some (min c.0.0 k.0)

-- the ids of facts
abbrev pub ids_among : List Key → List Id
ids_among went = map (λ k. k.1) went

-- whether an id is one of these
abbrev pub is_among : List Id → Id → Bool
is_among ids i = list_any (id_eq i) ids

-- whether the first of these ids comes before one, or is it
abbrev pub begins_before : List Id → Id → Bool
begins_before [] i = false
begins_before (j ∷ ids) i = is_lt (id_cmp j i)

abbrev pub begins_with : List Id → Id → Bool
begins_with [] i = false
begins_with (j ∷ ids) i = id_eq j i
