-- Who falls with an entity that is deleted.
use Rattle.std.specs.Prelude.{ℕ, ◌==◌, ◌&&◌, ◌||◌, Bool, List, filter}
use Rattle.std.specs.List.{list_any}
use Rattle.ecs_id.specs.Id.{Id, plain, pair}
use Rattle.ecs_model.specs.BuiltIns.{on_delete, on_delete_target, delete_mode}
use Rattle.ecs_model.specs.Links.{is_held}

module _ (ids : ℕ → List Id) where
  -- the cleanup rules by which others fall with a component or relationship, and with a target
  abbrev pub deletes_users : ℕ → Bool
  deletes_users c = is_held (ids c) (pair on_delete delete_mode)

  abbrev pub deletes_sources : ℕ → Bool
  deletes_sources r = is_held (ids r) (pair on_delete_target delete_mode)

  -- whether an entity that holds the id falls with x
  abbrev pub falls_by : ℕ → Id → Bool
  falls_by x (plain c) = c == x && deletes_users x
  falls_by x (pair r t) = t == x && deletes_sources r || r == x && deletes_users x

  -- the live entities that fall with x; all that fall, one with another, are the least set that holds x and is closed under this
  abbrev pub falling : List ℕ → ℕ → List ℕ
  falling entities x = filter (λ y. list_any (falls_by x) (ids y)) entities
