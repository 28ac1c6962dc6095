-- Which tables a kept query lists.
use Rattle.std.specs.Prelude.{Bool, true, not, ◌&&◌, ◌||◌, List, []}
use Rattle.std.specs.List.{list_any}
use Rattle.ecs_id.specs.Id.{Id}
use Rattle.query_model.specs.declared.query.Term.{Term}
use Rattle.query_model.specs.Local.{asks_first}
use Rattle.query_model.specs.Observers.{is_constant, is_constant_target}
use Rattle.query_model.specs.Query.{Item, must, Query}
use Rattle.ecs_model.specs.rows.Level.{Level, done, also, unless, top}
use Rattle.ecs_model.specs.rows.Rows.{matches}

-- whether an And term outside all groups is cacheable: it asks `$this` for ids that are stored, and its component and target are no variables
abbrev pub is_cacheable : Query → Term → Bool
is_cacheable q t = q.has_this && asks_first t && is_constant t.component && is_constant_target t.target

-- whether a cacheable term has a hit among the ids
abbrev pub has_hit : List Id → Term → Bool
has_hit ids t = list_any (matches [] t.component t.target) ids

module _ (q : Query) (ids : List Id) where
  -- whether the item has a hit, if it is cacheable
  abbrev pub item_suits : Item → Bool
  item_suits (must t) = not (is_cacheable q t) || has_hit ids t
  item_suits i = true

  -- whether each item of a level has, besides those in groups
  abbrev pub level_suits : Level → Bool
  level_suits done = true
  level_suits (also i rest) = item_suits i && level_suits rest
  level_suits (unless from_term own inner rest) = level_suits rest

-- whether a kept query lists the tables of these ids: every cacheable item has a hit among them
unfoldable pub lists_table : Query → List Id → Bool
lists_table q ids = level_suits q ids (top q)
