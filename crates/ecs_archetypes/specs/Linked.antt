-- What the searches along relationships see of entities in tables.
use Rattle.std.specs.Prelude.{◌↔◌, ℕ, List, [], map, Contains}
use Rattle.std.specs.List.{IsDistinct}
use Rattle.std.specs.Option.{option_map_or}
use Rattle.ecs_id.specs.declared.TableKey.{TableKey}
use Rattle.ecs_id.specs.Id.{Id}
use Rattle.id_pattern.specs.declared.Pattern.{Pattern}
use Rattle.ecs_id.specs.TableKeys.{table_eq}
use Rattle.component_index.specs.Listings.{Lists, listed_in}
use Rattle.ecs_archetypes.specs.Holdings.{held_at}
use Rattle.ecs_archetypes.specs.Housing.{Housing, holdings_of}
use Rattle.ecs_archetypes.specs.Scans.{HasMatch, HaveHolders}
use Rattle.ecs_model.specs.Links.{AreLinks}
use Rattle.ecs_model.specs.Map.{keys}
use Rattle.table_store.specs.Store.{table_at}

-- the entities in their tables, a number above every index of a live one, and the lists of tables by pattern
pub record Linked : Type 0 where
  pub housing : Housing
  pub size : ℕ
  pub lists : Lists

module _ (l : Linked) where
  -- the indexes of the live entities, in order
  abbrev pub indexes : List ℕ
  indexes = keys (holdings_of l.housing).live

  -- the ids of the entity at an index, in order: none where no entity stands in a table
  abbrev pub ids_at_index : ℕ → List Id
  ids_at_index e = keys (held_at (holdings_of l.housing) e)

  -- the indexes of the entities in a table
  abbrev pub rows_under : TableKey → List ℕ
  rows_under k = option_map_or (λ t. map (λ e. e.index) t.entities) (table_at (l.housing).tables k) []

  -- the tables that are listed for a pattern
  abbrev pub tables_under : Pattern → List TableKey
  tables_under p = listed_in l.lists p

-- entities and a size fit together: ids are of live entities below the size, and mention live entities alone
abbrev pub AreLinked : Housing → ℕ → Type 0
AreLinked h size = AreLinks size (keys (holdings_of h).live) (λ e. keys (held_at (holdings_of h) e))

-- each pattern has the tables that stand with an id that it matches, each once
pub record AreListsOf (h : Housing) (lists : Lists) : Type 0 where
  pub listed : (p : Pattern) (k : TableKey) → Contains (listed_in lists p) k ↔ HasMatch h.tables p k
  pub once : (p : Pattern) → IsDistinct table_eq (listed_in lists p)
  pub holders : (p : Pattern) → HaveHolders h p (listed_in lists p)

-- what the parts of the view have
pub record AreJoined (l : Linked) : Type 0 where
  pub linked : AreLinked l.housing l.size
  pub lists : AreListsOf l.housing l.lists
