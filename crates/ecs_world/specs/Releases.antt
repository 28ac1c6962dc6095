-- Which tables are released.
use Rattle.std.specs.Prelude.{ℕ, ◌==◌, Bool, false, not, ◌&&◌, ◌||◌, IsTrue, List, map}
use Rattle.std.specs.List.{list_all, list_any}
use Rattle.ecs_id.specs.declared.EntityId.{EntityId}
use Rattle.ecs_id.specs.Id.{Id, plain, pair, mentioned}
use Rattle.ecs_model.specs.World.{WorldState, Key, holds, is_live, key_eq, pair_is_tag}
use Rattle.ecs_archetypes.specs.Archetypes.{known_in}
use Rattle.ecs_archetypes.specs.Holdings.{HoldAlike}
use Rattle.ecs_archetypes.specs.Housing.{Housing, IsHoused, holdings_of}
use Rattle.ecs_archetypes.specs.Staying.{TablesStay, none_goes}
use Rattle.table_store.specs.Going.{TablesGoOn}
use Rattle.ecs_world.specs.Standing.{Standing}

-- whether an id is a pair of a relationship to which PairIsTag comes
abbrev pub gets_no_data : List (Key × ℕ) → Id → Bool
gets_no_data came (plain c) = false
gets_no_data came (pair r t) = list_any (λ k. key_eq k.0 (r, plain pair_is_tag)) came

-- the indexes of entities
abbrev pub indexes_of : List EntityId → List ℕ
indexes_of es = map (λ e. e.index) es

-- whether an id mentions one of these
abbrev pub mentions_one : List ℕ → Id → Bool
mentions_one dead i = list_any (λ x. list_any (λ d. x == d) dead) (mentioned i)

-- the housing after all tables with ids of these were released, and none without
pub record AreLeft (gone : Id → Bool) (g h : Housing) : Type 0 where
  pub held : HoldAlike (holdings_of h) (holdings_of g)
  pub sizes : (test : Id × ℕ → Bool) → IsTrue (list_all (λ c. gone c.0 || test c) (known_in g.tables)) → IsTrue (list_all test (known_in h.tables))
  pub goes_on : TablesGoOn g.tables h.tables
  pub stay : TablesStay (list_any gone) g.tables h.tables
  pub whole : IsHoused h

-- whether an id mentions one who lives before and doesn't live after
abbrev pub mentions_dead : WorldState → WorldState → Id → Bool
mentions_dead before after i = list_any (λ x. is_live before x && not (is_live after x)) (mentioned i)

-- whether an id is a pair of a relationship that has PairIsTag after, and hasn't before
abbrev pub became_tag : WorldState → WorldState → Id → Bool
became_tag before after (plain c) = false
became_tag before after (pair r t) = not (holds before r (plain pair_is_tag)) && holds after r (plain pair_is_tag)

-- whether the tables of an id may go: it mentions the dead, or became a tag
abbrev pub is_forgotten : WorldState → WorldState → Id → Bool
is_forgotten before after i = mentions_dead before after i || became_tag before after i

-- each table that stood stands on with its ids, unless one of its ids is forgotten
abbrev pub OnlyForgottenGo : Standing → Standing → Type 0
OnlyForgottenGo before after = TablesStay (list_any (is_forgotten before.state after.state)) before.tables after.tables

-- each table that stood stands on with its ids
abbrev pub NoneGo : Standing → Standing → Type 0
NoneGo before after = TablesStay none_goes before.tables after.tables
