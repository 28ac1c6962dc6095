-- Anchored queries: for each variable of a row there is a fact about its entity, so creating or deleting an entity
-- alone changes no row.
use Rattle.std.specs.Prelude.{ℕ, ◌==◌, Bool, false, not, ◌&&◌, ◌||◌, Option}
use Rattle.std.specs.Option.{option_map_or}
use Rattle.ecs_model.specs.rows.Level.{Level}
use Rattle.query_model.specs.declared.query.Ref.{Ref}
use Rattle.query_model.specs.declared.query.Ref.TheVariants.{Is, Var, Any, AnyOnce}
use Rattle.query_model.specs.declared.query.Term.{Term}
use Rattle.query_model.specs.Query.{Item, Query}
use Rattle.watch_concerns.specs.Bonds.{are_all_bound, each_must, groups_are_bound, has_directly}

-- whether a reference is this variable
abbrev pub is_variable : ℕ → Ref → Bool
is_variable v (Is e) = false
is_variable v (Var u) = u == v
is_variable v Any = false
is_variable v AnyOnce = false

abbrev pub may_be_variable : ℕ → Option Ref → Bool
may_be_variable v r = option_map_or (is_variable v) r false

-- whether a term can match only by a fact about the entity of a variable: a fact of its source, or one that mentions
-- it. A closed term may match an entity with itself without a fact
abbrev pub term_anchors : ℕ → Term → Bool
term_anchors v t = not t.closed && (is_variable v t.source || is_variable v t.component || may_be_variable v t.target)

-- whether an item can hold only by such a fact
abbrev pub item_anchors : ℕ → Item → Bool
item_anchors v x = each_must (term_anchors v) x

-- whether an item directly in a level does
abbrev pub anchors : ℕ → Level → Bool
anchors v l = has_directly (item_anchors v) l

-- whether the own variables of each group in a level are anchored directly in the group
abbrev pub groups_are_anchored : Level → Bool
groups_are_anchored l = groups_are_bound anchors l

-- whether each variable of a query is anchored in its own level
unfoldable pub is_anchored : Query → Bool
is_anchored q = are_all_bound anchors q
