-- Linked queries: the entity of each variable shares a pair with `$this`, or with the entity of an earlier variable.
use Rattle.std.specs.Prelude.{ℕ, ◌==◌, Bool, false, not, ◌&&◌, ◌||◌, nat_lt, Option, is_none}
use Rattle.std.specs.List.{list_all}
use Rattle.std.specs.Option.{option_map_or}
use Rattle.ecs_model.specs.rows.Level.{Level}
use Rattle.query_model.specs.declared.query.Ref.{Ref}
use Rattle.query_model.specs.declared.query.Ref.TheVariants.{Is, Var, Any, AnyOnce}
use Rattle.query_model.specs.declared.query.Term.{Term}
use Rattle.query_model.specs.Query.{Item, Query}
use Rattle.query_check.specs.Terms.{terms}
use Rattle.watch_concerns.specs.Anchored.{is_variable, may_be_variable}
use Rattle.watch_concerns.specs.Bonds.{are_all_bound, each_must, has_directly}
use Rattle.watch_concerns.specs.Tied.{asks_near}

-- ---- links of variables

-- whether a reference is an earlier variable than this one, by their numbers. `$this` is the first
abbrev pub is_before : ℕ → Ref → Bool
is_before v (Is e) = false
is_before v (Var u) = nat_lt u v
is_before v Any = false
is_before v AnyOnce = false

abbrev pub may_be_before : ℕ → Option Ref → Bool
may_be_before v r = option_map_or (is_before v) r false

-- whether a term matches only by a pair between the entity of a variable and the entity of an earlier one: either may
-- be the holder, and the other is the target
abbrev pub term_links : ℕ → Term → Bool
term_links v t = is_none t.up && not t.closed && (is_variable v t.source && may_be_before v t.target || is_before v t.source && may_be_variable v t.target)

-- whether an item holds only by such a pair
abbrev pub item_links : ℕ → Item → Bool
item_links v x = each_must (term_links v) x

-- whether an item directly in a level holds only so, or the variable is `$this`
abbrev pub is_linked_in : ℕ → Level → Bool
is_linked_in v l = v == 0 || has_directly (item_links v) l

-- whether each term tests stored facts of `$this`, of its ancestors, or of a variable's entity itself, and each
-- variable is linked in its own level
unfoldable pub is_linked : Query → Bool
is_linked q = list_all asks_near (terms q) && are_all_bound is_linked_in q
