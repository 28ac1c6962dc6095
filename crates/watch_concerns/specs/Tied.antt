-- Tied queries: each term tests `$this`, its ancestors, or the target of a pair that `$this` itself holds.
use Rattle.std.specs.Prelude.{ℕ, ◌==◌, Bool, not, ◌&&◌, ◌||◌, List, is_none}
use Rattle.std.specs.List.{list_all, list_any}
use Rattle.ecs_model.specs.rows.Level.{Level}
use Rattle.query_model.specs.Observers.{is_constant}
use Rattle.query_model.specs.declared.query.Term.{Term}
use Rattle.query_model.specs.Local.{asks_first}
use Rattle.query_model.specs.Query.{Item, Query}
use Rattle.query_check.specs.Terms.{terms}
use Rattle.watch_concerns.specs.Anchored.{is_variable, may_be_variable}
use Rattle.watch_concerns.specs.Bonds.{are_all_bound, each_must, has_directly}
use Rattle.watch_concerns.specs.Others.{asks_this_stored}

-- ---- the sources of terms

-- whether a term tests stored facts of `$this` or its ancestors, or of a variable's entity itself
abbrev pub asks_near : Term → Bool
asks_near t = asks_this_stored t || (not (is_constant t.source) && is_none t.up && not t.closed)

-- whether a variable is the source of a term
abbrev pub term_asks : ℕ → Term → Bool
term_asks v t = is_variable v t.source

-- whether a variable is `$this`, or the source of none of these terms
abbrev pub needs_no_tie : List Term → ℕ → Bool
needs_no_tie ts v = v == 0 || not (list_any (term_asks v) ts)

-- ---- ties

-- whether a term matches only where `$this` itself holds a pair whose target is the entity of a variable
abbrev pub term_ties : ℕ → Term → Bool
term_ties v t = asks_first t && may_be_variable v t.target

-- whether an item holds only so
abbrev pub item_ties : ℕ → Item → Bool
item_ties v x = each_must (term_ties v) x

-- whether an item directly in a level holds only so, or the variable needs no tie
abbrev pub ties : List Term → ℕ → Level → Bool
ties ts v l = needs_no_tie ts v || has_directly (item_ties v) l

-- whether each term tests such entities, and each variable that is a source is tied to `$this` in its own level
unfoldable pub is_tied : Query → Bool
is_tied q = list_all asks_near (terms q) && are_all_bound (ties (terms q)) q
