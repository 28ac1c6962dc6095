-- Idle facts: a fact is idle for a variable if no term asks the variable's entity for such an id, or if its holder
-- lacks another id that the query requires on the variable's entity.
use Rattle.std.specs.Prelude.{ℕ, ◌==◌, Bool, false, not, ◌&&◌, ◌||◌, List, is_none}
use Rattle.std.specs.List.{list_any}
use Rattle.ecs_id.specs.Id.{Id}
use Rattle.ecs_model.specs.rows.Level.{Level}
use Rattle.query_model.specs.declared.query.Term.{Term}
use Rattle.query_model.specs.Query.{Item, must, may, either, equal, differ}
use Rattle.watch_concerns.specs.Anchored.{is_variable}
use Rattle.watch_concerns.specs.Bonds.{has_directly}
use Rattle.watch_concerns.specs.Concerns.{may_match, term_concerns}

-- ---- what the entity of a variable is asked for

-- whether a variable is the source of this term, and an id concerns the term
abbrev pub term_asks_for : ℕ → Id → Term → Bool
term_asks_for v i t = is_variable v t.source && term_concerns i t

-- whether it is so for one of these terms
abbrev pub asks_for : List Term → ℕ → Id → Bool
asks_for ts v i = list_any (term_asks_for v i) ts

-- ---- entities that lack a required id

-- whether a term tests stored facts of a variable's entity itself
abbrev pub asks_itself : ℕ → Term → Bool
asks_itself v t = is_variable v t.source && t.on_source && is_none t.up && not t.closed

-- whether these ids lack an id that the item requires on the entity of a variable
abbrev pub item_lacks_of : List Id → ℕ → Item → Bool
item_lacks_of ids v (must t) = asks_itself v t && not (list_any (may_match t.component t.target) ids)
item_lacks_of ids v (may t) = false
item_lacks_of ids v (either ts) = false
item_lacks_of ids v (equal u r) = false
item_lacks_of ids v (differ u r) = false

-- whether a variable is `$this`, or its entity isn't asked for this id, or these ids lack an id that an item directly
-- in the level requires on it
abbrev pub is_idle_for : List Id → Id → List Term → ℕ → Level → Bool
is_idle_for ids i ts v l = (v == 0 || not (asks_for ts v i)) || has_directly (item_lacks_of ids v) l
