-- Whether an entity is `$this` of a row, as far as its own ids decide it.
use Rattle.std.specs.Prelude.{◌==◌, Bool, true, false, not, ◌&&◌, ◌||◌, List, [], ◌∷◌, length, if◌then◌else◌}
use Rattle.std.specs.List.{list_any}
use Rattle.ecs_id.specs.Id.{Id, plain}
use Rattle.ecs_model.specs.Links.{is_held}
use Rattle.ecs_model.specs.steps.Rules.{prefab, disabled}
use Rattle.query_model.specs.Observers.{is_constant, is_constant_target}
use Rattle.query_model.specs.declared.query.Term.{Term}
use Rattle.query_model.specs.Local.{asks_first}
use Rattle.query_model.specs.Query.{Item, must, may, either, equal, differ, Piece, item, opening, closing, Query}
use Rattle.watch_concerns.specs.Concerns.{may_match}

-- ---- surely not

-- whether these ids lack an id that the item requires on `$this` itself
abbrev pub item_lacks : List Id → Item → Bool
item_lacks ids (must t) = asks_first t && not (list_any (may_match t.component t.target) ids)
item_lacks ids x = false

-- whether they lack one for an item before the first group
abbrev pub lacks_from : List Id → List Piece → Bool
lacks_from ids [] = false
lacks_from ids (item x ∷ ps) = item_lacks ids x || lacks_from ids ps
lacks_from ids (opening from_term own ∷ ps) = false
lacks_from ids (closing ∷ ps) = false

-- then an entity with these ids is `$this` of no row
unfoldable pub lacks : Query → List Id → Bool
lacks q ids = lacks_from ids q.pieces

-- ---- surely

-- whether a term without variables matches one of these ids on `$this` itself
abbrev pub term_is_met : List Id → Term → Bool
term_is_met ids t = asks_first t && is_constant t.component && is_constant_target t.target && list_any (may_match t.component t.target) ids

abbrev pub item_is_met : List Id → Item → Bool
item_is_met ids (must t) = term_is_met ids t
item_is_met ids (may t) = true
item_is_met ids (either ts) = list_any (term_is_met ids) ts
item_is_met ids (equal v r) = false
item_is_met ids (differ v r) = false

-- whether the ids meet each item outside groups, and in each group some item requires an id that is missing. `inside`
-- says whether a group is open, `failed` whether it already has such an item. With groups inside groups the answer is
-- false
abbrev pub meets_from : List Id → Bool → Bool → List Piece → Bool
meets_from ids inside failed [] = not inside || failed
meets_from ids inside failed (item x ∷ ps) = if inside then meets_from ids true (failed || item_lacks ids x) ps else item_is_met ids x && meets_from ids false false ps
meets_from ids inside failed (opening from_term own ∷ ps) = not inside && meets_from ids true false ps
meets_from ids inside failed (closing ∷ ps) = inside && failed && meets_from ids false false ps

-- then a live entity with these ids is `$this` of a row
unfoldable pub meets : Query → List Id → Bool
meets q ids = not (length q.variables == 0) && not (is_held ids (plain prefab)) && not (is_held ids (plain disabled)) && meets_from ids false false q.pieces
