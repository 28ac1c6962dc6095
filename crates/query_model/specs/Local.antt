-- Queries that ask each entity for its own ids alone.
use Rattle.std.specs.Prelude.{◌==◌, Bool, true, false, not, ◌&&◌, Option, is_none, length}
use Rattle.std.specs.Option.{option_map_or}
use Rattle.std.specs.List.{list_any, list_all}
use Rattle.query_model.specs.declared.query.Ref.{Ref}
use Rattle.query_model.specs.declared.query.Ref.TheVariants.{Is}
use Rattle.query_model.specs.declared.query.Term.{Term}
use Rattle.query_model.specs.Query.{Piece, item, opening, closing, must, may, either, equal, differ, Query}
use Rattle.query_model.specs.Observers.{is_first}

-- whether a term asks its source alone, for ids that are stored
abbrev pub is_direct : Term → Bool
is_direct t = t.on_source && is_none t.up && not t.closed

-- whether it asks the first variable so
abbrev pub asks_first : Term → Bool
asks_first t = is_first t.source && is_direct t

-- whether the terms of a piece do so, and a group has no variables of its own
abbrev pub is_local_piece : Piece → Bool
is_local_piece (item (must t)) = asks_first t
is_local_piece (item (may t)) = asks_first t
is_local_piece (item (either ts)) = list_all asks_first ts
is_local_piece (item (equal v r)) = true
is_local_piece (item (differ v r)) = true
is_local_piece (opening from_term own) = length own == 0
is_local_piece closing = true

-- a local query: `$this` is its one variable, and every term, inside groups too, asks it so. The first variable is `$this`, where it occurs
abbrev pub is_local : Query → Bool
is_local q = q.has_this && length q.variables == 1 && list_all is_local_piece q.pieces

abbrev pub is_entity : Ref → Bool
is_entity (Is e) = true
is_entity r = false

abbrev pub is_entity_if_written : Option Ref → Bool
is_entity_if_written r = option_map_or is_entity r true

-- whether a term asks it for one id
abbrev pub asks_one_id : Term → Bool
asks_one_id t = asks_first t && is_entity t.component && is_entity_if_written t.target

-- a term that must or may match, or alternatives, each for one id
abbrev pub is_simple_piece : Piece → Bool
is_simple_piece (item (must t)) = asks_one_id t
is_simple_piece (item (may t)) = asks_one_id t
is_simple_piece (item (either ts)) = list_all asks_one_id ts
is_simple_piece p = false

abbrev pub is_must : Piece → Bool
is_must (item (must t)) = true
is_must p = false

-- a simple query: terms for one id of `$this` each, at least one of which must match
abbrev pub is_simple : Query → Bool
is_simple q = q.has_this && list_all is_simple_piece q.pieces && list_any is_must q.pieces
