-- What the terms of every checked query have.
use Rattle.std.specs.Prelude.{◌≡◌, Bool, true, false, not, ◌&&◌, ◌||◌, Option, Some, None, is_none, Ok}
use Rattle.std.specs.List.{list_all}
use Rattle.query_model.specs.declared.query.Ref.{Ref}
use Rattle.query_model.specs.declared.query.Ref.TheVariants.{Is, Var}
use Rattle.query_model.specs.declared.query.Term.{Term}
use Rattle.query_model.specs.Syntax.{Syntax}
use Rattle.query_model.specs.Check.{Known}
use Rattle.query_model.specs.Query.{Item, must, may, either, equal, differ, Piece, item, Query, check_of}
use Rattle.query_model.specs.Local.{is_entity}

-- an entity or a variable
abbrev pub is_definite_ref : Ref → Bool
is_definite_ref (Is e) = true
is_definite_ref (Var v) = true
is_definite_ref r = false

abbrev pub has_definite_target : Option Ref → Bool
has_definite_target None = false
has_definite_target (Some r) = is_definite_ref r

-- a source is no wildcard, and a closed term follows a name, to an entity or a variable, and asks no ancestors
abbrev pub is_sound_term : Term → Bool
is_sound_term t = is_definite_ref t.source && (not t.closed || is_entity t.component && has_definite_target t.target && is_none t.up)

-- nor is the other side of an equality
abbrev pub is_sound_item : Item → Bool
is_sound_item (must t) = is_sound_term t
is_sound_item (may t) = is_sound_term t
is_sound_item (either ts) = list_all is_sound_term ts
is_sound_item (equal v r) = is_definite_ref r
is_sound_item (differ v r) = is_definite_ref r

abbrev pub is_sound_piece : Piece → Bool
is_sound_piece (item i) = is_sound_item i
is_sound_piece p = true

-- each checked query has that
abbrev pub TermsAreSound : Type 0
TermsAreSound = (k : Known) (s : Syntax) (q : Query) → check_of k s ≡ Ok q → list_all is_sound_piece q.pieces ≡ true
