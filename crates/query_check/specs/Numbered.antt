-- The items of a query by number, as the code finds them.
use Rattle.std.specs.Prelude.{ℕ, ◌+◌, ◌-◌, ◌==◌, Bool, false, List, [], ◌∷◌, drop, Option, Some, None, if◌then◌else◌}
use Rattle.std.proofs.Common.{Bor, get_or}
use Rattle.query_model.specs.Levels.{Path, level_of}
use Rattle.query_model.specs.Query.{Item, equal, Piece, item, opening, closing, CheckedEntry, simple, group, is_shown}
use Rattle.query_check.specs.Seen.{seen_piece}
use Rattle.query_check.specs.declared.query.Piece as code
use Rattle.query_check.specs.declared.numbered.EntryKind.{EntryKind}
use Rattle.query_check.specs.declared.numbered.EntryKind.TheVariants as kind
use Rattle.query_check.specs.declared.numbered.Numbered.{Numbered}

-- of what kind an item is that is no group
abbrev pub item_kind : Item → EntryKind
item_kind (equal v r) = kind.Equality
item_kind i = kind.Other

-- where something stands
abbrev pub standing : ℕ → ℕ → EntryKind → Numbered
standing level place of_kind = record { level = level; piece = place; kind = of_kind }

-- where items and groups stand, in the order of their numbers. n is the first number, k the place of the first piece, and around has the levels that are open, innermost first
abbrev pub places_from : ℕ → ℕ → Path → List Piece → List Numbered
places_from n k around [] = []
places_from n k around (item i ∷ ps) = standing (level_of around) k (item_kind i) ∷ places_from (n + 1) (k + 1) around ps
places_from n k around (opening from_term own ∷ ps) = standing (level_of around) k kind.Group ∷ places_from (n + 1) (k + 1) ((n + 1) ∷ around) ps
places_from n k around (closing ∷ ps) = places_from n (k + 1) (drop 1 around) ps

-- a place that nothing has
abbrev pub nowhere : Numbered
nowhere = standing 0 0 kind.Other

-- the level around a level: that of the item with its number
abbrev pub level_around : List Numbered → ℕ → ℕ
level_around all level = if level == 0 then 0 else (get_or all (level - 1) nowhere).level

-- a piece, or the end of a group where there is none
abbrev pub piece_or : {A : Type 0} → Option (Bor (code.Piece A)) → Piece
piece_or None = closing
piece_or (Some p) = seen_piece p.now

-- whether each row has a field for an item: one outside all groups that is shown
abbrev pub is_shown_entry : CheckedEntry → Bool
is_shown_entry (simple level i) = if level == 0 then is_shown i else false
is_shown_entry (group level from_term own) = false
