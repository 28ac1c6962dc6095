-- Whether variables are bound, read from the pieces of a query from left to right.
use Rattle.std.specs.Prelude.{ℕ, ◌+◌, ◌-◌, ◌==◌, Bool, true, false, not, ◌&&◌, ◌||◌, List, [], ◌∷◌, if◌then◌else◌}
use Rattle.std.specs.List.{list_all}
use Rattle.ecs_model.specs.rows.Level.{Level}
use Rattle.query_model.specs.declared.query.Term.{Term}
use Rattle.query_model.specs.Query.{Item, Piece, item, opening, closing}
use Rattle.watch_concerns.specs.declared.bonds.Bond.{Bond}
use Rattle.watch_concerns.specs.declared.bonds.Bond.TheVariants.{Anchor, Tie, Link}
use Rattle.watch_concerns.specs.Anchored.{item_anchors}
use Rattle.watch_concerns.specs.Bonds.{has_directly}
use Rattle.watch_concerns.specs.Linked.{item_links}
use Rattle.watch_concerns.specs.Tied.{item_ties, needs_no_tie}

-- ---- the bonds as they are in the code

abbrev pub item_binds : Bond → ℕ → Item → Bool
item_binds Anchor v x = item_anchors v x
item_binds Tie v x = item_ties v x
item_binds Link v x = item_links v x

-- whether a variable needs no bond in a query with these terms
abbrev pub is_free : Bond → List Term → ℕ → Bool
is_free Anchor ts v = false
is_free Tie ts v = needs_no_tie ts v
is_free Link ts v = v == 0

abbrev pub binds : Bond → List Term → ℕ → Level → Bool
binds bond ts v l = is_free bond ts v || has_directly (item_binds bond v) l

-- ---- the pieces

abbrev pub is_end : Piece → Bool
is_end (item x) = false
is_end (opening from_term own) = false
is_end closing = true

-- how many groups are open after a piece
abbrev pub depth_behind : ℕ → Piece → ℕ
depth_behind depth (item x) = depth
depth_behind depth (opening from_term own) = depth + 1
depth_behind depth closing = depth - 1

module _ (test : Item → Bool) where
  abbrev pub piece_passes : Piece → Bool
  piece_passes (item x) = test x
  piece_passes (opening from_term own) = false
  piece_passes closing = false

  -- whether an item directly in the level passes. The pieces are those of a whole query, or begin with a group and are
  -- read up to its end
  abbrev pub passes_from : Bool → ℕ → List Piece → Bool
  passes_from whole depth [] = false
  passes_from whole depth (p ∷ ps) =
      if depth == 0 && piece_passes p then true
      else if depth == 0 && not whole && is_end p then false
      else passes_from whole (depth_behind depth p) ps

module _ (holds : List Piece → ℕ → Bool) where
  -- whether `holds` is true for each own variable of each group, given the pieces after the group's beginning
  abbrev pub each_group : List Piece → Bool
  each_group [] = true
  each_group (item x ∷ ps) = each_group ps
  each_group (opening from_term own ∷ ps) = list_all (holds ps) own && each_group ps
  each_group (closing ∷ ps) = each_group ps

-- by all terms of a query
module _ (bond : Bond) (all : List Term) where
  -- whether a variable is bound in the level that begins here
  abbrev pub binds_from : Bool → List Piece → ℕ → Bool
  binds_from whole ps v = is_free bond all v || passes_from (item_binds bond v) whole 0 ps

  -- whether the own variables of each group are bound in it
  abbrev pub groups_from : List Piece → Bool
  groups_from ps = each_group (binds_from false) ps
