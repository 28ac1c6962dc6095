-- References, variables and queries of the code, as the definitions see them.
use Rattle.std.specs.Prelude.{◌≡◌, ⊤, ℕ, false, List, [], ◌∷◌, map, flat_map, option_map, Option, Some, None, Result, Ok, Err}
use Rattle.std.proofs.Common.{get_or}
use Rattle.query_model.specs.declared.Span.{Span}
use Rattle.query_model.specs.declared.faults.QueryFault.{QueryFault}
use Rattle.query_model.specs.declared.faults.QueryFault.TheVariants.{Fault, Memory}
use Rattle.query_model.specs.Syntax.{Spoken, Var, TermSyntax, Part, term, Syntax}
use Rattle.query_model.specs.Cascades.{Cascading}
use Rattle.query_model.specs.Seen.{seen_reference}
use Rattle.query_model.specs.Levels.{Path, level_of, placed_parts}
use Rattle.query_model.specs.Uses.{Use, uses_of}
use Rattle.query_model.specs.Scope.{Sighting}
use Rattle.query_model.specs.Numbers.{Variable}
use Rattle.query_model.specs.Check.{Known}
use Rattle.query_model.specs.Query.{Item, must, may, either, equal, differ, Piece, item, opening, closing, Query, check_of, CheckedEntry, simple, group}
use Rattle.query_check.specs.declared.cascades.Cascading as code_cascading
use Rattle.query_check.specs.declared.uses.Use as code_use
use Rattle.query_check.specs.declared.scope.Occurrence as code_occurrence
use Rattle.query_check.specs.declared.numbers.Variable as code_variable
use Rattle.query_check.specs.declared.query.Item as code_item
use Rattle.query_check.specs.declared.query.Item.TheVariants.{And, Optional, Equal, Differ}
use Rattle.query_check.specs.declared.query.Item.TheVariants as code_items
use Rattle.query_model.specs.declared.syntax.Role.TheVariants.{Or}
use Rattle.query_check.specs.declared.query.Piece as code_piece
use Rattle.query_check.specs.declared.numbered.Entry as code_entry
use Rattle.query_check.specs.declared.numbered.Entry.TheVariants as code_entries
use Rattle.query_check.specs.declared.numbered.Numbered.{Numbered}
use Rattle.query_check.specs.declared.query.Piece.TheVariants.{Opening, Closing}
use Rattle.query_check.specs.declared.query.Piece.TheVariants as code_pieces

-- the term of a part that is an alternative to the one before it
abbrev pub as_alternative : Part → Option TermSyntax
as_alternative (term Or t) = Some t
as_alternative p = None

-- references with the levels in which they stand
abbrev pub at_level : ℕ → Use → ℕ × Use
at_level l u = (l, u)

abbrev pub level_uses_of : Path × Part → List (ℕ × Use)
level_uses_of p = map (at_level (level_of p.0)) (uses_of p.1)

abbrev pub level_uses : List Part → List (ℕ × Use)
level_uses ps = flat_map level_uses_of (placed_parts ps)

abbrev pub seen_use : code_use.Use → ℕ × Use
seen_use u = (u.level, record { position = u.position; reference = seen_reference u.reference })

-- variables where they stand
abbrev pub sighted : ℕ → Spoken → Span → List Sighting
sighted l (Var v) s = record { name = v; level = l; span = s } ∷ []
sighted l w s = []

abbrev pub sighting_of : ℕ × Use → List Sighting
sighting_of u = sighted u.0 ((u.1).reference).spoken ((u.1).reference).span

abbrev pub seen_occurrence : code_occurrence.Occurrence → Sighting
seen_occurrence o = record { name = o.name.now; level = o.level; span = o.span }

abbrev pub seen_variable : code_variable.Variable → Variable
seen_variable v = (v.name.now, v.level)

abbrev pub seen_cascading : code_cascading.Cascading → Cascading
seen_cascading c = record { levels = c.levels; source = option_map seen_reference c.source; along = option_map seen_reference c.along; span = c.span }

-- a syntax by its parts and the length of the text
abbrev pub syntax_of : List Part → ℕ → Syntax
syntax_of ps n = record { parts = ps; length = n }

-- items and pieces
abbrev pub seen_item : {A : Type 0} → code_item.Item A → Item
seen_item (And t) = must t
seen_item (Optional t) = may t
seen_item (code_items.Or ts) = either ts.items
seen_item (Equal v r) = equal v r
seen_item (Differ v r) = differ v r

abbrev pub seen_piece : {A : Type 0} → code_piece.Piece A → Piece
seen_piece (code_pieces.Item i) = item (seen_item i)
seen_piece (Opening from_term own) = opening from_term own.items
seen_piece Closing = closing

-- an item or a group, and where the code finds it among the pieces
abbrev pub seen_entry : {A : Type 0} → code_entry.Entry A → CheckedEntry
seen_entry (code_entries.Item level i) = simple level (seen_item i.now)
seen_entry (code_entries.Group level from_term own) = group level from_term own.now

abbrev pub entry_of : ℕ → Piece → CheckedEntry
entry_of level (item i) = simple level i
entry_of level (opening from_term own) = group level from_term own
entry_of level closing = group level false []

abbrev pub entry_at : List Piece → Numbered → CheckedEntry
entry_at pieces n = entry_of n.level (get_or pieces n.piece closing)

-- the answer of the check; where memory is refused, it may say so in place of it
abbrev pub AnswersCheck : Known → Syntax → Result Query QueryFault → Type 0
AnswersCheck k s (Ok q) = check_of k s ≡ Ok q
AnswersCheck k s (Err (Fault f)) = check_of k s ≡ Err f
AnswersCheck k s (Err Memory) = ⊤
