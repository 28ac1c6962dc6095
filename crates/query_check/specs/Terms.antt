-- The terms of a checked query.
use Rattle.std.specs.Prelude.{List, [], ◌∷◌, flat_map}
use Rattle.query_model.specs.declared.query.Term.{Term}
use Rattle.query_model.specs.Query.{Item, must, may, either, equal, differ, Piece, item, opening, closing, Query}

-- those of an item: one, or its alternatives in order. An equality has none
abbrev pub item_terms : Item → List Term
item_terms (must t) = t ∷ []
item_terms (may t) = t ∷ []
item_terms (either ts) = ts
item_terms (equal v r) = []
item_terms (differ v r) = []

abbrev pub piece_terms : Piece → List Term
piece_terms (item i) = item_terms i
piece_terms (opening from_term own) = []
piece_terms closing = []

-- those of a query in the order of its text, inside groups too
abbrev pub terms : Query → List Term
terms q = flat_map piece_terms q.pieces
