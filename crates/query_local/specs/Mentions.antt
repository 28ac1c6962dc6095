-- Whether a query mentions a tag of `$this`, read from its pieces from the left.
use Rattle.std.specs.Prelude.{ℕ, zero, suc, Bool, true, false, ◌||◌, List, [], ◌∷◌}
use Rattle.ecs_model.specs.rows.Rows.{item_mentions}
use Rattle.query_model.specs.Query.{Piece, item, opening, closing}

-- how many groups are open whose items don't count: all but those that were written as one term
abbrev pub hidden_behind : ℕ → Bool → ℕ
hidden_behind zero true = zero
hidden_behind zero false = 1
hidden_behind (suc h) from_term = suc (suc h)

abbrev pub hidden_around : ℕ → ℕ
hidden_around zero = zero
hidden_around (suc h) = h

abbrev pub counted : ℕ → Bool → Bool
counted zero b = b
counted (suc h) b = false

abbrev pub hidden_past : ℕ → Piece → ℕ
hidden_past h (item i) = h
hidden_past h (opening from_term own) = hidden_behind h from_term
hidden_past h closing = hidden_around h

module _ (tag : ℕ) where
  abbrev pub piece_mentions : Piece → Bool
  piece_mentions (item i) = item_mentions tag i
  piece_mentions p = false

  -- so many groups don't count
  abbrev pub mentions_from : ℕ → List Piece → Bool
  mentions_from h [] = false
  mentions_from h (p ∷ ps) = counted h (piece_mentions p) || mentions_from (hidden_past h p) ps
