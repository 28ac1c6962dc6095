-- The numbers whose bits are set in words.
use Rattle.std.specs.Prelude.{ℕ, ◌*◌, ◌==◌, ◌&&◌, ◌||◌, Bool, not, List, filter, length}
use Rattle.std.specs.List.{list_any, range_with_len}
use Rattle.ecs_model.specs.BitWords.{has_bit}

-- whether it is set in some words and not in others
abbrev pub has_else : List ℕ → List ℕ → ℕ → Bool
has_else words others e = has_bit words e && not (has_bit others e)

-- the numbers of the word at a place
unfoldable pub indexes_of : ℕ → List ℕ
indexes_of place = range_with_len (64 * place) 64

-- all whose bits are set, in ascending order
unfoldable pub members : List ℕ → List ℕ
members words = filter (has_bit words) (range_with_len 0 (64 * length words))

-- what is seen of a set: who is in it, and below which number there is room in it
pub record Entities : Type 0 where
  pub items : List ℕ
  pub room : ℕ

-- that is, of one with these words
abbrev pub entities_in : List ℕ → Entities
entities_in words = record { items = members words; room = 64 * length words }

-- a set that some have left, and that others have then entered, of those for whom there is room
unfoldable pub exchanged : List ℕ → List ℕ → Entities → Entities
exchanged left entered these = record these { items = filter (λ e. (list_any (λ x. x == e) these.items && not (list_any (λ x. x == e) left)) || list_any (λ x. x == e) entered) (range_with_len 0 these.room) }
