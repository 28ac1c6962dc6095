-- The rows of a stored query after a command: in a set that was made of them, or exchanged in its own.
use Rattle.std.specs.Prelude.{◌≡◌, ℕ, List, Option, Some, None}
use Rattle.std.specs.Option.{option_map_or}
use Rattle.std.proofs.Common.{ap, sym, ◌∙◌}
use Rattle.entity_set.specs.Members.{Entities, exchanged}
use Rattle.watch_stored.specs.Parts.{kept_set, with_kept}
use Rattle.watch_stored.specs.declared.moves.RowsAfter.{RowsAfter}
use Rattle.watch_stored.specs.declared.stored.StoredQuery.{StoredQuery}

-- where no set was made
pub kept_none : (set : Option Entities) (left entered : List ℕ) (these : Entities) → set ≡ None → exchanged left entered these ≡ kept_set set left entered these
unfolding kept_set
kept_none set left entered these none = sym (ap (λ o. option_map_or (λ s. s) o (exchanged left entered these)) none)

module _ {A : Type 0} (rows : RowsAfter A) (q : StoredQuery A) where
  pub kept_made : (set : Entities) → rows.these ≡ Some set → record q { these = set } ≡ with_kept rows q
  unfolding kept_set
  kept_made set is = λ i. record q { these = option_map_or (λ s. s) (sym is i) (exchanged rows.left.items rows.entered.items q.these) }

  pub kept_in_place : (left entered : List ℕ) (now : Entities) → rows.these ≡ None → now ≡ exchanged left entered q.these → left ≡ rows.left.items → entered ≡ rows.entered.items
      → record q { these = now } ≡ with_kept rows q
  unfolding kept_set
  kept_in_place left entered now is changed gone come =
      (λ i. record q { these = changed i })
      ∙ (λ i. record q { these = option_map_or (λ s. s) (sym is i) (exchanged (gone i) (come i) q.these) })
