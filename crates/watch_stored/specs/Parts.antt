-- What is seen of the parts of a stored query.
use Rattle.std.specs.Prelude.{◌≡◌, ◌⊎◌, ℕ, Bool, List, [], ◌∷◌, ◌++◌, Option, None, Some, if◌then◌else◌}
use Rattle.std.specs.Option.{option_map_or}
use Rattle.entity_set.specs.Members.{Entities, exchanged}
use Rattle.watch_stored.specs.Held.{Held}
use Rattle.watch_stored.specs.declared.moves.RowsAfter.{RowsAfter}
use Rattle.watch_stored.specs.declared.stored.StoredQuery.{StoredQuery}

-- a stored query with this name
abbrev pub held_as : {A : Type 0} → List ℕ → StoredQuery A → Held
held_as name q = record { name = name; kind = q.kind; query = (q.plan).query; these = (q.these).items; list = q.list; steps = (q.plan).steps; planned_at = q.planned_at }

-- the entities of a monitor's rows after a command: the new set if one was made, else the old one after the changes
unfoldable pub kept_set : Option Entities → List ℕ → List ℕ → Entities → Entities
kept_set set left entered these = option_map_or (λ s. s) set (exchanged left entered these)

abbrev pub kept_rows : {A : Type 0} → RowsAfter A → Entities → Entities
kept_rows rows these = kept_set rows.these rows.left.items rows.entered.items these

-- these entities, if the rows are put in the place of the old ones
abbrev pub put_in : {A : Type 0} → Bool → RowsAfter A → Entities → Option (List ℕ)
put_in put rows these = if put then Some (kept_rows rows these).items else None

-- a stored query that holds these rows
abbrev pub with_kept : {A : Type 0} → RowsAfter A → StoredQuery A → StoredQuery A
with_kept rows q = record q { these = kept_rows rows q.these }

-- the rows of one more stored query are appended with its place; or nothing is put and nothing is appended
abbrev pub IsPut : {A : Type 0} → Option (List ℕ) → ℕ → StoredQuery A → List (ℕ × RowsAfter A) → List (ℕ × RowsAfter A) → Type 0
IsPut {A} put n q before after = ((put ≡ None) × (after ≡ before)) ⊎ ((rows : RowsAfter A) × ((put ≡ Some (kept_rows rows q.these).items) × (after ≡ before ++ (n, rows) ∷ [])))
