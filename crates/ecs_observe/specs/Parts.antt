-- What is seen of the parts of a session.
use Rattle.std.specs.Prelude.{◌≡◌, ℕ, zero, suc, List, [], ◌∷◌, Option, map}
use Rattle.std.specs.declared.string.String.{String}
use Rattle.std.specs.String.{string_bytes}
use Rattle.watch_stored.specs.Held.{Held}
use Rattle.ecs_observe.specs.Standing.{with_rows}
use Rattle.watch_stored.specs.declared.moves.RowsAfter.{RowsAfter}
use Rattle.watch_stored.specs.declared.stored.StoredQuery.{StoredQuery}
use Rattle.watch_stored.specs.Parts.{held_as, with_kept}

-- a stored query under its name
abbrev pub held_of : {A : Type 0} → String A × StoredQuery A → Held
held_of p = held_as (string_bytes p.0) p.1

-- stored queries, where the one at this place, if there is one, keeps these rows
abbrev pub with_kept_at : {A : Type 0} → ℕ → RowsAfter A → List (String A × StoredQuery A) → List (String A × StoredQuery A)
with_kept_at n rows [] = []
with_kept_at zero rows (e ∷ es) = (e.0, with_kept rows e.1) ∷ es
with_kept_at (suc n) rows (e ∷ es) = e ∷ with_kept_at n rows es

-- the same for each of these places, the last first
abbrev pub with_all_kept : {A : Type 0} → List (ℕ × RowsAfter A) → List (String A × StoredQuery A) → List (String A × StoredQuery A)
with_all_kept [] es = es
with_all_kept (p ∷ placed) es = with_kept_at p.0 p.1 (with_all_kept placed es)

-- the kept rows, each with the place of its query, are exactly those that are to be put
abbrev pub ArePlaced : {A : Type 0} → (Held → Option (List ℕ)) → List (ℕ × RowsAfter A) → List (String A × StoredQuery A) → Type 0
ArePlaced put placed es = map held_of (with_all_kept placed es) ≡ with_rows (map put (map held_of es)) (map held_of es)
