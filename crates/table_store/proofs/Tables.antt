-- The cells of a table's rows.
use Rattle.std.proofs.Common.{◌≡◌, ℕ, ◌<◌, List, [], ◌∷◌, Option, Some, None, IfSome, length, map, option_map, unwrap_or, slice_get, refl, sym, ap, subst, ◌∙◌}
use Rattle.std.proofs.lemmas.Option.{slice_get-get_or, slice_get_within}
use Rattle.std.proofs.lemmas.List.Quantifiers.{position-Some}
use Rattle.ecs_id.specs.Id.{Id, id_eq}
use Rattle.ecs_id.specs.declared.EntityId.{EntityId}
use Rattle.ecs_table.specs.Archetype.{Archetype, IsSound, index_in, values_at, no_values, value_of}
use Rattle.ecs_table.proofs.Soundness.{columns_paired}
use Rattle.table_store.specs.Store.{Shape, shape_of, byte_size}
use Rattle.table_store.specs.Rows.{Row, row_of, cells_of, shape_of_cells}

-- each cell of a row has as many bytes as its id's values
value_length : (t : Archetype) (r : ℕ) (i : Id) → IsSound t → r < length t.entities → (o : Option ℕ) → index_in t.data_ids i ≡ o
    → unwrap_or (elim o [ None ↦ None | Some k ↦ Some (values_at t.columns k).size ]) 0 ≡ length (unwrap_or (elim o [ None ↦ None | Some k ↦ slice_get (values_at t.columns k).items r ]) [])
unfolding index_in
value_length t r i h lt None e = refl
value_length t r i h lt (Some k) e =
    let within : k < length t.data_ids = (position-Some (λ j. id_eq j i) t.data_ids k i e).0 in
    let column : k < length t.columns = subst (λ n. k < n) (columns_paired t h) within in
    let shaped = h.shaped k (no_values 0) column in
    let there : r < length (values_at t.columns k).items = subst (λ n. r < n) (sym shaped.rows) lt in
    sym (shaped.bytes r [] lt) ∙ sym (ap (λ o. length (unwrap_or o [])) (slice_get-get_or (values_at t.columns k).items r [] there))

cells_same : (t : Archetype) (r : ℕ) (ids : List Id) → ((i : Id) → byte_size t i ≡ length (unwrap_or (value_of t r i) []))
    → ◌≡◌ {A = Shape} (map (λ i. (i, byte_size t i)) ids) (shape_of_cells (map (λ i. (i, unwrap_or (value_of t r i) [])) ids))
cells_same t r [] h = refl
cells_same t r (i ∷ ids) h = λ j. (i, h i j) ∷ cells_same t r ids h j

pub cells_of_size : (t : Archetype) (r : ℕ) → IsSound t → r < length t.entities → shape_of t ≡ shape_of_cells (cells_of t r)
cells_of_size t r h lt = cells_same t r t.ids (λ i. value_length t r i h lt (index_in t.data_ids i) refl)

abbrev pub HasCells : Archetype → Type 0
HasCells t = (r : ℕ) → IfSome (row_of t r) (λ v. shape_of t ≡ shape_of_cells v.1)

pub has_cells : (t : Archetype) → IsSound t → HasCells t
has_cells t h r = by (slice_get t.entities r) refl
  where
    by : (o : Option EntityId) → slice_get t.entities r ≡ o → IfSome {T = Row} (option_map (λ e. (e, cells_of t r)) o) (λ v. shape_of t ≡ shape_of_cells v.1)
    by None e = tt
    by (Some x) e = cells_of_size t r h (slice_get_within t.entities r x e)
