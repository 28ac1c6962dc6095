-- The bytes of a column, read at a row: those of the value there, where the values of the rows up to it have one size. They are as many as the values
-- of all rows have.
use Rattle.std.proofs.Common.{◌≡◌, ℕ, zero, suc, ◌+◌, ◌*◌, ◌≤◌, ◌<◌, List, [], ◌∷◌, ◌++◌, take, drop, length, length-append, Option, Some, None, slice_get, sym, ap, ◌∙◌, refl, arith}
use Rattle.std.specs.Prelude.{unwrap_or}
use Rattle.std.specs.List.{concat}
use Rattle.std.proofs.lemmas.List.{take_at}
use Rattle.std.proofs.lemmas.List.Quantifiers.{position-Some}
use Rattle.std.proofs.Math.Seq.{drop-append-add}
use native.Mathlib.Nat.{zero-mul, suc-mul}
use lib.Seq.{drop-nil, take-nil}
use Rattle.ecs_id.specs.Id.{Id, id_eq}
use Rattle.ecs_table.specs.Archetype.{Archetype, IsSound, column_of, index_in, no_values, value_of, values_at}
use Rattle.ecs_table.proofs.Soundness.{columns_paired}

abbrev item_at : List (List ℕ) → ℕ → List ℕ
item_at xs j = unwrap_or (slice_get xs j) []

nothing : (s n : ℕ) → take s (drop {A = ℕ} n []) ≡ []
nothing s n = ap (take s) (drop-nil n) ∙ take-nil s

joined_item : (xs : List (List ℕ)) (s j : ℕ) → ((r : ℕ) → r ≤ j → length (item_at xs r) ≡ s) → take s (drop (j * s) (concat xs)) ≡ item_at xs j
joined_item [] s j sized = nothing s (j * s)
joined_item (x ∷ xs) s zero sized =
    let none : 0 * s ≡ 0 = zero-mul s in
    ap (λ n. take s (drop n (x ++ concat xs))) none ∙ take_at x (concat xs) s (sized 0 (omega arith))
joined_item (x ∷ xs) s (suc j) sized =
    let first : length x ≡ s = sized 0 (omega arith) in
    let next : suc j * s ≡ length x + j * s = omega (arith, suc-mul j s) in
    ap (λ n. take s (drop n (x ++ concat xs))) next ∙ ap (take s) (drop-append-add x (concat xs) (j * s)) ∙ joined_item xs s j (λ r low. sized (suc r) (omega arith))

joined_length : (xs : List (List ℕ)) (s : ℕ) → ((r : ℕ) → r < length xs → length (item_at xs r) ≡ s) → length (concat xs) ≡ length xs * s
joined_length [] s sized = let none : 0 * s ≡ 0 = zero-mul s in sym none
joined_length (x ∷ xs) s sized =
    let first : length x ≡ s = sized 0 (omega arith) in
    let others : length (concat xs) ≡ length xs * s = joined_length xs s (λ r low. sized (suc r) (omega (arith, low))) in
    omega (arith, length-append x (concat xs), first, others, suc-mul (length xs) s)

none_sized : (n s : ℕ) → ((r : ℕ) → r < n → 0 ≡ s) → 0 ≡ n * s
none_sized zero s h = let none : 0 * s ≡ 0 = zero-mul s in sym none
none_sized (suc n) s h = let none : suc n * 0 ≡ 0 = omega arith in sym none ∙ ap (λ m. suc n * m) (h 0 (omega arith))

index_within : (ids : List Id) (i : Id) (k : ℕ) → index_in ids i ≡ Some k → k < length ids
unfolding index_in
index_within ids i k at = (position-Some (λ j. id_eq j i) ids k i at).0

module _ (t : Archetype) where
  abbrev pub cell_at : Id → ℕ → List ℕ
  cell_at i row = unwrap_or (value_of t row i) []

  -- the value of an id at a row, in the bytes of its column
  pub column_cell : (i : Id) (s j : ℕ) → ((r : ℕ) → r ≤ j → length (cell_at i r) ≡ s) → take s (drop (j * s) (unwrap_or (column_of t i) [])) ≡ cell_at i j
  column_cell i s j sized = by (index_in t.data_ids i) sized
    where
      by : (o : Option ℕ) → ((r : ℕ) → r ≤ j → length (unwrap_or (elim o [ None ↦ None | Some k ↦ slice_get (values_at t.columns k).items r ]) []) ≡ s)
          → take s (drop (j * s) (unwrap_or (elim o [ None ↦ None | Some k ↦ Some (concat (values_at t.columns k).items) ]) [])) ≡ unwrap_or (elim o [ None ↦ None | Some k ↦ slice_get (values_at t.columns k).items j ]) []
      by None sized = nothing s (j * s)
      by (Some k) sized = joined_item (values_at t.columns k).items s j sized

  -- the bytes of an id's values in all rows
  pub column_length : IsSound t → (i : Id) (s : ℕ) → ((r : ℕ) → r < length t.entities → length (cell_at i r) ≡ s) → length (unwrap_or (column_of t i) []) ≡ length t.entities * s
  column_length sound i s sized = by (index_in t.data_ids i) refl sized
    where
      by : (o : Option ℕ) → index_in t.data_ids i ≡ o → ((r : ℕ) → r < length t.entities → length (unwrap_or (elim o [ None ↦ None | Some k ↦ slice_get (values_at t.columns k).items r ]) []) ≡ s)
          → length (unwrap_or (elim o [ None ↦ None | Some k ↦ Some (concat (values_at t.columns k).items) ]) []) ≡ length t.entities * s
      by None at sized = none_sized (length t.entities) s sized
      by (Some k) at sized =
          let there : k < length t.data_ids = index_within t.data_ids i k at in
          let shaped = sound.shaped k (no_values 0) (omega (arith, there, columns_paired t sound)) in
          let rows : length (values_at t.columns k).items ≡ length t.entities = shaped.rows in
          joined_length (values_at t.columns k).items s (λ r low. sized r (omega (arith, low, rows))) ∙ ap (λ n. n * s) rows
