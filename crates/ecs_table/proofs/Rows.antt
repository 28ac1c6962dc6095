-- What each call makes of the rows and of the shape of a table.
use Rattle.std.proofs.Common.{◌≡◌, ◌≢◌, ◌⊎◌, ℕ, ◌+◌, ◌-◌, ◌≤◌, ◌<◌, Bool, ◌||◌, zero, suc, List, [], ◌∷◌, length, map, replicate, cond, eqb, nat_lt, refl, sym, ap, subst, ◌∙◌, true, false, arith, get_or, slice_get, slice_set, get_or-set_other, inl, inr, Option, Some, None, option_map, unwrap_or}
use Rattle.std.proofs.lemmas.Grind.{get_or-set_at}
use Rattle.std.proofs.lemmas.List.{get_or-map, length-map, nil_from_length, set_past}
use Rattle.std.proofs.lemmas.List.Elements.{All-filter, All-from_get_or, All-get_or}
use Rattle.std.proofs.lemmas.List.Quantifiers.{position-Some}
use Rattle.std.proofs.lemmas.Slice.Zip.{length-zip, get_or-zip}
use Rattle.std.proofs.lemmas.Option.{slice_get-get_or, slice_get_past, none-some, same_Some}
use Rattle.std.proofs.lemmas.Bool.{cases_lt, cases_eq, false≢true}
use Rattle.std.proofs.lemmas.Bool.Decides.{eqb_tells, nat_tests}
use Rattle.std.specs.List.{filter, zip, list_any}
use Rattle.std.specs.FinMap.{find}
use Rattle.ecs_id.specs.Id.{Id, id_cmp, id_eq, id_eq_same, id_eq_itself}
use Rattle.ecs_id.specs.declared.EntityId.{EntityId}
use Rattle.ecs_table.proofs.ColumnLemmas.{fitting_same}
use Rattle.ecs_table.proofs.Places.{get_pushed, get_set, get_swap_removed}
use Rattle.ecs_table.proofs.Soundness.{columns_paired, sizes_each, sizes_paired, sizes_set, sound_with_item}
use Rattle.ecs_table.proofs.TableLists.{size_found, value_found}
use Rattle.raw_column.specs.Contents.{with_item, with_zero, without_item}
use Rattle.raw_column.specs.Places.{Values}
pub use Rattle.raw_column.proofs.RowLemmas.{map_twice as map_fused}
use Rattle.ecs_table.specs.Archetype.{Archetype, Cells, HaveEqualSizes, HaveOneSize, IsSound, byte_size, carried, cells_of, entity_at, fitting, ids_with_data, index_in, moved_into, no_entity, row_of, shape_of, size_of, value_of, values_at, with_cell, with_item_in, with_last, with_moved, with_row, with_value, without_row, zero_cells, no_values}

-- where an id stands among others
pub index_says : (ids : List Id) (i : Id) (k : ℕ) (d : Id) → index_in ids i ≡ Some k → (k < length ids) × (get_or ids k d ≡ i)
unfolding index_in
index_says ids i k d e = let found = position-Some (λ j. id_eq j i) ids k d e in (found.0, id_eq_same (get_or ids k d) i found.1)

-- the id stands in the list
abbrev pub IsListed : Id → List Id → Type 0
IsListed i ids = list_any (id_eq i) ids ≡ true

pub listed_here : (i : Id) (ids : List Id) → IsListed i (i ∷ ids)
listed_here i ids = ap (λ b. b || list_any (id_eq i) ids) (id_eq_itself i)

pub listed_later : (i j : Id) (ids : List Id) → IsListed i ids → IsListed i (j ∷ ids)
listed_later i j ids h = elim (id_eq i j) as (λ b. (b || list_any (id_eq i) ids) ≡ true) [ true ↦ refl | false ↦ h ]

pub listed_at : (i : Id) (ids : List Id) (k : ℕ) (d : Id) → k < length ids → get_or ids k d ≡ i → IsListed i ids
listed_at i [] k d lt e = absurd (omega arith)
listed_at i (j ∷ ids) zero d lt e = subst (λ x. IsListed x (j ∷ ids)) e (listed_here j ids)
listed_at i (j ∷ ids) (suc k) d lt e = listed_later i j ids (listed_at i ids k d (omega arith) e)

-- an id with data is among the ids
listed_with_data : (ids : List Id) (sizes : List ℕ) (i : Id) → IsListed i (ids_with_data ids sizes) → IsListed i ids
listed_with_data [] sizes i h = h
listed_with_data (j ∷ ids) [] i h = absurd (false≢true h)
listed_with_data (j ∷ ids) (s ∷ sizes) i h =
    let more = λ (g : IsListed i (ids_with_data ids sizes)). listed_later i j ids (listed_with_data ids sizes i g) in
    elim (nat_lt 0 s) as (λ b. list_any (id_eq i) (map (λ p. p.0) (cond b ((j, s) ∷ filter (λ p. nat_lt 0 p.1) (zip ids sizes)) (filter (λ p. nat_lt 0 p.1) (zip ids sizes)))) ≡ true → IsListed i (j ∷ ids)) [
      | true ↦ λ g. elim (id_eq i j) as (λ b. (b || list_any (id_eq i) (ids_with_data ids sizes)) ≡ true → (b || list_any (id_eq i) ids) ≡ true) [ true ↦ λ _. refl | false ↦ λ k. listed_with_data ids sizes i k ] g
      | false ↦ more
    ] h

-- an id of a table with data is one of its ids, and its column is there
pub data_says : (t : Archetype) (i : Id) (k : ℕ) → IsSound t → index_in t.data_ids i ≡ Some k → (k < length t.columns) × IsListed i t.ids
data_says t i k h e =
    let found = index_says t.data_ids i k i e in
    let lt : k < length t.columns = subst (λ n. k < n) (columns_paired t h) found.0 in
    (lt, listed_with_data t.ids h.sizes i (subst (IsListed i) h.with_data (listed_at i t.data_ids k i found.0 found.1)))

-- what is found in a list that gives each id something
pub find_listed : {X : Type 0} (f : Id → X) (ids : List Id) (i : Id) → IsListed i ids → find id_cmp i (map (λ j. (j, f j)) ids) ≡ Some (f i)
find_listed f [] i h = absurd (false≢true h)
find_listed f (j ∷ ids) i h =
    elim (id_eq i j) as (λ b. id_eq i j ≡ b → (b || list_any (id_eq i) ids) ≡ true → cond b (Some (f j)) (find id_cmp i (map (λ j. (j, f j)) ids)) ≡ Some (f i)) [
      | true ↦ λ e _. ap (λ x. Some (f x)) (sym (id_eq_same i j e))
      | false ↦ λ _ g. find_listed f ids i g
    ] refl h

pub find_unlisted : {X : Type 0} (f : Id → X) (ids : List Id) (i : Id) → list_any (id_eq i) ids ≡ false → find id_cmp i (map (λ j. (j, f j)) ids) ≡ None
find_unlisted f [] i h = refl
find_unlisted f (j ∷ ids) i h =
    elim (id_eq i j) as (λ b. (b || list_any (id_eq i) ids) ≡ false → cond b (Some (f j)) (find id_cmp i (map (λ j. (j, f j)) ids)) ≡ None) [
      | true ↦ λ g. absurd (false≢true (sym g))
      | false ↦ λ g. find_unlisted f ids i g
    ] h

-- ---- sizes
size_at : (cs : List Values) (k : ℕ) → (values_at cs k).size ≡ get_or (map (λ v. v.size) cs) k 0
size_at [] k = refl
size_at (c ∷ cs) zero = refl
size_at (c ∷ cs) (suc k) = size_at cs k

pub size_by_place : (t : Archetype) (i : Id) → size_of t i ≡ elim (index_in t.data_ids i) [ None ↦ None | Some k ↦ Some (get_or (map (λ v. v.size) t.columns) k 0) ]
size_by_place t i =
    elim (index_in t.data_ids i) as (λ o. elim o [ None ↦ None | Some k ↦ Some (values_at t.columns k).size ] ≡ elim o [ None ↦ None | Some k ↦ Some (get_or (map (λ v. v.size) t.columns) k 0) ]) [
      | None ↦ refl
      | Some k ↦ ap Some (size_at t.columns k)
    ]

-- a table with the same ids and the same sizes of its columns has the same sizes
pub size_kept : (t u : Archetype) → t.data_ids ≡ u.data_ids → map (λ v. v.size) t.columns ≡ map (λ v. v.size) u.columns → (i : Id) → size_of t i ≡ size_of u i
size_kept t u e f i =
    let by_place : List Id → List ℕ → Option ℕ = λ ids ss. elim (index_in ids i) [ None ↦ None | Some k ↦ Some (get_or ss k 0) ] in
    size_by_place t i ∙ (λ p. by_place (e p) (f p)) ∙ sym (size_by_place u i)

shape_kept : (t u : Archetype) → t.ids ≡ u.ids → t.data_ids ≡ u.data_ids → map (λ v. v.size) t.columns ≡ map (λ v. v.size) u.columns → shape_of t ≡ shape_of u
shape_kept t u e f g = λ p. map (λ i. (i, unwrap_or (size_kept t u f g i p) 0)) (e p)

pub shape_of_appended : (t : Archetype) (e : EntityId) → shape_of (with_row t e) ≡ shape_of t
shape_of_appended t e = shape_kept (with_row t e) t refl refl (sizes_each with_zero (λ v. refl) t.columns)

pub shape_of_removed : (t : Archetype) (row : ℕ) → shape_of (without_row t row) ≡ shape_of t
shape_of_removed t row = shape_kept (without_row t row) t refl refl (sizes_each (without_item row) (λ v. refl) t.columns)

pub shape_of_moved : (t s : Archetype) (row : ℕ) → IsSound t → shape_of (with_moved t s row) ≡ shape_of t
shape_of_moved t s row h = shape_kept (with_moved t s row) t refl refl (sizes_paired (value_of s row) t.data_ids t.columns (columns_paired t h))

-- ---- rows
pub row_past : (t : Archetype) (r : ℕ) → length t.entities ≤ r → row_of t r ≡ None
row_past t r past = ap (option_map (λ e. (e, cells_of t r))) (slice_get_past t.entities r past)

pub index_cases : (ids : List Id) (i : Id) → (index_in ids i ≡ None) ⊎ ((k : ℕ) × (index_in ids i ≡ Some k))
index_cases ids i = elim (index_in ids i) as (λ o. index_in ids i ≡ o → (index_in ids i ≡ None) ⊎ ((k : ℕ) × (index_in ids i ≡ Some k))) [
  | None ↦ λ e. inl e
  | Some k ↦ λ e. inr (k, e)
] refl

pub value_absent : (t : Archetype) (r : ℕ) (i : Id) → index_in t.data_ids i ≡ None → value_of t r i ≡ None
value_absent t r i e = ap (λ o. elim o [ None ↦ None | Some j ↦ slice_get (values_at t.columns j).items r ]) e

pub size_absent : (t : Archetype) (i : Id) → index_in t.data_ids i ≡ None → size_of t i ≡ None
size_absent t i e = ap (λ o. elim o [ None ↦ None | Some j ↦ Some (values_at t.columns j).size ]) e

same_branches : {X : Type 0} (b : Bool) (x : X) → cond b x x ≡ x
same_branches true x = refl
same_branches false x = refl

-- functions that agree on the ids of a list
pub map_listed : {X : Type 0} (f g : Id → X) (ids : List Id) → ((i : Id) → IsListed i ids → f i ≡ g i) → map f ids ≡ map g ids
map_listed f g [] same = refl
map_listed f g (j ∷ ids) same = λ p. same j (listed_here j ids) p ∷ map_listed f g ids (λ i h. same i (listed_later i j ids h)) p

-- zeros of each size, where an id has data
abbrev zeros_of : Option ℕ → Option (List ℕ)
zeros_of o = option_map (λ m. replicate m 0) o

zeros_read : (o : Option ℕ) → unwrap_or (zeros_of o) [] ≡ replicate (unwrap_or o 0) 0
zeros_read None = refl
zeros_read (Some m) = refl

pub value_appended : (t : Archetype) (e : EntityId) (r : ℕ) (i : Id) → IsSound t → value_of (with_row t e) r i ≡ cond (eqb r (length t.entities)) (option_map (λ m. replicate m 0) (size_of t i)) (value_of t r i)
value_appended t e r i h =
    let n = length t.entities in
    elim (index_cases t.data_ids i) [
      | inl none ↦ value_absent (with_row t e) r i none ∙ sym (same_branches (eqb r n) None) ∙ sym (λ p. cond (eqb r n) (zeros_of (size_absent t i none p)) (value_absent t r i none p))
      | inr w ↦
          let k = w.0 in let lt = (data_says t i k h w.1).0 in let v = values_at t.columns k in
          value_found (with_row t e) r k i w.1 ∙ ap (λ (x : Values). slice_get x.items r) (get_or-map with_zero t.columns k (no_values 0) (no_values 0) lt)
          ∙ get_pushed v.items (replicate v.size 0) n r (h.shaped k (no_values 0) lt).rows ∙ sym (λ p. cond (eqb r n) (zeros_of (size_found t k i w.1 p)) (value_found t r k i w.1 p))
    ]

pub row_of_appended : (t : Archetype) (e : EntityId) (r : ℕ) → IsSound t → row_of (with_row t e) r ≡ cond (eqb r (length t.entities)) (Some (e, zero_cells (shape_of t))) (row_of t r)
row_of_appended t e r h =
    let n = length t.entities in
    let read : Bool → Id → Option (List ℕ) = λ b i. cond b (zeros_of (size_of t i)) (value_of t r i) in
    let steps : row_of (with_row t e) r ≡ option_map (λ x. (x, map (λ i. (i, unwrap_or (read (eqb r n) i) [])) t.ids)) (cond (eqb r n) (Some e) (slice_get t.entities r))
    = λ p. option_map (λ x. (x, map (λ i. (i, unwrap_or (value_appended t e r i h p) [])) t.ids)) (get_pushed t.entities e n r refl p) in
    steps ∙ elim (eqb r n) as (λ b. option_map (λ x. (x, map (λ i. (i, unwrap_or (read b i) [])) t.ids)) (cond b (Some e) (slice_get t.entities r)) ≡ cond b (Some (e, zero_cells (shape_of t))) (row_of t r)) [
      | true ↦ ap (λ l. Some (e, l)) ((λ p. map (λ i. (i, zeros_read (size_of t i) p)) t.ids) ∙ sym (map_fused (λ c. (c.0, replicate c.1 0)) (λ i. (i, byte_size t i)) t.ids))
      | false ↦ refl
    ]

pub value_removed : (t : Archetype) (row r : ℕ) (i : Id) → row < length t.entities → IsSound t
    → value_of (without_row t row) r i ≡ cond (eqb r (length t.entities - 1)) None (cond (eqb r row) (value_of t (length t.entities - 1) i) (value_of t r i))
value_removed t row r i lt h =
    let n = length t.entities in
    elim (index_cases t.data_ids i) [
      | inl none ↦ value_absent (without_row t row) r i none ∙ sym (same_branches (eqb r (n - 1)) None) ∙ ap (cond (eqb r (n - 1)) None) (sym (same_branches (eqb r row) None))
          ∙ sym (λ p. cond (eqb r (n - 1)) None (cond (eqb r row) (value_absent t (n - 1) i none p) (value_absent t r i none p)))
      | inr w ↦
          let k = w.0 in let within = (data_says t i k h w.1).0 in let v = values_at t.columns k in
          value_found (without_row t row) r k i w.1 ∙ ap (λ (x : Values). slice_get x.items r) (get_or-map (without_item row) t.columns k (no_values 0) (no_values 0) within)
          ∙ get_swap_removed v.items row [] n r (h.shaped k (no_values 0) within).rows lt
          ∙ sym (λ p. cond (eqb r (n - 1)) None (cond (eqb r row) (value_found t (n - 1) k i w.1 p) (value_found t r k i w.1 p)))
    ]

pub row_of_removed : (t : Archetype) (row r : ℕ) → row < length t.entities → IsSound t
    → row_of (without_row t row) r ≡ cond (eqb r (length t.entities - 1)) None (cond (eqb r row) (row_of t (length t.entities - 1)) (row_of t r))
row_of_removed t row r lt h =
    let n = length t.entities in
    let read : Bool → Bool → Id → Option (List ℕ) = λ b c i. cond b None (cond c (value_of t (n - 1) i) (value_of t r i)) in
    let steps : row_of (without_row t row) r ≡ option_map (λ x. (x, map (λ i. (i, unwrap_or (read (eqb r (n - 1)) (eqb r row) i) [])) t.ids)) (cond (eqb r (n - 1)) None (cond (eqb r row) (slice_get t.entities (n - 1)) (slice_get t.entities r)))
    = λ p. option_map (λ x. (x, map (λ i. (i, unwrap_or (value_removed t row r i lt h p) [])) t.ids)) (get_swap_removed t.entities row no_entity n r refl lt p) in
    steps ∙ elim (eqb r (n - 1)) as (λ b. option_map (λ x. (x, map (λ i. (i, unwrap_or (read b (eqb r row) i) [])) t.ids)) (cond b None (cond (eqb r row) (slice_get t.entities (n - 1)) (slice_get t.entities r))) ≡ cond b None (cond (eqb r row) (row_of t (n - 1)) (row_of t r))) [
      | true ↦ refl
      | false ↦ elim (eqb r row) as (λ c. option_map (λ x. (x, map (λ i. (i, unwrap_or (read false c i) [])) t.ids)) (cond c (slice_get t.entities (n - 1)) (slice_get t.entities r)) ≡ cond c (row_of t (n - 1)) (row_of t r)) [
        | true ↦ refl
        | false ↦ refl
      ]
    ]

-- ---- a row that moved
pub value_moved : (t s : Archetype) (row r : ℕ) (i : Id) → IsSound t → value_of (with_moved t s row) r i ≡ cond (eqb r (length t.entities)) (option_map (λ m. fitting m (value_of s row i)) (size_of t i)) (value_of t r i)
value_moved t s row r i h =
    let n = length t.entities in
    let u = with_moved t s row in
    elim (index_cases t.data_ids i) [
      | inl none ↦ value_absent u r i none ∙ sym (same_branches (eqb r n) None) ∙ sym (λ p. cond (eqb r n) (option_map (λ m. fitting m (value_of s row i)) (size_absent t i none p)) (value_absent t r i none p))
      | inr w ↦
          let k = w.0 in let lt = (data_says t i k h w.1).0 in let v = values_at t.columns k in let found = index_says t.data_ids i k i w.1 in let lt2 = found.0 in
          let f : Id × Values → Values = λ p. with_last (value_of s row p.0) p.1 in
          let pairs = zip t.data_ids t.columns in
          let inside : k < length pairs = omega (arith, length-zip t.data_ids t.columns) in
          let here : values_at (map f pairs) k ≡ with_last (value_of s row i) v = get_or-map f pairs k (i, no_values 0) (no_values 0) inside ∙ ap f (get_or-zip t.data_ids t.columns k (i, no_values 0) lt2 lt) ∙ ap (λ j. f (j, v)) found.1 in
          value_found u r k i w.1 ∙ ap (λ (x : Values). slice_get x.items r) here ∙ get_pushed v.items (fitting v.size (value_of s row i)) n r (h.shaped k (no_values 0) lt).rows
          ∙ sym (λ p. cond (eqb r n) (option_map (λ m. fitting m (value_of s row i)) (size_found t k i w.1 p)) (value_found t r k i w.1 p))
    ]

-- a value has all the bytes of its id
pub cell_size : (t : Archetype) (r : ℕ) (i : Id) → r < length t.entities → IsSound t → length (unwrap_or (value_of t r i) []) ≡ byte_size t i
cell_size t r i lt h = elim (index_cases t.data_ids i) [
  | inl none ↦ ap (λ o. length (unwrap_or o [])) (value_absent t r i none) ∙ sym (ap (λ o. unwrap_or o 0) (size_absent t i none))
  | inr w ↦
      let k = w.0 in let within = (data_says t i k h w.1).0 in let v = values_at t.columns k in let shaped = h.shaped k (no_values 0) within in
      let inside : r < length v.items = subst (λ n. r < n) (sym shaped.rows) lt in
      ap (λ o. length (unwrap_or o [])) (value_found t r k i w.1 ∙ slice_get-get_or v.items r [] inside) ∙ shaped.bytes r [] lt ∙ sym (ap (λ o. unwrap_or o 0) (size_found t k i w.1))
]

carried_value : (o : Option (List ℕ)) (z : Option ℕ) → length (unwrap_or o []) ≡ unwrap_or z 0 → unwrap_or (option_map (λ m. fitting m o) z) [] ≡ unwrap_or o []
carried_value None None e = refl
carried_value (Some b) None e = sym (nil_from_length b e)
carried_value None (Some m) e = ap (λ k. replicate k 0) (sym e)
carried_value (Some b) (Some m) e = fitting_same m b e

carried_zeros : (z : Option ℕ) → unwrap_or (option_map (λ m. fitting m None) z) [] ≡ replicate (unwrap_or z 0) 0
carried_zeros None = refl
carried_zeros (Some m) = refl

-- ids of both tables have one size
one_size : (s t : Archetype) (i : Id) → HaveOneSize (shape_of s) (shape_of t) → IsListed i s.ids → IsListed i t.ids → byte_size s i ≡ byte_size t i
one_size s t i same a b = same i (byte_size s i) (byte_size t i) (find_listed (byte_size s) s.ids i a) (find_listed (byte_size t) t.ids i b)

pub equal_sizes : (s t : Archetype) → IsSound s → IsSound t → HaveOneSize (shape_of s) (shape_of t) → HaveEqualSizes s t
equal_sizes s t h g same i m n a b = elim (index_cases s.data_ids i) [
  | inl none ↦ absurd (none-some m (sym (size_absent s i none) ∙ a))
  | inr v ↦ elim (index_cases t.data_ids i) [
    | inl none ↦ absurd (none-some n (sym (size_absent t i none) ∙ b))
    | inr w ↦ sym (ap (λ o. unwrap_or o 0) a) ∙ one_size s t i same (data_says s i v.0 h v.1).1 (data_says t i w.0 g w.1).1 ∙ ap (λ o. unwrap_or o 0) b
  ]
]

cell_moved : (s t : Archetype) (row : ℕ) (i : Id) → row < length s.entities → IsSound s → HaveOneSize (shape_of s) (shape_of t) → IsListed i t.ids
    → unwrap_or (option_map (λ m. fitting m (value_of s row i)) (size_of t i)) [] ≡ unwrap_or (find id_cmp i (cells_of s row)) (replicate (byte_size t i) 0)
cell_moved s t row i lt h same listed =
    elim (list_any (id_eq i) s.ids) as (λ b. list_any (id_eq i) s.ids ≡ b → unwrap_or (option_map (λ m. fitting m (value_of s row i)) (size_of t i)) [] ≡ unwrap_or (find id_cmp i (cells_of s row)) (replicate (byte_size t i) 0)) [
      | true ↦ λ e. carried_value (value_of s row i) (size_of t i) (cell_size s row i lt h ∙ one_size s t i same e listed)
          ∙ sym (ap (λ o. unwrap_or o (replicate (byte_size t i) 0)) (find_listed (λ j. unwrap_or (value_of s row j) []) s.ids i e))
      | false ↦ λ e.
          let none : value_of s row i ≡ None = elim (index_cases s.data_ids i) [
            | inl none ↦ value_absent s row i none
            | inr w ↦ absurd (false≢true (sym e ∙ (data_says s i w.0 h w.1).1))
          ] in
          ap (λ o. unwrap_or (option_map (λ m. fitting m o) (size_of t i)) []) none ∙ carried_zeros (size_of t i)
          ∙ sym (ap (λ o. unwrap_or o (replicate (byte_size t i) 0)) (find_unlisted (λ j. unwrap_or (value_of s row j) []) s.ids i e))
    ] refl

pub row_of_moved : (t s : Archetype) (row r : ℕ) → row < length s.entities → IsSound s → IsSound t → HaveOneSize (shape_of s) (shape_of t)
    → row_of (with_moved t s row) r ≡ cond (eqb r (length t.entities)) (option_map (λ v. (v.0, carried (shape_of t) v.1)) (row_of s row)) (row_of t r)
row_of_moved t s row r lt h g same =
    let n = length t.entities in let e = entity_at s row in
    let read : Bool → Id → Option (List ℕ) = λ b i. cond b (option_map (λ m. fitting m (value_of s row i)) (size_of t i)) (value_of t r i) in
    let steps : row_of (with_moved t s row) r ≡ option_map (λ x. (x, map (λ i. (i, unwrap_or (read (eqb r n) i) [])) t.ids)) (cond (eqb r n) (Some e) (slice_get t.entities r))
    = λ p. option_map (λ x. (x, map (λ i. (i, unwrap_or (value_moved t s row r i g p) [])) t.ids)) (get_pushed t.entities e n r refl p) in
    let there : row_of s row ≡ Some (e, cells_of s row) = ap (option_map (λ x. (x, cells_of s row))) (slice_get-get_or s.entities row no_entity lt) in
    steps ∙ elim (eqb r n) as (λ b. option_map (λ x. (x, map (λ i. (i, unwrap_or (read b i) [])) t.ids)) (cond b (Some e) (slice_get t.entities r)) ≡ cond b (option_map (λ v. (v.0, carried (shape_of t) v.1)) (row_of s row)) (row_of t r)) [
      | true ↦ ap (λ l. Some (e, l))
          (map_listed (λ i. (i, unwrap_or (read true i) [])) (λ i. (i, unwrap_or (find id_cmp i (cells_of s row)) (replicate (byte_size t i) 0))) t.ids (λ i listed. ap (λ b. (i, b)) (cell_moved s t row i lt h same listed))
          ∙ sym (map_fused (λ c. (c.0, unwrap_or (find id_cmp c.0 (cells_of s row)) (replicate c.1 0))) (λ i. (i, byte_size t i)) t.ids))
          ∙ sym (ap (option_map (λ v. (v.0, carried (shape_of t) v.1))) there)
      | false ↦ refl
    ]

-- ---- a value that moved
pub value_size : (t : Archetype) (r : ℕ) (i : Id) (bytes : List ℕ) → r < length t.entities → IsSound t → value_of t r i ≡ Some bytes → size_of t i ≡ Some (length bytes)
value_size t r i bytes lt h e = elim (index_cases t.data_ids i) [
  | inl none ↦ absurd (none-some bytes (sym (value_absent t r i none) ∙ e))
  | inr w ↦
      let k = w.0 in let v = values_at t.columns k in
      let sized : length bytes ≡ byte_size t i = sym (ap (λ o. length (unwrap_or o [])) e) ∙ cell_size t r i lt h in
      size_found t k i w.1 ∙ ap Some (sym (ap (λ o. unwrap_or o 0) (size_found t k i w.1))) ∙ ap Some (sym sized)
]

moved_at_end : (t s : Archetype) (row : ℕ) (i : Id) → IsSound t → value_of (with_moved t s row) (length t.entities) i ≡ option_map (λ m. fitting m (value_of s row i)) (size_of t i)
moved_at_end t s row i h =
    let n = length t.entities in
    let here : eqb n n ≡ true = elim (eqb_tells n n) [ inl p ↦ p.0 | inr q ↦ absurd (q.1 refl) ] in
    value_moved t s row n i h ∙ ap (λ b. cond b (option_map (λ m. fitting m (value_of s row i)) (size_of t i)) (value_of t n i)) here

-- an id with data in both tables keeps its value
pub value_kept : (t s : Archetype) (row : ℕ) (i : Id) (n : ℕ) (bytes : List ℕ) → row < length s.entities → IsSound s → IsSound t → HaveEqualSizes s t → size_of t i ≡ Some n → value_of s row i ≡ Some bytes
    → value_of (with_moved t s row) (length t.entities) i ≡ Some bytes
value_kept t s row i n bytes lt h g same sized e =
    moved_at_end t s row i g ∙ (λ p. option_map (λ m. fitting m (e p)) (sized p)) ∙ ap Some (fitting_same n bytes (same i (length bytes) n (value_size s row i bytes lt h e) sized))

-- the values of all others are zeros
pub value_zeros : (t s : Archetype) (row : ℕ) (i : Id) → IsSound t → value_of s row i ≡ None → value_of (with_moved t s row) (length t.entities) i ≡ option_map (λ m. replicate m 0) (size_of t i)
value_zeros t s row i g e = moved_at_end t s row i g ∙ ap (λ o. option_map (λ m. fitting m o) (size_of t i)) e

-- ---- a value that is set
set_at : (t : Archetype) (row k : ℕ) (i : Id) (bytes : List ℕ) → index_in t.data_ids i ≡ Some k → with_value t row i bytes ≡ record t { columns = slice_set t.columns k (with_item (values_at t.columns k) row bytes) }
set_at t row k i bytes e = ap (λ o. record t { columns = with_item_in o t.columns row bytes }) e

unequal : {a b : Id} → a ≢ b → id_eq a b ≡ false
unequal {a} {b} ne = elim (id_eq a b) as (λ x. id_eq a b ≡ x → x ≡ false) [ true ↦ λ e. absurd (ne (id_eq_same a b e)) | false ↦ λ _. refl ] refl

pub value_set : (t : Archetype) (row r : ℕ) (i j : Id) (bytes : List ℕ) → row < length t.entities → IsSound t → size_of t i ≡ Some (length bytes)
    → value_of (with_value t row i bytes) r j ≡ cond (eqb r row) (cond (id_eq j i) (Some bytes) (value_of t r j)) (value_of t r j)
value_set t row r i j bytes lt h sized = elim (index_cases t.data_ids i) [
  | inl none ↦ absurd (none-some (length bytes) (sym (size_absent t i none) ∙ sized))
  | inr v ↦
      let k = v.0 in let within = (data_says t i k h v.1).0 in let old = values_at t.columns k in
      let new = with_item old row bytes in
      let u = record t { columns = slice_set t.columns k new } in
      let inside : row < length old.items = subst (λ n. row < n) (sym (h.shaped k (no_values 0) within).rows) lt in
      ap (λ (x : Archetype). value_of x r j) (set_at t row k i bytes v.1) ∙ elim (index_cases t.data_ids j) [
        | inl none ↦
            let other : id_eq j i ≡ false = unequal (λ e. none-some k (sym none ∙ ap (index_in t.data_ids) e ∙ v.1)) in
            value_absent u r j none ∙ sym (value_absent t r j none) ∙ sym (same_branches (eqb r row) (value_of t r j)) ∙ sym (ap (λ b. cond (eqb r row) (cond b (Some bytes) (value_of t r j)) (value_of t r j)) other)
        | inr w ↦ let m = w.0 in elim (cases_eq m k) [
          | inl e ↦
              let same : j ≡ i = sym (index_says t.data_ids j m i w.1).1 ∙ ap (λ x. get_or t.data_ids x i) e ∙ (index_says t.data_ids i k i v.1).1 in
              let yes : id_eq j i ≡ true = ap (λ x. id_eq x i) same ∙ id_eq_itself i in
              let read : value_of t r j ≡ slice_get old.items r = value_found t r m j w.1 ∙ ap (λ x. slice_get (values_at t.columns x).items r) e in
              value_found u r m j w.1 ∙ ap (λ (x : Values). slice_get x.items r) (get_or-set_at t.columns k m new (no_values 0) e within) ∙ get_set old.items row bytes r inside
              ∙ sym (λ p. cond (eqb r row) (cond (yes p) (Some bytes) (value_of t r j)) (read p))
          | inr d ↦
              let other : id_eq j i ≡ false = unequal (λ e. d (same_Some m k (sym w.1 ∙ ap (index_in t.data_ids) e ∙ v.1))) in
              value_found u r m j w.1 ∙ ap (λ (x : Values). slice_get x.items r) (get_or-set_other t.columns k m new (no_values 0) d) ∙ sym (value_found t r m j w.1)
              ∙ sym (same_branches (eqb r row) (value_of t r j)) ∙ sym (ap (λ b. cond (eqb r row) (cond b (Some bytes) (value_of t r j)) (value_of t r j)) other)
        ]
      ]
]

read_choice : (b : Bool) (bytes : List ℕ) (o : Option (List ℕ)) → unwrap_or (cond b (Some bytes) o) [] ≡ cond b bytes (unwrap_or o [])
read_choice true bytes o = refl
read_choice false bytes o = refl

cells_changed : (o : Option EntityId) (xs ys : Cells) (f : Cells → Cells) → xs ≡ f ys → option_map {U = EntityId × Cells} (λ x. (x, xs)) o ≡ option_map {U = EntityId × Cells} (λ v. (v.0, f v.1)) (option_map {U = EntityId × Cells} (λ x. (x, ys)) o)
cells_changed None xs ys f e = refl
cells_changed (Some x) xs ys f e = ap (λ l. Some (x, l)) e

pub row_of_set : (t : Archetype) (row r : ℕ) (i : Id) (bytes : List ℕ) → row < length t.entities → IsSound t → size_of t i ≡ Some (length bytes)
    → row_of (with_value t row i bytes) r ≡ cond (eqb r row) (option_map (λ v. (v.0, with_cell i bytes v.1)) (row_of t r)) (row_of t r)
row_of_set t row r i bytes lt h sized =
    let read : Bool → Id → Option (List ℕ) = λ b j. cond b (cond (id_eq j i) (Some bytes) (value_of t r j)) (value_of t r j) in
    let steps : row_of (with_value t row i bytes) r ≡ option_map (λ x. (x, map (λ j. (j, unwrap_or (read (eqb r row) j) [])) t.ids)) (slice_get t.entities r)
    = λ p. option_map (λ x. (x, map (λ j. (j, unwrap_or (value_set t row r i j bytes lt h sized p) [])) t.ids)) (slice_get t.entities r) in
    let cells : map (λ j. (j, unwrap_or (read true j) [])) t.ids ≡ with_cell i bytes (cells_of t r)
    = (λ p. map (λ j. (j, read_choice (id_eq j i) bytes (value_of t r j) p)) t.ids) ∙ sym (map_fused (λ c. (c.0, cond (id_eq c.0 i) bytes c.1)) (λ j. (j, unwrap_or (value_of t r j) [])) t.ids) in
    steps ∙ elim (eqb r row) as (λ b. option_map (λ x. (x, map (λ j. (j, unwrap_or (read b j) [])) t.ids)) (slice_get t.entities r) ≡ cond b (option_map (λ v. (v.0, with_cell i bytes v.1)) (row_of t r)) (row_of t r)) [
      | true ↦ cells_changed (slice_get t.entities r) (map (λ j. (j, unwrap_or (read true j) [])) t.ids) (cells_of t r) (with_cell i bytes) cells
      | false ↦ refl
    ]

pub shape_of_set : (t : Archetype) (row : ℕ) (i : Id) (bytes : List ℕ) → IsSound t → shape_of (with_value t row i bytes) ≡ shape_of t
shape_of_set t row i bytes h = elim (index_cases t.data_ids i) [
  | inl none ↦ ap (λ o. shape_of (record t { columns = with_item_in o t.columns row bytes })) none
  | inr w ↦
      let k = w.0 in let within = (data_says t i k h w.1).0 in
      ap shape_of (set_at t row k i bytes w.1)
      ∙ shape_kept (record t { columns = slice_set t.columns k (with_item (values_at t.columns k) row bytes) }) t refl refl (sizes_set t.columns k (with_item (values_at t.columns k) row bytes) within refl)
]

pub sound_with_value : (t : Archetype) (row : ℕ) (i : Id) (bytes : List ℕ) → row < length t.entities → size_of t i ≡ Some (length bytes) → IsSound t → IsSound (with_value t row i bytes)
sound_with_value t row i bytes lt sized h = elim (index_cases t.data_ids i) [
  | inl none ↦ absurd (none-some (length bytes) (sym (size_absent t i none) ∙ sized))
  | inr w ↦
      let k = w.0 in let within = (data_says t i k h w.1).0 in
      let long : length bytes ≡ (values_at t.columns k).size = same_Some (length bytes) (values_at t.columns k).size (sym sized ∙ size_found t k i w.1) in
      subst IsSound (sym (set_at t row k i bytes w.1)) (sound_with_item t row k bytes within lt long h)
]

-- ---- look-ups by id in what a table gives
-- the cell of an id in a row
pub found_in_row : (t : Archetype) (r : ℕ) (i : Id) → IsListed i t.ids → find id_cmp i (cells_of t r) ≡ Some (unwrap_or (value_of t r i) [])
found_in_row t r i listed = find_listed (λ j. unwrap_or (value_of t r j) []) t.ids i listed

-- the size of an id in a shape
pub found_in_shape : (t : Archetype) (i : Id) → IsListed i t.ids → find id_cmp i (shape_of t) ≡ Some (byte_size t i)
found_in_shape t i listed = find_listed (byte_size t) t.ids i listed

pub not_in_shape : (t : Archetype) (i : Id) → list_any (id_eq i) t.ids ≡ false → find id_cmp i (shape_of t) ≡ None
not_in_shape t i none = find_unlisted (byte_size t) t.ids i none

pub size_from_shape : (t : Archetype) (i : Id) (n : ℕ) → 0 < n → find id_cmp i (shape_of t) ≡ Some n → size_of t i ≡ Some n
size_from_shape t i n some e =
    elim (list_any (id_eq i) t.ids) as (λ b. list_any (id_eq i) t.ids ≡ b → size_of t i ≡ Some n) [
      | true ↦ λ listed. size_read (size_of t i) n some (same_Some (byte_size t i) n (sym (found_in_shape t i listed) ∙ e))
      | false ↦ λ none. absurd (none-some n (sym (not_in_shape t i none) ∙ e))
    ] refl
  where
    size_read : (o : Option ℕ) (n : ℕ) → 0 < n → unwrap_or o 0 ≡ n → o ≡ Some n
    size_read None n some e = absurd (omega arith)
    size_read (Some m) n some e = ap Some e

-- ---- what is left as it is, and who filled a gap

pub entity_of_row : (t : Archetype) (r : ℕ) → option_map (λ v. v.0) (row_of t r) ≡ slice_get t.entities r
entity_of_row t r = elim (slice_get t.entities r) as (λ o. option_map {U = EntityId} (λ v. v.0) (option_map {U = EntityId × Cells} (λ e. (e, cells_of t r)) o) ≡ o) [ None ↦ refl | Some e ↦ refl ]

-- the entity that fills a gap is that of the last row
pub moved_into_row : (t : Archetype) (row : ℕ) → row < length t.entities → moved_into t row ≡ cond (eqb (length t.entities - 1) row) None (option_map (λ v. v.0) (row_of t (length t.entities - 1)))
moved_into_row t row lt =
    let n = length t.entities in let final = slice_get t.entities (n - 1) in
    elim (eqb_tells (n - 1) row) [
      | inl p ↦
          let same = p.1 in
          let no : nat_lt (row + 1) n ≡ false = grind (arith, nat_tests) in
          ap (λ b. cond b final None) no ∙ sym (ap (λ b. cond b None (option_map (λ v. v.0) (row_of t (n - 1)))) p.0)
      | inr q ↦
          let other = q.1 in
          let yes : nat_lt (row + 1) n ≡ true = grind (arith, nat_tests) in
          ap (λ b. cond b final None) yes ∙ sym (entity_of_row t (n - 1)) ∙ sym (ap (λ b. cond b None (option_map (λ v. v.0) (row_of t (n - 1)))) q.0)
    ]

-- values have at most 64 bytes
pub byte_size_small : (t : Archetype) (i : Id) → IsSound t → byte_size t i ≤ 64
byte_size_small t i h = elim (index_cases t.data_ids i) [
  | inl none ↦ subst (λ n. n ≤ 64) (sym (ap (λ o. unwrap_or o 0) (size_absent t i none))) (omega arith)
  | inr w ↦
      let k = w.0 in let lt = (data_says t i k h w.1).0 in let kept = filter (λ s. nat_lt 0 s) h.sizes in
      let read : byte_size t i ≡ get_or kept k 0 = ap (λ o. unwrap_or o 0) (size_found t k i w.1) ∙ size_at t.columns k ∙ ap (λ l. get_or l k 0) h.sized in
      let within : k < length kept = subst (λ n. k < n) (sym (length-map t.columns (λ v. v.size)) ∙ ap length h.sized) lt in
      subst (λ n. n ≤ 64) (sym read) (All-get_or (λ n. n ≤ 64) kept k 0 within (All-filter (λ s. nat_lt 0 s) (λ n. n ≤ 64) h.sizes (All-from_get_or (λ n. n ≤ 64) h.sizes 0 h.small)))
]

-- ---- sizes alone, of whatever table
pub size_of_appended : (t : Archetype) (e : EntityId) (i : Id) → size_of (with_row t e) i ≡ size_of t i
size_of_appended t e = size_kept (with_row t e) t refl (sizes_each with_zero (λ v. refl) t.columns)

sizes_with_item : (cs : List Values) (k row : ℕ) (bytes : List ℕ) (v : Values) → (k < length cs → v.size ≡ (values_at cs k).size) → map (λ w. w.size) (slice_set cs k v) ≡ map (λ w. w.size) cs
sizes_with_item cs k row bytes v same = elim (cases_lt k (length cs)) [
  | inl a ↦ sizes_set cs k v a (same a)
  | inr b ↦ ap (map (λ w. w.size)) (set_past cs k v b)
]

pub size_of_set : (t : Archetype) (row : ℕ) (i : Id) (bytes : List ℕ) (j : Id) → size_of (with_value t row i bytes) j ≡ size_of t j
size_of_set t row i bytes = size_kept (with_value t row i bytes) t refl (elim (index_in t.data_ids i) as (λ o. map (λ w. w.size) (with_item_in o t.columns row bytes) ≡ map (λ w. w.size) t.columns) [
  | None ↦ refl
  | Some k ↦ sizes_with_item t.columns k row bytes (with_item (values_at t.columns k) row bytes) (λ _. refl)
])

-- tables whose sizes are those of others
pub equal_sizes_from : (s t u v : Archetype) → ((i : Id) → size_of s i ≡ size_of u i) → ((i : Id) → size_of t i ≡ size_of v i) → HaveEqualSizes u v → HaveEqualSizes s t
equal_sizes_from s t u v e f h i m n a b = h i m n (sym (e i) ∙ a) (sym (f i) ∙ b)
