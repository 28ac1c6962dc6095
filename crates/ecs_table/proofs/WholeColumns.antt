-- All rows of one id are written at once.
use Rattle.std.proofs.Common.{◌≡◌, ◌≢◌, ℕ, suc, ◌*◌, ◌≤◌, ◌<◌, Bool, List, [], length, length-drop, length-take-le, map, take, drop, cond, refl, sym, ap, subst, ◌∙◌, true, false, arith, get_or, slice_get, slice_set, get_or-set_other, inl, inr, Option, Some, None, IfSome, option_map, unwrap_or}
use Rattle.std.proofs.lemmas.Grind.{get_or-set_at}
use Rattle.std.proofs.lemmas.Option.{slice_get-get_or, none-some, same_Some}
use Rattle.std.proofs.lemmas.Bool.{cases_lt, cases_eq}
use native.Mathlib.Nat.{suc-mul, mul-le-mul_right}
use Rattle.ecs_id.specs.Id.{Id, id_eq, id_eq_same, id_eq_itself}
use Rattle.ecs_id.specs.declared.EntityId.{EntityId}
use Rattle.ecs_table.specs.EntityList.{Entities}
use Rattle.raw_column.specs.Contents.{Contents, column_at, with_bytes, with_column as with_column_at}
use Rattle.raw_column.specs.Places.{Values}
use Rattle.raw_column.proofs.PlaceLemmas.{length_rows, rows_get}
use Rattle.ecs_table.proofs.Rows.{data_says, index_cases, index_says, map_fused, row_past, size_absent, size_kept, value_absent}
use Rattle.ecs_table.proofs.Soundness.{shaped_changed, sizes_set}
use Rattle.ecs_table.proofs.TableLists.{size_found, value_found}
use Rattle.ecs_table.specs.Archetype.{Archetype, Cells, IsShaped, IsSound, IsStored, cells_of, index_in, no_values, row_of, seen, shape_of, size_of, value_of, values_at, with_bytes_in, with_cell, with_column}

-- the bytes of a value for each row
shaped_bytes : (n : ℕ) (bytes : List ℕ) (v : Values) → length bytes ≡ n * v.size → IsShaped n (with_bytes v n bytes)
shaped_bytes n bytes v long = record {
  rows = length_rows v.size n bytes;
  bytes = λ j d lt.
      let up : suc j * v.size ≤ n * v.size = mul-le-mul_right v.size (omega arith) in
      ap length (rows_get v.size n bytes j d lt) ∙ length-take-le v.size (drop (j * v.size) bytes) (omega (arith, length-drop (j * v.size) bytes, suc-mul j v.size));
}

pub sound_with_bytes : (t : Archetype) (k : ℕ) (bytes : List ℕ) → k < length t.columns → length bytes ≡ length t.entities * (values_at t.columns k).size → IsSound t
    → IsSound (record t { columns = slice_set t.columns k (with_bytes (values_at t.columns k) (length t.entities) bytes) })
sound_with_bytes t k bytes lt long h =
    let v = with_bytes (values_at t.columns k) (length t.entities) bytes in
    record {
      sizes = h.sizes;
      beside = h.beside;
      small = h.small;
      with_data = h.with_data;
      sized = sizes_set t.columns k v lt refl ∙ h.sized;
      shaped = shaped_changed (length t.entities) k t.columns v lt (shaped_bytes (length t.entities) bytes (values_at t.columns k) long) h.shaped;
    }

pub stored_bytes : (ids ds : List Id) (b new : Contents) (es : Entities) (more k : ℕ) (bytes : List ℕ) → IsStored ids ds b es more → k < length b.columns
    → length bytes ≡ length es.items * (column_at b k).size → new ≡ with_column_at b k bytes → IsStored ids ds new es more
stored_bytes ids ds b new es more k bytes h lt long e =
    let t = seen ids ds b es.items more in
    let rows : with_column_at b k bytes ≡ record b { columns = slice_set b.columns k (with_bytes (values_at b.columns k) (length es.items) bytes) } =
    ap (λ n. record b { columns = slice_set b.columns k (with_bytes (values_at b.columns k) n bytes) }) h.rows in
    record {
      sound = subst (λ (v : Contents). IsSound (seen ids ds v es.items more)) (sym (e ∙ rows)) (sound_with_bytes t k bytes lt long h.sound);
      rows = ap (λ (v : Contents). v.len) e ∙ h.rows;
      places = let room : new.room ≡ b.room = ap (λ (v : Contents). v.room) e in omega (arith, h.places);
      room = h.room;
    }

pub seen_bytes : (ids ds : List Id) (b : Contents) (es : Entities) (more k : ℕ) (i : Id) (bytes : List ℕ) → IsStored ids ds b es more → index_in ds i ≡ Some k
    → seen ids ds (with_column_at b k bytes) es.items more ≡ with_column (seen ids ds b es.items more) i bytes
seen_bytes ids ds b es more k i bytes h found =
    let t = seen ids ds b es.items more in
    ap (λ n. record t { columns = slice_set b.columns k (with_bytes (values_at b.columns k) n bytes) }) h.rows
    ∙ ap (λ o. record t { columns = with_bytes_in o t.columns (length t.entities) bytes }) (sym found)

-- what is seen of the other table
module _ (t : Archetype) (i : Id) (bytes : List ℕ) where
  column_set : (k : ℕ) → index_in t.data_ids i ≡ Some k → with_column t i bytes ≡ record t { columns = slice_set t.columns k (with_bytes (values_at t.columns k) (length t.entities) bytes) }
  column_set k e = ap (λ o. record t { columns = with_bytes_in o t.columns (length t.entities) bytes }) e

  column_left : index_in t.data_ids i ≡ None → with_column t i bytes ≡ t
  column_left e = ap (λ o. record t { columns = with_bytes_in o t.columns (length t.entities) bytes }) e

  pub shape_of_column : IsSound t → shape_of (with_column t i bytes) ≡ shape_of t
  shape_of_column h = elim (index_cases t.data_ids i) [
    | inl none ↦ ap shape_of (column_left none)
    | inr w ↦
        let k = w.0 in let within = (data_says t i k h w.1).0 in
        let u = record t { columns = slice_set t.columns k (with_bytes (values_at t.columns k) (length t.entities) bytes) } in
        ap shape_of (column_set k w.1)
        ∙ (λ p. map (λ j. (j, unwrap_or (size_kept u t refl (sizes_set t.columns k (with_bytes (values_at t.columns k) (length t.entities) bytes) within refl) j p) 0)) t.ids)
  ]

  pub sound_with_column : IfSome (size_of t i) (λ n. length bytes ≡ length t.entities * n) → IsSound t → IsSound (with_column t i bytes)
  sound_with_column sized h = elim (index_cases t.data_ids i) [
    | inl none ↦ subst IsSound (sym (column_left none)) h
    | inr w ↦
        let k = w.0 in let within = (data_says t i k h w.1).0 in
        let long : length bytes ≡ length t.entities * (values_at t.columns k).size = subst (λ o. IfSome o (λ n. length bytes ≡ length t.entities * n)) (size_found t k i w.1) sized in
        subst IsSound (sym (column_set k w.1)) (sound_with_bytes t k bytes within long h)
  ]

  module _ (h : IsSound t) (n : ℕ) (sized : size_of t i ≡ Some n) where
    unequal : {a b : Id} → a ≢ b → id_eq a b ≡ false
    unequal {a} {b} ne = elim (id_eq a b) as (λ x. id_eq a b ≡ x → x ≡ false) [ true ↦ λ e. absurd (ne (id_eq_same a b e)) | false ↦ λ _. refl ] refl

    value_in_column : (r : ℕ) (j : Id) → r < length t.entities → value_of (with_column t i bytes) r j ≡ cond (id_eq j i) (Some (take n (drop (r * n) bytes))) (value_of t r j)
    value_in_column r j lt = elim (index_cases t.data_ids i) [
      | inl none ↦ absurd (none-some n (sym (size_absent t i none) ∙ sized))
      | inr v ↦
          let k = v.0 in let within = (data_says t i k h v.1).0 in let old = values_at t.columns k in
          let new = with_bytes old (length t.entities) bytes in
          let u = record t { columns = slice_set t.columns k new } in
          let size : old.size ≡ n = same_Some old.size n (sym (size_found t k i v.1) ∙ sized) in
          let here : r < length new.items = subst (λ m. r < m) (sym (length_rows old.size (length t.entities) bytes)) lt in
          ap (λ (x : Archetype). value_of x r j) (column_set k v.1) ∙ elim (index_cases t.data_ids j) [
            | inl none ↦
                let other : id_eq j i ≡ false = unequal (λ e. none-some k (sym none ∙ ap (index_in t.data_ids) e ∙ v.1)) in
                value_absent u r j none ∙ sym (value_absent t r j none) ∙ sym (ap (λ b. cond b (Some (take n (drop (r * n) bytes))) (value_of t r j)) other)
            | inr w ↦ let m = w.0 in elim (cases_eq m k) [
              | inl e ↦
                  let same : j ≡ i = sym (index_says t.data_ids j m i w.1).1 ∙ ap (λ x. get_or t.data_ids x i) e ∙ (index_says t.data_ids i k i v.1).1 in
                  let yes : id_eq j i ≡ true = ap (λ x. id_eq x i) same ∙ id_eq_itself i in
                  value_found u r m j w.1 ∙ ap (λ (x : Values). slice_get x.items r) (get_or-set_at t.columns k m new (no_values 0) e within)
                  ∙ slice_get-get_or new.items r [] here ∙ ap Some (rows_get old.size (length t.entities) bytes r [] lt) ∙ ap (λ s. Some (take s (drop (r * s) bytes))) size
                  ∙ sym (ap (λ b. cond b (Some (take n (drop (r * n) bytes))) (value_of t r j)) yes)
              | inr d ↦
                  let other : id_eq j i ≡ false = unequal (λ e. d (same_Some m k (sym w.1 ∙ ap (index_in t.data_ids) e ∙ v.1))) in
                  value_found u r m j w.1 ∙ ap (λ (x : Values). slice_get x.items r) (get_or-set_other t.columns k m new (no_values 0) d) ∙ sym (value_found t r m j w.1)
                  ∙ sym (ap (λ b. cond b (Some (take n (drop (r * n) bytes))) (value_of t r j)) other)
            ]
          ]
    ]

    read_choice : (b : Bool) (x : List ℕ) (o : Option (List ℕ)) → unwrap_or (cond b (Some x) o) [] ≡ cond b x (unwrap_or o [])
    read_choice true x o = refl
    read_choice false x o = refl

    -- each row has its value, and what it had of all other ids
    pub row_of_column : (r : ℕ) → row_of (with_column t i bytes) r ≡ option_map (λ v. (v.0, with_cell i (take n (drop (r * n) bytes)) v.1)) (row_of t r)
    row_of_column r = elim (cases_lt r (length t.entities)) [
      | inl lt ↦
          let cells : cells_of (with_column t i bytes) r ≡ with_cell i (take n (drop (r * n) bytes)) (cells_of t r)
          = (λ p. map (λ j. (j, unwrap_or (value_in_column r j lt p) [])) t.ids)
          ∙ (λ p. map (λ j. (j, read_choice (id_eq j i) (take n (drop (r * n) bytes)) (value_of t r j) p)) t.ids)
          ∙ sym (map_fused (λ c. (c.0, cond (id_eq c.0 i) (take n (drop (r * n) bytes)) c.1)) (λ j. (j, unwrap_or (value_of t r j) [])) t.ids) in
          by (slice_get t.entities r) (cells_of (with_column t i bytes) r) (cells_of t r) cells
      | inr past ↦ row_past (with_column t i bytes) r past ∙ sym (ap (option_map (λ v. (v.0, with_cell i (take n (drop (r * n) bytes)) v.1))) (row_past t r past))
    ]
      where
        by : (o : Option EntityId) (xs ys : Cells) → xs ≡ with_cell i (take n (drop (r * n) bytes)) ys
            → option_map {U = EntityId × Cells} (λ x. (x, xs)) o ≡ option_map {U = EntityId × Cells} (λ v. (v.0, with_cell i (take n (drop (r * n) bytes)) v.1)) (option_map {U = EntityId × Cells} (λ x. (x, ys)) o)
        by None xs ys e = refl
        by (Some x) xs ys e = ap (λ l. Some (x, l)) e
