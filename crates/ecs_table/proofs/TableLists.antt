-- A table's lists beside each other, after each call.
use Rattle.std.proofs.Common.{◌≡◌, ℕ, zero, suc, ◌+◌, ◌-◌, ◌≤◌, ◌<◌, List, [], ◌∷◌, ◌++◌, length, map, replicate, slice_index, refl, sym, ap, subst, ◌∙◌, arith, nat_lt, slice_get, Some, None}
use Rattle.std.specs.List.{concat, filter, zip, swap_remove}
use Rattle.ecs_id.specs.Id.{Id}
use Rattle.ecs_id.specs.declared.EntityId.{EntityId}
use Rattle.ecs_table.specs.EntityList.{Entities}
use Rattle.raw_column.specs.Contents.{Contents, column_at, empty_contents, with_item_in as with_item_at, with_zeros, without_row as without_block_row}
use Rattle.raw_column.specs.Places.{Values}
use Rattle.ecs_table.proofs.Soundness.{columns_paired, sound_empty, sound_with_item, sound_with_moved, sound_with_room, sound_with_row, sound_without_row}
use Rattle.ecs_table.specs.Archetype.{Archetype, IsSound, IsStored, column_of, empty_table, entity_at, ids_with_data, index_in, no_entity, no_values, seen, size_of, value_of, values_at, with_last, with_moved, with_row, without_row}

-- a table is the same where its lists are
pub same_table : (ids ids2 ds ds2 : List Id) (cs cs2 : List Values) (es es2 : List EntityId) (r : ℕ) → ids ≡ ids2 → ds ≡ ds2 → cs ≡ cs2 → es ≡ es2
    → ◌≡◌ {A = Archetype} (record { ids = ids; data_ids = ds; columns = cs; entities = es; room = r }) (record { ids = ids2; data_ids = ds2; columns = cs2; entities = es2; room = r })
same_table ids ids2 ds ds2 cs cs2 es es2 r e f h j = λ i. record { ids = e i; data_ids = f i; columns = h i; entities = j i; room = r }

-- what is seen of one id, where it has data
pub value_found : (t : Archetype) (row k : ℕ) (i : Id) → index_in t.data_ids i ≡ Some k → value_of t row i ≡ slice_get (values_at t.columns k).items row
value_found t row k i e = ap (λ o. elim o [ None ↦ None | Some j ↦ slice_get (values_at t.columns j).items row ]) e

pub column_found : (t : Archetype) (k : ℕ) (i : Id) → index_in t.data_ids i ≡ Some k → column_of t i ≡ Some (concat (values_at t.columns k).items)
column_found t k i e = ap (λ o. elim o [ None ↦ None | Some j ↦ Some (concat (values_at t.columns j).items) ]) e

pub size_found : (t : Archetype) (k : ℕ) (i : Id) → index_in t.data_ids i ≡ Some k → size_of t i ≡ Some (values_at t.columns k).size
size_found t k i e = ap (λ o. elim o [ None ↦ None | Some j ↦ Some (values_at t.columns j).size ]) e

-- what is seen of a table after each call
pub seen_row : (ids ds : List Id) (b new : Contents) (es es2 : List EntityId) (more : ℕ) (e : EntityId) → new ≡ with_zeros b → es2 ≡ es ++ e ∷ []
    → seen ids ds new es2 (more - 1) ≡ with_row (seen ids ds b es more) e
seen_row ids ds b new es es2 more e p q = same_table ids ids ds ds new.columns (with_zeros b).columns es2 (es ++ e ∷ []) (more - 1) (λ _. ids) (λ _. ds) (ap (λ (v : Contents). v.columns) p) q

pub seen_without : (ids ds : List Id) (b new : Contents) (es es2 : List EntityId) (more row : ℕ) → new ≡ without_block_row b row → es2 ≡ swap_remove es row no_entity
    → seen ids ds new es2 (more + 1) ≡ without_row (seen ids ds b es more) row
seen_without ids ds b new es es2 more row p q = same_table ids ids ds ds new.columns (without_block_row b row).columns es2 (swap_remove es row no_entity) (more + 1) (λ _. ids) (λ _. ds) (ap (λ (v : Contents). v.columns) p) q

pub seen_moved : (s : Archetype) (row : ℕ) (ids ds : List Id) (b new : Contents) (es es2 : List EntityId) (more : ℕ) → new.columns ≡ map (λ p. with_last (value_of s row p.0) p.1) (zip ds b.columns) → es2 ≡ es ++ entity_at s row ∷ []
    → seen ids ds new es2 (more - 1) ≡ with_moved (seen ids ds b es more) s row
seen_moved s row ids ds b new es es2 more p q = same_table ids ids ds ds new.columns (map (λ p. with_last (value_of s row p.0) p.1) (zip ds b.columns)) es2 (es ++ entity_at s row ∷ []) (more - 1) (λ _. ids) (λ _. ds) p q

pub seen_new : (ids all ds : List Id) (ss : List ℕ) (b : Contents) (es : List EntityId) → all ≡ ids → ds ≡ ids_with_data ids ss → b ≡ empty_contents (filter (λ s. nat_lt 0 s) ss) → es ≡ []
    → seen all ds b es 0 ≡ empty_table ids ss
seen_new ids all ds ss b es p q r e = same_table all ids ds (ids_with_data ids ss) b.columns (map no_values (filter (λ s. nat_lt 0 s) ss)) es [] 0 p q (ap (λ (v : Contents). v.columns) r) e

-- tags have no data
pub no_data_ids : (ids : List Id) → [] ≡ ids_with_data ids (replicate (length ids) 0)
no_data_ids [] = refl
no_data_ids (i ∷ ids) = no_data_ids ids

pub no_data_sizes : (n : ℕ) → [] ≡ filter (λ s. nat_lt 0 s) (replicate n 0)
no_data_sizes zero = refl
no_data_sizes (suc n) = no_data_sizes n

pub tags_small : (n k : ℕ) → k < length (replicate {A = ℕ} n 0) → slice_index (replicate {A = ℕ} n 0) k ≤ 64
tags_small zero k lt = absurd (omega (arith, lt))
tags_small (suc n) zero lt = omega arith
tags_small (suc n) (suc k) lt = tags_small n k (omega (arith, lt))

pub stored_paired : (ids ds : List Id) (b : Contents) (es : Entities) (more : ℕ) → IsStored ids ds b es more → length ds ≡ length b.columns
stored_paired ids ds b es more h = columns_paired (seen ids ds b es.items more) h.sound

pub stored_row : (ids ds : List Id) (b new : Contents) (es es2 : Entities) (more : ℕ) (e : EntityId) → IsStored ids ds b es more → 0 < more → new ≡ with_zeros b
    → es2.items ≡ es.items ++ e ∷ [] → es2.capacity ≡ es.capacity → length es2.items ≡ length es.items + 1 → IsStored ids ds new es2 (more - 1)
stored_row ids ds b new es es2 more e h some p q grown long = record {
  sound = subst IsSound (sym (seen_row ids ds b new es.items es2.items more e p q)) (sound_with_row (seen ids ds b es.items more) e h.sound);
  rows = ap (λ (v : Contents). v.len) p ∙ ap (λ n. n + 1) h.rows ∙ sym long;
  places = let room : new.room ≡ b.room - 1 = ap (λ (v : Contents). v.room) p in omega (arith, h.places);
  room = omega (arith, h.room);
}

pub stored_without : (ids ds : List Id) (b new : Contents) (es es2 : Entities) (more row : ℕ) → row < length es.items → IsStored ids ds b es more → new ≡ without_block_row b row
    → es2.items ≡ swap_remove es.items row no_entity → es2.capacity ≡ es.capacity → length es2.items ≡ length es.items - 1 → IsStored ids ds new es2 (more + 1)
stored_without ids ds b new es es2 more row lt h p q same long = record {
  sound = subst IsSound (sym (seen_without ids ds b new es.items es2.items more row p q)) (sound_without_row (seen ids ds b es.items more) row lt h.sound);
  rows = ap (λ (v : Contents). v.len) p ∙ ap (λ n. n - 1) h.rows ∙ sym long;
  places = let room : new.room ≡ b.room + 1 = ap (λ (v : Contents). v.room) p in omega (arith, h.places);
  room = omega (arith, h.room);
}

pub stored_moved : (s : Archetype) (row : ℕ) (ids ds : List Id) (b new : Contents) (es es2 : Entities) (more : ℕ) → IsStored ids ds b es more → 0 < more
    → new.columns ≡ map (λ p. with_last (value_of s row p.0) p.1) (zip ds b.columns) → new.len ≡ b.len + 1 → new.room ≡ b.room - 1
    → es2.items ≡ es.items ++ entity_at s row ∷ [] → es2.capacity ≡ es.capacity → length es2.items ≡ length es.items + 1 → IsStored ids ds new es2 (more - 1)
stored_moved s row ids ds b new es es2 more h some p len room q grown long = record {
  sound = subst IsSound (sym (seen_moved s row ids ds b new es.items es2.items more p q)) (sound_with_moved (seen ids ds b es.items more) s row h.sound);
  rows = len ∙ ap (λ n. n + 1) h.rows ∙ sym long;
  places = omega (arith, h.places);
  room = omega (arith, h.room);
}

-- the same values, with other room
pub stored_reserve : (ids ds : List Id) (b new : Contents) (es es2 : Entities) (had more : ℕ) → IsStored ids ds b es had → new ≡ record b { room = new.room } → es2.items ≡ es.items
    → more ≤ new.room → length es2.items + more ≤ es2.capacity → IsStored ids ds new es2 more
stored_reserve ids ds b new es es2 had more h same whole enough room = record {
  sound =
      let t = seen ids ds b es.items had in
      let u : record t { room = more } ≡ seen ids ds new es2.items more = same_table ids ids ds ds b.columns new.columns es.items es2.items more (λ _. ids) (λ _. ds) (sym (ap (λ (v : Contents). v.columns) same)) (sym whole) in
      subst IsSound u (sound_with_room t more h.sound);
  rows = ap (λ (v : Contents). v.len) same ∙ h.rows ∙ ap length (sym whole);
  places = enough;
  room = room;
}

pub stored_new : (ids all ds : List Id) (ss : List ℕ) (b : Contents) (es : Entities) → length ids ≡ length ss → ((k : ℕ) → k < length ss → slice_index ss k ≤ 64) → all ≡ ids → ds ≡ ids_with_data ids ss
    → b ≡ empty_contents (filter (λ s. nat_lt 0 s) ss) → es.items ≡ [] → IsStored all ds b es 0
stored_new ids all ds ss b es e small p q r none = record {
  sound = subst IsSound (sym (seen_new ids all ds ss b es.items p q r none)) (sound_empty ids ss e small);
  rows = ap (λ (v : Contents). v.len) r ∙ ap length (sym none);
  places = omega arith;
  room = let empty : length es.items ≡ 0 = ap length none in omega (arith, empty);
}

pub stored_item : (ids ds : List Id) (b new : Contents) (es : Entities) (more k row : ℕ) (bytes : List ℕ) → IsStored ids ds b es more → k < length b.columns → row < length es.items
    → length bytes ≡ (column_at b k).size → new ≡ with_item_at b k row bytes → IsStored ids ds new es more
stored_item ids ds b new es more k row bytes h lt within long e =
    let t = seen ids ds b es.items more in
    record {
      sound = subst (λ (v : Contents). IsSound (seen ids ds v es.items more)) (sym e) (sound_with_item t row k bytes lt within long h.sound);
      rows = ap (λ (v : Contents). v.len) e ∙ h.rows;
      places = let room : new.room ≡ b.room = ap (λ (v : Contents). v.room) e in omega (arith, h.places);
      room = h.room;
    }
