-- The values of one id are written in all rows of a table.
use Rattle.std.proofs.Common.{◌≡◌, ℕ, zero, suc, ◌+◌, ◌*◌, Bool, true, false, cond, if◌then◌else◌, List, [], ◌∷◌, take, drop, Option, Some, None, option_map, unwrap_or, refl, sym, ap, ◌∙◌, true≢false, arith}
use Rattle.std.specs.List.{slice_get}
use Rattle.std.specs.Cmp.{nat_cmp_total}
use Rattle.std.specs.Ordering.{nat_cmp, eq_by_cmp}
use Rattle.std.specs.FinMap.{find, put, is_sorted, nat_cmp-IsAntisymmetric}
use Rattle.std.specs.FinMap.Entries.{find-put, same_entries}
use native.Mathlib.Nat.{zero-mul, suc-mul}
use lib.Seq.{drop-drop}
use Rattle.ecs_id.specs.declared.EntityId.{EntityId}
use Rattle.ecs_id.specs.declared.Place.{Place}
use Rattle.ecs_id.specs.declared.TableKey.{TableKey}
use Rattle.ecs_id.specs.Id.{Id, id_cmp}
use Rattle.ecs_table.specs.Archetype.{Archetype}
use Rattle.ecs_model.specs.Map.{Map, IsMap}
use Rattle.ecs_model.proofs.Maps.{IsMap-with_value, eq_itself, to_T}
use Rattle.entity_index.specs.Entities.{Entities, place_of}
use Rattle.table_store.specs.Rows.{Cells, IsStored, Row, cells_of, row_at, with_cell, with_column_at}
use Rattle.ecs_id.specs.TableKeys.{table_eq}
use Rattle.table_store.specs.Store.{Store, table_at}
use Rattle.table_store.proofs.Changes.{row_here}
use Rattle.ecs_archetypes.specs.Archetypes.{IsSound, all_cells, cells_there, meaning}
use Rattle.ecs_archetypes.specs.Holdings.{HoldAlike, Holdings, with_each_written}
use Rattle.ecs_archetypes.proofs.MapLists.{nat_same}
use Rattle.ecs_archetypes.proofs.Placings.{table_eq-tells}
use Rattle.ecs_archetypes.proofs.Soundness.{alive_place, cells_found, found_alive, holdings, own_row, place_here, placed_found, row_table}

-- ---- a map after each of these entities has got its value
module _ (i : Id) (n : ℕ) where
  abbrev each_put : List EntityId → List ℕ → Map ℕ Cells → Map ℕ Cells
  each_put [] bytes m = m
  each_put (e ∷ es) bytes m = each_put es (drop n bytes) (put nat_cmp e.index (put id_cmp i (take n bytes) (unwrap_or (find nat_cmp e.index m) [])) m)

  each_live : (es : List EntityId) (bytes : List ℕ) (h : Holdings) → (with_each_written i n es bytes h).live ≡ h.live
  each_live [] bytes h = refl
  each_live (e ∷ es) bytes h = each_live es (drop n bytes) (record h { cells = put nat_cmp e.index (put id_cmp i (take n bytes) (unwrap_or (find nat_cmp e.index h.cells) [])) h.cells })

  each_deletions : (es : List EntityId) (bytes : List ℕ) (h : Holdings) → (with_each_written i n es bytes h).deletions ≡ h.deletions
  each_deletions [] bytes h = refl
  each_deletions (e ∷ es) bytes h = each_deletions es (drop n bytes) (record h { cells = put nat_cmp e.index (put id_cmp i (take n bytes) (unwrap_or (find nat_cmp e.index h.cells) [])) h.cells })

  each_cells : (es : List EntityId) (bytes : List ℕ) (h : Holdings) → (with_each_written i n es bytes h).cells ≡ each_put es bytes h.cells
  each_cells [] bytes h = refl
  each_cells (e ∷ es) bytes h = each_cells es (drop n bytes) (record h { cells = put nat_cmp e.index (put id_cmp i (take n bytes) (unwrap_or (find nat_cmp e.index h.cells) [])) h.cells })

  each_rise : (es : List EntityId) (bytes : List ℕ) (m : Map ℕ Cells) → IsMap nat_cmp m → IsMap nat_cmp (each_put es bytes m)
  each_rise [] bytes m h = h
  each_rise (e ∷ es) bytes m h =
      let v = put id_cmp i (take n bytes) (unwrap_or (find nat_cmp e.index m) []) in
      each_rise es (drop n bytes) (put nat_cmp e.index v m) (IsMap-with_value nat_cmp nat_cmp_total m e.index v h)

  module _ (d : ℕ) where
    put_other : (e : ℕ) (v : Cells) (m : Map ℕ Cells) → (e ≡ d → ⊥) → find nat_cmp d (put nat_cmp e v m) ≡ find nat_cmp d m
    put_other e v m apart = find-put nat_cmp nat_cmp_total d e v m ∙ by (eq_by_cmp nat_cmp d e) refl
      where
        by : (b : Bool) → eq_by_cmp nat_cmp d e ≡ b → cond b (Some v) (find nat_cmp d m) ≡ find nat_cmp d m
        by true h = absurd (apart (sym (nat_same d e h)))
        by false h = refl

    put_own : (e : ℕ) (v : Cells) (m : Map ℕ Cells) → e ≡ d → find nat_cmp d (put nat_cmp e v m) ≡ Some v
    put_own e v m same = find-put nat_cmp nat_cmp_total d e v m ∙ ap (λ b. cond b (Some v) (find nat_cmp d m)) (ap (eq_by_cmp nat_cmp d) same ∙ eq_itself nat_cmp nat_cmp_total d)

    -- one who is not among them
    each_other : (es : List EntityId) (bytes : List ℕ) (m : Map ℕ Cells) → ((q : ℕ) (y : EntityId) → slice_get es q ≡ Some y → y.index ≡ d → ⊥) → find nat_cmp d (each_put es bytes m) ≡ find nat_cmp d m
    each_other [] bytes m none = refl
    each_other (e ∷ es) bytes m none =
        let v = put id_cmp i (take n bytes) (unwrap_or (find nat_cmp e.index m) []) in
        each_other es (drop n bytes) (put nat_cmp e.index v m) (λ q y at same. none (suc q) y at same) ∙ put_other e.index v m (none 0 e refl)

    -- and one who is there once
    each_own : (es : List EntityId) (bytes : List ℕ) (m : Map ℕ Cells) (r : ℕ) (x : EntityId) → slice_get es r ≡ Some x → x.index ≡ d → ((q : ℕ) (y : EntityId) → slice_get es q ≡ Some y → y.index ≡ d → q ≡ r)
        → find nat_cmp d (each_put es bytes m) ≡ Some (put id_cmp i (take n (drop (r * n) bytes)) (unwrap_or (find nat_cmp d m) []))
    each_own [] bytes m r x at is once = absurd cc
    each_own (e ∷ es) bytes m zero x at is once =
        let v = put id_cmp i (take n bytes) (unwrap_or (find nat_cmp e.index m) []) in
        let first : e ≡ x = cc in let own : e.index ≡ d = ap (λ y. y.index) first ∙ is in let start : 0 ≡ 0 * n = sym (zero-mul n) in
        each_other es (drop n bytes) (put nat_cmp e.index v m) (λ q y there same. let k : suc q ≡ 0 = once (suc q) y there same in absurd (omega (arith, k))) ∙ put_own e.index v m own
        ∙ (λ k. Some (put id_cmp i (take n (drop (start k) bytes)) (unwrap_or (find nat_cmp (own k) m) [])))
    each_own (e ∷ es) bytes m (suc r) x at is once =
        let v = put id_cmp i (take n bytes) (unwrap_or (find nat_cmp e.index m) []) in
        let next : n + r * n ≡ suc r * n = omega (arith, suc-mul r n) in
        each_own es (drop n bytes) (put nat_cmp e.index v m) r x at is (λ q y there same. let k : suc q ≡ suc r = once (suc q) y there same in omega (arith, k))
        ∙ (λ k. Some (put id_cmp i (take n ((drop-drop (r * n) n bytes ∙ ap (λ j. drop j bytes) next) k)) (unwrap_or (put_other e.index v m (λ same. let z : 0 ≡ suc r = once 0 e refl same in absurd (omega (arith, z))) k) [])))

owner_is : (o : Option Row) (x : EntityId) (c : Cells) → o ≡ Some (x, c) → option_map (λ r. r.0) o ≡ Some x
owner_is o x c e = ap (option_map (λ r. r.0)) e

-- the rows of a table are written, and the entities stand where they stood
module _ (w : Entities) (s s' : Store) (sound : IsSound w s) (stored : IsStored s') (key : TableKey) (i : Id) (n : ℕ) (bytes : List ℕ)
    (rows : (p : Place) → row_at s' p ≡ with_column_at (row_at s) key i n bytes p) where
  same_owner : (p : Place) → option_map (λ r. r.0) (row_at s' p) ≡ option_map (λ r. r.0) (row_at s p)
  same_owner p = ap (option_map (λ r. r.0)) (rows p) ∙ by (table_eq p.table key) (row_at s p)
    where
      by : (b : Bool) (o : Option Row) → option_map {U = EntityId} (λ r. r.0) (if b then option_map {U = Row} (λ v. with_cell v i (take n (drop (p.row * n) bytes))) o else o) ≡ option_map (λ r. r.0) o
      by true None = refl
      by true (Some v) = refl
      by false o = refl

  pub sound_column : IsSound w s'
  sound_column = record {
    well_formed = sound.well_formed;
    stored = stored;
    last = sound.last;
    placed = λ x p. (λ h. same_owner p ∙ (sound.placed x p).0 h, λ h. (sound.placed x p).1 (sym (same_owner p) ∙ h));
  }

  module _ (t : Archetype) (at : table_at s key ≡ Some t) where
    abbrev place : ℕ → Place
    place q = record { table = key; row = q }

    -- who stands in a row of the table
    stands : (q : ℕ) (y : EntityId) → slice_get t.entities q ≡ Some y → place_of w y ≡ Some (place q)
    stands q y there = (sound.placed y (place q)).1 (ap (option_map (λ r. r.0)) (row_here s key t at q) ∙ ap (λ o. option_map {U = EntityId} (λ r. r.0) (option_map {U = Row} (λ e. (e, cells_of t q)) o)) there)

    -- who is at an index stands in one place
    one_place : (d : ℕ) (p : Place) → find nat_cmp d w.places ≡ Some p → (q : ℕ) (y : EntityId) → slice_get t.entities q ≡ Some y → y.index ≡ d → p ≡ place q
    one_place d p found q y there same =
        let two : Some p ≡ Some (place q) = sym found ∙ ap (λ k. find nat_cmp k w.places) (sym same) ∙ placed_found w y (place q) (stands q y there) in cc

    module _ (d : ℕ) where
      abbrev after : Option Cells
      after = find nat_cmp d (each_put i n t.entities bytes (all_cells w.places s))

      none_there : find nat_cmp d w.places ≡ None → None ≡ after
      none_there none =
          sym (each_other i n d t.entities bytes (all_cells w.places s) (λ q y there same. let no : None ≡ Some (place q) = sym none ∙ ap (λ k. find nat_cmp k w.places) (sym same) ∙ placed_found w y (place q) (stands q y there) in absurd cc)
          ∙ cells_found w s sound d ∙ ap (option_map (cells_there s)) none)

      had_there : (p : Place) → find nat_cmp d w.places ≡ Some p → find nat_cmp d (all_cells w.places s) ≡ Some (cells_there s p)
      had_there p found = cells_found w s sound d ∙ ap (option_map (cells_there s)) found

      -- who stands in the table gets the value of its row
      written_there : (p : Place) → find nat_cmp d w.places ≡ Some p → p.table ≡ key → Some (cells_there s' p) ≡ after
      written_there p found same_table =
          let g = place_here w sound.well_formed d p found in
          let x : EntityId = record { index = d; generation = g.0 } in
          let row = own_row w s sound x p (alive_place w x (found_alive w x g.1) ∙ found) in
          let u = row_table s p (x, row.0) row.1 in
          let same : u.0 ≡ t = let two : Some u.0 ≡ Some t = sym u.1 ∙ ap (table_at s) same_table ∙ at in cc in
          let in_row : slice_get t.entities p.row ≡ Some x = ap (λ z. slice_get z.entities p.row) (sym same) ∙ u.2 in
          let had : cells_there s p ≡ row.0 = ap (λ o. unwrap_or (option_map (λ r. r.1) o) []) row.1 in
          let has : cells_there s' p ≡ put id_cmp i (take n (drop (p.row * n) bytes)) row.0 =
          ap (λ o. unwrap_or (option_map (λ r. r.1) o) []) (rows p)
          ∙ ap (λ b. unwrap_or (option_map (λ r. r.1) (if b then option_map {U = Row} (λ v. with_cell v i (take n (drop (p.row * n) bytes))) (row_at s p) else row_at s p)) []) ((table_eq-tells p.table key).1 same_table)
          ∙ ap (λ o. unwrap_or (option_map (λ r. r.1) (option_map {U = Row} (λ v. with_cell v i (take n (drop (p.row * n) bytes))) o)) []) row.1 in
          ap Some (has ∙ ap (put id_cmp i (take n (drop (p.row * n) bytes))) (sym had))
          ∙ sym (each_own i n d t.entities bytes (all_cells w.places s) p.row x in_row refl (λ q y there same. sym (ap (λ z. z.row) (one_place d p found q y there same)))
          ∙ ap (λ o. Some (put id_cmp i (take n (drop (p.row * n) bytes)) (unwrap_or o []))) (had_there p found))

      -- and all others keep what they have
      left_there : (p : Place) → find nat_cmp d w.places ≡ Some p → table_eq p.table key ≡ false → Some (cells_there s' p) ≡ after
      left_there p found other =
          let kept : cells_there s' p ≡ cells_there s p =
          ap (λ o. unwrap_or (option_map (λ r. r.1) o) []) (rows p)
          ∙ ap (λ b. unwrap_or (option_map (λ r. r.1) (if b then option_map {U = Row} (λ v. with_cell v i (take n (drop (p.row * n) bytes))) (row_at s p) else row_at s p)) []) other in
          ap Some kept
          ∙ sym (each_other i n d t.entities bytes (all_cells w.places s)
          (λ q y there same. true≢false (sym ((table_eq-tells p.table key).1 (ap (λ z. z.table) (one_place d p found q y there same))) ∙ other)) ∙ had_there p found)

      some_there : (p : Place) → find nat_cmp d w.places ≡ Some p → Some (cells_there s' p) ≡ after
      some_there p found = by (table_eq p.table key) refl
        where
          by : (b : Bool) → table_eq p.table key ≡ b → Some (cells_there s' p) ≡ after
          by true here = written_there p found ((table_eq-tells p.table key).0 here)
          by false here = left_there p found here

      now : (o : Option Place) → find nat_cmp d w.places ≡ o → option_map (cells_there s') o ≡ after
      now None e = none_there e
      now (Some p) e = some_there p e

    cells_column : all_cells w.places s' ≡ each_put i n t.entities bytes (all_cells w.places s)
    cells_column = same_entries nat_cmp nat_cmp_total nat_cmp-IsAntisymmetric (all_cells w.places s') (each_put i n t.entities bytes (all_cells w.places s))
        (to_T (is_sorted nat_cmp (all_cells w.places s')) (holdings w s' sound_column).cells)
        (to_T (is_sorted nat_cmp (each_put i n t.entities bytes (all_cells w.places s))) (each_rise i n t.entities bytes (all_cells w.places s) (holdings w s sound).cells))
        (λ d. cells_found w s' sound_column d ∙ now d (find nat_cmp d w.places) refl)

    pub alike_column : HoldAlike (meaning w s') (with_each_written i n t.entities bytes (meaning w s))
    alike_column = record {
      live = sym (each_live i n t.entities bytes (meaning w s));
      deletions = sym (each_deletions i n t.entities bytes (meaning w s));
      cells = cells_column ∙ sym (each_cells i n t.entities bytes (meaning w s));
    }
