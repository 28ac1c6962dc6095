-- An entity is deleted, with its row.
use Rattle.std.proofs.Common.{◌≡◌, ◌≢◌, ℕ, ◌+◌, Bool, true, false, true≢false, cond, not, ◌==◌, List, Option, Some, None, option_map, refl, sym, ap, ◌∙◌}
use Rattle.std.specs.Option.{option_eq}
use Rattle.std.specs.Cmp.{nat_cmp_total}
use Rattle.std.specs.Ordering.{nat_cmp}
use Rattle.std.specs.FinMap.{nat_cmp-IsAntisymmetric}
use Rattle.std.specs.FinMap.Entries.{find, put, is_sorted, find-where_key, is_sorted-where_key, same_entries}
use Rattle.std.proofs.lemmas.Bool.Decides.{Decides-eqb}
use Rattle.ecs_id.specs.declared.EntityId.{EntityId}
use Rattle.ecs_id.specs.declared.Place.{Place}
use Rattle.ecs_model.specs.Map.{count_at, without}
use Rattle.ecs_model.proofs.Maps.{to_T}
use Rattle.entity_index.specs.Entities.{Entities, IsWellFormed, is_alive, place_of, with_place}
use Rattle.entity_index.specs.Entities as index
use Rattle.table_store.specs.Rows.{Cells, IsStored, filler, last_place, removed_rows, row_at}
use Rattle.table_store.specs.Store.{Store}
use Rattle.ecs_archetypes.specs.Archetypes.{IsSound, all_cells, cells_there, meaning}
use Rattle.ecs_archetypes.specs.Holdings.{HoldAlike, cells_at, without_entity}
use Rattle.ecs_archetypes.specs.Placings.{AreInverse}
use Rattle.ecs_archetypes.proofs.Placings.{content, gone, refilled, same_entity, same_entity-tells}
use Rattle.ecs_archetypes.proofs.RowChanges.{filler_last}
use Rattle.ecs_archetypes.proofs.Soundness.{alive_same, cells_alive, cells_found, dead_nowhere, found_alive, holdings, place_after, placed_alive}

abbrev pub without_index : {X : Type 0} → ℕ → List (ℕ × X) → List (ℕ × X)
without_index i m = without nat_cmp m (λ k. k == i)

-- what is found in a map without an index
pub found_without : {X : Type 0} (i q : ℕ) (m : List (ℕ × X)) → find nat_cmp q (without_index i m) ≡ cond (not (q == i)) (find nat_cmp q m) None
found_without i q m = find-where_key nat_cmp (λ k. not (k == i)) q (λ x h. ap (λ k. not (k == i)) (sym (nat_cmp-IsAntisymmetric q x h))) m

entity_off : (x y : EntityId) → (y.index == x.index) ≡ false → same_entity y x ≡ false
entity_off x y h = by (same_entity y x) refl
  where
    by : (b : Bool) → same_entity y x ≡ b → b ≡ false
    by true s = absurd (true≢false (sym ((Decides-eqb y.index x.index).1 (ap (λ z. z.index) ((same_entity-tells y x).0 s))) ∙ h))
    by false s = refl

module _ (w : Entities) (e : EntityId) (alive : is_alive w e ≡ true) where
  abbrev left : Entities
  left = index.without_entity w e.index

  -- who is alive, and where, after an entity was deleted
  alive_apart : (y : EntityId) → (y.index == e.index) ≡ false → is_alive left y ≡ is_alive w y
  alive_apart y h = ap (λ o. option_eq ◌==◌ o (Some y.generation)) (found_without e.index y.index w.live ∙ ap (λ b. cond (not b) (find nat_cmp y.index w.live) None) h)

  dead_same : (y : EntityId) → (y.index == e.index) ≡ true → is_alive left y ≡ false
  dead_same y h = ap (λ o. option_eq ◌==◌ o (Some y.generation)) (found_without e.index y.index w.live ∙ ap (λ b. cond (not b) (find nat_cmp y.index w.live) None) h)

  pub place_left : (y : EntityId) → place_of left y ≡ cond (same_entity y e) None (place_of w y)
  place_left y = by (y.index == e.index) refl
    where
      none : (b : Bool) → same_entity y e ≡ b → (y.index == e.index) ≡ true → None ≡ cond b None (place_of w y)
      none true s h = refl
      none false s h = by_life (is_alive w y) refl
        where
          by_life : (a : Bool) → is_alive w y ≡ a → None ≡ cond a (find nat_cmp y.index w.places) None
          by_life true a = absurd (true≢false (sym ((same_entity-tells y e).1 (alive_same w y e a alive ((Decides-eqb y.index e.index).0 h))) ∙ s))
          by_life false a = refl

      by : (b : Bool) → (y.index == e.index) ≡ b → place_of left y ≡ cond (same_entity y e) None (place_of w y)
      by true h = ap (λ a. cond a (find nat_cmp y.index left.places) None) (dead_same y h) ∙ none (same_entity y e) refl h
      by false h = (λ k. cond (alive_apart y h k) (found_without e.index y.index w.places k) None) ∙ ap (λ b. cond (is_alive w y) (cond (not b) (find nat_cmp y.index w.places) None) None) h
          ∙ ap (λ b. cond b None (place_of w y)) (sym (entity_off e y h))

  pub apart_alive : (y : EntityId) → is_alive w y ≡ true → y ≢ e → is_alive left y ≡ true
  apart_alive y a ne = by (y.index == e.index) refl
    where
      by : (b : Bool) → (y.index == e.index) ≡ b → is_alive left y ≡ true
      by true h = absurd (ne (alive_same w y e a alive ((Decides-eqb y.index e.index).0 h)))
      by false h = alive_apart y h ∙ a

-- the index and the store after an entity left its row
module _ (w w' : Entities) (s s' : Store) (sound : IsSound w s) (e : EntityId) (p : Place) (at : place_of w e ≡ Some p) (places : (y : EntityId) → place_of w' y ≡ refilled (λ z. cond (same_entity z e) None (place_of w z)) p (option_map (λ r. r.0) (filler s p)) y)
    (live : w'.live ≡ without_index e.index w.live) (deletions : w'.deletions ≡ put nat_cmp e.index (count_at w.deletions e.index + 1) w.deletions) (last : w'.last ≡ w.last) (wf : IsWellFormed w') (stored : IsStored s')
    (rows : (r : Place) → row_at s' r ≡ removed_rows s p r) where
  all_gone : (AreInverse (place_of w') (row_at s')) × ((y : EntityId) → content (row_at s') (place_of w' y) ≡ cond (same_entity y e) None (content (row_at s) (place_of w y)))
  all_gone = gone (place_of w) (place_of w') (row_at s) (row_at s') sound.placed e p (last_place s p.table) at (filler s p) (filler_last s p) places rows

  pub sound_left : IsSound w' s'
  sound_left = record { well_formed = wf; stored = stored; last = last ∙ sound.last; placed = all_gone.0 }

  live_now : (i : ℕ) → find nat_cmp i w'.live ≡ cond (not (i == e.index)) (find nat_cmp i w.live) None
  live_now i = ap (find nat_cmp i) live ∙ found_without e.index i w.live

  dead_cells : (u : Entities) (t : Store) → IsSound u t → (i : ℕ) → find nat_cmp i u.live ≡ None → cells_at (meaning u t) i ≡ None
  dead_cells u t is i none = cells_found u t is i ∙ ap (option_map (cells_there t)) (dead_nowhere u is.well_formed i none)

  cells_now : (i : ℕ) (b : Bool) → (i == e.index) ≡ b → (o : Option ℕ) → find nat_cmp i w.live ≡ o → cells_at (meaning w' s') i ≡ cond (not b) (cells_at (meaning w s) i) None
  cells_now i true h o found = dead_cells w' s' sound_left i (live_now i ∙ ap (λ b. cond (not b) (find nat_cmp i w.live) None) h)
  cells_now i false h None found = dead_cells w' s' sound_left i (live_now i ∙ ap (λ b. cond (not b) (find nat_cmp i w.live) None) h ∙ found) ∙ sym (dead_cells w s sound i found)
  cells_now i false h (Some g) found =
      let y : EntityId = record { index = i; generation = g } in
      cells_alive w' s' sound_left y (found_alive w' y (live_now i ∙ ap (λ b. cond (not b) (find nat_cmp i w.live) None) h ∙ found)) ∙ all_gone.1 y
      ∙ ap (λ b. cond b None (content (row_at s) (place_of w y))) (entity_off e y h)
      ∙ sym (cells_alive w s sound y (found_alive w y found))

  cells_left : all_cells w'.places s' ≡ without_index e.index (all_cells w.places s)
  cells_left = same_entries nat_cmp nat_cmp_total nat_cmp-IsAntisymmetric (all_cells w'.places s') (without_index e.index (all_cells w.places s))
      (to_T (is_sorted nat_cmp (all_cells w'.places s')) (holdings w' s' sound_left).cells)
      (is_sorted-where_key nat_cmp (λ k. not (k == e.index)) (all_cells w.places s) (to_T (is_sorted nat_cmp (all_cells w.places s)) (holdings w s sound).cells))
      (λ i. cells_now i (i == e.index) refl (find nat_cmp i w.live) refl ∙ sym (found_without e.index i (all_cells w.places s)))

  pub alike_left : HoldAlike (meaning w' s') (without_entity (meaning w s) e.index)
  alike_left = record { live = live; deletions = deletions; cells = cells_left }

-- what the index says after the deletion, and after the place of the row that fills the gap was written
module _ (w : Entities) (s : Store) (sound : IsSound w s) (e : EntityId) (p : Place) (at : place_of w e ≡ Some p) (w1 : Entities) (deleted : w1 ≡ index.without_entity w e.index) where
  alive : is_alive w e ≡ true
  alive = placed_alive w e p at

  -- the entity whose row fills the gap is another one, which is alive
  pub filler_lives : (x : EntityId) → option_map (λ r. r.0) (filler s p) ≡ Some x → is_alive w1 x ≡ true
  filler_lives x h = by (filler s p) refl h
    where
      by : (o : Option (EntityId × Cells)) → filler s p ≡ o → option_map (λ r. r.0) o ≡ Some x → is_alive w1 x ≡ true
      by None f k = cc
      by (Some v) f k =
          let l = filler_last s p v f in
          let there : place_of w x ≡ Some (last_place s p.table) = (sound.placed x (last_place s p.table)).1 (ap (option_map (λ r. r.0)) l.0 ∙ k) in
          ap (λ u. is_alive u x) deleted
          ∙ apart_alive w e alive x (placed_alive w x (last_place s p.table) there) (λ same. l.1 (let two : Some (last_place s p.table) ≡ Some p = sym there ∙ ap (place_of w) same ∙ at in cc))

  pub places_alone_left : (m : Option EntityId) → m ≡ None → (y : EntityId) → place_of w1 y ≡ refilled (λ z. cond (same_entity z e) None (place_of w z)) p m y
  places_alone_left m none y = ap (λ u. place_of u y) deleted ∙ place_left w e alive y ∙ ap (λ o. refilled (λ z. cond (same_entity z e) None (place_of w z)) p o y) (sym none)

  pub places_both_left : (w2 : Entities) (x : EntityId) → is_alive w1 x ≡ true → w2 ≡ with_place w1 x.index p → (m : Option EntityId) → m ≡ Some x
      → (y : EntityId) → place_of w2 y ≡ refilled (λ z. cond (same_entity z e) None (place_of w z)) p m y
  places_both_left w2 x there told m some y = ap (λ u. place_of u y) told ∙ place_after w1 x p there y ∙ ap (cond (same_entity y x) (Some p)) (ap (λ u. place_of u y) deleted ∙ place_left w e alive y)
      ∙ ap (λ o. refilled (λ z. cond (same_entity z e) None (place_of w z)) p o y) (sym some)
