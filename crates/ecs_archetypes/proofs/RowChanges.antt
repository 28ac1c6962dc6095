-- An entity enters a row, its row moves to another table, or its row is written.
use Rattle.std.proofs.Common.{◌≡◌, ◌≢◌, Bool, true, false, cond, [], Option, Some, None, option_map, unwrap_or, refl, sym, ap, subst, ◌∙◌, true≢false}
use Rattle.ecs_id.specs.declared.EntityId.{EntityId}
use Rattle.ecs_id.specs.declared.Place.{Place}
use Rattle.entity_index.specs.Entities.{Entities, IsWellFormed, is_alive, place_of, with_place}
use Rattle.ecs_archetypes.specs.Archetypes.{IsSound, meaning}
use Rattle.ecs_archetypes.specs.Holdings.{HoldAlike, held_at, with_cells}
use Rattle.ecs_archetypes.specs.Placings.{AreInverse}
use Rattle.table_store.specs.Rows.{Cells, IsStored, Row, carried, filler, last_place, moved_rows, row_at, same_place, with_row_at}
use Rattle.table_store.specs.Store.{Store, Shape}
use Rattle.ecs_archetypes.proofs.Placings.{AreInverse-enter, AreInverse-write, content, content-enter, content-write, moved, refilled, same_entity, same_entity-tells, same_place-tells}
use Rattle.ecs_archetypes.proofs.Soundness.{alike_after, cells_alive, own_row, place_after, placed_alive}

-- an entity without a place enters a vacant row
module _ (w w' : Entities) (s s' : Store) (sound : IsSound w s) (e : EntityId) (q : Place) (v : Cells) (alive : is_alive w e ≡ true) (nowhere : place_of w e ≡ None) (vacant : row_at s q ≡ None)
    (told : w' ≡ with_place w e.index q) (wf : IsWellFormed w') (stored : IsStored s') (rows : (r : Place) → row_at s' r ≡ with_row_at (row_at s) q (e, v) r) where
  entered_places : (y : EntityId) → place_of w' y ≡ cond (same_entity y e) (Some q) (place_of w y)
  entered_places y = ap (λ u. place_of u y) told ∙ place_after w e q alive y

  pub sound_entered : IsSound w' s'
  sound_entered = record {
    well_formed = wf;
    stored = stored;
    last = ap (λ u. u.last) told ∙ sound.last;
    placed = AreInverse-enter (place_of w) (place_of w') (row_at s) (row_at s') sound.placed e q v nowhere vacant entered_places rows;
  }

  pub alike_entered : HoldAlike (meaning w' s') (with_cells (meaning w s) e.index v)
  alike_entered = alike_after w w' s s' sound sound_entered (ap (λ u. u.live) told) e alive v
      (content-enter (place_of w) (place_of w') (row_at s) (row_at s') sound.placed e q v nowhere vacant entered_places rows) (ap (λ u. u.deletions) told)

filler_is : (b : Bool) (o : Option Row) (v : Row) → cond b None o ≡ Some v → (o ≡ Some v) × (b ≡ false)
filler_is true o v h = cc
filler_is false o v h = (h, refl)

-- the row that fills a gap is the last, and another one
pub filler_last : (s : Store) (p : Place) (v : Row) → filler s p ≡ Some v → (row_at s (last_place s p.table) ≡ Some v) × (last_place s p.table ≢ p)
filler_last s p v h =
    let f = filler_is (same_place (last_place s p.table) p) (row_at s (last_place s p.table)) v h in
    (f.0, λ same. true≢false (sym ((same_place-tells (last_place s p.table) p).1 same) ∙ f.1))

owner_is : (o : Option Row) (x : EntityId) → option_map (λ r. r.0) o ≡ Some x → (v : Row) × (o ≡ Some v) × (v.0 ≡ x)
owner_is None x h = cc
owner_is (Some v) x h = (v, refl, cc)

-- the entity whose row fills the gap is alive
pub filler_alive : (w : Entities) (s : Store) (sound : IsSound w s) (p : Place) (x : EntityId) → option_map (λ r. r.0) (filler s p) ≡ Some x → is_alive w x ≡ true
filler_alive w s sound p x h =
    let v = owner_is (filler s p) x h in
    placed_alive w x (last_place s p.table) ((sound.placed x (last_place s p.table)).1 (ap (option_map (λ r. r.0)) (filler_last s p v.0 v.1).0 ∙ ap Some v.2))

-- the row of an entity moves to a vacant one of another table, and the last row fills the gap
module _ (w w' : Entities) (s s' : Store) (sound : IsSound w s) (e : EntityId) (p q : Place) (f : Shape) (at : place_of w e ≡ Some p) (vacant : row_at s q ≡ None)
    (places : (y : EntityId) → place_of w' y ≡ refilled (λ z. cond (same_entity z e) (Some q) (place_of w z)) p (option_map (λ r. r.0) (filler s p)) y)
    (live : w'.live ≡ w.live) (deletions : w'.deletions ≡ w.deletions) (last : w'.last ≡ w.last) (wf : IsWellFormed w') (stored : IsStored s')
    (rows : (v : Row) → row_at s p ≡ Some v → (r : Place) → row_at s' r ≡ moved_rows s p v q f r) where
  old_cells : Cells
  old_cells = (own_row w s sound e p at).0

  old_row : row_at s p ≡ Some (e, old_cells)
  unfolding old_cells
  old_row = (own_row w s sound e p at).1

  all_moved : (AreInverse (place_of w') (row_at s')) × ((y : EntityId) → content (row_at s') (place_of w' y) ≡ cond (same_entity y e) (Some (carried f old_cells)) (content (row_at s) (place_of w y)))
  all_moved = moved (place_of w) (place_of w') (row_at s) (row_at s') sound.placed e p q (last_place s p.table) (carried f old_cells) at vacant (filler s p) (filler_last s p) places (rows (e, old_cells) old_row)

  pub sound_carried : IsSound w' s'
  sound_carried = record { well_formed = wf; stored = stored; last = last ∙ sound.last; placed = all_moved.0 }

  old_held : held_at (meaning w s) e.index ≡ old_cells
  old_held = ap (λ o. unwrap_or o []) (cells_alive w s sound e (placed_alive w e p at) ∙ ap (content (row_at s)) at ∙ ap (option_map (λ r. r.1)) old_row)

  pub alike_carried : HoldAlike (meaning w' s') (with_cells (meaning w s) e.index (carried f (held_at (meaning w s) e.index)))
  alike_carried = subst (λ c. HoldAlike (meaning w' s') (with_cells (meaning w s) e.index (carried f c))) (sym old_held)
      (alike_after w w' s s' sound sound_carried live e (placed_alive w e p at) (carried f old_cells) all_moved.1 deletions)

  owner_apart : (v : Row) → filler s p ≡ Some v → same_entity e v.0 ≡ false
  owner_apart v h = by (same_entity e v.0) refl
    where
      by : (b : Bool) → same_entity e v.0 ≡ b → b ≡ false
      by true k =
          let l = filler_last s p v h in
          let same : e ≡ v.0 = (same_entity-tells e v.0).0 k in
          let there : place_of w e ≡ Some (last_place s p.table) = ap (place_of w) same ∙ (sound.placed v.0 (last_place s p.table)).1 (ap (option_map (λ r. r.0)) l.0) in
          let two : Some (last_place s p.table) ≡ Some p = sym there ∙ at in
          absurd (l.1 cc)
      by false k = refl

  -- the entity stands in the row to which it moved
  pub placed_carried : place_of w' e ≡ Some q
  placed_carried = places e ∙ by (filler s p) refl
    where
      own : cond (same_entity e e) (Some q) (place_of w e) ≡ Some q
      own = ap (λ b. cond b (Some q) (place_of w e)) ((same_entity-tells e e).1 refl)

      by : (o : Option Row) → filler s p ≡ o → refilled (λ z. cond (same_entity z e) (Some q) (place_of w z)) p (option_map (λ r. r.0) o) e ≡ Some q
      by None h = own
      by (Some v) h = ap (λ b. cond b (Some p) (cond (same_entity e e) (Some q) (place_of w e))) (owner_apart v h) ∙ own

-- what the index says after both places were written
module _ (w : Entities) (e : EntityId) (p q : Place) (alive : is_alive w e ≡ true) where
  pub places_alone : (w1 : Entities) → w1 ≡ with_place w e.index q → (m : Option EntityId) → m ≡ None
      → (y : EntityId) → place_of w1 y ≡ refilled (λ z. cond (same_entity z e) (Some q) (place_of w z)) p m y
  places_alone w1 told m none y = ap (λ u. place_of u y) told ∙ place_after w e q alive y ∙ ap (λ o. refilled (λ z. cond (same_entity z e) (Some q) (place_of w z)) p o y) (sym none)

  pub places_both : (w1 w2 : Entities) (x : EntityId) → w1 ≡ with_place w e.index q → is_alive w1 x ≡ true → w2 ≡ with_place w1 x.index p → (m : Option EntityId) → m ≡ Some x
      → (y : EntityId) → place_of w2 y ≡ refilled (λ z. cond (same_entity z e) (Some q) (place_of w z)) p m y
  places_both w1 w2 x told alive' told' m some y = ap (λ u. place_of u y) told' ∙ place_after w1 x p alive' y
      ∙ ap (cond (same_entity y x) (Some p)) (ap (λ u. place_of u y) told ∙ place_after w e q alive y)
      ∙ ap (λ o. refilled (λ z. cond (same_entity z e) (Some q) (place_of w z)) p o y) (sym some)

-- the row of an entity is written where it stands
module _ (w : Entities) (s s' : Store) (sound : IsSound w s) (e : EntityId) (p : Place) (v : Cells) (at : place_of w e ≡ Some p) (stored : IsStored s')
    (rows : (r : Place) → row_at s' r ≡ with_row_at (row_at s) p (e, v) r) where
  pub sound_written : IsSound w s'
  sound_written = record {
    well_formed = sound.well_formed;
    stored = stored;
    last = sound.last;
    placed = AreInverse-write (place_of w) (row_at s) (row_at s') sound.placed e p v at rows;
  }

  pub alike_written : HoldAlike (meaning w s') (with_cells (meaning w s) e.index v)
  alike_written = alike_after w w s s' sound sound_written refl e (placed_alive w e p at) v (content-write (place_of w) (row_at s) (row_at s') sound.placed e p v at rows) refl
