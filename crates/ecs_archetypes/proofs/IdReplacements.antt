-- One id of an entity comes in the place of another.
use Rattle.std.proofs.Common.{◌≡◌, ◌≢◌, ℕ, true, false, cond, not, ◌&&◌, [], ◌∷◌, length, replicate, Some, None, option_map, unwrap_or, refl, sym, ap, subst, ◌∙◌}
use Rattle.std.specs.List.{filter}
use Rattle.std.specs.List.Sorted.{IsStrictlySortedBy}
use Rattle.std.specs.Ordering.{nat_cmp}
use Rattle.std.specs.FinMap.Entries.{find, put, find-put, is_sorted}
use Rattle.std.proofs.Math.Bool.{or-false}
use Rattle.ecs_id.specs.declared.EntityId.{EntityId}
use Rattle.ecs_id.specs.declared.Place.{Place}
use Rattle.ecs_id.specs.declared.TableKey.{TableKey}
use Rattle.ecs_id.specs.Id.{Id, id_cmp, id_cmp_total, id_eq, id_eq_itself}
use Rattle.entity_index.specs.Entities.{place_of}
use Rattle.table_store.specs.Rows.{Cells, carried, row_at, shape_of_cells}
use Rattle.table_store.specs.Store.{Shape, shape_at}
use Rattle.ecs_archetypes.specs.FactChanges.{changed_shape, is_among}
use Rattle.ecs_archetypes.specs.Holdings.{HoldAlike, Holdings, held_at, holds_id, is_settled, with_cells}
use Rattle.ecs_archetypes.specs.Housing.{Housing, IsHoused, holdings_of}
use Rattle.ecs_archetypes.specs.Tables.{HasGrown}
use Rattle.ecs_archetypes.proofs.ArchetypeCalls.{alike_with, found_lives, found_settled, row_here, none_where}
use Rattle.ecs_archetypes.proofs.CarriedCells.{find_shape}
use Rattle.ecs_archetypes.proofs.FactTables.{carried_changed}
use Rattle.ecs_archetypes.proofs.Soundness.{row_shape, row_sorted}

-- one id ascends
pub one_rises : (i : Id) → IsStrictlySortedBy id_cmp (i ∷ [])
unfolding IsStrictlySortedBy
one_rises i = (tt, tt)

module _ (b : Housing) (whole : IsHoused b) (e : EntityId) (p : Place) (at : place_of b.entities e ≡ Some p) where
  abbrev h : Holdings
  h = holdings_of b

  abbrev cells : Cells
  cells = held_at h e.index

  own : (cs : Cells) × (row_at b.tables p ≡ Some (e, cs)) × (cells ≡ cs)
  own = row_here b.entities b.tables whole h refl e (found_lives b.entities b.tables whole h refl e p at) p at

  -- the entity stands in the table of its ids
  pub stands : shape_at b.tables p.table ≡ Some (shape_of_cells cells)
  stands = row_shape b.entities b.tables whole p (e, own.0) own.1 ∙ ap (λ c. Some (shape_of_cells c)) (sym own.2)

  pub stays_settled : is_settled h e ≡ true
  stays_settled = found_settled b.entities b.tables whole h refl e p at

  order : is_sorted id_cmp cells ≡ true
  order = ap (is_sorted id_cmp) own.2 ∙ row_sorted b.entities b.tables whole p (e, own.0) own.1

  module _ (mid : Housing) (grown : HasGrown b.tables mid.tables) (alike : HoldAlike (holdings_of mid) h) (old i : Id) (n : ℕ) (unheld : holds_id h e.index i ≡ false)
      (to : TableKey) (shape : shape_at mid.tables to ≡ Some (changed_shape ((i, n) ∷ []) (is_among (old ∷ [])) (shape_of_cells cells))) where
    abbrev next : Shape
    next = changed_shape ((i, n) ∷ []) (is_among (old ∷ [])) (shape_of_cells cells)

    none : find id_cmp i cells ≡ None
    none = none_where (find id_cmp i cells) unheld

    -- the next table is another one
    pub apart_replaced : p.table ≢ to
    apart_replaced same =
        let both : Some (shape_of_cells cells) ≡ Some next = sym (grown.shapes p.table (shape_of_cells cells) stands) ∙ ap (shape_at mid.tables) same ∙ shape in
        let is : shape_of_cells cells ≡ next = cc in
        let before : find id_cmp i (shape_of_cells cells) ≡ None = find_shape cells i ∙ ap (option_map (λ c. length c)) none in
        let rest = filter (λ (c : Id × ℕ). not (is_among (old ∷ []) c.0)) (shape_of_cells cells) in
        let after : find id_cmp i next ≡ Some n = find-put id_cmp id_cmp_total i i n rest ∙ ap (λ b. cond b (Some n) (find id_cmp i rest)) (id_eq_itself i) in
        let no : None ≡ Some n = sym before ∙ ap (find id_cmp i) is ∙ after in cc

    held_still : held_at (holdings_of mid) e.index ≡ cells
    held_still = ap (λ c. unwrap_or (find nat_cmp e.index c) []) alike.cells

    -- and the row keeps its other values there
    pub alike_replaced : (a : Holdings) → ((f : Shape) → shape_at mid.tables to ≡ Some f → HoldAlike a (with_cells (holdings_of mid) e.index (carried f (held_at (holdings_of mid) e.index))))
        → HoldAlike a (with_cells h e.index (put id_cmp i (replicate n 0) (filter (λ c. not (id_eq c.0 old)) cells)))
    alike_replaced a moved = subst (λ c. HoldAlike a (with_cells h e.index c))
        (ap (carried next) held_still ∙ carried_changed cells ((i, n) ∷ []) (is_among (old ∷ [])) order (λ k. not (unheld k) && true)
        ∙ (λ k. put id_cmp i (replicate n 0) (filter (λ c. not (or-false (id_eq c.0 old) k)) cells)))
        (alike_with a (holdings_of mid) h h e.index _ (moved next shape) alike refl)
