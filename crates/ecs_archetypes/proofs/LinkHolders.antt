-- The entities in the tables that a pattern matches are exactly the live ones that hold such an id.
use Rattle.std.proofs.Common.{◌≡◌, ◌↔◌, ℕ, Bool, true, List, [], map, flat_map, Option, Some, None, refl, sym, ap, ◌∙◌, arith, ◌==◌}
use Rattle.std.proofs.lemmas.Bool.Decides.{nat_tests}
use Rattle.std.specs.Prelude.{unwrap_or, slice_get}
use Rattle.std.specs.List.{Contains, filter, list_any}
use Rattle.std.specs.Option.{option_eq, option_map_or}
use Rattle.std.specs.Ordering.{nat_cmp}
use Rattle.std.specs.Cmp.{nat_cmp_total}
use Rattle.std.specs.FinMap.{nat_cmp-IsAntisymmetric}
use Rattle.std.proofs.lemmas.Option.{get_or_from_slice_get, slice_get-get_or, slice_get_within}
use Rattle.ecs_id.specs.declared.EntityId.{EntityId}
use Rattle.ecs_id.specs.declared.Place.{Place}
use Rattle.ecs_id.specs.declared.TableKey.{TableKey}
use Rattle.ecs_id.specs.Id.{id_cmp, id_cmp_total}
use Rattle.id_pattern.specs.declared.Pattern.{Pattern}
use Rattle.id_pattern.specs.Patterns.{matches}
use Rattle.ecs_model.specs.Map.{has_key, keys, value_at}
use Rattle.ecs_model.proofs.Maps.{of_some, some_of}
use Rattle.ecs_model.proofs.Members.{filtered, from_flat_map, in_flat_map, passing}
use Rattle.ecs_model.proofs.steps.AddedSets.{from_map, in_map}
use Rattle.ecs_model.proofs.steps.Facts.{key_there, there_key}
use Rattle.table_store.specs.Rows.{Cells, Row, cells_of, row_at}
use Rattle.ecs_table.specs.Archetype.{Archetype}
use Rattle.table_store.specs.Store.{Store, table_at}
use Rattle.ecs_archetypes.specs.Holdings.{cells_at, held_at, holds_id, lives}
use Rattle.ecs_archetypes.specs.Housing.{IsHoused, holdings_of}
use Rattle.ecs_archetypes.specs.Scans.{HasMatch, HaveHolders, HaveRows}
use Rattle.ecs_archetypes.proofs.ArchetypeCalls.{row_here}
use Rattle.ecs_archetypes.proofs.Soundness.{holdings, row_table}
use Rattle.ecs_archetypes.specs.Linked.{Linked, ids_at_index, indexes, rows_under}

-- a row of a table, by its place in the list of entities
row_there : (s : Store) (k : TableKey) (t : Archetype) (e : EntityId) → table_at s k ≡ Some t → Contains t.entities e → (j : ℕ) × (row_at s (record { table = k; row = j }) ≡ Some (e, cells_of t j))
unfolding row_at
row_there s k t e at c =
    let found : slice_get t.entities c.0 ≡ Some e = slice_get-get_or t.entities c.0 e c.1 ∙ ap Some c.2 in
    (c.0, rw (at, found) refl)

-- an entity in a table is that of one of its rows
from_rows : (l : Linked) (k : TableKey) (y : ℕ) → Contains (rows_under l k) y → (j : ℕ) × (v : Row) × (row_at (l.housing).tables (record { table = k; row = j }) ≡ Some v) × ((v.0).index ≡ y)
from_rows l k y c = by (table_at (l.housing).tables k) refl c
  where
    by : (o : Option Archetype) → table_at (l.housing).tables k ≡ o → Contains (option_map_or (λ t. map (λ e. e.index) t.entities) o []) y
        → (j : ℕ) × (v : Row) × (row_at (l.housing).tables (record { table = k; row = j }) ≡ Some v) × ((v.0).index ≡ y)
    by None at h = absurd (omega (arith, h.1))
    by (Some t) at h =
        let e = from_map (λ (e : EntityId). e.index) t.entities y h in
        let r = row_there (l.housing).tables k t e.0 at e.1 in
        (r.0, (e.0, cells_of t r.0), r.1, e.2)

in_rows : (l : Linked) (p : Place) (v : Row) → row_at (l.housing).tables p ≡ Some v → Contains (rows_under l p.table) (v.0).index
in_rows l p v at =
    let t = row_table (l.housing).tables p v at in
    let here : Contains (t.0).entities v.0 = (p.row, slice_get_within (t.0).entities p.row v.0 t.2, get_or_from_slice_get (t.0).entities p.row v.0 v.0 t.2) in
    rw (t.1) (in_map (λ (e : EntityId). e.index) (t.0).entities v.0 here)

module _ (l : Linked) (sound : IsHoused l.housing) (rows : HaveRows l.housing) (pattern : Pattern) (tables : List TableKey)
    (listed : (k : TableKey) → Contains tables k ↔ HasMatch (l.housing).tables pattern k) (holders : HaveHolders l.housing pattern tables) where
  abbrev test : ℕ → Bool
  test y = list_any (matches pattern) (ids_at_index l y)

  live : (y : ℕ) → has_key nat_cmp (holdings_of l.housing).live y ≡ true → Contains (indexes l) y
  live y h = key_there nat_cmp nat_cmp-IsAntisymmetric (holdings_of l.housing).live y h

  -- a row of a listed table is of a live entity that holds a matching id
  passes : (k : TableKey) → Contains tables k → (j : ℕ) (v : Row) → row_at (l.housing).tables (record { table = k; row = j }) ≡ Some v → Contains (indexes l) (v.0).index × (test (v.0).index ≡ true)
  passes k c j v at =
      let p : Place = record { table = k; row = j } in
      let r = rows p v at in
      let held : held_at (holdings_of l.housing) (v.0).index ≡ v.1 = ap (λ o. unwrap_or o []) r.cells in
      let m = (listed k).0 c in
      let same : Some m.0 ≡ Some (keys v.1) = sym m.1 ∙ r.ids in
      let ids : m.0 ≡ keys v.1 = cc in (
        live (v.0).index (of_some (λ _. has_key nat_cmp (holdings_of l.housing).live (v.0).index ≡ true) (cells_at (holdings_of l.housing) (v.0).index) ((holdings (l.housing).entities (l.housing).tables sound).settled (v.0).index) v.1 r.cells),
        ap (λ (cs : Cells). list_any (matches pattern) (keys cs)) held ∙ ap (list_any (matches pattern)) (sym ids) ∙ m.2,
      )

  into : (y : ℕ) → Contains (flat_map (rows_under l) tables) y → Contains (filter test (indexes l)) y
  into y c =
      let k = from_flat_map (rows_under l) tables y c in
      let r = from_rows l k.0 y k.2 in
      let is = passes k.0 k.1 r.0 r.1 r.2 in
      (filtered test (indexes l) y).1 (rw r.3 at is)

  back : (y : ℕ) → Contains (filter test (indexes l)) y → Contains (flat_map (rows_under l) tables) y
  back y c =
      let f = (filtered test (indexes l) y).0 c in
      let g = some_of (value_at nat_cmp (holdings_of l.housing).live y) (there_key nat_cmp nat_cmp_total (holdings_of l.housing).live y f.0) in
      let e : EntityId = record { index = y; generation = g.0 } in
      let alive : lives (holdings_of l.housing) e ≡ true = ap (λ o. option_eq ◌==◌ o (Some g.0)) g.1 ∙ eq_same_number g.0 in
      let i = passing (matches pattern) (ids_at_index l y) f.1 in
      let held : holds_id (holdings_of l.housing) y i.0 ≡ true = there_key id_cmp id_cmp_total (held_at (holdings_of l.housing) y) i.0 i.1 in
      let p = holders e i.0 alive held i.2 in
      let r = row_here (l.housing).entities (l.housing).tables sound (holdings_of l.housing) refl e alive p.0 p.1 in
      in_flat_map (rows_under l) tables (p.0).table y p.2 (in_rows l p.0 (e, r.0) r.1)
    where
      eq_same_number : (n : ℕ) → (n == n) ≡ true
      eq_same_number n = grind (arith, nat_tests)

  pub all_listed : (y : ℕ) → Contains (flat_map (rows_under l) tables) y ↔ Contains (filter test (indexes l)) y
  all_listed y = (into y, back y)
