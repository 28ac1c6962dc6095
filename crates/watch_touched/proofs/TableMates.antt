-- Those who stand in one table hold the same ids, so all of them lean on an entity, or none does.
use Rattle.std.proofs.Common.{◌≡◌, ℕ, ◌+◌, ◌<◌, ◌==◌, ◌&&◌, Bool, true, false, true≢false, List, [], length, get_or, map, take, Option, Some, None, refl, sym, ap, subst, ◌∙◌, arith}
use Rattle.std.specs.Prelude.{filter, flat_map, option_map, unwrap_or}
use Rattle.std.specs.List.{Contains, list_all, list_any}
use Rattle.std.specs.Option.{option_map_or}
use Rattle.std.proofs.lemmas.Option.{slice_get-get_or}
use Rattle.id_pattern.specs.Patterns.{matches}
use Rattle.ecs_id.specs.Id.{Id}
use Rattle.ecs_id.specs.declared.EntityId.{EntityId}
use Rattle.ecs_id.specs.declared.Place.{Place}
use Rattle.ecs_id.specs.declared.TableKey.{TableKey}
use Rattle.ecs_archetypes.specs.Holdings.{cells_at}
use Rattle.ecs_archetypes.specs.Housing.{holdings_of}
use Rattle.ecs_archetypes.specs.Scans.{HaveRows}
use Rattle.ecs_archetypes.specs.Linked.{Linked, ids_at_index, rows_under}
use Rattle.ecs_model.specs.Map.{keys}
use Rattle.ecs_model.specs.World.{WorldState, ids_of}
use Rattle.ecs_model.proofs.Members.{eq_same, filtered, passing}
use Rattle.ecs_model.proofs.steps.AddedSets.{from_map}
use Rattle.ecs_model.proofs.steps.LivingIds.{each_passes}
use Rattle.ecs_table.specs.Archetype.{Archetype}
use Rattle.table_store.specs.Rows.{Row, cells_of, row_at}
use Rattle.table_store.specs.Store.{Store, ids_at, table_at}
use Rattle.watch_touched.specs.Leaning.{Adds, HoldAll, HoldTheirs, leans, pairs_to, standing_in}
use Rattle.watch_touched.proofs.GrownLists.{already, fewer, given_within}

row_under : (s : Store) (k : TableKey) (t : Archetype) (j : ℕ) (d : EntityId) → table_at s k ≡ Some t → j < length t.entities → row_at s (record { table = k; row = j }) ≡ Some (get_or t.entities j d, cells_of t j)
unfolding row_at
row_under s k t j d at l = let found = slice_get-get_or t.entities j d l in rw (at, found) refl

module _ (l : Linked) (rows : HaveRows l.housing) where
  -- who stands in a table has its ids
  has_ids : (k : TableKey) (z : ℕ) → Contains (rows_under l k) z → ids_at_index l z ≡ unwrap_or (ids_at (l.housing).tables k) []
  has_ids k z h = by (table_at (l.housing).tables k) refl h
    where
      by : (o : Option Archetype) → table_at (l.housing).tables k ≡ o → Contains (option_map_or (λ t. map (λ e. e.index) t.entities) o []) z → ids_at_index l z ≡ unwrap_or (ids_at (l.housing).tables k) []
      by None at c = absurd (omega (arith, c.1))
      by (Some t) at c =
          let e = from_map (λ (e : EntityId). e.index) t.entities z c in
          let j = (e.1).0 in
          let p : Place = record { table = k; row = j } in
          let v : Row = (e.0, cells_of t j) in
          let there : row_at (l.housing).tables p ≡ Some v = row_under (l.housing).tables k t j e.0 at (e.1).1 ∙ ap (λ (x : EntityId). Some (x, cells_of t j)) (e.1).2 in
          let row = rows p v there in
          ap (λ n. keys (unwrap_or (cells_at (holdings_of l.housing) n) [])) (sym e.2) ∙ ap (λ o. keys (unwrap_or o [])) row.cells ∙ sym (ap (λ o. unwrap_or o []) row.ids)

  pub theirs_by_tables : (w : WorldState) → ((e : ℕ) → ids_of w e ≡ ids_at_index l e) → HoldTheirs w (l.housing).tables
  theirs_by_tables w are k t at e there =
      let within : Contains (rows_under l k) e = subst (λ (o : Option Archetype). Contains (option_map_or (λ u. map (λ (x : EntityId). x.index) u.entities) o []) e) (sym at) there in
      are e ∙ has_ids k e within ∙ ap (λ (o : Option Archetype). unwrap_or (option_map (λ u. u.ids) o) []) at

-- ---- where all hold the same ids

module _ (p : List Id → Id → Bool) (w : WorldState) (x : ℕ) (entities : List EntityId) (found : List ℕ) where
  abbrev indexes : List ℕ
  indexes = map (λ (e : EntityId). e.index) entities

  -- who is there already needn't be added
  pub all_there : list_all (λ (e : EntityId). list_any (λ y. y == e.index) found) entities ≡ true → Adds (filter (leans p w x) indexes) found found
  all_there are =
      already (filter (leans p w x) indexes) found
      (λ y m.
      let e = from_map (λ (e : EntityId). e.index) entities y ((filtered (leans p w x) indexes y).0 m).0 in
      let same = passing (λ z. z == (e.0).index) found (each_passes (λ (e : EntityId). list_any (λ y. y == e.index) found) entities are e.0 e.1) in
      subst (Contains found) (eq_same same.0 (e.0).index same.2 ∙ e.2) same.1)

  -- where by these ids none leans, none does
  pub nobody_by : (ids : List Id) → HoldAll w ids indexes → list_any (λ i. matches (pairs_to x) i && p ids i) ids ≡ false → Adds (filter (leans p w x) indexes) found found
  nobody_by ids all fails =
      already (filter (leans p w x) indexes) found
      (λ y m.
      let kept = (filtered (leans p w x) indexes y).0 m in
      let same : leans p w x y ≡ false = ap (λ (held : List Id). list_any (λ i. matches (pairs_to x) i && p held i) held) (all y kept.0) ∙ fails in
      absurd (true≢false (sym kept.1 ∙ same)))

  -- more may be added than those who lean
  pub all_added : (after : List ℕ) → Adds indexes found after → Adds (filter (leans p w x) indexes) found after
  all_added after adds = fewer indexes (filter (leans p w x) indexes) found after adds (λ e m. ((filtered (leans p w x) indexes e).0 m).0)

-- ---- one more table

module _ (p : List Id → Id → Bool) (w : WorldState) (x : ℕ) (s : Store) (tables : List TableKey) (i : ℕ) (inside : i < length tables) (d : TableKey) (before found : List ℕ)
    (so_far : Adds (filter (leans p w x) (flat_map (standing_in s) (take i tables))) before found) where
  pub no_table : table_at s (get_or tables i d) ≡ None → Adds (filter (leans p w x) (flat_map (standing_in s) (take (i + 1) tables))) before found
  no_table none =
      let nobody : Adds (filter (leans p w x) (standing_in s (get_or tables i d))) found found =
      subst (λ (o : Option Archetype). Adds (filter (leans p w x) (option_map_or (λ t. map (λ (e : EntityId). e.index) t.entities) o [])) found found) (sym none) (already [] found (λ e m. absurd (omega (arith, m.1)))) in
      given_within (leans p w x) (standing_in s) tables i inside d before found found so_far nobody

  pub its_rows : (t : Archetype) → table_at s (get_or tables i d) ≡ Some t → (after : List ℕ) → Adds (filter (leans p w x) (map (λ (e : EntityId). e.index) t.entities)) found after
      → Adds (filter (leans p w x) (flat_map (standing_in s) (take (i + 1) tables))) before after
  its_rows t there after adds =
      let these : Adds (filter (leans p w x) (standing_in s (get_or tables i d))) found after =
      subst (λ (o : Option Archetype). Adds (filter (leans p w x) (option_map_or (λ u. map (λ (e : EntityId). e.index) u.entities) o [])) found after) (sym there) adds in
      given_within (leans p w x) (standing_in s) tables i inside d before found after so_far these
