-- What a scan of tables finds: rows of exactly the tables' ids, and every holder of an id.
use Rattle.std.proofs.Common.{◌≡◌, ◌↔◌, ℕ, Bool, true, false, cond, ◌||◌, List, [], ◌∷◌, map, Some, option_map, is_some, refl, sym, ap, ◌∙◌}
use Rattle.std.specs.Prelude.{Contains}
use Rattle.std.specs.List.{list_any}
use Rattle.std.specs.FinMap.Entries.{find}
use Rattle.ecs_id.specs.declared.Place.{Place}
use Rattle.ecs_id.specs.declared.TableKey.{TableKey}
use Rattle.ecs_id.specs.Id.{Id, id_cmp, id_eq, id_eq_same}
use Rattle.ecs_model.specs.Map.{keys}
use Rattle.ecs_model.proofs.Maps.{some_of}
use Rattle.id_pattern.specs.declared.Pattern.{Pattern}
use Rattle.id_pattern.specs.Patterns.{matches}
use Rattle.entity_index.specs.Entities.{Entities, place_of}
use Rattle.table_store.specs.Rows.{Cells, Row, row_at, shape_of_cells}
use Rattle.table_store.specs.Store.{Store, ids_at}
use Rattle.ecs_archetypes.specs.Archetypes.{IsSound}
use Rattle.ecs_archetypes.specs.Housing.{Housing, IsHoused, holdings_of}
use Rattle.ecs_archetypes.specs.Scans.{HasMatch, HaveHolders, HaveRows}
use Rattle.ecs_archetypes.proofs.ArchetypeCalls.{held_there, row_here}
use Rattle.ecs_archetypes.proofs.Placings.{content}
use Rattle.ecs_archetypes.proofs.Soundness.{cells_alive, placed_alive, row_shape}
use Rattle.ecs_archetypes.proofs.EnteredTables.{ids_of_shape}

firsts : (cs : Cells) → map {A = Id × ℕ} (λ c. c.0) (shape_of_cells cs) ≡ keys cs
firsts [] = refl
firsts (c ∷ cs) = λ k. c.0 ∷ firsts cs k

-- a row holds exactly the ids of its table
row_ids : (w : Entities) (s : Store) → IsSound w s → (p : Place) (v : Row) → row_at s p ≡ Some v → ids_at s p.table ≡ Some (keys v.1)
row_ids w s sound p v at = ids_of_shape s p.table ∙ ap (option_map (λ f. map (λ c. c.0) f)) (row_shape w s sound p v at) ∙ ap Some (firsts v.1)

pub have_rows : (h : Housing) → IsHoused h → HaveRows h
have_rows h sound p v at =
    let place : place_of h.entities v.0 ≡ Some p = (sound.placed v.0 p).1 (ap (option_map (λ r. r.0)) at) in
    record {
      place = place;
      cells = cells_alive h.entities h.tables sound v.0 (placed_alive h.entities v.0 p place) ∙ ap (content (row_at h.tables)) place ∙ ap (option_map (λ r. r.1)) at;
      ids = row_ids h.entities h.tables sound p v at;
    }

any_key : (test : Id → Bool) (i : Id) → test i ≡ true → (cs : Cells) → is_some (find id_cmp i cs) ≡ true → list_any test (keys cs) ≡ true
any_key test i passes [] has = has
any_key test i passes (c ∷ cs) has = by (id_eq i c.0) refl has (any_key test i passes cs)
  where
    or_true : (b : Bool) → (b || true) ≡ true
    or_true true = refl
    or_true false = refl

    by : (b : Bool) → id_eq i c.0 ≡ b → is_some (cond b (Some c.1) (find id_cmp i cs)) ≡ true → (is_some (find id_cmp i cs) ≡ true → list_any test (keys cs) ≡ true) → (test c.0 || list_any test (keys cs)) ≡ true
    by true e h rest = ap (λ b. b || list_any test (keys cs)) (ap test (sym (id_eq_same i c.0 e)) ∙ passes)
    by false e h rest = ap (λ b. test c.0 || b) (rest h) ∙ or_true (test c.0)

module _ (h : Housing) (sound : IsHoused h) (pattern : Pattern) (tables : List TableKey) (listed : (k : TableKey) → Contains tables k ↔ HasMatch h.tables pattern k) where
  pub all_holders : HaveHolders h pattern tables
  all_holders e i alive holds passes =
      let p = some_of (place_of h.entities e) (held_there h.entities h.tables sound (holdings_of h) refl e alive i holds) in
      let r = row_here h.entities h.tables sound (holdings_of h) refl e alive p.0 p.1 in
      (p.0, p.1, (listed (p.0).table).1 (keys r.0, row_ids h.entities h.tables sound p.0 (e, r.0) r.1, any_key (matches pattern) i passes r.0 (ap (λ c. is_some (find id_cmp i c)) (sym r.2) ∙ holds)))
