-- What is read of an entity's row.
use Rattle.std.proofs.Common.{◌≡◌, ◌<◌, ℕ, zero, suc, Bool, true, false, cond, ◌||◌, List, [], ◌∷◌, map, length, Option, Some, None, option_map, unwrap_or, is_some, refl, sym, ap, subst, ◌∙◌, get_or, arith}
use Rattle.std.proofs.lemmas.List.{length-map}
use Rattle.std.proofs.lemmas.Option.{slice_get_within}
use Rattle.std.proofs.Math.Bool.{or-true}
use Rattle.std.specs.Prelude.{nat_lt}
use Rattle.std.specs.List.{filter, list_any, slice_get, zip}
use Rattle.std.proofs.lemmas.Bool.{false≢true}
use Rattle.std.proofs.lemmas.List.Folds.{list_any_at}
use Rattle.std.proofs.lemmas.List.Quantifiers.{position-Some}
use Rattle.std.specs.Ordering.{nat_cmp}
use Rattle.std.specs.FinMap.Entries.{find}
use Rattle.ecs_id.specs.declared.EntityId.{EntityId}
use Rattle.ecs_id.specs.declared.Place.{Place}
use Rattle.ecs_id.specs.Id.{Id, id_cmp, id_eq, id_eq_itself, id_eq_same, id_eq_turned}
use Rattle.ecs_model.specs.Map.{keys}
use Rattle.ecs_table.specs.Archetype as table
use Rattle.ecs_table.specs.Archetype.{Archetype, Cells, ids_with_data, index_in, value_of, values_at}
use Rattle.entity_index.specs.Entities.{Entities, is_alive, place_of}
use Rattle.entity_index.specs.Entities as index
use Rattle.ecs_archetypes.specs.Archetypes.{IsSound, cells_there, meaning}
use Rattle.ecs_archetypes.specs.Holdings.{Holdings, bytes_at, cells_at, held_at, holds_id, lives}
use Rattle.table_store.specs.Rows.{Row, cells_of, row_at}
use Rattle.table_store.specs.Store.{Store, table_at}
use Rattle.ecs_archetypes.proofs.Placings.{content}
use Rattle.ecs_archetypes.proofs.Soundness.{cells_found, dead_nowhere, found_alive, own_row, placed_alive, row_table}
use Rattle.ecs_archetypes.proofs.ArchetypeCalls.{cells_view, no_value}

-- the cells of a row, one by one
keys_made : (g : Id → List ℕ) (ids : List Id) → map {A = Id × List ℕ} (λ c. c.0) (map (λ i. (i, g i)) ids) ≡ ids
keys_made g [] = refl
keys_made g (i ∷ ids) = λ k. i ∷ keys_made g ids k

pub keys_cells : (t : Archetype) (r : ℕ) → keys (cells_of t r) ≡ t.ids
keys_cells t r = keys_made (λ i. unwrap_or (value_of t r i) []) t.ids

find_made : (g : Id → List ℕ) (i : Id) (ids : List Id) → find id_cmp i (map (λ k. (k, g k)) ids) ≡ cond (list_any (λ k. id_eq k i) ids) (Some (g i)) None
find_made g i [] = refl
find_made g i (k ∷ ids) = by (id_eq i k) refl (find_made g i ids) ∙ ap (λ b. cond (b || list_any (λ k. id_eq k i) ids) (Some (g i)) None) (id_eq_turned i k)
  where
    by : (b : Bool) → id_eq i k ≡ b → find id_cmp i (map (λ k. (k, g k)) ids) ≡ cond (list_any (λ k. id_eq k i) ids) (Some (g i)) None
        → cond b (Some (g k)) (find id_cmp i (map (λ k. (k, g k)) ids)) ≡ cond (b || list_any (λ k. id_eq k i) ids) (Some (g i)) None
    by true e rest = ap (λ z. Some (g z)) (sym (id_eq_same i k e))
    by false e rest = rest

module _ (t : Archetype) (r : ℕ) (i : Id) (ids : List Id) (same : ids ≡ t.ids) (b : Bool) (answer : b ≡ list_any (λ k. id_eq k i) ids) where
  found_by : find id_cmp i (cells_of t r) ≡ cond b (Some (unwrap_or (value_of t r i) [])) None
  found_by = find_made (λ k. unwrap_or (value_of t r k) []) i t.ids ∙ ap (λ z. cond z (Some (unwrap_or (value_of t r i) [])) None) (ap (list_any (λ k. id_eq k i)) (sym same) ∙ sym answer)

  pub value_missing : b ≡ false → None ≡ find id_cmp i (cells_of t r)
  value_missing out = sym (found_by ∙ ap (λ z. cond z (Some (unwrap_or (value_of t r i) [])) None) out)

  pub value_listed : b ≡ true → (o : Option (List ℕ)) → value_of t r i ≡ o → Some (unwrap_or o []) ≡ find id_cmp i (cells_of t r)
  value_listed within o e = sym (found_by ∙ ap (λ z. cond z (Some (unwrap_or (value_of t r i) [])) None) within ∙ ap (λ z. Some (unwrap_or z [])) e)

-- an id with data is one of the table's
any_with_data : (f : Id → Bool) (ids : List Id) (sizes : List ℕ) → list_any f (ids_with_data ids sizes) ≡ true → list_any f ids ≡ true
any_with_data f [] sizes h = h
any_with_data f (i ∷ ids) [] h = absurd (false≢true h)
any_with_data f (i ∷ ids) (s ∷ sizes) h =
    elim (nat_lt 0 s) as (λ b. list_any f (map (λ p. p.0) (cond b ((i, s) ∷ filter (λ p. nat_lt 0 p.1) (zip ids sizes)) (filter (λ p. nat_lt 0 p.1) (zip ids sizes)))) ≡ true → (f i || list_any f ids) ≡ true) [
      | true ↦ λ g. elim (f i) as (λ b. (b || list_any f (ids_with_data ids sizes)) ≡ true → (b || list_any f ids) ≡ true) [ true ↦ λ _. refl | false ↦ λ k. any_with_data f ids sizes k ] g
      | false ↦ λ g. or_later (f i) (any_with_data f ids sizes g)
    ] h
  where
    or_later : (a : Bool) {b : Bool} → b ≡ true → (a || b) ≡ true
    or_later true e = refl
    or_later false e = e

value_among : (t : Archetype) (r : ℕ) (i : Id) (bytes : List ℕ) (o : Option ℕ) → index_in t.data_ids i ≡ o → elim o [ None ↦ None | Some k ↦ slice_get (values_at t.columns k).items r ] ≡ Some bytes → list_any (λ j. id_eq j i) t.data_ids ≡ true
unfolding index_in
value_among t r i bytes None f h = cc
value_among t r i bytes (Some k) f h = let found = position-Some (λ j. id_eq j i) t.data_ids k i f in list_any_at (λ j. id_eq j i) t.data_ids k i found.0 found.1

pub value_held : (t : Archetype) (r : ℕ) (i : Id) → table.IsSound t → (bytes : List ℕ) → value_of t r i ≡ Some bytes → Some bytes ≡ find id_cmp i (cells_of t r)
value_held t r i sound bytes e =
    let with_data : list_any (λ j. id_eq j i) (ids_with_data t.ids sound.sizes) ≡ true = subst (λ ids. list_any (λ j. id_eq j i) ids ≡ true) sound.with_data (value_among t r i bytes (index_in t.data_ids i) refl e) in
    let listed : list_any (λ j. id_eq j i) t.ids ≡ true = any_with_data (λ j. id_eq j i) t.ids sound.sizes with_data in
    value_listed t r i t.ids refl true (sym listed) refl (Some bytes) e

-- the id at a place of a row
at_place : (ids : List Id) (k : ℕ) (i : Id) → k < length ids → i ≡ get_or ids k i → slice_get ids k ≡ Some i
at_place [] k i h e = absurd (omega arith)
at_place (j ∷ ids) zero i h e = ap Some (sym e)
at_place (j ∷ ids) (suc k) i h e = at_place ids k i (omega arith) e

pub id_at : (t : Archetype) (r : ℕ) (ids : List Id) → ids ≡ t.ids → (cells : Cells) → cells_of t r ≡ cells → (k : ℕ) (i : Id) → k < length cells → i ≡ get_or ids k i → slice_get t.ids k ≡ Some i
id_at t r ids same cells view k i h e =
    let count : length t.ids ≡ length cells = ap (λ z. length z) (sym (keys_cells t r)) ∙ length-map (cells_of t r) (λ c. c.0) ∙ ap (λ z. length z) view in
    let within : k < length ids = rw same (rw count h) in
    ap (λ z. slice_get z k) (sym same) ∙ at_place ids k i within e

abbrev cell : Id → List ℕ → Id × List ℕ
cell i bytes = (i, bytes)

-- the cell at a place of a row
pub cell_at : (t : Archetype) (r k : ℕ) (i : Id) (o : Option (List ℕ)) → slice_get t.ids k ≡ Some i → value_of t r i ≡ o
    → (slice_get (cells_of t r) k ≡ Some (cell i (unwrap_or o []))) × (find id_cmp i (cells_of t r) ≡ Some (unwrap_or o []))
cell_at t r k i o at is = (made t.ids k at ∙ here, find_made g i t.ids ∙ ap (λ b. cond b (Some (g i)) None) (among t.ids k at) ∙ ap (λ z. Some (unwrap_or z [])) is)
  where
    g : Id → List ℕ
    g i = unwrap_or (value_of t r i) []

    here : Some (cell i (g i)) ≡ Some (cell i (unwrap_or o []))
    here = ap (λ z. Some (cell i (unwrap_or z []))) is

    made : (ids : List Id) (k : ℕ) → slice_get ids k ≡ Some i → slice_get (map (λ i. cell i (g i)) ids) k ≡ Some (cell i (g i))
    made [] k h = cc
    made (j ∷ ids) zero h = let same : j ≡ i = cc in ap (λ z. Some (cell z (g z))) same
    made (j ∷ ids) (suc k) h = made ids k h

    among : (ids : List Id) (k : ℕ) → slice_get ids k ≡ Some i → list_any (λ j. id_eq j i) ids ≡ true
    among [] k h = cc
    among (j ∷ ids) zero h = let same : j ≡ i = cc in ap (λ b. b || list_any (λ j. id_eq j i) ids) (ap (λ z. id_eq z i) same ∙ id_eq_itself i)
    among (j ∷ ids) (suc k) h = ap (λ b. id_eq j i || b) (among ids k h) ∙ or-true (id_eq j i)

some_of_cond : {X : Type 0} (b : Bool) (x : X) → is_some (cond b (Some x) None) ≡ b
some_of_cond true x = refl
some_of_cond false x = refl

-- the entity that is found at an index is alive there
pub entity_found : (w : Entities) (i : ℕ) (e : EntityId) → index.entity_at w i ≡ Some e → (is_alive w e ≡ true) × (e.index ≡ i)
entity_found w i e h = by (find nat_cmp i w.live) refl h
  where
    by : (o : Option ℕ) → find nat_cmp i w.live ≡ o → option_map (λ g. record { index = i; generation = g }) o ≡ Some e → (is_alive w e ≡ true) × (e.index ≡ i)
    by None f k = cc
    by (Some g) f k =
        let x : EntityId = record { index = i; generation = g } in
        let a : Some x ≡ Some e = k in let same : x ≡ e = cc in
        (ap (is_alive w) (sym same) ∙ found_alive w x f, ap (λ z. z.index) (sym same))

-- a row stands in its table
module _ (s : Store) (p : Place) (v : Row) (at : row_at s p ≡ Some v) where
  pub table_stands : table_at s p.table ≡ None → ⊥
  table_stands none = let t = row_table s p v at in let no : None ≡ Some t.0 = sym none ∙ t.1 in cc

  pub in_its_table : (t : Archetype) → table_at s p.table ≡ Some t → (p.row < length t.entities) × (v.1 ≡ cells_of t p.row)
  in_its_table t there =
      let u = row_table s p v at in
      let same : u.0 ≡ t = let k : Some u.0 ≡ Some t = sym u.1 ∙ there in cc in
      (subst (λ z. p.row < length z.entities) same (slice_get_within (u.0).entities p.row v.0 u.2), u.3 ∙ ap (λ z. cells_of z p.row) same)

module _ (w : Entities) (s : Store) (sound : IsSound w s) (h : Holdings) (view : meaning w s ≡ h) where
  no_bytes : (i : ℕ) (id : Id) → cells_at h i ≡ None → None ≡ bytes_at h i id
  no_bytes i id none = sym (ap (λ o. find id_cmp id (unwrap_or o [])) none)

  pub none_alive : (i : ℕ) (id : Id) → index.entity_at w i ≡ None → None ≡ bytes_at h i id
  none_alive i id none = no_bytes i id (ap (λ z. cells_at z i) (sym view) ∙ cells_found w s sound i
      ∙ ap (option_map (cells_there s)) (dead_nowhere w sound.well_formed i (no_value (λ g. record { index = i; generation = g }) (find nat_cmp i w.live) none)))

  lives_there : (e : EntityId) → is_alive w e ≡ true → lives h e ≡ true
  lives_there e a = ap (λ z. lives z e) (sym view) ∙ a

  pub none_placed : (i : ℕ) (id : Id) (e : EntityId) → index.entity_at w i ≡ Some e → place_of w e ≡ None → None ≡ bytes_at h i id
  none_placed i id e found none =
      let a = entity_found w i e found in
      no_bytes i id (ap (cells_at h) (sym a.1) ∙ cells_view w s sound h view e (lives_there e a.0) ∙ ap (content (row_at s)) none)

  module _ (e : EntityId) (p : Place) (at : place_of w e ≡ Some p) where
    pub no_table : table_at s p.table ≡ None → ⊥
    no_table = let r = own_row w s sound e p at in table_stands s p (e, r.0) r.1

    module _ (t : Archetype) (there : table_at s p.table ≡ Some t) where
      pub row_fits : p.row < length t.entities
      row_fits = let r = own_row w s sound e p at in (in_its_table s p (e, r.0) r.1 t there).0

      cells_read : cells_at h e.index ≡ Some (cells_of t p.row)
      cells_read = let r = own_row w s sound e p at in
          cells_view w s sound h view e (lives_there e (placed_alive w e p at)) ∙ ap (content (row_at s)) at ∙ ap (option_map (λ r. r.1)) r.1 ∙ ap Some (in_its_table s p (e, r.0) r.1 t there).1

      pub bytes_read : (i : ℕ) (id : Id) → index.entity_at w i ≡ Some e → find id_cmp id (cells_of t p.row) ≡ bytes_at h i id
      bytes_read i id found = sym (ap (λ o. find id_cmp id (unwrap_or o [])) (ap (cells_at h) (sym (entity_found w i e found).1) ∙ cells_read))

      pub ids_read : Some t.ids ≡ cond (lives h e) (option_map (λ c. keys c) (cells_at h e.index)) None
      ids_read = sym (ap (λ b. cond b (option_map (λ c. keys c) (cells_at h e.index)) None) (lives_there e (placed_alive w e p at)) ∙ ap (option_map (λ c. keys c)) cells_read ∙ ap Some (keys_cells t p.row))

      pub facts_read : Some (cells_of t p.row) ≡ cond (lives h e) (cells_at h e.index) None
      facts_read = sym (ap (λ b. cond b (cells_at h e.index) None) (lives_there e (placed_alive w e p at)) ∙ cells_read)

      held_cells : held_at h e.index ≡ cells_of t p.row
      held_cells = ap (λ o. unwrap_or o []) cells_read

      pub held_read : (id : Id) (b : Bool) → b ≡ list_any (λ k. id_eq k id) t.ids → b ≡ holds_id h e.index id
      held_read id b answer = sym (some_of_cond b (unwrap_or (value_of t p.row id) [])) ∙ ap is_some (sym (ap (find id_cmp id) held_cells ∙ found_by t p.row id t.ids refl b answer))

      pub count_read : length t.ids ≡ length (held_at h e.index)
      count_read = ap (λ z. length z) (sym (keys_cells t p.row)) ∙ length-map (cells_of t p.row) (λ c. c.0) ∙ ap (λ z. length z) (sym held_cells)

  pub no_ids : (e : EntityId) → place_of w e ≡ None → None ≡ cond (lives h e) (option_map (λ c. keys c) (cells_at h e.index)) None
  no_ids e none = by (lives h e) refl
    where
      by : (b : Bool) → lives h e ≡ b → None ≡ cond b (option_map (λ c. keys c) (cells_at h e.index)) None
      by true a = sym (ap (option_map (λ c. keys c)) (cells_view w s sound h view e a ∙ ap (content (row_at s)) none))
      by false a = refl

  pub no_facts : (e : EntityId) → place_of w e ≡ None → None ≡ cond (lives h e) (cells_at h e.index) None
  no_facts e none = by (lives h e) refl
    where
      by : (b : Bool) → lives h e ≡ b → None ≡ cond b (cells_at h e.index) None
      by true a = sym (cells_view w s sound h view e a ∙ ap (content (row_at s)) none)
      by false a = refl
