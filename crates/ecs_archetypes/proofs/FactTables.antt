-- The shape of an entity's table after facts of it have come and gone.
use Rattle.std.proofs.Common.{◌≡◌, ℕ, Bool, true, false, cond, not, List, [], ◌∷◌, length, get_or, replicate, Option, Some, None, is_some, option_map, unwrap_or, refl, sym, ap, subst, ◌∙◌, arith}
use Rattle.std.specs.Prelude.{fold, nat_le}
use Rattle.std.specs.List.{filter, list_all}
use Rattle.std.specs.Ordering.{nat_cmp}
use Rattle.std.specs.declared.cmp.Ordering.{Ordering}
use Rattle.std.specs.declared.cmp.Ordering.TheVariants.{Less, Equal, Greater}
use Rattle.std.specs.FinMap.Entries.{find, put, is_sorted, by_order, is_sorted-put, is_sorted-where_key}
use Rattle.component_index.proofs.ListedLemmas.{or_none}
use Rattle.ecs_id.specs.declared.EntityId.{EntityId}
use Rattle.ecs_id.specs.declared.Place.{Place}
use Rattle.ecs_id.specs.declared.TableKey.{TableKey}
use Rattle.ecs_id.specs.Id.{Id, id_cmp, id_cmp_same, id_cmp_total, id_eq}
use Rattle.ecs_model.specs.World.{Key}
use Rattle.ecs_model.proofs.Maps.{both_true, from_T, of_some, some_of, to_T}
use Rattle.entity_index.specs.Entities.{Entities, entity_at, place_of}
use Rattle.table_store.specs.Rows.{Cells, carried, shape_of_cells}
use Rattle.table_store.specs.Store.{Shape, Store, shape_at, with_id, without_id}
use Rattle.ecs_archetypes.specs.Archetypes.{IsSound, known_in, meaning}
use Rattle.ecs_archetypes.specs.FactChanges.{Coming, changed_cells, changed_shape, ids_among, ids_coming, is_among}
use Rattle.ecs_archetypes.specs.Holdings.{AreHoldings, Holdings, KeepsSizes, agrees, cells_at, held_at, is_settled, lives, sizes_of}
use Rattle.ecs_archetypes.specs.Housing.{Housing, IsHoused, holdings_of}
use Rattle.ecs_archetypes.proofs.ArchetypeCalls.{found_settled}
use Rattle.ecs_archetypes.proofs.CarriedCells.{carried_self}
use Rattle.ecs_archetypes.proofs.FactLists.{put_size}
use Rattle.ecs_archetypes.proofs.KnownIds.{of_shape}
use Rattle.ecs_archetypes.proofs.MapLists.{list_all_filter, list_all_put, sorted_mapped}
use Rattle.ecs_archetypes.proofs.Soundness.{alive_found, held_row, holdings, placed_alive, row_shape, row_sorted}

-- ids that come keep a list in order, and what is said of all
put_sorted : (cs m : Shape) → is_sorted id_cmp m ≡ true → is_sorted id_cmp (fold put_size m cs) ≡ true
put_sorted [] m h = h
put_sorted (c ∷ cs) m h = put_sorted cs (put_size m c) (from_T (is_sorted id_cmp (put_size m c)) (is_sorted-put id_cmp id_cmp_total c.0 c.1 m (to_T (is_sorted id_cmp m) h)))

pub changed_sorted : (cs : Shape) (goes : Id → Bool) (f : Shape) → is_sorted id_cmp f ≡ true → is_sorted id_cmp (changed_shape cs goes f) ≡ true
changed_sorted cs goes f h = put_sorted cs (filter (λ e. not (goes e.0)) f) (from_T (is_sorted id_cmp (filter (λ e. not (goes e.0)) f)) (is_sorted-where_key id_cmp (λ k. not (goes k)) f (to_T (is_sorted id_cmp f) h)))

put_all : (test : Id × ℕ → Bool) (cs m : Shape) → list_all test m ≡ true → list_all test cs ≡ true → list_all test (fold put_size m cs) ≡ true
put_all test [] m old new = old
put_all test (c ∷ cs) m old new =
    let parts = both_true (test c) (list_all test cs) new in
    put_all test cs (put_size m c) (list_all_put id_cmp id_cmp_same test c.0 c.1 m old parts.0) parts.1

pub changed_all : (test : Id × ℕ → Bool) (cs : Shape) (goes : Id → Bool) (f : Shape) → list_all test f ≡ true → list_all test cs ≡ true → list_all test (changed_shape cs goes f) ≡ true
changed_all test cs goes f old new = put_all test cs (filter (λ e. not (goes e.0)) f) (list_all_filter test (λ e. not (goes e.0)) f old) new

-- the cells that are carried to such a table
module _ (cells : Cells) where
  abbrev zeros : Cells → Id × ℕ → Cells
  zeros m c = put id_cmp c.0 (replicate c.1 0) m

  carried_filter : (p : Id → Bool) (f : Shape) → carried (filter (λ e. not (p e.0)) f) cells ≡ filter (λ e. not (p e.0)) (carried f cells)
  carried_filter p [] = refl
  carried_filter p (c ∷ f) = by (p c.0) (carried_filter p f)
    where
      by : (b : Bool) → carried (filter (λ e. not (p e.0)) f) cells ≡ filter (λ e. not (p e.0)) (carried f cells)
          → carried (cond (not b) (c ∷ filter (λ e. not (p e.0)) f) (filter (λ e. not (p e.0)) f)) cells
          ≡ cond (not b) ((c.0, unwrap_or (find id_cmp c.0 cells) (replicate c.1 0)) ∷ filter (λ e. not (p e.0)) (carried f cells)) (filter (λ e. not (p e.0)) (carried f cells))
      by true rest = rest
      by false rest = ap (λ z. (c.0, unwrap_or (find id_cmp c.0 cells) (replicate c.1 0)) ∷ z) rest

  abbrev own : Id × ℕ → List ℕ
  own e = unwrap_or (find id_cmp e.0 cells) (replicate e.1 0)

  absent : (o : Option (List ℕ)) → not (is_some o) ≡ true → o ≡ None
  absent None h = refl
  absent (Some x) h = cc

  carried_put : (c : Id × ℕ) (f : Shape) → find id_cmp c.0 cells ≡ None → carried (put_size f c) cells ≡ zeros (carried f cells) c
  carried_put c [] none = ap (λ o. (c.0, unwrap_or o (replicate c.1 0)) ∷ []) none
  carried_put c (e ∷ f) none = by (id_cmp c.0 e.0) refl (carried_put c f none)
    where
      by : (r : Ordering) → id_cmp c.0 e.0 ≡ r → carried (put_size f c) cells ≡ zeros (carried f cells) c
          → carried (by_order r (c ∷ e ∷ f) ((e.0, c.1) ∷ f) (e ∷ put_size f c)) cells
          ≡ by_order r ((c.0, replicate c.1 0) ∷ (e.0, own e) ∷ carried f cells) ((e.0, replicate c.1 0) ∷ carried f cells) ((e.0, own e) ∷ zeros (carried f cells) c)
      by Less is rest = ap (λ o. (c.0, unwrap_or o (replicate c.1 0)) ∷ (e.0, own e) ∷ carried f cells) none
      by Equal is rest = ap (λ o. (e.0, unwrap_or o (replicate c.1 0)) ∷ carried f cells) (ap (λ k. find id_cmp k cells) (sym (id_cmp_same c.0 e.0 is)) ∙ none)
      by Greater is rest = ap (λ z. (e.0, own e) ∷ z) rest

  carried_puts : (cs : Shape) (f : Shape) → list_all (λ c. not (is_some (find id_cmp c.0 cells))) cs ≡ true → carried (fold put_size f cs) cells ≡ fold zeros (carried f cells) cs
  carried_puts [] f new = refl
  carried_puts (c ∷ cs) f new =
      let parts = both_true (not (is_some (find id_cmp c.0 cells))) (list_all (λ c. not (is_some (find id_cmp c.0 cells))) cs) new in
      carried_puts cs (put_size f c) parts.1 ∙ ap (λ m. fold zeros m cs) (carried_put c f (absent (find id_cmp c.0 cells) parts.0))

  pub carried_changed : (cs : Shape) (goes : Id → Bool) → is_sorted id_cmp cells ≡ true → list_all (λ c. not (is_some (find id_cmp c.0 cells))) cs ≡ true
      → carried (changed_shape cs goes (shape_of_cells cells)) cells ≡ changed_cells cs goes cells
  carried_changed cs goes order new =
      carried_puts cs (filter (λ e. not (goes e.0)) (shape_of_cells cells)) new
      ∙ ap (λ m. fold zeros m cs) (carried_filter goes (shape_of_cells cells) ∙ ap (filter (λ e. not (goes e.0))) (carried_self cells order))

-- one fact comes, or one goes
none_gone : (f : Shape) → filter (λ e. not (is_among [] e.0)) f ≡ f
none_gone [] = refl
none_gone (e ∷ f) = ap (λ z. e ∷ z) (none_gone f)

one_of : {X : Type 0} (xs : List X) (x : X) → length xs ≡ 1 → x ≡ get_or xs 0 x → xs ≡ x ∷ []
one_of [] x one is = absurd (omega (arith, one))
one_of (y ∷ []) x one is = ap (λ z. z ∷ []) (sym is)
one_of (y ∷ z ∷ xs) x one is = absurd (omega (arith, one))

pub one_comes : (came : Coming) (went : List Key) (f : Shape) (i : Id) (n : ℕ) (x y : Key × ℕ) → went ≡ [] → length came ≡ 1 → x ≡ get_or came 0 x → y ≡ get_or came 0 y → i ≡ x.0.1 → n ≡ y.1
    → with_id f i n ≡ changed_shape (ids_coming came) (is_among (ids_among went)) f
one_comes came went f i n x y none one first second id size =
    let a : came ≡ x ∷ [] = one_of came x one first in
    let b : x ∷ [] ≡ y ∷ [] = sym a ∙ one_of came y one second in
    let same : x ≡ y = cc in
    (λ k. put id_cmp (id k) ((size ∙ ap (λ z. z.1) (sym same)) k) (sym (none_gone f) k))
    ∙ (λ k. changed_shape (ids_coming (sym a k)) (is_among (ids_among (sym none k))) f)

pub one_leaves : (came : Coming) (went : List Key) (f : Shape) (i : Id) (x : Key) → came ≡ [] → length went ≡ 1 → x ≡ get_or went 0 x → i ≡ x.1 → without_id f i ≡ changed_shape (ids_coming came) (is_among (ids_among went)) f
one_leaves came went f i x none one first id =
    let a : went ≡ x ∷ [] = one_of went x one first in
    (λ k. filter (λ e. not (or_none (id_eq e.0 (id k)) k)) f)
    ∙ (λ k. changed_shape (ids_coming (sym none k)) (is_among (ids_among (sym a k))) f)

-- who holds something at an index is alive, and stands in a table of its shape
module _ (w : Entities) (s : Store) (sound : IsSound w s) (h : Holdings) (view : meaning w s ≡ h) (i : ℕ) (some : is_some (cells_at h i) ≡ true) where
  pub record StandsAt (e : EntityId) : Type 0 where
    pub place : Place
    pub at : place_of w e ≡ Some place
    pub index : e.index ≡ i
    pub shape : shape_at s place.table ≡ Some (shape_of_cells (held_at h i))
    pub order : is_sorted id_cmp (held_at h i) ≡ true
    pub settled : is_settled h e ≡ true
    pub cells : cells_at h i ≡ Some (held_at h i)

  pub stands_at : (e : EntityId) × (entity_at w i ≡ Some e) × StandsAt e
  stands_at =
      let v = some_of (cells_at h i) some in
      let r = held_row w s sound i v.0 (ap (λ z. cells_at z i) view ∙ v.1) in
      let held : held_at h i ≡ v.0 = ap (λ o. unwrap_or o []) v.1 in
      let live : find nat_cmp i w.live ≡ Some (r.0).generation = ap (λ j. find nat_cmp j w.live) (sym r.4) ∙ alive_found w r.0 (placed_alive w r.0 r.1 r.2) in (
        r.0,
        ap (option_map (λ g. record { index = i; generation = g })) live ∙ (λ k. Some (record { index = sym r.4 k; generation = (r.0).generation })),
        record {
          place = r.1;
          at = r.2;
          index = r.4;
          shape = row_shape w s sound r.1 (r.0, v.0) r.3 ∙ ap (λ c. Some (shape_of_cells c)) (sym held);
          order = ap (is_sorted id_cmp) held ∙ row_sorted w s sound r.1 (r.0, v.0) r.3;
          settled = found_settled w s sound h view r.0 r.1 r.2;
          cells = v.1 ∙ ap Some (sym held);
        },
      )

  pub stands_as : (x : EntityId) → entity_at w i ≡ Some x → StandsAt x
  stands_as x at =
      let r = stands_at in
      let both : Some r.0 ≡ Some x = sym r.1 ∙ at in
      let same : r.0 ≡ x = cc in
      subst StandsAt same r.2

-- the ids of an entity's table, and what is asked of the next one
facts_held : (h : Holdings) (e : EntityId) (r : Cells) → is_settled h e ≡ true → cond (lives h e) (cells_at h e.index) None ≡ Some r → (cells_at h e.index ≡ Some r) × (r ≡ held_at h e.index)
facts_held h e r settled read =
    let parts = both_true (lives h e) (is_some (cells_at h e.index)) settled in
    let at : cells_at h e.index ≡ Some r = sym (ap (λ b. cond b (cells_at h e.index) None) parts.0) ∙ read in
    (at, sym (ap (λ o. unwrap_or o []) at))

module _ (h : Housing) (whole : IsHoused h) (e : EntityId) (r : Cells) (settled : is_settled (holdings_of h) e ≡ true) (read : cond (lives (holdings_of h) e) (cells_at (holdings_of h) e.index) None ≡ Some r) where
  is_held : AreHoldings (holdings_of h)
  is_held = holdings h.entities h.tables whole

  each : (is_sorted id_cmp r ≡ true) × (list_all (λ s. agrees (known_in h.tables) s.0 s.1) (sizes_of r) ≡ true)
  each = of_some (λ c. (is_sorted id_cmp c ≡ true) × (list_all (λ s. agrees (known_in h.tables) s.0 s.1) (sizes_of c) ≡ true)) (cells_at (holdings_of h) e.index) (is_held.each e.index) r (facts_held (holdings_of h) e r settled read).0

  pub facts_rise : is_sorted id_cmp r ≡ true
  facts_rise = each.0

  module _ (from : TableKey) (at : shape_at h.tables from ≡ Some (shape_of_cells (held_at (holdings_of h) e.index))) (came : Coming) (goes : Id → Bool) (ids : Shape) (is : ids ≡ changed_shape (ids_coming came) goes (shape_of_cells r)) where
    here : shape_at h.tables from ≡ Some (shape_of_cells r)
    here = at ∙ ap (λ c. Some (shape_of_cells c)) (sym (facts_held (holdings_of h) e r settled read).1)

    pub ids_rise : is_sorted id_cmp ids ≡ true
    ids_rise = ap (is_sorted id_cmp) is ∙ changed_sorted (ids_coming came) goes (shape_of_cells r) (sorted_mapped id_cmp (λ _ c. length c) r ∙ each.0)

    pub ids_small : list_all (λ c. nat_le c.1 64) (ids_coming came) ≡ true → list_all (λ c. nat_le c.1 64) ids ≡ true
    ids_small small = ap (list_all (λ c. nat_le c.1 64)) is ∙ changed_all (λ c. nat_le c.1 64) (ids_coming came) goes (shape_of_cells r)
        (of_some (λ f. list_all (λ c. nat_le c.1 64) f ≡ true) (shape_at h.tables from) (whole.stored.0.small from) (shape_of_cells r) here) small

    pub ids_agree : list_all (λ c. agrees (known_in h.tables) c.0 c.1) (ids_coming came) ≡ true → list_all (λ c. agrees (known_in h.tables) c.0 c.1) ids ≡ true
    ids_agree agree = ap (list_all (λ c. agrees (known_in h.tables) c.0 c.1)) is ∙ changed_all (λ c. agrees (known_in h.tables) c.0 c.1) (ids_coming came) goes (shape_of_cells r) each.1 agree

    pub ids_kept : (next : Store) → KeepsSizes (known_in h.tables) ids (known_in next) → KeepsSizes (known_in h.tables) (ids_coming came) (known_in next)
    ids_kept next sizes test old new = sizes test old (ap (list_all test) is ∙ changed_all test (ids_coming came) goes (shape_of_cells r) (of_shape h.tables test from (shape_of_cells r) here old) new)
