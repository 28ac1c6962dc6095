-- The ids of an entity, of which facts come and go, put together one by one.
use Rattle.std.proofs.Common.{◌≡◌, ℕ, zero, suc, ◌+◌, ◌<◌, ◌≤◌, Bool, true, false, true≢false, cond, not, List, [], ◌∷◌, ◌++◌, map, length, take, drop, Some, is_some, refl, sym, ap, subst, ◌∙◌, arith, append_assoc}
use Rattle.std.proofs.Math.ListN.{drop_of_length-le}
use Rattle.std.specs.List.{list_all, slice_get}
use Rattle.std.specs.List.Sorted.{IsStrictlySortedBy}
use Rattle.std.specs.Prelude.{Result}
use Rattle.std.specs.Result.{OnOk}
use Rattle.std.specs.FinMap.Entries.{find, is_sorted, below_all}
use Rattle.ecs_id.specs.Id.{Id, id_cmp, id_eq}
use Rattle.ecs_model.specs.Map.{has_key}
use Rattle.ecs_model.specs.World.{Key}
use Rattle.ecs_model.proofs.Maps.{both_true}
use Rattle.table_store.specs.Rows.{Cells, shape_of_cells}
use Rattle.table_store.proofs.RowCalls.{if_ok}
use Rattle.ecs_archetypes.specs.FactChanges.{Coming, begins_before, begins_with, changed_shape, ids_among, ids_coming, is_among}
use Rattle.ecs_table.specs.Archetype.{Shape}
use Rattle.ecs_archetypes.proofs.FactLists.{all_above, all_come, comes_first, goes_held, goes_unheld, none_goes, one_goes, stays_held}
use Rattle.ecs_archetypes.proofs.MapLists.{both, sorted_mapped}

-- these ids are put together, and the others are left
pub record IsMerging (held : Cells) (came : Coming) (went : List Key) (facts : Cells) (comes : Coming) (goes : List Key) (place : ℕ) (ids : Shape) : Type 0 where
  pub same : facts ≡ held
  pub within : place ≤ length facts
  pub order : is_sorted id_cmp (drop place facts) ≡ true
  pub up : is_sorted id_cmp (ids_coming comes) ≡ true
  pub rising : IsStrictlySortedBy id_cmp (ids_among goes)
  pub apart : list_all (λ c. not (has_key id_cmp (drop place facts) c.0)) (ids_coming comes) ≡ true
  pub all : ids ++ changed_shape (ids_coming comes) (is_among (ids_among goes)) (shape_of_cells (drop place facts)) ≡ changed_shape (ids_coming came) (is_among (ids_among went)) (shape_of_cells held)

-- the element at a place is the first of those from there on
at_suc : {X : Type 0} (xs : List X) (j : ℕ) (x : X) → slice_get xs j ≡ Some x → drop j xs ≡ x ∷ drop (suc j) xs
at_suc [] j x h = cc
at_suc (y ∷ ys) zero x h = let same : y ≡ x = cc in ap (λ z. z ∷ ys) same
at_suc (y ∷ ys) (suc j) x h = at_suc ys j x h

pub at_place : {X : Type 0} (xs : List X) (j : ℕ) (x : X) → slice_get xs j ≡ Some x → drop j xs ≡ x ∷ drop (j + 1) xs
at_place xs j x h = let e : suc j ≡ j + 1 = omega arith in at_suc xs j x h ∙ ap (λ n. x ∷ drop n xs) e

abbrev sized : Id × List ℕ → Id × ℕ
sized x = (x.0, length x.1)

shape_order : (x : Id × List ℕ) (f : Cells) → is_sorted id_cmp (x ∷ f) ≡ true → is_sorted id_cmp (sized x ∷ shape_of_cells f) ≡ true
shape_order x f order = sorted_mapped id_cmp (λ _ c. length c) (x ∷ f) ∙ order

-- ids that are apart from cells are apart from the first of them, and from the others
apart_parts : (x : Id × List ℕ) (f : Cells) (cs : Shape) → list_all (λ c. not (has_key id_cmp (x ∷ f) c.0)) cs ≡ true → (list_all (λ c. not (id_eq c.0 x.0)) cs ≡ true) × (list_all (λ c. not (has_key id_cmp f c.0)) cs ≡ true)
apart_parts x f [] h = (refl, refl)
apart_parts x f (c ∷ cs) h =
    let here = both_true (not (has_key id_cmp (x ∷ f) c.0)) (list_all (λ c. not (has_key id_cmp (x ∷ f) c.0)) cs) h in
    let rest = apart_parts x f cs here.1 in
    let one = by (id_eq c.0 x.0) here.0 in
    (both (not (id_eq c.0 x.0)) (list_all (λ c. not (id_eq c.0 x.0)) cs) one.0 rest.0, both (not (has_key id_cmp f c.0)) (list_all (λ c. not (has_key id_cmp f c.0)) cs) one.1 rest.1)
  where
    by : (b : Bool) → not (is_some (cond b (Some x.1) (find id_cmp c.0 f))) ≡ true → (not b ≡ true) × (not (has_key id_cmp f c.0) ≡ true)
    by true h = absurd (true≢false (sym h))
    by false h = (refl, h)

module _ (held : Cells) (came : Coming) (went : List Key) (facts : Cells) where
  pub merging_none : is_sorted id_cmp facts ≡ true → is_sorted id_cmp (ids_coming came) ≡ true → IsStrictlySortedBy id_cmp (ids_among went) → list_all (λ c. not (has_key id_cmp facts c.0)) (ids_coming came) ≡ true → (ids : Shape) → ids ≡ []
      → IsMerging facts came went facts came went 0 ids
  merging_none order up rising apart ids none = record {
    same = refl;
    within = omega arith;
    order = order;
    up = up;
    rising = rising;
    apart = apart;
    all = ap (λ z. z ++ changed_shape (ids_coming came) (is_among (ids_among went)) (shape_of_cells facts)) none;
  }

  module _ (place : ℕ) (ids : Shape) where
    -- nothing that is held is left
    merged : (comes : Coming) (goes : List Key) → IsMerging held came went facts comes goes place ids → length facts ≤ place → (more : Shape) → more ≡ ids ++ ids_coming comes
        → more ≡ changed_shape (ids_coming came) (is_among (ids_among went)) (shape_of_cells held)
    merged comes goes m end more is =
        let none : drop place facts ≡ [] = drop_of_length-le facts end in
        is ∙ ap (λ z. ids ++ z) (sym (ap (λ f. changed_shape (ids_coming comes) (is_among (ids_among goes)) (shape_of_cells f)) none ∙ all_come (ids_coming comes) (ids_among goes) m.up)) ∙ m.all

    pub merged_ok : {T E : Type 0} (comes : Coming) (goes : List Key) → IsMerging held came went facts comes goes place ids → length facts ≤ place → (r : Result T E) (more : Shape) → OnOk r (more ≡ ids ++ ids_coming comes)
        → OnOk r (more ≡ changed_shape (ids_coming came) (is_among (ids_among went)) (shape_of_cells held))
    merged_ok comes goes m end r more = if_ok r (more ≡ ids ++ ids_coming comes) (more ≡ changed_shape (ids_coming came) (is_among (ids_among went)) (shape_of_cells held)) (merged comes goes m end more)

    module _ (x : Id × List ℕ) (at : slice_get facts place ≡ Some x) where
      abbrev rest : Cells
      rest = drop (place + 1) facts

      here : drop place facts ≡ x ∷ rest
      here = at_place facts place x at

      -- the first id that comes is next
      pub merged_coming : (comes : Coming) (goes : List Key) → IsMerging held came went facts comes goes place ids → begins_before (map (λ c. c.0) (ids_coming comes)) x.0 ≡ true
          → (first later : Coming) → first ≡ take 1 comes → later ≡ drop 1 comes → (more : Shape) → more ≡ ids ++ ids_coming first → IsMerging held came went facts later goes place more
      merged_coming [] goes m low first later taken left more is = absurd (true≢false (sym low))
      merged_coming (c ∷ cs) goes m low first later taken left more is =
          let ups = both_true (below_all id_cmp c.0.1 (ids_coming cs)) (is_sorted id_cmp (ids_coming cs)) m.up in
          let others = both_true (not (has_key id_cmp (drop place facts) c.0.1)) (list_all (λ c. not (has_key id_cmp (drop place facts) c.0)) (ids_coming cs)) m.apart in
          let order = ap (is_sorted id_cmp) (sym here) ∙ m.order in
          let step = comes_first (ids_coming cs) (ids_among goes) (c.0.1, c.1) (sized x) (shape_of_cells rest) m.up (shape_order x rest order) low in
          let next : IsMerging held came went facts cs goes place more = record {
            same = m.same;
            within = m.within;
            order = m.order;
            up = ups.1;
            rising = m.rising;
            apart = others.1;
            all = ap (λ z. z ++ changed_shape (ids_coming cs) (is_among (ids_among goes)) (shape_of_cells (drop place facts))) (is ∙ ap (λ z. ids ++ ids_coming z) taken)
                ∙ append_assoc ids ((c.0.1, c.1) ∷ []) (changed_shape (ids_coming cs) (is_among (ids_among goes)) (shape_of_cells (drop place facts)))
                ∙ ap (λ z. ids ++ (c.0.1, c.1) ∷ changed_shape (ids_coming cs) (is_among (ids_among goes)) (shape_of_cells z)) here
                ∙ ap (λ z. ids ++ z) (sym step)
                ∙ ap (λ z. ids ++ changed_shape (ids_coming (c ∷ cs)) (is_among (ids_among goes)) (shape_of_cells z)) (sym here)
                ∙ m.all;
          } in
          subst (λ z. IsMerging held came went facts z goes place more) (sym left) next

      -- the first id that goes isn't held
      pub merged_unheld : (comes : Coming) (goes : List Key) → IsMerging held came went facts comes goes place ids → begins_before (ids_among goes) x.0 ≡ true
          → (later : List Key) → later ≡ drop 1 goes → IsMerging held came went facts comes later place ids
      unfolding IsStrictlySortedBy
      merged_unheld comes [] m low later left = absurd (true≢false (sym low))
      merged_unheld comes (k ∷ ks) m low later left =
          let order = ap (is_sorted id_cmp) (sym here) ∙ m.order in
          let step = goes_unheld (ids_coming comes) (ids_among ks) k.1 (sized x) (shape_of_cells rest) (shape_order x rest order) low in
          let next : IsMerging held came went facts comes ks place ids = record {
            same = m.same;
            within = m.within;
            order = m.order;
            up = m.up;
            rising = m.rising.1;
            apart = m.apart;
            all = ap (λ z. ids ++ changed_shape (ids_coming comes) (is_among (ids_among ks)) (shape_of_cells z)) here
                ∙ ap (λ z. ids ++ z) (sym step)
                ∙ ap (λ z. ids ++ changed_shape (ids_coming comes) (is_among (ids_among (k ∷ ks))) (shape_of_cells z)) (sym here)
                ∙ m.all;
          } in
          subst (λ z. IsMerging held came went facts comes z place ids) (sym left) next

      module _ (comes : Coming) (goes : List Key) (m : IsMerging held came went facts comes goes place ids) (within : place < length facts) where
        orders : (below_all id_cmp x.0 rest ≡ true) × (is_sorted id_cmp rest ≡ true)
        orders = both_true (below_all id_cmp x.0 rest) (is_sorted id_cmp rest) (ap (is_sorted id_cmp) (sym here) ∙ m.order)

        parts : (list_all (λ c. not (id_eq c.0 x.0)) (ids_coming comes) ≡ true) × (list_all (λ c. not (has_key id_cmp rest c.0)) (ids_coming comes) ≡ true)
        parts = apart_parts x rest (ids_coming comes) (ap (λ z. list_all (λ c. not (has_key id_cmp z c.0)) (ids_coming comes)) (sym here) ∙ m.apart)

        next : (more : Shape) → more ++ changed_shape (ids_coming comes) (is_among (ids_among goes)) (shape_of_cells rest) ≡ ids ++ changed_shape (ids_coming comes) (is_among (ids_among goes)) (sized x ∷ shape_of_cells rest)
            → IsMerging held came went facts comes goes (place + 1) more
        next more is = record {
          same = m.same;
          within = omega (arith, within);
          order = orders.1;
          up = m.up;
          rising = m.rising;
          apart = parts.1;
          all = is ∙ ap (λ z. ids ++ changed_shape (ids_coming comes) (is_among (ids_among goes)) (shape_of_cells z)) (sym here) ∙ m.all;
        }

        -- the first id that is held goes
        pub merged_going : begins_with (ids_among goes) x.0 ≡ true → (more : Shape) → more ≡ ids → IsMerging held came went facts comes goes (place + 1) more
        merged_going is more same = next more (ap (λ z. z ++ changed_shape (ids_coming comes) (is_among (ids_among goes)) (shape_of_cells rest)) same
            ∙ ap (λ z. ids ++ z) (sym (goes_held (ids_coming comes) (ids_among goes) (sized x) (shape_of_cells rest) (one_goes (ids_among goes) x.0 is))))

        -- or it stays
        pub merged_staying : begins_before (map (λ c. c.0) (ids_coming comes)) x.0 ≡ false → begins_before (ids_among goes) x.0 ≡ false → begins_with (ids_among goes) x.0 ≡ false → (more : Shape) → more ≡ ids ++ sized x ∷ []
            → IsMerging held came went facts comes goes (place + 1) more
        merged_staying high above apart more same = next more (ap (λ z. z ++ changed_shape (ids_coming comes) (is_among (ids_among goes)) (shape_of_cells rest)) same
            ∙ append_assoc ids (sized x ∷ []) (changed_shape (ids_coming comes) (is_among (ids_among goes)) (shape_of_cells rest))
            ∙ ap (λ z. ids ++ z) (sym (stays_held (ids_coming comes) (ids_among goes) (sized x) (shape_of_cells rest) (none_goes (ids_among goes) x.0 m.rising above apart)
            (all_above (ids_coming comes) (sized x) m.up high parts.0))))
