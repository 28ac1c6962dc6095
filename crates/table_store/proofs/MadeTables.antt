-- A store before and after a table is made.
use Rattle.std.proofs.Common.{◌≡◌, ◌≢◌, ◌⊎◌, ℕ, ◌+◌, ◌≤◌, ◌<◌, ◌==◌, Bool, true, false, if◌then◌else◌, [], ◌∷◌, ◌++◌, ◌-◌, ◌^◌, Option, Some, None, IsSome, IfSome, IsTrue, is_some, nat_le, option_map, option_and_then, unwrap_or, slice_get, refl, sym, ap, subst, ◌∙◌, true≢false, arith, inl, inr}
use Rattle.std.proofs.lemmas.Bool.Decides.{Decides-eqb}
use Rattle.std.specs.List.{list_all}
use Rattle.std.specs.FinMap.{is_sorted}
use Rattle.std.specs.declared.vec.Vec.{Vec}
use Rattle.slab.specs.Slab as slots
use Rattle.slab.specs.Slab.{Slab, Updates, slab_len}
use Rattle.ecs_id.specs.Id.{Id, id_cmp}
use Rattle.ecs_id.specs.declared.Place.{Place}
use Rattle.ecs_id.specs.declared.TableKey.{TableKey}
use Rattle.ecs_table.specs.Archetype.{Archetype, IsSound}
use Rattle.table_store.specs.declared.store.TableSlot.{TableSlot}
use Rattle.ecs_id.specs.TableKeys.{table_eq}
use Rattle.table_store.specs.Store.{Store, Shape, IsStore, table_at, ids_at, shape_at, shape_of, shaped, shaped_at, with_id, without_id, find_in, made_at}
use Rattle.table_store.specs.Rows.{row_at, row_of}
use Rattle.table_store.specs.Kept.{ByIds, Held, HasNoEdge, store_of, IsKept, IsSlot, IsIndex, IsOrder}
use Rattle.table_store.specs.ByIds.{HasSlot, KeepsSlots, ids_hash}
use Rattle.table_store.proofs.Slots.{table_at-made, same_key, key_eq_true, key_eq_false, listed_in, none_is_some, one_some}
use Rattle.table_store.proofs.StoreLemmas.{ids_of, ids_in_shape}
use Rattle.table_store.proofs.Shapes.{HaveSizes, size_found, shape_of_shaped, all_small}
use Rattle.table_store.proofs.TableCounts.{as_many}
use Rattle.table_store.proofs.Order.{order_pushed}

pub none_of : {X : Type 0} (o : Option X) → ((x : X) → o ≡ Some x → ⊥) → o ≡ None
none_of None h = refl
none_of (Some x) h = absurd (h x refl)

pub some_of : {X : Type 0} (o : Option X) (x : X) → o ≡ Some x → IsSome o
some_of o x e = ap is_some e

-- what a store says of a key
module _ (s : Store) where
  pub sized_shape : (q : TableKey) (g : Shape) → IsStore s → shape_at s q ≡ Some g → IsTrue (is_sorted id_cmp g)
  sized_shape q g is e = subst (λ o. IfSome o (λ f. IsTrue (is_sorted id_cmp f))) e (is.ascend q)

  pub stands_of_shape : (q : TableKey) (g : Shape) → shape_at s q ≡ Some g → IsSome (table_at s q)
  stands_of_shape q g e = by (table_at s q) e
    where
      by : (o : Option Archetype) → option_map shape_of o ≡ Some g → IsSome o
      by None h = absurd (none_is_some g h)
      by (Some t) h = refl

module _ {Y : Type 0} (tables new : Slab (Held Y)) (by_ids named : ByIds Y) (by_serial dated : Vec TableKey Y) (last : ℕ) (kept : IsKept tables by_ids by_serial last)
    (f : Shape) (k : TableKey) (y : Held Y) (sorted : IsTrue (is_sorted id_cmp f)) (small : (j : ℕ) → IfSome (slice_get f j) (λ c. c.1 ≤ 64)) (sizes : HaveSizes (store_of tables last) f)
    (missing : (q : TableKey) → ids_at (store_of tables last) q ≢ Some (ids_of f)) (serial : k.serial ≡ last + 1) (free : slots.get tables k.slot ≡ None) (u : Updates tables new k.slot (Some y))
    (ys : y.value.serial ≡ k.serial) (yt : y.value.table ≡ shaped f) (no_more : HasNoEdge y.value.more) (no_less : HasNoEdge y.value.less) (numbered : k.slot < 2 ^ 32 - 1) where
  abbrev s : Store
  s = store_of tables last

  abbrev n : Store
  n = store_of new k.serial

  pub made : (q : TableKey) → table_at n q ≡ made_at s k (shaped f) q
  made = table_at-made tables new last k.serial k y (shaped f) free u ys yt

  -- a key of a table that stood is another
  pub stood : (q : TableKey) → IsSome (table_at s q) → q.serial < k.serial
  stood q h = let le = (kept.store.serials q h).1 in omega (arith, le, serial)

  pub is_new : table_at s k ≡ None
  is_new = none_of (table_at s k) (λ t e. let lt = stood k (some_of _ t e) in omega (arith, lt))

  abbrev Cases : TableKey → Type 0
  Cases q = ((q ≡ k) × (table_at n q ≡ Some (shaped f))) ⊎ ((q ≢ k) × (table_at n q ≡ table_at s q))

  cases : (q : TableKey) → Cases q
  cases q = by (table_eq q k) refl (made q)
    where
      by : (b : Bool) → table_eq q k ≡ b → table_at n q ≡ (if b then Some (unwrap_or (table_at s q) (shaped f)) else table_at s q) → Cases q
      by true e m = let same = same_key q k e in inl (same, m ∙ ap (λ o. Some (unwrap_or o (shaped f))) (ap (table_at s) same ∙ is_new))
      by false e m = inr (λ h. true≢false (sym (key_eq_true q k h) ∙ e), m)

  abbrev ShapeCases : TableKey → Type 0
  ShapeCases q = ((q ≡ k) × (shape_at n q ≡ Some f)) ⊎ ((q ≢ k) × (shape_at n q ≡ shape_at s q))

  pub shape_cases : (q : TableKey) → ShapeCases q
  shape_cases q = elim (cases q) [ inl h ↦ inl (h.0, ap (option_map shape_of) h.1 ∙ ap Some (shape_of_shaped f sorted)) | inr h ↦ inr (h.0, ap (option_map shape_of) h.1) ]

  pub made_shapes : (q : TableKey) → shape_at n q ≡ shaped_at s k f q
  made_shapes q = elim (shape_cases q) [
    | inl h ↦ h.1 ∙ sym (ap (λ b. if b then Some f else shape_at s q) (key_eq_true q k h.0))
    | inr h ↦ h.1 ∙ sym (ap (λ b. if b then Some f else shape_at s q) (key_eq_false q k h.0))
  ]

  pub made_rows : (p : Place) → row_at n p ≡ row_at s p
  unfolding row_at
  made_rows p = elim (cases p.table) [
    | inl h ↦ ap (option_and_then (λ t. row_of t p.row)) h.1 ∙ sym (ap (option_and_then (λ t. row_of t p.row)) (ap (table_at s) h.0 ∙ is_new))
    | inr h ↦ ap (option_and_then (λ t. row_of t p.row)) h.1
  ]

  ids_cases : (q : TableKey) → ((q ≡ k) × (ids_at n q ≡ Some (ids_of f))) ⊎ ((q ≢ k) × (ids_at n q ≡ ids_at s q))
  ids_cases q = elim (shape_cases q) [
    | inl h ↦ inl (h.0, ids_in_shape (table_at n q) ∙ ap (option_map ids_of) h.1)
    | inr h ↦ inr (h.0, ids_in_shape (table_at n q) ∙ ap (option_map ids_of) h.1 ∙ sym (ids_in_shape (table_at s q)))
  ]

  absent : (q : TableKey) → ids_at s q ≡ Some (ids_of f) → ⊥
  absent q h = missing q h

  is_there : (q : TableKey) → q ≢ k → IsSome (table_at n q) → IsSome (table_at s q)
  is_there q d h = elim (cases q) [ inl e ↦ absurd (d e.0) | inr e ↦ subst IsSome e.1 h ]

  one : (q r : TableKey) → IsSome (table_at n q) → ids_at n q ≡ ids_at n r → q ≡ r
  one q r h e = elim (ids_cases q) [
    | inl a ↦ elim (ids_cases r) [ inl b ↦ a.0 ∙ sym b.0 | inr b ↦ absurd (absent r (sym b.1 ∙ sym e ∙ a.1)) ]
    | inr a ↦ elim (ids_cases r) [ inl b ↦ absurd (absent q (sym a.1 ∙ e ∙ b.1)) | inr b ↦ kept.store.one_each q r (is_there q a.0 h) (sym a.1 ∙ e ∙ b.1) ]
  ]

  one_sized : (q r : TableKey) (g h : Shape) (i : Id) (a b : ℕ) → shape_at n q ≡ Some g → shape_at n r ≡ Some h → find_in i g ≡ Some a → find_in i h ≡ Some b → a ≡ b
  one_sized q r g h i a b is js x z = elim (shape_cases q) [
    | inl p ↦
        let same : find_in i f ≡ Some a = subst (λ v. find_in i v ≡ Some a) (sym (one_some f g (sym p.1 ∙ is))) x in
        elim (shape_cases r) [
          | inl t ↦ one_some a b (sym same ∙ subst (λ v. find_in i v ≡ Some b) (sym (one_some f h (sym t.1 ∙ js))) z)
          | inr t ↦ sym (subst (λ o. IfSome o (λ v. v ≡ a)) z (size_found s f i a sizes same r h (sym t.1 ∙ js)))
        ]
    | inr p ↦ elim (shape_cases r) [
      | inl t ↦
          let same : find_in i f ≡ Some b = subst (λ v. find_in i v ≡ Some b) (sym (one_some f h (sym t.1 ∙ js))) z in
          subst (λ o. IfSome o (λ v. v ≡ b)) x (size_found s f i b sizes same q g (sym p.1 ∙ is))
      | inr t ↦ kept.store.one_size q r g h i a b (sym p.1 ∙ is) (sym t.1 ∙ js) x z
    ]
  ]

  serials_new : (q : TableKey) → IsSome (table_at n q) → (1 ≤ q.serial) × (q.serial ≤ k.serial)
  serials_new q h = elim (cases q) [
    | inl e ↦ let same : q.serial ≡ k.serial = ap (λ v. v.serial) e.0 in (omega (arith, same, serial), omega (arith, same))
    | inr e ↦ let old = kept.store.serials q (subst IsSome e.1 h) in (old.0, omega (arith, old.1, serial))
  ]

  once : (q r : TableKey) → IsSome (table_at n q) → IsSome (table_at n r) → q.serial ≡ r.serial → q ≡ r
  once q r h j e = elim (cases q) [
    | inl a ↦ elim (cases r) [
      | inl b ↦ a.0 ∙ sym b.0
      | inr b ↦ absurd (let lt = stood r (subst IsSome b.1 j) in let same : q.serial ≡ k.serial = ap (λ v. v.serial) a.0 in omega (arith, lt, same, e))
    ]
    | inr a ↦ elim (cases r) [
      | inl b ↦ absurd (let lt = stood q (subst IsSome a.1 h) in let same : r.serial ≡ k.serial = ap (λ v. v.serial) b.0 in omega (arith, lt, same, e))
      | inr b ↦ kept.store.given_once q r (subst IsSome a.1 h) (subst IsSome b.1 j) e
    ]
  ]

  pub made_store : IsStore n
  made_store = record {
    one_each = one;
    ascend = λ q. elim (shape_cases q) [
      | inl e ↦ subst (λ o. IfSome o (λ g. IsTrue (is_sorted id_cmp g))) (sym e.1) sorted
      | inr e ↦ subst (λ o. IfSome o (λ g. IsTrue (is_sorted id_cmp g))) (sym e.1) (kept.store.ascend q)
    ];
    small = λ q. elim (shape_cases q) [
      | inl e ↦ subst (λ o. IfSome o (λ g. IsTrue (list_all (λ c. nat_le c.1 64) g))) (sym e.1) (all_small f small)
      | inr e ↦ subst (λ o. IfSome o (λ g. IsTrue (list_all (λ c. nat_le c.1 64) g))) (sym e.1) (kept.store.small q)
    ];
    one_size = one_sized;
    serials = serials_new;
    given_once = once;
    numbered = λ q h. elim (cases q) [ inl e ↦ subst (λ z. z.slot < 2 ^ 32 - 1) (sym e.0) numbered | inr e ↦ kept.store.numbered q (subst IsSome e.1 h) ];
    listed = listed_in new k.serial;
  }

  -- an edge leads where it led
  edge_shape : (q : TableKey) → q.serial ≤ last → shape_at n q ≡ shape_at s q
  edge_shape q le = elim (shape_cases q) [ inl e ↦ absurd (let same : q.serial ≡ k.serial = ap (λ v. v.serial) e.0 in omega (arith, le, same, serial)) | inr e ↦ e.1 ]

  slot_stays : (x : TableSlot Y) → IsSlot s x → IsSlot n x
  slot_stays x h = record {
    sound = h.sound;
    more = λ i q e. let m = h.more i q e in (omega (arith, m.0, serial), subst (λ o. IfSome o (λ g. (b : ℕ) × (g ≡ with_id (shape_of x.table) i b))) (sym (edge_shape q m.0)) m.1);
    less = λ i q e. let m = h.less i q e in (omega (arith, m.0, serial), subst (λ o. IfSome o (λ g. g ≡ without_id (shape_of x.table) i)) (sym (edge_shape q m.0)) m.1);
  }

  slot_made : IsSound (shaped f) → IsSlot n y.value
  slot_made sound = record {
    sound = subst IsSound (sym yt) sound;
    more = λ i q e. absurd (none_is_some q (sym (no_more i) ∙ e));
    less = λ i q e. absurd (none_is_some q (sym (no_less i) ∙ e));
  }

  other_slot : (o : Option (Held Y)) → IfSome o (λ z. IsSlot s z.value) → IfSome o (λ z. IsSlot n z.value)
  other_slot None h = tt
  other_slot (Some x) h = slot_stays x.value h

  slots_made : IsSound (shaped f) → (m : ℕ) → IfSome (slots.get new m) (λ z. IsSlot n z.value)
  slots_made sound m = by (m == k.slot) refl
    where
      by : (b : Bool) → (m == k.slot) ≡ b → IfSome (slots.get new m) (λ z. IsSlot n z.value)
      by true e = subst (λ o. IfSome o (λ z. IsSlot n z.value)) (sym (ap (slots.get new) ((Decides-eqb m k.slot).0 e) ∙ u.changed)) (slot_made sound)
      by false e = subst (λ o. IfSome o (λ z. IsSlot n z.value)) (sym (u.others m (λ h. true≢false (sym ((Decides-eqb m k.slot).1 h) ∙ e)))) (other_slot (slots.get tables m) (kept.slots m))

  index_made : (hash : ℕ) → hash ≡ ids_hash by_ids.hashing (ids_of f) → HasSlot named hash k.slot → KeepsSlots by_ids named → IsIndex n named
  index_made hash is at keeps ids q e = subst (λ z. HasSlot named (ids_hash z ids) q.slot) (sym keeps.hashing) (elim (ids_cases q) [
    | inl a ↦
        let same : ids_of f ≡ ids = one_some (ids_of f) ids (sym a.1 ∙ e) in
        subst (λ h. HasSlot named h q.slot) (is ∙ ap (ids_hash by_ids.hashing) same) (subst (HasSlot named hash) (sym (ap (λ v. v.slot) a.0)) at)
    | inr a ↦ keeps.slots (ids_hash by_ids.hashing ids) q.slot (kept.index ids q (sym a.1 ∙ e))
  ])

  order_made : slab_len new ≡ slab_len tables + 1 → dated.items ≡ by_serial.items ++ k ∷ [] → IsOrder n dated.items
  order_made more = order_pushed s n by_serial.items dated.items k kept.order (λ q h. elim (cases q) [ inl a ↦ inl a.0 | inr a ↦ inr (subst IsSome a.1 h) ]) (omega (arith, serial)) refl
      (as_many new k.serial ∙ more ∙ ap (λ m. m + 1) (sym (as_many tables last)))

  pub made_kept : IsSound (shaped f) → (hash : ℕ) → hash ≡ ids_hash by_ids.hashing (ids_of f) → HasSlot named hash k.slot → KeepsSlots by_ids named → slab_len new ≡ slab_len tables + 1 → dated.items ≡ by_serial.items ++ k ∷ [] → IsKept new named dated k.serial
  made_kept sound hash is at keeps more o = record { store = made_store; slots = slots_made sound; index = index_made hash is at keeps; order = order_made more o }
