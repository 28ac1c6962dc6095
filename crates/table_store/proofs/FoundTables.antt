-- A table is found or made.
use Rattle.std.proofs.Common.{◌≡◌, ◌≢◌, ℕ, suc, ◌+◌, ◌-◌, ◌^◌, ◌<◌, ◌≤◌, Bool, true, false, if◌then◌else◌, List, ◌∷◌, ◌++◌, Option, Some, None, IsNone, IfSome, IfOk, IsTrue, Result, Ok, Err, map, max, option_map, unwrap_or, slice_index_or, slice_get, length, [], refl, sym, ap, subst, ◌∙◌, true≢false, arith, rules}
use Rattle.std.specs.FinMap.{is_sorted}
use Rattle.std.specs.declared.vec.Vec.{Vec}
use Rattle.slab.specs.Slab as slots
use Rattle.slab.specs.Slab.{Slab, Updates, slab_len}
use Rattle.ecs_id.specs.Id.{Id, id_cmp}
use Rattle.ecs_id.specs.declared.TableKey.{TableKey}
use Rattle.ecs_table.specs.Archetype.{Archetype, IsSound}
use Rattle.ecs_table.proofs.Soundness.{sound_empty}
use Rattle.ecs_id.specs.TableKeys.{table_eq}
use Rattle.table_store.specs.Store.{Store, Shape, IsStore, table_at, ids_at, shape_at, shape_of, shaped}
use Rattle.table_store.specs.Kept.{ByIds, HasNoEdge, Held, tables_from, store_of, IsKept, IsOrder, IsSlot, IsMade, IsPut}
use Rattle.table_store.specs.ByIds.{HasSlot, KeepsSlots, has_ids, ids_hash}
use Rattle.table_store.proofs.Slots.{same_key, none_is_some, one_some}
use Rattle.table_store.proofs.Indexes.{ids_found, slot_has_ids}
use Rattle.table_store.proofs.StoreLemmas.{ids_of, ids_in_shape, stored}
use Rattle.table_store.proofs.Shapes.{HaveSizes, same_shape, small_sizes}
use Rattle.table_store.proofs.Changes.{there}
use Rattle.table_store.proofs.MadeTables.{made, made_shapes, made_rows, made_kept, is_new, sized_shape, stands_of_shape}

pub same_store : {Y : Type 0} (tables grown : Slab (Held Y)) (last : ℕ) → grown ≡ record tables { capacity = grown.capacity } → store_of grown last ≡ store_of tables last
same_store tables grown last e = ap (λ (t : Slab (Held _)). store_of t last) e

pub keeps_same : {Y : Type 0} (by_ids : ByIds Y) → KeepsSlots by_ids by_ids
keeps_same by_ids = record { slots = λ hash slot has. has; hashing = refl }

-- the same fields, grown
pub IsKept-grown : {Y : Type 0} (tables grown : Slab (Held Y)) (by_ids room_ids : ByIds Y) (by_serial same_serial : Vec TableKey Y) (last : ℕ)
    → grown.slots ≡ tables.slots → KeepsSlots by_ids room_ids → same_serial.items ≡ by_serial.items → IsKept tables by_ids by_serial last → IsKept grown room_ids same_serial last
IsKept-grown tables grown by_ids room_ids by_serial same_serial last ts keeps ss kept = record {
  store = subst (λ xs. IsStore (record { tables = tables_from 0 xs; last = last })) (sym ts) kept.store;
  slots = λ n. subst (λ xs. IfSome (slice_index_or xs n None) (λ x. IsSlot (record { tables = tables_from 0 xs; last = last }) x.value)) (sym ts) (kept.slots n);
  index = λ ids q e. subst (λ z. HasSlot room_ids (ids_hash z ids) q.slot) (sym keeps.hashing)
      (keeps.slots (ids_hash by_ids.hashing ids) q.slot (kept.index ids q (subst (λ xs. ids_at (record { tables = tables_from 0 xs; last = last }) q ≡ Some ids) ts e)));
  order = subst (λ l. IsOrder (store_of grown last) l) (sym ss) (subst (λ xs. IsOrder (record { tables = tables_from 0 xs; last = last }) by_serial.items) (sym ts) kept.order);
}

same_length : (g : Shape) → length (ids_of g) ≡ length (map (λ c. c.1) g)
same_length [] = refl
same_length (c ∷ g) = ap (λ n. suc n) (same_length g)

sound_shaped : (f : Shape) → ((j : ℕ) → IfSome (slice_get f j) (λ c. c.1 ≤ 64)) → IsSound (shaped f)
sound_shaped f small = sound_empty (ids_of f) (map (λ c. c.1) f) (same_length f) (small_sizes f small)

module _ {Y : Type 0} (tables grown new : Slab (Held Y)) (by_ids named : ByIds Y) (by_serial dated : Vec TableKey Y) (last : ℕ) (s : Store) (view : store_of tables last ≡ s)
    (kept : IsKept tables by_ids by_serial last) (growth : grown ≡ record tables { capacity = grown.capacity })
    (f : Shape) (k : TableKey) (y : Held Y) (sorted : IsTrue (is_sorted id_cmp f)) (small : (j : ℕ) → IfSome (slice_get f j) (λ c. c.1 ≤ 64)) (sizes : HaveSizes s f)
    (missing : (q : TableKey) → ids_at s q ≢ Some (ids_of f)) (serial : k.serial ≡ last + 1) (slot : ℕ) (slot_is : slot ≡ k.slot) (free : slots.get tables k.slot ≡ None) (u : Updates grown new slot (Some y))
    (ys : y.value.serial ≡ k.serial) (yt : y.value.table ≡ shaped f) (no_more : HasNoEdge y.value.more) (no_less : HasNoEdge y.value.less) (numbered : k.slot < 2 ^ 32 - 1)
    (hash : ℕ) (hash_is : hash ≡ ids_hash by_ids.hashing (ids_of f)) (at : HasSlot named hash k.slot) (keeps : KeepsSlots by_ids named) (o : dated.items ≡ by_serial.items ++ k ∷ []) (more : slab_len new ≡ slab_len grown + 1) where
  kept_grown : IsKept grown by_ids by_serial last
  kept_grown = IsKept-grown tables grown by_ids by_ids by_serial by_serial last (ap (λ t. t.slots) growth) (keeps_same by_ids) refl kept

  seen : store_of grown last ≡ s
  seen = same_store tables grown last growth ∙ view

  sizes_there : HaveSizes (store_of grown last) f
  sizes_there = subst (λ z. HaveSizes z f) (sym seen) sizes

  none_there : (q : TableKey) → ids_at (store_of grown last) q ≢ Some (ids_of f)
  none_there q = subst (λ z. ids_at z q ≢ Some (ids_of f)) (sym seen) (missing q)

  free_there : slots.get grown k.slot ≡ None
  free_there = ap (λ t. slots.get t k.slot) growth ∙ free

  updates : Updates grown new k.slot (Some y)
  updates = subst (λ z. Updates grown new z (Some y)) slot_is u

  pub put_kept : IsKept new named dated k.serial
  put_kept = made_kept grown new by_ids named by_serial dated last kept_grown f k y sorted small sizes_there none_there serial free_there updates ys yt no_more no_less numbered (sound_shaped f small) hash hash_is at keeps more o

  is_made : IsMade (store_of grown last) f k (store_of new k.serial)
  is_made = record {
    made = made grown new by_ids named by_serial dated last kept_grown f k y sorted small sizes_there none_there serial free_there updates ys yt no_more no_less numbered;
    shapes = made_shapes grown new by_ids named by_serial dated last kept_grown f k y sorted small sizes_there none_there serial free_there updates ys yt no_more no_less numbered;
    newest = (
      λ _. omega (arith, serial),
      λ _. subst IsNone (sym (is_new grown new by_ids named by_serial dated last kept_grown f k y sorted small sizes_there none_there serial free_there updates ys yt no_more no_less numbered)) refl,
    );
    last = largest last k.serial serial;
    rows = made_rows grown new by_ids named by_serial dated last kept_grown f k y sorted small sizes_there none_there serial free_there updates ys yt no_more no_less numbered;
  }
    where
      largest : (m n : ℕ) → n ≡ m + 1 → n ≡ max m n
      largest m n e = search rules

  pub is_put : {E : Type 0} → IsPut {E = E} s f (Ok k) (store_of new k.serial)
  is_put = record {
    ok = subst (λ z. IsMade z f k (store_of new k.serial)) seen is_made;
    err = tt;
    whole = stored new named dated k.serial put_kept (store_of new k.serial) refl;
  }

-- a refusal: nothing is seen of what has grown
pub is_refused : {Y E : Type 0} (tables grown : Slab (Held Y)) (by_ids room_ids : ByIds Y) (by_serial same_serial : Vec TableKey Y) (last : ℕ) (s : Store) → store_of tables last ≡ s → IsKept grown room_ids same_serial last
    → grown ≡ record tables { capacity = grown.capacity } → (f : Shape) (e : E) → IsPut s f (Err e) (store_of grown last)
is_refused tables grown by_ids room_ids by_serial same_serial last s view kept growth f e = record {
  ok = tt;
  err = same_store tables grown last growth ∙ view;
  whole = stored grown room_ids same_serial last kept (store_of grown last) refl;
}

-- nothing is done
pub is_kept : {Y E : Type 0} (tables : Slab (Held Y)) (by_ids : ByIds Y) (by_serial : Vec TableKey Y) (last : ℕ) (s : Store) → store_of tables last ≡ s → IsKept tables by_ids by_serial last
    → (f : Shape) (e : E) → IsPut s f (Err e) s
is_kept tables by_ids by_serial last s view kept f e = record { ok = tt; err = refl; whole = stored tables by_ids by_serial last kept s view }

-- a table of this shape stands
pub IsMade-found : (s : Store) (f : Shape) (key : TableKey) → IsStore s → shape_at s key ≡ Some f → IsMade s f key s
IsMade-found s f key is e =
    let h = stands_of_shape s key f e in
    let t = there (table_at s key) h in
    let old = (is.serials key h).1 in
    record {
      made = λ q. made_of q t.0 t.1 (table_eq q key) refl;
      shapes = λ q. shape_in q (table_eq q key) refl;
      newest = (λ none. absurd (no_none (table_at s key) t.0 t.1 none), λ lt. absurd (omega (arith, lt, old)));
      last = largest s.last key.serial old;
      rows = λ p. refl;
    }
  where
    no_none : (o : Option Archetype) (t : Archetype) → o ≡ Some t → IsNone o → ⊥
    no_none o t e n = true≢false (subst IsNone e n)

    largest : (m n : ℕ) → n ≤ m → m ≡ max m n
    largest m n e = search rules

    made_of : (q : TableKey) (t : Archetype) → table_at s key ≡ Some t → (b : Bool) → table_eq q key ≡ b → table_at s q ≡ (if b then Some (unwrap_or (table_at s q) (shaped f)) else table_at s q)
    made_of q t is true k = let at : table_at s q ≡ Some t = ap (table_at s) (same_key q key k) ∙ is in at ∙ ap (λ o. Some (unwrap_or o (shaped f))) (sym at)
    made_of q t is false k = refl

    shape_in : (q : TableKey) (b : Bool) → table_eq q key ≡ b → shape_at s q ≡ (if b then Some f else shape_at s q)
    shape_in q true k = ap (shape_at s) (same_key q key k) ∙ e
    shape_in q false k = refl

pub shape_found : (s : Store) (f : Shape) (key : TableKey) → IsStore s → HaveSizes s f → ids_at s key ≡ Some (ids_of f) → shape_at s key ≡ Some f
shape_found s f key is sizes e = by (table_at s key) refl
  where
    by : (o : Option Archetype) → table_at s key ≡ o → option_map shape_of o ≡ Some f
    by None a = absurd (none_is_some (ids_of f) (sym (ap (option_map (λ t. t.ids)) a) ∙ e))
    by (Some t) a =
        let here : shape_at s key ≡ Some (shape_of t) = ap (option_map shape_of) a in
        let ids : ids_of (shape_of t) ≡ ids_of f = one_some _ _ (sym (ap (option_map ids_of) here) ∙ sym (ids_in_shape (table_at s key)) ∙ e) in
        ap Some (same_shape s key (shape_of t) f here (sized_shape s key (shape_of t) is here) sizes ids)

pub is_found : {Y E : Type 0} (tables : Slab (Held Y)) (by_ids : ByIds Y) (by_serial : Vec TableKey Y) (last : ℕ) (s : Store) → store_of tables last ≡ s → IsKept tables by_ids by_serial last
    → (f : Shape) (key : TableKey) → HaveSizes s f → has_ids tables (ids_of f) key.slot ≡ true → IfSome (slots.get tables key.slot) (λ x. key.serial ≡ x.value.serial) → IsPut {E = E} s f (Ok key) s
is_found tables by_ids by_serial last s view kept f key sizes has serial =
    let whole = stored tables by_ids by_serial last kept s view in
    record { ok = IsMade-found s f key whole.0 (shape_found s f key whole.0 sizes (subst (λ z. ids_at z key ≡ Some (ids_of f)) view (ids_found tables last key (ids_of f) has serial))); err = tt; whole = whole }

-- a slot has these ids, and the key is that of its table
pub found_known : {Y E : Type 0} (tables : Slab (Held Y)) (by_ids : ByIds Y) (by_serial : Vec TableKey Y) (last : ℕ) (s : Store) → store_of tables last ≡ s → IsKept tables by_ids by_serial last
    → (f : Shape) (slot : ℕ) (ids : List Id) → ids ≡ ids_of f → has_ids tables ids slot ≡ true → (key : TableKey) → key.slot ≡ slot → IfSome (slots.get tables slot) (λ x. key.serial ≡ x.value.serial) → HaveSizes s f → IsPut {E = E} s f (Ok key) s
found_known tables by_ids by_serial last s view kept f slot ids same has key at serial sizes =
    is_found tables by_ids by_serial last s view kept f key sizes
    (subst (λ l. has_ids tables l key.slot ≡ true) same (subst (λ n. has_ids tables ids n ≡ true) (sym at) has))
    (subst (λ n. IfSome (slots.get tables n) (λ x. key.serial ≡ x.value.serial)) (sym at) serial)

-- no table has ids that no slot of their hash has
pub not_there : {Y : Type 0} (tables : Slab (Held Y)) (by_ids : ByIds Y) (by_serial : Vec TableKey Y) (last : ℕ) (s : Store) → store_of tables last ≡ s → IsKept tables by_ids by_serial last
    → (ids : List Id) (hash : ℕ) → hash ≡ ids_hash by_ids.hashing ids → ((slot : ℕ) → HasSlot by_ids hash slot → has_ids tables ids slot ≡ false) → (q : TableKey) → ids_at s q ≢ Some ids
not_there tables by_ids by_serial last s view kept ids hash is none q h =
    let seen : ids_at (store_of tables last) q ≡ Some ids = subst (λ z. ids_at z q ≡ Some ids) (sym view) h in
    true≢false (sym (slot_has_ids tables last q ids seen) ∙ none q.slot (subst (λ m. HasSlot by_ids m q.slot) (sym is) (kept.index ids q seen)))

pub if_ok : {T E : Type 0} (P Q : T → Type 0) (r : Result T E) → ((x : T) → P x → Q x) → IfOk r P → IfOk r Q
if_ok P Q (Ok x) f h = f x h
if_ok P Q (Err e) f h = tt
