-- Edges between tables, and the shapes to which they lead.
use Rattle.std.proofs.Common.{◌≡◌, ◌⊎◌, ℕ, ◌≤◌, ◌==◌, Bool, true, false, cond, List, Option, Some, None, IsSome, IsNone, IfSome, IsTrue, Err, is_some, option_map, slice_get, unwrap_or, if◌then◌else◌, nat_le, not, refl, sym, ap, subst, ◌∙◌, true≢false, inl, inr}
use Rattle.std.proofs.lemmas.Bool.Decides.{Decides-eqb}
use Rattle.std.specs.List.{list_all}
use Rattle.std.specs.FinMap.{is_sorted}
use Rattle.std.specs.FinMap.Entries.{is_sorted-put, is_sorted-where_key, find-put}
use Rattle.std.specs.declared.vec.Vec.{Vec}
use Rattle.slab.specs.Slab as slots
use Rattle.slab.specs.Slab.{Slab, Updates, with_value}
use Rattle.slab.proofs.SlabLemmas.{Updates-with_value}
use Rattle.std.proofs.Common.{T}
use Rattle.ecs_id.specs.Id.{Id, id_eq, id_cmp, id_cmp_total, id_eq_itself}
use Rattle.ecs_id.specs.declared.TableKey.{TableKey}
use Rattle.ecs_table.specs.Archetype.{Archetype, IsSound}
use Rattle.table_store.specs.declared.store.TableSlot.{TableSlot}
use Rattle.ecs_id.specs.TableKeys.{table_eq}
use Rattle.table_store.specs.Store.{Store, Shape, IsStore, HasSize, table_at, ids_at, shape_at, shape_of, shaped, find_in, with_id, without_id}
use Rattle.table_store.specs.Kept.{IsOrder, ByIds, Held, store_of, standing, stepped, edge_of, edges_of, IsKept, IsSlot, IsMore, IsLess, IsPut, IsMade, IsWritten}
use Rattle.table_store.specs.ByIds.{HasSlot, ids_hash}
use Rattle.table_store.proofs.Slots.{key_eq_true, table_at-slots, same_seen, one_some}
use Rattle.table_store.proofs.Shapes.{HaveSizes, get_put, get_filtered, small_at, size_of_stored}
use Rattle.table_store.proofs.Changes.{there, table_here}
use Rattle.table_store.proofs.MadeTables.{sized_shape, stands_of_shape, some_of}
use Rattle.table_store.proofs.FoundTables.{IsMade-found}

edge_more : (s : Store) (f : Shape) (id : Id) (to : TableKey) (added : Option ℕ) → IsSome added → to.serial ≤ s.last → shape_at s to ≡ Some (stepped f id added) → IsMore s f id to
edge_more s f id to None h le e = absurd (true≢false (sym h))
edge_more s f id to (Some n) h le e = (le, subst (λ o. IfSome o (λ g. (m : ℕ) × (g ≡ with_id f id m))) (sym e) (n, refl))

edge_less : (s : Store) (f : Shape) (id : Id) (to : TableKey) (added : Option ℕ) → IsNone added → to.serial ≤ s.last → shape_at s to ≡ Some (stepped f id added) → IsLess s f id to
edge_less s f id to None h le e = (le, subst (λ o. IfSome o (λ g. g ≡ without_id f id)) (sym e) refl)
edge_less s f id to (Some n) h le e = absurd (true≢false h)

said : (b : Bool) → IsTrue b → T b
said true h = tt
said false h = absurd (true≢false (sym h))

truly : (b : Bool) → T b → IsTrue b
truly true h = refl
truly false h = absurd h

pub if_each : {X : Type 0} {P : X → Type 0} (o : Option X) → ((x : X) → o ≡ Some x → P x) → IfSome o P
if_each None h = tt
if_each (Some x) h = h x refl

abbrev IndexAt : {Y : Type 0} → Store → ByIds Y → List Id → TableKey → Type 0
IndexAt s by_ids ids q = ids_at s q ≡ Some ids → HasSlot by_ids (ids_hash by_ids.hashing ids) q.slot

-- the shape in the slot of a key
module _ {Y : Type 0} (tables : Slab (Held Y)) (by_ids : ByIds Y) (by_serial : Vec TableKey Y) (last : ℕ) (s : Store) (view : store_of tables last ≡ s) (kept : IsKept tables by_ids by_serial last)
    (k : TableKey) (stands : IsSome (table_at s k)) (x : Held Y) (is : slots.get tables k.slot ≡ Some x) where
  abbrev f : Shape
  f = shape_of x.value.table

  store_is : IsStore s
  store_is = subst IsStore view kept.store

  slot_is : IsSlot s x.value
  slot_is = subst (λ z. IsSlot z x.value) view (subst (λ o. IfSome o (λ z. IsSlot (store_of tables last) z.value)) is (kept.slots k.slot))

  pub shape_there : shape_at s k ≡ Some f
  shape_there =
      let t = there (table_at s k) stands in
      ap (option_map shape_of) t.1 ∙ ap (λ u. Some (shape_of u)) (sym (table_here tables last s view k t.0 t.1 x is))

  pub sorted_there : IsTrue (is_sorted id_cmp f)
  sorted_there = sized_shape s k f store_is shape_there

  -- an edge whose table stands leads to the shape that is asked for
  edge_leads : (id : Id) (to : TableKey) (added : Option ℕ) → IfSome added (λ n. HasSize s id n) → edge_of (edges_of x.value added) id ≡ Some to → (g : Shape) → shape_at s to ≡ Some g → g ≡ stepped f id added
  edge_leads id to None sizes e g h = subst (λ o. IfSome o (λ g. g ≡ without_id f id)) h (slot_is.less id to e).1
  edge_leads id to (Some n) sizes e g h =
      let m = subst (λ o. IfSome o (λ g. (b : ℕ) × (g ≡ with_id f id b))) h (slot_is.more id to e).1 in
      let found : find_in id g ≡ Some m.0 = ap (find_in id) m.1 ∙ find-put id_cmp id_cmp_total id id m.0 f ∙ ap (λ b. cond b (Some m.0) (find_in id f)) (id_eq_itself id) in
      let size : m.0 ≡ n = subst (λ o. IfSome o (λ v. v ≡ n)) found (sizes to g h) in
      m.1 ∙ ap (with_id f id) size

  standing_there : (to : TableKey) → is_some (standing (slots.get tables to.slot) to.serial) ≡ true → IsSome (table_at s to)
  standing_there to h = subst (λ z. IsSome (table_at z to)) view (subst IsSome (sym (table_at-slots tables last to)) h)

  -- the edge is followed
  leads_there : (id : Id) (to : TableKey) (added : Option ℕ) → IfSome added (λ n. HasSize s id n) → edge_of (edges_of x.value added) id ≡ Some to → is_some (standing (slots.get tables to.slot) to.serial) ≡ true
      → (g : Shape) → shape_at s k ≡ Some g → IsMade s (stepped g id added) to s
  leads_there id to added sizes e h g at =
      let t = there (table_at s to) (standing_there to h) in
      let here : shape_at s to ≡ Some (shape_of t.0) = ap (option_map shape_of) t.1 in
      let leads : shape_at s to ≡ Some (stepped f id added) = here ∙ ap Some (edge_leads id to added sizes e (shape_of t.0) here) in
      subst (λ z. IsMade s (stepped z id added) to s) (one_some f g (sym shape_there ∙ at)) (IsMade-found s (stepped f id added) to store_is leads)

  pub is_followed : (d : TableSlot Y) → d ≡ x.value → (id : Id) (added : Option ℕ) → IfSome added (λ n. HasSize s id n) → (o : Option TableKey) → IfSome o (λ to. edge_of (edges_of d added) id ≡ Some to)
      → IfSome o (λ to. IsSome (standing (slots.get tables to.slot) to.serial)) → IfSome o (λ to. (g : Shape) → shape_at s k ≡ Some g → IsMade s (stepped g id added) to s)
  is_followed d lent id added sizes None e h = tt
  is_followed d lent id added sizes (Some to) e h = leads_there id to added sizes (subst (λ (v : TableSlot Y). edge_of (edges_of v added) id ≡ Some to) lent e) h

  pub sorted_next : (id : Id) (added : Option ℕ) → IsTrue (is_sorted id_cmp (stepped f id added))
  sorted_next id None = truly _ (is_sorted-where_key id_cmp (λ j. not (id_eq j id)) f (said _ sorted_there))
  sorted_next id (Some n) = truly _ (is_sorted-put id_cmp id_cmp_total id n f (said _ sorted_there))

  small_there : (j : ℕ) (c : Id × ℕ) → slice_get f j ≡ Some c → c.1 ≤ 64
  small_there j c e = small_at f j c (subst (λ o. IfSome o (λ g. IsTrue (list_all (λ c. nat_le c.1 64) g))) shape_there (store_is.small k)) e

  pub small_next : (id : Id) (added : Option ℕ) → IfSome added (λ n. n ≤ 64) → (j : ℕ) → IfSome (slice_get (stepped f id added) j) (λ c. c.1 ≤ 64)
  small_next id None h j = if_each _ (λ c e. let m = get_filtered (λ c. not (id_eq c.0 id)) f j c e in small_there m.0 c m.1)
  small_next id (Some n) h j = if_each _ (λ c e. elim (get_put id n f j c e) [ inl a ↦ subst (λ v. v ≤ 64) (sym a.1) h | inr a ↦ small_there a.0 c a.1 ])

  pub sizes_next : (id : Id) (added : Option ℕ) → IfSome added (λ n. HasSize s id n) → HaveSizes s (stepped f id added)
  sizes_next id None h j = if_each _ (λ c e. let m = get_filtered (λ c. not (id_eq c.0 id)) f j c e in size_of_stored s k f m.0 c store_is shape_there m.1)
  sizes_next id (Some n) h j = if_each _ (λ c e. elim (get_put id n f j c e) [
    | inl a ↦ subst (λ v. HasSize s v c.1) (sym a.0) (subst (λ v. HasSize s id v) (sym a.1) h)
    | inr a ↦ size_of_stored s k f a.0 c store_is shape_there a.1
  ])

  -- an edge is written
  module _ (d v : TableSlot Y) (lent : d ≡ x.value) (id : Id) (to : TableKey) (added : Option ℕ) (kept_rest : v ≡ record d { more = v.more; less = v.less }) (leads : shape_at s to ≡ Some (stepped f id added))
      (new_more : (v.more ≡ d.more) ⊎ (IsSome added × IsWritten id to d.more v.more)) (new_less : (v.less ≡ d.less) ⊎ (IsNone added × IsWritten id to d.less v.less)) where
    abbrev y : Held Y
    y = record x { value = v }

    same : v ≡ record x.value { more = v.more; less = v.less }
    same = kept_rest ∙ ap (λ (z : TableSlot Y). record z { more = v.more; less = v.less }) lent

    more : (v.more ≡ x.value.more) ⊎ (IsSome added × IsWritten id to x.value.more v.more)
    more = subst (λ (z : TableSlot Y). (v.more ≡ z.more) ⊎ (IsSome added × IsWritten id to z.more v.more)) lent new_more

    less : (v.less ≡ x.value.less) ⊎ (IsNone added × IsWritten id to x.value.less v.less)
    less = subst (λ (z : TableSlot Y). (v.less ≡ z.less) ⊎ (IsNone added × IsWritten id to z.less v.less)) lent new_less

    pub same_view : store_of (with_value tables k.slot y) last ≡ s
    same_view = same_seen tables last k.slot x y is (ap (λ z. z.serial) same) (ap (λ z. z.table) same) ∙ view

    serial_le : to.serial ≤ s.last
    serial_le = (store_is.serials to (stands_of_shape s to _ leads)).1

    more_now : (i : Id) (q : TableKey) → edge_of v.more i ≡ Some q → IsMore s f i q
    more_now i q e = elim more [
      | inl a ↦ slot_is.more i q (subst (λ m. edge_of m i ≡ Some q) a e)
      | inr a ↦ elim (a.1 i q e) [
        | inl b ↦ slot_is.more i q b
        | inr b ↦ subst (λ z. IsMore s f z q) (sym b.0) (subst (λ z. IsMore s f id z) (sym b.1) (edge_more s f id to added a.0 serial_le leads))
      ]
    ]

    less_now : (i : Id) (q : TableKey) → edge_of v.less i ≡ Some q → IsLess s f i q
    less_now i q e = elim less [
      | inl a ↦ slot_is.less i q (subst (λ m. edge_of m i ≡ Some q) a e)
      | inr a ↦ elim (a.1 i q e) [
        | inl b ↦ slot_is.less i q b
        | inr b ↦ subst (λ z. IsLess s f z q) (sym b.0) (subst (λ z. IsLess s f id z) (sym b.1) (edge_less s f id to added a.0 serial_le leads))
      ]
    ]

    table_same : v.table ≡ x.value.table
    table_same = ap (λ z. z.table) same

    shape_same : shape_of v.table ≡ f
    shape_same = ap shape_of table_same

    slot_now : IsSlot s v
    slot_now = record {
      sound = subst IsSound (sym table_same) slot_is.sound;
      more = λ i q e. subst (λ z. IsMore s z i q) (sym shape_same) (more_now i q e);
      less = λ i q e. subst (λ z. IsLess s z i q) (sym shape_same) (less_now i q e);
    }

    u : Updates tables (with_value tables k.slot y) k.slot (Some y)
    u = Updates-with_value tables k.slot y (subst IsSome (sym is) refl)

    slots_now : (m : ℕ) → IfSome (slots.get (with_value tables k.slot y) m) (λ z. IsSlot s z.value)
    slots_now m = by (m == k.slot) refl
      where
        by : (b : Bool) → (m == k.slot) ≡ b → IfSome (slots.get (with_value tables k.slot y) m) (λ z. IsSlot s z.value)
        by true e = subst (λ o. IfSome o (λ z. IsSlot s z.value)) (sym (ap (slots.get (with_value tables k.slot y)) ((Decides-eqb m k.slot).0 e) ∙ u.changed)) slot_now
        by false e = subst (λ o. IfSome o (λ z. IsSlot s z.value)) (sym (u.others m (λ h. true≢false (sym ((Decides-eqb m k.slot).1 h) ∙ e)))) (subst (λ z. IfSome (slots.get tables m) (λ o. IsSlot z o.value)) view (kept.slots m))

    pub edge_kept : IsKept (with_value tables k.slot y) by_ids by_serial last
    edge_kept =
        let back = sym same_view in
        let old = view ∙ back in
        record {
          store = subst IsStore old kept.store;
          slots = λ m. subst (λ z. IfSome (slots.get (with_value tables k.slot y) m) (λ o. IsSlot z o.value)) back (slots_now m);
          index = λ ids q. subst (λ z. IndexAt z by_ids ids q) old (kept.index ids q);
          order = subst (λ z. IsOrder z by_serial.items) old kept.order;
        }

-- a table that stood is as it was, after a table is found or made
standing_still : (s n : Store) (f : Shape) (to : TableKey) → IsMade s f to n → (q : TableKey) (t : Archetype) → table_at s q ≡ Some t → table_at n q ≡ Some t
standing_still s n f to h q t e = h.made q ∙ by (table_eq q to) (table_at s q) e
  where
    by : (b : Bool) (o : Option Archetype) → o ≡ Some t → (if b then Some (unwrap_or o (shaped f)) else o) ≡ Some t
    by true o e = ap (λ v. Some (unwrap_or v (shaped f))) e
    by false o e = e

pub still_there : (s n : Store) (f : Shape) (to : TableKey) → IsMade s f to n → (q : TableKey) → IsSome (table_at s q) → IsSome (table_at n q)
still_there s n f to h q stands = let t = there (table_at s q) stands in some_of (table_at n q) t.0 (standing_still s n f to h q t.0 t.1)

pub made_leads : (s n : Store) (f : Shape) (id : Id) (added : Option ℕ) (to : TableKey) → IsMade s (stepped f id added) to n → (key : TableKey) → shape_at s key ≡ Some f
    → (g : Shape) → shape_at n key ≡ Some g → shape_at n to ≡ Some (stepped g id added)
made_leads s n f id added to h key at g e =
    let t = there (table_at s key) (stands_of_shape s key f at) in
    let same : shape_at n key ≡ shape_at s key = ap (option_map shape_of) (standing_still s n (stepped f id added) to h key t.0 t.1) ∙ sym (ap (option_map shape_of) t.1) in
    let here : shape_at n to ≡ Some (stepped f id added) = h.shapes to ∙ ap (λ b. if b then Some (stepped f id added) else shape_at s to) (key_eq_true to to refl) in
    here ∙ ap (λ z. Some (stepped z id added)) (one_some f g (sym at ∙ sym same ∙ e))

pub refused_too : {E : Type 0} (s n : Store) (f g : Shape) (e d : E) → IsPut s f (Err e) n → IsPut s g (Err d) n
refused_too s n f g e d h = record { ok = tt; err = h.err; whole = h.whole }
