-- What stands under a key, read off from the slots, before and after a change of one slot.
use Rattle.std.proofs.Common.{◌≡◌, ◌≢◌, ℕ, suc, zero, ◌+◌, ◌<◌, ◌==◌, ◌&&◌, Bool, true, false, cond, if◌then◌else◌, List, [], ◌∷◌, Option, Some, None, option_map, unwrap_or, slice_index_or, slice_get, slice_set, is_some, IfSome, refl, sym, ap, ◌∙◌, true≢false, arith}
use Rattle.std.specs.List.{find}
use Rattle.std.proofs.lemmas.Bool.Decides.{Decides-eqb}
use Rattle.std.specs.Cmp.Derive.{both_true}
pub use Rattle.std.proofs.lemmas.Bool.{and_parts as both}
use Rattle.slab.specs.Slab as slots
use Rattle.slab.specs.Slab.{Slab, Updates, with_value}
use Rattle.ecs_id.specs.declared.TableKey.{TableKey}
use Rattle.ecs_table.specs.Archetype.{Archetype}
use Rattle.ecs_id.specs.TableKeys.{table_eq}
use Rattle.table_store.specs.Store.{table_at, changed_at, made_at, released_at}
use Rattle.table_store.specs.Kept.{Held, tables_from, store_of, standing}

-- the test of keys decides whether they are one
pub same_key : (k q : TableKey) → table_eq k q ≡ true → k ≡ q
same_key k q h =
    let tests = both (k.slot == q.slot) (k.serial == q.serial) h in
    λ i. record { slot = (Decides-eqb k.slot q.slot).0 tests.0 i; serial = (Decides-eqb k.serial q.serial).0 tests.1 i }

pub key_eq_true : (k q : TableKey) → k ≡ q → table_eq k q ≡ true
key_eq_true k q e = both_true ((Decides-eqb k.slot q.slot).1 (ap (λ v. v.slot) e)) ((Decides-eqb k.serial q.serial).1 (ap (λ v. v.serial) e))

pub key_eq_false : (k q : TableKey) → k ≢ q → table_eq k q ≡ false
key_eq_false k q d = by (table_eq k q) refl
  where
    by : (b : Bool) → table_eq k q ≡ b → table_eq k q ≡ false
    by true e = absurd (d (same_key k q e))
    by false e = e

pub differ : (m n : ℕ) → m ≢ n → (m == n) ≡ false
differ m n d = by (m == n) refl
  where
    by : (b : Bool) → (m == n) ≡ b → (m == n) ≡ false
    by true e = absurd (d ((Decides-eqb m n).0 e))
    by false e = e

here : (a b : Bool) (x : TableKey × Archetype) (rest : Option (TableKey × Archetype)) → a ≡ true → option_map (λ e. e.1) rest ≡ None
    → option_map (λ e. e.1) (cond (a && b) (Some x) rest) ≡ (if b then Some x.1 else None)
here true true x rest h none = refl
here true false x rest h none = none
here false b x rest h none = absurd (true≢false (sym h))

later : (a b : Bool) (x : TableKey × Archetype) (rest : Option (TableKey × Archetype)) → a ≡ false → option_map (λ e. e.1) (cond (a && b) (Some x) rest) ≡ option_map (λ e. e.1) rest
later false b x rest h = refl
later true b x rest h = absurd (true≢false h)

pub none_is_some : {X : Type 0} (x : X) → None ≡ Some x → ⊥
none_is_some x e = true≢false (sym (ap is_some e))

pub one_some : {X : Type 0} (x y : X) → Some x ≡ Some y → x ≡ y
one_some x y e = ap (λ o. unwrap_or o x) e

module _ {Y : Type 0} where
  below : (n : ℕ) (xs : List (Option (Held Y))) (k : TableKey) → k.slot < n → option_map (λ e. e.1) (find (λ e. table_eq k e.0) (tables_from n xs)) ≡ None
  below n [] k h = refl
  below n (None ∷ xs) k h = below (suc n) xs k (omega arith)
  below n (Some x ∷ xs) k h = later (k.slot == n) (k.serial == x.value.serial) _ _ (differ k.slot n (λ e. omega arith)) ∙ below (suc n) xs k (omega arith)

  from : (n : ℕ) (xs : List (Option (Held Y))) (k : TableKey) (j : ℕ) → k.slot ≡ n + j → option_map (λ e. e.1) (find (λ e. table_eq k e.0) (tables_from n xs)) ≡ standing (slice_index_or xs j None) k.serial
  from n [] k zero e = refl
  from n [] k (suc j) e = refl
  from n (None ∷ xs) k zero e = below (suc n) xs k (omega arith)
  from n (None ∷ xs) k (suc j) e = from (suc n) xs k j (omega arith)
  from n (Some x ∷ xs) k zero e = here (k.slot == n) (k.serial == x.value.serial) _ _ ((Decides-eqb k.slot n).1 (omega arith)) (below (suc n) xs k (omega arith))
  from n (Some x ∷ xs) k (suc j) e = later (k.slot == n) (k.serial == x.value.serial) _ _ (differ k.slot n (λ e2. omega arith)) ∙ from (suc n) xs k j (omega arith)

  pub table_at-slots : (tables : Slab (Held Y)) (last : ℕ) (k : TableKey) → table_at (store_of tables last) k ≡ standing (slots.get tables k.slot) k.serial
  unfolding table_at
  table_at-slots tables last k = from 0 tables.slots k k.slot (omega arith)

if_some : {X : Type 0} (P Q : X → Type 0) (o : Option X) → ((e : X) → P e → Q e) → IfSome o P → IfSome o Q
if_some P Q None f h = tt
if_some P Q (Some e) f h = f e h

module _ {Y : Type 0} where
  -- the entry stands in a slot of these
  abbrev StandsIn : ℕ → List (Option (Held Y)) → TableKey × Archetype → Type 0
  StandsIn n xs e = (i : ℕ) × (e.0.slot ≡ n + i) × (standing (slice_index_or xs i None) e.0.serial ≡ Some e.1)

  listed_from : (n : ℕ) (xs : List (Option (Held Y))) (j : ℕ) → IfSome (slice_get (tables_from n xs) j) (StandsIn n xs)
  listed_from n [] zero = tt
  listed_from n [] (suc j) = tt
  listed_from n (None ∷ xs) j = if_some (StandsIn (suc n) xs) (StandsIn n (None ∷ xs)) _ (λ e h. (suc h.0, omega (arith, h.1), h.2)) (listed_from (suc n) xs j)
  listed_from n (Some x ∷ xs) zero = (0, omega arith, ap (λ b. if b then Some x.value.table else None) ((Decides-eqb x.value.serial x.value.serial).1 refl))
  listed_from n (Some x ∷ xs) (suc j) = if_some (StandsIn (suc n) xs) (StandsIn n (Some x ∷ xs)) _ (λ e h. (suc h.0, omega (arith, h.1), h.2)) (listed_from (suc n) xs j)

  -- each table that is listed is found under its key
  pub listed_in : (tables : Slab (Held Y)) (last j : ℕ) → IfSome (slice_get (store_of tables last).tables j) (λ e. table_at (store_of tables last) e.0 ≡ Some e.1)
  listed_in tables last j = if_some (StandsIn 0 tables.slots) (λ e. table_at (store_of tables last) e.0 ≡ Some e.1) _
      (λ e h. table_at-slots tables last e.0 ∙ ap (λ i. standing (slice_index_or tables.slots i None) e.0.serial) (let same : e.0.slot ≡ h.0 = omega (arith, h.1) in same) ∙ h.2) (listed_from 0 tables.slots j)

  -- a slot is written, and its table stays
  same_slots : (m : ℕ) (xs : List (Option (Held Y))) (n : ℕ) (x y : Held Y) → slice_index_or xs n None ≡ Some x → y.value.serial ≡ x.value.serial → y.value.table ≡ x.value.table → tables_from m (slice_set xs n (Some y)) ≡ tables_from m xs
  same_slots m [] zero x y is e f = refl
  same_slots m [] (suc n) x y is e f = refl
  same_slots m (None ∷ xs) zero x y is e f = absurd (none_is_some x is)
  same_slots m (None ∷ xs) (suc n) x y is e f = same_slots (suc m) xs n x y is e f
  same_slots m (Some z ∷ xs) zero x y is e f = λ i. (record { slot = m; serial = (e ∙ ap (λ v. v.value.serial) (sym (one_some z x is))) i }, (f ∙ ap (λ v. v.value.table) (sym (one_some z x is))) i) ∷ tables_from (suc m) xs
  same_slots m (Some z ∷ xs) (suc n) x y is e f = λ i. (record { slot = m; serial = z.value.serial }, z.value.table) ∷ same_slots (suc m) xs n x y is e f i

  pub same_seen : (tables : Slab (Held Y)) (last n : ℕ) (x y : Held Y) → slots.get tables n ≡ Some x → y.value.serial ≡ x.value.serial → y.value.table ≡ x.value.table → store_of (with_value tables n y) last ≡ store_of tables last
  same_seen tables last n x y is e f = λ i. record { tables = same_slots 0 tables.slots n x y is e f i; last = last }

-- what stands under a key, where a test of slots and one of serials say whether it is the key that is changed
changed_by : (a b : Bool) (f : Archetype → Archetype) (old : Archetype) (new was : Option Archetype) → (a ≡ true → was ≡ (if b then Some old else None)) → (a ≡ true → new ≡ (if b then Some (f old) else None)) → (a ≡ false → new ≡ was)
    → new ≡ (if a && b then option_map f was else was)
changed_by true true f old new was o n s = n refl ∙ ap (option_map f) (sym (o refl))
changed_by true false f old new was o n s = n refl ∙ sym (o refl)
changed_by false b f old new was o n s = s refl

made_by : (a b : Bool) (t : Archetype) (new was : Option Archetype) → (a ≡ true → was ≡ None) → (a ≡ true → new ≡ (if b then Some t else None)) → (a ≡ false → new ≡ was)
    → new ≡ (if a && b then Some (unwrap_or was t) else was)
made_by true true t new was o n s = n refl ∙ ap (λ w. Some (unwrap_or w t)) (sym (o refl))
made_by true false t new was o n s = n refl ∙ sym (o refl)
made_by false b t new was o n s = s refl

released_by : (a b : Bool) (old : Archetype) (new was : Option Archetype) → (a ≡ true → was ≡ (if b then Some old else None)) → (a ≡ true → new ≡ None) → (a ≡ false → new ≡ was)
    → new ≡ (if a && b then None else was)
released_by true true old new was o n s = n refl
released_by true false old new was o n s = n refl ∙ sym (o refl)
released_by false b old new was o n s = s refl

module _ {Y : Type 0} (old new : Slab (Held Y)) (last next : ℕ) (k : TableKey) where
  at : (tables : Slab (Held Y)) (l : ℕ) (q : TableKey) (o : Option (Held Y)) → slots.get tables k.slot ≡ o → (q.slot == k.slot) ≡ true → table_at (store_of tables l) q ≡ standing o q.serial
  at tables l q o is e = table_at-slots tables l q ∙ ap (λ n. standing (slots.get tables n) q.serial) ((Decides-eqb q.slot k.slot).0 e) ∙ ap (λ x. standing x q.serial) is

  elsewhere : (o : Option (Held Y)) → Updates old new k.slot o → (q : TableKey) → (q.slot == k.slot) ≡ false → table_at (store_of new next) q ≡ table_at (store_of old last) q
  elsewhere o u q e = table_at-slots new next q ∙ ap (λ x. standing x q.serial) (u.others q.slot (λ same. true≢false (sym ((Decides-eqb q.slot k.slot).1 same) ∙ e))) ∙ sym (table_at-slots old last q)

  -- a slot's table changes
  pub table_at-changed : (x y : Held Y) (f : Archetype → Archetype) → slots.get old k.slot ≡ Some x → Updates old new k.slot (Some y) → x.value.serial ≡ k.serial → y.value.serial ≡ k.serial → y.value.table ≡ f x.value.table
      → (q : TableKey) → table_at (store_of new next) q ≡ changed_at (store_of old last) k f q
  table_at-changed x y f is u xs ys t q =
      changed_by (q.slot == k.slot) (q.serial == k.serial) f x.value.table _ _
      (λ e. at old last q (Some x) is e ∙ ap (λ n. if q.serial == n then Some x.value.table else None) xs)
      (λ e. at new next q (Some y) u.changed e ∙ ap (λ n. if q.serial == n then Some y.value.table else None) ys ∙ ap (λ v. if q.serial == k.serial then Some v else None) t)
      (elsewhere (Some y) u q)

  -- a table comes into a vacant slot
  pub table_at-made : (y : Held Y) (t : Archetype) → slots.get old k.slot ≡ None → Updates old new k.slot (Some y) → y.value.serial ≡ k.serial → y.value.table ≡ t
      → (q : TableKey) → table_at (store_of new next) q ≡ made_at (store_of old last) k t q
  table_at-made y t is u ys e q =
      made_by (q.slot == k.slot) (q.serial == k.serial) t _ _
      (λ b. at old last q None is b)
      (λ b. at new next q (Some y) u.changed b ∙ ap (λ n. if q.serial == n then Some y.value.table else None) ys ∙ ap (λ v. if q.serial == k.serial then Some v else None) e)
      (elsewhere (Some y) u q)

  -- a slot's table goes
  pub table_at-released : (x : Held Y) → slots.get old k.slot ≡ Some x → Updates old new k.slot None → x.value.serial ≡ k.serial
      → (q : TableKey) → table_at (store_of new next) q ≡ released_at (store_of old last) k q
  table_at-released x is u xs q =
      released_by (q.slot == k.slot) (q.serial == k.serial) x.value.table _ _
      (λ e. at old last q (Some x) is e ∙ ap (λ n. if q.serial == n then Some x.value.table else None) xs)
      (λ e. at new next q None u.changed e)
      (elsewhere None u q)
