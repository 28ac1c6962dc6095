-- How many tables stand, and how many keys are remembered.
use Rattle.std.proofs.Common.{◌≡◌, ◌↔◌, ◌<◌, ℕ, zero, suc, ◌≤◌, ◌==◌, ◌||◌, Bool, true, false, cond, List, [], ◌∷◌, Option, Some, None, IsSome, count_by, is_some, length, map, option_map, slice_index_or, refl, sym, ap, subst, ◌∙◌, true≢false, arith}
use Rattle.std.specs.Cmp.{IsEquivalence, eq_by_cmp_equiv, unsigned_tied}
use Rattle.std.specs.List.{Contains, IsDistinct, filter, find, list_any}
use Rattle.std.proofs.lemmas.Bool.Decides.{Decides-eqb}
use Rattle.std.proofs.lemmas.Cmp.{nat_cmp_total}
use Rattle.std.proofs.lemmas.List.{length-map}
use Rattle.std.proofs.lemmas.List.Sums.{sum_by-cons}
use Rattle.std.proofs.lemmas.Map.Keys.{IsDistinct-from_sorted}
use Rattle.std.proofs.lemmas.Map.Made.{length-le_from_is_member}
use Rattle.std.specs.Ordering.{nat_cmp}
use Rattle.std.proofs.lemmas.Bool.{or_right}
use Rattle.slab.specs.Slab as slots
use Rattle.slab.specs.Slab.{Slab, Updates, slab_len}
use Rattle.ecs_id.specs.declared.TableKey.{TableKey}
use Rattle.ecs_table.specs.Archetype.{Archetype}
use Rattle.ecs_id.specs.TableKeys.{table_eq}
use Rattle.table_store.specs.Store.{Store, table_at}
use Rattle.table_store.specs.Kept.{Held, IsOrder, is_held, store_of, tables_from}
use Rattle.table_store.proofs.Order.{IsRising, passed, rising_filter, serials_of, to_filter}
use Rattle.table_store.proofs.Slots.{both, table_at-slots}

pub nothing_at : {X : Type 0} (j : ℕ) (none : X) → slice_index_or [] j none ≡ none
nothing_at zero none = refl
nothing_at (suc j) none = refl

module _ {Y : Type 0} where
  -- as many tables as slots have one
  tables_counted : (n : ℕ) (xs : List (Option (Held Y))) → length (tables_from n xs) ≡ count_by is_some xs
  tables_counted n [] = refl
  tables_counted n (None ∷ xs) = let rest = tables_counted (suc n) xs in let more = sum_by-cons (λ (x : Option (Held Y)). cond (is_some x) 1 0) None xs in omega (arith, rest, more)
  tables_counted n (Some x ∷ xs) = let rest = tables_counted (suc n) xs in let more = sum_by-cons (λ (x : Option (Held Y)). cond (is_some x) 1 0) (Some x) xs in omega (arith, rest, more)

  pub as_many : (tables : Slab (Held Y)) (last : ℕ) → length (store_of tables last).tables ≡ slab_len tables
  as_many tables last = tables_counted 0 tables.slots

  -- where the same slots have tables, they are as many
  abbrev SameSlots : List (Option (Held Y)) → List (Option (Held Y)) → Type 0
  SameSlots xs ys = (j : ℕ) → is_some (slice_index_or ys j None) ≡ is_some (slice_index_or xs j None)

  same_count : (m n : ℕ) (xs ys : List (Option (Held Y))) → SameSlots xs ys → length (tables_from n ys) ≡ length (tables_from m xs)
  same_count m n [] [] same = refl
  same_count m n [] (None ∷ ys) same = same_count m (suc n) [] ys (λ j. same (suc j) ∙ ap is_some (sym (nothing_at {X = Option (Held Y)} j None)))
  same_count m n [] (Some y ∷ ys) same = absurd (true≢false (same 0))
  same_count m n (None ∷ xs) [] same = same_count (suc m) n xs [] (λ j. ap is_some (nothing_at {X = Option (Held Y)} j None) ∙ same (suc j))
  same_count m n (Some x ∷ xs) [] same = absurd (true≢false (sym (same 0)))
  same_count m n (None ∷ xs) (None ∷ ys) same = same_count (suc m) (suc n) xs ys (λ j. same (suc j))
  same_count m n (None ∷ xs) (Some y ∷ ys) same = absurd (true≢false (same 0))
  same_count m n (Some x ∷ xs) (None ∷ ys) same = absurd (true≢false (sym (same 0)))
  same_count m n (Some x ∷ xs) (Some y ∷ ys) same = ap suc (same_count (suc m) (suc n) xs ys (λ j. same (suc j)))

  -- a slot is written
  pub still_as_many : (tables new : Slab (Held Y)) (last next n : ℕ) (x y : Held Y) → slots.get tables n ≡ Some x → Updates tables new n (Some y) → length (store_of new next).tables ≡ length (store_of tables last).tables
  still_as_many tables new last next n x y is u = same_count 0 0 tables.slots new.slots (λ j. by j (j == n) refl)
    where
      by : (j : ℕ) (b : Bool) → (j == n) ≡ b → is_some (slots.get new j) ≡ is_some (slots.get tables j)
      by j true e = let same = (Decides-eqb j n).0 e in ap (λ m. is_some (slots.get new m)) same ∙ ap is_some u.changed ∙ sym (ap is_some is) ∙ ap (λ m. is_some (slots.get tables m)) (sym same)
      by j false e = ap is_some (u.others j (λ same. true≢false (sym ((Decides-eqb j n).1 same) ∙ e)))

-- whether two numbers are one
abbrev same_number : ℕ → ℕ → Bool
same_number x y = x == y

numbers : IsEquivalence same_number
numbers = subst IsEquivalence (λ i x y. unsigned_tied x y i) (eq_by_cmp_equiv nat_cmp_total)

distinct : (keys : List TableKey) → IsRising keys → IsDistinct same_number (serials_of keys)
distinct keys rise = subst (λ (e : ℕ → ℕ → Bool). IsDistinct e (serials_of keys)) (λ i x y. unsigned_tied x y i) (IsDistinct-from_sorted nat_cmp (serials_of keys) rise)

-- a key under which a table stands has the serial of one that is listed
serial_listed : (k : TableKey) (es : List (TableKey × Archetype)) → is_some (option_map (λ e. e.1) (find (λ e. table_eq k e.0) es)) ≡ true → list_any (same_number k.serial) (map (λ e. e.0.serial) es) ≡ true
serial_listed k [] h = absurd (true≢false (sym h))
serial_listed k (e ∷ es) h = by (table_eq k e.0) refl h (serial_listed k es)
  where
    by : (b : Bool) → table_eq k e.0 ≡ b → is_some (option_map (λ v. v.1) (cond b (Some e) (find (λ v. table_eq k v.0) es))) ≡ true
        → (is_some (option_map (λ v. v.1) (find (λ v. table_eq k v.0) es)) ≡ true → list_any (same_number k.serial) (map (λ v. v.0.serial) es) ≡ true)
        → (k.serial == e.0.serial || list_any (same_number k.serial) (map (λ v. v.0.serial) es)) ≡ true
    by true t there rest = ap (λ b. b || list_any (same_number k.serial) (map (λ v. v.0.serial) es)) (both (k.slot == e.0.slot) (k.serial == e.0.serial) t).1
    by false t there rest = or_right (k.serial == e.0.serial) _ (rest there)

module _ {Y : Type 0} (tables : Slab (Held Y)) (last : ℕ) where
  abbrev serials : List ℕ
  serials = map (λ (e : TableKey × Archetype). e.0.serial) (store_of tables last).tables

  here : (k : TableKey) → is_held tables k ≡ true → list_any (same_number k.serial) serials ≡ true
  unfolding table_at
  here k held = serial_listed k (store_of tables last).tables (ap is_some (table_at-slots tables last k) ∙ held)

  abbrev Rest : ℕ → List TableKey → Type 0
  Rest q keys = list_any (same_number q) (serials_of (filter (is_held tables) keys)) ≡ true → list_any (same_number q) serials ≡ true

  all_here : (q : ℕ) (keys : List TableKey) → list_any (same_number q) (serials_of (filter (is_held tables) keys)) ≡ true → list_any (same_number q) serials ≡ true
  all_here q [] h = absurd (true≢false (sym h))
  all_here q (k ∷ keys) h = by (is_held tables k) refl h (all_here q keys)
    where
      first : is_held tables k ≡ true → (b : Bool) → (q == k.serial) ≡ b → (b || list_any (same_number q) (serials_of (filter (is_held tables) keys))) ≡ true → Rest q keys → list_any (same_number q) serials ≡ true
      first held true e h rest = subst (λ n. list_any (same_number n) serials ≡ true) (sym ((Decides-eqb q k.serial).0 e)) (here k held)
      first held false e h rest = rest h

      by : (b : Bool) → is_held tables k ≡ b → list_any (same_number q) (serials_of (cond b (k ∷ filter (is_held tables) keys) (filter (is_held tables) keys))) ≡ true → Rest q keys → list_any (same_number q) serials ≡ true
      by true held h rest = first held (q == k.serial) refl h rest
      by false held h rest = rest h

  -- keys under which tables stand are no more than tables
  pub held_few : (keys : List TableKey) → IsRising keys → length (filter (is_held tables) keys) ≤ slab_len tables
  held_few keys rise =
      let held = filter (is_held tables) keys in
      let least = length-le_from_is_member numbers (serials_of held) serials (distinct held (rising_filter (is_held tables) keys rise)) (λ q h. all_here q keys h) in
      let a = length-map held (λ (k : TableKey). k.serial) in
      let b = length-map (store_of tables last).tables (λ (e : TableKey × Archetype). e.0.serial) in
      let c = as_many tables last in
      omega (arith, least, a, b, c)

module _ {Y : Type 0} (tables : Slab (Held Y)) (last : ℕ) (s : Store) (view : store_of tables last ≡ s) where
  held_is : (k : TableKey) → is_some (table_at s k) ≡ is_held tables k
  held_is k = ap (λ v. is_some (table_at v k)) (sym view) ∙ ap is_some (table_at-slots tables last k)

  -- of the keys above a serial, those under which tables stand are all the tables above it
  pub exactly_held : (keys : List TableKey) → IsOrder s keys → (serial : ℕ) (above : List TableKey) → ((k : TableKey) → Contains keys k → serial < k.serial → Contains above k) → ((k : TableKey) → Contains above k → serial < k.serial)
      → (given : List TableKey) → given ≡ filter (is_held tables) above → (k : TableKey) → Contains given k ↔ (IsSome (table_at s k) × (serial < k.serial))
  exactly_held keys order serial above listed newer given e k = (
    λ c. let h = passed (is_held tables) above k (subst (λ l. Contains l k) e c) in (held_is k ∙ h.1, newer k h.0),
    λ h. let c = listed k (order.has k h.0) h.1 in subst (λ l. Contains l k) (sym e) (to_filter (is_held tables) above k c.0 c.1 c.2 (sym (held_is k) ∙ h.0)),
  )
