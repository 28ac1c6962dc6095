-- The keys by serial, before and after a change, and those with greater serials.
use Rattle.std.proofs.Common.{◌≡◌, ◌⊎◌, inl, inr, ℕ, zero, suc, ◌+◌, ◌*◌, ◌-◌, ◌<◌, ◌≤◌, leb, leb-false, leb-true, Bool, true, false, cond, List, [], ◌∷◌, ◌++◌, IsSome, drop, get_or-drop, length, length-drop, map, slice_index_or, refl, sym, ap, subst, ◌∙◌, arith}
use Rattle.std.specs.declared.cmp.Ordering.TheVariants.{Less}
use Rattle.std.proofs.lemmas.Bool.Decides.{nat_tests}
use Rattle.std.proofs.lemmas.List.Elements.{Contains-append_cases, Contains-append_left, Contains-append_right}
use Rattle.std.proofs.lemmas.List.{get_or-map, length_push}
use Rattle.std.proofs.lemmas.Map.Keys.{below_from_sorted}
use Rattle.std.specs.List.{AllByRecursion, Contains, filter}
use Rattle.std.specs.List.Sorted.{IsNonDecreasingBy, IsPartitionPoint, IsStrictlySortedBy}
use Rattle.std.specs.Ordering.{nat_cmp}
use Rattle.ecs_id.specs.declared.TableKey.{TableKey}
use Rattle.table_store.specs.Store.{Store, table_at}
use Rattle.table_store.specs.Kept.{IsOrder}

abbrev pub serials_of : List TableKey → List ℕ
serials_of keys = map (λ k. k.serial) keys

abbrev pub IsRising : List TableKey → Type 0
IsRising keys = IsStrictlySortedBy nat_cmp (serials_of keys)

pub less_is : (x y : ℕ) → x < y → nat_cmp x y ≡ Less
less_is x y h = grind (arith, nat_tests)

-- what a filter has
module _ {X : Type 0} (p : X → Bool) where
  later : (x y : X) (xs : List X) → Contains xs x → Contains (y ∷ xs) x
  later x y xs h = (suc h.0, omega (arith, h.1), h.2)

  from_filter : (xs : List X) (x : X) (i : ℕ) → i < length (filter p xs) → slice_index_or (filter p xs) i x ≡ x → Contains xs x
  from_filter [] x i lt e = absurd (omega (arith, lt))
  from_filter (y ∷ xs) x i lt e = by (p y) i lt e (from_filter xs x)
    where
      by : (b : Bool) → (i : ℕ) → i < length (cond b (y ∷ filter p xs) (filter p xs)) → slice_index_or (cond b (y ∷ filter p xs) (filter p xs)) i x ≡ x
          → ((j : ℕ) → j < length (filter p xs) → slice_index_or (filter p xs) j x ≡ x → Contains xs x) → Contains (y ∷ xs) x
      by true zero lt e ih = (zero, omega arith, e)
      by true (suc j) lt e ih = later x y xs (ih j (omega (arith, lt)) e)
      by false j lt e ih = later x y xs (ih j lt e)

  pub to_filter : (xs : List X) (x : X) (i : ℕ) → i < length xs → slice_index_or xs i x ≡ x → p x ≡ true → Contains (filter p xs) x
  to_filter [] x i lt e t = absurd (omega (arith, lt))
  to_filter (y ∷ xs) x zero lt e t = subst (λ b. Contains (cond b (y ∷ filter p xs) (filter p xs)) x) (sym (ap p e ∙ t)) (zero, omega arith, e)
  to_filter (y ∷ xs) x (suc i) lt e t = by (p y) (to_filter xs x i (omega (arith, lt)) e t)
    where
      by : (b : Bool) → Contains (filter p xs) x → Contains (cond b (y ∷ filter p xs) (filter p xs)) x
      by true h = later x y (filter p xs) h
      by false h = h

-- an element of a filtered list passes the test
pub passed : {X : Type 0} (p : X → Bool) (xs : List X) (x : X) → Contains (filter p xs) x → Contains xs x × (p x ≡ true)
passed p xs x c = (from_filter p xs x c.0 c.1 c.2, tested p xs x c.0 c.1 c.2)
  where
    tested : {X : Type 0} (p : X → Bool) (xs : List X) (x : X) (i : ℕ) → i < length (filter p xs) → slice_index_or (filter p xs) i x ≡ x → p x ≡ true
    tested p [] x i lt e = absurd (omega (arith, lt))
    tested p (y ∷ xs) x i lt e = by (p y) refl i lt e (tested p xs x)
      where
        by : (b : Bool) → p y ≡ b → (i : ℕ) → i < length (cond b (y ∷ filter p xs) (filter p xs)) → slice_index_or (cond b (y ∷ filter p xs) (filter p xs)) i x ≡ x
            → ((j : ℕ) → j < length (filter p xs) → slice_index_or (filter p xs) j x ≡ x → p x ≡ true) → p x ≡ true
        by true t zero lt e ih = ap p (sym e) ∙ t
        by true t (suc j) lt e ih = ih j (omega (arith, lt)) e
        by false t j lt e ih = ih j lt e

-- rising lists
all_filter : (P : ℕ → Type 0) (p : TableKey → Bool) (keys : List TableKey) → AllByRecursion P (serials_of keys) → AllByRecursion P (serials_of (filter p keys))
all_filter P p [] all = tt
all_filter P p (k ∷ keys) all = by (p k) (all_filter P p keys all.1)
  where
    by : (b : Bool) → AllByRecursion P (serials_of (filter p keys)) → AllByRecursion P (serials_of (cond b (k ∷ filter p keys) (filter p keys)))
    by true rest = (all.0, rest)
    by false rest = rest

pub rising_filter : (p : TableKey → Bool) (keys : List TableKey) → IsRising keys → IsRising (filter p keys)
unfolding IsStrictlySortedBy
rising_filter p [] rise = tt
rising_filter p (k ∷ keys) rise = by (p k) (rising_filter p keys rise.1)
  where
    by : (b : Bool) → IsRising (filter p keys) → IsRising (cond b (k ∷ filter p keys) (filter p keys))
    by true rest = (all_filter (λ y. nat_cmp k.serial y ≡ Less) p keys rise.0, rest)
    by false rest = rest

all_push : (P : ℕ → Type 0) (keys : List TableKey) (k : TableKey) → AllByRecursion P (serials_of keys) → P k.serial → AllByRecursion P (serials_of (keys ++ k ∷ []))
all_push P [] k all h = (h, tt)
all_push P (x ∷ keys) k all h = (all.0, all_push P keys k all.1 h)

rising_push : (keys : List TableKey) (k : TableKey) → IsRising keys → ((q : TableKey) → Contains keys q → q.serial < k.serial) → IsRising (keys ++ k ∷ [])
unfolding IsStrictlySortedBy
rising_push [] k rise below = (tt, tt)
rising_push (x ∷ keys) k rise below = (
  all_push (λ y. nat_cmp x.serial y ≡ Less) keys k rise.0 (less_is x.serial k.serial (below x (zero, omega arith, refl))),
  rising_push keys k rise.1 (λ q c. below q (suc c.0, omega (arith, c.1), c.2)),
)

pub rising_drop : (i : ℕ) (keys : List TableKey) → IsRising keys → IsRising (drop i keys)
unfolding IsStrictlySortedBy
rising_drop zero keys rise = rise
rising_drop (suc i) [] rise = tt
rising_drop (suc i) (k ∷ keys) rise = rising_drop i keys rise.1

either : (i j : ℕ) → i ≤ j → (i ≡ j) ⊎ (i < j)
either i j le = grind arith

pub non_decreasing : (keys : List TableKey) → IsRising keys → IsNonDecreasingBy (λ (k : TableKey). k.serial) keys
non_decreasing keys rise i j d le lt = elim (either i j le) [
  | inl same ↦ let e : (slice_index_or keys i d).serial ≡ (slice_index_or keys j d).serial = ap (λ n. (slice_index_or keys n d).serial) same in omega (arith, e)
  | inr less ↦
      let a = get_or-map (λ (k : TableKey). k.serial) keys i d d.serial (omega (arith, less, lt)) in
      let b = get_or-map (λ (k : TableKey). k.serial) keys j d d.serial lt in
      let below = below_from_sorted (serials_of keys) i j d.serial rise less (subst (λ n. j < n) (sym (length_serials keys)) lt) in
      omega (arith, a, b, below)
]
  where
    length_serials : (keys : List TableKey) → length (serials_of keys) ≡ length keys
    length_serials [] = refl
    length_serials (k ∷ keys) = ap suc (length_serials keys)

-- the keys from the first one on whose serial is greater than a
module _ (keys : List TableKey) (a i : ℕ) (point : IsPartitionPoint (λ (k : TableKey). leb k.serial a ≡ true) (λ (k : TableKey). leb k.serial a ≡ false) keys i) where
  pub newer_listed : (q : TableKey) → Contains keys q → a < q.serial → Contains (drop i keys) q
  newer_listed q c greater = by (from i c.0)
    where
      from : (i j : ℕ) → (j < i) ⊎ (i ≤ j)
      from i j = grind arith

      by : (c.0 < i) ⊎ (i ≤ c.0) → Contains (drop i keys) q
      by (inl low) = let h = leb-true _ _ (point.0 c.0 q (omega arith) low) in let e : (slice_index_or keys c.0 q).serial ≡ q.serial = ap (λ k. k.serial) c.2 in absurd (omega (arith, h, e, greater))
      by (inr high) =
          let long = length-drop i keys in
          let same : i + (c.0 - i) ≡ c.0 = omega (arith, high) in
          (c.0 - i, omega (arith, long, c.1, high), get_or-drop i keys (c.0 - i) q ∙ ap (λ n. slice_index_or keys n q) same ∙ c.2)

  pub newer_above : (q : TableKey) → Contains (drop i keys) q → a < q.serial
  newer_above q c =
      let long = length-drop i keys in
      let at = sym (get_or-drop i keys c.0 q) ∙ c.2 in
      let e : (slice_index_or keys (i + c.0) q).serial ≡ q.serial = ap (λ k. k.serial) at in
      let h = leb-false _ _ (point.1 (i + c.0) q (omega arith) (omega (arith, long, c.1))) in
      omega (arith, h, e)

only_one : (k q : TableKey) (i : ℕ) → i < length (k ∷ []) → slice_index_or (k ∷ []) i q ≡ q → k ≡ q
only_one k q zero lt e = e
only_one k q (suc i) lt e = absurd (omega (arith, lt))

-- one more key, at the end
pub order_pushed : (s n : Store) (keys now : List TableKey) (k : TableKey) → IsOrder s keys → ((q : TableKey) → IsSome (table_at n q) → (q ≡ k) ⊎ IsSome (table_at s q)) → s.last < k.serial → n.last ≡ k.serial
    → length n.tables ≡ length s.tables + 1 → now ≡ keys ++ k ∷ [] → IsOrder n now
order_pushed s n keys now k order was newer last more e = subst (IsOrder n) (sym e) (record {
  has = λ q h. elim (was q h) [
    | inl same ↦ Contains-append_right keys (k ∷ []) q (zero, omega arith, sym same)
    | inr old ↦ Contains-append_left keys (k ∷ []) q (order.has q old)
  ];
  given = λ q c. elim (Contains-append_cases keys (k ∷ []) q c) [
    | inl old ↦ let h = order.given q old in omega (arith, h, newer, last)
    | inr new ↦ let same : k.serial ≡ q.serial = ap (λ z. z.serial) (only_one k q new.0 new.1 new.2) in omega (arith, same, last)
  ];
  rising = rising_push keys k order.rising (λ q c. let h = order.given q c in omega (arith, h, newer));
  few = let long = length_push keys k in omega (arith, long, more, order.few);
})

-- keys of tables that don't stand go, or stay
pub order_forgotten : (s n : Store) (keys now : List TableKey) (held : TableKey → Bool) → IsOrder s keys → ((q : TableKey) → IsSome (table_at n q) → IsSome (table_at s q) × (held q ≡ true)) → n.last ≡ s.last
    → length now ≤ 2 * length n.tables + 1 → (now ≡ keys) ⊎ (now ≡ filter held keys) → IsOrder n now
order_forgotten s n keys now held order still last few e = elim e [
  | inl same ↦ subst (IsOrder n) (sym same) (record { has = λ q h. order.has q (still q h).0; given = λ q c. let h = order.given q c in omega (arith, h, last); rising = order.rising; few = subst (λ l. length l ≤ 2 * length n.tables + 1) same few })
  | inr less ↦ subst (IsOrder n) (sym less) (record {
    has = λ q h. let was = still q h in let c = order.has q was.0 in to_filter held keys q c.0 c.1 c.2 was.1;
    given = λ q c. let h = order.given q (from_filter held keys q c.0 c.1 c.2) in omega (arith, h, last);
    rising = rising_filter held keys order.rising;
    few = subst (λ l. length l ≤ 2 * length n.tables + 1) less few;
  })
]
