-- What a sync leaves: the keys that were there and those that were taken in, without the released ones.
use Rattle.std.proofs.Common.{◌≡◌, ◌↔◌, ◌⊎◌, inl, inr, ℕ, zero, ◌<◌, ◌≤◌, Bool, true, false, List, [], ◌∷◌, ◌++◌, Option, Some, None, IsTrue, Result, Ok, is_some, length, max, option_map, refl, sym, ap, subst, ◌∙◌, arith}
use Rattle.std.specs.declared.cmp.Ordering.TheVariants.{Less}
use Rattle.std.specs.List.{AllByRecursion, Contains, filter}
use Rattle.std.specs.List.Sorted.{IsStrictlySortedBy}
use Rattle.std.specs.Option.{option_map_or}
use Rattle.std.specs.Ordering.{nat_cmp}
use Rattle.std.proofs.lemmas.List.Elements.{Contains-append_cases, Contains-append_left, Contains-append_right}
use Rattle.id_pattern.specs.declared.Pattern.{Pattern}
use Rattle.ecs_id.specs.declared.TableKey.{TableKey}
use Rattle.ecs_table.specs.Archetype.{Archetype}
use Rattle.table_store.specs.Store.{Store, IsStore, table_at}
use Rattle.query_cache.specs.Kept.{AreAbove, Counts, Fits, IsRising, IsTakenIn, Judges, Kept, is_kept, stands, suits}
use Rattle.query_cache.proofs.Filters.{all_filter, from_filter, rising_filter, to_filter}
use Rattle.query_cache.proofs.TakenTables.{all_of, from_mapped, less_is, serials_of}

all_append : (P : ℕ → Type 0) (xs ys : List TableKey) → AllByRecursion P (serials_of xs) → AllByRecursion P (serials_of ys) → AllByRecursion P (serials_of (xs ++ ys))
all_append P [] ys a b = b
all_append P (x ∷ xs) ys a b = (a.0, all_append P xs ys a.1 b)

weaken : (P Q : ℕ → Type 0) → ((n : ℕ) → P n → Q n) → (xs : List ℕ) → AllByRecursion P xs → AllByRecursion Q xs
weaken P Q f [] all = tt
weaken P Q f (x ∷ xs) all = (f x all.0, weaken P Q f xs all.1)

rising_append : (n : ℕ) (xs ys : List TableKey) → IsRising xs → IsRising ys → AllByRecursion (λ x. x ≤ n) (serials_of xs) → AllByRecursion (λ y. n < y) (serials_of ys) → IsRising (xs ++ ys)
unfolding IsStrictlySortedBy
rising_append n [] ys rise more low high = more
rising_append n (x ∷ xs) ys rise more low high = (
  all_append (λ y. nat_cmp x.serial y ≡ Less) xs ys rise.0 (weaken (λ y. n < y) (λ y. nat_cmp x.serial y ≡ Less) (λ y h. less_is x.serial y (omega (arith, h, low.0))) (serials_of ys) high),
  rising_append n xs ys rise.1 more low.1 high,
)

kept_stands : (o : Option Archetype) (patterns : List Pattern) → IsTrue (option_map_or (suits patterns) (option_map (λ t. t.ids) o) false) → IsTrue (is_some o)
kept_stands None patterns y = y
kept_stands (Some t) patterns y = refl

either : (a b : ℕ) → (a ≤ b) ⊎ (b < a)
either a b = grind arith

-- the list after a sync
module _ (s : Store) (store : IsStore s) (kept : Kept) (fits : Fits kept s) (above : List TableKey) (are_above : AreAbove s kept.last above) (n : ℕ)
    (greatest : (kept.last ≤ n) × (n ≤ max kept.last s.last) × ((k : TableKey) → IsTrue (stands s k) → kept.last < k.serial → k.serial ≤ n)) where
  abbrev p : TableKey → Bool
  p k = is_kept kept.patterns s k

  abbrev pub synced : List TableKey
  synced = filter (stands s) (kept.keys ++ filter p above)

  contained : (k : TableKey) → Contains synced k → IsTrue (stands s k) × (Contains kept.keys k ⊎ (Contains above k × (p k ≡ true)))
  contained k c =
      let there = from_filter (stands s) (kept.keys ++ filter p above) k c.0 c.1 c.2 in
      (there.1, by (Contains-append_cases kept.keys (filter p above) k there.0))
    where
      by : Contains kept.keys k ⊎ Contains (filter p above) k → Contains kept.keys k ⊎ (Contains above k × (p k ≡ true))
      by (inl a) = inl a
      by (inr a) = inr (from_filter p above k a.0 a.1 a.2)

  in_kept : (k : TableKey) → Contains synced k → IsTrue (p k)
  in_kept k c = let w = contained k c in by w.0 w.1
    where
      by : IsTrue (stands s k) → Contains kept.keys k ⊎ (Contains above k × (p k ≡ true)) → IsTrue (p k)
      by there (inl a) = fits.only k a there
      by there (inr a) = a.1

  kept_in : (k : TableKey) → IsTrue (p k) → Contains synced k
  kept_in k y =
      let c = by (either k.serial kept.last) in
      to_filter (stands s) (kept.keys ++ filter p above) k c.0 c.1 c.2 there
    where
      there : IsTrue (stands s k)
      there = kept_stands (table_at s k) kept.patterns y

      by : (k.serial ≤ kept.last) ⊎ (kept.last < k.serial) → Contains (kept.keys ++ filter p above) k
      by (inl low) = Contains-append_left kept.keys (filter p above) k (fits.has k (store.serials k there).0 low y)
      by (inr high) = let c = (are_above.listed k).1 (there, high) in Contains-append_right kept.keys (filter p above) k (to_filter p above k c.0 c.1 c.2 y)

  pub exact : (keys : List TableKey) → keys ≡ synced → (k : TableKey) → Contains keys k ↔ IsTrue (p k)
  exact keys e k = (λ c. in_kept k (subst (λ l. Contains l k) e c), λ y. subst (λ l. Contains l k) (sym e) (kept_in k y))

  pub synced_up : (k : TableKey) → IsTrue (stands s k) → k.serial ≤ n
  synced_up k there = by (either k.serial kept.last)
    where
      by : (k.serial ≤ kept.last) ⊎ (kept.last < k.serial) → k.serial ≤ n
      by (inl low) = omega (arith, low, greatest.0)
      by (inr high) = greatest.2 k there high

  serial_in : (keys : List TableKey) (x : ℕ) → Contains (serials_of keys) x → (k : TableKey) × Contains keys k × (k.serial ≡ x)
  serial_in keys x c = from_mapped (λ k. k.serial) keys x c.0 c.1 c.2

  pub rising : (keys : List TableKey) → keys ≡ synced → IsRising keys
  rising keys e = subst IsRising (sym e) (rising_filter (stands s) (kept.keys ++ filter p above)
      (rising_append kept.last kept.keys (filter p above) fits.rising (rising_filter p above are_above.rising)
      (all_of (λ x. x ≤ kept.last) (serials_of kept.keys) (λ x c. let k = serial_in kept.keys x c in subst (λ v. v ≤ kept.last) k.2 (fits.given k.0 k.1)))
      (all_filter (λ y. kept.last < y) p above
      (all_of (λ y. kept.last < y) (serials_of above) (λ x c. let k = serial_in above x c in subst (λ v. kept.last < v) k.2 ((are_above.listed k.0).0 k.1).1)))))

  pub fits_now : (now : Kept) → now.patterns ≡ kept.patterns → now.keys ≡ synced → now.last ≡ n → Fits now s
  fits_now now same keys last = record {
    last = omega (arith, last, greatest.1, fits.last);
    has = λ k one h y. (exact now.keys keys k).1 (subst (λ l. IsTrue (is_kept l s k)) same y);
    only = λ k c there. subst (λ l. IsTrue (is_kept l s k)) (sym same) ((exact now.keys keys k).0 c);
    given = λ k c. let h : k.serial ≤ n = synced_up k (kept_stands (table_at s k) kept.patterns ((exact now.keys keys k).0 c)) in omega (arith, h, last);
    rising = rising now.keys keys;
  }

-- the list after a refusal
pub fits_still : (s : Store) (kept now : Kept) → Fits kept s → now.patterns ≡ kept.patterns → now.keys ≡ kept.keys → now.last ≡ kept.last → Fits now s
fits_still s kept now fits same keys last = record {
  last = omega (arith, last, fits.last);
  has = λ k one h y. subst (λ l. Contains l k) (sym keys) (fits.has k one (omega (arith, h, last)) (subst (λ l. IsTrue (is_kept l s k)) same y));
  only = λ k c there. subst (λ l. IsTrue (is_kept l s k)) (sym same) (fits.only k (subst (λ l. Contains l k) keys c) there);
  given = λ k c. omega (arith, last, fits.given k (subst (λ l. Contains l k) keys c));
  rising = subst IsRising (sym keys) fits.rising;
}

-- what a call leaves that took in tables, and then dropped those that were released
pub record Leaves (s : Store) (kept : Kept) (keys : List TableKey) (n : ℕ) : Type 0 where
  pub exact : (k : TableKey) → Contains keys k ↔ IsTrue (is_kept kept.patterns s k)
  pub once : IsRising keys
  pub fits : (now : Kept) → now.patterns ≡ kept.patterns → now.keys ≡ keys → now.last ≡ n → Fits now s

pub leaves : {E : Type 0} (s t : Store) → s ≡ t → (kept : Kept) → Fits kept t → (patterns : List Pattern) → patterns ≡ kept.patterns → (n before after : ℕ) (mid keys : List TableKey)
    → IsTakenIn {E = E} s patterns kept.last (Ok n) kept.keys mid before after → keys ≡ filter (stands s) mid → Leaves t kept keys n
leaves s t same kept fits patterns own n before after mid keys taken e =
    let above = taken.judges.above in
    let are_above = taken.judges.are_above in
    let fits_there = subst (λ v. Fits kept v) (sym same) fits in
    let is : keys ≡ synced s taken.store kept fits_there above are_above n taken.greatest = e ∙ ap (filter (stands s)) (taken.taken ∙ ap (λ l. kept.keys ++ filter (is_kept l s) above) own) in
    let there : Leaves s kept keys n = record {
      exact = exact s taken.store kept fits_there above are_above n taken.greatest keys is;
      once = rising s taken.store kept fits_there above are_above n taken.greatest keys is;
      fits = λ now p k l. fits_now s taken.store kept fits_there above are_above n taken.greatest now p (k ∙ is) l;
    } in
    subst (λ v. Leaves v kept keys n) same there

-- where no table came since the last time, none is judged
none_above : (s : Store) (last : ℕ) (above : List TableKey) → AreAbove s last above → ((k : TableKey) → IsTrue (stands s k) → k.serial ≤ last) → length above ≡ 0
none_above s last [] are synced = refl
none_above s last (k ∷ ks) are synced = let there = (are.listed k).0 (zero, omega arith, refl) in let h : k.serial ≤ last = synced k there.0 in absurd (omega (arith, h, there.1))

pub unjudged : {X E : Type 0} (s t : Store) → s ≡ t → (last : ℕ) (r : Result X E) (before after : ℕ) → Judges s last r before after → ((k : TableKey) → IsTrue (stands t k) → k.serial ≤ last) → after ≡ before
unjudged s t same last r before after j synced =
    let none = none_above s last j.above j.are_above (subst (λ v. (k : TableKey) → IsTrue (stands v k) → k.serial ≤ last) (sym same) synced) in
    by (omega (arith, none, j.at_most)) j.counted
  where
    by : j.count ≡ 0 → Counts before j.count after → after ≡ before
    by none (inl e) = omega (arith, none, e)
    by none (inr e) = absurd (omega (arith, none, e.0))
