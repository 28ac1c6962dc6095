-- What a filter has, and that it keeps a rising list rising.
use Rattle.std.proofs.Common.{◌≡◌, ℕ, zero, suc, ◌<◌, Bool, true, false, cond, List, [], ◌∷◌, length, map, slice_index_or, refl, sym, ap, subst, ◌∙◌, arith}
use Rattle.std.specs.declared.cmp.Ordering.TheVariants.{Less}
use Rattle.std.specs.List.{AllByRecursion, Contains, filter}
use Rattle.std.specs.List.Sorted.{IsStrictlySortedBy}
use Rattle.std.specs.Ordering.{nat_cmp}
use Rattle.ecs_id.specs.declared.TableKey.{TableKey}
use Rattle.query_cache.specs.Kept.{IsRising}

abbrev serials_of : List TableKey → List ℕ
serials_of keys = map (λ k. k.serial) keys

module _ {X : Type 0} (p : X → Bool) where
  later : (x y : X) (xs : List X) → Contains xs x → Contains (y ∷ xs) x
  later x y xs h = (suc h.0, omega (arith, h.1), h.2)

  pub from_filter : (xs : List X) (x : X) (i : ℕ) → i < length (filter p xs) → slice_index_or (filter p xs) i x ≡ x → Contains xs x × (p x ≡ true)
  from_filter [] x i lt e = absurd (omega (arith, lt))
  from_filter (y ∷ xs) x i lt e = by (p y) refl i lt e (from_filter xs x)
    where
      by : (b : Bool) → p y ≡ b → (i : ℕ) → i < length (cond b (y ∷ filter p xs) (filter p xs)) → slice_index_or (cond b (y ∷ filter p xs) (filter p xs)) i x ≡ x
          → ((j : ℕ) → j < length (filter p xs) → slice_index_or (filter p xs) j x ≡ x → Contains xs x × (p x ≡ true)) → Contains (y ∷ xs) x × (p x ≡ true)
      by true h zero lt e ih = ((zero, omega arith, e), ap p (sym e) ∙ h)
      by true h (suc j) lt e ih = let r = ih j (omega (arith, lt)) e in (later x y xs r.0, r.1)
      by false h j lt e ih = let r = ih j lt e in (later x y xs r.0, r.1)

  pub to_filter : (xs : List X) (x : X) (i : ℕ) → i < length xs → slice_index_or xs i x ≡ x → p x ≡ true → Contains (filter p xs) x
  to_filter [] x i lt e t = absurd (omega (arith, lt))
  to_filter (y ∷ xs) x zero lt e t = subst (λ b. Contains (cond b (y ∷ filter p xs) (filter p xs)) x) (sym (ap p e ∙ t)) (zero, omega arith, e)
  to_filter (y ∷ xs) x (suc i) lt e t = by (p y) (to_filter xs x i (omega (arith, lt)) e t)
    where
      by : (b : Bool) → Contains (filter p xs) x → Contains (cond b (y ∷ filter p xs) (filter p xs)) x
      by true h = later x y (filter p xs) h
      by false h = h

-- rising lists
module _ (P : ℕ → Type 0) where
  pub all_filter : (p : TableKey → Bool) (keys : List TableKey) → AllByRecursion P (serials_of keys) → AllByRecursion P (serials_of (filter p keys))
  all_filter p [] all = tt
  all_filter p (k ∷ keys) all = by (p k) (all_filter p keys all.1)
    where
      by : (b : Bool) → AllByRecursion P (serials_of (filter p keys)) → AllByRecursion P (serials_of (cond b (k ∷ filter p keys) (filter p keys)))
      by true rest = (all.0, rest)
      by false rest = rest

pub rising_filter : (p : TableKey → Bool) (keys : List TableKey) → IsRising keys → IsRising (filter p keys)
unfolding IsStrictlySortedBy
rising_filter p [] rise = tt
rising_filter p (k ∷ keys) rise = by (p k) (rising_filter p keys rise.1)
  where
    by : (b : Bool) → IsRising (filter p keys) → IsRising (cond b (k ∷ filter p keys) (filter p keys))
    by true rest = (all_filter (λ y. nat_cmp k.serial y ≡ Less) p keys rise.0, rest)
    by false rest = rest
