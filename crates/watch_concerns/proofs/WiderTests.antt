-- What passes a test, what follows from a list and whether some of it passes depends on those of its members that pass a wider test.
use Rattle.std.proofs.Common.{◌≡◌, Bool, true, false, cond, inl, inr, List, [], ◌∷◌, refl, sym, ap, ◌∙◌}
use Rattle.std.specs.Prelude.{◌||◌, filter, filter_map, Option, None}
use Rattle.std.specs.List.{list_any, cons_option}
use Rattle.std.proofs.lemmas.Bool.{false≢true, cases_Bool}

module _ {X : Type 0} (wide : X → Bool) where
  -- each member that passes the test passes the wide one
  abbrev pub IsWithin : (X → Bool) → Type 0
  IsWithin p = (x : X) → p x ≡ true → wide x ≡ true

  fails : (p : X → Bool) → IsWithin p → (x : X) → wide x ≡ false → p x ≡ false
  fails p h x out = elim (cases_Bool (p x)) [ inl t ↦ absurd (false≢true (sym out ∙ h x t)) | inr f ↦ f ]

  filter_within : (p : X → Bool) → IsWithin p → (xs : List X) → filter p xs ≡ filter p (filter wide xs)
  filter_within p h [] = refl
  filter_within p h (x ∷ xs) = by (filter_within p h xs) (wide x) refl
    where
      by : filter p xs ≡ filter p (filter wide xs) → (b : Bool) → wide x ≡ b → filter p (x ∷ xs) ≡ filter p (cond b (x ∷ filter wide xs) (filter wide xs))
      by rest true passes = ap (λ ys. cond (p x) (x ∷ ys) ys) rest
      by rest false out = ap (λ b. cond b (x ∷ filter p xs) (filter p xs)) (fails p h x out) ∙ rest

  any_within : (p : X → Bool) → IsWithin p → (xs : List X) → list_any p xs ≡ list_any p (filter wide xs)
  any_within p h [] = refl
  any_within p h (x ∷ xs) = by (any_within p h xs) (wide x) refl
    where
      by : list_any p xs ≡ list_any p (filter wide xs) → (b : Bool) → wide x ≡ b → list_any p (x ∷ xs) ≡ list_any p (cond b (x ∷ filter wide xs) (filter wide xs))
      by rest true passes = ap (λ b. p x || b) rest
      by rest false out = ap (λ b. b || list_any p xs) (fails p h x out) ∙ rest

  maps_within : {Y : Type 0} (f : X → Option Y) → ((x : X) → wide x ≡ false → f x ≡ None) → (xs : List X) → filter_map f xs ≡ filter_map f (filter wide xs)
  maps_within f h [] = refl
  maps_within f h (x ∷ xs) = by (maps_within f h xs) (wide x) refl
    where
      by : filter_map f xs ≡ filter_map f (filter wide xs) → (b : Bool) → wide x ≡ b → filter_map f (x ∷ xs) ≡ filter_map f (cond b (x ∷ filter wide xs) (filter wide xs))
      by rest true passes = ap (cons_option (f x)) rest
      by rest false out = ap (λ o. cons_option o (filter_map f xs)) (h x out) ∙ rest

  -- so it is the same of two lists with the same members that pass the wide test
  module _ (xs ys : List X) (same : filter wide xs ≡ filter wide ys) where
    pub filter_same : (p : X → Bool) → IsWithin p → filter p xs ≡ filter p ys
    filter_same p h = filter_within p h xs ∙ ap (filter p) same ∙ sym (filter_within p h ys)

    pub any_same : (p : X → Bool) → IsWithin p → list_any p xs ≡ list_any p ys
    any_same p h = any_within p h xs ∙ ap (list_any p) same ∙ sym (any_within p h ys)

    pub maps_same : {Y : Type 0} (f : X → Option Y) → ((x : X) → wide x ≡ false → f x ≡ None) → filter_map f xs ≡ filter_map f ys
    maps_same f h = maps_within f h xs ∙ ap (filter_map f) same ∙ sym (maps_within f h ys)
