-- Members of lists, and what tests that are joined say.
use Rattle.std.proofs.Common.{◌≡◌, ℕ, suc, ◌+◌, ◌<◌, ◌==◌, ◌⊎◌, ◌↔◌, IsTrue, Bool, true, false, cond, true≢false, List, [], ◌∷◌, ◌++◌, length, get_or, take, drop, drop-cons, Option, Some, None, refl, sym, ◌∙◌, inl, inr, arith}
use Rattle.std.specs.List.{Contains, filter, filter_map, flat_map, list_any, cons_option}
use Rattle.std.proofs.lemmas.Bool.Decides.{nat_tests}
use Rattle.std.proofs.lemmas.List.{length-append, length-drop, length-take, take-append-drop}
use Rattle.std.proofs.lemmas.List.Elements.{Contains-append_cases, Contains-append_left, Contains-append_right, Contains-push_cases}
use Rattle.std.proofs.lemmas.List.Folds.{list_any_at}
pub use Rattle.std.proofs.lemmas.Bool.{and_parts as both, and_from as and_true, or_left, or_right, eqb-true as eq_same}
pub use Rattle.query_model.proofs.NumberedVariables.{split as from_or}

module _ {A : Type 0} where
  -- a list without the element at a place
  abbrev pub others : List A → ℕ → List A
  others xs k = take k xs ++ drop (suc k) xs

  pub others_fewer : (xs : List A) (k : ℕ) → k < length xs → length (others xs k) + 1 ≡ length xs
  others_fewer xs k l = omega (arith, length-append (take k xs) (drop (suc k) xs), length-take k xs, length-drop (suc k) xs)

  pub head_or_tail : (x y : A) (xs : List A) → Contains (x ∷ xs) y → (x ≡ y) ⊎ Contains xs y
  head_or_tail x y xs h = elim (Contains-append_cases (x ∷ []) xs y h) [ inl i ↦ elim (Contains-push_cases [] x y i) [ inl n ↦ absurd (omega (arith, n.1)) | inr e ↦ inl e ] | inr i ↦ inr i ]

  -- what isn't the element at that place is among the others
  pub among_others : (xs : List A) (k : ℕ) (x y : A) → k < length xs → get_or xs k x ≡ x → ¬ (x ≡ y) → Contains xs y → Contains (others xs k) y
  among_others xs k x y l e apart h =
      let split : Contains (take k xs ++ (x ∷ drop (suc k) xs)) y = rw (← e, ← drop-cons xs k x l, take-append-drop k xs) h in
      elim (Contains-append_cases (take k xs) (x ∷ drop (suc k) xs) y split) [
        | inl i ↦ Contains-append_left (take k xs) (drop (suc k) xs) y i
        | inr i ↦ elim (head_or_tail x y (drop (suc k) xs) i) [ inl q ↦ absurd (apart q) | inr j ↦ Contains-append_right (take k xs) (drop (suc k) xs) y j ]
      ]

  pub in_flat_map : {B : Type 0} (next : A → List B) (ks : List A) (x : A) (y : B) → Contains ks x → Contains (next x) y → Contains (flat_map next ks) y
  in_flat_map next [] x y h n = absurd (omega (arith, h.1))
  in_flat_map next (k ∷ ks) x y h n =
      elim (head_or_tail k x ks h) [
        | inl e ↦ Contains-append_left (next k) (flat_map next ks) y (rw e n)
        | inr t ↦ Contains-append_right (next k) (flat_map next ks) y (in_flat_map next ks x y t n)
      ]

  pub from_flat_map : {B : Type 0} (next : A → List B) (ks : List A) (y : B) → Contains (flat_map next ks) y → (x : A) × Contains ks x × Contains (next x) y
  from_flat_map next [] y h = absurd (omega (arith, h.1))
  from_flat_map next (k ∷ ks) y h =
      elim (Contains-append_cases (next k) (flat_map next ks) y h) [
        | inl n ↦ (k, (0, omega arith, refl), n)
        | inr t ↦ let r = from_flat_map next ks y t in (r.0, Contains-append_right (k ∷ []) ks r.0 r.1, r.2)
      ]

-- an item that passes
pub passing : {X : Type 0} (p : X → Bool) (xs : List X) → list_any p xs ≡ true → (x : X) × Contains xs x × IsTrue (p x)
passing p [] e = absurd (true≢false (sym e))
passing p (x ∷ xs) e =
    elim (from_or (p x) (list_any p xs) e) [
      | inl h ↦ (x, (0, omega arith, refl), h)
      | inr t ↦ let r = passing p xs t in (r.0, Contains-append_right (x ∷ []) xs r.0 r.1, r.2)
    ]

pub any_passes : {X : Type 0} (p : X → Bool) (xs : List X) (x : X) → Contains xs x → IsTrue (p x) → list_any p xs ≡ true
any_passes p xs x h e = list_any_at p xs h.0 x h.1 (rw h.2 e)

-- what a function gives of a list is what it gives of one of its items
pub from_filter_map : {X Y : Type 0} (f : X → Option Y) (xs : List X) (y : Y) → Contains (filter_map f xs) y → (x : X) × Contains xs x × (f x ≡ Some y)
from_filter_map f [] y h = absurd (omega (arith, h.1))
from_filter_map {X} {Y} f (x ∷ xs) y h = by (f x) refl (from_filter_map f xs y)
  where
    wider : ((z : X) × Contains xs z × (f z ≡ Some y)) → (z : X) × Contains (x ∷ xs) z × (f z ≡ Some y)
    wider r = (r.0, Contains-append_right (x ∷ []) xs r.0 r.1, r.2)

    by : (o : Option Y) → f x ≡ o → (Contains (filter_map f xs) y → (z : X) × Contains xs z × (f z ≡ Some y)) → (z : X) × Contains (x ∷ xs) z × (f z ≡ Some y)
    by None e rest = wider (rest (rw e at h))
    by (Some u) e rest =
        elim (head_or_tail u y (filter_map f xs) (rw e at h)) [
          | inl q ↦ (x, (0, omega arith, refl), rw (← q) e)
          | inr n ↦ wider (rest n)
        ]

kept_by : {X : Type 0} (o : Option X) (xs : List X) (y : X) → Contains xs y → Contains (cons_option o xs) y
kept_by None xs y h = h
kept_by (Some u) xs y h = Contains-append_right (u ∷ []) xs y h

-- what a function gives of an item is among what it gives of the list
pub in_filter_map : {X Y : Type 0} (f : X → Option Y) (xs : List X) (x : X) (y : Y) → Contains xs x → f x ≡ Some y → Contains (filter_map f xs) y
in_filter_map f [] x y h e = absurd (omega (arith, h.1))
in_filter_map f (z ∷ xs) x y h e =
    elim (head_or_tail z x xs h) [
      | inl q ↦ rw (q, e) (0, omega arith, refl)
      | inr t ↦ kept_by (f z) (filter_map f xs) y (in_filter_map f xs x y t e)
    ]

-- the items that a filter keeps
filtered_at : {A : Type 0} (p : A → Bool) (x : A) (xs : List A) (y : A) (b : Bool) → p x ≡ b → (Contains (filter p xs) y ↔ (Contains xs y × IsTrue (p y))) → Contains (cond b (x ∷ filter p xs) (filter p xs)) y ↔ (Contains (x ∷ xs) y × IsTrue (p y))
filtered_at p x xs y true e rest = (
  λ h. elim (head_or_tail x y (filter p xs) h) [ inl q ↦ ((0, omega arith, q), rw (← q) e) | inr t ↦ let r = rest.0 t in (Contains-append_right (x ∷ []) xs y r.0, r.1) ],
  λ h. elim (head_or_tail x y xs h.0) [ inl q ↦ (0, omega arith, q) | inr t ↦ Contains-append_right (x ∷ []) (filter p xs) y (rest.1 (t, h.1)) ],
)
filtered_at p x xs y false e rest = (
  λ h. let r = rest.0 h in (Contains-append_right (x ∷ []) xs y r.0, r.1),
  λ h. elim (head_or_tail x y xs h.0) [ inl q ↦ absurd (true≢false (sym (rw (← q) at h.1) ∙ e)) | inr t ↦ rest.1 (t, h.1) ],
)

pub filtered : {A : Type 0} (p : A → Bool) (xs : List A) (y : A) → Contains (filter p xs) y ↔ (Contains xs y × IsTrue (p y))
filtered p [] y = (λ h. absurd (omega (arith, h.1)), λ h. absurd (omega (arith, (h.0).1)))
filtered p (x ∷ xs) y = filtered_at p x xs y (p x) refl (filtered p xs y)

pub eq_itself : (x : ℕ) → (x == x) ≡ true
eq_itself x = grind (arith, nat_tests)

-- two tests that pass alike
pub alike : (a b : Bool) → (IsTrue a → IsTrue b) → (IsTrue b → IsTrue a) → a ≡ b
alike true b f g = sym (f refl)
alike false true f g = g refl
alike false false f g = refl
