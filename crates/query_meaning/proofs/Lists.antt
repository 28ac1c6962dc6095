-- Members of lists, lists without repetition, and when two of them have the same elements in some order.
use Rattle.std.proofs.Common.{◌≡◌, ◌≢◌, ℕ, suc, zero, ◌<◌, Bool, true, false, cond, ◌⊎◌, inl, inr, List, [], ◌∷◌, ◌++◌, length, get_or, refl, sym, ap, ◌∙◌, subst, append_assoc, arith}
use Rattle.std.specs.Prelude.{filter, flat_map, All, AllPairs}
use Rattle.std.proofs.lemmas.List.Elements.{All-nil, All-cons}
use Rattle.std.proofs.lemmas.List.Kept.{AllPairs-cons}
use Rattle.std.specs.List.Sorted.{IsPermutation}
use Rattle.std.proofs.lemmas.List.Sorted.{IsPermutation-refl, IsPermutation-sym, IsPermutation-cons, IsPermutation-middle, IsPermutation-trans, IsPermutation-append_left, IsPermutation-append_right, IsPermutation-append_comm}
use Rattle.std.proofs.lemmas.List.Concat.{flat_map-append}

-- x is an element
abbrev pub In : {X : Type 0} → X → List X → Type 0
In x [] = ⊥
In x (y ∷ ys) = (y ≡ x) ⊎ In x ys

-- no element stands there twice
abbrev pub Distinct : {X : Type 0} → List X → Type 0
Distinct [] = Unit {0}
Distinct (x ∷ xs) = (In x xs → ⊥) × Distinct xs

-- ys has the elements of xs in some order: each element of xs in turn stands somewhere among those that are left
pub data Shuffled {X : Type 0} : List X → List X → Type 0 where
  none : Shuffled [] []
  more : {xs : List X} (x : X) (us vs : List X) → Shuffled xs (us ++ vs) → Shuffled (x ∷ xs) (us ++ x ∷ vs)

module _ {X : Type 0} where
  pub In-append_left : (xs ys : List X) (x : X) → In x xs → In x (xs ++ ys)
  In-append_left [] ys x h = absurd h
  In-append_left (y ∷ xs) ys x (inl e) = inl e
  In-append_left (y ∷ xs) ys x (inr h) = inr (In-append_left xs ys x h)

  pub In-append_right : (xs ys : List X) (x : X) → In x ys → In x (xs ++ ys)
  In-append_right [] ys x h = h
  In-append_right (y ∷ xs) ys x h = inr (In-append_right xs ys x h)

  pub In-append_cases : (xs ys : List X) (x : X) → In x (xs ++ ys) → In x xs ⊎ In x ys
  In-append_cases [] ys x h = inr h
  In-append_cases (y ∷ xs) ys x (inl e) = inl (inl e)
  In-append_cases (y ∷ xs) ys x (inr h) = elim (In-append_cases xs ys x h) [ inl p ↦ inl (inr p) | inr p ↦ inr p ]

  pub In-filter : (p : X → Bool) (xs : List X) (x : X) → In x xs → p x ≡ true → In x (filter p xs)
  In-filter p [] x h t = absurd h
  In-filter p (y ∷ xs) x (inl e) t = subst (λ b. In x (cond b (y ∷ filter p xs) (filter p xs))) (sym (ap p e ∙ t)) (inl e)
  In-filter p (y ∷ xs) x (inr h) t = elim (p y) as (λ b. In x (cond b (y ∷ filter p xs) (filter p xs))) [ true ↦ inr (In-filter p xs x h t) | false ↦ In-filter p xs x h t ]

  pub In-filter_from : (p : X → Bool) (xs : List X) (x : X) → In x (filter p xs) → In x xs × (p x ≡ true)
  In-filter_from p [] x h = absurd h
  In-filter_from p (y ∷ xs) x h =
      elim (p y) as (λ b. p y ≡ b → In x (cond b (y ∷ filter p xs) (filter p xs)) → In x (y ∷ xs) × (p x ≡ true)) [
        | true ↦ λ t h. elim h [ inl e ↦ (inl e, ap p (sym e) ∙ t) | inr i ↦ (inr (In-filter_from p xs x i).0, (In-filter_from p xs x i).1) ]
        | false ↦ λ t h. (inr (In-filter_from p xs x h).0, (In-filter_from p xs x h).1)
      ] refl h

  pub Distinct-filter : (p : X → Bool) (xs : List X) → Distinct xs → Distinct (filter p xs)
  Distinct-filter p [] d = tt
  Distinct-filter p (x ∷ xs) d =
      elim (p x) as (λ b. Distinct (cond b (x ∷ filter p xs) (filter p xs))) [
        | true ↦ (λ i. d.0 (In-filter_from p xs x i).0, Distinct-filter p xs d.1)
        | false ↦ Distinct-filter p xs d.1
      ]

  pub Distinct-append : (xs ys : List X) → Distinct xs → Distinct ys → ((z : X) → In z xs → In z ys → ⊥) → Distinct (xs ++ ys)
  Distinct-append [] ys d e apart = e
  Distinct-append (x ∷ xs) ys d e apart =
      (λ i. elim (In-append_cases xs ys x i) [ inl p ↦ d.0 p | inr p ↦ apart x (inl refl) p ], Distinct-append xs ys d.1 e (λ z p q. apart z (inr p) q))

  In-insert : (us vs : List X) (x y : X) → In y (us ++ vs) → In y (us ++ x ∷ vs)
  In-insert [] vs x y h = inr h
  In-insert (u ∷ us) vs x y (inl e) = inl e
  In-insert (u ∷ us) vs x y (inr h) = inr (In-insert us vs x y h)

  In-middle : (us vs : List X) (x : X) → In x (us ++ x ∷ vs)
  In-middle [] vs x = inl refl
  In-middle (u ∷ us) vs x = inr (In-middle us vs x)

  In-middle_cases : (us vs : List X) (x y : X) → In y (us ++ x ∷ vs) → (x ≡ y) ⊎ In y (us ++ vs)
  In-middle_cases [] vs x y h = h
  In-middle_cases (u ∷ us) vs x y (inl e) = inr (inl e)
  In-middle_cases (u ∷ us) vs x y (inr h) = elim (In-middle_cases us vs x y h) [ inl e ↦ inl e | inr i ↦ inr (inr i) ]

  Distinct-middle : (us vs : List X) (x : X) → Distinct (us ++ x ∷ vs) → Distinct (us ++ vs) × (In x (us ++ vs) → ⊥)
  Distinct-middle [] vs x d = (d.1, d.0)
  Distinct-middle (u ∷ us) vs x d =
      let rest = Distinct-middle us vs x d.1 in
      ((λ i. d.0 (In-insert us vs x u i), rest.0), λ i. elim i [ inl e ↦ d.0 (subst (λ y. In y (us ++ x ∷ vs)) (sym e) (In-middle us vs x)) | inr j ↦ rest.1 j ])

  pub split_at : (xs : List X) (x : X) → In x xs → (us : List X) × (vs : List X) × (xs ≡ us ++ x ∷ vs)
  split_at [] x h = absurd h
  split_at (y ∷ xs) x (inl e) = ([], xs, ap (λ z. z ∷ xs) e)
  split_at (y ∷ xs) x (inr h) = let s = split_at xs x h in (y ∷ s.0, s.1, ap (λ zs. y ∷ zs) s.2)

  -- two lists without repetition and with the same elements
  pub Shuffled-from_members : (xs ys : List X) → Distinct xs → Distinct ys → ((x : X) → In x xs → In x ys) → ((x : X) → In x ys → In x xs) → Shuffled xs ys
  Shuffled-from_members [] [] d e f g = none
  Shuffled-from_members [] (y ∷ ys) d e f g = absurd (g y (inl refl))
  Shuffled-from_members (x ∷ xs) ys d e f g =
      let s = split_at ys x (f x (inl refl)) in
      let apart = Distinct-middle s.0 s.1 x (subst Distinct s.2 e) in
      let there : (y : X) → In y xs → In y (s.0 ++ s.1) = λ y i.
      elim (In-middle_cases s.0 s.1 x y (subst (λ zs. In y zs) s.2 (f y (inr i)))) [ inl p ↦ absurd (d.0 (subst (λ z. In z xs) (sym p) i)) | inr j ↦ j ] in
      let back : (y : X) → In y (s.0 ++ s.1) → In y xs = λ y i.
      elim (g y (subst (λ zs. In y zs) (sym s.2) (In-insert s.0 s.1 x y i))) [ inl p ↦ absurd (apart.1 (subst (λ z. In z (s.0 ++ s.1)) (sym p) i)) | inr j ↦ j ] in
      subst (Shuffled (x ∷ xs)) (sym s.2) (more x s.0 s.1 (Shuffled-from_members xs (s.0 ++ s.1) d.1 apart.0 there back))

  pub IsPermutation-shuffled : {xs ys : List X} → Shuffled xs ys → IsPermutation xs ys
  IsPermutation-shuffled none = IsPermutation-refl []
  IsPermutation-shuffled (more {xs} x us vs s) =
      IsPermutation-trans (x ∷ xs) (x ∷ (us ++ vs)) (us ++ x ∷ vs) (IsPermutation-cons x xs (us ++ vs) (IsPermutation-shuffled s)) (IsPermutation-sym (us ++ x ∷ vs) (x ∷ (us ++ vs)) (IsPermutation-middle us x vs))

module _ {X Y : Type 0} (f : X → List Y) where
  pub In-flat_map : (xs : List X) (x : X) (y : Y) → In x xs → In y (f x) → In y (flat_map f xs)
  In-flat_map [] x y h i = absurd h
  In-flat_map (z ∷ xs) x y (inl e) i = In-append_left (f z) (flat_map f xs) y (subst (λ u. In y (f u)) (sym e) i)
  In-flat_map (z ∷ xs) x y (inr h) i = In-append_right (f z) (flat_map f xs) y (In-flat_map xs x y h i)

  pub In-flat_map_from : (xs : List X) (y : Y) → In y (flat_map f xs) → (x : X) × (In x xs) × In y (f x)
  In-flat_map_from [] y h = absurd h
  In-flat_map_from (z ∷ xs) y h =
      elim (In-append_cases (f z) (flat_map f xs) y h) [
        | inl i ↦ (z, inl refl, i)
        | inr i ↦ let r = In-flat_map_from xs y i in (r.0, inr r.1, r.2)
      ]

  pub Distinct-flat_map : (xs : List X) → Distinct xs → ((x : X) → In x xs → Distinct (f x)) → ((x y : X) (z : Y) → In x xs → In y xs → In z (f x) → In z (f y) → x ≡ y) → Distinct (flat_map f xs)
  Distinct-flat_map [] d each apart = tt
  Distinct-flat_map (x ∷ xs) d each apart =
      Distinct-append (f x) (flat_map f xs) (each x (inl refl)) (Distinct-flat_map xs d.1 (λ y i. each y (inr i)) (λ y u z i j. apart y u z (inr i) (inr j)))
      (λ z i j. let r = In-flat_map_from xs z j in d.0 (subst (λ y. In y xs) (sym (apart x r.0 z (inl refl) (inr r.1) i r.2)) r.1))

  -- what is made of shuffled elements is shuffled
  pub IsPermutation-flat_map : {xs ys : List X} → Shuffled xs ys → IsPermutation (flat_map f xs) (flat_map f ys)
  IsPermutation-flat_map none = IsPermutation-refl []
  IsPermutation-flat_map (more {xs} x us vs s) =
      let a : List Y = flat_map f us in
      let b : List Y = flat_map f vs in
      let rest : IsPermutation (flat_map f xs) (a ++ b) = subst (IsPermutation (flat_map f xs)) (flat_map-append f us vs) (IsPermutation-flat_map s) in
      let around : IsPermutation ((f x ++ a) ++ b) ((a ++ f x) ++ b) = IsPermutation-append_left b (f x ++ a) (a ++ f x) (IsPermutation-append_comm (f x) a) in
      let moved : IsPermutation (f x ++ (a ++ b)) (a ++ (f x ++ b)) = subst (IsPermutation (f x ++ (a ++ b))) (append_assoc a (f x) b) (subst (λ zs. IsPermutation zs ((a ++ f x) ++ b)) (append_assoc (f x) a b) around) in
      subst (IsPermutation (f x ++ flat_map f xs)) (sym (flat_map-append f us (x ∷ vs)))
      (IsPermutation-trans (f x ++ flat_map f xs) (f x ++ (a ++ b)) (a ++ (f x ++ b)) (IsPermutation-append_right (f x) (flat_map f xs) (a ++ b) rest) moved)

  -- what gives nothing can be left out
  pub flat_map-filter : (p : X → Bool) → ((x : X) → p x ≡ false → f x ≡ []) → (xs : List X) → flat_map f (filter p xs) ≡ flat_map f xs
  flat_map-filter p nothing [] = refl
  flat_map-filter p nothing (x ∷ xs) =
      elim (p x) as (λ b. p x ≡ b → flat_map f (cond b (x ∷ filter p xs) (filter p xs)) ≡ f x ++ flat_map f xs) [
        | true ↦ λ t. ap (λ ys. f x ++ ys) (flat_map-filter p nothing xs)
        | false ↦ λ t. flat_map-filter p nothing xs ∙ ap (λ ys. ys ++ flat_map f xs) (sym (nothing x t))
      ] refl

-- ---- members by place

module _ {X : Type 0} where
  pub In-from_place : (xs : List X) (k : ℕ) (x : X) → k < length xs → get_or xs k x ≡ x → In x xs
  In-from_place [] k x h e = absurd (omega arith)
  In-from_place (y ∷ ys) zero x h e = inl e
  In-from_place (y ∷ ys) (suc k) x h e = inr (In-from_place ys k x (omega arith) e)

  pub place_of : (xs : List X) (x : X) → In x xs → (k : ℕ) × (k < length xs) × (get_or xs k x ≡ x)
  place_of [] x h = absurd h
  place_of (y ∷ ys) x (inl e) = (0, omega arith, e)
  place_of (y ∷ ys) x (inr i) = let p = place_of ys x i in let low : p.0 < length ys = p.1 in (suc p.0, omega arith, p.2)

  All-from_In : (P : X → Type 0) (xs : List X) → ((x : X) → In x xs → P x) → All P xs
  All-from_In P [] h = All-nil P
  All-from_In P (x ∷ xs) h = All-cons P x xs (h x (inl refl)) (All-from_In P xs (λ y i. h y (inr i)))

  pub AllPairs-from_Distinct : (xs : List X) → Distinct xs → AllPairs (λ a b. a ≢ b) xs
  AllPairs-from_Distinct [] d = λ i j z low high e. absurd (omega arith)
  AllPairs-from_Distinct (x ∷ xs) d =
      AllPairs-cons (λ a b. a ≢ b) x xs (All-from_In (λ b. x ≢ b) xs (λ y i e. d.0 (subst (λ z. In z xs) (sym e) i))) (AllPairs-from_Distinct xs d.1)

  pub Distinct-from_AllPairs : (xs : List X) → AllPairs (λ a b. a ≢ b) xs → Distinct xs
  Distinct-from_AllPairs [] h = tt
  Distinct-from_AllPairs (x ∷ xs) h = (
    λ i. let p = place_of xs x i in let low : p.0 < length xs = p.1 in h 0 (suc p.0) x (omega arith) (omega arith) (sym p.2),
    Distinct-from_AllPairs xs (λ i j d low high. h (suc i) (suc j) d (omega arith) (omega arith)),
  )
