-- The numbers of a value as they are printed, one more at a time.
use Rattle.std.specs.Prelude.{ℤ, flat_map, codes, OnOk, Some, Result, Ok, Err}
use Rattle.std.specs.Fmt.{signed_decimal}
use Rattle.std.proofs.Common.{◌≡◌, ℕ, List, [], ◌∷◌, ◌++◌, drop, take, sym, ap, subst, ◌∙◌, append-nil, append_assoc}
use Rattle.std.proofs.lemmas.Grind.{flat_map-append}
use Rattle.std.proofs.lemmas.List.{take-append-drop}
use Rattle.ecs_model.specs.Print.{value_text, values_text}
use Rattle.ecs_print.specs.Stops.{StopsWithin}
use Rattle.ecs_print.specs.Values.{behind_comma}
use Rattle.ecs_print.proofs.Stops.{stops_behind, stops_one, stops_sooner}

-- numbers with commas between are the first and the others each after a comma
values_text-cons : (n : ℤ) (ns : List ℤ) → values_text (n ∷ ns) ≡ signed_decimal n ++ flat_map behind_comma ns
values_text-cons n [] = sym (append-nil (signed_decimal n))
values_text-cons n (m ∷ ns) = ap (λ t. signed_decimal n ++ 44 ∷ t) (values_text-cons m ns)

value_text-cons : (n : ℤ) (ns : List ℤ) → value_text (Some (n ∷ ns)) ≡ codes "=" ++ signed_decimal n ++ flat_map behind_comma ns
value_text-cons n ns = ap (λ t. 61 ∷ t) (values_text-cons n ns)

-- `=`, the first number, and then the others
pub numbers_written : {E : Type 0} (r : Result (Unit {0}) E) (old begun first new : List ℕ) (numbers : List ℤ) (n : ℤ) (ns : List ℤ) → numbers ≡ n ∷ ns
    → begun ≡ old ++ codes "=" → first ≡ begun ++ signed_decimal n → OnOk r (new ≡ first ++ flat_map behind_comma ns) → OnOk r (new ≡ old ++ value_text (Some numbers))
numbers_written (Err e) old begun first new numbers n ns is a b h = tt
numbers_written (Ok x) old begun first new numbers n ns is a b h =
    let others = flat_map behind_comma ns in
    h ∙ ap (λ t. t ++ others) (b ∙ ap (λ t. t ++ signed_decimal n) a) ∙ ap (λ t. t ++ others) (append_assoc old (codes "=") (signed_decimal n)) ∙ append_assoc old (codes "=" ++ signed_decimal n) others
    ∙ ap (λ t. old ++ t) (sym (value_text-cons n ns)) ∙ ap (λ t. old ++ value_text (Some t)) (sym is)

-- one that stops in the midst
module _ (old new : List ℕ) (numbers : List ℤ) (n : ℤ) (ns : List ℤ) (is : numbers ≡ n ∷ ns) where
  whole : codes "=" ++ signed_decimal n ++ flat_map behind_comma ns ≡ value_text (Some numbers)
  whole = sym (value_text-cons n ns) ∙ ap (λ t. value_text (Some t)) (sym is)

  pub stops_at_first : new ≡ old ++ codes "=" → StopsWithin old new (value_text (Some numbers))
  stops_at_first at = subst (StopsWithin old new) whole (stops_sooner old new (codes "=" ++ signed_decimal n) (flat_map behind_comma ns) (stops_one old new (codes "=") (signed_decimal n) at))

  pub stops_at_others : (begun first : List ℕ) → begun ≡ old ++ codes "=" → first ≡ begun ++ signed_decimal n → StopsWithin first new (flat_map behind_comma ns) → StopsWithin old new (value_text (Some numbers))
  stops_at_others begun first a b so =
      subst (StopsWithin old new) whole
      (stops_behind old (codes "=" ++ signed_decimal n) first new (flat_map behind_comma ns) (b ∙ ap (λ t. t ++ signed_decimal n) a ∙ append_assoc old (codes "=") (signed_decimal n)) so)

-- one that stops before a number
pub stops_before_item : {X : Type 0} (f : X → List ℕ) (xs : List X) (i : ℕ) (start now : List ℕ) → now ≡ start ++ flat_map f (take i xs) → StopsWithin start now (flat_map f xs)
stops_before_item f xs i start now is =
    let all : flat_map f (take i xs) ++ flat_map f (drop i xs) ≡ flat_map f xs = sym (flat_map-append f (take i xs) (drop i xs)) ∙ ap (flat_map f) (take-append-drop i xs) in
    subst (StopsWithin start now) all (stops_one start now (flat_map f (take i xs)) (flat_map f (drop i xs)) is)
