-- The texts of a list's items, one more at a time.
use Rattle.std.specs.Prelude.{◌≡◌, ℕ, ◌+◌, ◌<◌, List, [], ◌∷◌, ◌++◌, Some, drop, flat_map, length, slice_get, take}
use Rattle.std.proofs.Common.{refl, ap, sym, subst, ◌∙◌, add-one}
use Rattle.std.proofs.Math.Seq.{take-suc}
use Rattle.std.proofs.lemmas.Grind.{flat_map-append}
use Rattle.std.proofs.lemmas.List.{flat_map_more, take-append-drop}
use Rattle.std.proofs.lemmas.Option.{get_or_from_slice_get}
use Rattle.ecs_print.specs.Stops.{StopsWithin}
use Rattle.ecs_print.proofs.Stops.{stops_behind, stops_sooner}

-- what is printed of one more item
pub one_more : {X : Type 0} (f : X → List ℕ) (xs : List X) (i : ℕ) (x : X) (start old new : List ℕ) → i < length xs → slice_get xs i ≡ Some x
    → old ≡ start ++ flat_map f (take i xs) → new ≡ old ++ f x → new ≡ start ++ flat_map f (take (i + 1) xs)
one_more f xs i x start old new within here before now =
    now ∙ ap (λ t. t ++ f x) before ∙ flat_map_more f start (take i xs) x
    ∙ ap (λ t. start ++ flat_map f t) (ap (λ y. take i xs ++ y ∷ []) (sym (get_or_from_slice_get xs i x x here)) ∙ sym (take-suc xs i x within) ∙ ap (λ n. take n xs) (sym (add-one i)))

-- one that stops in the midst of its text
pub stops_in_item : {X : Type 0} (f : X → List ℕ) (xs : List X) (i : ℕ) (x : X) (start mid now : List ℕ) → i < length xs → slice_get xs i ≡ Some x → mid ≡ start ++ flat_map f (take i xs) → StopsWithin mid now (f x)
    → StopsWithin start now (flat_map f xs)
stops_in_item f xs i x start mid now within here before stops =
    let done = flat_map f (take i xs) in
    let rest = flat_map f (drop (i + 1) xs) in
    let this : done ++ f x ≡ flat_map f (take (i + 1) xs) = one_more f xs i x [] done (done ++ f x) within here refl refl in
    let all : (done ++ f x) ++ rest ≡ flat_map f xs
    = ap (λ t. t ++ rest) this ∙ sym (flat_map-append f (take (i + 1) xs) (drop (i + 1) xs)) ∙ ap (flat_map f) (take-append-drop (i + 1) xs) in
    subst (StopsWithin start now) all (stops_sooner start now (done ++ f x) rest (stops_behind start done mid now (f x) before stops))
