-- A text that stops in the midst of the piece of an item.
use Rattle.std.proofs.Common.{◌≡◌, ℕ, ◌+◌, ◌<◌, ◌≤◌, Bool, true, false, List, [], ◌++◌, length, take, refl, sym, ap, ◌∙◌, subst, append_assoc, append-nil}
use Rattle.std.specs.Prelude.{Some, codes, flat_map, slice_get}
use Rattle.ecs_print.specs.Stops.{StopsWithin}
use Rattle.ecs_print.proofs.Pieces.{stops_in_item}
use Rattle.ecs_print.proofs.Stops.{stops_behind, stops_sooner}
use Rattle.world_query.specs.Lines.{line_end}
use Rattle.world_query.proofs.PrintedLists.{line_ended}

-- the last item ends the line
pub stops_in_line : {X : Type 0} (f : X → List ℕ) (xs : List X) (i : ℕ) (x : X) (last : Bool) (start mid now : List ℕ) → i < length xs → slice_get xs i ≡ Some x → mid ≡ start ++ flat_map f (take i xs)
    → (last ≡ true → length xs ≤ i + 1) → StopsWithin mid now (f x ++ line_end last) → StopsWithin start now (flat_map f xs ++ codes "\n")
stops_in_line f xs i x true start mid now within here before ends stops =
    let done = flat_map f (take i xs) in
    let all : (done ++ f x) ++ codes "\n" ≡ flat_map f xs ++ codes "\n" = line_ended f xs i x [] done ((done ++ f x) ++ codes "\n") within here refl refl (ends refl) in
    subst (StopsWithin start now) (sym (append_assoc done (f x) (codes "\n")) ∙ all) (stops_behind start done mid now (f x ++ codes "\n") before stops)
stops_in_line f xs i x false start mid now within here before ends stops =
    stops_sooner start now (flat_map f xs) (codes "\n") (stops_in_item f xs i x start mid now within here before (subst (StopsWithin mid now) (append-nil (f x)) stops))
