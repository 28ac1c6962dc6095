-- A text that stops in its midst, piece by piece.
use Rattle.std.proofs.Common.{◌≡◌, ℕ, Bool, List, [], ◌++◌, length, map, take, drop, refl, sym, ap, ◌∙◌, subst, append_assoc, append-nil}
use Rattle.std.specs.Prelude.{OnErr, Result, Ok, Err, filter}
use Rattle.std.proofs.Math.Seq.{take-append_seam}
use Rattle.std.proofs.lemmas.List.{map-append, take-append-drop}
use Rattle.std.proofs.lemmas.List.Elements.{filter-append}
use Rattle.ecs_print.specs.Stops.{StopsWithin}

-- what holds anyway holds of an error
pub on_err_anyway : {T E P : Type 0} (r : Result T E) → P → OnErr r P
on_err_anyway (Ok x) p = tt
on_err_anyway (Err e) p = p

-- nothing of it was written
pub stops_before : {X : Type 0} (before text : List X) → StopsWithin before before text
stops_before before text = record { more = []; rest = text; holds = sym (append-nil before); front = refl }

pub stops_same : {X : Type 0} (before after text : List X) → after ≡ before → StopsWithin before after text
stops_same before after text same = subst (λ xs. StopsWithin before xs text) (sym same) (stops_before before text)

-- after what was written of it
pub stops_one : {X : Type 0} (before after a rest : List X) → after ≡ before ++ a → StopsWithin before after (a ++ rest)
stops_one before after a rest is = record { more = a; rest = rest; holds = is; front = refl }

-- after a piece that was written
pub stops_behind : {X : Type 0} (before piece mid after text : List X) → mid ≡ before ++ piece → StopsWithin mid after text → StopsWithin before after (piece ++ text)
stops_behind before piece mid after text is so = record {
  more = piece ++ so.more;
  rest = so.rest;
  holds = so.holds ∙ ap (λ xs. xs ++ so.more) is ∙ append_assoc before piece so.more;
  front = ap (λ xs. piece ++ xs) so.front ∙ sym (append_assoc piece so.more so.rest);
}

-- before one more piece
pub stops_sooner : {X : Type 0} (before after text more : List X) → StopsWithin before after text → StopsWithin before after (text ++ more)
stops_sooner before after text more so = record {
  more = so.more;
  rest = so.rest ++ more;
  holds = so.holds;
  front = ap (λ xs. xs ++ more) so.front ∙ append_assoc so.more so.rest more;
}

-- both lists with a prefix of their own
pub stops_past : {X : Type 0} (s before after text : List X) → StopsWithin before after text → StopsWithin (s ++ before) (s ++ after) text
stops_past s before after text so =
    record { more = so.more; rest = so.rest; holds = ap (λ xs. s ++ xs) so.holds ∙ sym (append_assoc s before so.more); front = so.front }

-- what was there comes first
pub stops_front : {X : Type 0} (before after text : List X) → StopsWithin before after text → take (length before) after ≡ before
stops_front before after text so = ap (take (length before)) so.holds ∙ take-append_seam before so.more

-- ---- among the pieces of a list

-- after those of the first items
pub stops_at_item : {X Y : Type 0} (f : X → Y) (xs : List X) (n : ℕ) (before after : List Y) → after ≡ before ++ map f (take n xs) → StopsWithin before after (map f xs)
stops_at_item f xs n before after is =
    record { more = map f (take n xs); rest = map f (drop n xs); holds = is; front = ap (map f) (sym (take-append-drop n xs)) ∙ map-append f (take n xs) (drop n xs) }

-- after those of the first items that pass a test
pub stops_at_passed : {X Y : Type 0} (f : X → Y) (test asked : X → Bool) (xs : List X) (n : ℕ) (before after : List Y) → filter asked xs ≡ filter test xs → after ≡ before ++ map f (filter test (take n xs))
    → StopsWithin before after (map f (filter asked xs))
stops_at_passed f test asked xs n before after same is = record {
  more = map f (filter test (take n xs));
  rest = map f (filter test (drop n xs));
  holds = is;
  front = ap (map f) (same ∙ ap (filter test) (sym (take-append-drop n xs)) ∙ filter-append test (take n xs) (drop n xs)) ∙ map-append f (filter test (take n xs)) (filter test (drop n xs));
}
