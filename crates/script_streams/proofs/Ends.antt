-- The bytes round a line feed.
use Rattle.std.proofs.Common.{◌≡◌, ℕ, suc, ◌+◌, ◌-◌, ◌<◌, ◌≤◌, ◌==◌, true, false, List, ◌∷◌, ◌++◌, length, take, drop, get_or, Option, subst, sym, ◌∙◌, ap, arith, add-one}
use Rattle.std.specs.Io.KnownBytes.{Consumes}
use Rattle.std.proofs.lemmas.Bool.{false_from_ne_true, eqb-true}
use Rattle.std.proofs.lemmas.List.{length-take-le, get_or-take, take-append-drop, take-take, drop-drop, drop-take, take-append-le}
use Rattle.std.proofs.lemmas.List.Elements.{All-from_get_or}
use Rattle.std.proofs.Math.Seq.{drop-cons}
use Rattle.script_streams.specs.Lines.{HasNoEnd, part}

-- the beginning of a piece that bytes were put into
pub consumes_part : (a b : Option (List ℕ)) (given rest : List ℕ) (count long : ℕ) → count ≤ length given → count ≤ long → Consumes a b (take count given)
    → Consumes a b (part 0 count (take long (given ++ rest)))
consumes_part a b given rest count long few within told =
    let all : count - 0 ≡ count = omega arith in
    let same : take (count - 0) (take long (given ++ rest)) ≡ take count given = ap (λ n. take n (take long (given ++ rest))) all ∙ take-take count long (given ++ rest) within ∙ take-append-le count given rest few in
    let P : List ℕ → Type 0 = λ l. Consumes a b l in
    subst P (sym same) told

pub consumes_front : (a b : Option (List ℕ)) (given rest : List ℕ) (count : ℕ) → count ≤ length given → Consumes a b (take count given) → Consumes a b (part 0 count (given ++ rest))
consumes_front a b given rest count few told =
    let all : count - 0 ≡ count = omega arith in
    let P : List ℕ → Type 0 = λ l. Consumes a b l in
    subst P (sym (ap (λ n. take n (given ++ rest)) all ∙ take-append-le count given rest few)) told
