-- The walk from a level to the whole query.
use Rattle.std.specs.Prelude.{◌≡◌, ℕ, ◌-◌, ◌<◌, Bool, List, [], ◌∷◌, fold, length, if◌then◌else◌}
use Rattle.std.proofs.Common.{ap, ◌∙◌, get_or, arith}
use Rattle.std.proofs.lemmas.List.{get_or_default}
use Rattle.query_check.specs.declared.places.PartPlace.{PartPlace}
use Rattle.query_check.specs.Places.{Rooted, place_of}
use Rattle.query_model.specs.Levels.{Path, level_of}
use Rattle.query_model.specs.Scope.{outermost}

-- what is left of the way, and what was found on it
pub record IsWalked (test : ℕ → Bool) (places : List PartPlace) (path : Path) (inner found : ℕ) : Type 0 where
  pub rest : Path
  pub at : inner ≡ level_of rest
  pub rooted : Rooted places rest
  pub same : fold (λ f l. if test l then l else f) found rest ≡ outermost test path

module _ (test : ℕ → Bool) (places : List PartPlace) (path : Path) where
  on : (rest : Path) (inner found next now : ℕ) (d : PartPlace) → inner ≡ level_of rest → Rooted places rest → fold (λ f l. if test l then l else f) found rest ≡ outermost test path
      → 0 < inner → next ≡ (get_or places (inner - 1) d).outer → now ≡ (if test inner then inner else found) → IsWalked test places path next now
  on [] inner found next now d at rooted same low e n = absurd (omega arith)
  on (l ∷ ls) inner found next now d at rooted same low e n =
      let within : inner - 1 < length places = let high = rooted.1 in omega arith in
      let same_place : get_or places (inner - 1) d ≡ get_or places (inner - 1) (place_of []) = get_or_default places (inner - 1) d (place_of []) within in
      record {
        rest = ls;
        at = e ∙ ap (λ p. p.outer) same_place ∙ ap (λ k. (get_or places (k - 1) (place_of [])).outer) at ∙ rooted.3;
        rooted = rooted.4;
        same = ap (λ f. fold (λ f l. if test l then l else f) f ls) (n ∙ ap (λ k. if test k then k else found) at) ∙ same;
      }

  pub walk_on : (inner found next now : ℕ) (d : PartPlace) → IsWalked test places path inner found → 0 < inner → next ≡ (get_or places (inner - 1) d).outer → now ≡ (if test inner then inner else found)
      → IsWalked test places path next now
  walk_on inner found next now d w low e n = on w.rest inner found next now d w.at w.rooted w.same low e n
