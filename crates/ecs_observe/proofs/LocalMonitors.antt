-- Which stored queries among those that are held are local monitors, and which are compared.
use Rattle.std.specs.Prelude.{◌≡◌, ℕ, Bool, true, false, List, [], ◌∷◌, ◌++◌, ◌<◌, length, map, Some, slice_get, slice_index_or}
use Rattle.std.specs.List.{list_any}
use Rattle.std.specs.Option.{option_map_or}
use Rattle.std.specs.declared.string.String.{String}
use Rattle.std.specs.String.{string_bytes}
use Rattle.std.proofs.Common.{refl, sym, ap, ◌∙◌, true≢false}
use Rattle.std.proofs.lemmas.List.Folds.{list_any_at}
use Rattle.std.proofs.lemmas.Map.Keys.{any_passes_from_place}
use Rattle.ecs_model.proofs.Reasons.{neither}
use Rattle.watch_stored.specs.Parts.{held_as}
use Rattle.ecs_observe.specs.Parts.{held_of}
use Rattle.watch_stored.specs.Held.{Held, is_compared, is_told_locally}
use Rattle.ecs_observe.specs.Telling.{any_locally_at, is_locally_at}
use Rattle.watch_stored.specs.declared.stored.StoredQuery.{StoredQuery}
use Rattle.ecs_observe.proofs.EventEffects.{held_at}

-- ---- one stored query among those that are held
module _ {A : Type 0} (es : List (String A × StoredQuery A)) (i : ℕ) (name : String A) (q : StoredQuery A) (there : slice_get es i ≡ Some (name, q)) where
  -- what none passes, it doesn't
  pub none_at : (p : Held → Bool) → list_any p (map held_of es) ≡ false → p (held_as (string_bytes name) q) ≡ false
  none_at p none = by (p (held_as (string_bytes name) q)) refl
    where
      by : (b : Bool) → p (held_as (string_bytes name) q) ≡ b → b ≡ false
      by true e = absurd (true≢false (sym (any_passes_from_place p (map held_of es) i (held_as (string_bytes name) q) (held_at es i name q there) e) ∙ none))
      by false e = refl

-- one that is a local monitor stands at one of these places
pub one_told_locally : {A : Type 0} (es : List (String A × StoredQuery A)) (places : List ℕ) (j d : ℕ) (name : String A) (q : StoredQuery A) → j < length places
    → slice_get es (slice_index_or places j d) ≡ Some (name, q) → is_told_locally (held_as (string_bytes name) q) ≡ true → any_locally_at es places ≡ true
one_told_locally es places j d name q inside there e =
    list_any_at (is_locally_at es) places j d inside (ap (λ o. option_map_or (λ p. is_told_locally (held_of p)) o false) there ∙ e)

-- where no stored query is compared whole, the last isn't
pub last_isnt : (hs : List Held) (h : Held) → list_any is_compared (hs ++ h ∷ []) ≡ false → is_compared h ≡ false
last_isnt [] h none = (neither (is_compared h) false none).0
last_isnt (x ∷ hs) h none = last_isnt hs h (neither (is_compared x) (list_any is_compared (hs ++ h ∷ [])) none).1
