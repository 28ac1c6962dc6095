-- A use shows in the tables of two patterns.
use Rattle.std.proofs.Common.{◌≡◌, ◌↔◌, ◌⊎◌, ℕ, ◌<◌, ◌==◌, Bool, true, false, ◌||◌, not, List, [], ◌∷◌, length, get_or, Some, None, refl, sym, inl, inr, arith, true≢false}
use Rattle.std.specs.List.{Contains, flat_map, list_any}
use Rattle.std.proofs.lemmas.Bool.Decides.{nat_tests}
use Rattle.std.proofs.lemmas.List.Folds.{length-flat_map-take}
use Rattle.id_pattern.specs.declared.Part.TheVariants.{Is, Any}
use Rattle.id_pattern.specs.declared.Pattern.{Pattern}
use Rattle.id_pattern.specs.Patterns.{matches}
use Rattle.ecs_id.specs.Id.{Id, plain, pair, first_of}
use Rattle.rel_travel.specs.Holders.{holders}
use Rattle.ecs_model.proofs.Members.{filtered}
use Rattle.ecs_model.proofs.Members.{alike}
use Rattle.ecs_model.proofs.Members.{any_passes, from_or, passing}
use Rattle.ecs_model.specs.Added.{is_used}

abbrev pub has_any : List ℕ → Bool
has_any xs = not (length xs == 0)

-- a piece that isn't empty
pub some_row : {A : Type 0} (f : A → List ℕ) (xs : List A) (k : ℕ) (d : A) → k < length xs → 0 < length (f (get_or xs k d)) → true ≡ has_any (flat_map f xs)
some_row f xs k d l more = let m = length-flat_map-take f xs k d l in let n : 0 < length (flat_map f xs) = omega (arith, m, more) in grind (arith, nat_tests, n)

one_there : (xs : List ℕ) → has_any xs ≡ true → (y : ℕ) × Contains xs y
one_there [] e = absurd (true≢false (sym e))
one_there (x ∷ xs) e = (x, (0, omega arith, refl))

there_any : (xs : List ℕ) (y : ℕ) → Contains xs y → has_any xs ≡ true
there_any [] y h = absurd (omega (arith, h.1))
there_any (x ∷ xs) y h = grind (arith, nat_tests)

module _ (entities : List ℕ) (ids : ℕ → List Id) (c : ℕ) where
  abbrev as_plain : Pattern
  as_plain = record { first = Is c; second = None }

  abbrev as_pair : Pattern
  as_pair = record { first = Is c; second = Some Any }

  plain_first : (i : Id) → matches as_plain i ≡ true → (first_of i == c) ≡ true
  plain_first (plain d) e = grind (arith, nat_tests, e)
  plain_first (pair r t) e = absurd (true≢false (sym e))

  pair_first : (i : Id) → matches as_pair i ≡ true → (first_of i == c) ≡ true
  pair_first (plain d) e = absurd (true≢false (sym e))
  pair_first (pair r t) e = grind (arith, nat_tests, e)

  either : (i : Id) → (first_of i == c) ≡ true → (matches as_plain i ≡ true) ⊎ (matches as_pair i ≡ true)
  either (plain d) e = inl (grind (arith, nat_tests, e))
  either (pair r t) e = inr (grind (arith, nat_tests, e))

  uses : (p : Pattern) → ((i : Id) → matches p i ≡ true → (first_of i == c) ≡ true) → (y : ℕ) → Contains (holders entities ids p) y → is_used ids entities c ≡ true
  uses p tells y h =
      let f = (filtered (λ z. list_any (matches p) (ids z)) entities y).0 h in
      let i = passing (matches p) (ids y) f.1 in
      any_passes (λ e. list_any (λ j. first_of j == c) (ids e)) entities y f.0 (any_passes (λ j. first_of j == c) (ids y) i.0 i.1 (tells i.0 i.2))

  holds_one : (p : Pattern) (y : ℕ) (i : Id) → Contains entities y → Contains (ids y) i → matches p i ≡ true → Contains (holders entities ids p) y
  holds_one p y i h j m = (filtered (λ z. list_any (matches p) (ids z)) entities y).1 (h, any_passes (matches p) (ids y) i j m)

  pub use_seen : (xs : List ℕ) → ((y : ℕ) → Contains xs y ↔ Contains (holders entities ids as_plain) y) → has_any xs ≡ true → is_used ids entities c ≡ true
  use_seen xs in_xs h = let y = one_there xs h in uses as_plain plain_first y.0 ((in_xs y.0).0 y.1)

  pub use_shows : (xs ys : List ℕ) → ((y : ℕ) → Contains xs y ↔ Contains (holders entities ids as_plain) y) → ((y : ℕ) → Contains ys y ↔ Contains (holders entities ids as_pair) y)
      → (has_any xs || has_any ys) ≡ is_used ids entities c
  use_shows xs ys in_xs in_ys = alike (has_any xs || has_any ys) (is_used ids entities c) into out
    where
      into : (has_any xs || has_any ys) ≡ true → is_used ids entities c ≡ true
      into e =
          elim (from_or (has_any xs) (has_any ys) e) [
            | inl h ↦ let y = one_there xs h in uses as_plain plain_first y.0 ((in_xs y.0).0 y.1)
            | inr h ↦ let y = one_there ys h in uses as_pair pair_first y.0 ((in_ys y.0).0 y.1)
          ]

      or_left : (a b : Bool) → a ≡ true → (a || b) ≡ true
      or_left true b e = refl
      or_left false b e = absurd (true≢false (sym e))

      or_right : (a b : Bool) → b ≡ true → (a || b) ≡ true
      or_right true b e = refl
      or_right false b e = e

      out : is_used ids entities c ≡ true → (has_any xs || has_any ys) ≡ true
      out e =
          let y = passing (λ e. list_any (λ j. first_of j == c) (ids e)) entities e in
          let i = passing (λ j. first_of j == c) (ids y.0) y.2 in
          elim (either i.0 i.2) [
            | inl m ↦ or_left (has_any xs) (has_any ys) (there_any xs y.0 ((in_xs y.0).1 (holds_one as_plain y.0 i.0 y.1 i.1 m)))
            | inr m ↦ or_right (has_any xs) (has_any ys) (there_any ys y.0 ((in_ys y.0).1 (holds_one as_pair y.0 i.0 y.1 i.1 m)))
          ]
