-- A value that is written stays under its name and its number, and is listed for what it looks out for.
use Rattle.std.specs.Prelude.{◌≡◌, ◌≢◌, ℕ, ◌<◌, ◌==◌, ◌&&◌, ◌||◌, Bool, List, [], ◌∷◌, length, map, slice_index_or, slice_set}
use Rattle.std.specs.List.{AllPairs, list_any}
use Rattle.std.specs.Map.{lookup}
use Rattle.std.specs.String.{string_bytes}
use Rattle.std.proofs.Common.{refl, sym, ap, subst, ◌∙◌, arith, get_or, inl, inr}
use Rattle.std.proofs.lemmas.Bool.{cases_eq}
use Rattle.std.proofs.lemmas.List.{get_or-map, get_or-set_other, get_or-set_same, length-set, map-set, set-get_or}
use Rattle.watch_index.specs.NameOrder.{is_key, name_in, number_in, numbered_in}
use Rattle.watch_index.specs.declared.occasion.Occasion.{Occasion}
use Rattle.watch_index.specs.Listed.{Listings, is_among}
use Rattle.watch_index.specs.declared.watch_order.WatchOrder.{WatchOrder}
use Rattle.watch_index.specs.WatchOrder.{Boxed, IsWatched, occasions_in}
use Rattle.watch_index.proofs.IndexedValues.{AreIndexed, looks}

any_of_map : {X : Type 0} (p : X → Bool) (xs : List X) → list_any p xs ≡ list_any (λ b. b) (map p xs)
any_of_map p [] = refl
any_of_map p (x ∷ xs) = ap (λ b. p x || b) (any_of_map p xs)

-- y is written over x
module _ {X : Type 0} (xs : List X) (i : ℕ) (x y : X) (within : i < length xs) (here : (d : X) → slice_index_or xs i d ≡ x) where
  -- where both have the same of something, all have what they had
  pub mapped : {K : Type 0} (f : X → K) → f y ≡ f x → map f (slice_set xs i y) ≡ map f xs
  mapped f e =
      map-set f xs i y ∙ ap (slice_set (map f xs) i) (e ∙ sym (ap f (here x)) ∙ sym (get_or-map f xs i x (f x) within)) ∙ set-get_or (map f xs) i (f x)

  each : {K : Type 0} (f : X → K) → f y ≡ f x → (k : ℕ) (d : X) → f (get_or (slice_set xs i y) k d) ≡ f (get_or xs k d)
  each f e k d = elim (cases_eq k i) [
    | inl same ↦ subst (λ j. f (get_or (slice_set xs i y) j d) ≡ f (get_or xs j d)) (sym same) (ap f (get_or-set_same xs i y d within) ∙ e ∙ sym (ap f (here d)))
    | inr other ↦ ap f (get_or-set_other xs i k y d other)
  ]

  pub still_pairs : {K : Type 0} (f : X → K) (R : K → K → Type 0) → f y ≡ f x → AllPairs (λ a b. R (f a) (f b)) xs → AllPairs (λ a b. R (f a) (f b)) (slice_set xs i y)
  still_pairs f R e pairs j k d less low =
      subst (λ u. R u (f (get_or (slice_set xs i y) k d))) (sym (each f e j d))
      (subst (λ u. R (f (get_or xs j d)) u) (sym (each f e k d)) (pairs j k d less (omega (arith, low, length-set xs i y))))

  pub still_indexed : (number : X → ℕ) (occasions : X → List Occasion) → number y ≡ number x → occasions y ≡ occasions x
      → (ls : Listings) → AreIndexed number occasions ls xs → AreIndexed number occasions ls (slice_set xs i y)
  still_indexed number occasions same_number same_occasions ls indexed o n =
      indexed o n ∙ any_of_map (looks number occasions n o) xs
      ∙ ap (list_any (λ b. b)) (sym (mapped (looks number occasions n o) (λ j. same_number j == n && is_among (same_occasions j) o)))
      ∙ sym (any_of_map (looks number occasions n o) (slice_set xs i y))

-- so the order and the index are what they were
pub still_watched : {V A : Type 0} (s t : WatchOrder V A) (i : ℕ) (x y : Boxed V A) → i < length s.order.made.items → ((d : Boxed V A) → slice_index_or s.order.made.items i d ≡ x)
    → name_in y ≡ name_in x → number_in y ≡ number_in x → occasions_in y ≡ occasions_in x
    → t.order.made.items ≡ slice_set s.order.made.items i y → t.order.numbers.entries ≡ s.order.numbers.entries → t.index ≡ s.index → IsWatched s → IsWatched t
still_watched s t i x y within here same_name same_number same_occasions made numbers index was =
    let xs = s.order.made.items in
    record {
      order = record {
        rise = subst (AllPairs (λ a b. number_in a < number_in b)) (sym made) (still_pairs xs i x y within here number_in (λ a b. a < b) same_number was.order.rise);
        apart = subst (AllPairs (λ a b. string_bytes (name_in a) ≢ string_bytes (name_in b))) (sym made)
            (still_pairs xs i x y within here (λ b. string_bytes (name_in b)) (λ a b. a ≢ b) (ap string_bytes same_name) was.order.apart);
        named = λ n.
            ap (lookup (is_key n)) numbers ∙ was.order.named n
            ∙ ap (lookup (is_key n)) (sym (ap numbered_in made ∙ mapped xs i x y within here (λ b. (b.value.name, b.value.number)) (λ j. (same_name j, same_number j))));
      };
      index = subst (AreIndexed number_in occasions_in t.index) (sym made)
          (still_indexed xs i x y within here number_in occasions_in same_number same_occasions t.index (subst (λ ls. AreIndexed number_in occasions_in ls xs) (sym index) was.index));
    }
