-- The item at a place of what the items of a list make, one item at a time.
use Rattle.std.specs.Prelude.{◌≡◌, ℕ, suc, ◌+◌, ◌-◌, ◌<◌, ◌≤◌, List, [], ◌∷◌, ◌++◌, flat_map, drop, take, length, bytes_eq, Bool, true, false, if◌then◌else◌}
use Rattle.std.specs.List.{list_any}
use Rattle.std.proofs.Common.{ap, sym, ◌∙◌, get_or, arith}
use Rattle.std.proofs.lemmas.List.{drop_all, drop_more}
use Rattle.query_model.specs.Check.{item_at, new_names}
use Rattle.query_model.specs.Scope.{Sighting}

-- how many are to come before the item at a place, after the first items
pub record IsCounting {X Y : Type 0} (f : X → List Y) (n : ℕ) (xs : List X) (i left : ℕ) : Type 0 where
  pub same : item_at left (flat_map f (drop i xs)) ≡ item_at n (flat_map f xs)

nothing_at : {Y : Type 0} (n : ℕ) → [] ≡ item_at {A = Y} n []
nothing_at n = ap (take 1) (sym (drop_all n [] (omega arith)))

module _ {X Y : Type 0} (f : X → List Y) (n : ℕ) (xs : List X) (i left : ℕ) (c : IsCounting f n xs i left) where
  pub none_found : length xs ≤ i → [] ≡ item_at n (flat_map f xs)
  none_found h = nothing_at left ∙ ap (λ l. item_at left (flat_map f l)) (sym (drop_all i xs h)) ∙ c.same

  module _ (d : X) (h : i < length xs) where
    counted : (ys : List Y) → f (get_or xs i d) ≡ ys → item_at left (ys ++ flat_map f (drop (i + 1) xs)) ≡ item_at n (flat_map f xs)
    counted ys e = ap (λ l. item_at left (l ++ flat_map f (drop (i + 1) xs))) (sym e) ∙ ap (λ l. item_at left (flat_map f l)) (sym (drop_more xs i d h)) ∙ c.same

    pub none_counted : f (get_or xs i d) ≡ [] → IsCounting f n xs (i + 1) left
    none_counted e = record { same = counted [] e }

    pub one_counted : (y : Y) → f (get_or xs i d) ≡ y ∷ [] → 0 < left → IsCounting f n xs (i + 1) (left - 1)
    one_counted y e few =
        let next : left ≡ suc (left - 1) = omega arith in
        record { same = ap (λ k. item_at k (y ∷ flat_map f (drop (i + 1) xs))) (sym next) ∙ counted (y ∷ []) e }

    pub last_counted : (y : Y) → f (get_or xs i d) ≡ y ∷ [] → left ≡ 0 → y ∷ [] ≡ item_at n (flat_map f xs)
    last_counted y e spent = ap (λ k. item_at k (y ∷ flat_map f (drop (i + 1) xs))) (sym spent) ∙ counted (y ∷ []) e

one_more : (s : Sighting) (b : Bool) (known new : List Sighting) (n : ℕ) → length known ≤ n → length new ≤ n → length (if b then known else (s ∷ new)) ≤ suc n
one_more s true known new n h k = omega arith
one_more s false known new n h k = omega arith

-- no more names are new than there are sightings
new-length : (seen : List (List ℕ)) (ss : List Sighting) → length (new_names seen ss) ≤ length ss
new-length seen [] = omega arith
new-length seen (s ∷ ss) = one_more s (list_any (bytes_eq s.name) seen) (new_names seen ss) (new_names (seen ++ s.name ∷ []) ss) (length ss) (new-length seen ss) (new-length (seen ++ s.name ∷ []) ss)

pub few_names : (n : ℕ) (seen : List (List ℕ)) (ss : List Sighting) → length ss ≤ n → [] ≡ item_at n (new_names seen ss)
few_names n seen ss h = let l = new-length seen ss in ap (take 1) (sym (drop_all n (new_names seen ss) (omega arith)))
