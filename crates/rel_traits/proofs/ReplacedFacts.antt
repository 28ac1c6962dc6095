-- What gives way, piece by piece.
use Rattle.std.proofs.Common.{◌≡◌, ℕ, ◌+◌, ◌<◌, ◌==◌, Bool, true, false, cond, not, List, [], ◌∷◌, ◌++◌, length, take, get_or, Some, refl, sym, ap, ◌∙◌}
use Rattle.std.specs.List.{filter}
use Rattle.std.proofs.lemmas.Grind.{flat_map-append}
use Rattle.std.proofs.lemmas.List.{append_assoc, take_more}
use Rattle.std.proofs.lemmas.List.Elements.{filter-append, filter_map-append}
use Rattle.ecs_id.specs.Id.{Id, plain, pair, first_of, second_of}
use Rattle.ecs_model.specs.World.{Key}
use Rattle.ecs_model.specs.Links.{target_under, targets_in}
use Rattle.ecs_model.specs.Added.{displaced, is_exclusive, is_symmetric, mirror, others_of}

others_append : (s : Bool) (e r t : ℕ) (xs ys : List Id) → others_of s e r t (xs ++ ys) ≡ others_of s e r t xs ++ others_of s e r t ys
others_append s e r t xs ys =
    rw (filter_map-append (target_under r) xs ys, filter-append (λ u. not (u == t)) (targets_in xs r) (targets_in ys r))
    (flat_map-append (λ u. (e, pair r u) ∷ cond s ((u, pair r e) ∷ []) []) (filter (λ u. not (u == t)) (targets_in xs r)) (filter (λ u. not (u == t)) (targets_in ys r)))

-- those of one more id
pub others_more : (s : Bool) (e r t : ℕ) (ids : List Id) (k : ℕ) (i : Id) (xs ys zs : List Key) → k < length ids → i ≡ get_or ids k i → ys ≡ xs ++ others_of s e r t (take k ids) → zs ≡ ys ++ others_of s e r t (i ∷ [])
    → zs ≡ xs ++ others_of s e r t (take (k + 1) ids)
others_more s e r t ids k i xs ys zs l is before after =
    let split : others_of s e r t (take (k + 1) ids) ≡ others_of s e r t (take k ids) ++ others_of s e r t (i ∷ []) = rw (take_more ids k i l, ← is) (others_append s e r t (take k ids) (i ∷ [])) in
    after ∙ ap (λ ws. ws ++ others_of s e r t (i ∷ [])) before ∙ append_assoc xs (others_of s e r t (take k ids)) (others_of s e r t (i ∷ [])) ∙ ap (λ ws. xs ++ ws) (sym split)

module _ (ids : ℕ → List Id) where
  pub mirrored : (k : Key) (t : ℕ) → Some t ≡ second_of k.1 → is_symmetric ids (first_of k.1) ≡ true → (let one : Key = (t, pair (first_of k.1) k.0) in one) ∷ [] ≡ mirror ids k
  mirrored (e, plain c) t q s = absurd cc
  mirrored (e, pair r u) t q s = let same : t ≡ u = cc in rw (s, same) refl

  pub not_mirrored : (k : Key) → is_symmetric ids (first_of k.1) ≡ false → [] ≡ mirror ids k
  not_mirrored (e, plain c) s = refl
  not_mirrored (e, pair r u) s = rw s refl

  pub gives_way : (k : Key) (t : ℕ) → Some t ≡ second_of k.1 → is_exclusive ids (first_of k.1) ≡ true → others_of (is_symmetric ids (first_of k.1)) k.0 (first_of k.1) t (ids k.0) ≡ displaced ids k
  gives_way (e, plain c) t q s = absurd cc
  gives_way (e, pair r u) t q s = let same : t ≡ u = cc in rw (s, same) refl

  pub nothing_gives_way : (k : Key) → is_exclusive ids (first_of k.1) ≡ false → [] ≡ displaced ids k
  nothing_gives_way (e, plain c) s = refl
  nothing_gives_way (e, pair r u) s = rw s refl
