-- No added fact is replaced.
use Rattle.std.proofs.Common.{◌≡◌, ◌⊎◌, ℕ, true, List, sym, ap, ◌∙◌, inl, inr, arith}
use Rattle.ecs_id.specs.Id.{Id, plain, pair, target_or_zero}
use Rattle.ecs_model.specs.World.{Key}
use Rattle.ecs_model.specs.Added.{IsAdded, is_symmetric}
use Rattle.rel_traits.specs.After.{AddedFactsStay}
use Rattle.rel_traits.proofs.CyclePairs.{gone}
use Rattle.rel_traits.proofs.AddedSets.{pair_only, plain_only}

abbrev pub entity_of : Key → ℕ
entity_of k = k.0

abbrev pub target_of : Key → ℕ
target_of k = target_or_zero k.1

-- a pair from one of two entities to the other
abbrev IsBetween : ℕ → ℕ → Key → Type 0
IsBetween e t z = ((c : ℕ) × (z ≡ (e, pair c t))) ⊎ ((c : ℕ) × (z ≡ (t, pair c e)))

module _ (ids : ℕ → List Id) where
  between : (e r t : ℕ) (z : Key) → IsAdded ids (e, pair r t) z → IsBetween e t z
  between e r t z a = elim (pair_only ids e r t a) [ inl (c, p, same) ↦ inl (c, same) | inr (c, b, p, s, q, same) ↦ inr (c, same) ]

  turned : (e t : ℕ) (z : Key) → IsBetween e t z → IsBetween t e z
  turned e t z (inl b) = inr b
  turned e t z (inr b) = inl b

  -- another target of e, or its mirror, isn't such a pair
  apart : (e t d u : ℕ) (z : Key) → ¬ (u ≡ t) → IsBetween e t z → (z ≡ (e, pair d u)) ⊎ ((is_symmetric ids d ≡ true) × (z ≡ (u, pair d e))) → ⊥
  apart e t d u z other (inl b) (inl q) = other (ap target_of (sym q ∙ b.1))
  apart e t d u z other (inl b) (inr q) = other (ap entity_of (sym q.1 ∙ b.1) ∙ ap target_of (sym q.1 ∙ b.1))
  apart e t d u z other (inr b) (inl q) = other (ap target_of (sym q ∙ b.1) ∙ ap entity_of (sym q ∙ b.1))
  apart e t d u z other (inr b) (inr q) = other (ap entity_of (sym q.1 ∙ b.1))

pub added_facts_stay : AddedFactsStay
added_facts_stay ids (e, plain c) z a (k, p, h) = let along = plain_only ids e c p in absurd (omega (arith, (rw along.2 at h).1))
added_facts_stay ids (e, pair r t) z a (k, p, h) =
    elim (pair_only ids e r t p) [
      | inl (d, q, same) ↦ let g = gone ids e d t z (rw same at h) in apart ids e t d (g.1).0 z (g.1).1 (between ids e r t z a) (g.1).2
      | inr (d, b, q, s, w, same) ↦ let g = gone ids t d e z (rw same at h) in apart ids t e d (g.1).0 z (g.1).1 (turned ids e t z (between ids e r t z a)) (g.1).2
    ]
