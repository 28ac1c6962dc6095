-- Where nothing leads to itself, the depth of a thing is the length of its longest chain.
use Rattle.std.proofs.Common.{◌≡◌, ◌⊎◌, ℕ, zero, suc, ◌≤◌, max, List, [], ◌∷◌, length, map, refl, inl, inr, ◌∙◌, arith}
use Rattle.std.specs.List.{Contains}
use Rattle.std.proofs.Math.Nat.{le-max_left, le-max_right, max-eq_left, max-eq_right, max-le}
use Rattle.std.proofs.lemmas.Bool.{cases_lt}
use Rattle.std.proofs.lemmas.List.Elements.{Contains-append_right}
use Rattle.ecs_model.specs.Depth.{IsChain, no_step, one_more, IsDepth, greatest, depth_within}
use Rattle.ecs_model.specs.Reach.{Reached, itself, onward, HasChain}
use Rattle.ecs_model.specs.ReachLaws.{DepthsAreOfLongestChains}
use Rattle.ecs_model.specs.Links.{upward}
use Rattle.ecs_model.proofs.LivePairs.{upward_lives}
use Rattle.ecs_model.proofs.Members.{among_others, head_or_tail, others, others_fewer}
use Rattle.ecs_model.proofs.ShortLines.{chain_ends, chain_through, one_step}

module _ {A : Type 0} (f : A → ℕ) where
  -- the greatest of some numbers is one of them, or there is none
  greatest_of : (xs : List A) → ((y : A) × Contains xs y × (greatest (map f xs) ≡ f y)) ⊎ (greatest (map f xs) ≡ 0)
  greatest_of [] = inr refl
  greatest_of (x ∷ xs) =
      elim (cases_lt (f x) (greatest (map f xs))) [
        | inl low ↦ elim (greatest_of xs) [
          | inl m ↦ inl (m.0, Contains-append_right (x ∷ []) xs m.0 m.1, max-eq_right (omega (arith, low)) ∙ m.2)
          | inr z ↦ absurd (omega (arith, z, low))
        ]
        | inr high ↦ inl (x, (0, omega arith, refl), max-eq_left high)
      ]

  -- and each is at most the greatest
  at_most_greatest : (xs : List A) (y : A) → Contains xs y → f y ≤ greatest (map f xs)
  at_most_greatest [] y h = absurd (omega (arith, h.1))
  at_most_greatest (x ∷ xs) y h =
      elim (head_or_tail x y xs h) [
        | inl e ↦ rw (← e) (le-max_left (f x) (greatest (map f xs)))
        | inr t ↦ omega (arith, at_most_greatest xs y t, le-max_right (f x) (greatest (map f xs)))
      ]

  greatest_within : (xs : List A) (n : ℕ) → ((y : A) → f y ≤ n) → greatest (map f xs) ≤ n
  greatest_within [] n low = omega arith
  greatest_within (x ∷ xs) n low = max-le (low x) (greatest_within xs n low)

module _ {A : Type 0} (next : A → List A) where
  -- a chain begins with a step, from whose end one of a step less goes on
  first_step : {x : A} {n : ℕ} {z : A} → IsChain next x (suc n) z → (y : A) × Contains (next x) y × IsChain next y n z
  first_step {z = z} (one_more no_step h) = (z, h, no_step)
  first_step (one_more (one_more c g) h) = let f = first_step (one_more c g) in (f.0, f.1, one_more f.2 h)

  from_first : {x y : A} {n : ℕ} {z : A} → Contains (next x) y → IsChain next y n z → IsChain next x (suc n) z
  from_first h no_step = one_more no_step h
  from_first h (one_more c g) = one_more (from_first h c) g

  -- what a chain of some steps leads to is reached by a chain
  pub chain_of_steps : {x : A} {n : ℕ} {z : A} → IsChain next x (suc n) z → HasChain next x z
  chain_of_steps (one_more no_step h) = one_step next _ _ h
  chain_of_steps (one_more (one_more c g) h) = let f = chain_of_steps (one_more c g) in (f.0, f.1, onward f.2 h)

  -- no depth is more than the bound of the steps
  pub depth_bounded : (n : ℕ) (x : A) → depth_within next n x ≤ n
  unfolding depth_within
  depth_bounded zero x = omega arith
  depth_bounded (suc n) x = greatest_within (λ y. suc (depth_within next n y)) (next x) (suc n) (λ y. omega (arith, depth_bounded n y))

  -- from the depths of what follows
  pub after_step : (n : ℕ) (s : A) → ((t : A) → Contains (next s) t → IsDepth next t (depth_within next n t)) → IsDepth next s (depth_within next (suc n) s)
  unfolding depth_within
  after_step n s of_next = record {
    reached = by_greatest (greatest_of (λ t. suc (depth_within next n t)) (next s));
    longest = none_longer;
  }
    where
      by_greatest : ((y : A) × Contains (next s) y × (greatest (map (λ t. suc (depth_within next n t)) (next s)) ≡ suc (depth_within next n y))) ⊎ (greatest (map (λ t. suc (depth_within next n t)) (next s)) ≡ 0)
          → (y : A) × IsChain next s (greatest (map (λ t. suc (depth_within next n t)) (next s))) y
      by_greatest (inl g) = let r = IsDepth.reached (of_next g.0 g.1) in (r.0, rw g.2 (from_first g.1 r.1))
      by_greatest (inr z) = (s, rw z no_step)

      none_longer : (m : ℕ) (y : A) → IsChain next s m y → m ≤ greatest (map (λ t. suc (depth_within next n t)) (next s))
      none_longer zero y c = omega arith
      none_longer (suc m) y c =
          let f = first_step c in
          omega (arith, (IsDepth.longest (of_next f.0 f.1)) m y f.2, at_most_greatest (λ t. suc (depth_within next n t)) (next s) f.0 f.1)

  module _ (acyclic : (x : A) → ¬ (HasChain next x x)) where
    pub depth_is : (n : ℕ) (live : List A) → length live ≤ n → (s : A) → ((x : A) → HasChain next s x → Contains live x) → IsDepth next s (depth_within next n s)
    unfolding depth_within
    depth_is zero live l s in' = record {
      reached = (s, no_step);
      longest = λ m y c. none m y c;
    }
      where
        none : (m : ℕ) (y : A) → IsChain next s m y → m ≤ 0
        none zero y c = omega arith
        none (suc m) y c = absurd (omega (arith, (in' y (chain_of_steps c)).1))
    depth_is (suc n) live l s in' = after_step n s (λ t h.
        let m = in' t (one_step next s t h) in
        depth_is n (others live m.0) (omega (arith, others_fewer live m.0 m.1)) t
        (λ x c. among_others live m.0 t x m.1 m.2 (λ q. acyclic t (rw (← q) at c)) (in' x (chain_through next s t x h c))))

pub depths_are_of_longest_chains : DepthsAreOfLongestChains
depths_are_of_longest_chains n entities ids links r acyclic e =
    depth_is (upward ids r) acyclic (length entities) entities (omega arith) e (λ x c. chain_ends (upward ids r) entities (upward_lives links r) e x c)
