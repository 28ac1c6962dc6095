-- Where nothing leads to itself, a line has no more steps than there are things to lead to.
use Rattle.std.proofs.Common.{◌≡◌, ℕ, zero, suc, ◌≤◌, List, [], ◌∷◌, length, refl, ap, arith}
use Rattle.std.specs.List.{Contains, flat_map}
use Rattle.std.proofs.lemmas.List.Elements.{Contains-append_right}
use Rattle.ecs_model.specs.AncestorLine.{ancestor_line_within}
use Rattle.ecs_model.specs.Reach.{Reached, itself, onward, HasChain}
use Rattle.ecs_model.specs.ReachLaws.{LinesUnfold}
use Rattle.ecs_model.proofs.LivePairs.{upward_lives}
use Rattle.ecs_model.specs.Links.{upward}
use Rattle.ecs_model.proofs.Members.{among_others, others, others_fewer}

module _ {A : Type 0} where
  flat_map_agree : {B : Type 0} (f g : A → List B) (xs : List A) → ((x : A) → Contains xs x → f x ≡ g x) → flat_map f xs ≡ flat_map g xs
  flat_map_agree f g [] same = refl
  flat_map_agree f g (x ∷ xs) same = rw (same x (0, omega arith, refl), flat_map_agree f g xs (λ y h. same y (Contains-append_right (x ∷ []) xs y h))) refl

  -- a chain goes on from what one step leads to
  pub chain_through : (next : A → List A) (x y z : A) → Contains (next x) y → HasChain next y z → HasChain next x z
  chain_through next x y z h c = (y, h, go c.2)
    where
      go : {v : A} → Reached next c.0 v → Reached next y v
      go itself = onward itself c.1
      go (onward r n) = onward (go r) n

  pub one_step : (next : A → List A) (x y : A) → Contains (next x) y → HasChain next x y
  one_step next x y h = (y, h, itself)

  from_nothing : {B : Type 0} (f : A → List B) (xs : List A) → ((x : A) → Contains xs x → ⊥) → [] ≡ flat_map f xs
  from_nothing f [] none = refl
  from_nothing f (x ∷ xs) none = absurd (none x (0, omega arith, refl))

  pub short_line : (next : A → List A) → ((x : A) → ¬ (HasChain next x x)) → (n : ℕ) (live : List A) → length live ≤ n → (s : A) → ((x : A) → HasChain next s x → Contains live x)
      → ancestor_line_within next n s ≡ ancestor_line_within next (suc n) s
  unfolding ancestor_line_within
  short_line next acyclic zero live l s in' = from_nothing (λ t. t ∷ []) (next s) (λ t h. absurd (omega (arith, (in' t (one_step next s t h)).1)))
  short_line next acyclic (suc n) live l s in' =
      flat_map_agree (λ t. t ∷ ancestor_line_within next n t) (λ t. t ∷ ancestor_line_within next (suc n) t) (next s) (λ t h. ap (λ ts. t ∷ ts) (shorter (short_line next acyclic n) t h))
    where
      shorter : ((less : List A) → length less ≤ n → (t : A) → ((x : A) → HasChain next t x → Contains less x) → ancestor_line_within next n t ≡ ancestor_line_within next (suc n) t)
          → (t : A) → Contains (next s) t → ancestor_line_within next n t ≡ ancestor_line_within next (suc n) t
      shorter with_less t h =
          let m = in' t (one_step next s t h) in
          with_less (others live m.0) (omega (arith, others_fewer live m.0 m.1)) t
          (λ x c. among_others live m.0 t x m.1 m.2 (λ q. acyclic t (rw (← q) at c)) (in' x (chain_through next s t x h c)))

  -- where every step leads to one of these, so does every chain
  pub chain_ends : (next : A → List A) (all : List A) → ((x y : A) → Contains (next x) y → Contains all y) → (x y : A) → HasChain next x y → Contains all y
  chain_ends next all live x y c = go (live x c.0 c.1) c.2
    where
      go : {v : A} → Contains all c.0 → Reached next c.0 v → Contains all v
      go h itself = h
      go h (onward {y = u} {z = v} r n) = live u v n

  -- with as many steps as there are things to lead to, a line is made of those of what follows
  pub line_unfolds : (next : A → List A) (all : List A) → ((x y : A) → Contains (next x) y → Contains all y) → ((x : A) → ¬ (HasChain next x x)) → (s : A)
      → ancestor_line_within next (length all) s ≡ flat_map (λ t. t ∷ ancestor_line_within next (length all) t) (next s)
  unfolding ancestor_line_within
  line_unfolds next all live acyclic s = short_line next acyclic (length all) all (omega arith) s (λ x c. chain_ends next all live s x c)

pub lines_unfold : LinesUnfold
lines_unfold n entities ids links r acyclic s = line_unfolds (upward ids r) entities (upward_lives links r) acyclic s
