-- Where pairs have gone and no trait has come, all that traits ask is still so.
use Rattle.std.proofs.Common.{◌≡◌, ℕ, true, List, refl}
use Rattle.std.specs.List.{Contains}
use Rattle.ecs_id.specs.Id.{plain, pair}
use Rattle.ecs_model.specs.BuiltIns.{exclusive, symmetric, acyclic, traversable}
use Rattle.ecs_model.specs.Links.{upward}
use Rattle.ecs_model.specs.Reach.{Reached, itself, onward, HasChain}
use Rattle.ecs_model.specs.World.{WorldState, holds, ids_of}
use Rattle.ecs_model.specs.steps.WellFormed.{KeepsTraits}
use Rattle.ecs_model.specs.steps.Rules.{is_trait}
use Rattle.ecs_model.proofs.steps.Facts.{leads_holds, holds_leads}

-- a chain is one of more steps too
pub chain_of_more : {A : Type 0} (f g : A → List A) → ((x y : A) → Contains (f x) y → Contains (g x) y) → (x y : A) → HasChain f x y → HasChain g x y
chain_of_more {A = A} f g more x y c = (c.0, more x c.0 c.1, go c.2)
  where
    go : {z : A} → Reached f c.0 z → Reached g c.0 z
    go itself = itself
    go (onward {y = u} {z = z} r h) = onward (go r) (more u z h)

-- the pairs and the traits of v are those of w, or fewer; what stays of a symmetric pair is both sides, and what is Traversable stays Acyclic
pub record IsFewer (w v : WorldState) : Type 0 where
  pub pairs : (e r t : ℕ) → holds v e (pair r t) ≡ true → holds w e (pair r t) ≡ true
  pub traits : (r c : ℕ) → is_trait (plain c) ≡ true → holds v r (plain c) ≡ true → holds w r (plain c) ≡ true
  pub mirrors : (e r t : ℕ) → holds v r (plain symmetric) ≡ true → holds v e (pair r t) ≡ true → holds w t (pair r e) ≡ true → holds v t (pair r e) ≡ true
  pub acyclics : (r : ℕ) → holds v r (plain traversable) ≡ true → holds w r (plain acyclic) ≡ true → holds v r (plain acyclic) ≡ true

pub fewer_keep : (w v : WorldState) → KeepsTraits w → IsFewer w v → KeepsTraits v
fewer_keep w v h f = record {
  one_target = λ e r t u x p q. h.one_target e r t u (f.traits r exclusive refl x) (f.pairs e r t p) (f.pairs e r u q);
  mirrored = λ e r t s p. f.mirrors e r t s p (h.mirrored e r t (f.traits r symmetric refl s) (f.pairs e r t p));
  traversable_acyclic = λ r t. f.acyclics r t (h.traversable_acyclic r (f.traits r traversable refl t));
  no_cycle = λ r a x c. h.no_cycle r (f.traits r acyclic refl a) x (chain_of_more (upward (ids_of v) r) (upward (ids_of w) r) (λ y z n. holds_leads w r y z (f.pairs y r z (leads_holds v r y z n))) x x c);
}
