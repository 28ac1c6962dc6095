-- What is known of ways says where a relationship leads.
use Rattle.std.proofs.Common.{◌≡◌, ◌≢◌, ◌↔◌, ℕ, Bool, true, false, List, refl, inl, inr}
use Rattle.std.proofs.lemmas.Bool.{false≢true}
use Rattle.ecs_id.specs.Id.{Id}
use Rattle.ecs_model.specs.Links.{AreLinks, is_reflexive, is_transitive, reaches, upward}
use Rattle.ecs_model.specs.Reach.{Reached, Reaches, itself}
use Rattle.ecs_model.proofs.ReachTests.{reaches_tells}
use Rattle.ecs_model.proofs.Members.{alike}
use Rattle.ecs_model.proofs.ReachSteps.{chain_or_none, chain_reached, turned_reach}
use Rattle.rel_travel.specs.Holders.{holders_of_pair}
use Rattle.rel_travel.proofs.Cleanup.{holds_upward, upward_holds}

-- one that is reached is reached in no step or by a chain
by_steps : {A : Type 0} (next : A → List A) (x y : A) → Reached next x y → Reaches true true next x y
by_steps next x y h = elim (chain_or_none next h) [ inl e ↦ inl (refl, e) | inr c ↦ inr c ]

of_steps : {A : Type 0} (next : A → List A) (x y : A) → Reaches true true next x y → Reached next x y
of_steps next x y (inl p) = rw p.1 itself
of_steps next x y (inr c) = chain_reached next x y c

-- to another entity a relationship that is transitive leads by chains
other_at : (transitive reflexive : Bool) (next : ℕ → List ℕ) (s t : ℕ) → transitive ≡ true → s ≢ t → Reaches transitive reflexive next s t ↔ Reached next s t
other_at true reflexive next s t e apart = (
  λ h. elim h [ inl p ↦ absurd (apart p.1) | inr c ↦ chain_reached next s t c ],
  λ h. elim (chain_or_none next h) [ inl same ↦ absurd (apart same) | inr c ↦ inr c ],
)
other_at false reflexive next s t e apart = absurd (false≢true e)

module _ {n : ℕ} {entities : List ℕ} {ids : ℕ → List Id} (links : AreLinks n entities ids) (r s t : ℕ) where
  -- what leads to the target, step by step
  pub led_from : Reached (λ x. holders_of_pair entities ids x r) t s ↔ Reached (upward ids r) s t
  led_from =
      let down = λ (x : ℕ). holders_of_pair entities ids x r in (
        λ h. of_steps (upward ids r) s t (turned_reach down (upward ids r) (holds_upward links r) true true t s (by_steps down t s h)),
        λ h. of_steps down t s (turned_reach (upward ids r) down (upward_holds links r) true true s t (by_steps (upward ids r) s t h)),
      )

  -- so it is known of another entity
  pub told_of_other : (b : Bool) → is_transitive ids r ≡ true → s ≢ t → (b ≡ true ↔ Reached (upward ids r) s t) → b ≡ reaches ids entities r s t
  told_of_other b transitive apart told =
      let test = reaches_tells links r s t in
      let other = other_at (is_transitive ids r) (is_reflexive ids r) (upward ids r) s t transitive apart in
      alike b (reaches ids entities r s t) (λ h. test.1 (other.1 (told.0 h))) (λ h. told.1 (other.0 (test.0 h)))
