-- With what a search begins, and what is reached from there.
use Rattle.std.proofs.Common.{◌≡◌, ◌↔◌, ◌⊎◌, ℕ, Bool, true, false, IsTrue, List, [], ◌∷◌, cond, refl, inl, inr, arith}
use Rattle.std.proofs.lemmas.Bool.{false≢true}
use Rattle.std.specs.List.{Contains}
use Rattle.std.proofs.lemmas.List.Elements.{Contains-push, Contains-push_cases}
use Rattle.ecs_model.specs.Reach.{Reached, itself, HasChain, IsLeast, IsReachedFrom, Reaches}
use Rattle.ecs_model.proofs.ReachSteps.{chain_or_none, chain_reached}
use Rattle.rel_travel.specs.Growing.{IsGrownBy}
use Rattle.rel_travel.specs.Lists.{IsListed}

module _ {A : Type 0} where
  -- with what a search begins
  abbrev pub begun : Bool → A → List A
  begun reflexive x = cond reflexive (x ∷ []) []

  in_begun : (reflexive : Bool) (x y : A) → Contains (begun reflexive x) y → IsTrue reflexive × (x ≡ y)
  in_begun true x y h = (refl, elim (Contains-push_cases [] x y h) [ inl i ↦ absurd (omega (arith, i.1)) | inr e ↦ e ])
  in_begun false x y h = absurd (omega (arith, h.1))

  begun_in : (reflexive : Bool) (x y : A) → IsTrue reflexive × (x ≡ y) → Contains (begun reflexive x) y
  begun_in true x y h = rw (← h.1) (Contains-push [] x)
  begun_in false x y h = absurd (false≢true h.0)

  from_itself : (reflexive : Bool) (next : A → List A) (x y : A) → IsTrue reflexive → (x ≡ y) ⊎ HasChain next x y → Reaches true reflexive next x y
  from_itself reflexive next x y b (inl e) = inl (b, e)
  from_itself reflexive next x y b (inr c) = inr c

  -- from the start and what one step adds to it, by chains
  by_chains : (reflexive : Bool) (next : A → List A) (x : A) (mid : List A) → IsGrownBy (next x) (begun reflexive x) mid
      → (y : A) → IsReachedFrom next mid y ↔ Reaches true reflexive next x y
  by_chains reflexive next x mid g y = (into, out)
    where
      into : IsReachedFrom next mid y → Reaches true reflexive next x y
      into r =
          elim ((g.exact r.0).0 r.1) [
            | inl h ↦ let start = in_begun reflexive x r.0 h in from_itself reflexive next x y start.0 (chain_or_none next (rw start.1 r.2))
            | inr h ↦ inr (r.0, h, r.2)
          ]

      out : Reaches true reflexive next x y → IsReachedFrom next mid y
      out (inl h) = (y, (g.exact y).1 (inl (begun_in reflexive x y h)), itself)
      out (inr c) = (c.0, (g.exact c.0).1 (inr c.1), c.2)

  by_one_step : (reflexive : Bool) (next : A → List A) (x : A) (mid : List A) → IsGrownBy (next x) (begun reflexive x) mid → (y : A) → Contains mid y ↔ Reaches false reflexive next x y
  by_one_step reflexive next x mid g y = (
    λ h. elim ((g.exact y).0 h) [ inl i ↦ inl (in_begun reflexive x y i) | inr i ↦ inr i ],
    λ h. elim h [ inl i ↦ (g.exact y).1 (inl (begun_in reflexive x y i)) | inr i ↦ (g.exact y).1 (inr i) ],
  )

  -- from one item
  pub alone : (next : A → List A) (x y : A) → IsReachedFrom next (x ∷ []) y ↔ Reached next x y
  alone next x y = (λ r. elim (Contains-push_cases [] x r.0 r.1) [ inl n ↦ absurd (omega (arith, n.1)) | inr q ↦ rw q r.2 ], λ r. (x, Contains-push [] x, r))

  -- the least list from one item
  pub from_one : (next : A → List A) (x : A) (start all : List A) → start ≡ x ∷ [] → IsLeast next start all → (y : A) → Contains all y ↔ Reached next x y
  from_one next x start all e l y = let one = alone next x y in (λ h. one.0 (rw e at ((l y).0 h)), λ r. (l y).1 (rw e (one.1 r)))

-- the start and what one step adds to it
pub begun_by_step : (transitive reflexive : Bool) (next : ℕ → List ℕ) (x : ℕ) (mid : List ℕ) → IsGrownBy (next x) (begun reflexive x) mid → (y : ℕ) → IsListed transitive next mid y ↔ Reaches transitive reflexive next x y
begun_by_step true reflexive next x mid g = by_chains reflexive next x mid g
begun_by_step false reflexive next x mid g = by_one_step reflexive next x mid g

-- the start alone, where that leads on by itself
pub begun_alone : (next : ℕ → List ℕ) (x y : ℕ) → IsListed true next (x ∷ []) y ↔ Reaches true true next x y
begun_alone next x y =
    let one = alone next x y in (
      λ h. from_itself true next x y refl (chain_or_none next (one.0 h)),
      λ h. one.1 (elim h [ inl p ↦ rw p.1 itself | inr c ↦ chain_reached next x y c ]),
    )

-- all that is gathered from the start
pub gathered : (next : ℕ → List ℕ) (start all : List ℕ) {P : ℕ → Type 0} (y : ℕ) → IsLeast next start all → ((z : ℕ) → IsListed true next start z ↔ P z) → Contains all y ↔ P y
gathered next start all y l begun = (λ h. (begun y).0 ((l y).0 h), λ h. (l y).1 ((begun y).1 h))
