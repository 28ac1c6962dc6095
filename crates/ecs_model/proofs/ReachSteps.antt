-- What is reached in no step, in one, or by a chain.
use Rattle.std.proofs.Common.{◌≡◌, ◌⊎◌, Bool, true, false, List, refl, sym, ◌∙◌, inl, inr}
use Rattle.std.specs.List.{Contains}
use Rattle.ecs_model.specs.Reach.{Reached, itself, onward, HasChain, Leads, Reaches}

module _ {A : Type 0} where
  -- what is reached is there already, or a chain leads to it
  pub chain_or_none : (next : A → List A) → {x y : A} → Reached next x y → (x ≡ y) ⊎ HasChain next x y
  chain_or_none next itself = inl refl
  chain_or_none next (onward {y} {z} r n) =
      elim (chain_or_none next r) [
        | inl e ↦ inr (z, rw e n, itself)
        | inr c ↦ inr (c.0, c.1, onward c.2 n)
      ]

  -- what a chain leads to is reached
  pub chain_reached : (next : A → List A) (x y : A) → HasChain next x y → Reached next x y
  chain_reached next x y c = go c.2
    where
      go : {z : A} → Reached next c.0 z → Reached next x z
      go itself = onward itself c.1
      go (onward r h) = onward (go r) h

  -- along a chain, and then along another one
  chains_compose : (next : A → List A) (x y z : A) → HasChain next x y → HasChain next y z → HasChain next x z
  chains_compose next x y z c d = (c.0, c.1, go (onward c.2 d.1) d.2)
    where
      go : {u v : A} → Reached next c.0 u → Reached next u v → Reached next c.0 v
      go r itself = r
      go r (onward s h) = onward (go r s) h

  pub reaches_compose : (reflexive : Bool) (next : A → List A) (s t u : A) → Reaches true reflexive next s t → Reaches true reflexive next t u → Reaches true reflexive next s u
  reaches_compose reflexive next s t u (inl p) (inl q) = inl (p.0, p.1 ∙ q.1)
  reaches_compose reflexive next s t u (inl p) (inr d) = inr (rw p.1 d)
  reaches_compose reflexive next s t u (inr c) (inl q) = inr (rw (← q.1) c)
  reaches_compose reflexive next s t u (inr c) (inr d) = inr (chains_compose next s t u c d)

-- the same steps the other way round
module _ {A : Type 0} (f g : A → List A) where
  step_first : (y z : A) → Contains (g z) y → {x : A} → Reached g y x → Reached g z x
  step_first y z h itself = onward itself h
  step_first y z h (onward r n) = onward (step_first y z h r) n

  module _ (turned : (x y : A) → Contains (f x) y → Contains (g y) x) where
    turned_way : {x y : A} → Reached f x y → Reached g y x
    turned_way itself = itself
    turned_way {x} (onward {y} {z} r h) = step_first y z (turned y z h) (turned_way r)

    turned_chain : (x y : A) → HasChain f x y → HasChain g y x
    turned_chain x y c =
        elim (chain_or_none g (turned_way c.2)) [
          | inl e ↦ (x, rw e (turned x c.0 c.1), itself)
          | inr d ↦ (d.0, d.1, onward d.2 (turned x c.0 c.1))
        ]

    turned_leads : (transitive : Bool) (x y : A) → Leads transitive f x y → Leads transitive g y x
    turned_leads true x y c = turned_chain x y c
    turned_leads false x y h = turned x y h

    pub turned_reach : (transitive reflexive : Bool) (x y : A) → Reaches transitive reflexive f x y → Reaches transitive reflexive g y x
    turned_reach transitive reflexive x y (inl p) = inl (p.0, sym p.1)
    turned_reach transitive reflexive x y (inr l) = inr (turned_leads transitive x y l)
