-- Sets as lists whose members strictly rise, and the least of them that are closed under what follows.
use Rattle.std.specs.Prelude.{ℕ, zero, suc, ◌↔◌, Bool, IsTrue, List, [], flat_map, fold}
use Rattle.std.specs.List.{list_any}
use Rattle.std.specs.Ordering.{nat_cmp}
use Rattle.std.specs.declared.cmp.Ordering.{Ordering}
use Rattle.ecs_model.specs.Map.{Map, keys, has_key, with_value}
use Rattle.ecs_model.specs.Reach.{Reached}

-- a set is a map with nothing at each key
abbrev pub Set : Type 0 → Type 0
Set K = Map K (Unit {0})

module _ {K : Type 0} (R : K → K → Ordering) where
  -- the set with one more member
  abbrev pub with_member : Set K → K → Set K
  with_member s k = with_value R s k tt

  module _ (next : K → List K) where
    -- the members, and what follows from each of them
    abbrev pub grown : Set K → Set K
    grown s = fold with_member s (flat_map next (keys s))

    -- what at most so many steps from x lead to
    unfoldable pub within : ℕ → K → Set K
    within zero x = with_member [] x
    within (suc n) x = grown (within n x)

    -- the set holds exactly what is reached from x: the least set that holds x and all that follows from its members
    abbrev pub IsLeastFrom : K → Set K → Type 0
    IsLeastFrom x s = (y : K) → IsTrue (has_key R s y) ↔ Reached next x y

-- whether a step and at most n more lead from s to t
unfoldable pub has_chain : (ℕ → List ℕ) → ℕ → ℕ → ℕ → Bool
has_chain next n s t = list_any (λ u. has_key nat_cmp (within nat_cmp next n u) t) (next s)
