-- What is reached step by step, over any function from a thing to what follows from it.
use Rattle.std.specs.Prelude.{◌≡◌, ◌↔◌, ◌⊎◌, Bool, true, false, IsTrue, List, Contains}

-- y is x, or follows from something that is reached from x
pub data Reached {A : Type 0} (next : A → List A) (x : A) : A → Type 0 where
  itself : Reached next x x
  onward : {y z : A} → Reached next x y → Contains (next y) z → Reached next x z

module _ {A : Type 0} where
  -- y is reached from one of these
  abbrev pub IsReachedFrom : (A → List A) → List A → A → Type 0
  IsReachedFrom next start y = (x : A) × Contains start x × Reached next x y

  -- the list holds exactly what is reached from the start: it is the least one that holds the start and all that follows from its members
  abbrev pub IsLeast : (A → List A) → List A → List A → Type 0
  IsLeast next start all = (y : A) → Contains all y ↔ IsReachedFrom next start y

  -- a chain of one or more steps leads from x to y
  abbrev pub HasChain : (A → List A) → A → A → Type 0
  HasChain next x y = IsReachedFrom next (next x) y

  -- a chain leads from x to y where chains count, else a single step
  abbrev pub Leads : Bool → (A → List A) → A → A → Type 0
  Leads true next x y = HasChain next x y
  Leads false next x y = Contains (next x) y

  -- y is reached from x along something that is transitive, reflexive, both or neither
  abbrev pub Reaches : Bool → Bool → (A → List A) → A → A → Type 0
  Reaches transitive reflexive next x y = (IsTrue reflexive × (x ≡ y)) ⊎ Leads transitive next x y
