-- Lists that are given one by one.
use Rattle.std.specs.Prelude.{◌≡◌, ◌≢◌, ◌↔◌, ℕ, Bool, true, false, IsTrue, List, [], ◌∷◌, ◌++◌, take, Contains, Option, Some, None}
use Rattle.ecs_id.specs.Id.{Id}
use Rattle.ecs_model.specs.Links.{upward}
use Rattle.ecs_model.specs.Reach.{IsReachedFrom}
use Rattle.rel_travel.specs.Holders.{holders_of_pair}

-- what a scratch holds: the greatest size of a graph that it covers, and what the last search found
pub record Work : Type 0 where
  pub size : ℕ
  pub found : List ℕ
  -- those that refer to what was found, as they were found last
  pub referrers : List ℕ
  -- of the list that was begun last: its relationship, whether it goes from sources to targets, whether it goes on from each entity that it gives, and how many of the found it has given
  pub relationship : ℕ
  pub is_upward : Bool
  pub goes_on : Bool
  pub given : ℕ

-- the entities that the list has given, in order
abbrev pub given_by : Work → List ℕ
given_by s = take s.given s.found

-- what a list that has found these comes to: they alone, or where it goes on, all that is reached from them
abbrev pub IsListed : Bool → (ℕ → List ℕ) → List ℕ → ℕ → Type 0
IsListed true next found y = IsReachedFrom next found y
IsListed false next found y = Contains found y

-- over the live entities and the ids of each
module _ (entities : List ℕ) (ids : ℕ → List Id) where
  -- from an entity to its targets, or from an entity to its sources
  abbrev pub steps : Bool → ℕ → ℕ → List ℕ
  steps true r x = upward ids r x
  steps false r x = holders_of_pair entities ids x r

  -- the list of the scratch was begun over these: what follows from the given ones is found, where the list goes on
  abbrev pub IsListing : Work → Type 0
  IsListing s = IsTrue s.goes_on → (y z : ℕ) → Contains (given_by s) y → Contains (steps s.is_upward s.relationship y) z → Contains s.found z

  -- the list comes to y, and hasn't given it yet
  abbrev pub IsToCome : Work → ℕ → Type 0
  IsToCome s y = IsListed s.goes_on (steps s.is_upward s.relationship) s.found y × ¬ (Contains (given_by s) y)

  -- y was to come and is given now, and all the others are still to come
  pub record IsGiven (old : Work) (y : ℕ) (new : Work) : Type 0 where
    pub came : IsToCome old y
    pub rest : (z : ℕ) → IsToCome new z ↔ (IsToCome old z × (y ≢ z))
    pub last : given_by new ≡ given_by old ++ y ∷ []

  -- one entity was given, or none is to come and nothing has changed
  abbrev pub GivesOne : Work → Option ℕ → Work → Type 0
  GivesOne old (Some y) new = IsGiven old y new
  GivesOne old None new = (new ≡ old) × ((y : ℕ) → ¬ (IsToCome old y))
