-- What is known of where a relationship leads.
use Rattle.std.specs.Prelude.{◌≡◌, ℕ, Bool, true, false, IsTrue, IfSome, List, [], ◌∷◌, Contains, Option, None}
use Rattle.ecs_id.specs.Id.{Id}
use Rattle.ecs_model.specs.Links.{is_transitive, upward}
use Rattle.rel_travel.specs.Followed.{IsClosed, IsFollowed}
use Rattle.rel_travel.specs.Holders.{holders_of_pair}

-- searches from one entity after another: where the last one began, whether nothing is left of those before it, what was found, and how many of the
-- found have brought all that they bring
pub record Sought : Type 0 where
  pub start : Option ℕ
  pub is_alone : Bool
  pub found : List ℕ
  pub done : ℕ

-- what is known along one relationship: the greatest size of a graph that it covers, whether the relationship is known to be transitive, what the
-- entity leads to that was asked last, and what leads to the one that was asked last
pub record Known : Type 0 where
  pub size : ℕ
  pub is_transitive : Bool
  pub above : Sought
  pub below : Sought

-- nothing is found
abbrev pub nothing_sought : Sought
nothing_sought = record { start = None; is_alone = true; found = []; done = 0 }

-- nothing is known
abbrev pub nothing_known : ℕ → Known
nothing_known n = record { size = n; is_transitive = false; above = nothing_sought; below = nothing_sought }

-- what searches have found is reached from x, where the last one began, or was left by those before it, and that leads to no others
pub record IsSoughtFrom (next : ℕ → List ℕ) (x : ℕ) (is_alone : Bool) (found : List ℕ) (done : ℕ) : Type 0 where
  pub left : List ℕ
  pub closed : IsClosed next left
  pub none : IsTrue is_alone → left ≡ []
  pub followed : IsFollowed next (x ∷ left) found done

abbrev pub IsSought : (ℕ → List ℕ) → Option ℕ → Bool → List ℕ → ℕ → Type 0
IsSought next start is_alone found done = IfSome start (λ x. IsSoughtFrom next x is_alone found done)

-- and t is none of those that were left, so it is found only where it is reached from x
abbrev pub IsSoughtFor : (ℕ → List ℕ) → ℕ → ℕ → Bool → List ℕ → ℕ → Type 0
IsSoughtFor next x t is_alone found done = (s : IsSoughtFrom next x is_alone found done) × ¬ (Contains s.left t)

-- over the live entities and the ids of each: what is known is so
pub record AreWays (entities : List ℕ) (ids : ℕ → List Id) (r : ℕ) (k : Known) : Type 0 where
  pub transitive : IsTrue k.is_transitive → IsTrue (is_transitive ids r)
  pub above : IsSought (upward ids r) (k.above).start (k.above).is_alone (k.above).found (k.above).done
  pub below : IsSought (λ x. holders_of_pair entities ids x r) (k.below).start (k.below).is_alone (k.below).found (k.below).done
