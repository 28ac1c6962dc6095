-- What a deletion takes, by who was found to fall and to refer to these.
use Rattle.std.specs.Prelude.{◌↔◌, ℕ, ◌&&◌, Bool, not, List, Contains}
use Rattle.std.specs.Ordering.{nat_cmp}
use Rattle.ecs_id.specs.Id.{Id}
use Rattle.ecs_model.specs.Cleanup.{falling}
use Rattle.ecs_model.specs.Map.{has_key}
use Rattle.ecs_model.specs.Reach.{Reached}
use Rattle.ecs_model.specs.World.{WorldState, Key}
use Rattle.ecs_model.specs.steps.FactChanges.{deleted, mentions_gone}
use Rattle.rel_travel.specs.Lists.{Work}
use Rattle.rel_travel.specs.Referring.{referrers}
use Rattle.rel_traits.specs.Sees.{Sees}

-- over the live entities and the ids of each
module _ (live : List ℕ) (ids : ℕ → List Id) where
  -- all who fall with e are found, and all who stay and refer to one of these
  pub record IsDeletion (s : Work) (e : ℕ) : Type 0 where
    pub fall : (y : ℕ) → Contains s.found y ↔ Reached (falling ids live) e y
    pub refer : (y : ℕ) → Contains s.referrers y ↔ Contains (referrers ids live s.found) y

  -- what is said of each world that they show, and of the live entity whose deletion was found
  abbrev pub OfDeletion : Work → (WorldState → ℕ → Type 0) → Type 0
  OfDeletion s P = (w : WorldState) (e : ℕ) → Sees w live ids → Contains live e → IsDeletion s e → P w e

-- whether a fact goes with e that is of an entity who stays
abbrev pub is_lost : WorldState → ℕ → Key → Bool
is_lost w e k = not (has_key nat_cmp (deleted w e) k.0) && mentions_gone w (deleted w e) k
