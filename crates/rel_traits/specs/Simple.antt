-- Facts with which no others come, and none or just one goes.
use Rattle.std.specs.Prelude.{◌≡◌, ℕ, ◌==◌, Bool, true, false, not, ◌&&◌, List, [], ◌∷◌, Option, Some, None}
use Rattle.std.specs.List.{list_any}
use Rattle.ecs_id.specs.Id.{Id, plain, pair}
use Rattle.ecs_model.specs.Added.{brought, displaced, is_symmetric}
use Rattle.ecs_model.specs.BuiltIns.{is_a}
use Rattle.ecs_model.specs.Copied.{is_copied}
use Rattle.ecs_model.specs.Links.{is_held}
use Rattle.ecs_model.specs.World.{Key}
use Rattle.ecs_model.specs.steps.Rules.{is_trait}
use Rattle.rel_traits.specs.declared.alone.Arrival.{Arrival}
use Rattle.rel_traits.specs.declared.alone.Arrival.TheVariants.{Alone, InPlaceOf, WithOthers}
use Rattle.rel_traits.specs.After.{ClosesAt}

-- over the ids of each entity
module _ (ids : ℕ → List Id) where
  -- whether an id leads from an instance to a base of which something may be copied
  abbrev pub leads_to_copies : Id → Bool
  leads_to_copies (plain c) = false
  leads_to_copies (pair r t) = r == is_a && list_any (is_copied ids []) (ids t)

  -- a fact that is no trait, brings no other, copies nothing, lets none give way, and closes no cycle
  pub record ComesAlone (k : Key) : Type 0 where
    pub no_trait : is_trait k.1 ≡ false
    pub no_copies : leads_to_copies k.1 ≡ false
    pub brings : brought ids k ≡ []
    pub displaces : displaced ids k ≡ []
    pub closes : ¬ (ClosesAt ids k.0 k)

  -- to a fact that the entity doesn't hold yet gives way just one that it holds, of this id
  pub record TakesPlaceOf (k : Key) (old : Id) : Type 0 where
    pub is_new : is_held (ids k.0) k.1 ≡ false
    pub displaces : displaced ids k ≡ (k.0, old) ∷ []

  -- a fact that comes in the place of another one of its entity: it is no trait, brings no other, copies nothing, lets just that one give way, and closes no cycle
  pub record ComesInPlace (k : Key) (old : Id) : Type 0 where
    pub no_trait : is_trait k.1 ≡ false
    pub no_copies : leads_to_copies k.1 ≡ false
    pub brings : brought ids k ≡ []
    pub place : TakesPlaceOf k old
    pub closes : ¬ (ClosesAt ids k.0 k)

  -- the one that gives way to a fact, if any does
  abbrev pub GivesWay : Key → Option Id → Type 0
  GivesWay k None = displaced ids k ≡ []
  GivesWay k (Some old) = TakesPlaceOf k old

  -- what is seen of how a fact comes
  abbrev pub Arrives : Key → Arrival → Type 0
  Arrives k Alone = ComesAlone k
  Arrives k (InPlaceOf old) = ComesInPlace k old
  Arrives k WithOthers = Unit {0}

  -- whether a fact of the id has no mirror
  abbrev pub is_unmirrored : Id → Bool
  is_unmirrored (plain c) = true
  is_unmirrored (pair r t) = not (is_symmetric ids r)
