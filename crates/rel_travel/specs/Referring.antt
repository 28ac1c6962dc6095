-- Who refers to some entities, and who forbids that they are deleted.
use Rattle.std.specs.Prelude.{ℕ, ◌&&◌, Bool, not, List, filter}
use Rattle.std.specs.List.{list_any}
use Rattle.ecs_id.specs.Id.{Id, mentioned}
use Rattle.ecs_model.specs.steps.Rules.{forbids}
use Rattle.rel_travel.specs.Finds.{is_among}

-- whether an id mentions one of these
abbrev pub mentions_any : List ℕ → Id → Bool
mentions_any members i = list_any (is_among members) (mentioned i)

-- over the ids of each entity
module _ (ids : ℕ → List Id) where
  -- the live entities outside of these that hold an id which mentions one of them
  abbrev pub referrers : List ℕ → List ℕ → List ℕ
  referrers entities members = filter (λ y. not (is_among members y) && list_any (mentions_any members) (ids y)) entities

  -- whether a live entity outside of these forbids that one of them is deleted
  abbrev pub is_forbidden : List ℕ → List ℕ → Bool
  is_forbidden entities members = list_any (λ y. not (is_among members y) && list_any (λ i. list_any (λ x. forbids ids x i) members) (ids y)) entities
