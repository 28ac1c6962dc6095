-- Those outside of some entities, by the patterns of ids that mention one of them.
use Rattle.std.specs.Prelude.{ℕ, Bool, not, ◌&&◌, ◌||◌, List, ◌++◌, filter, Some, None}
use Rattle.ecs_id.specs.Id.{Id, plain, pair}
use Rattle.id_pattern.specs.declared.Pattern.{Pattern}
use Rattle.id_pattern.specs.declared.Part.TheVariants.{Is, Any}
use Rattle.rel_travel.specs.Finds.{is_among}
use Rattle.rel_travel.specs.Holders.{holders}
use Rattle.ecs_model.specs.steps.Rules.{forbids_with_sources, forbids_with_users}

abbrev pub is_outside : List ℕ → ℕ → Bool
is_outside members y = not (is_among members y)

module _ (entities : List ℕ) (ids : ℕ → List Id) (members : List ℕ) where
  -- those outside that hold an id which the pattern matches
  abbrev pub outside_holders : Pattern → List ℕ
  outside_holders pattern = filter (is_outside members) (holders entities ids pattern)

  -- those outside that hold x, a pair of it, or a pair with it
  abbrev pub outside_referrers : ℕ → List ℕ
  outside_referrers x =
      (outside_holders (record { first = Is x; second = None }) ++ outside_holders (record { first = Is x; second = Some Any }))
      ++ outside_holders (record { first = Any; second = Some (Is x) })

-- whether an entity that holds the id forbids that one of these is deleted, by what the id mentions
abbrev pub forbids_any : (ℕ → List Id) → List ℕ → Id → Bool
forbids_any ids members (plain c) = is_among members c && forbids_with_users ids c
forbids_any ids members (pair r t) = is_among members r && forbids_with_users ids r || is_among members t && forbids_with_sources ids r
