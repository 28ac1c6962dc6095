-- One step back: a term leads from the entity of a variable to that of a later one, and what is kept of the query
-- judges it. And the entities that may be `$this` and from which an entity is reached.
use Rattle.std.specs.Prelude.{ℕ, ◌==◌, Bool, true, not, ◌&&◌, ◌||◌, List, [], ◌++◌, filter, flat_map, map, if◌then◌else◌}
use Rattle.id_pattern.specs.Patterns.{matches}
use Rattle.ecs_id.specs.Id.{Id}
use Rattle.ecs_model.specs.steps.Outcomes.{Changed}
use Rattle.ecs_model.specs.World.{WorldState, Key, ids_of}
use Rattle.query_model.specs.Query.{Query}
use Rattle.watch_asked.specs.Asked.{any_counts_as, counts}
use Rattle.watch_asked.specs.declared.asked.AskedOf.{AskedOf}
use Rattle.watch_asked.specs.declared.steps.LinkStep.{LinkStep}
use Rattle.watch_concerns.specs.OwnIds.{lacks}
use Rattle.watch_touched.specs.Leaning.{leaning, target_of}
use Rattle.watch_touched.specs.Moving.{ids_around, may_be_this}
use Rattle.watch_touched.specs.Roles.{roles_behind, this_among}

-- whether a holder of these ids, where these facts were removed, may be the entity of a variable by one of the ids: as
-- `$this` it has every id required there, as another variable it counts for the id
abbrev pub may_be_by : {A : Type 0} → Query → List (AskedOf A) → List Key → ℕ → List Id → Id → Bool
may_be_by q others went u ids i = if u == 0 then not (lacks q ids) else any_counts_as (λ v. v == u) others (ids ++ map (λ k. k.1) went) i

-- whether the step may lead from the holder of one of the ids, a pair, to its target
abbrev pub leads_by : {A : Type 0} → Query → List (AskedOf A) → List Key → LinkStep → List Id → Id → Bool
leads_by q others went s ids i = matches s.asked i && may_be_by q others went s.from ids i

-- the target of a removed fact, if it was a fact of this entity, and a pair by which the step may lead
abbrev pub gone_target : LinkStep → ℕ → Key → List ℕ
gone_target s y k = if k.0 == y then target_of (matches s.asked) k.1 else []

module _ (q : Query) (w : WorldState) where
  -- whether an entity may be that of a variable, as far as the target of a pair is judged: only `$this` is judged
  abbrev pub may_be_as : ℕ → ℕ → Bool
  may_be_as u x = not (u == 0) || may_be_this q w x

  -- the targets of the pairs that an entity holds or lost, from which the step may lead to it
  abbrev pub targets_back : List Key → LinkStep → ℕ → List ℕ
  targets_back went s y = filter (may_be_as s.from) (flat_map (target_of (matches s.asked)) (ids_of w y) ++ flat_map (gone_target s y) went)

  -- all entities from which it may
  abbrev pub step_back : {A : Type 0} → List (AskedOf A) → List Key → LinkStep → ℕ → List ℕ
  step_back others went s y = if s.outward then leaning (leads_by q others went s) w y else targets_back went s y

module _ (q : Query) (w : WorldState) (changed : Changed) where
  -- the entities that may be `$this` and from which an entity, as the one of a variable, is reached in at most so many
  -- steps
  abbrev pub found_behind : ℕ → ℕ → ℕ → List ℕ
  found_behind n v y = this_among q w (λ v t. true) changed (roles_behind q w (λ v t. true) changed n v y)

  -- those from which the holder of a fact is reached, for each variable for which it counts
  abbrev pub found_from : {A : Type 0} → List (AskedOf A) → Key → List ℕ
  found_from others k = flat_map (λ a. if counts (ids_around w changed.went k.0) k.1 a then found_behind a.variable a.variable k.0 else []) others

  -- those from which the target of an id is reached, if the id is a pair by which the step may lead
  abbrev pub behind_target : ℕ → LinkStep → Id → List ℕ
  behind_target n s i = flat_map (found_behind n s.from) (target_of (matches s.asked) i)

  -- the same for a fact that was removed from an entity
  abbrev pub behind_gone : ℕ → LinkStep → ℕ → Key → List ℕ
  behind_gone n s y k = flat_map (found_behind n s.from) (gone_target s y k)
