-- The candidates of a query after a command: the entities that may have moved, which is to enter or to leave its rows.
-- And whether an entity's own ids decide that it is in them.
use Rattle.std.specs.Prelude.{◌↔◌, ℕ, Bool, true, false, not, ◌&&◌, ◌||◌, List, ◌++◌, Option, None, Some, filter, map, if◌then◌else◌}
use Rattle.std.specs.List.{Contains, list_any}
use Rattle.std.specs.List.Sorted.{IsStrictlyIncreasing}
use Rattle.ecs_id.specs.Id.{Id}
use Rattle.ecs_model.specs.steps.Outcomes.{Changed}
use Rattle.ecs_model.specs.World.{WorldState, Key, ids_of, is_live}
use Rattle.ecs_model.specs.rows.View.{view_of}
use Rattle.ecs_model.specs.stored.Watches.{matching}
use Rattle.watch_concerns.specs.Anchored.{is_anchored}
use Rattle.watch_concerns.specs.Concerns.{concerns}
use Rattle.watch_concerns.specs.Linked.{is_linked}
use Rattle.watch_concerns.specs.Others.{concerns_below, concerns_others}
use Rattle.watch_concerns.specs.OwnIds.{lacks, meets}
use Rattle.watch_concerns.specs.Tied.{is_tied}
use Rattle.query_model.specs.Query.{Query}
use Rattle.watch_touched.specs.Before.{view_before}
use Rattle.watch_touched.specs.Leaning.{HasAllBelow, concerns_beyond, leaning, moves_by}

-- the entities of the facts whose ids pass a test
abbrev pub entities_by : (Id → Bool) → List Key → List ℕ
entities_by p ks = map (λ k. k.0) (filter (λ k. p k.1) ks)

-- the entities of the added or removed facts whose ids pass it
abbrev pub entities_of : (Id → Bool) → Changed → List ℕ
entities_of p changed = entities_by p changed.came ++ entities_by p changed.went

-- whether the id of one of these facts passes a test
abbrev pub any_by : (Id → Bool) → List Key → Bool
any_by p ks = list_any (λ k. p k.1) ks

-- the ids that an entity holds, and the ids of all removed facts
abbrev pub ids_around : WorldState → List Key → ℕ → List Id
ids_around w went x = ids_of w x ++ map (λ k. k.1) went

-- whether an entity has every id that the query requires on `$this` itself
abbrev pub may_be_this : Query → WorldState → ℕ → Bool
may_be_this q w e = not (lacks q (ids_of w e))

-- whether one of these facts concerns a query for entities besides its holder and those below it
abbrev pub any_concerns_others : Query → List Key → Bool
any_concerns_others q ks = list_any (λ k. concerns_others q k.1) ks

-- whether a changed fact of another entity may move only the holders of a pair with it, or with an entity below it: the
-- query is tied, or no changed fact concerns other entities
abbrev pub are_holders : Query → Changed → Bool
are_holders q changed = is_tied q || (not (any_concerns_others q changed.came) && not (any_concerns_others q changed.went))

-- whether the candidates can be found: the query is anchored, and it is tied or linked, or no changed fact concerns
-- other entities
abbrev pub finds_moving : Query → Changed → Bool
finds_moving q changed = is_anchored q && (is_tied q || is_linked q || (not (any_concerns_others q changed.came) && not (any_concerns_others q changed.went)))

module _ (q : Query) (w : WorldState) where
  -- the entities whose changed facts may move the holders of a pair with them are in `xs`: those with a changed fact
  -- that concerns other entities, those with a changed fact that concerns entities below, and all entities below the
  -- latter
  pub record AreTargets (changed : Changed) (xs : List ℕ) : Type 0 where
    pub others : (x : ℕ) → Contains (entities_of (concerns_others q) changed) x → Contains xs x
    pub below : HasAllBelow (λ ids. concerns_beyond q) w (entities_of (concerns_below q) changed) xs

  -- every candidate is in `es`: each entity with a changed fact that concerns the query, and each holder of a pair that
  -- concerns it whose target is in `targets`, if no id is missing that the query requires on `$this`. They hold the
  -- pair now: an entity that lost it has a changed fact of its own
  pub record AreMoving (changed : Changed) (es : List ℕ) : Type 0 where
    pub own : (e : ℕ) → Contains (entities_of (concerns q) changed) e → Contains es e
    pub targets : List ℕ
    pub are_targets : AreTargets changed targets
    pub held : (x e : ℕ) → Contains targets x → Contains (leaning (moves_by q) w x) e → Contains es e

  -- whether an entity is `$this` of a row, where its ids decide: false where it isn't alive or lacks an id that the
  -- query requires on `$this` itself, true where its ids alone meet the query, else undecided
  abbrev pub told_by_ids : ℕ → Option Bool
  told_by_ids e = if not (is_live w e) || lacks q (ids_of w e) then Some false else (if meets q (ids_of w e) then Some true else None)

  -- every entity that entered or left the rows is in `all`: every other entity is in them now exactly if it was before
  -- the command
  pub record AreAllMoved (changed : Changed) (all : List ℕ) : Type 0 where
    pub ascend : IsStrictlyIncreasing all
    pub others_stay : (e : ℕ) → (Contains all e → ⊥) → Contains (matching (view_before w changed) q) e ↔ Contains (matching (view_of w) q) e

-- how many candidates are found at most
abbrev pub most_moving : ℕ
most_moving = 64
