-- Roles: a role is a variable of a linked query and an entity that may stand for it. The holder of a changed fact has a
-- role for each variable that is asked for the fact. From there the terms that link the variables lead back to the
-- candidates.
use Rattle.std.specs.Prelude.{◌≡◌, ℕ, zero, suc, ◌==◌, Bool, true, not, ◌&&◌, List, [], ◌∷◌, ◌++◌, filter, flat_map, map, if◌then◌else◌}
use Rattle.std.specs.List.{Contains, range_with_len}
use Rattle.ecs_id.specs.Id.{Id}
use Rattle.ecs_model.specs.steps.Outcomes.{Changed}
use Rattle.ecs_model.specs.World.{WorldState, Key, ids_of}
use Rattle.query_check.specs.Terms.{terms}
use Rattle.query_model.specs.declared.query.Term.{Term}
use Rattle.query_model.specs.Query.{Query}
use Rattle.watch_concerns.specs.Concerns.{concerns}
use Rattle.watch_concerns.specs.Idle.{asks_for}
use Rattle.watch_concerns.specs.Others.{concerns_below}
use Rattle.watch_concerns.specs.Roles.{leads_in, leads_out, may_stand}
use Rattle.watch_touched.specs.Leaning.{HasAllBelow, concerns_beyond, leaning, moves_by, target_of}
use Rattle.watch_touched.specs.Moving.{entities_of, ids_around, may_be_this}

module _ (q : Query) (w : WorldState) (by : ℕ → Term → Bool) (changed : Changed) where
  -- whether an entity may stand for a variable, by the ids that it holds and the ids of all removed facts
  abbrev pub stands_for : ℕ → ℕ → Bool
  stands_for u x = may_stand q (ids_around w changed.went x) u

  -- whether a variable besides `$this` is asked for this fact, and the fact's holder may stand for it
  abbrev pub is_asked_of : ℕ → Key → Bool
  is_asked_of u k = not (u == 0) && asks_for (terms q) u k.1 && stands_for u k.0

  -- ---- back from the entity of a variable to the entities of earlier variables

  -- whether a term may lead by this id, a pair, from its holder as the entity of u, for which the holder may stand, to
  -- the pair's target as the entity of v
  abbrev pub holds_as : ℕ → ℕ → List Id → Id → Bool
  holds_as u v ids i = leads_out by q u v i && may_stand q (ids ++ map (λ k. k.1) changed.went) u

  -- the entities from which a term leads so to this entity
  abbrev pub holders_as : ℕ → ℕ → ℕ → List ℕ
  holders_as u v y = leaning (holds_as u v) w y

  -- the ids that an entity holds, and the ids that were removed from it
  abbrev pub ids_of_both : ℕ → List Id
  ids_of_both y = ids_of w y ++ map (λ k. k.1) (filter (λ k. k.0 == y) changed.went)

  -- the targets of the pairs among these ids, where a term may lead from the target as the entity of u, for which it
  -- may stand, to y as the entity of v
  abbrev pub targets_as : ℕ → ℕ → ℕ → List ℕ
  targets_as u v y = filter (stands_for u) (flat_map (target_of (leads_in by q u v)) (ids_of_both y))

  abbrev pub behind : ℕ → ℕ → ℕ → List ℕ
  behind u v y = holders_as u v y ++ targets_as u v y

  -- a list of roles contains the holder of each changed fact for each variable that is asked for it, and with each role
  -- every role from which a term leads to it
  pub record AreRoles (roles : List (ℕ × ℕ)) : Type 0 where
    pub asked : (u : ℕ) (k : Key) → Contains (changed.came ++ changed.went) k → is_asked_of u k ≡ true → Contains roles (u, k.0)
    pub closed : (u v x y : ℕ) → Contains roles (v, y) → Contains (behind u v y) x → Contains roles (u, x)

  -- ---- all roles, found back from each fact

  -- the role of an entity y as v, and every role from which terms lead to it in at most so many steps
  abbrev pub roles_behind : ℕ → ℕ → ℕ → List (ℕ × ℕ)
  roles_behind zero v y = (v, y) ∷ []
  roles_behind (suc n) v y = (v, y) ∷ flat_map (λ u. flat_map (roles_behind n u) (behind u v y)) (range_with_len 0 v)

  -- the same from the holder of a fact, for each of these variables that is asked for it
  abbrev pub roles_of_fact : List ℕ → Key → List (ℕ × ℕ)
  roles_of_fact us k = flat_map (λ u. if is_asked_of u k then roles_behind u u k.0 else []) us

  abbrev pub roles_of : List ℕ → List (ℕ × ℕ)
  roles_of us = flat_map (roles_of_fact us) (changed.came ++ changed.went)

  -- the entities that have a role as `$this` and every id that the query requires on it
  abbrev pub this_among : List (ℕ × ℕ) → List ℕ
  this_among roles = filter (may_be_this q w) (map (λ k. k.1) (filter (λ k. k.0 == 0) roles))

  -- every candidate is in `es`: each entity with a changed fact that concerns the query; each entity with a role as
  -- `$this` and every id required on it; and each holder of a pair that concerns the query whose target is in `below`,
  -- the entities with a changed fact that concerns entities below, and all entities below them
  pub record AreMovingByRoles (es : List ℕ) : Type 0 where
    pub own : (e : ℕ) → Contains (entities_of (concerns q) changed) e → Contains es e
    pub roles : List (ℕ × ℕ)
    pub are_roles : AreRoles roles
    pub this : (e : ℕ) → Contains roles (0, e) → may_be_this q w e ≡ true → Contains es e
    pub below : List ℕ
    pub all_below : HasAllBelow (λ ids. concerns_beyond q) w (entities_of (concerns_below q) changed) below
    pub held : (x e : ℕ) → Contains below x → Contains (leaning (moves_by q) w x) e → Contains es e
