-- The laws of the view before a command, as statements.
use Rattle.std.specs.Prelude.{◌≡◌, ◌↔◌, ℕ, Bool, List, true, false, Ok}
use Rattle.std.specs.List.{Contains}
use Rattle.query_model.specs.declared.query.Term.{Term}
use Rattle.query_model.specs.Query.{Query}
use Rattle.ecs_model.specs.steps.Outcomes.{Changed}
use Rattle.ecs_model.specs.World.{WorldState}
use Rattle.ecs_model.specs.rows.View.{view_of}
use Rattle.ecs_model.specs.stored.Watches.{matching}
use Rattle.ecs_model.specs.steps.Step.{Command, step}
use Rattle.ecs_model.specs.steps.WellFormed.{IsWellFormed}
use Rattle.watch_touched.specs.Before.{view_before}
use Rattle.watch_touched.specs.Concerned.{is_concerned}
use Rattle.watch_touched.specs.Moving.{AreMoving, are_holders}
use Rattle.watch_touched.specs.Roles.{AreMovingByRoles}
use Rattle.query_meaning.specs.Sound.{IsSound}
use Rattle.watch_concerns.specs.Anchored.{is_anchored}
use Rattle.watch_concerns.specs.Roles.{is_linked_by}
use Rattle.watch_concerns.specs.Since.{IsAfter}

-- the view before, computed from the world after a command and its changes, shows the same live entities with the same
-- ids as the world before
abbrev pub ShowsWorldBefore : Type 0
ShowsWorldBefore = (w v : WorldState) (c : Command) (changed : Changed) → IsWellFormed w → step w c ≡ Ok (v, changed)
    → ((view_before v changed).entities ≡ (view_of w).entities) × ((e : ℕ) → (view_before v changed).ids e ≡ (view_of w).ids e)

-- in it a query has rows of the same entities as in the world before
abbrev pub QueriesMatchedBefore : Type 0
QueriesMatchedBefore = (w v : WorldState) (c : Command) (changed : Changed) (q : Query) → IsWellFormed w → step w c ≡ Ok (v, changed)
    → matching (view_before v changed) q ≡ matching (view_of w) q

-- a query that a command doesn't concern has rows of the same entities before and after it
abbrev pub UnconcernedQueriesMatchOn : Type 0
UnconcernedQueriesMatchOn = (v : WorldState) (changed : Changed) (q : Query) → IsWellFormed v → IsAfter v changed → is_concerned q changed ≡ false
    → matching (view_before v changed) q ≡ matching (view_of v) q

-- for an anchored query, where a changed fact of another entity may move only the holders of a pair with it or with an
-- entity below it: if a list includes every candidate, every other entity is in the rows after the command exactly if
-- it was before
abbrev pub OthersThanMovingStay : Type 0
OthersThanMovingStay = (v : WorldState) (changed : Changed) (q : Query) → IsWellFormed v → IsAfter v changed → IsSound q → is_anchored q ≡ true → are_holders q changed ≡ true
    → (es : List ℕ) → AreMoving q v changed es → (e : ℕ) → (Contains es e → ⊥) → Contains (matching (view_before v changed) q) e ↔ Contains (matching (view_of v) q) e

-- the same for an anchored query that is linked by some terms, where the entities include every candidate by roles
abbrev pub OthersThanRolesStay : Type 0
OthersThanRolesStay = (v : WorldState) (changed : Changed) (q : Query) → IsWellFormed v → IsAfter v changed → IsSound q → is_anchored q ≡ true → (by : ℕ → Term → Bool) → is_linked_by by q ≡ true
    → (es : List ℕ) → AreMovingByRoles q v by changed es → (e : ℕ) → (Contains es e → ⊥) → Contains (matching (view_before v changed) q) e ↔ Contains (matching (view_of v) q) e
