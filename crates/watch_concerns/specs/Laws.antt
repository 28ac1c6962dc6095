-- The laws of what concerns a query, as statements.
use Rattle.std.specs.Prelude.{◌≡◌, ◌↔◌, ℕ, ◌==◌, Bool, true, false, List, filter}
use Rattle.std.specs.List.{Contains}
use Rattle.ecs_id.specs.Id.{Id, pair}
use Rattle.query_model.specs.declared.query.Term.{Term}
use Rattle.query_model.specs.Query.{Query}
use Rattle.query_check.specs.Terms.{terms}
use Rattle.ecs_model.specs.Links.{AreLinks, ancestor_line}
use Rattle.ecs_model.specs.rows.View.{View}
use Rattle.ecs_model.specs.stored.Watches.{matching}
use Rattle.watch_concerns.specs.Anchored.{is_anchored}
use Rattle.watch_concerns.specs.Concerns.{concerns}
use Rattle.watch_concerns.specs.Idle.{asks_for}
use Rattle.watch_concerns.specs.Others.{concerns_below, concerns_others}
use Rattle.watch_concerns.specs.OwnIds.{lacks, meets}
use Rattle.watch_concerns.specs.Roles.{LeadsOn, is_linked_by, may_stand}
use Rattle.watch_concerns.specs.Tied.{is_tied}
use Rattle.query_meaning.specs.Sound.{IsSound}

-- the same entities are alive in two views, and each holds the same of the ids that concern a query
pub record AreAlikeFor (q : Query) (w v : View) : Type 0 where
  pub entities : w.entities ≡ v.entities
  pub ids : (e : ℕ) → filter (concerns q) (w.ids e) ≡ filter (concerns q) (v.ids e)

-- then the query has rows of the same entities in both, whatever the values are
abbrev pub MatchByWhatConcerns : Type 0
MatchByWhatConcerns = (w v : View) (q : Query) → AreAlikeFor q w v → matching w q ≡ matching v q

-- for an anchored query it doesn't matter which entities are alive, if each fact is held by a live entity and mentions
-- only live ones
abbrev pub MatchWhoeverElseLives : Type 0
MatchWhoeverElseLives = (m n : ℕ) (w v : View) (q : Query) → AreLinks m w.entities w.ids → AreLinks n v.entities v.ids → is_anchored q ≡ true
    → ((e : ℕ) → filter (concerns q) (w.ids e) ≡ filter (concerns q) (v.ids e))
    → (e : ℕ) → Contains (matching w q) e ↔ Contains (matching v q) e

-- nor does it matter which ids others hold that concern the query only for their holders. An entity is `$this` of a row
-- in both views or in neither, if three things are the same in both: of its ids those that concern the query; of the
-- ids of its ancestors those that concern it for entities below; of the ids of all entities those that concern it for
-- other entities
abbrev pub MatchByOwnFacts : Type 0
MatchByOwnFacts = (m n : ℕ) (w v : View) (q : Query) → AreLinks m w.entities w.ids → AreLinks n v.entities v.ids → IsSound q → is_anchored q ≡ true
    → ((x : ℕ) → filter (concerns_others q) (w.ids x) ≡ filter (concerns_others q) (v.ids x))
    → (e : ℕ) → filter (concerns q) (w.ids e) ≡ filter (concerns q) (v.ids e)
    → ((r x : ℕ) → Contains (ancestor_line v.ids v.entities r e) x → filter (concerns_below q) (w.ids x) ≡ filter (concerns_below q) (v.ids x))
    → Contains (matching w q) e ↔ Contains (matching v q) e

-- for a tied query, of the ids of other entities those that concern it for other entities matter only on the targets of
-- pairs that the entity holds and that concern the query
abbrev pub MatchByTies : Type 0
MatchByTies = (m n : ℕ) (w v : View) (q : Query) → AreLinks m w.entities w.ids → AreLinks n v.entities v.ids → IsSound q → is_anchored q ≡ true → is_tied q ≡ true
    → (e : ℕ) → filter (concerns q) (w.ids e) ≡ filter (concerns q) (v.ids e)
    → ((r x : ℕ) → Contains (ancestor_line v.ids v.entities r e) x → filter (concerns_below q) (w.ids x) ≡ filter (concerns_below q) (v.ids x))
    → ((r x : ℕ) → Contains (v.ids e) (pair r x) → concerns q (pair r x) ≡ true → filter (concerns_others q) (w.ids x) ≡ filter (concerns_others q) (v.ids x))
    → Contains (matching w q) e ↔ Contains (matching v q) e

-- for a query that is linked by some terms, they matter only on the entities `near`, which may stand for a variable:
-- the entity itself for `$this`, and each entity to which such terms lead from there by pairs in one of the views. Of
-- their ids only those matter that the query asks of that variable
abbrev pub MatchByRoles : Type 0
MatchByRoles = (m n : ℕ) (w v : View) (q : Query) → AreLinks m w.entities w.ids → AreLinks n v.entities v.ids → IsSound q → is_anchored q ≡ true
    → (by : ℕ → Term → Bool) → is_linked_by by q ≡ true
    → (e : ℕ) → filter (concerns q) (w.ids e) ≡ filter (concerns q) (v.ids e)
    → ((r x : ℕ) → Contains (ancestor_line v.ids v.entities r e) x → filter (concerns_below q) (w.ids x) ≡ filter (concerns_below q) (v.ids x))
    → (all : ℕ → List Id) → ((x : ℕ) (i : Id) → Contains (w.ids x) i → Contains (all x) i) → ((x : ℕ) (i : Id) → Contains (v.ids x) i → Contains (all x) i)
    → (near : ℕ → ℕ → Bool) → near 0 e ≡ true → LeadsOn by q all w near → LeadsOn by q all v near
    → ((u x : ℕ) → (u == 0) ≡ false → near u x ≡ true → may_stand q (all x) u ≡ true → filter (asks_for (terms q) u) (w.ids x) ≡ filter (asks_for (terms q) u) (v.ids x))
    → Contains (matching w q) e ↔ Contains (matching v q) e

-- an entity that lacks an id which the query requires on `$this` itself is `$this` of no row
abbrev pub LackingMatchNothing : Type 0
LackingMatchNothing = (w : View) (q : Query) (e : ℕ) → lacks q (w.ids e) ≡ true → Contains (matching w q) e → ⊥

-- a live entity whose own ids alone meet the query is `$this` of a row
abbrev pub MeetingMatch : Type 0
MeetingMatch = (w : View) (q : Query) → IsSound q → (e : ℕ) → Contains w.entities e → meets q (w.ids e) ≡ true → Contains (matching w q) e
