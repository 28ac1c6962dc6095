-- What a search for candidates uses, and what is known during it.
use Rattle.std.specs.Prelude.{◌≡◌, ◌↔◌, ℕ, ◌≤◌, Bool, true, List}
use Rattle.std.specs.List.{Contains}
use Rattle.ecs_id.specs.Id.{Id}
use Rattle.query_meaning.specs.Sound.{IsSound}
use Rattle.watch_asked.specs.declared.steps.LinkStep.{LinkStep}
use Rattle.watch_concerns.specs.Concerns.{concerns}
use Rattle.watch_concerns.specs.Others.{concerns_below, concerns_others}
use Rattle.watch_concerns.specs.Since.{IsAfter}
use Rattle.watch_touched.specs.Bonds.{bonds_of}
use Rattle.watch_touched.specs.Leaning.{Adds, is_sought, leaning}
use Rattle.watch_touched.specs.Moving.{AreAllMoved, entities_of, finds_moving}
use Rattle.watch_touched.specs.Steps.{found_behind, leads_by}
use Rattle.watch_touched.specs.declared.leaning.Leaners.{Leaners}
use Rattle.watch_touched.specs.declared.moving.Happened.{Happened}
use Rattle.watch_touched.specs.declared.moving.Targets.{Targets}
use Rattle.watch_touched.specs.declared.roles.Walk.{Walk}

-- ---- the holders of a pair with an entity

module _ {A B : Type 0} (by : Leaners A B) where
  -- whether a holder of these ids is looked for, by one of them
  abbrev pub is_looked_for : List Id → Id → Bool
  is_looked_for = is_sought by.sought by.query.now

  -- all holders that are looked for, by a pair with this entity
  abbrev pub leaners_on : ℕ → List ℕ
  leaners_on = leaning is_looked_for by.world.now.state

-- ---- the candidates after a command

module _ {A B : Type 0} (happened : Happened A B) where
  -- every entity that entered or left the rows is in this list
  abbrev pub AreAllMovedBy : List ℕ → Type 0
  AreAllMovedBy all = AreAllMoved happened.query.now happened.world.now.state happened.changes.now all

  -- the candidates can be found; the lists hold the entities of the changed facts that concern the query, that concern
  -- it for other entities, and that concern it for entities below
  pub record IsFollowed (moving : List ℕ) (targets : Targets A) : Type 0 where
    pub bonds : happened.bonds ≡ bonds_of happened.query.now
    pub after : IsAfter happened.world.now.state happened.changes.now
    pub sound : IsSound happened.query.now
    pub found : finds_moving happened.query.now happened.changes.now ≡ true
    pub own : (e : ℕ) → Contains moving e ↔ Contains (entities_of (concerns happened.query.now) happened.changes.now) e
    pub others : targets.others.items ≡ entities_of (concerns_others happened.query.now) happened.changes.now
    pub below : targets.below.items ≡ entities_of (concerns_below happened.query.now) happened.changes.now

-- ---- the entities that may be `$this`, behind an entity

module _ {A B : Type 0} (walk : Walk A B) where
  -- those behind an entity as the one of a variable, in at most so many steps
  abbrev pub this_behind : ℕ → ℕ → ℕ → List ℕ
  this_behind = found_behind walk.query.now walk.world.now.state walk.changes.now

  -- whether a step may lead from a holder of these ids, by one of them
  abbrev pub leads : LinkStep → List Id → Id → Bool
  leads = leads_by walk.query.now (walk.asked.now.others).items walk.changes.now.went

-- a list got all entities that are found behind a variable, however many steps are between (at most one for each
-- earlier variable)
abbrev pub AddsBehind : ℕ → (ℕ → List ℕ) → List ℕ → List ℕ → Type 0
AddsBehind variable found before after = (n : ℕ) → variable ≤ n → Adds (found n) before after
