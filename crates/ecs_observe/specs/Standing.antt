-- What is seen of a session, and the session of the definitions that it stands for.
use Rattle.std.specs.Prelude.{◌≡◌, ◌≢◌, ℕ, ◌≤◌, Bool, false, List, [], ◌∷◌, All, AllPairs, map, flat_map, length}
use Rattle.std.specs.Prelude.{Option, Some, None, option_map, IfSome}
use Rattle.std.specs.List.{count_by, list_any}
use Rattle.std.specs.Option.{option_map_or}
use Rattle.ecs_model.specs.steps.Outcomes.{Changed}
use Rattle.ecs_model.specs.Map.{count_at}
use Rattle.ecs_model.specs.stored.Session.{SessionState, most_stored}
use Rattle.ecs_model.specs.stored.Watches.{Stored}
use Rattle.ecs_world.specs.Standing as world
use Rattle.watch_concerns.specs.Mentions.{times}
use Rattle.watch_concerns.specs.Since.{IsAfter}
use Rattle.watch_stored.specs.Held.{Held, IsHeld, IsNow, WasNow, is_searched, is_taken_whole, told_to}

-- a session: its world, the stored queries in the order in which they were stored, the changes of a command whose
-- events wait, and how often monitors were evaluated
pub record Standing : Type 0 where
  pub world : world.Standing
  pub stored : List Held
  pub waiting : Option Changed
  pub compared : ℕ

abbrev pub stored_of : Held → Stored
stored_of h = record { name = h.name; kind = h.kind; query = h.query }

-- whether the waiting changes concern the query of some monitor that isn't local
abbrev pub has_searched : Standing → Bool
has_searched s = option_map_or (λ changed. list_any (is_searched changed) s.stored) s.waiting false

-- how many stored queries may be evaluated for the waiting changes
abbrev pub searched_in : Standing → ℕ
searched_in s = option_map_or (λ changed. count_by (is_searched changed) s.stored) s.waiting 0

-- how many are evaluated in any case, because their candidates can't be found
abbrev pub taken_in : Standing → ℕ
taken_in s = option_map_or (λ changed. count_by (is_taken_whole changed) s.stored) s.waiting 0

-- the session of the definitions
unfoldable pub session_of : Standing → SessionState
session_of s = record {
  world = (s.world).state;
  stored = map stored_of s.stored;
  waiting = option_map (λ changed. flat_map (told_to (s.world).state changed) s.stored) s.waiting;
}

-- a stored query with these as the entities of its rows, if there are any to put
abbrev pub with_these : Option (List ℕ) → Held → Held
with_these None h = h
with_these (Some these) h = record h { these = these }

-- the same for one stored query after another, as long as there are any
abbrev pub with_rows : List (Option (List ℕ)) → List Held → List Held
with_rows [] hs = hs
with_rows (these ∷ rows) [] = []
with_rows (these ∷ rows) (h ∷ hs) = with_these these h ∷ with_rows rows hs

-- what holds for every session
pub record IsSession (s : Standing) : Type 0 where
  pub held : All (IsHeld (s.world).state) s.stored
  -- the world counts how many stored queries mention an entity
  pub pinned : (i : ℕ) → count_at ((s.world).state).pins i ≡ times i (map (λ h. h.query) s.stored)
  pub few : length s.stored ≤ most_stored
  -- no two stored queries have the same name
  pub once : AllPairs (λ a b. a.name ≢ b.name) s.stored
  -- unless events wait, monitors were notified of everything
  pub now : s.waiting ≡ None → All (IsNow (s.world).state) s.stored
  -- the waiting changes were made by the command that led to this world
  pub after : IfSome s.waiting (IsAfter (s.world).state)
  -- and monitors were notified of everything before it
  pub before : IfSome s.waiting (λ changed. All (WasNow (s.world).state changed) s.stored)
