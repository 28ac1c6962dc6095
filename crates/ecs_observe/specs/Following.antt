-- What happens to the lists of kept queries, and to their plans.
use Rattle.std.specs.Prelude.{◌≡◌, ◌≢◌, ◌⊎◌, ℕ, ◌≤◌, Bool, true, false, not, List, [], ◌∷◌, ◌++◌, Contains, IsTrue, filter, length, map}
use Rattle.std.specs.Prelude.{bytes_eq, Option, Some, None, IfSome, IsSome, option_and_then, option_map, Result, Ok, Err, if◌then◌else◌}
use Rattle.std.specs.List.{find}
use Rattle.std.specs.Option.{option_map_or}
use Rattle.ecs_id.specs.declared.TableKey.{TableKey}
use Rattle.ecs_model.specs.declared.faults.SessionRefusal.TheVariants.{UnknownQuery}
use Rattle.ecs_model.specs.declared.watches.StoredKind.{StoredKind}
use Rattle.ecs_model.specs.declared.watches.StoredKind.TheVariants as kind
use Rattle.ecs_model.specs.stored.Session.{SessionState, kept_query}
use Rattle.ecs_world.specs.Standing as world
use Rattle.plan_steps.specs.Nobody.{begins_with_this}
use Rattle.query_cache.specs.Kept.{AreAbove, Counts, IsSynced, Kept, stands}
use Rattle.query_meaning.specs.declared.steps.Step.{Step}
use Rattle.query_model.specs.Query.{Query}
use Rattle.query_plan.specs.Plans.{Plan}
use Rattle.table_store.specs.Store.{Store}
use Rattle.world_facts.specs.Kept.{AreTablesOf}
use Rattle.world_query.specs.Planned.{IsPlannedForKept, IsPlannedIn}
use Rattle.world_query.specs.Probes.{StaysInTables}
use Rattle.watch_stored.specs.Held.{Held, IsFitting, IsOutgrown}
use Rattle.ecs_observe.specs.Standing.{Standing, session_of}
use Rattle.ecs_observe.specs.declared.errors.SessionError.{SessionError}
use Rattle.ecs_observe.specs.declared.errors.SessionError.TheVariants.{Refused, Memory}
use Rattle.watch_stored.specs.declared.stored.StoredQuery.{StoredQuery}
use Rattle.watch_stored.specs.Lists.{IsBlank}

-- ---- one list

-- of the tables that stand and came since the last sync some were judged, each at most once; all of them, if the list
-- is synced now
pub record JudgesNew (s : Store) (before after : Kept) : Type 0 where
  pub above : List TableKey
  pub are_above : AreAbove s before.last above
  pub count : ℕ
  pub at_most : count ≤ length above
  pub all : IsSynced after s → count ≡ length above
  pub counted : Counts before.judged count after.judged

-- a list has followed the tables: it still belongs to its query; and it is unchanged, or only tables that came since
-- the last sync were judged
pub record Follows (s : Store) (before after : Kept) : Type 0 where
  pub patterns : after.patterns ≡ before.patterns
  -- a listed table that still stands is still listed
  pub kept : (k : TableKey) → Contains before.keys k → IsTrue (stands s k) → Contains after.keys k
  -- a table that didn't come since the last sync isn't new again
  pub passed : (k : TableKey) → IsTrue (stands s k) → k.serial ≤ before.last → k.serial ≤ after.last
  pub judged : (after ≡ before) ⊎ JudgesNew s before after

-- the same for the list of a stored query, if it has one; else the stored query is unchanged
abbrev pub FollowsIfSome : {A : Type 0} → Store → StoredQuery A → StoredQuery A → Type 0
FollowsIfSome s before after = (after ≡ before) ⊎ ((b : Kept) × (a : Kept) × (before.list ≡ Some b) × (after.list ≡ Some a) × Follows s b a)

-- the list has exactly the tables of the query, and none has come since its last sync
pub record IsUpToDate (q : Query) (s : Store) (list : Kept) : Type 0 where
  pub synced : IsSynced list s
  pub tables : AreTablesOf q s list.keys

-- the list of a kept query was brought up to date; any other stored query is refused
abbrev pub SyncsList : {T : Type 0} → Result T SessionError → StoredKind → Query → Store → Option Kept → Type 0
SyncsList (Ok _) k q s list = (k ≡ kind.Kept) × ((l : Kept) × (list ≡ Some l) × IsUpToDate q s l)
SyncsList (Err (Refused reason)) k q s list = (k ≢ kind.Kept) × (reason ≡ UnknownQuery)
SyncsList (Err Memory) k q s list = k ≡ kind.Kept

-- if the rows of a stored query are found from its list, it has one, which is up to date
abbrev pub ReadsList : {A : Type 0} → Store → StoredQuery A → Type 0
ReadsList s q = begins_with_this (q.plan).query (q.plan).steps ≡ true → (l : Kept) × (q.list ≡ Some l) × IsUpToDate (q.plan).query s l

-- a run of a plan that begins in these tables found the rows, with at most as many probes as the tables of this list
-- allow; without a number of probes the plan begins elsewhere
abbrev pub FindsInList : world.Standing → Plan → Option Kept → Option ℕ → Type 0
FindsInList w p list None = begins_with_this p.query p.steps ≡ false
FindsInList w p list (Some probes) = (begins_with_this p.query p.steps ≡ true) × ((l : Kept) × (list ≡ Some l) × StaysInTables w p l.keys probes)

-- the steps are those that the planner makes in this world, given how many tables the query has
pub record IsPlannedNow (w : world.Standing) (p : Plan) : Type 0 where
  pub tables : List TableKey
  pub are_tables : AreTablesOf p.query w.tables tables
  pub planned : IsPlannedForKept w p.query (length tables) p

-- a plan was outgrown in this world, and another was made in it; each comes with the serial of the newest table when it
-- was made
abbrev pub IsMadeAnew : world.Standing → Plan × ℕ → Plan × ℕ → Type 0
IsMadeAnew w before after = IsOutgrown before.1 (w.tables).last × IsPlannedNow w after.0 × (after.1 ≡ (w.tables).last)

-- a plan is unchanged, or it was outgrown in this world and planned again in it
abbrev pub StaysOrIsPlanned : world.Standing → Plan × ℕ → Plan × ℕ → Type 0
StaysOrIsPlanned w before after = (after ≡ before) ⊎ IsMadeAnew w before after

-- ---- the lists of a session

-- the list of the kept query with a name
abbrev pub list_at : Standing → List ℕ → Option Kept
list_at s n = option_and_then (λ h. h.list) (find (λ h. bytes_eq n h.name) s.stored)

-- a stored query with this list, these steps and this serial of the newest table, if it has the name; else unchanged
abbrev pub with_list : List ℕ → Option Kept → List Step → ℕ → Held → Held
with_list n list steps serial h = record h {
  list = if bytes_eq n h.name then list else h.list;
  steps = if bytes_eq n h.name then steps else h.steps;
  planned_at = if bytes_eq n h.name then serial else h.planned_at;
}

-- a session in which the stored query with a name has them
abbrev pub with_list_at : List ℕ → Option Kept → List Step → ℕ → Standing → Standing
with_list_at n list steps serial s = record s { stored = map (with_list n list steps serial) s.stored }

-- the session is unchanged except for the stored query with this name: its list, which has followed the tables, the
-- steps by which its rows are found, and when they were planned
pub record FollowsOne (n : List ℕ) (old new : Standing) : Type 0 where
  pub before : Kept
  pub list : Kept
  pub steps : List Step
  pub serial : ℕ
  pub was : list_at old n ≡ Some before
  pub left : new ≡ with_list_at n (Some list) steps serial old
  pub follows : Follows (old.world).tables before list

-- or all is unchanged
abbrev pub FollowsAt : List ℕ → Standing → Standing → Type 0
FollowsAt n old new = (new ≡ old) ⊎ FollowsOne n old new

-- the list of the kept query with a name is up to date
pub record IsUpToDateAt (s : Standing) (n : List ℕ) : Type 0 where
  pub query : Query
  pub list : Kept
  pub kept : kept_query (session_of s) n ≡ Ok query
  pub there : list_at s n ≡ Some list
  pub current : IsUpToDate query (s.world).tables list

-- a call for a kept query is refused exactly where no kept query has the name, and memory is refused only where one has
abbrev pub RefusesKept : {T : Type 0} → Result T SessionError → SessionState → List ℕ → Type 0
RefusesKept (Ok _) s n = (q : Query) × (kept_query s n ≡ Ok q)
RefusesKept (Err (Refused reason)) s n = kept_query s n ≡ Err reason
RefusesKept (Err Memory) s n = (q : Query) × (kept_query s n ≡ Ok q)

-- an error says that no kept query has the name
abbrev pub IsUnknownKept : SessionError → SessionState → List ℕ → Type 0
IsUnknownKept (Refused reason) s n = kept_query s n ≡ Err reason
IsUnknownKept Memory s n = ⊥

-- the tables of the kept query with a name, as they are listed, are in `after`; or no kept query has the name, and
-- `after` is `before`; or memory was refused, and `after` is empty
abbrev pub GivesTables : {T : Type 0} → Result T SessionError → Standing → List ℕ → (before after : List TableKey) → Type 0
GivesTables (Ok _) s n before after = option_map (λ list. list.keys) (list_at s n) ≡ Some after
GivesTables (Err (Refused reason)) s n before after = (kept_query (session_of s) n ≡ Err reason) × (after ≡ before)
GivesTables (Err Memory) s n before after = IsSome (list_at s n) × (after ≡ [])

-- the plan by which the rows of a stored query are found, and the plan of the stored query with a name
abbrev pub plan_of : Held → Plan
plan_of h = record { query = h.query; steps = h.steps }

abbrev pub plan_at : Standing → List ℕ → Option Plan
plan_at s n = option_map plan_of (find (λ h. bytes_eq n h.name) s.stored)

-- the same, with the serial of the newest table when it was planned
abbrev pub dated_plan_of : Held → Plan × ℕ
dated_plan_of h = (plan_of h, h.planned_at)

abbrev pub dated_plan_at : Standing → List ℕ → Option (Plan × ℕ)
dated_plan_at s n = option_map dated_plan_of (find (λ h. bytes_eq n h.name) s.stored)

-- whether its rows are found from its list
abbrev pub begins_in_list : Standing → List ℕ → Bool
begins_in_list s n = option_map_or (λ p. begins_with_this p.query p.steps) (plan_at s n) false

-- the plan is unchanged, or it was outgrown in the world before the call and planned again in it
abbrev pub PlansAt : List ℕ → Standing → Standing → Type 0
PlansAt n old new =
    (dated_plan_at new n ≡ dated_plan_at old n)
    ⊎ ((before : Plan × ℕ) × (after : Plan × ℕ) × (dated_plan_at old n ≡ Some before) × (dated_plan_at new n ≡ Some after)
    × IsMadeAnew old.world before after)

-- and it isn't outgrown now
abbrev pub IsFittingAt : List ℕ → Standing → Type 0
IsFittingAt n s = (p : Plan × ℕ) × (dated_plan_at s n ≡ Some p) × IsFitting p.1 ((s.world).tables).last

-- the rows of the stored query with a name were found so
abbrev pub FindsInListAt : List ℕ → Standing → Option ℕ → Type 0
FindsInListAt n s probes = IfSome (plan_at s n) (λ p. FindsInList s.world p (list_at s n) probes)

-- each stored query by its name, with its list if it is a kept query, the steps by which its rows are found, and when
-- they were planned
abbrev pub lists_of : Standing → List (List ℕ × Option Kept × List Step × ℕ)
lists_of s = map (λ h. (h.name, h.list, h.steps, h.planned_at)) s.stored

-- a new stored query has a list of no table if it is a kept query, and the steps that the planner makes in the world
-- before, with the serial of its newest table; all others are unchanged. After a refusal all is unchanged
abbrev pub ListsOneMore : {T E : Type 0} → Result T E → List ℕ → Standing → Standing → Type 0
ListsOneMore (Ok _) n old new = (h : Held) × (new.stored ≡ old.stored ++ h ∷ []) × (h.name ≡ n) × IfSome h.list IsBlank
    × IsPlannedIn old.world h.query (plan_of h) × (h.planned_at ≡ ((old.world).tables).last)
ListsOneMore (Err _) n old new = new ≡ old

-- a dropped stored query takes its list with it; the lists and steps of the others stay. After a refusal all is
-- unchanged
abbrev pub ListsOneLess : {T E : Type 0} → Result T E → List ℕ → Standing → Standing → Type 0
ListsOneLess (Ok _) n old new = lists_of new ≡ filter (λ p. not (bytes_eq n p.0)) (lists_of old)
ListsOneLess (Err _) n old new = new ≡ old
