-- Stored queries as they are kept: in order, counted, and each listed for the changes that it listens for.
use Rattle.std.specs.Prelude.{◌≡◌, ℕ, ◌<◌, Bool, true, List, map, length, slice_index_or}
use Rattle.std.specs.List.{All, Contains, count_by}
use Rattle.std.specs.declared.string.String.{String}
use Rattle.ecs_id.specs.Id.{Id}
use Rattle.ecs_model.specs.steps.Outcomes.{Changed}
use Rattle.ecs_model.specs.stored.Watches.{is_told}
use Rattle.watch_touched.specs.Concerned.{has_births_or_deaths}
use Rattle.watch_events.specs.Hits.{may_tell_set}
use Rattle.watch_index.specs.Laws.{may_concern}
use Rattle.watch_index.specs.Occasions.{occasions_of}
use Rattle.watch_index.specs.WatchOrder.{Boxed, IsOpen, IsWatched, occasions_in}
use Rattle.ecs_observe.specs.declared.queries.StoredQueries.{StoredQueries}
use Rattle.watch_stored.specs.declared.stored.StoredQuery.{StoredQuery}

-- the boxes of the stored queries, in order
abbrev pub made_of : {A : Type 0} → StoredQueries A → List (Boxed (StoredQuery A) A)
made_of s = s.all.order.made.items

abbrev pub entries_in : {A : Type 0} → List (Boxed (StoredQuery A) A) → List (String A × StoredQuery A)
entries_in bs = map (λ b. (b.value.name, b.value.value.value)) bs

-- stored queries by their names
abbrev pub entries_of : {A : Type 0} → StoredQueries A → List (String A × StoredQuery A)
entries_of s = entries_in (made_of s)

-- it is listed for every change that a stored query of its kind and query listens for
abbrev pub IsFit : {A : Type 0} → Boxed (StoredQuery A) A → Type 0
IsFit b = occasions_in b ≡ occasions_of (b.value.value.value).kind ((b.value.value.value).plan).query

abbrev pub is_watch_in : {A : Type 0} → Boxed (StoredQuery A) A → Bool
is_watch_in b = is_told (b.value.value.value).kind

-- it may be notified where the value of a held id is set
abbrev pub hears_set : {A : Type 0} → Id → Boxed (StoredQuery A) A → Bool
hears_set i b = may_tell_set i (b.value.value.value).kind ((b.value.value.value).plan).query

pub record IsStored {A : Type 0} (s : StoredQueries A) : Type 0 where
  pub watched : IsWatched s.all
  pub fit : All IsFit (made_of s)
  -- how many are notified of commands
  pub watches : s.watches ≡ count_by is_watch_in (made_of s)

-- a stored query is ready to be appended, and already listed
pub record IsOpened {A : Type 0} (s : StoredQueries A) (name : String A) (q : StoredQuery A) (r : String A × Boxed (StoredQuery A) A) : Type 0 where
  pub open_one : IsOpen s.all name (r.1).value.value r
  pub query : (r.1).value.value.value ≡ q
  pub fits : IsFit r.1
  pub fit : All IsFit (made_of s)
  pub watches : s.watches ≡ count_by is_watch_in (made_of s)

-- the place of each stored query that the changes may concern is among these places
abbrev pub AreLedTo : {A : Type 0} → Changed → List (String A × StoredQuery A) → List ℕ → Type 0
AreLedTo {A} changed es places = (i : ℕ) (d : String A × StoredQuery A) → i < length es
    → may_concern ((slice_index_or es i d).1).kind (((slice_index_or es i d).1).plan).query (has_births_or_deaths changed)
    changed.came changed.went changed.written ≡ true
    → Contains places i
