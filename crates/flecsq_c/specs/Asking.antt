-- Queries that are asked by their numbers.
use Rattle.std.specs.Prelude.{◌≡◌, ◌⊎◌, ⊤, ℕ, zero, suc, ◌-◌, ◌^◌, ◌<◌, Bool, true, false, List, [], ◌∷◌, ◌++◌, length, get_or, set, ℤ, IsUtf8, Option, None, Some, Result, Ok, Err}
use Rattle.ecs_id.specs.declared.EntityId.{EntityId}
use Rattle.ecs_model.specs.Query.{query_of}
use Rattle.ecs_model.specs.World.{WorldState}
use Rattle.query_meaning.specs.Standing.{IsCurrentIn}
use Rattle.query_model.specs.Query.{Query}
use Rattle.query_model.specs.declared.faults.Fault.{Fault}
use Rattle.world_rows.specs.declared.matcher.MatchError.{MatchError}
use Rattle.flecsq_c.specs.declared.asking.AskError.{AskError}
use Rattle.flecsq_c.specs.declared.asking.AskError.TheVariants.{NotText, Faulty, NoThis, Memory}
use Rattle.flecsq_c.specs.Commands.{entity_number}
use Rattle.flecsq_c.specs.Matches.{TellsMatch}
use Rattle.flecsq_c.specs.Statuses.{ask_status, match_status, ok, stale, unknown}

-- the query of a number, if it has one still: the first number is 1
abbrev pub query_at : List (Option Query) → ℕ → Option Query
query_at queries zero = None
query_at queries (suc n) = get_or queries n None

-- the query of a text, or why it gets no number
abbrev pub ReadsQuery : WorldState → List ℕ → Result Query AskError → Type 0
ReadsQuery w text (Ok q) = (query_of w text ≡ Ok q) × (q.has_this ≡ true)
ReadsQuery w text (Err NotText) = ¬ IsUtf8 text
ReadsQuery w text (Err Faulty) = (fault : Fault) × (query_of w text ≡ Err fault)
ReadsQuery w text (Err NoThis) = (q : Query) × (query_of w text ≡ Ok q) × (q.has_this ≡ false)
ReadsQuery w text (Err Memory) = ⊤

-- it was put behind the others, and its number is how many they are then; or there are no more than before
abbrev pub PutsQuery : WorldState → List ℕ → List (Option Query) → List (Option Query) → Result ℕ AskError → Type 0
PutsQuery w text old new (Ok n) = (q : Query) × ReadsQuery w text (Ok q) × (new ≡ old ++ Some q ∷ []) × (n ≡ length new)
PutsQuery w text old new (Err error) = ReadsQuery w text (Err error) × (new ≡ old)

-- the number was given
abbrev pub GivesNumber : Result ℕ AskError → ℕ → ℕ → Type 0
GivesNumber (Ok n) before after = after ≡ n
GivesNumber (Err error) before after = after ≡ before

-- a query was read and put, or was not and the status says why
pub record AsksQuery (text : List ℕ) (before after : ℕ) (w : WorldState) (old new : List (Option Query)) (status : ℤ) : Type 0 where
  pub answer : Result ℕ AskError
  pub told : status ≡ ask_status answer
  pub put : PutsQuery w text old new answer
  pub number : GivesNumber answer before after

-- the query of a number was dropped, and no other; or there is none
abbrev pub DropsQuery : ℕ → List (Option Query) → List (Option Query) → ℤ → Type 0
DropsQuery n old new status =
    ((q : Query) × (query_at old n ≡ Some q) × (new ≡ set old (n - 1) None) × (status ≡ ok))
    ⊎ ((query_at old n ≡ None) × (new ≡ old) × (status ≡ unknown))

-- the answer was given
abbrev pub GivesMatch : Result Bool MatchError → Bool → Bool → Type 0
GivesMatch (Ok is) before after = after ≡ is
GivesMatch (Err error) before after = after ≡ before

-- a query that is current was asked of an entity
pub record AsksMatch (w : WorldState) (e : EntityId) (before after : Bool) (q : Query) (status : ℤ) : Type 0 where
  pub current : IsCurrentIn w q
  pub answer : Result Bool MatchError
  pub told : status ≡ match_status answer
  pub tells : TellsMatch w q e answer
  pub given : GivesMatch answer before after

-- so is a query that may be there, if it is current
abbrev pub MatchesIn : WorldState → EntityId → Bool → Bool → Option Query → ℤ → Type 0
MatchesIn w e before after None status = (after ≡ before) × (status ≡ unknown)
MatchesIn w e before after (Some q) status =
    AsksMatch w e before after q status ⊎ (¬ IsCurrentIn w q × (after ≡ before) × (status ≡ stale))

-- the query of a number was asked of the entity of a number, if there is such an entity
pub record Matches (n e : ℕ) (before after : Bool) (w : WorldState) (old new : List (Option Query)) (status : ℤ) : Type 0 where
  pub kept : new ≡ old
  pub asked :
      ((x : EntityId) × (entity_number x ≡ e) × MatchesIn w x before after (query_at old n) status)
      ⊎ (¬ (e < 2 ^ 48) × (after ≡ before) × (status ≡ unknown))
