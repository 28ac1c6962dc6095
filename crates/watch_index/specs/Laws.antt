-- The law of which stored queries a change leads to, as a statement.
use Rattle.std.specs.Prelude.{◌≡◌, Bool, true, false, not, ◌&&◌, ◌||◌, List}
use Rattle.std.specs.List.{list_any}
use Rattle.ecs_model.specs.declared.watches.StoredKind.{StoredKind}
use Rattle.ecs_model.specs.declared.watches.StoredKind.TheVariants.{Kept, Monitor, OnAdd, OnRemove, OnSet}
use Rattle.ecs_model.specs.stored.Watches.{matches_term}
use Rattle.ecs_model.specs.World.{Key}
use Rattle.watch_concerns.specs.Anchored.{is_anchored}
use Rattle.watch_concerns.specs.Concerns.{concerns}
use Rattle.query_model.specs.Query.{Query}
use Rattle.watch_index.specs.declared.occasion.Occasion.{Occasion}
use Rattle.watch_index.specs.Listed.{is_among}
use Rattle.watch_index.specs.Occasions.{happening, occasions_of}

-- whether changes may concern a stored query: a monitor by added and removed facts that concern its query, and by
-- created and deleted entities unless the query is anchored; an observer by facts that its term matches
abbrev pub may_concern : StoredKind → Query → Bool → List Key → List Key → List Key → Bool
may_concern Kept q lives came went written = false
may_concern Monitor q lives came went written = (lives && not (is_anchored q)) || list_any (λ k. concerns q k.1) came || list_any (λ k. concerns q k.1) went
may_concern OnAdd q lives came went written = list_any (λ k. matches_term q k.1) came
may_concern OnRemove q lives came went written = list_any (λ k. matches_term q k.1) went
may_concern OnSet q lives came went written = list_any (λ k. matches_term q k.1) written

-- whether one of these changes is listened for
abbrev pub meets : List Occasion → List Occasion → Bool
meets wanted happened = list_any (is_among wanted) happened

-- each stored query that the changes may concern listens for one of them
abbrev pub WhomChangesConcernTheyLeadTo : Type 0
WhomChangesConcernTheyLeadTo = (kind : StoredKind) (q : Query) (lives : Bool) (came went written : List Key) → may_concern kind q lives came went written ≡ true
    → meets (occasions_of kind q) (happening lives came went written) ≡ true
