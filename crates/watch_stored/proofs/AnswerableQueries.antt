-- A current query can be answered, and the entities that it matches ascend; so does what is held of the rows of a stored query.
use Rattle.std.specs.Prelude.{◌≡◌, Bool, true, false, not, ◌&&◌, [], if◌then◌else◌}
use Rattle.std.specs.List.Sorted.{IsStrictlyIncreasing}
use Rattle.std.specs.List.{list_any}
use Rattle.std.proofs.Common.{arith, refl}
use Rattle.std.proofs.lemmas.List.Kept.{IsStrictlyIncreasing-filter}
use Rattle.ecs_model.specs.Query.{known_of}
use Rattle.ecs_model.specs.World.{WorldState}
use Rattle.ecs_model.specs.declared.watches.StoredKind.{StoredKind}
use Rattle.ecs_model.specs.declared.watches.StoredKind.TheVariants.{Kept, Monitor, OnAdd, OnRemove, OnSet}
use Rattle.ecs_model.specs.rows.Rows.{rows}
use Rattle.ecs_model.specs.rows.View.{view_of}
use Rattle.ecs_model.specs.stored.Watches.{is_this, matching}
use Rattle.ecs_model.specs.steps.WellFormed.{IsWellFormed}
use Rattle.query_model.specs.Local.{is_local}
use Rattle.query_model.specs.Query.{Query}
use Rattle.query_meaning.specs.Sound.{IsSound}
use Rattle.query_meaning.specs.Standing.{IsCurrentIn, WasAsked}
use Rattle.query_meaning.proofs.CheckedQueries.{checked_queries_are_sound}
use Rattle.query_meaning.proofs.LiveNames.{current_queries_name_the_living}
use Rattle.query_meaning.proofs.RisingQueries.{current_queries_go_up_without_cycles, current_queries_order_without_cycles}
use Rattle.query_answers.proofs.Worlds.{worlds_ascend}
use Rattle.world_query.specs.Answerable.{IsAnswerable}
use Rattle.watch_stored.specs.Held.{is_monitor, rows_of}

pub asked_is_sound : (q : Query) → WasAsked q → IsSound q
asked_is_sound q (w, text, e) = checked_queries_are_sound (known_of w) text q e

pub current_answerable : (w : WorldState) (q : Query) → IsWellFormed w → IsCurrentIn w q → IsAnswerable (view_of w) q
current_answerable w q kept h = record {
  sound = asked_is_sound q h.asked;
  names = current_queries_name_the_living w q h;
  rises = current_queries_go_up_without_cycles w q kept h;
  order = current_queries_order_without_cycles w q kept h;
}

pub matching_ascends : (w : WorldState) (q : Query) → IsWellFormed w → IsStrictlyIncreasing (matching (view_of w) q)
unfolding matching
matching_ascends w q kept = IsStrictlyIncreasing-filter (λ e. list_any (is_this e) (rows (view_of w) q)) (view_of w).entities (worlds_ascend w kept)

none_ascend : IsStrictlyIncreasing []
none_ascend = λ k low. absurd (omega (arith, low))

pub ascending : (w : WorldState) → IsWellFormed w → (kind : StoredKind) (q : Query) → kind ≡ Monitor → IsStrictlyIncreasing (rows_of w kind q)
ascending w kept Monitor q e = by (is_local q)
  where
    by : (b : Bool) → IsStrictlyIncreasing (if b then [] else matching (view_of w) q)
    by true = none_ascend
    by false = matching_ascends w q kept
ascending w kept Kept q e = cc
ascending w kept OnAdd q e = cc
ascending w kept OnRemove q e = cc
ascending w kept OnSet q e = cc

pub nobody_held : (w : WorldState) (kind : StoredKind) (q : Query) → (is_monitor kind && not (is_local q)) ≡ false → rows_of w kind q ≡ []
nobody_held w Monitor q e = by (is_local q) e
  where
    by : (b : Bool) → not b ≡ false → (if b then [] else matching (view_of w) q) ≡ []
    by true h = refl
    by false h = cc
nobody_held w Kept q e = refl
nobody_held w OnAdd q e = refl
nobody_held w OnRemove q e = refl
nobody_held w OnSet q e = refl
