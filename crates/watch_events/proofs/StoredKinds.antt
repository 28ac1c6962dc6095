-- What a stored query is notified of, by its kind.
use Rattle.std.specs.Prelude.{OnOk, Result, Ok, Err}
use Rattle.std.specs.List.{filter}
use Rattle.std.proofs.Common.{◌≡◌, ℕ, List, ◌++◌, map, sym, ap, ◌∙◌, append-nil}
use Rattle.query_model.specs.Query.{Query}
use Rattle.ecs_model.specs.declared.watches.EventKind.TheVariants.{Added, Written}
use Rattle.ecs_model.specs.declared.watches.StoredKind.{StoredKind}
use Rattle.ecs_model.specs.declared.watches.StoredKind.TheVariants.{Kept, OnAdd, OnRemove, OnSet}
use Rattle.ecs_model.specs.steps.Outcomes.{Changed}
use Rattle.ecs_model.specs.World.{WorldState}
use Rattle.ecs_model.specs.rows.View.{view_of}
use Rattle.ecs_model.specs.stored.Watches.{Event, fact_event, observes}
use Rattle.watch_concerns.specs.Since.{observed_before, removed_event, told_since}
use Rattle.watch_events.specs.Terms.{told_value}

-- the events, in another form
pub told_same : {E Y : Type 0} (r : Result (Unit {0}) E) (start new told wanted : List Y) → OnOk r (new ≡ start ++ told) → told ≡ wanted → OnOk r (new ≡ start ++ wanted)
told_same (Ok x) start new told wanted h same = h ∙ ap (λ t. start ++ t) same
told_same (Err e) start new told wanted h same = tt

module _ (w : WorldState) (c : Changed) (name : List ℕ) (q : Query) (old : List ℕ) where
  pub kept_told : (kind : StoredKind) (start : List Event) → kind ≡ Kept → start ≡ start ++ told_since w c name kind q old
  unfolding told_since
  kept_told kind start e = sym (append-nil start) ∙ ap (λ k. start ++ told_since w c name k q old) (sym e)

  pub added_told : (kind : StoredKind) → kind ≡ OnAdd → map (fact_event name Added w (told_value w Added)) (filter (observes (view_of w) q) c.came) ≡ told_since w c name kind q old
  unfolding told_since
  added_told kind e = ap (λ k. told_since w c name k q old) (sym e)

  pub removed_told : (kind : StoredKind) → kind ≡ OnRemove → map (removed_event w c name) (filter (observed_before w c q) c.went) ≡ told_since w c name kind q old
  unfolding told_since
  removed_told kind e = ap (λ k. told_since w c name k q old) (sym e)

  pub set_told : (kind : StoredKind) → kind ≡ OnSet → map (fact_event name Written w (told_value w Written)) (filter (observes (view_of w) q) c.written) ≡ told_since w c name kind q old
  unfolding told_since
  set_told kind e = ap (λ k. told_since w c name k q old) (sym e)
