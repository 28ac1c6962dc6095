use Rattle.std.specs.Prelude.{length}
use Rattle.std.specs.Option.{option_map_or}
use Rattle.std.proofs.Common.{ap, false, inl, inr, sym, true≢false, ◌∙◌}
use Rattle.std.proofs.lemmas.Bool.{cases_lt}
use Rattle.std.proofs.lemmas.Option.{slice_get_past}
use Rattle.ecs_observe.specs.Parts.{held_of}
use Rattle.watch_stored.specs.Held.{is_told_locally}
use Rattle.ecs_observe.specs.Stored.{entries_of}
use Rattle.ecs_observe.proofs.queries.StoredQueries.is_told_locally_at.Goals as goal

pub returns-in-Some : goal.returns-in-Some
returns-in-Some g c = c.is_told_locally.ensures ∙ ap (λ o. option_map_or (λ e. is_told_locally (held_of e)) o false) (sym c.in-Some.ensures.entry)

pub returns-in-None : goal.returns-in-None
returns-in-None g c =
    let es = entries_of c.args.self.now in
    elim (cases_lt c.args.place (length es)) [
      | inl low ↦ absurd (true≢false (sym (c.in-None.ensures.found.1 low)))
      | inr past ↦ sym (ap (λ o. option_map_or (λ e. is_told_locally (held_of e)) o false) (slice_get_past es c.args.place past))
    ]
