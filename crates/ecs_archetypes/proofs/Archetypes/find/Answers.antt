-- The entity's row is found, and its table has the ids.
use Rattle.std.proofs.Common.{length, ◌∙◌, ap, is_some, option_map, sym}
use Rattle.std.specs.List.{list_any}
use Rattle.ecs_id.specs.Id.{id_eq}
use Rattle.entity_index.specs.Entities.{place_of}
use Rattle.ecs_archetypes.specs.Housing.{holdings_of}
use Rattle.ecs_archetypes.proofs.ArchetypeCalls.{found_settled, missing_unsettled}
use Rattle.ecs_archetypes.proofs.RowReads.{count_read, held_read, no_table}
use Rattle.ecs_archetypes.proofs.Archetypes.find.Goals as goal

pub returns-in_err-place-clause-settled : goal.returns-in_err-place-clause-settled
returns-in_err-place-clause-settled g c = ap is_some c.from_residual.ensures ∙ sym (missing_unsettled c.self.inside.entities c.self.inside.tables c.self.invariant (holdings_of c.args.self.now) (ap holdings_of c.self.view_is) c.args.entity (sym c.place.ensures ∙ c.in_err-place.was))

pub returns-in_err-place-clause-place : goal.returns-in_err-place-clause-place
returns-in_err-place-clause-place g c = ap (option_map (λ f. f.place)) c.from_residual.ensures ∙ sym (sym c.place.ensures ∙ c.in_err-place.was) ∙ ap (λ z. place_of z.entities c.args.entity) c.self.view_is

pub returns-clause-settled : goal.returns-clause-settled
returns-clause-settled g c = sym (found_settled c.self.inside.entities c.self.inside.tables c.self.invariant (holdings_of c.args.self.now) (ap holdings_of c.self.view_is) c.args.entity c.in_ok-place.place (sym c.place.ensures ∙ c.in_ok-place.was))

pub returns-clause-place : goal.returns-clause-place
returns-clause-place g c = sym (sym c.place.ensures ∙ c.in_ok-place.was) ∙ ap (λ z. place_of z.entities c.args.entity) c.self.view_is

pub returns-in_err-get-clause-settled : goal.returns-in_err-get-clause-settled
returns-in_err-get-clause-settled g c = absurd (no_table c.self.inside.entities c.self.inside.tables c.self.invariant (holdings_of c.args.self.now) (ap holdings_of c.self.view_is) c.args.entity c.in_ok-place.place (sym c.place.ensures ∙ c.in_ok-place.was) c.in_err-get.ensures.table)

pub returns-in_err-get-clause-place : goal.returns-in_err-get-clause-place
returns-in_err-get-clause-place g c = absurd (no_table c.self.inside.entities c.self.inside.tables c.self.invariant (holdings_of c.args.self.now) (ap holdings_of c.self.view_is) c.args.entity c.in_ok-place.place (sym c.place.ensures ∙ c.in_ok-place.was) c.in_err-get.ensures.table)

pub returns-clause-held : goal.returns-clause-held
returns-clause-held g c = held_read c.self.inside.entities c.self.inside.tables c.self.invariant (holdings_of c.args.self.now) (ap holdings_of c.self.view_is) c.args.entity c.in_ok-place.place (sym c.place.ensures ∙ c.in_ok-place.was) c.in_ok-get.field-0.now c.in_ok-get.ensures.table
    c.args.id c.contains.result (c.contains.ensures.value ∙ ap (list_any (λ k. id_eq k c.args.id)) c.ids-ids.ensures.value)

pub returns-clause-count : goal.returns-clause-count
returns-clause-count g c = ap (λ z. length z) c.ids-ids.ensures.value
    ∙ count_read c.self.inside.entities c.self.inside.tables c.self.invariant (holdings_of c.args.self.now) (ap holdings_of c.self.view_is) c.args.entity c.in_ok-place.place (sym c.place.ensures ∙ c.in_ok-place.was) c.in_ok-get.field-0.now c.in_ok-get.ensures.table
