-- A value that is refused stands after a blank and the id.
use Rattle.std.proofs.Common.{◌≡◌, ◌++◌, Some, ap, subst, sym, ◌∙◌}
use Rattle.std.specs.Prelude.{OnErr, codes, not}
use Rattle.std.proofs.lemmas.Result.{on_err_weaker}
use Rattle.ecs_model.specs.Print.{value_text}
use Rattle.ecs_model.specs.stored.Watches.{Event, event_id_text}
use Rattle.ecs_print.specs.Stops.{StopsWithin}
use Rattle.watch_events.proofs.EventLines.{id_of_text}
use Rattle.watch_events.proofs.event.write_event_id.Goals as goal

pub returns-in-Some-clause-front : goal.returns-in-Some-clause-front
returns-in-Some-clause-front g c =
    let it = c.event.inside in
    let e : Event = record { watch = it.watch; kind = it.kind; entity = it.entity; id = it.id; value = it.value; entity_text = it.entity_text; id_text = it.id_text.items } in
    let before = c.args.out.now.items in
    let mid = c.extend_from_slice.new.self.items in
    let new = c.write_numbers.new.out.items in
    let text : mid ≡ before ++ codes " " ++ e.id_text = c.in_ok-extend_from_slice.ensures.items ∙ (λ i. c.in_ok-push.ensures.items i ++ c.as_slice.ensures.value i) in
    let value = ap Some c.as_slice-in-Some.ensures.numbers ∙ sym c.in-Some.is in
    subst (λ (x : Event). OnErr c.write_numbers.result (StopsWithin before new (event_id_text x))) c.event.view_is
    (on_err_weaker c.write_numbers.result (λ so. id_of_text e before mid new (c.is_none.ensures ∙ ap not c.if-is_none.false) text (subst (λ v. StopsWithin mid new (value_text v)) value so)) c.write_numbers.ensures.front)
