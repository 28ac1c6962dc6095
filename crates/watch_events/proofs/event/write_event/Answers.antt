-- A line that is refused before its first word, or in the midst of its id.
use Rattle.std.proofs.Common.{◌≡◌, ◌++◌, ap, subst, sym, ◌∙◌}
use Rattle.std.specs.Prelude.{codes}
use Rattle.ecs_model.specs.stored.Watches.{Event, event_id_text, event_text, event_word}
use Rattle.ecs_print.specs.Stops.{StopsWithin}
use Rattle.ecs_print.proofs.Stops.{on_err_anyway, stops_same}
use Rattle.watch_events.proofs.EventLines.{line_of_entity}
use Rattle.watch_events.proofs.event.write_event.Goals as goal

pub returns-in_err-extend_from_slice-clause-front : goal.returns-in_err-extend_from_slice-clause-front
returns-in_err-extend_from_slice-clause-front g c = on_err_anyway _ (stops_same _ _ _ c.in_err-extend_from_slice.ensures.items)

pub returns-in_err-write_event_id-clause-front : goal.returns-in_err-write_event_id-clause-front
returns-in_err-write_event_id-clause-front g c =
    let it = c.event.inside in
    let e : Event = record { watch = it.watch; kind = it.kind; entity = it.entity; id = it.id; value = it.value; entity_text = it.entity_text; id_text = it.id_text.items } in
    let before = c.args.out.now.items in
    let mid = c.extend_from_slice-3.new.self.items in
    let new = c.write_event_id.new.out.items in
    let word : c.extend_from_slice.new.self.items ≡ before ++ event_word e.kind = c.in_ok-extend_from_slice.ensures.items ∙ ap (λ t. before ++ t) c.word.ensures in
    let name : c.extend_from_slice-2.new.self.items ≡ before ++ event_word e.kind ++ e.watch = c.in_ok-extend_from_slice-2.ensures.items ∙ (λ i. word i ++ c.as_slice.ensures i) in
    let blank : c.push.new.self.items ≡ before ++ event_word e.kind ++ e.watch ++ codes " " = c.in_ok-push.ensures.items ∙ ap (λ t. t ++ codes " ") name in
    let entity : mid ≡ before ++ event_word e.kind ++ e.watch ++ codes " " ++ e.entity_text = c.in_ok-extend_from_slice-3.ensures.items ∙ (λ i. blank i ++ c.as_slice-2.ensures i) in
    let id = subst (λ (x : Event). StopsWithin mid new (event_id_text x)) (sym c.event.view_is) c.in_err-write_event_id.ensures.front in
    on_err_anyway _ (subst (λ (x : Event). StopsWithin before new (event_text x)) c.event.view_is (line_of_entity e before mid new entity id))
