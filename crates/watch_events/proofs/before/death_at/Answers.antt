use Rattle.std.specs.List.{find}
use Rattle.std.proofs.Common.{◌==◌, Some, ap, sym, ◌∙◌, rules}
use Rattle.std.proofs.lemmas.List.Sorted.{answers_always}
use Rattle.watch_concerns.specs.Since.{Dead}
use Rattle.watch_events.proofs.BinarySearches.{found_place, found_nowhere}
use Rattle.watch_events.proofs.before.death_at.Goals as goal

pub returns-in-Ok : goal.returns-in-Ok
returns-in-Ok g c =
    let died = c.died-died.result.now in
    let place = c.in-Ok.ensures.position (λ (d : Dead). (d.0).index) (answers_always _ _ _ (λ f a r g called. search rules)) in
    ap Some c.index-died-place.is
    ∙ sym (found_place (λ (d : Dead). (d.0).index) died c.args.index c.in-Ok.place c.index-died-place.result (rw c.died-died.ensures c.requires) c.in-Ok.ensures.bound place)
    ∙ ap (find (λ (d : Dead). (d.0).index == c.args.index)) c.died-died.ensures

pub returns-in-Err : goal.returns-in-Err
returns-in-Err g c =
    let died = c.died-died.result.now in
    let place = c.in-Err.ensures.position (λ (d : Dead). (d.0).index) (answers_always _ _ _ (λ f a r g called. search rules)) in
    sym (found_nowhere (λ (d : Dead). (d.0).index) died c.args.index c.in-Err.field-0 (rw c.died-died.ensures c.requires) c.in-Err.ensures.bound place)
    ∙ ap (find (λ (d : Dead). (d.0).index == c.args.index)) c.died-died.ensures
