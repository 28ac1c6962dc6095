use Rattle.std.proofs.Common.{All, map, ap, append-nil, arith, refl, subst, sym, ◌∙◌}
use Rattle.std.specs.Prelude.{◌≡◌, ◌++◌, [], IfSome, flat_map}
use Rattle.ecs_observe.specs.Parts.{held_of}
use Rattle.ecs_model.specs.stored.Session.{events}
use Rattle.ecs_model.specs.stored.Watches.{event_text}
use Rattle.ecs_observe.specs.Standing.{Standing, session_of}
use Rattle.ecs_print.specs.Stops.{StopsWithin}
use Rattle.ecs_print.proofs.Stops.{on_err_anyway, stops_before}
use Rattle.watch_concerns.specs.Since.{IsAfter}
use Rattle.watch_stored.specs.Held.{WasNow}
use Rattle.ecs_observe.proofs.EventEffects.{none_taken_for, none_waits_after, none_waits_told, put_told, retold_after, retold_lists, retold_session, searched_for, taken_for, told_waits}
use Rattle.ecs_observe.specs.Stored.{entries_of}
use Rattle.ecs_observe.proofs.session.Session.write_events.Goals as goal

pub returns-in_default-clause-after : goal.returns-in_default-clause-after
returns-in_default-clause-after g c = none_waits_after _ c.args.self.now c.self.view_is c.in_default.is

pub tell_led-requires-clause-listening : goal.tell_led-requires-clause-listening
tell_led-requires-clause-listening g c = record {
  after = subst (λ o. IfSome o (IsAfter c.self.inside.world.state)) c.in-Some.is c.self.invariant.0.after;
  held = c.self.invariant.0.held;
  was = subst (λ o. IfSome o (λ done. All (WasNow c.self.inside.world.state done) (map held_of (entries_of c.self.inside.stored)))) c.in-Some.is c.self.invariant.0.before;
  none = c.begin.ensures.rows;
}

pub invariant_of-self-2 : goal.invariant_of-self-2
invariant_of-self-2 g c = (
  retold_session _ c.args.self.now c.self.view_is _
      (put_told _ c.self.invariant.0 c.keeps.ensures c.in-Some.changed c.in-Some.is _ (ap (map held_of) c.put_rows.ensures.held ∙ c.in_ok-tell_led.ensures.rows))
      c.tell_led.new.report.searches.compared c.self.invariant.0 c.keeps.ensures,
  c.put_rows.ensures.lists c.self.inside.world.tables c.self.invariant.1,
  c.put_rows.ensures.stored,
)

pub returns-clause-after : goal.returns-clause-after
returns-clause-after g c =
    retold_after _ c.args.self.now c.self.view_is _
    (put_told _ c.self.invariant.0 c.keeps.ensures c.in-Some.changed c.in-Some.is _ (ap (map held_of) c.put_rows.ensures.held ∙ c.in_ok-tell_led.ensures.rows))
    c.tell_led.new.report.searches.compared

pub returns-clause-grows : goal.returns-clause-grows
returns-clause-grows g c =
    let before = c.begin.ensures.compared ∙ ap (λ (s : Standing). s.compared) c.self.view_is in
    omega (arith, before, c.in_ok-tell_led.ensures.grows)

pub returns-clause-few : goal.returns-clause-few
returns-clause-few g c =
    let before = c.begin.ensures.compared ∙ ap (λ (s : Standing). s.compared) c.self.view_is in
    let searched = searched_for _ c.args.self.now c.self.view_is c.in-Some.changed c.in-Some.is in
    omega (arith, before, searched, c.in_ok-tell_led.ensures.few)

pub returns-in_default-clause-counted : goal.returns-in_default-clause-counted
returns-in_default-clause-counted g c = omega (arith, none_taken_for _ c.args.self.now c.self.view_is c.in_default.is)

pub returns-clause-counted : goal.returns-clause-counted
returns-clause-counted g c =
    let before = c.begin.ensures.compared ∙ ap (λ (s : Standing). s.compared) c.self.view_is in
    let taken = taken_for _ c.args.self.now c.self.view_is c.in-Some.changed c.in-Some.is in
    omega (arith, before, taken, c.in_ok-tell_led.ensures.taken)

pub returns-clause-lists : goal.returns-clause-lists
returns-clause-lists g c =
    retold_lists _ c.args.self.now c.self.view_is _
    (put_told _ c.self.invariant.0 c.keeps.ensures c.in-Some.changed c.in-Some.is _ (ap (map held_of) c.put_rows.ensures.held ∙ c.in_ok-tell_led.ensures.rows))
    c.tell_led.new.report.searches.compared

pub returns-in_default-clause-written : goal.returns-in_default-clause-written
returns-in_default-clause-written g c =
    let none : [] ≡ events (session_of c.args.self.now) = none_waits_told _ c.args.self.now c.self.view_is [] c.in_default.is refl in
    sym (ap (λ es. c.args.output.now.items ++ flat_map event_text es) (sym none) ∙ append-nil c.args.output.now.items)

pub returns-clause-written : goal.returns-clause-written
returns-clause-written g c =
    let told = told_waits _ c.args.self.now c.self.view_is c.in-Some.changed c.begin.new.self.events.items c.tell_led.new.report.events.items c.in-Some.is c.begin.ensures.events c.in_ok-tell_led.ensures.told in
    c.in_ok-write_all.ensures.written ∙ ap (λ es. c.args.output.now.items ++ flat_map event_text es) (c.as_slice.ensures.value ∙ told)

-- where it stops in the midst
pub returns-in_err-tell_led-clause-front : goal.returns-in_err-tell_led-clause-front
returns-in_err-tell_led-clause-front g c = on_err_anyway _ (stops_before _ _)

pub returns-in_err-write_all-clause-front : goal.returns-in_err-write_all-clause-front
returns-in_err-write_all-clause-front g c =
    let told = told_waits _ c.args.self.now c.self.view_is c.in-Some.changed c.begin.new.self.events.items c.tell_led.new.report.events.items c.in-Some.is c.begin.ensures.events c.in_ok-tell_led.ensures.told in
    on_err_anyway _ (subst (λ es. StopsWithin c.args.output.now.items c.write_all.new.output.items (flat_map event_text es)) (c.as_slice.ensures.value ∙ told) c.in_err-write_all.ensures.front)
