use Rattle.ecs_observe.specs.Stored.{entries_of}
use Rattle.ecs_observe.proofs.UntoldCommands.{nobody_put, nobody_taken, nobody_told}
use Rattle.std.proofs.Common.{◌∙◌, ◌≤◌, ap, arith, length, refl, sym}
use Rattle.std.proofs.lemmas.Bool.Decides.{Decides-eqb}
use Rattle.ecs_observe.proofs.telling.tell_led.Goals as goal

pub returns-then-is_empty : goal.returns-then-is_empty
returns-then-is_empty g c =
    let w = c.args.effect.now.world.now.state in
    let changed = c.args.effect.now.changes.now in
    let es = entries_of c.args.stored.now in
    let places = c.led.new.places.items in
    let listening = c.requires.listening in
    let led = c.in_ok-led.ensures in
    let nobody : length places ≤ 0 = omega (arith, ap length c.as_slice-places.ensures, (Decides-eqb (length c.as_slice-places.result.now) 0).0 (sym c.is_empty.ensures ∙ c.if-is_empty.true)) in
    let events = c.args.report.now.events.items in
    let rows = c.args.report.now.rows.items in
    record {
      rows = nobody_put w changed es places c.keeps.ensures listening.after listening.was led.ascend led.led nobody events rows listening.none;
      told = nobody_told w changed es places c.keeps.ensures listening.after listening.was led.ascend led.led nobody events rows listening.none;
      spared = λ none. refl;
      grows = omega arith;
      few = omega arith;
      taken = nobody_taken w changed es places c.keeps.ensures listening.after listening.was led.ascend led.led nobody events rows listening.none c.args.report.now.searches.compared;
    }
