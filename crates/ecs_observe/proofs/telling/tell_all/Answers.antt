-- Those at the places are told one after another, and between them all are silent.
use Rattle.std.specs.Prelude.{flat_map, is_some}
use Rattle.std.specs.String.{string_bytes}
use Rattle.std.proofs.Common.{◌+◌, ◌<◌, ◌≤◌, ◌≡◌, ◌∙◌, ◌++◌, ap, arith, get_or, length, map, refl, subst, sym, true≢false}
use Rattle.std.proofs.lemmas.List.{length-map, take_all}
use Rattle.watch_stored.specs.Parts.{held_as}
use Rattle.ecs_observe.specs.Parts.{held_of}
use Rattle.watch_stored.specs.Held.{IsHeld, WasNow, is_searched, is_taken_whole, rows_put, told_to}
use Rattle.watch_stored.proofs.StayingRows.{unput_isnt_taken}
use Rattle.ecs_observe.specs.Stored.{entries_of}
use Rattle.ecs_observe.proofs.ComparedCounts.{AreDoneUpTo, all_counted, all_taken, none_done, one_more}
use Rattle.ecs_observe.proofs.LocalMonitors.{none_at, one_told_locally}
use Rattle.ecs_observe.proofs.EventEffects.{ArePlacedUpTo, all_at, all_placed, held_at, none_yet}
use Rattle.ecs_observe.proofs.PlacedMoves.{put_there}
use Rattle.ecs_observe.proofs.PassedPlaces.{begin, put_here, told_all, told_none}
use Rattle.ecs_observe.proofs.UnconcernedQueries.{others_silent}
use Rattle.ecs_observe.proofs.telling.tell_all.Goals as goal
use Rattle.ecs_observe.proofs.telling.tell_all.Goals.{in-Some+in_ok-tell_one, in_default}

pub loop-place-init : goal.loop-place-init
loop-place-init g c =
    let w = c.args.effect.now.world.now.state in
    let changed = c.args.effect.now.changes.now in
    let g_told = told_to w changed in
    let g_put = rows_put w changed in
    let es = entries_of c.args.stored.now in
    let hs = map held_of es in
    let start = c.args.report.now.events.items in
    let placed = c.args.report.now.rows.items in
    let counted = c.args.report.now.searches.compared in
    let R = AreDoneUpTo g_put (is_searched changed) (is_taken_whole changed) es counted in
    record {
      told = begin g_told g_put hs start R c.args.places.now start (placed, counted) (told_none g_told g_put hs start R start (placed, counted) refl (none_yet g_put es placed c.requires.listening.none, record { few = omega arith; least = omega arith }));
      spared = λ none. refl;
      grows = omega arith;
    }

pub tell_one-requires-clause-listening : goal.tell_one-requires-clause-listening
tell_one-requires-clause-listening g c =
    let w = c.args.effect.now.world.now.state in
    let changed = c.args.effect.now.changes.now in
    let es = entries_of c.args.stored.now in
    let listening = c.requires.listening in
    record {
      after = listening.after;
      held = all_at (IsHeld w) es _ c.in-Some.name.now c.in-Some.query.now c.in-Some.ensures.entry listening.held;
      was = all_at (WasNow w changed) es _ c.in-Some.name.now c.in-Some.query.now c.in-Some.ensures.entry listening.was;
    }

pub tell_one-requires-clause-touched : goal.tell_one-requires-clause-touched
tell_one-requires-clause-touched g c = λ e.
    c.requires.touched (one_told_locally (entries_of c.args.stored.now) c.args.places.now c.loop-place.place-index 0 c.in-Some.name.now c.in-Some.query.now (omega arith) c.in-Some.ensures.entry e)

pub loop-place-preserved : goal.loop-place-preserved
loop-place-preserved g c =
    let w = c.args.effect.now.world.now.state in
    let changed = c.args.effect.now.changes.now in
    let es = entries_of c.args.stored.now in
    let hs = map held_of es in
    let start = c.args.report.now.events.items in
    let places = c.args.places.now in
    let j = c.loop-place.place-index in
    let p = get_or places j 0 in
    let inside : j < length places = omega arith in
    let low : p < length es = c.requires.led.within j 0 inside in
    let held_low : p < length hs = omega (arith, low, length-map es held_of) in
    let silent = others_silent w changed es places c.keeps.ensures c.requires.listening.after c.requires.listening.was c.requires.led.led in
    let told = told_to w changed in
    let put = rows_put w changed in
    let searched = is_searched changed in
    let taken = is_taken_whole changed in
    let counted = c.args.report.now.searches.compared in
    let here = put_here told put hs start (AreDoneUpTo put searched taken es counted) (none_done put searched taken es counted (unput_isnt_taken w changed)) places c.requires.led.ascend silent j p 0 refl inside in
    let report = c.loop-place.report in
    let report' = c.match-get_index.report in
    let before = report.searches.compared in
    let after = report'.searches.compared in
    elim c.match-get_index.branch [
      | in-Some+in_ok-tell_one b ↦
          let q = b.in-Some.query.now in
          let one = held_as (string_bytes b.in-Some.name.now) q in
          let there = held_at es p b.in-Some.name.now q b.in-Some.ensures.entry in
          let said = b.in_ok-tell_one.ensures in
          let count_is : after ≡ b.tell_one.new.report.searches.compared = ap (λ v. v.searches.compared) b.report-is in
          let few : after ≤ before + 1 = omega (arith, count_is, said.counted.few) in
          let grows : before ≤ after = omega (arith, count_is, said.counted.grows) in
          record {
            told = here one there held_low report.events.items (report.rows.items, before) c.loop-place.invariant.told report'.events.items (report'.rows.items, after)
                (ap (λ v. v.events.items) b.report-is ∙ said.told.told)
                (λ so. (
                  subst (ArePlacedUpTo put es (p + 1)) (sym (ap (λ v. v.rows.items) b.report-is))
                      (put_there put es p report.rows.items b.tell_one.new.report.rows.items b.in-Some.name.now q so.0 there b.in-Some.ensures.entry said.rows),
                  one_more searched taken hs counted p before after one there grows few (λ spared. count_is ∙ said.counted.spared spared) (λ whole. count_is ∙ said.taken whole) so.1,
                ));
            spared = λ none. count_is
                ∙ (said.counted.spared (none_at es p b.in-Some.name.now q b.in-Some.ensures.entry (is_searched changed) none) ∙ c.loop-place.invariant.spared none);
            grows = omega (arith, count_is, said.counted.grows, c.loop-place.invariant.grows);
          }
      | in_default b ↦ absurd (true≢false (sym (c.get_index.ensures.found.1 low) ∙ ap is_some b.in_default.is))
    ]

pub returns : goal.returns
returns g c =
    let w = c.args.effect.now.world.now.state in
    let changed = c.args.effect.now.changes.now in
    let es = entries_of c.args.stored.now in
    let hs = map held_of es in
    let start = c.args.report.now.events.items in
    let silent = others_silent w changed es c.args.places.now c.keeps.ensures c.requires.listening.after c.requires.listening.was c.requires.led.led in
    let put = rows_put w changed in
    let searched = is_searched changed in
    let taken = is_taken_whole changed in
    let counted = c.args.report.now.searches.compared in
    let report = c.loop-place.report in
    let compared = report.searches.compared in
    let all = told_all (told_to w changed) put hs start (AreDoneUpTo put searched taken es counted) (none_done put searched taken es counted (unput_isnt_taken w changed)) c.args.places.now c.requires.led.ascend silent c.loop-place.place-index report.events.items
    (report.rows.items, compared) (omega arith) c.loop-place.invariant.told in
    record {
      rows = all_placed put es (length hs) report.rows.items (omega arith) all.rows.0;
      told = all.told ∙ ap (λ hs. start ++ flat_map (told_to w changed) hs) (take_all (length hs) hs (omega arith));
      spared = c.loop-place.invariant.spared;
      grows = c.loop-place.invariant.grows;
      few = all_counted searched taken hs counted (length hs) compared (omega arith) all.rows.1;
      taken = all_taken searched taken hs counted (length hs) compared (omega arith) all.rows.1;
    }
