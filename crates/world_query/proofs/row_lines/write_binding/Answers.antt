-- The text that stands where it was found is the entity's.
use Rattle.std.proofs.Common.{[], ap, arith, length, subst, ◌∙◌}
use Rattle.std.proofs.lemmas.Result.{on_err_weaker, on_ok_weaker}
use Rattle.ecs_print.specs.Stops.{StopsWithin}
use Rattle.ecs_print.proofs.Stops.{on_err_anyway, stops_before}
use Rattle.world_query.proofs.KeptTexts.{binding_put}
use Rattle.world_query.proofs.row_lines.write_binding.Goals as goal

pub put_pair-requires : goal.put_pair-requires
put_pair-requires g c =
    let found = c.in_ok-found.ensures.place.text c.index-texts-found.result in
    omega (arith, found.room, ap length c.as_slice-2.ensures.value)

pub returns-clause-text : goal.returns-clause-text
returns-clause-text g c =
    on_ok_weaker c.put_pair.result (λ h. h
    ∙ binding_put c.args.world.now.state c.place_of_text.new.texts c.args.entity c.in_ok-found.found c.index-texts-found.result c.args.start.now c.args.sheet.now
    c.as_slice.result.now c.as_slice-2.result.now c.in_ok-found.ensures.place c.as_slice.ensures.value c.as_slice-2.ensures.value) c.put_pair.ensures.text

pub returns-in_err-found-clause-front : goal.returns-in_err-found-clause-front
returns-in_err-found-clause-front g c = on_err_anyway _ (stops_before _ _)

pub returns-clause-front : goal.returns-clause-front
returns-clause-front g c =
    let text =
    binding_put c.args.world.now.state c.place_of_text.new.texts c.args.entity c.in_ok-found.found c.index-texts-found.result c.args.start.now []
    c.as_slice.result.now c.as_slice-2.result.now c.in_ok-found.ensures.place c.as_slice.ensures.value c.as_slice-2.ensures.value in
    on_err_weaker c.put_pair.result (subst (StopsWithin _ _) text) c.put_pair.ensures.front
