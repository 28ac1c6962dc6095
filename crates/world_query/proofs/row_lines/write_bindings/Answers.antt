-- A binding more at each turn.
use Rattle.std.proofs.Common.{◌≡◌, ℕ, ◌<◌, ◌≤◌, List, ◌++◌, ap, arith, get_or, length, min, refl, take, ◌∙◌}
use Rattle.std.specs.Prelude.{flat_map, option_map}
use Rattle.std.specs.List.{zip}
use Rattle.std.proofs.lemmas.List.{length-map, take_all}
use Rattle.std.proofs.lemmas.Option.{slice_get-get_or, slice_get-map, slice_get_read}
use Rattle.std.proofs.lemmas.Slice.Zip.{length-zip}
use Rattle.ecs_print.proofs.Stops.{on_err_anyway}
use Rattle.ecs_model.specs.World.{WorldState}
use Rattle.world_query.specs.declared.labels.PaddedText.{PaddedText}
use Rattle.world_query.specs.Lines.{started, starts_in, text_of}
use Rattle.ecs_print.proofs.Pieces.{one_more, stops_in_item}
use Rattle.world_query.proofs.PrintedLists.{both_at}
use Rattle.world_query.proofs.row_lines.write_bindings.Goals as goal

pub loop-place-preserved : goal.loop-place-preserved
loop-place-preserved g c =
    let starts = c.args.starts.now in
    let entities = c.args.entities.now in
    let place = c.loop-place.place in
    let start = c.index-starts-place.result in
    let many = length-zip (starts_in starts) entities in
    let as_many = length-map starts text_of in
    let within : place < length starts = omega arith in
    let too : place < length entities = omega arith in
    let here = slice_get-map text_of starts place ∙ ap (option_map text_of) (slice_get_read starts (length starts) place start refl within c.index-starts-place.is) in
    let there = slice_get-get_or entities place 0 too in
    record {
      texts = c.in_ok-write_binding.ensures.texts;
      text = one_more (started c.args.world.now.state) (zip (starts_in starts) entities) place (text_of start, get_or entities place 0)
          c.args.sheet.now c.loop-place.sheet c.write_binding.new.sheet
          (omega arith) (both_at (starts_in starts) entities place (text_of start) (get_or entities place 0) here there) c.loop-place.invariant.text c.in_ok-write_binding.ensures.text;
    }

all_bindings : {A : Type 0} (w : WorldState) (starts : List (PaddedText A)) (entities : List ℕ) (n : ℕ) (before now : List ℕ) → min (length starts) (length entities) ≤ n
    → now ≡ before ++ flat_map (started w) (take n (zip (starts_in starts) entities)) → now ≡ before ++ flat_map (started w) (zip (starts_in starts) entities)
all_bindings w starts entities n before now all written =
    written ∙ ap (λ bs. before ++ flat_map (started w) bs) (take_all n (zip (starts_in starts) entities) (omega (arith, length-zip (starts_in starts) entities, length-map starts text_of)))

pub returns-clause-text : goal.returns-clause-text
returns-clause-text g c =
    all_bindings c.args.world.now.state c.args.starts.now c.args.entities.now c.loop-place.place c.args.sheet.now c.loop-place.sheet (omega arith) c.loop-place.invariant.text

-- in the midst of one
pub returns-in_err-write_binding-clause-front : goal.returns-in_err-write_binding-clause-front
returns-in_err-write_binding-clause-front g c =
    let starts = c.args.starts.now in
    let entities = c.args.entities.now in
    let place = c.loop-place.place in
    let start = c.index-starts-place.result in
    let many = length-zip (starts_in starts) entities in
    let as_many = length-map starts text_of in
    let within : place < length starts = omega arith in
    let too : place < length entities = omega arith in
    let here = slice_get-map text_of starts place ∙ ap (option_map text_of) (slice_get_read starts (length starts) place start refl within c.index-starts-place.is) in
    let there = slice_get-get_or entities place 0 too in
    on_err_anyway _
    (stops_in_item (started c.args.world.now.state) (zip (starts_in starts) entities) place (text_of start, get_or entities place 0) _ _ _
    (omega arith) (both_at (starts_in starts) entities place (text_of start) (get_or entities place 0) here there) c.loop-place.invariant.text c.in_err-write_binding.ensures.front)
