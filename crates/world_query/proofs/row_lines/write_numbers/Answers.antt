-- Behind the value stands what closes its field.
use Rattle.std.proofs.Common.{ap, append_assoc, arith, drop, subst, sym, take, ◌∙◌, ◌≤◌, ◌++◌, ◌-◌, refl}
use Rattle.std.specs.Prelude.{Some}
use Rattle.std.proofs.lemmas.List.{take-take}
use Rattle.std.proofs.lemmas.Result.{on_err_weaker, on_ok_weaker}
use Rattle.ecs_print.specs.Stops.{StopsWithin}
use Rattle.ecs_model.specs.Bytes.{values_in}
use Rattle.ecs_model.specs.Print.{value_text}
use Rattle.world_query.specs.Lines.{field_end}
use Rattle.world_query.proofs.Sheets.{closed_value, closing_room, closing_short}
use Rattle.world_query.proofs.row_lines.write_numbers.Goals as goal

pub returns-clause-text : goal.returns-clause-text
returns-clause-text g c =
    let value = value_text (Some (values_in c.args.schema.now c.args.bytes.now)) in
    let start = c.put_fields-start.result in
    let last = c.args.is_last in
    let before = c.args.sheet.now in
    let behind = c.put_fields-start.ensures.written ∙ ap (λ t. value ++ t) (closing_room _ refl) in
    let closed = closed_value start c.put_fields-start.new.text value last c.put_fields-start.ensures.within c.put_fields-start.auto.text behind in
    let text = drop start c.put_fields-start.new.text in
    let short = closing_short last in
    let within : c.value_end.result - start ≤ 208 - start = omega (arith, short, c.value_end.ensures) in
    on_ok_weaker c.put.result (λ h. h
    ∙ ap (λ t. before ++ t) (take-take (c.value_end.result - start) (208 - start) text within ∙ ap (λ n. take (n - start) text) c.value_end.ensures ∙ closed)
    ∙ sym (append_assoc before value (field_end last))) c.put.ensures.text

pub returns-clause-front : goal.returns-clause-front
returns-clause-front g c =
    let value = value_text (Some (values_in c.args.schema.now c.args.bytes.now)) in
    let start = c.put_fields-start.result in
    let last = c.args.is_last in
    let behind = c.put_fields-start.ensures.written ∙ ap (λ t. value ++ t) (closing_room _ refl) in
    let closed = closed_value start c.put_fields-start.new.text value last c.put_fields-start.ensures.within c.put_fields-start.auto.text behind in
    let text = drop start c.put_fields-start.new.text in
    let short = closing_short last in
    let within : c.value_end.result - start ≤ 208 - start = omega (arith, short, c.value_end.ensures) in
    let all = take-take (c.value_end.result - start) (208 - start) text within ∙ ap (λ n. take (n - start) text) c.value_end.ensures ∙ closed in
    on_err_weaker c.put.result (subst (StopsWithin _ _) all) c.put.ensures.front
