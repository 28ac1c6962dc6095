-- Behind the bindings stand the fields.
use Rattle.std.proofs.Common.{◌≡◌, List, ℕ, ◌++◌, ap, append_assoc, length, map, subst, ◌∙◌}
use Rattle.std.specs.Prelude.{codes, flat_map}
use Rattle.std.specs.List.{zip}
use Rattle.std.proofs.lemmas.Result.{on_err_weaker, on_ok_weaker}
use Rattle.ecs_print.specs.Stops.{StopsWithin}
use Rattle.ecs_print.proofs.Stops.{on_err_anyway, stops_behind, stops_sooner}
use Rattle.ecs_model.specs.Print.{field_text}
use Rattle.ecs_model.specs.rows.View.{view_of}
use Rattle.plan_fields.specs.Fields.{shown_field}
use Rattle.world_query.specs.Lines.{row_alone, started, starts_in}
use Rattle.world_query.proofs.KeptTexts.{texts_lent}
use Rattle.world_query.proofs.row_lines.write_row.Goals as goal

pub write_all_fields-requires : goal.write_all_fields-requires
write_all_fields-requires g c = record {
  texts = texts_lent c.args.world.now.state (length c.args.starts.now) (length c.args.fields.now.items) c.args.texts.now c.write_bindings.new.texts c.requires.texts (c.write_bindings.auto.texts ∙ c.as_mut_slice.ensures.len) c.in_ok-write_bindings.ensures.texts;
}

line_whole : (old start bindings fields end begun bound new : List ℕ) → begun ≡ old ++ start → bound ≡ begun ++ bindings → new ≡ bound ++ fields ++ end → new ≡ old ++ (start ++ bindings ++ fields ++ end)
line_whole old start bindings fields end begun bound new first second third =
    let regrouped : (((old ++ start) ++ bindings) ++ fields) ++ end ≡ old ++ (start ++ bindings ++ fields ++ end) = simp append_assoc in
    third ∙ ap (λ t. t ++ fields ++ end) (second ∙ ap (λ t. t ++ bindings) first) ∙ regrouped

pub returns-clause-row : goal.returns-clause-row
returns-clause-row g c =
    let w = c.args.world.now.state in
    let heads = starts_in c.args.starts.now in
    on_ok_weaker c.write_all_fields.result
    (line_whole c.args.sheet.now (row_alone heads) (flat_map (started w) (zip heads c.args.entities.now)) (flat_map (field_text w) (map (shown_field (view_of w)) c.args.fields.now.current)) (codes "\n")
    c.begin_row.new.sheet c.write_bindings.new.sheet c.write_all_fields.new.sheet c.in_ok-begin_row.ensures.text c.in_ok-write_bindings.ensures.text)
    c.write_all_fields.ensures.text

pub returns-in_err-begin_row-clause-front : goal.returns-in_err-begin_row-clause-front
returns-in_err-begin_row-clause-front g c = on_err_anyway _ (stops_sooner _ _ _ _ (stops_sooner _ _ _ _ (stops_sooner _ _ _ _ c.in_err-begin_row.ensures.front)))

pub returns-in_err-write_bindings-clause-front : goal.returns-in_err-write_bindings-clause-front
returns-in_err-write_bindings-clause-front g c =
    on_err_anyway _ (stops_sooner _ _ _ _ (stops_sooner _ _ _ _ (stops_behind _ _ _ _ _ c.in_ok-begin_row.ensures.text c.in_err-write_bindings.ensures.front)))

row_whole : (start bindings fields end : List ℕ) → start ++ (bindings ++ (fields ++ end)) ≡ start ++ bindings ++ fields ++ end
row_whole start bindings fields end = simp append_assoc

pub returns-clause-front : goal.returns-clause-front
returns-clause-front g c =
    let w = c.args.world.now.state in
    let heads = starts_in c.args.starts.now in
    let all = row_whole (row_alone heads) (flat_map (started w) (zip heads c.args.entities.now)) (flat_map (field_text w) (map (shown_field (view_of w)) c.args.fields.now.current)) (codes "\n") in
    on_err_weaker c.write_all_fields.result
    (λ stops. subst (StopsWithin _ _) all (stops_behind _ _ _ _ _ c.in_ok-begin_row.ensures.text (stops_behind _ _ _ _ _ c.in_ok-write_bindings.ensures.text stops))) c.write_all_fields.ensures.front
