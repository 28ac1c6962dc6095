-- An id without fields has no value, and a value is that of its bytes.
use Rattle.std.proofs.Common.{◌≡◌, ℕ, Bool, true, false, List, ◌++◌, append-nil, append_assoc, ap, refl, subst, sym, take, ◌∙◌}
use Rattle.std.specs.Prelude.{ℤ, Option, Some, None, is_some, option_map, if◌then◌else◌}
use Rattle.std.specs.Option.{option_copied}
use Rattle.std.proofs.lemmas.Result.{on_err_weaker}
use Rattle.ecs_print.specs.Stops.{StopsWithin}
use Rattle.ecs_print.proofs.Stops.{on_err_anyway, stops_behind, stops_sooner}
use Rattle.ecs_id.specs.Id.{Id}
use Rattle.ecs_model.specs.Bytes.{values_in}
use Rattle.ecs_model.specs.Print.{index_text, value_text}
use Rattle.ecs_model.specs.Schema.{Schema}
use Rattle.ecs_model.specs.World.{WorldState, type_of_id, value_of}
use Rattle.ecs_model.specs.rows.View.{view_of}
use Rattle.ecs_world.specs.State.{value_in}
use Rattle.world_query.specs.Lines.{field_end, label_text}
use Rattle.world_query.proofs.row_lines.write_valued.Goals as goal

abbrev no_value : Option (List ℤ)
no_value = None

-- a fact without a value shows none
unvalued : (w : WorldState) (e : ℕ) (i : Id) → value_of w e i ≡ None → (view_of w).value e i ≡ None
unvalued w e i none = ap (λ v. if is_some (type_of_id w i) then v else None) none ∙ by (is_some (type_of_id w i))
  where
    by : (b : Bool) → (if b then no_value else no_value) ≡ no_value
    by true = refl
    by false = refl

bare : (start end : List ℕ) (v : Option (List ℤ)) → v ≡ None → start ++ end ≡ start ++ value_text v ++ end
bare start end v none = ap (λ t. t ++ end) (sym (append-nil start) ∙ ap (λ v. start ++ value_text v) (sym none))

pub returns-in_default-clause-front : goal.returns-in_default-clause-front
returns-in_default-clause-front g c =
    let w = c.args.world.now.state in
    let e = c.args.fact.source in
    let i = c.args.fact.id in
    let untyped = sym c.requires.label.1 ∙ ap option_copied c.in_default.is in
    let none = ap (λ o. if is_some o then value_of w e i else None) untyped in
    on_err_weaker c.write_bare.result (subst (StopsWithin _ _) (bare (label_text w i ++ index_text w c.args.source.now.index) (field_end c.args.is_last) ((view_of w).value e i) none)) c.write_bare.ensures.front

pub returns-in-None-clause-front : goal.returns-in-None-clause-front
returns-in-None-clause-front g c =
    let w = c.args.world.now.state in
    let e = c.args.fact.source in
    let i = c.args.fact.id in
    let none = unvalued w e i (sym c.bytes.ensures.value ∙ ap (λ o. option_map (value_in (type_of_id w i)) (option_copied o)) c.in-None.is) in
    on_err_weaker c.write_bare-in-None.result (subst (StopsWithin _ _) (bare (label_text w i ++ index_text w c.args.source.now.index) (field_end c.args.is_last) ((view_of w).value e i) none)) c.write_bare-in-None.ensures.front

-- and one with a value shows that of its bytes
shows_value : (w : WorldState) (e : ℕ) (i : Id) (schema : Schema) (bytes : List ℕ) → type_of_id w i ≡ Some schema → option_map (value_in (type_of_id w i)) (Some bytes) ≡ value_of w e i → (view_of w).value e i ≡ Some (values_in schema bytes)
shows_value w e i schema bytes typed read =
    ap (λ o. if is_some o then value_of w e i else None) typed ∙ sym read ∙ ap (λ o. option_map (value_in o) (Some bytes)) typed

pub returns-in_err-put_pair-in-Some-bytes-clause-front : goal.returns-in_err-put_pair-in-Some-bytes-clause-front
returns-in_err-put_pair-in-Some-bytes-clause-front g c =
    let w = c.args.world.now.state in
    let start = label_text w c.args.fact.id ++ index_text w c.args.source.now.index in
    let value = value_text ((view_of w).value c.args.fact.source c.args.fact.id) in
    let label : take c.args.label.now.text.count c.as_slice.result.now ≡ label_text w c.args.fact.id = ap (take c.args.label.now.text.count) c.as_slice.ensures.value ∙ c.requires.label.0 in
    let source : take c.args.source.now.alone c.as_slice-in-Some-bytes.result.now ≡ index_text w c.args.source.now.index = ap (take c.args.source.now.alone) c.as_slice-in-Some-bytes.ensures.value ∙ c.requires.source.alone in
    on_err_anyway _
    (stops_sooner _ _ (start ++ value) (field_end c.args.is_last) (stops_sooner _ _ start value (subst (StopsWithin _ _) (λ i. label i ++ source i) c.in_err-put_pair-in-Some-bytes.ensures.front)))

pub returns-in_ok-put_pair-in-Some-bytes-clause-front : goal.returns-in_ok-put_pair-in-Some-bytes-clause-front
returns-in_ok-put_pair-in-Some-bytes-clause-front g c =
    let w = c.args.world.now.state in
    let e = c.args.fact.source in
    let i = c.args.fact.id in
    let schema = c.in-Some.schema.now in
    let bytes = c.in-Some-bytes.bytes.now in
    let before = c.args.sheet.now in
    let first = take c.args.label.now.text.count c.as_slice.result.now in
    let second = take c.args.source.now.alone c.as_slice-in-Some-bytes.result.now in
    let label : first ≡ label_text w i = ap (take c.args.label.now.text.count) c.as_slice.ensures.value ∙ c.requires.label.0 in
    let source : second ≡ index_text w c.args.source.now.index = ap (take c.args.source.now.alone) c.as_slice-in-Some-bytes.ensures.value ∙ c.requires.source.alone in
    let start = label_text w i ++ index_text w c.args.source.now.index in
    let mid : c.put_pair.new.self ≡ before ++ start = c.in_ok-put_pair-in-Some-bytes.ensures.text ∙ append_assoc before first second ∙ (λ j. before ++ (label j ++ source j)) in
    let read : option_map (value_in (type_of_id w i)) (Some bytes) ≡ value_of w e i = sym (ap (λ o. option_map (value_in (type_of_id w i)) (option_copied o)) c.in-Some-bytes.is) ∙ c.bytes.ensures.value in
    let shown : (view_of w).value e i ≡ Some (values_in schema bytes) = shows_value w e i schema bytes (sym c.requires.label.1 ∙ ap option_copied c.in-Some.is) read in
    let value = value_text (Some (values_in schema bytes)) in
    let end = field_end c.args.is_last in
    let all = sym (append_assoc start value end) ∙ ap (λ v. start ++ value_text v ++ end) (sym shown) in
    on_err_weaker c.write_numbers.result (λ stops. subst (StopsWithin _ _) all (stops_behind before start _ _ (value ++ end) mid stops)) c.write_numbers.ensures.front
