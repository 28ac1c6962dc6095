-- The text that stands where it was found is the source's.
use Rattle.std.proofs.Common.{◌≡◌, ℕ, Bool, true, false, List, [], ◌++◌, append-nil, append_assoc, ap, refl, subst, sym, ◌∙◌}
use Rattle.std.specs.Prelude.{Option, Some, None, codes, if◌then◌else◌}
use Rattle.std.proofs.lemmas.Result.{on_err_weaker, on_ok_weaker}
use Rattle.ecs_print.specs.Stops.{StopsWithin}
use Rattle.ecs_print.proofs.Stops.{on_err_anyway, stops_before}
use Rattle.ecs_model.specs.World.{WorldState}
use Rattle.ecs_model.specs.Print.{field_text, index_text, value_text}
use Rattle.ecs_model.specs.rows.Rows.{Shown}
use Rattle.ecs_model.specs.rows.View.{view_of}
use Rattle.plan_fields.specs.declared.field_places.ShownFact.{ShownFact}
use Rattle.plan_fields.specs.Fields.{shown_field}
use Rattle.world_query.specs.Lines.{field_end, label_text, line_end}
use Rattle.world_query.proofs.row_lines.write_field.Goals as goal

regrouped : (old label index value close end : List ℕ) → (((old ++ label) ++ index) ++ value) ++ (close ++ end) ≡ (old ++ (((label ++ index) ++ value) ++ close)) ++ end
regrouped old label index value close end = simp append_assoc

module _ (w : WorldState) (fact : ShownFact) (is_last : Bool) (shown : Option ShownFact) (index : ℕ) (old new : List ℕ) (is : shown ≡ Some fact) (of : index ≡ fact.source) where
  -- a field by whether its value is shown
  shown_as : (shows_value : Bool) → fact.shows_value ≡ shows_value → new ≡ old ++ field_text w (Shown fact.source fact.id (if shows_value then (view_of w).value fact.source fact.id else None)) ++ line_end is_last
      → new ≡ old ++ field_text w (shown_field (view_of w) shown) ++ line_end is_last
  shown_as shows_value same now =
      now
      ∙ ap (λ b. old ++ field_text w (Shown fact.source fact.id (if b then (view_of w).value fact.source fact.id else None)) ++ line_end is_last) (sym same)
      ∙ ap (λ s. old ++ field_text w (shown_field (view_of w) s) ++ line_end is_last) (sym is)

  with_value : fact.shows_value ≡ true → new ≡ old ++ label_text w fact.id ++ index_text w index ++ value_text ((view_of w).value fact.source fact.id) ++ field_end is_last
      → new ≡ old ++ field_text w (shown_field (view_of w) shown) ++ line_end is_last
  with_value shows_value now =
      let value = value_text ((view_of w).value fact.source fact.id) in
      shown_as true shows_value
      (now ∙ ap (λ k. old ++ label_text w fact.id ++ index_text w k ++ value ++ field_end is_last) of
      ∙ regrouped old (label_text w fact.id) (index_text w fact.source) value (codes "]") (line_end is_last))

  without_value : fact.shows_value ≡ false → new ≡ old ++ label_text w fact.id ++ index_text w index ++ field_end is_last
      → new ≡ old ++ field_text w (shown_field (view_of w) shown) ++ line_end is_last
  without_value bare now =
      shown_as false bare
      (now ∙ ap (λ k. old ++ label_text w fact.id ++ index_text w k ++ field_end is_last) of
      ∙ ap (λ t. t ++ field_end is_last) (sym (append-nil (old ++ label_text w fact.id ++ index_text w fact.source)))
      ∙ regrouped old (label_text w fact.id) (index_text w fact.source) [] (codes "]") (line_end is_last))

pub returns-then-fact-clause-text : goal.returns-then-fact-clause-text
returns-then-fact-clause-text g c =
    on_ok_weaker c.write_valued.result
    (with_value c.args.world.now.state c.in-Some.fact c.args.is_last c.args.shown _ c.args.sheet.now c.write_valued.new.sheet c.in-Some.is (c.in_ok-found.ensures.place.index c.index-texts-found.result) c.if-fact.true)
    c.write_valued.ensures.text

pub write_bare-requires-clause-source : goal.write_bare-requires-clause-source
write_bare-requires-clause-source g c = c.in_ok-found.ensures.place.text c.index-texts-found.result

pub returns-clause-text : goal.returns-clause-text
returns-clause-text g c =
    on_ok_weaker c.write_bare.result
    (without_value c.args.world.now.state c.in-Some.fact c.args.is_last c.args.shown _ c.args.sheet.now c.write_bare.new.sheet c.in-Some.is (c.in_ok-found.ensures.place.index c.index-texts-found.result) c.if-fact.false)
    c.write_bare.ensures.text

-- where it stops in the midst
pub returns-in_default-clause-front : goal.returns-in_default-clause-front
returns-in_default-clause-front g c =
    on_err_weaker c.write_unset.result (subst (λ s. StopsWithin c.args.sheet.now c.write_unset.new.sheet (field_text c.args.world.now.state (shown_field (view_of c.args.world.now.state) s) ++ line_end c.args.is_last)) (sym c.in_default.is)) c.write_unset.ensures.front

pub returns-in_err-turn_to-clause-front : goal.returns-in_err-turn_to-clause-front
returns-in_err-turn_to-clause-front g c = on_err_anyway _ (stops_before _ _)

pub returns-in_err-found-clause-front : goal.returns-in_err-found-clause-front
returns-in_err-found-clause-front g c = on_err_anyway _ (stops_before _ _)

pub returns-then-fact-clause-front : goal.returns-then-fact-clause-front
returns-then-fact-clause-front g c =
    let all = with_value c.args.world.now.state c.in-Some.fact c.args.is_last c.args.shown _ [] _ c.in-Some.is (c.in_ok-found.ensures.place.index c.index-texts-found.result) c.if-fact.true refl in
    on_err_weaker c.write_valued.result (subst (StopsWithin _ _) all) c.write_valued.ensures.front

pub returns-clause-front : goal.returns-clause-front
returns-clause-front g c =
    let all = without_value c.args.world.now.state c.in-Some.fact c.args.is_last c.args.shown _ [] _ c.in-Some.is (c.in_ok-found.ensures.place.index c.index-texts-found.result) c.if-fact.false refl in
    on_err_weaker c.write_bare.result (subst (StopsWithin _ _) all) c.write_bare.ensures.front
