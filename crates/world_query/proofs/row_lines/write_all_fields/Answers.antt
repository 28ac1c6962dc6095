-- A field more at each turn, and the end of the line behind the last one.
use Rattle.std.proofs.Common.{◌≡◌, ◌+◌, ◌≤◌, ℕ, List, [], ◌∷◌, true, false, ap, refl, subst, sym, ◌∙◌, arith, length, length-set, map}
use Rattle.std.specs.Prelude.{Option, ◌==◌, ◌++◌, codes, flat_map}
use Rattle.std.proofs.lemmas.Bool.Decides.{nat_tests}
use Rattle.std.proofs.lemmas.List.Elements.{All-set}
use Rattle.std.proofs.lemmas.List.Folds.{flat_map-map}
use Rattle.std.proofs.lemmas.Result.{on_err_weaker}
use Rattle.ecs_print.specs.Stops.{StopsWithin}
use Rattle.ecs_print.proofs.Stops.{on_err_anyway}
use Rattle.ecs_model.specs.Print.{field_text}
use Rattle.ecs_model.specs.rows.View.{view_of}
use Rattle.plan_fields.specs.declared.field_places.ShownFact.{ShownFact}
use Rattle.plan_fields.specs.Fields.{shown_field}
use Rattle.world_query.specs.Lines.{IsLabel, line_end}
use Rattle.world_query.proofs.KeptTexts.{texts_lent}
use Rattle.world_query.proofs.PrintedLists.{line_ended, line_goes_on}
use Rattle.world_query.proofs.Fronts.{stops_in_line}
use Rattle.world_query.proofs.row_lines.write_all_fields.Goals as goal

pub loop-number-preserved : goal.loop-number-preserved
loop-number-preserved g c =
    let w = c.args.world.now.state in
    let kept = c.loop-number.invariant in
    let f = λ (s : Option ShownFact). field_text w (shown_field (view_of w) s) in
    let xs = c.args.fields.now.current in
    let i = c.loop-number.number in
    let start = c.args.sheet.now in
    let old = c.loop-number.sheet in
    let new = c.write_field.new.sheet in
    let text = c.in_ok-write_field.ensures.text in
    let now = c.loop-number.texts in
    let lent = texts_lent w c.args.columns (length c.args.fields.now.items) now c.write_field.new.texts kept.texts (c.write_field.auto.texts ∙ c.as_mut_slice.ensures.len) c.in_ok-write_field.ensures.texts in
    record {
      texts = record {
        entities = lent.entities;
        places = lent.places;
        labels = All-set (IsLabel w) (now.labels).items c.loop-number.number c.write_field.new.label c.in_ok-write_field.ensures.label kept.texts.labels;
        enough = kept.texts.enough ∙ sym (length-set (now.labels).items c.loop-number.number c.write_field.new.label);
      };
      more = λ before. let other : (i == c.in-Some.last) ≡ false = grind (arith, nat_tests) in
          line_goes_on f xs i c.field.result start old new (omega arith) c.field.ensures (kept.more (omega arith)) (text ∙ ap (λ b. old ++ f c.field.result ++ line_end b) other);
      all = λ behind. let same : (i == c.in-Some.last) ≡ true = grind (arith, nat_tests) in
          line_ended f xs i c.field.result start old new (omega arith) c.field.ensures (kept.more (omega arith)) (text ∙ ap (λ b. old ++ f c.field.result ++ line_end b) same) behind;
    }

pub returns-clause-text : goal.returns-clause-text
returns-clause-text g c =
    let w = c.args.world.now.state in
    let current = c.args.fields.now.current in
    c.loop-number.invariant.all (omega arith)
    ∙ ap (λ t. c.args.sheet.now ++ t ++ codes "\n") (sym (flat_map-map (field_text w) (shown_field (view_of w)) current))

-- in the midst of one
pub returns-in_err-write_field-clause-front : goal.returns-in_err-write_field-clause-front
returns-in_err-write_field-clause-front g c =
    let w = c.args.world.now.state in
    let f = λ (s : Option ShownFact). field_text w (shown_field (view_of w) s) in
    let xs = c.args.fields.now.current in
    let i = c.loop-number.number in
    let start = c.args.sheet.now in
    let now = c.write_field.new.sheet in
    let ends : (i == c.in-Some.last) ≡ true → length xs ≤ i + 1 = λ is. grind (arith, nat_tests) in
    on_err_anyway _
    (subst (λ t. StopsWithin start now (t ++ codes "\n")) (sym (flat_map-map (field_text w) (shown_field (view_of w)) xs))
    (stops_in_line f xs i c.field.result (i == c.in-Some.last) start _ now (omega arith) c.field.ensures (c.loop-number.invariant.more (omega arith)) ends c.in_err-write_field.ensures.front))

-- without fields the line ends at once
no_fields : {X Y : Type 0} (f : Y → List ℕ) (g : X → Y) (xs : List X) → (1 ≤ length xs → ⊥) → codes "\n" ≡ flat_map f (map g xs) ++ codes "\n"
no_fields f g [] none = refl
no_fields f g (x ∷ xs) none = absurd (none (omega arith))

pub returns-in_default-clause-front : goal.returns-in_default-clause-front
returns-in_default-clause-front g c =
    let w = c.args.world.now.state in
    let xs = c.args.fields.now.current in
    let none : 1 ≤ length xs → ⊥ = λ some. c.in_default.ensures (omega (arith, some, c.len.ensures.current)) in
    on_err_weaker c.put_text.result (subst (StopsWithin _ _) (no_fields (field_text w) (shown_field (view_of w)) xs none)) c.put_text.ensures.front
