use Rattle.std.specs.Int.{w128}
use Rattle.std.specs.Prelude.{◌-ℤ◌, pos, neg_ℤ}
use Rattle.std.proofs.Common.{◌≡◌, ◌∙◌, ◌∷◌, SFits, sym, ap, None, Some, option_map, rules, arith}
use Rattle.std.proofs.Math.IntN.{+ℤ_idl}
use Rattle.std.proofs.lemmas.Int.{to_z-of_z}
use Rattle.std.proofs.lemmas.Str.Pattern.{strip_prefix_char}
use Rattle.script_line.specs.Line.{word_read}
use Rattle.ecs_model.specs.Script.{value_of_word}
use Rattle.script_line.proofs.Stops.{minus_read, negated, plain_value}
use Rattle.script_line.proofs.words.value_and_rest.Goals as goal

pub returns-in_err-value-in-Some-clause-value : goal.returns-in_err-value-in-Some-clause-value
returns-in_err-value-in-Some-clause-value c =
    let digits = c.in-Some.digits in
    let text : c.args.text.now ≡ 45 ∷ digits.now = strip_prefix_char 45 c.args.text.now (Some digits) c.in-Some.ensures.cases (omega arith) in
    rw c.from_residual.ensures (ap (option_map negated) c.in_err-value-in-Some.ensures.value ∙ sym (minus_read digits.now) ∙ ap (word_read value_of_word) (sym text))

pub returns-in_ok-value-in-Some-clause-value : goal.returns-in_ok-value-in-Some-clause-value
returns-in_ok-value-in-Some-clause-value c =
    let digits = c.in-Some.digits in
    let value = c.in_ok-value-in-Some.value in
    let text : c.args.text.now ≡ 45 ∷ digits.now = strip_prefix_char 45 c.args.text.now (Some digits) c.in-Some.ensures.cases (omega arith) in
    let fits : SFits w128 value = search rules in
    let fits_negated : SFits w128 (pos 0 -ℤ value) = search rules in
    let minus : pos 0 -ℤ value ≡ neg_ℤ value = +ℤ_idl (neg_ℤ value) in
    rw (to_z-of_z w128 value fits, to_z-of_z w128 (pos 0 -ℤ value) fits_negated, minus) (ap (option_map negated) c.in_ok-value-in-Some.ensures.value ∙ sym (minus_read digits.now) ∙ ap (word_read value_of_word) (sym text))

pub returns-in-None-clause-value : goal.returns-in-None-clause-value
returns-in-None-clause-value c =
    c.unsigned_and_rest-in-None.ensures.value ∙ plain_value c.args.text.now (strip_prefix_char 45 c.args.text.now None c.in-None.ensures.cases (omega arith))
