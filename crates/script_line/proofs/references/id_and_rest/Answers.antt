use Rattle.std.proofs.Common.{◌≡◌, sym, ap, ◌∙◌, None, arith}
use Rattle.std.proofs.lemmas.Str.Pattern.{strip_prefix_char}
use Rattle.ecs_model.specs.Script.{id_and_rest}
use Rattle.ecs_model.specs.Text.{trim_front}
use Rattle.script_line.proofs.NamedReferences.{plain_read}
use Rattle.script_line.proofs.WordLists.{trim_twice}
use Rattle.script_line.proofs.references.id_and_rest.Goals as goal

pub returns-in-None : goal.returns-in-None
returns-in-None c =
    let trimmed = c.trim_front-text in
    let text = trimmed.result.now in
    let once : trim_front text ≡ text = ap trim_front trimmed.ensures ∙ trim_twice c.args.text.now ∙ sym trimmed.ensures in
    c.plain_and_rest.ensures ∙ plain_read text once (strip_prefix_char 40 text None c.in-None.ensures.cases (omega arith)) ∙ ap id_and_rest trimmed.ensures
