use Rattle.std.proofs.Common.{◌≡◌, false, ap, sym, ◌∙◌}
use Rattle.ecs_model.specs.Text.{trim_front}
use Rattle.ecs_model.specs.Script.{says_nothing}
use Rattle.script_line.specs.Line.{by_first_word}
use Rattle.script_line.proofs.Forms.{form_long, form_nothing, form_no_text, form_text}
use Rattle.script_line.proofs.line_opened.Goals as goal

pub returns-then-line-gt-MAX_LINE : goal.returns-then-line-gt-MAX_LINE
returns-then-line-gt-MAX_LINE c = form_long c.args.line.now c.if-line-gt-MAX_LINE.true

pub returns-then-says_nothing : goal.returns-then-says_nothing
returns-then-says_nothing c =
    form_nothing c.args.line.now c.if-line-gt-MAX_LINE.false (sym c.says_nothing.ensures ∙ c.if-says_nothing.true)

pub returns-in-None : goal.returns-in-None
returns-in-None c =
    form_no_text c.args.line.now c.if-line-gt-MAX_LINE.false (sym c.says_nothing.ensures ∙ c.if-says_nothing.false) c.in-None.ensures

pub returns-in-Some : goal.returns-in-Some
returns-in-Some c =
    let line = c.args.line.now in
    let text = c.in-Some.ensures in
    let silent : says_nothing (trim_front line) ≡ false = sym c.says_nothing.ensures ∙ c.if-says_nothing.false in
    c.text_opened.ensures ∙ ap by_first_word text.0 ∙ form_text line c.if-line-gt-MAX_LINE.false silent text.1
