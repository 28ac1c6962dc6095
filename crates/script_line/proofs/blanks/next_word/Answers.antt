use Rattle.std.proofs.Common.{◌∷◌, ◌==◌, length, ap, ◌∙◌, sym}
use Rattle.std.proofs.lemmas.Bool.{eqb-true}
use Rattle.ecs_model.specs.Text.{words}
use Rattle.ecs_model.specs.Script.{word_and_rest}
use Rattle.script_line.proofs.WordLists.{words_none, words_next}
use Rattle.script_line.proofs.blanks.next_word.Goals as goal

pub returns-then-is_empty-clause-cases : goal.returns-then-is_empty-clause-cases
returns-then-is_empty-clause-cases c =
    let read = c.word_and_rest in
    words_none c.args.text.now (ap length (sym read.ensures.word) ∙ eqb-true (length read.result.0.now) 0 (sym c.is_empty.ensures ∙ c.if-is_empty.true))

pub returns-clause-cases : goal.returns-clause-cases
returns-clause-cases c =
    let read = c.word_and_rest in
    words_next c.args.text.now (ap (λ w. length w == 0) (sym read.ensures.word) ∙ sym c.is_empty.ensures ∙ c.if-is_empty.false)
    ∙ ap (λ w. w ∷ words (word_and_rest c.args.text.now).1) (sym read.ensures.word)
    ∙ ap (λ r. read.result.0.now ∷ words r) (sym read.ensures.rest)
