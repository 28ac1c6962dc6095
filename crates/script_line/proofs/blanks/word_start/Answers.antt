use Rattle.std.proofs.Common.{◌==◌, length, ap, ◌∙◌, sym}
use Rattle.std.proofs.lemmas.Bool.{eqb-true}
use Rattle.std.specs.List.{before_first}
use Rattle.std.specs.Prelude.{◌∷◌, drop}
use Rattle.ecs_model.specs.Text.{is_blank, words}
use Rattle.script_line.proofs.WordLists.{words_at_end, words_from}
use Rattle.script_line.proofs.blanks.word_start.Goals as goal

pub returns-then-is_empty-clause-cases : goal.returns-then-is_empty-clause-cases
returns-then-is_empty-clause-cases c =
    let trimmed = c.trim_front-text in
    words_at_end c.args.text.now (ap length (sym trimmed.ensures) ∙ eqb-true (length trimmed.result.now) 0 (sym c.is_empty.ensures ∙ c.if-is_empty.true))

pub returns-clause-cases : goal.returns-clause-cases
returns-clause-cases c =
    let trimmed = c.trim_front-text in
    words_from c.args.text.now (ap (λ t. length t == 0) (sym trimmed.ensures) ∙ sym c.is_empty.ensures ∙ c.if-is_empty.false)
    ∙ ap (λ t. before_first is_blank t ∷ words (drop (length (before_first is_blank t)) t)) (sym trimmed.ensures)
