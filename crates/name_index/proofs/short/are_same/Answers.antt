use Rattle.std.proofs.Common.{◌≡◌, sym, ap₂, ◌∙◌, nat_eq}
use Rattle.name_index.specs.Short.{word_at}
use Rattle.name_index.proofs.ShortLemmas.{compared}
use Rattle.name_index.proofs.short.are_same.Goals as goal

pub returns-then-word : goal.returns-then-word
returns-then-word c =
    let low : word_at c.args.some.now 0 ≡ word_at c.args.others.now 0 = sym c.word.ensures ∙ c.if-word.true ∙ c.word-2.ensures in
    ap₂ nat_eq c.word-then-word.ensures c.word-then-word-2.ensures
    ∙ compared c.args.some.now c.args.others.now c.requires.some c.requires.others (λ i. (c.type_inv.some i).fits) (λ i. (c.type_inv.others i).fits) low
