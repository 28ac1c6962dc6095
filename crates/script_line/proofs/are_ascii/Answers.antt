use Rattle.std.proofs.Common.{◌≡◌, ◌+◌, ◌∙◌, length, sym, arith}
use Rattle.script_line.proofs.Ascii.{ascii_each, eight_at, eight_more, last_eight}
use Rattle.script_line.proofs.are_ascii.Goals as goal

pub words-preserved : goal.words-preserved
words-preserved c =
    let bs = c.args.bytes.now in
    let here = eight_at bs c.min-from.result c.words.at c.is_ascii.result (omega arith) c.if-not-is_ascii.false c.is_ascii.ensures.cases in
    record { looked_at = eight_more bs c.words.at c.words.invariant.looked_at here }

pub returns-then-last-at : goal.returns-then-last-at
returns-then-last-at c =
    let bs = c.args.bytes.now in
    let here = eight_at bs c.min-from.result c.in-Some.last c.is_ascii.result (omega arith) c.if-not-is_ascii.false c.is_ascii.ensures.cases in
    λ _. last_eight bs c.words.at c.in-Some.last (omega arith) (omega arith) c.words.invariant.looked_at here

pub returns-in_default : goal.returns-in_default
returns-in_default c = λ few. ascii_each c.args.bytes.now (sym c.are_few_ascii.ensures ∙ few)
