use Rattle.std.proofs.Common.{append-nil, ◌∙◌}
use Rattle.watch_index.specs.Words.{numbers_of}
use Rattle.watch_index.proofs.Blocks.{one_full, words_one}
use Rattle.watch_index.proofs.numbers.Numbers.one.Goals as goal

pub invariant_of-result : goal.invariant_of-result
invariant_of-result g c =
    rw (c.in_ok-push.ensures.items, c.in_ok-words.ensures.items) (words_one c.one.result c.one.ensures.fits (one_full c.one.result c.args.number c.one.ensures.numbers))

pub returns : goal.returns
returns g c =
    rw (c.in_ok-push.ensures.items, c.in_ok-words.ensures.items) (append-nil (numbers_of c.one.result) ∙ c.one.ensures.numbers)
