use Rattle.std.proofs.Common.{◌≡◌, ◌++◌}
use Rattle.watch_index.specs.Words.{numbers_at, numbers_of}
use Rattle.watch_index.proofs.words.push_word.Given as goal

abbrev pub invariant-bits : goal.invariant-bits
invariant-bits g l = l.numbers.items ++ numbers_at (l.word).block l.left ≡ l.initial.numbers.items ++ numbers_of l.word

abbrev pub decreases-bits : goal.decreases-bits
decreases-bits g l = l.left
