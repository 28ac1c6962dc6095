use Rattle.std.specs.Prelude.{flat_map}
use Rattle.std.proofs.Common.{◌≡◌, ◌++◌, take}
use Rattle.watch_index.specs.Words.{numbers_of}
use Rattle.watch_index.proofs.words.push_all.Given as goal

abbrev pub invariant-loop-word : goal.invariant-loop-word
invariant-loop-word g l = l.numbers.items ≡ l.initial.numbers.items ++ flat_map numbers_of (take l.word-index l.words)
