use Rattle.std.proofs.Common.{All, ◌*◌, ◌<◌, length, take}
use Rattle.entity_set.proofs.bits.have_words.Given as goal

abbrev pub invariant-loop-number : goal.invariant-loop-number
invariant-loop-number l = All (λ e. e < 64 * length l.words) (take l.number-index l.numbers)
