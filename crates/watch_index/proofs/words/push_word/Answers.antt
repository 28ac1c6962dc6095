use Rattle.std.proofs.Common.{◌+◌, ◌*◌, arith, rules, w64}
use Rattle.std.specs.Int.{trailing_zeros}
use Rattle.std.proofs.lemmas.Nat.Bits.{bit_at-trailing_zeros}
use Rattle.watch_index.specs.Words.{numbers_of}
use Rattle.watch_index.proofs.WordNumbers.{all_listed, cleared_less, one_listed}
use Rattle.watch_index.proofs.words.push_word.Goals as goal

pub bits-smaller : goal.bits-smaller
bits-smaller g c =
    let lowest = bit_at-trailing_zeros w64 c.bits.left (omega arith) (search rules) in
    cleared_less c.bits.left (trailing_zeros w64 c.bits.left) lowest.0 lowest.1

pub bits-preserved : goal.bits-preserved
bits-preserved g c =
    one_listed c.args.word.block c.bits.left c.bits.numbers.items _ c.args.numbers.now.items (numbers_of c.args.word) c.bits.invariant (c.args.word.block * 64 + c.from.result) (omega arith) (omega arith) (search rules) c.in_ok-push.ensures

pub returns : goal.returns
returns g c =
    all_listed c.args.word.block c.bits.left c.bits.numbers.items c.bits.numbers.items c.args.numbers.now.items (numbers_of c.args.word) c.bits.invariant (omega arith)
