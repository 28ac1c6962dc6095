use Rattle.std.proofs.Common.{ap, arith, length, rules, take, w64, ◌∙◌}
use Rattle.std.specs.Int.{trailing_zeros}
use Rattle.query_cache.proofs.LowestBits.{all_pushed, cleared_less, lowest_set, lowest_within, none_pushed, one_pushed, still_front}
use Rattle.query_cache.proofs.TakenTables.{on_err_anyway}
use Rattle.query_cache.proofs.table_block.Block.push_onto.Goals as goal

pub bits-init : goal.bits-init
bits-init g c = none_pushed c.args.self.now c.requires.block c.args.keys.now.items

pub push_one-requires-clause-within : goal.push_one-requires-clause-within
push_one-requires-clause-within g c = lowest_within c.args.self.now c.args.keys.now.items c.bits.keys.items c.bits.left c.bits.invariant c.requires.block (omega arith) (search rules)

pub bits-smaller : goal.bits-smaller
bits-smaller g c =
    let lowest = lowest_set c.args.self.now c.args.keys.now.items c.bits.keys.items c.bits.left c.bits.invariant c.requires.block (omega arith) (search rules) in
    cleared_less c.bits.left (trailing_zeros w64 c.bits.left) lowest.0 lowest.1

pub bits-preserved : goal.bits-preserved
bits-preserved g c = one_pushed c.args.self.now c.args.keys.now.items c.bits.keys.items c.bits.left c.bits.invariant c.requires.block (omega arith) (search rules) _ c.in_ok-push_one.ensures.pushed

pub returns-clause-pushed : goal.returns-clause-pushed
returns-clause-pushed g c = all_pushed c.args.self.now c.args.keys.now.items c.bits.keys.items c.bits.left c.bits.invariant (omega arith)

-- what was there comes first
pub returns-in_err-push_one-clause-front : goal.returns-in_err-push_one-clause-front
returns-in_err-push_one-clause-front g c =
    on_err_anyway _ (ap (take (length c.args.keys.now.items)) c.in_err-push_one.ensures.refused ∙ still_front c.args.self.now c.args.keys.now.items c.bits.keys.items c.bits.left c.bits.invariant)
