use Rattle.std.proofs.Common.{append-nil, ap, sym, ◌++◌, ◌∙◌}
use Rattle.query_cache.proofs.BlockBits.{no_bits}
use Rattle.query_cache.proofs.FilledBlocks.{filled, filled_block, filled_keys, where_ok}
use Rattle.query_cache.proofs.table_block.Block.push_filled_onto.Goals as goal

pub returns-then-filled-eq0-clause-pushed : goal.returns-then-filled-eq0-clause-pushed
returns-then-filled-eq0-clause-pushed g c =
    let b = c.args.self.now in
    let none = sym (filled_keys b c.requires.block c.args.store.now c.filled_bits.result c.requires.stand c.filled_bits.ensures.filled) ∙ no_bits (filled b c.requires.block c.args.store.now c.filled_bits.result c.requires.stand c.filled_bits.ensures.filled) c.if-filled-eq0.true in
    sym (ap (λ ks. c.args.keys.now.items ++ ks) none ∙ append-nil c.args.keys.now.items)

pub push_onto-requires : goal.push_onto-requires
push_onto-requires g c = record { block = filled_block c.args.self.now c.requires.block c.args.store.now c.filled_bits.result c.requires.stand c.filled_bits.ensures.filled }

pub returns-clause-pushed : goal.returns-clause-pushed
returns-clause-pushed g c =
    where_ok c.push_onto.result _ _ (λ pushed.
    pushed ∙ ap (λ ks. c.args.keys.now.items ++ ks) (filled_keys c.args.self.now c.requires.block c.args.store.now c.filled_bits.result c.requires.stand c.filled_bits.ensures.filled)) c.push_onto.ensures.pushed
