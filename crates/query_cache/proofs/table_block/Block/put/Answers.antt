use Rattle.std.proofs.Common.{ap, ◌∙◌, ◌++◌, ◌∷◌, []}
use Rattle.query_cache.specs.TableList.{keys_of}
use Rattle.query_cache.proofs.BlockBits.{set_behind, set_block}
use Rattle.query_cache.proofs.table_block.Block.put.Goals as goal

pub returns-clause-keys : goal.returns-clause-keys
returns-clause-keys c =
    let b = c.args.self.now in
    set_behind b c.requires.block c.in-Some.bit c.in-Some.ensures.behind c.in-Some.ensures.small ∙ ap (λ k. keys_of b ++ k ∷ []) c.in-Some.ensures.key

pub returns-clause-block : goal.returns-clause-block
returns-clause-block c =
    let b = c.args.self.now in
    set_block b c.requires.block c.in-Some.bit c.in-Some.ensures.behind c.in-Some.ensures.small c.in-Some.ensures.slot c.in-Some.ensures.serial
