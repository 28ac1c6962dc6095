use Rattle.std.proofs.Common.{◌≡◌, ap, arith}
use Rattle.std.specs.List.{sum}
use Rattle.raw_column.specs.Contents.{Contents}
use Rattle.raw_column.proofs.RowLemmas.{few_rows}
use Rattle.raw_column.proofs.block.Block.room.Goals as goal

pub returns-clause-within : goal.returns-clause-within
returns-clause-within g c =
    let a = c.self.inside in let len : a.len ≡ c.args.self.now.len = ap (λ (v : Contents). v.len) c.self.view_is in
    omega (arith, few_rows a.capacity (sum a.sizes) c.self.invariant.in_block, c.self.invariant.within)
