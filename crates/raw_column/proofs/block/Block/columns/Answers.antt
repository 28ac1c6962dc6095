use Rattle.std.proofs.Common.{length, sym, ap, ◌∙◌}
use Rattle.raw_column.specs.Contents.{Contents}
use Rattle.raw_column.proofs.RowLemmas.{length_shown}
use Rattle.raw_column.proofs.block.Block.columns.Goals as goal

pub returns : goal.returns
returns g c = let a = c.self.inside in c.count.ensures ∙ sym (length_shown a.capacity a.len a.sizes a.buffer) ∙ ap (λ (v : Contents). length v.columns) c.self.view_is
