use Rattle.std.proofs.Common.{sym, ap, ◌∙◌}
use Rattle.std.specs.List.{sum}
use Rattle.raw_column.specs.Contents.{row_bytes}
use Rattle.raw_column.proofs.RowLemmas.{sizes_shown}
use Rattle.raw_column.proofs.block.Block.row_size.Goals as goal

pub returns-clause-value : goal.returns-clause-value
returns-clause-value g c = let a = c.self.inside in c.width.ensures.sum ∙ ap sum (sym (sizes_shown a.capacity a.len a.sizes a.buffer)) ∙ ap row_bytes c.self.view_is
