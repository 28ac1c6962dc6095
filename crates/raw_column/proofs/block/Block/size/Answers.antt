use Rattle.std.proofs.Common.{◌<◌, length, sym, ap, subst, ◌∙◌}
use Rattle.raw_column.specs.Contents.{Contents, column_at}
use Rattle.raw_column.proofs.RowLemmas.{length_shown, size_shown}
use Rattle.raw_column.proofs.block.Block.size.Goals as goal

pub size-requires : goal.size-requires
size-requires g c =
    let a = c.self.inside in
    subst (λ m. c.args.column < m) (ap (λ (v : Contents). length v.columns) (sym c.self.view_is) ∙ length_shown a.capacity a.len a.sizes a.buffer) c.requires

pub returns-clause-size : goal.returns-clause-size
returns-clause-size g c =
    let a = c.self.inside in let k = c.args.column in
    let lt : k < length a.sizes = subst (λ m. k < m) (ap (λ (v : Contents). length v.columns) (sym c.self.view_is) ∙ length_shown a.capacity a.len a.sizes a.buffer) c.requires in
    c.size.ensures.size ∙ sym (size_shown a.capacity a.len a.sizes a.buffer k lt) ∙ ap (λ (v : Contents). (column_at v k).size) c.self.view_is
