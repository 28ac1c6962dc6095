use Rattle.std.proofs.Common.{◌≡◌, ◌*◌, ◌<◌, length, take, drop, sym, ap, ap₂, subst, ◌∙◌, arith}
use Rattle.std.specs.List.{concat, sum}
use lib.ListN.{get_or}
use Rattle.raw_column.specs.Contents.{Contents, column_at}
use Rattle.raw_column.proofs.ColumnBytes.{bytes_shown, column_fits}
use Rattle.raw_column.proofs.RowLemmas.{fits_most, length_shown}
use Rattle.raw_column.proofs.block.Block.column.Goals as goal

pub offset_of-at-requires-clause-column : goal.offset_of-at-requires-clause-column
offset_of-at-requires-clause-column g c =
    let a = c.self.inside in
    subst (λ m. c.args.column < m) (ap (λ (v : Contents). length v.columns) (sym c.self.view_is) ∙ length_shown a.capacity a.len a.sizes a.buffer) c.requires

pub offset_of-at-requires-clause-in_block : goal.offset_of-at-requires-clause-in_block
offset_of-at-requires-clause-in_block g c = fits_most c.self.inside.capacity (sum c.self.inside.sizes) c.self.invariant.in_block

pub size-requires : goal.size-requires
size-requires g c =
    let a = c.self.inside in
    subst (λ m. c.args.column < m) (ap (λ (v : Contents). length v.columns) (sym c.self.view_is) ∙ length_shown a.capacity a.len a.sizes a.buffer) c.requires

pub overflow_mul-len : goal.overflow_mul-len
overflow_mul-len g c =
    let a = c.self.inside in let k = c.args.column in
    let lt : k < length a.sizes = subst (λ m. k < m) (ap (λ (v : Contents). length v.columns) (sym c.self.view_is) ∙ length_shown a.capacity a.len a.sizes a.buffer) c.requires in
    let same : a.len * c.size.result ≡ a.len * get_or a.sizes k 0 = ap (λ n. a.len * n) c.size.ensures.size in
    omega (arith, same, column_fits a.capacity a.len a.sizes k lt c.self.invariant.within, fits_most a.capacity (sum a.sizes) c.self.invariant.in_block)

pub read-requires : goal.read-requires
read-requires g c =
    let a = c.self.inside in let k = c.args.column in
    let lt : k < length a.sizes = subst (λ m. k < m) (ap (λ (v : Contents). length v.columns) (sym c.self.view_is) ∙ length_shown a.capacity a.len a.sizes a.buffer) c.requires in
    let same : a.len * c.size.result ≡ a.len * get_or a.sizes k 0 = ap (λ n. a.len * n) c.size.ensures.size in
    omega (arith, same, c.offset_of-at.ensures.value, column_fits a.capacity a.len a.sizes k lt c.self.invariant.within, c.self.invariant.all)

pub returns : goal.returns
returns g c =
    let a = c.self.inside in let k = c.args.column in
    let lt : k < length a.sizes = subst (λ m. k < m) (ap (λ (v : Contents). length v.columns) (sym c.self.view_is) ∙ length_shown a.capacity a.len a.sizes a.buffer) c.requires in
    let long : a.len * c.size.result ≡ a.len * get_or a.sizes k 0 = ap (λ n. a.len * n) c.size.ensures.size in
    c.read.ensures ∙ ap₂ (λ i j. take i (drop j a.buffer)) long c.offset_of-at.ensures.value
    ∙ sym (bytes_shown a.capacity a.len a.sizes a.buffer k lt c.self.invariant.within) ∙ ap (λ (v : Contents). concat (column_at v k).items) c.self.view_is
