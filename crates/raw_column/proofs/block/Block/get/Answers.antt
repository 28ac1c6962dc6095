use Rattle.std.proofs.Common.{◌+◌, ◌<◌, ◌≤◌, length, take, drop, length-take-le, length-drop, slice_get, Some, sym, ap, ap₂, subst, ◌∙◌, arith}
use Rattle.std.specs.List.{sum}
use Rattle.raw_column.specs.Contents.{Contents, column_at}
use Rattle.raw_column.proofs.RowLemmas.{fits_most, length_shown, size_shown, value_shown}
use Rattle.raw_column.proofs.block.Block.get.Goals as goal

pub offset_of-at-requires-clause-column : goal.offset_of-at-requires-clause-column
offset_of-at-requires-clause-column g c =
    let a = c.self.inside in
    subst (λ m. c.args.column < m) (ap (λ (v : Contents). length v.columns) (sym c.self.view_is) ∙ length_shown a.capacity a.len a.sizes a.buffer) c.requires.column

pub offset_of-at-requires-clause-row : goal.offset_of-at-requires-clause-row
offset_of-at-requires-clause-row g c =
    let below : c.args.row < c.self.inside.len = subst (λ (v : Contents). c.args.row < v.len) (sym c.self.view_is) c.requires.row in
    omega (arith, c.self.invariant.within)

pub offset_of-at-requires-clause-in_block : goal.offset_of-at-requires-clause-in_block
offset_of-at-requires-clause-in_block g c = fits_most c.self.inside.capacity (sum c.self.inside.sizes) c.self.invariant.in_block

pub size-requires : goal.size-requires
size-requires g c =
    let a = c.self.inside in
    subst (λ m. c.args.column < m) (ap (λ (v : Contents). length v.columns) (sym c.self.view_is) ∙ length_shown a.capacity a.len a.sizes a.buffer) c.requires.column

pub read-requires : goal.read-requires
read-requires g c =
    let below : c.args.row < c.self.inside.len = subst (λ (v : Contents). c.args.row < v.len) (sym c.self.view_is) c.requires.row in
    let free : c.args.row < c.self.inside.capacity = omega (arith, c.self.invariant.within) in
    omega (arith, c.offset_of-at.ensures.inside free, c.self.invariant.all, c.size.ensures.size)

pub returns-clause-value : goal.returns-clause-value
returns-clause-value g c =
    let a = c.self.inside in let k = c.args.column in let row = c.args.row in
    let lt : k < length a.sizes = subst (λ m. k < m) (ap (λ (v : Contents). length v.columns) (sym c.self.view_is) ∙ length_shown a.capacity a.len a.sizes a.buffer) c.requires.column in
    let below : row < a.len = subst (λ (v : Contents). row < v.len) (sym c.self.view_is) c.requires.row in
    ap (λ (v : Contents). slice_get (column_at v k).items row) (sym c.self.view_is) ∙ value_shown a.capacity a.len a.sizes a.buffer k row lt below c.self.invariant.within
    ∙ ap Some (sym (c.read.ensures ∙ ap₂ (λ i j. take i (drop j a.buffer)) c.size.ensures.size c.offset_of-at.ensures.value))

pub returns-clause-len : goal.returns-clause-len
returns-clause-len g c =
    let a = c.self.inside in let k = c.args.column in let row = c.args.row in let at = c.offset_of-at.result in let t = c.size.result in
    let lt : k < length a.sizes = subst (λ m. k < m) (ap (λ (v : Contents). length v.columns) (sym c.self.view_is) ∙ length_shown a.capacity a.len a.sizes a.buffer) c.requires.column in
    let below : row < a.len = subst (λ (v : Contents). row < v.len) (sym c.self.view_is) c.requires.row in
    let free : row < a.capacity = omega (arith, c.self.invariant.within) in
    let fits : at + t ≤ length a.buffer = omega (arith, c.offset_of-at.ensures.inside free, c.self.invariant.all, c.size.ensures.size) in
    ap length c.read.ensures ∙ length-take-le t (drop at a.buffer) (omega (arith, length-drop at a.buffer)) ∙ c.size.ensures.size
    ∙ sym (size_shown a.capacity a.len a.sizes a.buffer k lt) ∙ ap (λ (v : Contents). (column_at v k).size) c.self.view_is
