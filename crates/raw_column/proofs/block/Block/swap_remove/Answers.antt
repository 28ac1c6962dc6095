use Rattle.std.proofs.Common.{◌≡◌, ◌+◌, ◌-◌, ◌<◌, ◌≤◌, map, sym, ap, ap₂, subst, ◌∙◌, arith}
use Rattle.std.specs.List.{All, sum}
use Rattle.raw_column.specs.Contents.{Contents, HasZeros, first_of, without_row}
use Rattle.raw_column.proofs.RowLemmas.{contents, fits_most, rows_removed, zeros_removed}
use Rattle.raw_column.proofs.block.Block.swap_remove.Goals as goal

pub remove_row-requires-clause-all : goal.remove_row-requires-clause-all
remove_row-requires-clause-all g c = (c.self.invariant.all, fits_most c.self.inside.capacity (sum c.self.inside.sizes) c.self.invariant.in_block)

pub invariant_of-self : goal.invariant_of-self
invariant_of-self g c =
    let a = c.self.inside in let h = c.self.invariant in let last = a.len - 1 in
    let below : c.args.row < a.len = subst (λ (v : Contents). c.args.row < v.len) (sym c.self.view_is) c.requires in let one : last + 1 ≡ a.len = omega arith in
    let upto : c.args.row ≤ last = omega arith in
    record {
      sized = h.sized;
      all = c.remove_row.ensures.len ∙ h.all;
      within = omega (arith, h.within);
      in_block = h.in_block;
      zeros = subst (All (HasZeros a.capacity last)) (sym c.remove_row.ensures.columns) (zeros_removed a.capacity a.len h.within a.sizes a.buffer h.zeros c.args.row last upto one);
    }

pub returns : goal.returns
returns g c =
    let a = c.self.inside in let h = c.self.invariant in let last = a.len - 1 in
    let below : c.args.row < a.len = subst (λ (v : Contents). c.args.row < v.len) (sym c.self.view_is) c.requires in let one : last + 1 ≡ a.len = omega arith in
    let upto : c.args.row ≤ last = omega arith in let room : a.capacity - last ≡ a.capacity - a.len + 1 = omega (arith, h.within) in
    ap₂ (contents last) room (ap (map (first_of last)) c.remove_row.ensures.columns ∙ rows_removed a.capacity a.len h.within a.sizes a.buffer h.zeros c.args.row last upto one)
    ∙ ap (λ (v : Contents). without_row v c.args.row) c.self.view_is
