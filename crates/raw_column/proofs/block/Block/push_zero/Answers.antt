use Rattle.std.proofs.Common.{◌≡◌, ◌+◌, ◌-◌, ◌<◌, sym, ap, ap₂, subst, ◌∙◌, arith}
use Rattle.raw_column.specs.Contents.{Contents, with_zeros}
use Rattle.raw_column.proofs.RowLemmas.{contents, rows_pushed, zeros_pushed}
use Rattle.raw_column.proofs.block.Block.push_zero.Goals as goal

pub invariant_of-self : goal.invariant_of-self
invariant_of-self g c =
    let a = c.self.inside in let h = c.self.invariant in
    let room : 0 < a.capacity - a.len = subst (λ k. 0 < k) (sym (ap (λ (v : Contents). v.room) c.self.view_is)) c.requires in let free : a.len < a.capacity = omega arith in
    record {
      sized = h.sized;
      all = h.all;
      within = omega arith;
      in_block = h.in_block;
      zeros = zeros_pushed a.capacity a.len h.within a.sizes a.buffer h.zeros free;
    }

pub returns : goal.returns
returns g c =
    let a = c.self.inside in let h = c.self.invariant in
    let room : 0 < a.capacity - a.len = subst (λ k. 0 < k) (sym (ap (λ (v : Contents). v.room) c.self.view_is)) c.requires in let free : a.len < a.capacity = omega arith in
    let less : a.capacity - (a.len + 1) ≡ a.capacity - a.len - 1 = omega arith in
    ap₂ (contents (a.len + 1)) less (rows_pushed a.capacity a.len h.within a.sizes a.buffer h.zeros free) ∙ ap with_zeros c.self.view_is
