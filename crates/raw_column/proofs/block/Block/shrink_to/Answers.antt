use Rattle.std.proofs.Common.{rules, ◌≡◌, ◌-◌, ◌≤◌, ap, ◌∙◌, arith}
use Rattle.std.specs.List.{sum}
use Rattle.raw_column.specs.Contents.{Contents, most_rows}
use Rattle.raw_column.specs.Places.{resized}
use Rattle.raw_column.proofs.RowLemmas.{contents, laid_resized, shown_resized}
use Rattle.raw_column.proofs.block.Block.shrink_to.Goals as goal

pub invariant_of-self : goal.invariant_of-self
invariant_of-self g c =
    let a = c.self.inside in let h = c.self.invariant in let k = c.rounded-capacity.result in
    let enough : a.len ≤ k = omega (arith, c.max-least.ensures, c.rounded-capacity.ensures.enough) in let fits : k ≤ most_rows (sum a.sizes) = omega (arith, c.if-self-capacity.false, h.in_block) in
    let new : c.shrink.new.self ≡ resized a.len a.capacity k a.sizes a.buffer = search rules in
    laid_resized a.sizes a.capacity a.len k a.buffer c.shrink.new.self h enough fits new

pub returns-then-is_ok-clause-rows : goal.returns-then-is_ok-clause-rows
returns-then-is_ok-clause-rows g c =
    let a = c.self.inside in let h = c.self.invariant in let k = c.rounded-capacity.result in
    let enough : a.len ≤ k = omega (arith, c.max-least.ensures, c.rounded-capacity.ensures.enough) in
    let new : c.shrink.new.self ≡ resized a.len a.capacity k a.sizes a.buffer = search rules in
    ap (contents a.len (k - a.len)) (shown_resized a.sizes a.capacity a.len k a.buffer c.shrink.new.self h enough new) ∙ ap (λ (v : Contents). contents v.len (k - a.len) v.columns) c.self.view_is

pub invariant_of-self-else-is_ok : goal.invariant_of-self-else-is_ok
invariant_of-self-else-is_ok g c =
    let a = c.self.inside in let h = c.self.invariant in let same : c.shrink.new.self ≡ resized a.len a.capacity a.capacity a.sizes a.buffer = search rules in
    laid_resized a.sizes a.capacity a.len a.capacity a.buffer c.shrink.new.self h h.within h.in_block same

pub returns-else-is_ok-clause-rows : goal.returns-else-is_ok-clause-rows
returns-else-is_ok-clause-rows g c =
    let a = c.self.inside in let h = c.self.invariant in let same : c.shrink.new.self ≡ resized a.len a.capacity a.capacity a.sizes a.buffer = search rules in
    ap (contents a.len (a.capacity - a.len)) (shown_resized a.sizes a.capacity a.len a.capacity a.buffer c.shrink.new.self h h.within same) ∙ ap (λ (v : Contents). contents v.len (a.capacity - a.len) v.columns) c.self.view_is
