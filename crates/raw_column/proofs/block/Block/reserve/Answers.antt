use Rattle.std.proofs.Common.{◌≡◌, max, ◌/◌, ◌^◌, ◌-◌, ◌≤◌, sym, ap, ◌∙◌, arith}
use Rattle.std.specs.List.{sum}
use Rattle.raw_column.specs.Contents.{Contents, most_of, most_rows}
use Rattle.raw_column.proofs.RowLemmas.{contents, laid_resized, shown_resized, sizes_shown}
use Rattle.raw_column.proofs.block.Block.reserve.Goals as goal

pub returns-then-additional-self-clause-too_large : goal.returns-then-additional-self-clause-too_large
returns-then-additional-self-clause-too_large g c large =
    let a = c.self.inside in let h = c.self.invariant in
    let most : most_rows (sum a.sizes) ≡ most_of c.args.self.now = ap (λ l. most_rows (sum l)) (sym (sizes_shown a.capacity a.len a.sizes a.buffer)) ∙ ap most_of c.self.view_is in
    let len : a.len ≡ c.args.self.now.len = ap (λ (v : Contents). v.len) c.self.view_is in
    absurd (omega (arith, c.if-additional-self.true, h.within, h.in_block))

pub invariant_of-self-2 : goal.invariant_of-self-2
invariant_of-self-2 g c =
    let a = c.self.inside in let h = c.self.invariant in let k = c.min-capacity.result in
    let code : (2 ^ 63 - 1) / c.max.result ≡ most_rows (sum a.sizes) = ap (λ n. (2 ^ 63 - 1) / n) (c.max.ensures ∙ ap (λ n. max n 1) c.width.ensures.sum) in
    let more : a.len ≤ k = omega (arith, c.max.ensures, c.max-least.ensures, c.rounded.ensures.enough, c.min-capacity.ensures, c.if-most-self.false, h.within, h.in_block) in
    let fits : k ≤ most_rows (sum a.sizes) = omega (arith, c.min-capacity.ensures) in
    laid_resized a.sizes a.capacity a.len k a.buffer c.grow.new.self h more fits c.in_ok-grow.ensures.ok

pub returns-clause-rows : goal.returns-clause-rows
returns-clause-rows g c =
    let a = c.self.inside in let h = c.self.invariant in let k = c.min-capacity.result in
    let code : (2 ^ 63 - 1) / c.max.result ≡ most_rows (sum a.sizes) = ap (λ n. (2 ^ 63 - 1) / n) (c.max.ensures ∙ ap (λ n. max n 1) c.width.ensures.sum) in
    let more : a.len ≤ k = omega (arith, c.max-least.ensures, c.rounded.ensures.enough, c.min-capacity.ensures, h.within, h.in_block) in
    ap (contents a.len (k - a.len)) (shown_resized a.sizes a.capacity a.len k a.buffer c.grow.new.self h more c.in_ok-grow.ensures.ok) ∙ ap (λ (v : Contents). contents v.len (k - a.len) v.columns) c.self.view_is

pub returns-clause-too_large : goal.returns-clause-too_large
returns-clause-too_large g c large =
    let a = c.self.inside in let h = c.self.invariant in
    let most : most_rows (sum a.sizes) ≡ most_of c.args.self.now = ap (λ l. most_rows (sum l)) (sym (sizes_shown a.capacity a.len a.sizes a.buffer)) ∙ ap most_of c.self.view_is in
    let len : a.len ≡ c.args.self.now.len = ap (λ (v : Contents). v.len) c.self.view_is in
    let code : (2 ^ 63 - 1) / c.max.result ≡ most_rows (sum a.sizes) = ap (λ n. (2 ^ 63 - 1) / n) (c.max.ensures ∙ ap (λ n. max n 1) c.width.ensures.sum) in
    absurd (omega (arith, c.if-most-self.false, h.within, h.in_block))

pub returns-clause-doubles : goal.returns-clause-doubles
returns-clause-doubles g c short =
    let a = c.self.inside in let h = c.self.invariant in
    let most : most_rows (sum a.sizes) ≡ most_of c.args.self.now = ap (λ l. most_rows (sum l)) (sym (sizes_shown a.capacity a.len a.sizes a.buffer)) ∙ ap most_of c.self.view_is in
    let len : a.len ≡ c.args.self.now.len = ap (λ (v : Contents). v.len) c.self.view_is in let room : a.capacity - a.len ≡ c.args.self.now.room = ap (λ (v : Contents). v.room) c.self.view_is in
    let code : (2 ^ 63 - 1) / c.max.result ≡ most_rows (sum a.sizes) = ap (λ n. (2 ^ 63 - 1) / n) (c.max.ensures ∙ ap (λ n. max n 1) c.width.ensures.sum) in
    omega (arith, c.max-least.ensures, c.rounded.ensures.enough, c.min-capacity.ensures, h.within, h.in_block)
