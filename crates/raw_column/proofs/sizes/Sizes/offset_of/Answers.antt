use Rattle.std.proofs.Common.{◌≡◌, ◌+◌, ◌*◌, ◌<◌, length, sym, ap, subst, ◌∙◌, arith}
use Rattle.std.proofs.lemmas.List.{length-map}
use Rattle.raw_column.specs.Places.{place_of}
use Rattle.raw_column.specs.declared.sizes.Span.{Span}
use Rattle.raw_column.proofs.PlaceLemmas.{place_inside, place_within}
use Rattle.raw_column.proofs.SizeLemmas.{offset_is}
use Rattle.raw_column.proofs.sizes.Sizes.offset_of.Goals as goal

pub overflow_mul-result-2 : goal.overflow_mul-result-2
overflow_mul-result-2 g c =
    let spans = c.self.inside.spans.items in let k = c.args.column in let ss = c.args.self.now in let item : Span = c.index-span.result.now in let at = c.args.capacity in
    let lt : k < length spans = subst (λ n. k < n) (length-map spans (λ (p : Span). p.size)) (subst (λ l. k < length l) (sym c.self.view_is) c.requires.column) in
    let place : place_of at ss k c.args.row ≡ item.before * at + c.args.row * item.size = ap (λ l. place_of at l k c.args.row) (sym c.self.view_is) ∙ offset_is spans c.self.inside.width at k c.args.row item c.self.invariant lt c.index-span.ensures in
    omega (arith, place, place_within at ss k c.args.row c.requires.column c.requires.row, c.requires.in_block)

pub overflow_add-result : goal.overflow_add-result
overflow_add-result g c =
    let spans = c.self.inside.spans.items in let k = c.args.column in let ss = c.args.self.now in let item : Span = c.index-span.result.now in let at = c.args.capacity in
    let lt : k < length spans = subst (λ n. k < n) (length-map spans (λ (p : Span). p.size)) (subst (λ l. k < length l) (sym c.self.view_is) c.requires.column) in
    let place : place_of at ss k c.args.row ≡ item.before * at + c.args.row * item.size = ap (λ l. place_of at l k c.args.row) (sym c.self.view_is) ∙ offset_is spans c.self.inside.width at k c.args.row item c.self.invariant lt c.index-span.ensures in
    omega (arith, place, place_within at ss k c.args.row c.requires.column c.requires.row, c.requires.in_block)

pub returns-clause-value : goal.returns-clause-value
returns-clause-value g c =
    let spans = c.self.inside.spans.items in let k = c.args.column in let ss = c.args.self.now in let item : Span = c.index-span.result.now in let at = c.args.capacity in
    let lt : k < length spans = subst (λ n. k < n) (length-map spans (λ (p : Span). p.size)) (subst (λ l. k < length l) (sym c.self.view_is) c.requires.column) in
    let place : place_of at ss k c.args.row ≡ item.before * at + c.args.row * item.size = ap (λ l. place_of at l k c.args.row) (sym c.self.view_is) ∙ offset_is spans c.self.inside.width at k c.args.row item c.self.invariant lt c.index-span.ensures in
    sym place

pub returns-clause-within : goal.returns-clause-within
returns-clause-within g c =
    let spans = c.self.inside.spans.items in let k = c.args.column in let ss = c.args.self.now in let item : Span = c.index-span.result.now in let at = c.args.capacity in
    let lt : k < length spans = subst (λ n. k < n) (length-map spans (λ (p : Span). p.size)) (subst (λ l. k < length l) (sym c.self.view_is) c.requires.column) in
    let place : place_of at ss k c.args.row ≡ item.before * at + c.args.row * item.size = ap (λ l. place_of at l k c.args.row) (sym c.self.view_is) ∙ offset_is spans c.self.inside.width at k c.args.row item c.self.invariant lt c.index-span.ensures in
    omega (arith, place, place_within at ss k c.args.row c.requires.column c.requires.row)

pub returns-clause-inside : goal.returns-clause-inside
returns-clause-inside g c below =
    let spans = c.self.inside.spans.items in let k = c.args.column in let ss = c.args.self.now in let item : Span = c.index-span.result.now in let at = c.args.capacity in
    let lt : k < length spans = subst (λ n. k < n) (length-map spans (λ (p : Span). p.size)) (subst (λ l. k < length l) (sym c.self.view_is) c.requires.column) in
    let place : place_of at ss k c.args.row ≡ item.before * at + c.args.row * item.size = ap (λ l. place_of at l k c.args.row) (sym c.self.view_is) ∙ offset_is spans c.self.inside.width at k c.args.row item c.self.invariant lt c.index-span.ensures in
    omega (arith, place, place_inside at ss k c.args.row c.requires.column below)
