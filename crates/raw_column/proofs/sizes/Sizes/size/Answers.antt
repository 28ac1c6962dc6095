use Rattle.std.proofs.Common.{◌≡◌, ◌<◌, ◌≤◌, length, sym, ap, subst, ◌∙◌}
use Rattle.std.proofs.lemmas.List.{length-map}
use lib.ListN.{get_or}
use Rattle.raw_column.specs.Sizes.{sizes_of}
use Rattle.raw_column.specs.declared.sizes.Span.{Span}
use Rattle.raw_column.proofs.SizeLemmas.{size_of_span}
use Rattle.raw_column.proofs.sizes.Sizes.size.Goals as goal

pub returns-clause-within : goal.returns-clause-within
returns-clause-within g c =
    let spans = c.self.inside.spans.items in let k = c.args.column in let item : Span = c.index.result.now in
    let within : k < length (sizes_of spans) = subst (λ l. k < length l) (sym c.self.view_is) c.requires in
    let lt : k < length spans = subst (λ n. k < n) (length-map spans (λ (p : Span). p.size)) within in
    let same : get_or (sizes_of spans) k 0 ≡ item.size = size_of_span spans k item lt ∙ ap (λ (p : Span). p.size) (sym c.index.ensures) in
    subst (λ n. (0 < n) × (n ≤ 64)) same (c.self.invariant.sized k within)
