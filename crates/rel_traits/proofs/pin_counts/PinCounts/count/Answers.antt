use Rattle.std.proofs.Common.{◌≡◌, ap, arith, length, rules, sym, vec_len, ◌∙◌}
use Rattle.std.proofs.lemmas.List.{get_or_past, get_or_read_under}
use Rattle.ecs_model.specs.Map.{count_at}
use Rattle.rel_traits.proofs.PinLists.{count_is}
use Rattle.rel_traits.proofs.pin_counts.PinCounts.count.Goals as goal

pub returns-then-place-len : goal.returns-then-place-len
returns-then-place-len g c =
    let counts = c.self.inside.counts in
    let long : vec_len counts ≡ length counts.items = search rules in
    get_or_read_under counts.items c.args.index c.len.result c.index.result.now 0 c.index.ensures c.if-place-len.true (c.len.ensures ∙ long)
    ∙ sym (count_is counts.items c.args.index) ∙ ap (λ v. count_at v.entries c.args.index) c.self.view_is

pub returns-else-place-len : goal.returns-else-place-len
returns-else-place-len g c =
    let counts = c.self.inside.counts in
    let long : vec_len counts ≡ length counts.items = search rules in
    sym (count_is counts.items c.args.index ∙ get_or_past counts.items c.args.index 0 (omega (arith, c.if-place-len.false, c.len.ensures, long)))
    ∙ ap (λ v. count_at v.entries c.args.index) c.self.view_is
