use Rattle.std.proofs.Common.{ℕ, ap, sym, length, true, ◌∙◌}
use Rattle.std.specs.Prelude.{◌||◌, map, not}
use Rattle.std.specs.List.{list_any, range_with_len}
use Rattle.std.proofs.lemmas.List.{length-map}
use Rattle.query_check.specs.Seen.{seen_piece}
use Rattle.watch_asked.specs.Asked.{any_counts_as, is_idle_from}
use Rattle.watch_asked.proofs.AskedPatterns.{visible_judged}
use Rattle.watch_asked.proofs.asked.asked_of_others.Goals as goal

pub returns : goal.returns
returns g c only held i =
    let ts = c.terms-terms.result.now in
    let pieces = map seen_piece c.pieces-pieces.result.now in
    let visible = c.variables-visible.result.now in
    let count = sym (length-map visible (λ n. n.items)) ∙ ap length c.variables-visible.ensures in
    let judged = any_counts_as only c.push_visible_asked.new.others.items held i in
    let busy = λ (v : ℕ). not (is_idle_from only ts true pieces held i v) in
    c.in_ok-push_groups_asked.ensures only held i
    ∙ visible_judged only c.args.query.now ts pieces (length visible) held i judged c.terms-terms.ensures c.pieces-pieces.ensures count
    (c.in_ok-push_visible_asked.ensures only held i ∙ ap (λ all. any_counts_as only all held i || list_any busy (range_with_len 0 (length visible))) c.new-others.ensures.items)
