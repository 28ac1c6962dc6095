use Rattle.std.proofs.Common.{ℕ, List, ap, false, sym, ◌∙◌}
use Rattle.std.specs.Prelude.{◌||◌, map, not}
use Rattle.std.specs.List.{list_any}
use Rattle.std.proofs.lemmas.Result.{on_ok_weaker}
use Rattle.query_check.specs.Seen.{seen_piece}
use Rattle.watch_asked.specs.Asked.{any_counts_as, group_idle, is_idle_from}
use Rattle.watch_asked.proofs.AskedPatterns.{not_all}
use Rattle.watch_asked.proofs.asked.push_group_asked.Goals as goal

pub returns-in-Opening : goal.returns-in-Opening
returns-in-Opening g c =
    let ts = c.args.terms.now in
    let behind = map seen_piece c.args.behind.now in
    on_ok_weaker c.push_all_asked.result
    (λ told only held i.
    let before = any_counts_as only c.args.others.now.items held i in
    told only held i
    ∙ ap (λ (own : List ℕ). before || list_any (λ (v : ℕ). not (is_idle_from only ts false behind held i v)) own) c.as_slice.ensures.value
    ∙ ap (λ b. before || b) (not_all (is_idle_from only ts false behind held i) c.in-Opening.own.items)
    ∙ ap (λ piece. before || not (group_idle only ts held i (seen_piece piece) behind)) (sym c.in-Opening.is))
    c.push_all_asked.ensures
