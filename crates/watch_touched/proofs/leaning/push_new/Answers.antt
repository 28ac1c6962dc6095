use Rattle.std.proofs.Common.{sym, ◌∙◌, ap, ◌==◌}
use Rattle.std.specs.List.{list_any}
use Rattle.watch_touched.proofs.GrownLists.{there_already}
use Rattle.watch_touched.proofs.leaning.push_new.Goals as goal

pub returns-else-not-is_among : goal.returns-else-not-is_among
returns-else-not-is_among g c =
    there_already c.args.found.now.items c.args.entity (ap (list_any (λ x. x == c.args.entity)) (sym c.as_slice.ensures) ∙ sym c.is_among.ensures ∙ c.if-not-is_among.false)
