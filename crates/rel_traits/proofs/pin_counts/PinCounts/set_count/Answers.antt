use Rattle.std.proofs.Common.{ap, ◌∙◌}
use Rattle.ecs_model.specs.steps.Pins.{with_count}
use Rattle.rel_traits.proofs.PinLists.{count_put, same_counts}
use Rattle.rel_traits.proofs.pin_counts.PinCounts.set_count.Goals as goal

pub returns-clause-entries : goal.returns-clause-entries
returns-clause-entries g c =
    let old = c.self.inside.counts.items in
    let filled = c.fill.new.counts.items in
    count_put filled c.args.index c.args.count c.fill.ensures.within
    ∙ ap (λ m. with_count m c.args.index c.args.count) (same_counts old filled c.fill.ensures.same)
    ∙ ap (λ v. with_count v.entries c.args.index c.args.count) c.self.view_is
