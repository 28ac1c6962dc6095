use Rattle.std.proofs.Common.{ap, ◌∙◌}
use Rattle.id_pattern.proofs.Errors.{on_err}
use Rattle.rel_traits.specs.PinCounts.{counts_of}
use Rattle.rel_traits.proofs.pin_counts.PinCounts.cover.Goals as goal

pub returns-in_err-reserve-clause-entries : goal.returns-in_err-reserve-clause-entries
returns-in_err-reserve-clause-entries g c = ap (λ items. (counts_of items 0).entries) c.reserve.ensures.items ∙ ap (λ v. v.entries) c.self.view_is

pub returns-in_err-reserve-clause-err : goal.returns-in_err-reserve-clause-err
returns-in_err-reserve-clause-err g c =
    on_err c.from_residual.result (ap (λ items. counts_of items c.self.inside.reach) c.reserve.ensures.items ∙ c.self.view_is)

pub returns-clause-entries : goal.returns-clause-entries
returns-clause-entries g c = ap (λ items. (counts_of items 0).entries) c.reserve.ensures.items ∙ ap (λ v. v.entries) c.self.view_is
