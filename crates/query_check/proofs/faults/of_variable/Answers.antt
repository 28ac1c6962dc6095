-- A variable counts where it isn't bound, and its fault is less than the one that was found.
use Rattle.std.proofs.Common.{◌∙◌, ap, map, sym, Some}
use Rattle.std.specs.Prelude.{if◌then◌else◌}
use Rattle.query_model.specs.declared.faults.FaultKind.TheVariants.{UnboundVariable}
use Rattle.query_check.specs.Seen.{seen_occurrence}
use Rattle.query_model.specs.Faults.{fault_at}
use Rattle.query_model.specs.Scope.{owner}
use Rattle.query_model.specs.Seen.{seen_part}
use Rattle.query_check.proofs.BoundVariables.{bound_stays, unbound_counts}
use Rattle.query_check.proofs.faults.of_variable.Goals as goal

pub returns-then-is_bound : goal.returns-then-is_bound
returns-then-is_bound c = λ o same rooted.
    bound_stays (map seen_part c.args.parts.now) o (seen_occurrence c.args.occurrence.now) same c.owner-owner.result
    (c.owner-owner.ensures o.path (sym (ap (λ s. s.level) same)) rooted ∙ ap (λ all. owner all c.args.occurrence.now.name.now o.path) c.requires.occurrences)
    c.args.found (sym c.if-eq.false ∙ c.eq.ensures) (sym c.if-is_bound.true ∙ c.is_bound.ensures)

pub returns : goal.returns
returns c = λ o same rooted.
    unbound_counts (map seen_part c.args.parts.now) o (seen_occurrence c.args.occurrence.now) same c.owner-owner.result
    (c.owner-owner.ensures o.path (sym (ap (λ s. s.level) same)) rooted ∙ ap (λ all. owner all c.args.occurrence.now.name.now o.path) c.requires.occurrences)
    c.args.found (sym c.if-eq.false ∙ c.eq.ensures) (sym c.if-is_bound.false ∙ c.is_bound.ensures)
    (c.is_less.ensures ∙ ap (λ b. if b then Some (fault_at UnboundVariable c.args.occurrence.now.span) else c.args.found) c.if-not-is_less.false)
