use Rattle.std.proofs.Common.{◌&&◌, not, arith, refl}
use Rattle.id_pattern.specs.Patterns.{matches_some}
use Rattle.id_pattern.specs.SamePattern.{pattern_eq}
use Rattle.component_index.proofs.ListedLemmas.{Adds-begin, Adds-more, Adds-end, Keeps-more, Adds-each_new, Keeps-each_new}
use Rattle.id_pattern.proofs.Errors.{on_err}
use Rattle.component_index.proofs.lists.list_each.Goals as goal

pub loop-pattern-init : goal.loop-pattern-init
loop-pattern-init g c = (Adds-begin (λ one p. pattern_eq one p && not (matches_some p c.args.before.now)) c.args.patterns.now c.args.key c.args.lists.now, c.requires)

pub returns-in_err-list_new-clause-refused : goal.returns-in_err-list_new-clause-refused
returns-in_err-list_new-clause-refused g c =
    on_err c.from_residual.result
    (Keeps-each_new pattern_eq (λ p. matches_some p c.args.before.now) c.args.patterns.now c.args.key c.args.lists.now c.list_new.new.lists
    (Keeps-more (λ one p. pattern_eq one p && not (matches_some p c.args.before.now)) c.args.patterns.now c.args.key c.args.lists.now c.loop-pattern.lists c.list_new.new.lists c.loop-pattern.pattern-index _ _ refl (omega arith) c.loop-pattern.invariant.0 c.in_err-list_new.ensures.refused))

pub loop-pattern-preserved : goal.loop-pattern-preserved
loop-pattern-preserved g c = (
  Adds-more (λ one p. pattern_eq one p && not (matches_some p c.args.before.now)) c.args.patterns.now c.args.key c.args.lists.now c.loop-pattern.lists c.list_new.new.lists c.loop-pattern.pattern-index _ _ refl (omega arith) c.loop-pattern.invariant.0 c.in_ok-list_new.ensures.listed,
  c.in_ok-list_new.ensures.newest,
)

pub returns-clause-listed : goal.returns-clause-listed
returns-clause-listed g c =
    Adds-each_new pattern_eq (λ p. matches_some p c.args.before.now) c.args.patterns.now c.args.key c.args.lists.now c.loop-pattern.lists
    (Adds-end (λ one p. pattern_eq one p && not (matches_some p c.args.before.now)) c.args.patterns.now c.args.key c.args.lists.now c.loop-pattern.lists c.loop-pattern.pattern-index (omega arith) c.loop-pattern.invariant.0)
