use Rattle.std.proofs.Common.{◌&&◌, not, arith, refl}
use Rattle.id_pattern.specs.Patterns.{matches_some}
use Rattle.id_pattern.specs.SamePattern.{pattern_eq}
use Rattle.component_index.proofs.ListedLemmas.{Drops-begin, Drops-more, Drops-end, Drops-each_new}
use Rattle.component_index.proofs.lists.unlist_each.Goals as goal

pub loop-pattern-init : goal.loop-pattern-init
loop-pattern-init g c = Drops-begin (λ one p. pattern_eq one p && not (matches_some p c.args.before.now)) c.args.patterns.now c.args.key c.args.lists.now

pub loop-pattern-preserved : goal.loop-pattern-preserved
loop-pattern-preserved g c =
    Drops-more (λ one p. pattern_eq one p && not (matches_some p c.args.before.now)) c.args.patterns.now c.args.key c.args.lists.now c.loop-pattern.lists c.unlist_new.new.lists c.loop-pattern.pattern-index _ _ refl (omega arith) c.loop-pattern.invariant c.unlist_new.ensures

pub returns : goal.returns
returns g c =
    Drops-each_new pattern_eq (λ p. matches_some p c.args.before.now) c.args.patterns.now c.args.key c.args.lists.now c.loop-pattern.lists
    (Drops-end (λ one p. pattern_eq one p && not (matches_some p c.args.before.now)) c.args.patterns.now c.args.key c.args.lists.now c.loop-pattern.lists c.loop-pattern.pattern-index (omega arith) c.loop-pattern.invariant)
