use Rattle.std.proofs.Common.{arith, true≢false, sym}
use Rattle.id_pattern.specs.Patterns.{matches, matches_some}
use Rattle.component_index.proofs.ListedLemmas.{Drops-begin, Drops-new, Drops-end, had-next}
use Rattle.component_index.proofs.lists.unlist_all.Goals as goal

pub loop-id-init : goal.loop-id-init
loop-id-init g c = (Drops-begin (λ id pattern. matches pattern id) c.args.ids.now c.args.key c.args.lists.now, λ p h. absurd (true≢false (sym h)))

pub loop-id-preserved : goal.loop-id-preserved
loop-id-preserved g c = (
  Drops-new (λ id pattern. matches pattern id) c.args.ids.now c.args.key c.args.lists.now c.loop-id.lists c.unlist_id.new.lists c.loop-id.id-index c.id-item.result c.id-item.result c.id-item.is (omega arith)
      (λ p. matches_some p c.loop-id.before) c.loop-id.invariant.1 c.loop-id.invariant.0 c.unlist_id.ensures,
  had-next (λ id pattern. matches pattern id) c.args.ids.now c.args.key c.args.lists.now c.loop-id.lists c.unlist_id.new.lists c.loop-id.id-index c.id-item.result c.id-item.result c.id-item.is (omega arith),
)

pub returns : goal.returns
returns g c = Drops-end (λ id pattern. matches pattern id) c.args.ids.now c.args.key c.args.lists.now c.loop-id.lists c.loop-id.id-index (omega arith) c.loop-id.invariant.0
