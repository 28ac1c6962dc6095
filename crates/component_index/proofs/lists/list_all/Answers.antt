use Rattle.std.proofs.Common.{arith, true≢false, sym}
use Rattle.id_pattern.specs.Patterns.{matches, matches_some}
use Rattle.component_index.proofs.ListedLemmas.{Adds-begin, Adds-new, Adds-end, Keeps-new, had-next}
use Rattle.id_pattern.proofs.Errors.{on_err}
use Rattle.component_index.proofs.lists.list_all.Goals as goal

pub loop-id-init : goal.loop-id-init
loop-id-init g c = (Adds-begin (λ id pattern. matches pattern id) c.args.ids.now c.args.key c.args.lists.now, λ p h. absurd (true≢false (sym h)), c.requires)

pub returns-in_err-list_id-clause-refused : goal.returns-in_err-list_id-clause-refused
returns-in_err-list_id-clause-refused g c =
    on_err c.from_residual.result
    (Keeps-new (λ id pattern. matches pattern id) c.args.ids.now c.args.key c.args.lists.now c.loop-id.lists c.list_id.new.lists c.loop-id.id-index c.id-item.result c.id-item.result c.id-item.is (omega arith)
    (λ p. matches_some p c.loop-id.before) c.loop-id.invariant.1 c.loop-id.invariant.0 c.in_err-list_id.ensures.refused)

pub loop-id-preserved : goal.loop-id-preserved
loop-id-preserved g c = (
  Adds-new (λ id pattern. matches pattern id) c.args.ids.now c.args.key c.args.lists.now c.loop-id.lists c.list_id.new.lists c.loop-id.id-index c.id-item.result c.id-item.result c.id-item.is (omega arith)
      (λ p. matches_some p c.loop-id.before) c.loop-id.invariant.1 c.loop-id.invariant.0 c.in_ok-list_id.ensures.listed,
  had-next (λ id pattern. matches pattern id) c.args.ids.now c.args.key c.args.lists.now c.loop-id.lists c.list_id.new.lists c.loop-id.id-index c.id-item.result c.id-item.result c.id-item.is (omega arith),
  c.in_ok-list_id.ensures.newest,
)

pub returns-clause-listed : goal.returns-clause-listed
returns-clause-listed g c = Adds-end (λ id pattern. matches pattern id) c.args.ids.now c.args.key c.args.lists.now c.loop-id.lists c.loop-id.id-index (omega arith) c.loop-id.invariant.0
