use Rattle.std.proofs.Common.{ap, arith, subst, sym, ◌≡◌, ◌+◌, ◌<◌, ◌∙◌}
use Rattle.query_cache.specs.TableList.{keeps, key_at}
use Rattle.query_cache.proofs.BlockBits.{AreLeft, begun, left_block, left_keys, one_goes, one_stays}
use Rattle.query_cache.proofs.FilledBlocks.{all_stay}
use Rattle.query_cache.proofs.table_block.Block.retain.Goals as goal
use Rattle.query_cache.proofs.table_block.Block.retain.Goals.{else-not-keeps, then-not-keeps}

pub returns-then-keeps_run-clause-keys : goal.returns-then-keeps_run-clause-keys
returns-then-keeps_run-clause-keys g c =
    let b = c.args.self.now in
    let keep = keeps c.args.keep.now in
    let slot = c.first.ensures.slot in
    let serial = c.first.ensures.serial in
    left_keys b keep b.bits (all_stay b keep (λ n low. ap keep (λ i. record { slot = sym slot i + n; serial = sym serial i + n }) ∙ c.keeps_run.ensures c.if-keeps_run.true n low))

pub loop-bit-init : goal.loop-bit-init
loop-bit-init g c = begun c.args.self.now (keeps c.args.keep.now)

pub loop-bit-preserved : goal.loop-bit-preserved
loop-bit-preserved g c =
    let b = c.args.self.now in
    let keep = keeps c.args.keep.now in
    let n = c.loop-bit.bit in
    let small : n < 64 = omega (arith, c.loop-bit-test.true, c.loop-bit.auto.bit-end, c.requires.block.width) in
    let told : keep (key_at b n) ≡ c.keeps.result = ap keep (sym c.key_at.ensures) ∙ sym c.keeps.ensures in
    elim c.if-not-keeps.branch [
      | then-not-keeps w ↦ subst (AreLeft b keep (n + 1)) (sym w.kept-is) (one_goes b keep n c.loop-bit.kept small c.loop-bit.invariant (told ∙ w.if-not-keeps.true))
      | else-not-keeps w ↦ subst (AreLeft b keep (n + 1)) (sym w.kept-is) (one_stays b keep n c.loop-bit.kept small c.loop-bit.invariant (told ∙ w.if-not-keeps.false))
    ]

pub returns-clause-keys : goal.returns-clause-keys
returns-clause-keys g c =
    let b = c.args.self.now in
    let keep = keeps c.args.keep.now in
    left_keys b keep c.loop-bit.kept (subst (λ n. AreLeft b keep n c.loop-bit.kept) (omega (arith, c.loop-bit-test.false, c.loop-bit.auto.bit-end)) c.loop-bit.invariant)

pub returns-clause-block : goal.returns-clause-block
returns-clause-block g c =
    let b = c.args.self.now in
    let keep = keeps c.args.keep.now in
    left_block b keep c.loop-bit.kept (subst (λ n. AreLeft b keep n c.loop-bit.kept) (omega (arith, c.loop-bit-test.false, c.loop-bit.auto.bit-end)) c.loop-bit.invariant) c.requires.block
