use Rattle.std.proofs.Common.{leb, rules, subst, sym}
use Rattle.std.proofs.lemmas.List.{take_rest}
use Rattle.std.proofs.lemmas.List.Sorted.{IsPartitionPoint-from_clause, IsPartitionedBy-leb}
use Rattle.std.specs.List.{Contains}
use Rattle.ecs_id.specs.declared.TableKey.{TableKey}
use Rattle.table_store.proofs.Order.{IsRising, newer_above, newer_listed, non_decreasing, rising_drop}
use Rattle.query_cache.proofs.kept.newer.Goals as goal

pub returns-clause-listed : goal.returns-clause-listed
returns-clause-listed c =
    let keys = c.args.keys.now in
    let parted = IsPartitionedBy-leb (λ (k : TableKey). k.serial) keys c.args.serial (non_decreasing keys c.requires) in
    let point = IsPartitionPoint-from_clause (λ (k : TableKey). leb k.serial c.args.serial) keys c.partition_point-known.result c.partition_point-known.ensures.partitioned parted (λ a r f k. search rules) in
    λ q has greater. subst (λ l. Contains l q) (sym (take_rest keys c.partition_point-known.result)) (newer_listed keys c.args.serial c.partition_point-known.result point q has greater)

pub returns-clause-newer : goal.returns-clause-newer
returns-clause-newer c =
    let keys = c.args.keys.now in
    let parted = IsPartitionedBy-leb (λ (k : TableKey). k.serial) keys c.args.serial (non_decreasing keys c.requires) in
    let point = IsPartitionPoint-from_clause (λ (k : TableKey). leb k.serial c.args.serial) keys c.partition_point-known.result c.partition_point-known.ensures.partitioned parted (λ a r f k. search rules) in
    λ q has. newer_above keys c.args.serial c.partition_point-known.result point q (subst (λ l. Contains l q) (take_rest keys c.partition_point-known.result) has)

pub returns-clause-rising : goal.returns-clause-rising
returns-clause-rising c = subst IsRising (sym (take_rest c.args.keys.now c.partition_point-known.result)) (rising_drop c.partition_point-known.result c.args.keys.now c.requires)
