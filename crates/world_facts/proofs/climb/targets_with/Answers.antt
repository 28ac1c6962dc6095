use Rattle.std.proofs.Common.{refl}
use Rattle.world_facts.proofs.Targets.{none_later, some_later}
use Rattle.world_facts.proofs.climb.targets_with.Goals as goal

pub returns-then-is_any : goal.returns-then-is_any
returns-then-is_any c = some_later c.args.relationship c.args.target c.args.later.now (rw c.pairs_pattern.ensures at c.if-is_any.ensures)

pub returns-else-is_any : goal.returns-else-is_any
returns-else-is_any c = rw (none_later c.args.relationship c.args.later.now (rw c.pairs_pattern.ensures at c.if-is_any.ensures)) refl
