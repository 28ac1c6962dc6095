-- By cases of the two ids, whose indexes are in range.
use Rattle.std.proofs.Common.{sym, subst}
use Rattle.ecs_id.specs.Id.{IsId, cmp_packed}
use Rattle.ecs_id.proofs.order_is_of_packed_numbers.Goals as goal

pub returns : goal.returns
returns c = sym (cmp_packed c.args.a c.args.b (subst IsId c.a.view_is c.a.invariant) (subst IsId c.b.view_is c.b.invariant))
