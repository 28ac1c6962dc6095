use Rattle.std.proofs.Common.{subst}
use Rattle.table_store.specs.Going.{goes_on_same}
use Rattle.ecs_observe.specs.Commands.{ListsApply, order_of}
use Rattle.ecs_observe.specs.declared.errors.SessionError.TheVariants.{Memory}
use Rattle.ecs_observe.proofs.CommandLists.{lists_apply_none}
use Rattle.ecs_observe.proofs.session.Session.apply_copy.Goals as goal

pub returns-in-Ok-clause-lists : goal.returns-in-Ok-clause-lists
returns-in-Ok-clause-lists g c = subst (λ o. ListsApply o c.apply.result c.args.self.now c.apply.new.self) c.in-Ok.ensures c.apply.ensures.lists

pub returns-in-Err-clause-lists : goal.returns-in-Err-clause-lists
returns-in-Err-clause-lists g c = lists_apply_none (order_of c.args.command.now) Memory c.args.self.now

pub returns-in-Err-clause-goes_on : goal.returns-in-Err-clause-goes_on
returns-in-Err-clause-goes_on g c = goes_on_same c.args.self.now.world.tables
