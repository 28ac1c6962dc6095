-- By cases of the commands.
use Rattle.ecs_model.proofs.steps.RefusalNumbers.{reasons_ascend}
use Rattle.ecs_model.proofs.trait_laws.the_order_of_refusals_is_their_number.Goals as goal

pub returns : goal.returns
returns c = reasons_ascend
