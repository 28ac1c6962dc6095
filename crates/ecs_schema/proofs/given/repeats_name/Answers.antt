use Rattle.std.proofs.Common.{◌∙◌}
use Rattle.ecs_schema.proofs.Repeats.{repeats_name-drop_more}
use Rattle.ecs_schema.proofs.given.repeats_name.Goals as goal

pub loop-i-preserved : goal.loop-i-preserved
loop-i-preserved c =
    repeats_name-drop_more c.args.fields.now c.loop-i.i _ c.repeats_first_name.ensures c.if-repeats_first_name.false ∙ c.loop-i.invariant
