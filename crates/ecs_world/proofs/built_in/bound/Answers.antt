use Rattle.std.proofs.lemmas.Grind.{elements}
use Rattle.std.proofs.Common.{refl, sym, ◌∙◌, arith}
use Rattle.ecs_world.proofs.AcceptedCommands.{on_ok}
use Rattle.ecs_world.proofs.FirstBuiltIns.{first_none, first_unnamed, named_all, named_step}
use Rattle.ecs_world.proofs.built_in.bound.Goals as goal

pub loop-name-init : goal.loop-name-init
loop-name-init g c = (refl, first_none c.new-names.result c.new-names.ensures.unnamed)

pub loop-name-preserved : goal.loop-name-preserved
loop-name-preserved g c =
    let ok = sym c.is_err.ensures.value ∙ c.if-is_err.false in (
      omega (arith, c.loop-name.invariant.0),
      named_step c.args.list.now c.loop-name.names c.bind.new.self c.loop-name.count c.loop-name.name-index _ c.loop-name.invariant.0 c.requires c.loop-name.invariant.1 c.loop-name-test.true
          ((on_ok c.bind.result c.bind.ensures.free ok).1) (on_ok c.bind.result c.bind.ensures.bound ok),
    )

pub bind-requires : goal.bind-requires
bind-requires g c = first_unnamed c.loop-name.names c.loop-name.count c.loop-name.invariant.1

pub returns : goal.returns
returns g c = named_all c.args.list.now c.loop-name.names c.loop-name.count c.loop-name.name-index c.loop-name.invariant.0 c.requires c.loop-name-test.false c.loop-name.auto.name-index-end c.loop-name.invariant.1

pub overflow_add-count : goal.overflow_add-count
overflow_add-count g c = grind (arith, elements)
