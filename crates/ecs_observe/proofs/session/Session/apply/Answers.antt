use Rattle.std.proofs.Common.{arith}
use Rattle.std.proofs.Common.{ap, refl, subst, sym, ◌∙◌}
use Rattle.ecs_model.specs.Orders.{MakeComponent, MakeEntity, MakeFresh, command_of}
use Rattle.ecs_model.specs.stored.Session.{Answer, apply}
use Rattle.ecs_model.specs.steps.Step.{Component, Entity, Fresh}
use Rattle.ecs_observe.specs.Answers.{born, none_born}
use Rattle.ecs_observe.specs.Commands.{CountsApply, ListsApply, answered, order_of}
use Rattle.ecs_observe.specs.Standing.{session_of}
use Rattle.ecs_observe.specs.declared.applying.Command.{Command}
use Rattle.ecs_archetypes.specs.Staying.{TablesStay, stay_all, stay_same}
use Rattle.table_store.specs.Going.{goes_on_same, TablesGoOn}
use Rattle.ecs_observe.proofs.CommandForms.{as_obeyed, as_told, counts_told, less_told, more_told}
use Rattle.ecs_observe.proofs.session.Session.apply.Goals as goal

pub returns-in-New-clause-answers : goal.returns-in-New-clause-answers
unfolding command_of
returns-in-New-clause-answers g c =
    as_told (answered c.with_born.result) (born c.fresh.result) c.args.self.now c.fresh.new.self _ _ c.with_born.ensures
    (as_obeyed (session_of c.args.self.now) (MakeFresh) (Fresh) refl ∙ ap (λ (o : Command g.row.A.Denot). apply (session_of c.args.self.now) (order_of o)) (sym c.in-New.is)) c.fresh.ensures.answers

pub returns-in-Entity-clause-answers : goal.returns-in-Entity-clause-answers
unfolding command_of
returns-in-Entity-clause-answers g c =
    as_told (answered c.with_born-in-Entity.result) (born c.entity.result) c.args.self.now c.entity.new.self _ _ c.with_born-in-Entity.ensures
    (as_obeyed (session_of c.args.self.now) (MakeEntity c.in-Entity.name.now) (Entity c.in-Entity.name.now) refl ∙ ap (λ (o : Command g.row.A.Denot). apply (session_of c.args.self.now) (order_of o)) (sym c.in-Entity.is)) c.entity.ensures.answers

pub returns-in-Component-clause-answers : goal.returns-in-Component-clause-answers
unfolding command_of
returns-in-Component-clause-answers g c =
    as_told (answered c.with_born-in-Component.result) (born c.component.result) c.args.self.now c.component.new.self _ _ c.with_born-in-Component.ensures
    (as_obeyed (session_of c.args.self.now) (MakeComponent c.in-Component.name.now c.in-Component.schema) (Component c.in-Component.name.now c.in-Component.schema) refl ∙ ap (λ (o : Command g.row.A.Denot). apply (session_of c.args.self.now) (order_of o)) (sym c.in-Component.is)) c.component.ensures.answers

pub returns-in-Store-clause-goes_on : goal.returns-in-Store-clause-goes_on
returns-in-Store-clause-goes_on g c = subst (TablesGoOn c.args.self.now.world.tables) (sym c.store.ensures.tables) (goes_on_same c.args.self.now.world.tables)

pub returns-in-Drop-clause-goes_on : goal.returns-in-Drop-clause-goes_on
returns-in-Drop-clause-goes_on g c = subst (TablesGoOn c.args.self.now.world.tables) (sym c.drop_stored.ensures.tables) (goes_on_same c.args.self.now.world.tables)

pub returns-in-New-clause-stay : goal.returns-in-New-clause-stay
returns-in-New-clause-stay g c = stay_all c.fresh.ensures.stay

pub returns-in-Entity-clause-stay : goal.returns-in-Entity-clause-stay
returns-in-Entity-clause-stay g c = stay_all c.entity.ensures.stay

pub returns-in-Component-clause-stay : goal.returns-in-Component-clause-stay
returns-in-Component-clause-stay g c = stay_all c.component.ensures.stay

pub returns-in-Remove-clause-stay : goal.returns-in-Remove-clause-stay
returns-in-Remove-clause-stay g c = stay_all c.remove_from.ensures.stay

pub returns-in-Store-clause-stay : goal.returns-in-Store-clause-stay
returns-in-Store-clause-stay g c = subst (TablesStay _ c.args.self.now.world.tables) (sym c.store.ensures.tables) (stay_same _ c.args.self.now.world.tables)

pub returns-in-Drop-clause-stay : goal.returns-in-Drop-clause-stay
returns-in-Drop-clause-stay g c = subst (TablesStay _ c.args.self.now.world.tables) (sym c.drop_stored.ensures.tables) (stay_same _ c.args.self.now.world.tables)

pub entity-requires-text-name : goal.entity-requires-text-name
entity-requires-text-name g c κs within = grind arith

pub component-requires-text-name : goal.component-requires-text-name
component-requires-text-name g c κs within = grind arith

pub store-requires-text-name : goal.store-requires-text-name
store-requires-text-name g c κs within = grind arith

pub store-requires-text-text : goal.store-requires-text-text
store-requires-text-text g c κs within = grind arith

pub drop_stored-requires-text-name : goal.drop_stored-requires-text-name
drop_stored-requires-text-name g c κs within = grind arith

pub returns-in-New-clause-lists : goal.returns-in-New-clause-lists
returns-in-New-clause-lists g c = grind arith

pub returns-in-New-clause-goes_on : goal.returns-in-New-clause-goes_on
returns-in-New-clause-goes_on g c = grind arith

pub returns-in-New-clause-compared : goal.returns-in-New-clause-compared
returns-in-New-clause-compared g c = grind arith

pub returns-in-New-clause-counted : goal.returns-in-New-clause-counted
returns-in-New-clause-counted g c = grind arith

pub returns-in-New-clause-grows : goal.returns-in-New-clause-grows
returns-in-New-clause-grows g c = grind arith

pub returns-in-Entity-clause-lists : goal.returns-in-Entity-clause-lists
returns-in-Entity-clause-lists g c = grind arith

pub returns-in-Entity-clause-goes_on : goal.returns-in-Entity-clause-goes_on
returns-in-Entity-clause-goes_on g c = grind arith

pub returns-in-Entity-clause-compared : goal.returns-in-Entity-clause-compared
returns-in-Entity-clause-compared g c = grind arith

pub returns-in-Entity-clause-counted : goal.returns-in-Entity-clause-counted
returns-in-Entity-clause-counted g c = grind arith

pub returns-in-Entity-clause-grows : goal.returns-in-Entity-clause-grows
returns-in-Entity-clause-grows g c = grind arith

pub returns-in-Component-clause-lists : goal.returns-in-Component-clause-lists
returns-in-Component-clause-lists g c = grind arith

pub returns-in-Component-clause-goes_on : goal.returns-in-Component-clause-goes_on
returns-in-Component-clause-goes_on g c = grind arith

pub returns-in-Component-clause-compared : goal.returns-in-Component-clause-compared
returns-in-Component-clause-compared g c = grind arith

pub returns-in-Component-clause-counted : goal.returns-in-Component-clause-counted
returns-in-Component-clause-counted g c = grind arith

pub returns-in-Component-clause-grows : goal.returns-in-Component-clause-grows
returns-in-Component-clause-grows g c = grind arith

pub returns-in-Add-clause-answers : goal.returns-in-Add-clause-answers
returns-in-Add-clause-answers g c =
    as_told (answered c.with_done.result) (none_born c.add_to.result) c.args.self.now c.add_to.new.self _ _ c.with_done.ensures
    (ap (λ (o : Command g.row.A.Denot). apply (session_of c.args.self.now) (order_of o)) (sym c.in-Add.is)) c.add_to.ensures.answers

pub returns-in-Add-clause-lists : goal.returns-in-Add-clause-lists
returns-in-Add-clause-lists g c = grind arith

pub returns-in-Add-clause-goes_on : goal.returns-in-Add-clause-goes_on
returns-in-Add-clause-goes_on g c = grind arith

pub returns-in-Add-clause-stay : goal.returns-in-Add-clause-stay
returns-in-Add-clause-stay g c = grind arith

pub returns-in-Add-clause-compared : goal.returns-in-Add-clause-compared
returns-in-Add-clause-compared g c = grind arith

pub returns-in-Add-clause-counted : goal.returns-in-Add-clause-counted
returns-in-Add-clause-counted g c = grind arith

pub returns-in-Add-clause-grows : goal.returns-in-Add-clause-grows
returns-in-Add-clause-grows g c = grind arith

pub returns-in-Set-clause-answers : goal.returns-in-Set-clause-answers
returns-in-Set-clause-answers g c =
    as_told (answered c.with_done-in-Set.result) (none_born c.set_in.result) c.args.self.now c.set_in.new.self _ _ c.with_done-in-Set.ensures
    (ap (λ (o : Command g.row.A.Denot). apply (session_of c.args.self.now) (order_of o)) (sym c.in-Set.is)) c.set_in.ensures.answers

pub returns-in-Set-clause-lists : goal.returns-in-Set-clause-lists
returns-in-Set-clause-lists g c = grind arith

pub returns-in-Set-clause-goes_on : goal.returns-in-Set-clause-goes_on
returns-in-Set-clause-goes_on g c = grind arith

pub returns-in-Set-clause-stay : goal.returns-in-Set-clause-stay
returns-in-Set-clause-stay g c = grind arith

pub returns-in-Set-clause-compared : goal.returns-in-Set-clause-compared
returns-in-Set-clause-compared g c = grind arith

pub returns-in-Set-clause-counted : goal.returns-in-Set-clause-counted
returns-in-Set-clause-counted g c = grind arith

pub returns-in-Set-clause-grows : goal.returns-in-Set-clause-grows
returns-in-Set-clause-grows g c = grind arith

pub returns-in-Remove-clause-answers : goal.returns-in-Remove-clause-answers
returns-in-Remove-clause-answers g c =
    as_told (answered c.with_done-in-Remove.result) (none_born c.remove_from.result) c.args.self.now c.remove_from.new.self _ _ c.with_done-in-Remove.ensures
    (ap (λ (o : Command g.row.A.Denot). apply (session_of c.args.self.now) (order_of o)) (sym c.in-Remove.is)) c.remove_from.ensures.answers

pub returns-in-Remove-clause-lists : goal.returns-in-Remove-clause-lists
returns-in-Remove-clause-lists g c = grind arith

pub returns-in-Remove-clause-goes_on : goal.returns-in-Remove-clause-goes_on
returns-in-Remove-clause-goes_on g c = grind arith

pub returns-in-Remove-clause-compared : goal.returns-in-Remove-clause-compared
returns-in-Remove-clause-compared g c = grind arith

pub returns-in-Remove-clause-counted : goal.returns-in-Remove-clause-counted
returns-in-Remove-clause-counted g c = grind arith

pub returns-in-Remove-clause-grows : goal.returns-in-Remove-clause-grows
returns-in-Remove-clause-grows g c = grind arith

pub returns-in-Delete-clause-answers : goal.returns-in-Delete-clause-answers
returns-in-Delete-clause-answers g c =
    as_told (answered c.with_done-in-Delete.result) (none_born c.delete_one.result) c.args.self.now c.delete_one.new.self _ _ c.with_done-in-Delete.ensures
    (ap (λ (o : Command g.row.A.Denot). apply (session_of c.args.self.now) (order_of o)) (sym c.in-Delete.is)) c.delete_one.ensures.answers

pub returns-in-Delete-clause-lists : goal.returns-in-Delete-clause-lists
returns-in-Delete-clause-lists g c = grind arith

pub returns-in-Delete-clause-goes_on : goal.returns-in-Delete-clause-goes_on
returns-in-Delete-clause-goes_on g c = grind arith

pub returns-in-Delete-clause-stay : goal.returns-in-Delete-clause-stay
returns-in-Delete-clause-stay g c = grind arith

pub returns-in-Delete-clause-compared : goal.returns-in-Delete-clause-compared
returns-in-Delete-clause-compared g c = grind arith

pub returns-in-Delete-clause-counted : goal.returns-in-Delete-clause-counted
returns-in-Delete-clause-counted g c = grind arith

pub returns-in-Delete-clause-grows : goal.returns-in-Delete-clause-grows
returns-in-Delete-clause-grows g c = grind arith

pub returns-in-Store-clause-answers : goal.returns-in-Store-clause-answers
returns-in-Store-clause-answers g c =
    as_told (answered c.with_done-in-Store.result) (none_born c.store.result) c.args.self.now c.store.new.self _ _ c.with_done-in-Store.ensures
    (ap (λ (o : Command g.row.A.Denot). apply (session_of c.args.self.now) (order_of o)) (sym c.in-Store.is)) c.store.ensures.answers

pub returns-in-Store-clause-lists : goal.returns-in-Store-clause-lists
returns-in-Store-clause-lists g c =
    subst (λ (o : Command g.row.A.Denot). ListsApply (order_of o) c.with_done-in-Store.result c.args.self.now c.store.new.self) (sym c.in-Store.is)
    (more_told c.store.result c.with_done-in-Store.result c.with_done-in-Store.ensures c.in-Store.name.now c.args.self.now c.store.new.self c.store.ensures.lists, c.store.ensures.tables)

pub returns-in-Store-clause-compared : goal.returns-in-Store-clause-compared
returns-in-Store-clause-compared g c = grind arith

pub returns-in-Store-clause-counted : goal.returns-in-Store-clause-counted
returns-in-Store-clause-counted g c =
    subst (λ (o : Command g.row.A.Denot). CountsApply (order_of o) c.with_done-in-Store.result c.args.self.now c.store.new.self) (sym c.in-Store.is)
    (counts_told c.store.result c.with_done-in-Store.result c.with_done-in-Store.ensures c.in-Store.kind c.in-Store.text.now c.args.self.now c.store.new.self c.store.ensures.counted)

pub returns-in-Store-clause-grows : goal.returns-in-Store-clause-grows
returns-in-Store-clause-grows g c = grind arith

pub returns-in-Drop-clause-answers : goal.returns-in-Drop-clause-answers
returns-in-Drop-clause-answers g c =
    as_told (answered c.with_done-in-Drop.result) (none_born c.drop_stored.result) c.args.self.now c.drop_stored.new.self _ _ c.with_done-in-Drop.ensures
    (ap (λ (o : Command g.row.A.Denot). apply (session_of c.args.self.now) (order_of o)) (sym c.in-Drop.is)) c.drop_stored.ensures.answers

pub returns-in-Drop-clause-lists : goal.returns-in-Drop-clause-lists
returns-in-Drop-clause-lists g c =
    subst (λ (o : Command g.row.A.Denot). ListsApply (order_of o) c.with_done-in-Drop.result c.args.self.now c.drop_stored.new.self) (sym c.in-Drop.is)
    (less_told c.drop_stored.result c.with_done-in-Drop.result c.with_done-in-Drop.ensures c.in-Drop.name.now c.args.self.now c.drop_stored.new.self c.drop_stored.ensures.lists, c.drop_stored.ensures.tables)

pub returns-in-Drop-clause-compared : goal.returns-in-Drop-clause-compared
returns-in-Drop-clause-compared g c = grind arith

pub returns-in-Drop-clause-counted : goal.returns-in-Drop-clause-counted
returns-in-Drop-clause-counted g c = grind arith

pub returns-in-Drop-clause-grows : goal.returns-in-Drop-clause-grows
returns-in-Drop-clause-grows g c = grind arith
