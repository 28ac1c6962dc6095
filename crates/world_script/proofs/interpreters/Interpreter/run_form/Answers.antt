-- Lines but those that ask for rows send nothing.
use Rattle.std.proofs.Common.{refl}
use Rattle.std.specs.Prelude.{Ok, false}
use Rattle.ecs_observe.specs.Standing.{session_of}
use Rattle.world_script.proofs.Orders.{IsDone-nothing, IfOk-long, IfOk-bad}
use Rattle.world_script.proofs.SentFronts.{does_as}
use Rattle.world_script.proofs.interpreters.Interpreter.run_form.Goals as goal

pub returns-in-Nothing : goal.returns-in-Nothing
returns-in-Nothing g c = rw c.in-Nothing.is (does_as (Ok false) _ refl (IsDone-nothing (session_of c.args.self.now.session) c.args.self.now.number c.args.self.now.output.items))

pub returns-in-TooLong : goal.returns-in-TooLong
returns-in-TooLong g c =
    rw c.in-TooLong.is
    (does_as c.refuse.result _ c.unsent.ensures
    (IfOk-long c.refuse.result (session_of c.args.self.now.session) c.args.self.now.number c.args.self.now.output.items c.refuse.new.output.items c.refuse.ensures))

pub returns-in-Bad : goal.returns-in-Bad
returns-in-Bad g c =
    rw c.in-Bad.is
    (does_as c.refuse-in-Bad.result _ c.unsent-in-Bad.ensures
    (IfOk-bad c.refuse-in-Bad.result (session_of c.args.self.now.session) c.args.self.now.number c.args.self.now.output.items c.refuse-in-Bad.new.output.items c.refuse-in-Bad.ensures))

pub returns-in-New : goal.returns-in-New
returns-in-New g c = rw c.in-New.is (does_as c.run_new.result _ c.unsent-in-New.ensures c.run_new.ensures)

pub returns-in-Entity : goal.returns-in-Entity
returns-in-Entity g c = rw c.in-Entity.is (does_as c.run_entity.result _ c.unsent-in-Entity.ensures c.run_entity.ensures)

pub returns-in-Component : goal.returns-in-Component
returns-in-Component g c = rw c.in-Component.is (does_as c.run_component.result _ c.unsent-in-Component.ensures (rw c.as_slice.ensures.value at c.run_component.ensures))

pub returns-in-Add : goal.returns-in-Add
returns-in-Add g c = rw c.in-Add.is (does_as c.run_fact.result _ c.unsent-in-Add.ensures c.run_fact.ensures)

pub returns-in-Set : goal.returns-in-Set
returns-in-Set g c = rw c.in-Set.is (does_as c.run_fact-in-Set.result _ c.unsent-in-Set.ensures c.run_fact-in-Set.ensures)

pub returns-in-Remove : goal.returns-in-Remove
returns-in-Remove g c = rw c.in-Remove.is (does_as c.run_fact-in-Remove.result _ c.unsent-in-Remove.ensures c.run_fact-in-Remove.ensures)

pub returns-in-Delete : goal.returns-in-Delete
returns-in-Delete g c = rw c.in-Delete.is (does_as c.run_delete.result _ c.unsent-in-Delete.ensures c.run_delete.ensures)

pub returns-in-Show : goal.returns-in-Show
returns-in-Show g c = rw c.in-Show.is (does_as c.run_show.result _ c.unsent-in-Show.ensures c.run_show.ensures)

pub returns-in-Store : goal.returns-in-Store
returns-in-Store g c = rw c.in-Store.is (does_as c.run_store.result _ c.unsent-in-Store.ensures c.run_store.ensures)

pub returns-in-Drop : goal.returns-in-Drop
returns-in-Drop g c = rw c.in-Drop.is (does_as c.run_drop.result _ c.unsent-in-Drop.ensures c.run_drop.ensures)
