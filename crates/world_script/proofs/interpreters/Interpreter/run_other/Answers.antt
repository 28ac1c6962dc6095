-- The usual lines send nothing.
use Rattle.world_script.proofs.SentFronts.{does_as}
use Rattle.world_script.proofs.interpreters.Interpreter.run_other.Goals as goal

pub returns-in-Entity : goal.returns-in-Entity
returns-in-Entity g c = rw c.in-Entity.is (does_as c.run_entity_line.result _ c.unsent.ensures c.run_entity_line.ensures)

pub returns-in-Delete : goal.returns-in-Delete
returns-in-Delete g c = rw c.in-Delete.is (does_as c.run_delete_line.result _ c.unsent-in-Delete.ensures c.run_delete_line.ensures)

pub returns-in-New : goal.returns-in-New
returns-in-New g c = rw c.in-New.is (does_as c.run_new.result _ c.unsent-in-New.ensures c.run_new.ensures)
