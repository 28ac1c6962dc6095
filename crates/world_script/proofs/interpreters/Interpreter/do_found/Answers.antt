use Rattle.world_script.proofs.interpreters.Interpreter.do_found.Goals as goal

pub returns-in-Set : goal.returns-in-Set
returns-in-Set g c = λ r i found. rw c.in-Set.is (c.set_found.ensures r i found)

pub returns-in-Add : goal.returns-in-Add
returns-in-Add g c = λ r i found. rw c.in-Add.is (c.add_found.ensures r i found)

pub returns-in-Remove : goal.returns-in-Remove
returns-in-Remove g c = λ r i found. rw c.in-Remove.is (c.remove_found.ensures r i found)
