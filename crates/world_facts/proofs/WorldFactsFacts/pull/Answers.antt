use Rattle.world_facts.proofs.WorldFactsFacts.pull.Goals as goal

pub returns-clause-next : goal.returns-clause-next
returns-clause-next g c = rw (← c.self.view_is) c.pull.ensures.next
