use Rattle.component_index.proofs.ListingLemmas.{listed_once, lists_entered}
use Rattle.component_index.proofs.MentionLemmas.{listed_marked}
use Rattle.component_index.proofs.ComponentIndex.listings.Goals as goal

pub new-requires : goal.new-requires
new-requires g c = listed_marked c.self.inside.mentioned.items c.self.inside.lists c.self.inside.entered.tables c.self.invariant.0 c.self.invariant.1

pub returns-clause-entered : goal.returns-clause-entered
returns-clause-entered g c = rw c.new.ensures (lists_entered c.self.inside.entered.tables c.self.inside.lists c.self.invariant.0 c.args.self.now c.self.view_is)

pub returns-clause-once : goal.returns-clause-once
returns-clause-once g c = listed_once c.new.result
