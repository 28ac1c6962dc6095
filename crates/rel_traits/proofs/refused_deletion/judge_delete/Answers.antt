use Rattle.std.proofs.Common.{arith}
use Rattle.rel_traits.proofs.DeletedSets.{is_deletion, refer_to_found, tells_dead, tells_reason}
use Rattle.rel_traits.proofs.refused_deletion.judge_delete.Goals as goal

pub deleted-requires-clause-inside : goal.deleted-requires-clause-inside
deleted-requires-clause-inside g c = let below = (c.size.ensures.links).below c.args.index c.requires.lives in omega (arith, below, c.requires.covered)

pub reason_against-requires-clause-referrers : goal.reason_against-requires-clause-referrers
reason_against-requires-clause-referrers g c = refer_to_found (g.G.Graph.entities c.args.graph.now) (g.G.Graph.ids c.args.graph.now) c.deleted.new.scratch c.find_referrers.new.scratch c.find_referrers.ensures.same c.find_referrers.ensures.exact

pub returns-clause-found : goal.returns-clause-found
returns-clause-found g c = is_deletion (g.G.Graph.entities c.args.graph.now) (g.G.Graph.ids c.args.graph.now) c.deleted.new.scratch c.find_referrers.new.scratch c.args.index c.find_referrers.ensures.same c.deleted.ensures.least c.find_referrers.ensures.exact

pub returns-clause-dead : goal.returns-clause-dead
returns-clause-dead g c = tells_dead (g.G.Graph.entities c.args.graph.now) (g.G.Graph.ids c.args.graph.now) c.find_referrers.new.scratch

pub returns-clause-judged : goal.returns-clause-judged
returns-clause-judged g c =
    tells_reason (g.G.Graph.entities c.args.graph.now) (g.G.Graph.ids c.args.graph.now) c.find_referrers.new.scratch c.args.pins.now.entries c.args.is_spent c.reason_against.result c.reason_against.ensures
