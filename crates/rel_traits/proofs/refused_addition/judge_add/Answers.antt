use Rattle.std.proofs.Common.{arith}
use Rattle.rel_traits.proofs.ComingFacts.{targets_below, tells_refusal}
use Rattle.rel_traits.proofs.refused_addition.judge_add.Goals as goal

pub close_cycle-closes-requires-clause-entity : goal.close_cycle-closes-requires-clause-entity
close_cycle-closes-requires-clause-entity g c = let below = (c.size.ensures.links).below c.args.fact.0 c.requires.entity in omega (arith, below, c.entity.ensures, c.requires.covered)

pub close_cycle-closes-requires-clause-added : goal.close_cycle-closes-requires-clause-added
close_cycle-closes-requires-clause-added g c =
    rw (c.as_slice-added.ensures.value) (targets_below c.size.ensures.links c.args.scratch.now.size c.requires.covered c.args.additions.now.added.items c.requires.live)

pub close_cycle-closes-requires-clause-copies : goal.close_cycle-closes-requires-clause-copies
close_cycle-closes-requires-clause-copies g c =
    rw (c.as_slice-copies.ensures.value) (targets_below c.size.ensures.links c.args.scratch.now.size c.requires.covered c.args.additions.now.copies.items c.requires.copies_live)

pub returns-clause-judged : goal.returns-clause-judged
returns-clause-judged g c =
    tells_refusal (g.G.Graph.entities c.args.graph.now) (g.G.Graph.ids c.args.graph.now) c.args.fact c.requires.entity c.requires.mentions
    c.args.additions.now.base c.args.additions.now.added.items c.args.additions.now.copies.items c.args.additions.now.came.items c.args.additions.now.went.items
    c.as_slice-added.result.now c.as_slice-copies.result.now c.as_slice-came.result.now c.as_slice-went.result.now c.entity.result
    c.args.pins.now.entries c.changes_trait-changes.result c.close_cycle-closes.result c.crowds_one-crowds.result c.args.is_spent c.first_refusal.result
    c.as_slice-added.ensures.value c.as_slice-copies.ensures.value c.as_slice-came.ensures.value c.as_slice-went.ensures.value c.entity.ensures
    c.changes_trait-changes.ensures c.close_cycle-closes.ensures.closes c.crowds_one-crowds.ensures c.first_refusal.ensures
