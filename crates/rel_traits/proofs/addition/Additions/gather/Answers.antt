use Rattle.std.proofs.Common.{subst, sym}
use Rattle.std.specs.List.{All, Contains}
use Rattle.rel_traits.specs.FactLists.{IsOfLive}
use Rattle.rel_traits.specs.Copies.{IsJoined}
use Rattle.rel_traits.proofs.ComingFacts.{copies_live, tells_addition}
use Rattle.rel_traits.proofs.SeenWorlds.{of_first}
use Rattle.rel_traits.proofs.addition.Additions.gather.Goals as goal

pub closure_add-requires-clause-first : goal.closure_add-requires-clause-first
closure_add-requires-clause-first g c = of_first (Contains (g.G.Graph.entities c.args.graph.now)) c.args.fact.1 c.requires.mentions

pub returns-clause-tells : goal.returns-clause-tells
returns-clause-tells g c =
    tells_addition (g.G.Graph.entities c.args.graph.now) (g.G.Graph.ids c.args.graph.now) c.args.fact c.requires.entity c.requires.mentions
    c.closure_add.new.added.items c.deref-3.result.now c.deref.result.now c.deref-2.result.now c.list_new.new.came.items c.list_copies.new.copies.items c.join_copies.new.came.items c.replaced_by.new.replaced.items
    c.in_ok-self.field-0
    c.deref-3.ensures.value c.deref.ensures.value c.deref-2.ensures.value
    c.in_ok-closure_add.ensures.added c.in_ok-list_new.ensures c.in_ok-replaced_by.ensures c.in_ok-self.ensures.base c.in_ok-self.ensures.copies
    (subst (λ xs. IsJoined c.in_ok-self.field-0 c.list_new.new.came.items xs c.join_copies.new.came.items) c.deref-4.ensures.value c.in_ok-join_copies.ensures)

pub returns-clause-live : goal.returns-clause-live
returns-clause-live g c = c.in_ok-closure_add.ensures.live c.requires.mentions

pub returns-clause-copies_live : goal.returns-clause-copies_live
returns-clause-copies_live g c =
    subst (All (IsOfLive (g.G.Graph.entities c.args.graph.now))) (sym c.in_ok-self.ensures.copies)
    (copies_live c.size.ensures.links c.args.fact.0 c.deref-2.result.now c.in_ok-self.field-0 c.requires.entity)
