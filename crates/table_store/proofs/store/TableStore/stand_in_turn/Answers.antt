use Rattle.std.proofs.Common.{IsSome, ap, subst, sym, ◌∙◌}
use Rattle.table_store.specs.Store.{table_at}
use Rattle.table_store.proofs.Slots.{table_at-slots}
use Rattle.table_store.proofs.StoreLemmas.{stored}
use Rattle.table_store.proofs.Turns.{stand_in_turn}
use Rattle.table_store.proofs.store.TableStore.stand_in_turn.Goals as goal

pub returns-then-are_in_turn-clause-stand : goal.returns-then-are_in_turn-clause-stand
returns-then-are_in_turn-clause-stand g c = λ is n low.
    let first = c.args.first in
    let there = subst IsSome (sym (table_at-slots c.self.inside.tables c.self.inside.last first) ∙ ap (λ v. table_at v first) c.self.view_is) (sym c.stands.ensures ∙ is) in
    stand_in_turn c.self.inside.tables c.self.inside.last c.args.self.now c.self.view_is c.self.inside.marks.in_turn c.self.invariant.2 first there c.args.width (c.are_in_turn.ensures c.if-are_in_turn.true) n low

pub returns-then-are_in_turn-clause-whole : goal.returns-then-are_in_turn-clause-whole
returns-then-are_in_turn-clause-whole g c = stored c.self.inside.tables c.self.inside.by_ids c.self.inside.by_serial c.self.inside.last c.self.invariant.0 c.args.self.now c.self.view_is

pub returns-else-are_in_turn-clause-whole : goal.returns-else-are_in_turn-clause-whole
returns-else-are_in_turn-clause-whole g c = stored c.self.inside.tables c.self.inside.by_ids c.self.inside.by_serial c.self.inside.last c.self.invariant.0 c.args.self.now c.self.view_is
