use Rattle.std.proofs.Common.{◌∙◌, sym}
use Rattle.rel_travel.proofs.SearchRounds.{sought_behind, sought_first}
use Rattle.rel_travel.proofs.spread.Spread.seek.Goals as goal

-- it goes on
pub returns-then-asks_for-clause-sought : goal.returns-then-asks_for-clause-sought
returns-then-asks_for-clause-sought g c = λ next sought. c.asks_for.ensures.sought next c.if-asks_for.true sought

-- it begins again
pub returns-then-not-is_complete-clause-sought : goal.returns-then-not-is_complete-clause-sought
returns-then-not-is_complete-clause-sought g c = λ next sought.
    let s = c.begin.new.self in
    sought_first next c.args.start c.args.index s.is_alone s.found.items s.done c.begin.ensures.items c.begin.ensures.done

-- it begins after what leads to no others
pub returns-clause-sought : goal.returns-clause-sought
returns-clause-sought g c = λ next sought.
    let items = c.args.self.now.found.items in
    let closed = c.is_complete.ensures next c.if-not-is_complete.false sought in
    rw (c.add.ensures.items, c.len-self.ensures.count) (sought_behind next c.args.start c.args.index items closed (sym c.is_found.ensures ∙ c.if-is_found.false))
