use Rattle.std.proofs.lemmas.Grind.{common_steps}
use Rattle.std.proofs.Common.{◌≡◌, ◌≤◌, ◌-◌, length, refl, sym, subst, arith}
use Rattle.rel_travel.specs.Coming.{after_turn, brought}
use Rattle.rel_travel.specs.Lists.{IsListing, Work, steps}
use Rattle.rel_travel.proofs.Pulls.{IsTurn, is_given, is_listing, none_to_come}
use Rattle.rel_travel.proofs.Turns.{all_given, one_given}
use Rattle.rel_travel.proofs.scratch.pull.Goals as goal

pub returns-then-len-list-clause-next : goal.returns-then-len-list-clause-next
returns-then-len-list-clause-next g c =
    let s = c.scratch.inside in
    let brings = brought (g.G.Holders.rows c.args.graph.now) (g.G.Holders.listed c.args.graph.now) (g.G.Graph.ids c.args.graph.now) s.list.is_upward s.list.relationship in
    let l : length s.found.items ≤ s.list.given = omega (arith, c.len.ensures.count) in
    rw (← c.scratch.view_is) (all_given brings s.list.goes_on (s.found.size - s.list.given) s.found.items s.list.given l)

pub returns-then-len-list-clause-given : goal.returns-then-len-list-clause-given
returns-then-len-list-clause-given g c listing =
    let entities = g.G.Graph.entities c.args.graph.now in
    let ids = g.G.Graph.ids c.args.graph.now in
    let s = c.scratch.inside in
    let l : length s.found.items ≤ s.list.given = omega (arith, c.len.ensures.count) in
    let none : length c.args.scratch.now.found ≤ c.args.scratch.now.given = rw (← c.scratch.view_is) l in
    (refl, none_to_come entities ids c.args.scratch.now none listing)

pub returns-then-list-clause-next : goal.returns-then-list-clause-next
returns-then-list-clause-next g c =
    let s = c.scratch.inside in
    let brings = brought (g.G.Holders.rows c.args.graph.now) (g.G.Holders.listed c.args.graph.now) (g.G.Graph.ids c.args.graph.now) s.list.is_upward s.list.relationship in
    let grown : c.follow.new.found.items ≡ after_turn brings s.list.goes_on s.found.items c.at-entity.result = rw c.if-list.true c.follow.ensures.items in
    rw (← c.scratch.view_is)
    (one_given brings s.list.goes_on s.found.size c.follow.new.found.size s.list.given s.found.items c.follow.new.found.items c.at-entity.result (omega (arith, c.len.ensures.count)) (omega (arith, c.len.ensures.count, c.len.ensures.fits)) c.follow.ensures.size c.at-entity.ensures grown)

pub returns-then-list-clause-begun : goal.returns-then-list-clause-begun
returns-then-list-clause-begun g c listing =
    let entities = g.G.Graph.entities c.args.graph.now in
    let ids = g.G.Graph.ids c.args.graph.now in
    let s = c.scratch.inside in
    let old : Work = record { size = s.found.size; found = s.found.items; referrers = s.referring.items; relationship = s.list.relationship; is_upward = s.list.is_upward; goes_on = s.list.goes_on; given = s.list.given } in
    let P : Work → Type 0 = λ w. IsListing entities ids w in
    let turn : IsTurn old.goes_on (steps entities ids old.is_upward old.relationship) c.at-entity.result old.found c.follow.new.found.items = rw c.if-list.true c.follow.ensures.grown in
    is_listing entities ids old c.follow.new.found.size c.follow.new.found.items c.at-entity.result (omega (arith, c.len.ensures.count)) c.at-entity.ensures c.len.ensures.once turn (subst P (sym c.scratch.view_is) listing)

pub returns-then-list-clause-given : goal.returns-then-list-clause-given
returns-then-list-clause-given g c listing =
    let entities = g.G.Graph.entities c.args.graph.now in
    let ids = g.G.Graph.ids c.args.graph.now in
    let s = c.scratch.inside in
    let old : Work = record { size = s.found.size; found = s.found.items; referrers = s.referring.items; relationship = s.list.relationship; is_upward = s.list.is_upward; goes_on = s.list.goes_on; given = s.list.given } in
    let P : Work → Type 0 = λ w. IsListing entities ids w in
    let turn : IsTurn old.goes_on (steps entities ids old.is_upward old.relationship) c.at-entity.result old.found c.follow.new.found.items = rw c.if-list.true c.follow.ensures.grown in
    rw (← c.scratch.view_is) (is_given entities ids old c.follow.new.found.size c.follow.new.found.items c.at-entity.result (omega (arith, c.len.ensures.count)) c.at-entity.ensures c.len.ensures.once turn (subst P (sym c.scratch.view_is) listing))

pub returns-else-list-clause-next : goal.returns-else-list-clause-next
returns-else-list-clause-next g c =
    let s = c.scratch.inside in
    let brings = brought (g.G.Holders.rows c.args.graph.now) (g.G.Holders.listed c.args.graph.now) (g.G.Graph.ids c.args.graph.now) s.list.is_upward s.list.relationship in
    let grown : s.found.items ≡ after_turn brings s.list.goes_on s.found.items c.at-entity.result = rw c.if-list.false refl in
    rw (← c.scratch.view_is)
    (one_given brings s.list.goes_on s.found.size s.found.size s.list.given s.found.items s.found.items c.at-entity.result (omega (arith, c.len.ensures.count)) (omega (arith, c.len.ensures.count, c.len.ensures.fits)) refl c.at-entity.ensures grown)

pub returns-else-list-clause-given : goal.returns-else-list-clause-given
returns-else-list-clause-given g c listing =
    let entities = g.G.Graph.entities c.args.graph.now in
    let ids = g.G.Graph.ids c.args.graph.now in
    let s = c.scratch.inside in
    let old : Work = record { size = s.found.size; found = s.found.items; referrers = s.referring.items; relationship = s.list.relationship; is_upward = s.list.is_upward; goes_on = s.list.goes_on; given = s.list.given } in
    let P : Work → Type 0 = λ w. IsListing entities ids w in
    let turn : IsTurn old.goes_on (steps entities ids old.is_upward old.relationship) c.at-entity.result old.found old.found = rw c.if-list.false refl in
    rw (← c.scratch.view_is) (is_given entities ids old s.found.size old.found c.at-entity.result (omega (arith, c.len.ensures.count)) c.at-entity.ensures c.len.ensures.once turn (subst P (sym c.scratch.view_is) listing))

pub returns-then-len-list-clause-size : goal.returns-then-len-list-clause-size
returns-then-len-list-clause-size g c = grind arith

pub returns-then-len-list-clause-begun : goal.returns-then-len-list-clause-begun
returns-then-len-list-clause-begun g c = grind arith

pub returns-then-len-list-clause-fits : goal.returns-then-len-list-clause-fits
returns-then-len-list-clause-fits g c = grind (arith, common_steps)

pub at-entity-requires : goal.at-entity-requires
at-entity-requires g c = grind arith

pub overflow_add-scratch : goal.overflow_add-scratch
overflow_add-scratch g c = grind arith

pub follow-requires : goal.follow-requires
follow-requires g c = grind arith

pub invariant_of-scratch : goal.invariant_of-scratch
invariant_of-scratch g c = grind arith

pub invariant_of-scratch-else-list : goal.invariant_of-scratch-else-list
invariant_of-scratch-else-list g c = grind arith

pub returns-then-list-clause-size : goal.returns-then-list-clause-size
returns-then-list-clause-size g c = grind arith

pub returns-then-list-clause-fits : goal.returns-then-list-clause-fits
returns-then-list-clause-fits g c = grind (arith, common_steps)

pub returns-else-list-clause-size : goal.returns-else-list-clause-size
returns-else-list-clause-size g c = grind arith

pub returns-else-list-clause-begun : goal.returns-else-list-clause-begun
returns-else-list-clause-begun g c = grind arith

pub returns-else-list-clause-fits : goal.returns-else-list-clause-fits
returns-else-list-clause-fits g c = grind (arith, common_steps)
