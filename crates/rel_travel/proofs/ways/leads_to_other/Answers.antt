use Rattle.std.proofs.Common.{◌∷◌, ℕ, arith}
use Rattle.ecs_model.specs.Links.{upward}
use Rattle.ecs_model.proofs.LivePairs.{upward_below}
use Rattle.rel_travel.specs.Holders.{holders_of_pair}
use Rattle.rel_travel.proofs.KnownWays.{led_from}
use Rattle.rel_travel.proofs.SearchRounds.{reached_told, sought_of, sought_on}
use Rattle.rel_travel.proofs.ways.leads_to_other.Goals as goal

-- it was known
pub returns-in-Some-clause-answer : goal.returns-in-Some-clause-answer
returns-in-Some-clause-answer g c =
    let down = λ (x : ℕ). holders_of_pair (g.G.Graph.entities c.args.graph.now) (g.G.Graph.ids c.args.graph.now) x c.args.relationship in
    let told = c.in-Some.ensures down c.requires.below in
    let led = led_from c.size.ensures.links c.args.relationship c.args.source c.args.target in
    (λ h. led.0 (told.0 h), λ h. told.1 (led.1 h))

pub go_on_until-leads-requires-clause-closed : goal.go_on_until-leads-requires-clause-closed
go_on_until-leads-requires-clause-closed g c =
    let size = c.seek.ensures.size in
    let covered = c.requires.covered in
    let wider = c.requires.wider in
    upward_below c.size.ensures.links c.args.relationship c.seek.new.self.found.size (omega (arith, size, covered, wider))

-- it is searched for, and led there or not
pub returns-then-leads-clause-above : goal.returns-then-leads-clause-above
returns-then-leads-clause-above g c =
    let up = upward (g.G.Graph.ids c.args.graph.now) c.args.relationship in
    let s = c.seek.new.self in
    let for = c.seek.ensures.sought up c.requires.above in
    let found = c.go_on_until-leads.new.found.items in
    let done = c.go_on_until-leads.new.done in
    sought_of up s.start c.args.source s.is_alone found done c.seek.ensures.start (sought_on up c.args.source s.is_alone s.found.items found s.done done c.go_on_until-leads.ensures.followed for.0)

pub returns-else-leads-clause-above : goal.returns-else-leads-clause-above
returns-else-leads-clause-above g c =
    let up = upward (g.G.Graph.ids c.args.graph.now) c.args.relationship in
    let s = c.seek.new.self in
    let for = c.seek.ensures.sought up c.requires.above in
    let found = c.go_on_until-leads.new.found.items in
    let done = c.go_on_until-leads.new.done in
    sought_of up s.start c.args.source s.is_alone found done c.seek.ensures.start (sought_on up c.args.source s.is_alone s.found.items found s.done done c.go_on_until-leads.ensures.followed for.0)

pub returns-then-leads-clause-answer : goal.returns-then-leads-clause-answer
returns-then-leads-clause-answer g c =
    let up = upward (g.G.Graph.ids c.args.graph.now) c.args.relationship in
    let s = c.seek.new.self in
    let for = c.seek.ensures.sought up c.requires.above in
    reached_told up c.args.source c.args.target s.is_alone s.found.items s.done for c.go_on_until-leads.result (c.go_on_until-leads.ensures.reached (c.args.source ∷ (for.0).left) (for.0).followed)

pub returns-else-leads-clause-answer : goal.returns-else-leads-clause-answer
returns-else-leads-clause-answer g c =
    let up = upward (g.G.Graph.ids c.args.graph.now) c.args.relationship in
    let s = c.seek.new.self in
    let for = c.seek.ensures.sought up c.requires.above in
    reached_told up c.args.source c.args.target s.is_alone s.found.items s.done for c.go_on_until-leads.result (c.go_on_until-leads.ensures.reached (c.args.source ∷ (for.0).left) (for.0).followed)

pub tells-requires : goal.tells-requires
tells-requires g c = grind arith

pub returns-in-Some-clause-above_size : goal.returns-in-Some-clause-above_size
returns-in-Some-clause-above_size g c = grind arith

pub returns-in-Some-clause-below_size : goal.returns-in-Some-clause-below_size
returns-in-Some-clause-below_size g c = grind arith

pub returns-in-Some-clause-above : goal.returns-in-Some-clause-above
returns-in-Some-clause-above g c = grind arith

pub returns-in-Some-clause-below : goal.returns-in-Some-clause-below
returns-in-Some-clause-below g c = grind arith

pub seek-requires-clause-start : goal.seek-requires-clause-start
seek-requires-clause-start g c = grind arith

pub seek-requires-clause-index : goal.seek-requires-clause-index
seek-requires-clause-index g c = grind arith

pub go_on_until-leads-requires-clause-inside : goal.go_on_until-leads-requires-clause-inside
go_on_until-leads-requires-clause-inside g c = grind arith

pub overflow_sub-above : goal.overflow_sub-above
overflow_sub-above g c = grind arith

pub go_on_below-requires-clause-covered : goal.go_on_below-requires-clause-covered
go_on_below-requires-clause-covered g c = grind arith

pub go_on_below-requires-clause-target : goal.go_on_below-requires-clause-target
go_on_below-requires-clause-target g c = grind arith

pub go_on_below-requires-clause-sought : goal.go_on_below-requires-clause-sought
go_on_below-requires-clause-sought g c = grind arith

pub returns-then-leads-clause-above_size : goal.returns-then-leads-clause-above_size
returns-then-leads-clause-above_size g c = grind arith

pub returns-then-leads-clause-below_size : goal.returns-then-leads-clause-below_size
returns-then-leads-clause-below_size g c = grind arith

pub returns-then-leads-clause-below : goal.returns-then-leads-clause-below
returns-then-leads-clause-below g c = grind arith

pub returns-else-leads-clause-above_size : goal.returns-else-leads-clause-above_size
returns-else-leads-clause-above_size g c = grind arith

pub returns-else-leads-clause-below_size : goal.returns-else-leads-clause-below_size
returns-else-leads-clause-below_size g c = grind arith

pub returns-else-leads-clause-below : goal.returns-else-leads-clause-below
returns-else-leads-clause-below g c = grind arith
