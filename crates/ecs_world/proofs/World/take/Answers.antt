-- The facts that go are taken, or memory is refused and none is.
use Rattle.std.proofs.Common.{ℕ, [], refl}
use Rattle.ecs_archetypes.specs.Housing.{holdings_of}
use Rattle.ecs_model.specs.World.{key_cmp}
use Rattle.ecs_world.proofs.ChangedWorlds.{keys_rise}
use Rattle.ecs_world.proofs.Standings.{state_is}
use Rattle.ecs_world.proofs.RemovalEffects.{IsTold, left_refused, left_taken, left_world, those_ascend, those_settled}
use Rattle.ecs_world.proofs.World.take.Goals as goal

pub change_facts-requires-clause-came_ascend : goal.change_facts-requires-clause-came_ascend
change_facts-requires-clause-came_ascend g c = keys_rise key_cmp {X = ℕ} [] refl

pub change_facts-requires-clause-went_ascend : goal.change_facts-requires-clause-went_ascend
change_facts-requires-clause-went_ascend g c =
    let list : IsTold c.args.self.now.state c.args.entity c.args.id c.args.went.now = record { none = c.requires.judged; went_are = c.requires.listed } in
    those_ascend c.self.invariant (state_is c.self.view_is) c.args.entity c.args.id c.args.went.now list

pub change_facts-requires-clause-settled : goal.change_facts-requires-clause-settled
change_facts-requires-clause-settled g c =
    let list : IsTold c.args.self.now.state c.args.entity c.args.id c.args.went.now = record { none = c.requires.judged; went_are = c.requires.listed } in
    those_settled c.self.invariant (state_is c.self.view_is) c.args.entity c.args.id c.args.went.now list

pub invariant_of-self : goal.invariant_of-self
invariant_of-self g c =
    let list : IsTold c.args.self.now.state c.args.entity c.args.id c.args.went.now = record { none = c.requires.judged; went_are = c.requires.listed } in
    left_world c.self.invariant (state_is c.self.view_is) c.args.entity c.args.id c.args.went.now list (holdings_of c.change_facts.new.self) c.change_facts.ensures.kept.holdings c.change_facts.ensures.kept.sizes c.change_facts.result
    c.change_facts.ensures.changed c.change_facts.ensures.refused

pub returns-clause-taken : goal.returns-clause-taken
returns-clause-taken g c =
    let list : IsTold c.args.self.now.state c.args.entity c.args.id c.args.went.now = record { none = c.requires.judged; went_are = c.requires.listed } in
    left_taken c.self.invariant (state_is c.self.view_is) c.args.entity c.args.id c.args.went.now list (holdings_of c.change_facts.new.self) c.change_facts.ensures.kept.holdings c.change_facts.ensures.kept.sizes c.change_facts.result
    c.change_facts.ensures.changed

pub returns-clause-refused : goal.returns-clause-refused
returns-clause-refused g c =
    let list : IsTold c.args.self.now.state c.args.entity c.args.id c.args.went.now = record { none = c.requires.judged; went_are = c.requires.listed } in
    left_refused c.self.invariant (state_is c.self.view_is) c.args.entity c.args.id c.args.went.now list (holdings_of c.change_facts.new.self) c.change_facts.ensures.kept.holdings c.change_facts.ensures.kept.sizes c.change_facts.result
    c.change_facts.ensures.refused
