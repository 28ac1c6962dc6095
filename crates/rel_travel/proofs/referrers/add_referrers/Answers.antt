use Rattle.std.proofs.Common.{Some, None}
use Rattle.id_pattern.specs.declared.Part.TheVariants.{Is, Any}
use Rattle.rel_travel.specs.Outside.{outside_holders}
use Rattle.rel_travel.proofs.Growth.{IsGrownBy-then}
use Rattle.std.proofs.Common.{◌++◌}
use Rattle.rel_travel.proofs.referrers.add_referrers.Goals as goal

pub returns-clause-grown : goal.returns-clause-grown
returns-clause-grown g c =
    let x = c.args.member in
    let outside = outside_holders (g.G.Graph.entities c.args.graph.now) (g.G.Graph.ids c.args.graph.now) c.args.members.now.items in
    let plain = outside (record { first = Is x; second = None }) in
    let first = outside (record { first = Is x; second = Some Any }) in
    let target = outside (record { first = Any; second = Some (Is x) }) in
    IsGrownBy-then (plain ++ first) target c.args.found.now.items c.add_outside-2.new.found.items c.add_outside-3.new.found.items
    (IsGrownBy-then plain first c.args.found.now.items c.add_outside.new.found.items c.add_outside-2.new.found.items c.add_outside.ensures.grown c.add_outside-2.ensures.grown) c.add_outside-3.ensures.grown
