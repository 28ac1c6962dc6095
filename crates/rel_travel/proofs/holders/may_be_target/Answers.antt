use Rattle.std.proofs.Common.{arith}
use Rattle.std.proofs.lemmas.Grind.{common_steps}
use Rattle.std.proofs.lemmas.Bool.Decides.{nat_tests}
use Rattle.ecs_model.proofs.Members.{from_flat_map}
use Rattle.rel_travel.proofs.Cleanup.{upward_holds}
use Rattle.rel_travel.proofs.holders.may_be_target.Goals as goal

pub returns : goal.returns
returns g c = λ none y h.
    let held = (c.tables_of.ensures.holders y).1 (upward_holds c.size.ensures.links c.args.relationship y c.args.index h) in
    let t = from_flat_map (g.G.Holders.rows c.args.graph.now) c.tables_of.result.now y held in
    let inside = t.1.1 in
    let empty = c.is_empty.ensures in
    grind (arith, common_steps, nat_tests)
