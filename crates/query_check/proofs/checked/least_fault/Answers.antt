-- Kind by kind.
use Rattle.std.proofs.Common.{map}
use Rattle.query_check.specs.Seen.{seen_cascading, seen_occurrence, seen_use}
use Rattle.query_model.specs.Seen.{seen_part}
use Rattle.query_check.proofs.LeastFaults.{all_kinds_judged}
use Rattle.query_check.proofs.checked.least_fault.Goals as goal

pub returns : goal.returns
returns g c =
    all_kinds_judged (g.W.Lookup.known c.args.world.now) (map seen_part c.args.parts.now) c.of_uses-by_uses.result c.of_depth-by_depth.result c.of_terms-by_terms.result c.in_ok-by_names.by_names c.of_unbound-by_unbound.result c.of_cascades.result
    (map seen_use c.args.uses.now) (map seen_occurrence c.args.found.now) (map seen_cascading c.args.cascades.now) c.requires.uses c.requires.occurrences c.requires.cascades
    c.of_uses-by_uses.ensures c.of_depth-by_depth.ensures c.of_terms-by_terms.ensures c.in_ok-by_names.ensures c.of_unbound-by_unbound.ensures c.of_cascades.ensures
