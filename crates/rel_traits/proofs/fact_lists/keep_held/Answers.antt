use Rattle.std.proofs.Common.{rules}
use Rattle.std.proofs.lemmas.Fn.{filter_same}
use Rattle.rel_traits.specs.FactLists.{is_fact}
use Rattle.rel_traits.proofs.fact_lists.keep_held.Goals as goal

pub returns : goal.returns
returns g c = filter_same _ (is_fact (g.G.Graph.ids c.args.graph.now)) _ (λ x b f' k. search rules) _ _ c.retain.ensures.filtered
