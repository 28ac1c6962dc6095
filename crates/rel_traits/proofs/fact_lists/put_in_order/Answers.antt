use Rattle.std.proofs.lemmas.List.Filters.{dedup_is}
use Rattle.std.proofs.Common.{arith}
use Rattle.rel_traits.proofs.SortedFacts.{few_in_order, in_order, same_facts}
use Rattle.rel_traits.proofs.fact_lists.put_in_order.Goals as goal

pub returns-clause-ascend : goal.returns-clause-ascend
returns-clause-ascend g c = in_order c.args.facts.now.items _ _ (dedup_is _ _ _ c.dedup.ensures.filtered) c.sort_unstable.ensures.sorted

pub returns-clause-same : goal.returns-clause-same
returns-clause-same g c = same_facts _ _ _ (dedup_is _ _ _ c.dedup.ensures.filtered) c.sort_unstable.ensures.permutation

pub returns-then-len-lt2-clause-ascend : goal.returns-then-len-lt2-clause-ascend
returns-then-len-lt2-clause-ascend g c = few_in_order c.args.facts.now.items (omega arith)
