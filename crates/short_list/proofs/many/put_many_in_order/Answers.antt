use Rattle.std.proofs.lemmas.List.Filters.{dedup_is}
use Rattle.short_list.proofs.many.put_many_in_order.Goals as goal

pub returns : goal.returns
returns g c = record {
  sorted = c.sort_unstable.new.self.items;
  permutation = c.sort_unstable.ensures.permutation;
  rises = c.sort_unstable.ensures.sorted;
  once = dedup_is _ _ _ c.dedup.ensures.filtered;
}
