use Rattle.short_list.proofs.Numbers.{numbers_rise, numbers_same}
use Rattle.watch_touched.proofs.indexes.put_in_order.Goals as goal

pub returns-then-len-gt1-clause-ascend : goal.returns-then-len-gt1-clause-ascend
returns-then-len-gt1-clause-ascend g c = numbers_rise c.args.indexes.now.items c.put_in_order.new.self.items c.put_in_order.ensures

pub returns-then-len-gt1-clause-same : goal.returns-then-len-gt1-clause-same
returns-then-len-gt1-clause-same g c = numbers_same c.args.indexes.now.items c.put_in_order.new.self.items c.put_in_order.ensures
