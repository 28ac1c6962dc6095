use Rattle.short_list.proofs.Numbers.{numbers_rise, numbers_same}
use Rattle.watch_index.proofs.gathering.put_in_order.Goals as goal

pub returns-then-as_slice-gt1-clause-ascend : goal.returns-then-as_slice-gt1-clause-ascend
returns-then-as_slice-gt1-clause-ascend g c = numbers_rise c.args.numbers.now.items c.put_in_order.new.self.items c.put_in_order.ensures

pub returns-then-as_slice-gt1-clause-same : goal.returns-then-as_slice-gt1-clause-same
returns-then-as_slice-gt1-clause-same g c = numbers_same c.args.numbers.now.items c.put_in_order.new.self.items c.put_in_order.ensures
