use Rattle.std.specs.Prelude.{ℕ, List, ◌↔◌}
use Rattle.std.specs.List.{Contains}
use Rattle.std.proofs.Common.{subst}
use Rattle.watch_touched.proofs.indexes.touched_indexes.Goals as goal

pub returns-clause-all : goal.returns-clause-all
returns-clause-all g c = subst (λ (is : List ℕ). (i : ℕ) → Contains c.put_in_order.new.indexes.items i ↔ Contains is i) c.in_ok-indexes.ensures c.put_in_order.ensures.same
