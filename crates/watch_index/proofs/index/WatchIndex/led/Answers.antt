use Rattle.std.specs.Prelude.{◌↔◌}
use Rattle.std.specs.List.{Contains}
use Rattle.std.proofs.Common.{ℕ, List, subst}
use Rattle.watch_index.proofs.index.WatchIndex.led.Goals as goal

pub returns-clause-exact : goal.returns-clause-exact
returns-clause-exact g c =
    subst (λ (ns : List ℕ). (n : ℕ) → Contains c.put_in_order.new.numbers.items n ↔ Contains ns n)
    c.in_ok-gather.ensures
    c.put_in_order.ensures.same
