use Rattle.std.proofs.Common.{◌≡◌, ◌++◌, take, flat_map}
use Rattle.ecs_print.specs.Values.{behind_comma}
use Rattle.watch_events.proofs.event.write_others.Given as goal

abbrev pub invariant-loop-number : goal.invariant-loop-number
invariant-loop-number g l = l.out.items ≡ l.fn.out.items ++ flat_map behind_comma (take l.number-index l.numbers)
