use Rattle.std.proofs.Common.{◌≡◌, drop}
use Rattle.std.specs.List.{list_any}
use Rattle.id_pattern.specs.Patterns.{matches}
use Rattle.watch_asked.proofs.asked_id.is_among_ids.Given as goal

abbrev pub invariant-loop-id : goal.invariant-loop-id
invariant-loop-id l = list_any (matches l.asked) l.ids ≡ list_any (matches l.asked) (drop l.id-index l.ids)
