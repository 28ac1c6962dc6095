use Rattle.std.proofs.Common.{◌≡◌, map, take}
use Rattle.query_check.proofs.copies.copy_of_names.Given as goal

abbrev pub invariant-loop-name : goal.invariant-loop-name
invariant-loop-name g l = map (λ n. n.items) l.copy.items ≡ map (λ n. n.items) (take l.name-index l.names)
