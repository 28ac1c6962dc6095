use Rattle.std.proofs.Common.{◌≡◌, map, take}
use Rattle.query_check.specs.Seen.{seen_variable}
use Rattle.query_model.specs.Query.{visible_names}
use Rattle.query_check.proofs.query.visible_names.Given as goal

abbrev pub invariant-loop-variable : goal.invariant-loop-variable
invariant-loop-variable g l = map (λ n. n.items) l.names.items ≡ visible_names (map seen_variable (take l.variable-index l.numbered))
