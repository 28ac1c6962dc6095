use Rattle.std.proofs.Common.{◌≡◌, map, take}
use Rattle.query_check.specs.Seen.{seen_variable}
use Rattle.query_model.specs.Numbers.{variable_of}
use Rattle.query_model.specs.Scope.{occurrences, sightings}
use Rattle.query_model.specs.Seen.{seen_part}
use Rattle.query_check.proofs.numbers.variables.Given as goal

abbrev pub invariant-loop-occurrence : goal.invariant-loop-occurrence
invariant-loop-occurrence g l = map seen_variable l.owned.items ≡ map (variable_of (sightings (map seen_part l.parts))) (take l.occurrence-index (occurrences (map seen_part l.parts)))
