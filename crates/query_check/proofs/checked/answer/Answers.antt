-- The variables are those of the parts.
use Rattle.std.proofs.Common.{arith}
use Rattle.std.proofs.Common.{map}
use Rattle.query_model.specs.Seen.{seen_part}
use Rattle.query_check.proofs.PartReferences.{found_are}
use Rattle.query_check.proofs.checked.answer.Goals as goal

pub least_fault-requires-clause-occurrences : goal.least_fault-requires-clause-occurrences
least_fault-requires-clause-occurrences g c =
    found_are (map seen_part c.args.parts.now) _ _ _ _ c.as_slice-uses.ensures.value c.in_ok-uses.ensures.uses c.as_slice-found.ensures.value c.in_ok-found.ensures

pub build-requires-clause-occurrences : goal.build-requires-clause-occurrences
build-requires-clause-occurrences g c =
    found_are (map seen_part c.args.parts.now) _ _ _ _ c.as_slice-uses.ensures.value c.in_ok-uses.ensures.uses c.as_slice-found.ensures.value c.in_ok-found.ensures

pub returns-in_err-places : goal.returns-in_err-places
returns-in_err-places g c = grind arith

pub uses-requires-clause-places : goal.uses-requires-clause-places
uses-requires-clause-places g c = grind arith

pub uses-requires-clause-length : goal.uses-requires-clause-length
uses-requires-clause-length g c = grind arith

pub returns-in_err-uses : goal.returns-in_err-uses
returns-in_err-uses g c = grind arith

pub returns-in_err-found : goal.returns-in_err-found
returns-in_err-found g c = grind arith

pub cascades-requires-clause-places : goal.cascades-requires-clause-places
cascades-requires-clause-places g c = grind arith

pub cascades-requires-clause-length : goal.cascades-requires-clause-length
cascades-requires-clause-length g c = grind arith

pub returns-in_err-cascades : goal.returns-in_err-cascades
returns-in_err-cascades g c = grind arith

pub least_fault-requires-clause-places : goal.least_fault-requires-clause-places
least_fault-requires-clause-places g c = grind arith

pub least_fault-requires-clause-length : goal.least_fault-requires-clause-length
least_fault-requires-clause-length g c = grind arith

pub least_fault-requires-clause-tree : goal.least_fault-requires-clause-tree
least_fault-requires-clause-tree g c = grind arith

pub least_fault-requires-clause-uses : goal.least_fault-requires-clause-uses
least_fault-requires-clause-uses g c = grind arith

pub least_fault-requires-clause-found : goal.least_fault-requires-clause-found
least_fault-requires-clause-found g c = grind arith

pub least_fault-requires-clause-cascades : goal.least_fault-requires-clause-cascades
least_fault-requires-clause-cascades g c = grind arith

pub returns-in_err-fault : goal.returns-in_err-fault
returns-in_err-fault g c = grind arith

pub returns-in-Some : goal.returns-in-Some
returns-in-Some g c = grind arith

pub build-requires-clause-places : goal.build-requires-clause-places
build-requires-clause-places g c = grind arith

pub build-requires-clause-length : goal.build-requires-clause-length
build-requires-clause-length g c = grind arith

pub build-requires-clause-tree : goal.build-requires-clause-tree
build-requires-clause-tree g c = grind arith

pub build-requires-clause-uses : goal.build-requires-clause-uses
build-requires-clause-uses g c = grind arith

pub build-requires-clause-found : goal.build-requires-clause-found
build-requires-clause-found g c = grind arith

pub build-requires-clause-cascades : goal.build-requires-clause-cascades
build-requires-clause-cascades g c = grind arith

pub returns-in_err-query : goal.returns-in_err-query
returns-in_err-query g c = grind arith

pub returns : goal.returns
returns g c = grind arith
