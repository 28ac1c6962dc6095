-- Few occurrences have few names.
use Rattle.std.proofs.Common.{[], ◌∷◌, ap, map}
use Rattle.std.proofs.lemmas.List.{length-map}
use Rattle.query_check.specs.Seen.{seen_occurrence}
use Rattle.query_model.specs.declared.faults.FaultKind.TheVariants.{TooManyVariables}
use Rattle.query_model.specs.Check.{most_names}
use Rattle.query_model.specs.Faults.{fault_at, least_from}
use Rattle.query_model.specs.Scope.{Sighting, this}
use Rattle.query_check.proofs.ItemCounts.{few_names}
use Rattle.query_check.proofs.faults.of_names.Goals as goal

pub returns-then-occurrences-le-MOST_NAMES : goal.returns-then-occurrences-le-MOST_NAMES
returns-then-occurrences-le-MOST_NAMES g c =
    ap (λ l. least_from c.args.found (map (λ (s : Sighting). fault_at TooManyVariables s.span) l)) (few_names most_names (this ∷ []) (map seen_occurrence c.args.occurrences.now) (rw length-map c.if-occurrences-le-MOST_NAMES.true))
