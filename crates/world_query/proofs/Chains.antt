-- A chain of alternatives in a query that a text asks begins with the term before the first alternative.
use Rattle.std.proofs.Common.{◌≡◌, Bool, true, false, List, [], ◌∷◌, flat_map, refl, sym, ap, ◌∙◌}
use Rattle.std.specs.List.{list_all}
use Rattle.std.proofs.lemmas.Bool.{and_from}
use Rattle.std.proofs.lemmas.List.Folds.{list_all-append}
use Rattle.ecs_model.specs.Query.{known_of}
use Rattle.query_meaning.proofs.AskedQueries.{asked, checked_faultless}
use Rattle.query_model.specs.Check.{Known}
use Rattle.query_model.specs.Levels.{Path, placed_parts, with_alternatives}
use Rattle.query_model.specs.Numbers.{Variable, variables}
use Rattle.query_model.specs.Query.{Query, item, chain_of, checked_equality, checked_query, pieces_of, pieces_of_part}
use Rattle.query_model.specs.Scope.{Sighting, sightings}
use Rattle.query_model.specs.Syntax.{Spoken, Word, Var, Any, AnyOnce, Reference, TermSyntax, Part, term, opened, closed, equality, Syntax}
use Rattle.query_model.specs.declared.query.Term.{Term}
use Rattle.query_model.specs.declared.syntax.Role.TheVariants.{And, Or, Not, Optional}
use Rattle.query_plan.specs.Simple.{has_terms}
use Rattle.world_query.specs.Probes.{AskedQueriesHaveTerms}

chain_has : (t : Term) (ts : List Term) → has_terms (item (chain_of t ts)) ≡ true
chain_has t [] = refl
chain_has t (u ∷ us) = refl

module _ (k : Known) (all : List Sighting) (vs : List Variable) where
  equality_has : (path : Path) (w : Spoken) (same : Bool) (r : Reference) → has_terms (item (checked_equality k all vs path w same r)) ≡ true
  equality_has path (Var v) true r = refl
  equality_has path (Var v) false r = refl
  equality_has path (Word n) same r = refl
  equality_has path Any same r = refl
  equality_has path AnyOnce same r = refl

  part_has : (path : Path) (others : List TermSyntax) (p : Part) → list_all has_terms (pieces_of k all vs path others p) ≡ true
  part_has path others (term And t) = and_from _ _ (chain_has _ _) refl
  part_has path others (term Or t) = refl
  part_has path others (term Optional t) = refl
  part_has path others (term Not t) = refl
  part_has path others (opened s) = refl
  part_has path others closed = refl
  part_has path others (equality v same r) = and_from _ _ (equality_has path v.spoken same r) refl

  pieces_have : (ps : List ((Path × Part) × List TermSyntax)) → list_all has_terms (flat_map (pieces_of_part k all vs) ps) ≡ true
  pieces_have [] = refl
  pieces_have (p ∷ ps) =
      list_all-append has_terms (pieces_of_part k all vs p) (flat_map (pieces_of_part k all vs) ps)
      ∙ and_from _ _ (part_has (p.0).0 p.1 (p.0).1) (pieces_have ps)

query_has : (k : Known) (s : Syntax) → list_all has_terms (checked_query k s).pieces ≡ true
unfolding checked_query
query_has k s = pieces_have k (sightings s.parts) (variables s.parts) (with_alternatives (placed_parts s.parts))

pub asked_queries_have_terms : AskedQueriesHaveTerms
asked_queries_have_terms q was =
    let k = known_of was.0 in
    let a = asked k was.1 q was.2 in
    ap (λ (x : Query). list_all has_terms x.pieces) (sym (checked_faultless k a.1 q a.3).1) ∙ query_has k a.1
