-- What is known of one variable decides whether it is faulty.
use Rattle.std.specs.Prelude.{◌≡◌, ℕ, Bool, true, false, not, ◌||◌, List, bytes_eq, Option, Some}
use Rattle.std.proofs.Common.{ap, sym, ◌∙◌}
use Rattle.query_model.specs.declared.faults.Fault.{Fault}
use Rattle.query_model.specs.declared.faults.FaultKind.TheVariants.{UnboundVariable}
use Rattle.query_model.specs.Check.{unbound, when}
use Rattle.query_model.specs.Faults.{fault_at, least_from, lesser}
use Rattle.query_model.specs.Scope.{Occurrence, Sighting, is_bound, owner, sighting, sightings, this}
use Rattle.query_model.specs.Syntax.{Part}

module _ (ps : List Part) (o : Occurrence) (s : Sighting) (same : sighting o ≡ s) (own : ℕ) (owns : own ≡ owner (sightings ps) s.name o.path) where
  unbound_by : (t b : Bool) → t ≡ bytes_eq s.name this → b ≡ is_bound ps s.name own → unbound ps o ≡ when (not (t || b)) (fault_at UnboundVariable s.span)
  unbound_by t b is_this is =
      ap (λ (x : Sighting). when (not (bytes_eq x.name this || is_bound ps x.name (owner (sightings ps) x.name o.path))) (fault_at UnboundVariable x.span)) same
      ∙ ap (λ l. when (not (bytes_eq s.name this || is_bound ps s.name l)) (fault_at UnboundVariable s.span)) (sym owns)
      ∙ ap (λ r. when (not (bytes_eq s.name this || r)) (fault_at UnboundVariable s.span)) (sym is)
      ∙ ap (λ r. when (not (r || b)) (fault_at UnboundVariable s.span)) (sym is_this)

  pub bound_stays : (found : Option Fault) → false ≡ bytes_eq s.name this → true ≡ is_bound ps s.name own → found ≡ least_from found (unbound ps o)
  bound_stays found is_this is = ap (least_from found) (sym (unbound_by false true is_this is))

  pub unbound_counts : (found : Option Fault) → false ≡ bytes_eq s.name this → false ≡ is_bound ps s.name own → lesser found (fault_at UnboundVariable s.span) ≡ Some (fault_at UnboundVariable s.span)
      → Some (fault_at UnboundVariable s.span) ≡ least_from found (unbound ps o)
  unbound_counts found is_this is less = sym (ap (least_from found) (unbound_by false false is_this is) ∙ less)
