-- Later occurrences of a variable add nothing to the least fault.
use Rattle.std.specs.Prelude.{◌≡◌, ℕ, ◌≤◌, ◌==◌, Bool, true, false, not, ◌&&◌, ◌||◌, List, [], ◌∷◌, ◌++◌, flat_map, bytes_eq, nat_lt, Option, None, Some, if◌then◌else◌}
use Rattle.std.specs.List.{list_any}
use Rattle.std.proofs.lemmas.Bool.{eqb-true, le-ltb, ltb-false, or_from, or_parts}
use Rattle.std.proofs.lemmas.Bool.Decides.{eqb_tells}
use Rattle.std.proofs.lemmas.Slice.Eq.{bytes_eq-Decides}
use Rattle.std.proofs.Math.Bool.{and-false}
use Rattle.std.proofs.Common.{eq-eqb, ap, sym, ◌∙◌, refl, inl, inr, arith}
use Rattle.std.proofs.lemmas.List.Folds.{list_any-append}
use Rattle.query_model.specs.declared.Span.{Span}
use Rattle.query_model.specs.declared.faults.Fault.{Fault}
use Rattle.query_model.specs.declared.faults.FaultKind.TheVariants.{UnboundVariable}
use Rattle.query_model.specs.Faults.{is_before, kind_number, fault_at, least_from, lesser}
use Rattle.query_model.specs.Syntax.{Part}
use Rattle.query_model.specs.Scope.{Occurrence, is_bound, occurrences, sightings, this}
use Rattle.query_model.specs.Numbers.{Variable, same_variable, variable_of}
use Rattle.query_model.specs.Check.{unbound, when}
use Rattle.query_model.specs.FirstOccurrence.{Ascends, FirstSuffices, unbound_first}
use Rattle.query_model.proofs.NumberedVariables.{first_of, second_of, split}

-- a fault that starts later comes before nothing that the earlier one doesn't
later : (s t x : ℕ) (b : Bool) → s ≤ t → (nat_lt s x || s == x && b) ≡ false → (nat_lt t x || t == x && b) ≡ false
later s t x b h e =
    let p = or_parts (nat_lt s x) (s == x && b) e in
    let low : x ≤ s = ltb-false s x p.0 in
    or_from (nat_lt t x) (t == x && b) (le-ltb t x (omega arith))
    (elim (eqb_tells t x) [
      | inl w ↦ let same : s ≡ x = let is = w.1 in omega arith in ap (λ k. k && b) w.0 ∙ sym (ap (λ k. k && b) (eq-eqb s x same)) ∙ p.1
      | inr w ↦ ap (λ k. k && b) w.0
    ])

not_itself : (s t : ℕ) → s ≤ t → (nat_lt t s || t == s && false) ≡ false
not_itself s t h = or_from (nat_lt t s) (t == s && false) (le-ltb t s h) (and-false (t == s))

-- no later fault of this kind is less
record Covers (found : Option Fault) (low : ℕ) : Type 0 where
  on : (s : Span) → low ≤ s.start → lesser found (fault_at UnboundVariable s) ≡ found

covers_some : (g : Fault) (p : Span) (b : Bool) → is_before (fault_at UnboundVariable p) g ≡ b → Covers (Some (if b then fault_at UnboundVariable p else g)) p.start
covers_some g p true e = record { on = λ s h. ap (λ b. Some (if b then fault_at UnboundVariable s else fault_at UnboundVariable p)) (not_itself p.start s.start h) }
covers_some g p false e = record { on = λ s h. ap (λ b. Some (if b then fault_at UnboundVariable s else g)) (later p.start s.start (g.span).start (nat_lt 5 (kind_number g.kind)) h e) }

covers : (found : Option Fault) (s : Span) → Covers (lesser found (fault_at UnboundVariable s)) s.start
covers None s = record { on = λ t h. ap (λ b. Some (if b then fault_at UnboundVariable t else fault_at UnboundVariable s)) (not_itself s.start t.start h) }
covers (Some g) s = covers_some g s (is_before (fault_at UnboundVariable s) g) refl

weaken : (found : Option Fault) (low high : ℕ) → Covers found low → low ≤ high → Covers found high
weaken found low high c h = record { on = λ s k. c.on s (omega arith) }

abbrev faulty : List Part → Variable → Bool
faulty ps v = not (bytes_eq v.0 this || is_bound ps v.0 v.1)

record Covered (ps : List Part) (seen : List Variable) (found : Option Fault) (low : ℕ) : Type 0 where
  each : (u : Variable) → list_any (same_variable u) seen ≡ true → faulty ps u ≡ true → Covers found low

bytes_same : (xs ys : List ℕ) → bytes_eq xs ys ≡ true → xs ≡ ys
bytes_same xs ys e = (bytes_eq-Decides xs ys).0 e

same_faulty : (ps : List Part) (u v : Variable) → same_variable u v ≡ true → faulty ps u ≡ faulty ps v
same_faulty ps u v e =
    let name : u.0 ≡ v.0 = bytes_same u.0 v.0 (first_of (bytes_eq u.0 v.0) (u.1 == v.1) e) in
    let level : u.1 ≡ v.1 = eqb-true u.1 v.1 (second_of (bytes_eq u.0 v.0) (u.1 == v.1) e) in
    ap (λ n. not (bytes_eq n this || is_bound ps n u.1)) name ∙ ap (λ l. not (bytes_eq v.0 this || is_bound ps v.0 l)) level

covered_more : (ps : List Part) (seen : List Variable) (found : Option Fault) (low high : ℕ) (v : Variable) → Covered ps seen found low → faulty ps v ≡ false → low ≤ high → Covered ps (seen ++ v ∷ []) found high
covered_more ps seen found low high v c f h = record {
  each = λ u a g.
      elim (split (list_any (same_variable u) seen) (same_variable u v || false) (sym (list_any-append (same_variable u) seen (v ∷ [])) ∙ a)) [
        | inl k ↦ weaken found low high (c.each u k g) h
        | inr k ↦ absurd (let x : true ≡ false = sym g ∙ same_faulty ps u v (elim (split (same_variable u v) false k) [ inl m ↦ m | inr m ↦ absurd (cc) ]) ∙ f in cc)
      ];
}

module _ (ps : List Part) (seen : List Variable) (o : Occurrence) (os : List Occurrence) (found : Option Fault) (low : ℕ) (h : low ≤ (o.span).start) (c : Covered ps seen found low) where
  step : (ih : (f : Option Fault) → Covered ps (seen ++ variable_of (sightings ps) o ∷ []) f (o.span).start
      → least_from f (flat_map (unbound ps) os) ≡ least_from f (unbound_first ps (seen ++ variable_of (sightings ps) o ∷ []) os))
      → (b t : Bool) → list_any (same_variable (variable_of (sightings ps) o)) seen ≡ b → faulty ps (variable_of (sightings ps) o) ≡ t
      → least_from found (when t (fault_at UnboundVariable o.span) ++ flat_map (unbound ps) os)
      ≡ least_from found ((if b then [] else when t (fault_at UnboundVariable o.span)) ++ unbound_first ps (seen ++ variable_of (sightings ps) o ∷ []) os)
  step ih true false e g = ih found (covered_more ps seen found low (o.span).start (variable_of (sightings ps) o) c g h)
  step ih false false e g = ih found (covered_more ps seen found low (o.span).start (variable_of (sightings ps) o) c g h)
  step ih true true e g =
      let k = c.each (variable_of (sightings ps) o) e g in
      ap (λ f. least_from f (flat_map (unbound ps) os)) (k.on o.span h) ∙ ih found (record { each = λ u a m. weaken found low (o.span).start k h })
  step ih false true e g = ih (lesser found (fault_at UnboundVariable o.span)) (record { each = λ u a m. covers found o.span })

go : (ps : List Part) (os : List Occurrence) (seen : List Variable) (found : Option Fault) (low : ℕ) → Ascends low os → Covered ps seen found low → least_from found (flat_map (unbound ps) os) ≡ least_from found (unbound_first ps seen os)
go ps [] seen found low a c = refl
go ps (o ∷ os) seen found low a c =
    step ps seen o os found low a.0 c (λ f k. go ps os (seen ++ variable_of (sightings ps) o ∷ []) f (o.span).start a.1 k)
    (list_any (same_variable (variable_of (sightings ps) o)) seen) (faulty ps (variable_of (sightings ps) o)) refl refl

pub first_suffices : FirstSuffices
first_suffices ps found a = go ps (occurrences ps) [] found 0 a (record { each = λ u e g. absurd (let x : false ≡ true = e in cc) })
