-- What a term matches that asks an entity itself, and pairs with the entity of a variable before one.
use Rattle.std.proofs.Common.{◌≡◌, ℕ, ◌<◌, Bool, true, false, inl, inr, [], ◌∷◌, refl, sym, ap, ◌∙◌, subst, arith}
use Rattle.std.specs.Prelude.{◌==◌, nat_lt, filter, map, Option, Some, None, if◌then◌else◌}
use Rattle.std.specs.List.{Contains}
use Rattle.std.specs.Option.{option_map_or}
use Rattle.std.proofs.lemmas.Bool.{and_parts, eq-eqb, false≢true, ltb-true, or_left}
use Rattle.std.proofs.lemmas.List.Elements.{Contains-append_cases}
use Rattle.ecs_id.specs.Id.{Id, plain, pair}
use Rattle.ecs_model.specs.Links.{ancestor_line}
use Rattle.ecs_model.specs.rows.Rows.{Assignment, asked, closed_fields, fields_at, fields_of_term, first_nonempty, hits, keeps_first_hit, matches, meant}
use Rattle.ecs_model.specs.rows.View.{View}
use Rattle.ecs_model.proofs.Members.{filtered, head_or_tail, passing}
use Rattle.ecs_model.proofs.FirstWorld.{is_value}
use Rattle.query_model.specs.declared.query.Ref.{Ref}
use Rattle.query_model.specs.declared.query.Ref.TheVariants.{Is, Var, Any, AnyOnce}
use Rattle.query_model.specs.declared.query.Term.{Term}
use Rattle.query_meaning.specs.Variables.{contains, variable_in}
use Rattle.query_meaning.proofs.Assignments.{at}
use Rattle.watch_concerns.specs.Anchored.{may_be_variable}
use Rattle.watch_concerns.specs.Linked.{is_before, may_be_before}
use Rattle.query_meaning.proofs.Choices.{any-map, some, some-first, some-map, some-taken}
use Rattle.watch_concerns.proofs.LevelAgreement.{at_each}
use Rattle.watch_concerns.proofs.LivingVariables.{first_there}

-- ---- what a term matches that asks an entity itself

module _ (z : View) (a : Assignment) (t : Term) where
  hit : (m : ℕ) → some (hits z a t m) ≡ true → (i : Id) × Contains (z.ids m) i × (matches a t.component t.target i ≡ true)
  unfolding hits
  hit m h =
      let all = filter (matches a t.component t.target) (z.ids m) in
      let found = first_there all (sym (some-taken (keeps_first_hit t) all) ∙ h) in
      let f = (filtered (matches a t.component t.target) (z.ids m) found.0).0 found.1 in
      (found.0, f.0, f.1)

  asked_alone : (y m : ℕ) → t.up ≡ None → Contains (asked z t y) m → m ≡ y
  asked_alone y m up h =
      elim (Contains-append_cases (if t.on_source then y ∷ [] else []) (option_map_or (λ r. ancestor_line z.ids z.entities r y) t.up []) m h) [
        | inl own ↦ itself t.on_source own
        | inr risen ↦ absurd (nobody t.up up risen)
      ]
    where
      itself : (b : Bool) → Contains (if b then y ∷ [] else []) m → m ≡ y
      itself true c = elim (head_or_tail y m [] c) [ inl q ↦ sym q | inr none ↦ absurd (omega (arith, none.1)) ]
      itself false c = absurd (omega (arith, c.1))

      nobody : (o : Option ℕ) → o ≡ None → Contains (option_map_or (λ r. ancestor_line z.ids z.entities r y) o []) m → ⊥
      nobody None is c = absurd (omega (arith, c.1))
      nobody (Some r) is c = absurd cc

  -- the entity of the term's source holds an id that the pattern matches
  pub record IsHit : Type 0 where
    pub holder : ℕ
    pub source : meant a t.source ≡ Some holder
    pub id : Id
    pub held : Contains (z.ids holder) id
    pub fits : matches a t.component t.target id ≡ true

  pub found_hit : t.up ≡ None → t.closed ≡ false → some (fields_of_term z a t) ≡ true → IsHit
  unfolding fields_of_term
  found_hit up stored h = by (meant a t.source) refl h
    where
      by : (o : Option ℕ) → meant a t.source ≡ o → some (option_map_or (fields_at z a t) o []) ≡ true → IsHit
      by None source g = absurd (false≢true g)
      by (Some y) source g =
          let found = passing (λ m. some (at_each m (hits z a t m))) (asked z t y)
          (sym (some-first (map (λ m. at_each m (hits z a t m)) (asked z t y)) ∙ any-map (λ m. at_each m (hits z a t m)) (asked z t y))
          ∙ sym (ap (λ b. some (if b then closed_fields z (meant a t.component) y (option_map_or (meant a) t.target None) else first_nonempty (map (λ m. at_each m (hits z a t m)) (asked z t y)))) stored)
          ∙ g) in
          let m : ℕ = found.0 in
          let i = hit m (sym (some-map (λ i. (m, i)) (hits z a t m)) ∙ found.2) in
          let same = asked_alone y m up found.1 in
          record { holder = y; source = source; id = i.0; held = subst (λ x. Contains (z.ids x) i.0) same i.1; fits = i.2 }

-- ---- references to variables

-- a variable before another one, among these
pub record IsBefore (u : ℕ) (r : Ref) : Type 0 where
  pub number : ℕ
  pub is : r ≡ Var number
  pub is_below : nat_lt number u ≡ true
  pub below : number < u
  pub among : contains (variable_in r) number ≡ true

pub one_before : (u : ℕ) (r : Ref) → is_before u r ≡ true → IsBefore u r
one_before u (Is d) h = absurd (false≢true h)
one_before u (Var s) h = record { number = s; is = refl; is_below = h; below = ltb-true s u h; among = or_left (s == s) false (eq-eqb s s refl) }
one_before u Any h = absurd (false≢true h)
one_before u AnyOnce h = absurd (false≢true h)

-- an id that a pattern matches whose target is a variable before another one
pub record IsPairBefore (a : Assignment) (u : ℕ) (target : Option Ref) (i : Id) : Type 0 where
  pub number : ℕ
  pub is_target : may_be_variable number target ≡ true
  pub is_below : nat_lt number u ≡ true
  pub below : number < u
  pub among : contains (option_map_or variable_in target []) number ≡ true
  pub first : ℕ
  pub second : ℕ
  pub stands : at a number ≡ Some second
  pub is : i ≡ pair first second

pub pair_before : (a : Assignment) (u : ℕ) (first : Ref) (target : Option Ref) (i : Id) → may_be_before u target ≡ true → matches a first target i ≡ true → IsPairBefore a u target i
pair_before a u first None i h m = absurd (false≢true h)
pair_before a u first (Some target) (plain c) h m = absurd (false≢true m)
pair_before a u first (Some (Is d)) (pair r x) h m = absurd (false≢true h)
pair_before a u first (Some Any) (pair r x) h m = absurd (false≢true h)
pair_before a u first (Some AnyOnce) (pair r x) h m = absurd (false≢true h)
pair_before a u first (Some (Var s)) (pair r x) h m =
    record {
      number = s;
      is_target = eq-eqb s s refl;
      is_below = h;
      below = ltb-true s u h;
      among = or_left (s == s) false (eq-eqb s s refl);
      first = r;
      second = x;
      stands = is_value (at a s) x (and_parts _ _ m).1;
      is = refl;
    }
