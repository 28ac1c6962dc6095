-- Rows with the same entities and the same ids are the same.
use Rattle.std.proofs.Common.{◌≡◌, ℕ, suc, zero, true, false, inl, inr, List, [], ◌∷◌, ◌++◌, length, ◌<◌, get_or, refl, sym, ap, ◌∙◌, subst, arith}
use Rattle.std.specs.Prelude.{map, not, ◌==◌, Option, Some, None, if◌then◌else◌}
use Rattle.std.specs.List.{list_all}
use Rattle.std.specs.Option.{option_map_or}
use Rattle.std.proofs.lemmas.List.{map-append}
use Rattle.std.proofs.lemmas.List.{length-map}
use Rattle.ecs_id.specs.Id.{Id, pair}
use Rattle.query_meaning.proofs.Lists.{In, In-from_place, In-filter_from, In-flat_map_from}
use Rattle.query_meaning.proofs.Assignments.{Extends-from_assignments}
use Rattle.query_meaning.proofs.LevelHolding.{In-map_from}
use Rattle.query_meaning.proofs.Rows.{IsRegular, same_front, same_rest, first_nonempty-keeps, regular_choices, same_parts, same_keys, Extends-binds}
use Rattle.ecs_model.specs.Links.{reaches}
use Rattle.query_meaning.specs.Laws.{RowsAreTheirIds}
use Rattle.query_meaning.proofs.OrderedAssignments.{In-from_ordered}
use Rattle.ecs_model.specs.rows.Level.{Level, also, done, top, unless}
use Rattle.ecs_model.specs.rows.Rows.{id_shown, row_of, Assignment, Field, Row, Unset, asked, assignments, candidates, closed_fields, fields_at, fields_of_item, fields_of_term, first_nonempty, hits, meant, ordered, passes_over, product, rows, rows_under, same_entity, shown, shown_fields, solutions, visible}
use Rattle.ecs_model.specs.rows.View.{HasNoRepeats, View}
use Rattle.query_model.specs.Query.{Item, Query, differ, either, equal, may, must}
use Rattle.query_model.specs.declared.query.Term.{Term}

-- its fields have one source
abbrev HasOneSource : List (ℕ × Id) → Type 0
HasOneSource fs = (f g : ℕ × Id) → In f fs → In g fs → f.0 ≡ g.0

-- its choices differ in their ids
abbrev HasDistinctIds : List (List Field) → Type 0
HasDistinctIds xs = (x y : List Field) → In x xs → In y xs → map id_shown x ≡ map id_shown y → x ≡ y

ids-product : (xs ys : List (List Field)) → IsRegular xs → HasDistinctIds xs → HasDistinctIds ys → HasDistinctIds (product xs ys)
ids-product xs ys r h k x y i j e =
    let a = In-flat_map_from (λ u. map (λ v. u ++ v) ys) xs x i in
    let b = In-flat_map_from (λ u. map (λ v. u ++ v) ys) xs y j in
    let c = In-map_from (λ v. a.0 ++ v) ys x a.2 in
    let d = In-map_from (λ v. b.0 ++ v) ys y b.2 in
    let split : map id_shown a.0 ++ map id_shown c.0 ≡ map id_shown b.0 ++ map id_shown d.0 =
    sym (map-append id_shown a.0 c.0) ∙ ap (map id_shown) c.2 ∙ e ∙ sym (ap (map id_shown) d.2) ∙ map-append id_shown b.0 d.0 in
    let long : length (map id_shown a.0) ≡ length (map id_shown b.0) = length-map a.0 id_shown ∙ r.long a.0 a.1 ∙ sym (r.long b.0 b.1) ∙ sym (length-map b.0 id_shown) in
    let fronts : map id_shown a.0 ≡ map id_shown b.0 = same_front (map id_shown a.0) (map id_shown b.0) (map id_shown c.0) (map id_shown d.0) long split in
    let rests : map id_shown c.0 ≡ map id_shown d.0 = same_rest (map id_shown b.0) (map id_shown c.0) (map id_shown d.0) (ap (λ z. z ++ map id_shown c.0) (sym fronts) ∙ split) in
    let first = h a.0 b.0 a.1 b.1 fronts in
    let second = k c.0 d.0 c.1 d.1 rests in
    sym c.2 ∙ (λ n. first n ++ second n) ∙ d.2

module _ (w : View) (keeps : HasNoRepeats w) where
  source-closed : (o : Option ℕ) (s : ℕ) (p : Option ℕ) (f : ℕ × Id) → In f (closed_fields w o s p) → f.0 ≡ s
  source-closed None s p f i = absurd i
  source-closed (Some r) s None f i = absurd i
  source-closed (Some r) s (Some u) f i =
      elim (reaches w.ids w.entities r s u) as (λ b. In {X = ℕ × Id} f (if b then (s, pair r u) ∷ [] else []) → f.0 ≡ s) [ true ↦ λ i. elim i [ inl e ↦ ap (λ z. z.0) (sym e) | inr n ↦ absurd n ] | false ↦ λ i. absurd i ] i

  one_source_at : (a : Assignment) (t : Term) (s : ℕ) → HasOneSource (fields_at w a t s)
  one_source_at a t s =
      elim t.closed as (λ b. HasOneSource (if b then closed_fields w (meant a t.component) s (option_map_or (meant a) t.target None) else first_nonempty (map (λ m. map (λ i. (m, i)) (hits w a t m)) (asked w t s)))) [
        | true ↦ λ f g i j. source-closed (meant a t.component) s (option_map_or (meant a) t.target None) f i ∙ sym (source-closed (meant a t.component) s (option_map_or (meant a) t.target None) g j)
        | false ↦ first_nonempty-keeps HasOneSource (λ f g i j. absurd i) (map (λ m. map (λ i. (m, i)) (hits w a t m)) (asked w t s)) (λ xs i.
            let r = In-map_from (λ m. map (λ j. (m, j)) (hits w a t m)) (asked w t s) xs i in
            subst HasOneSource r.2 (λ f g j k.
            let p = In-map_from (λ x. (r.0, x)) (hits w a t r.0) f j in
            let q = In-map_from (λ x. (r.0, x)) (hits w a t r.0) g k in
            ap (λ z. z.0) (sym p.2) ∙ ap (λ z. z.0) q.2))
      ]

  one_source : (a : Assignment) (t : Term) → HasOneSource (fields_of_term w a t)
  unfolding fields_of_term
  one_source a t = elim (meant a t.source) as (λ o. HasOneSource (option_map_or (fields_at w a t) o [])) [ None ↦ λ f g i j. absurd i | Some s ↦ one_source_at a t s ]

  ids-shown : (a : Assignment) (t : Term) → HasDistinctIds (shown_fields w a t)
  ids-shown a t x y i j e =
      let p = In-map_from (λ f. shown w t f ∷ []) (fields_of_term w a t) x i in
      let q = In-map_from (λ f. shown w t f ∷ []) (fields_of_term w a t) y j in
      let sources : (p.0).0 ≡ (q.0).0 = one_source a t p.0 q.0 p.1 q.1 in
      let both : Some (p.0).1 ∷ [] ≡ Some (q.0).1 ∷ [] = ap (map id_shown) p.2 ∙ e ∙ sym (ap (map id_shown) q.2) in
      let ids : (p.0).1 ≡ (q.0).1 = cc in
      sym p.2 ∙ (λ n. shown w t (sources n, ids n) ∷ []) ∙ q.2

  ids-none : HasDistinctIds []
  ids-none x y i j e = absurd i

  ids-one : (x : List Field) → HasDistinctIds (x ∷ [])
  ids-one x y z i j e = elim i [ inl p ↦ elim j [ inl q ↦ sym p ∙ q | inr n ↦ absurd n ] | inr n ↦ absurd n ]

  ids-choices : (a : Assignment) (i : Item) → HasDistinctIds (fields_of_item w a i)
  unfolding fields_of_item
  ids-choices a (must t) = ids-shown a t
  ids-choices a (may t) = first_nonempty-keeps HasDistinctIds ids-none (shown_fields w a t ∷ ((Unset ∷ []) ∷ []) ∷ []) (λ xs i. elim i [
    | inl e ↦ subst HasDistinctIds e (ids-shown a t)
    | inr j ↦ elim j [ inl e ↦ subst HasDistinctIds e (ids-one (Unset ∷ [])) | inr n ↦ absurd n ]
  ])
  ids-choices a (either ts) = first_nonempty-keeps HasDistinctIds ids-none (map (shown_fields w a) ts) (λ xs i. let r = In-map_from (shown_fields w a) ts xs i in subst HasDistinctIds r.2 (ids-shown a r.0))
  ids-choices a (equal v r) = elim (same_entity w a v r) as (λ b. HasDistinctIds (if b then [] ∷ [] else [])) [ true ↦ ids-one [] | false ↦ ids-none ]
  ids-choices a (differ v r) = elim (same_entity w a v r) as (λ b. HasDistinctIds (if b then [] else [] ∷ [])) [ true ↦ ids-none | false ↦ ids-one [] ]

  ids-solutions : (l : Level) (a : Assignment) → HasDistinctIds (solutions w l a)
  unfolding solutions
  ids-solutions done a = ids-one []
  ids-solutions (also i rest) a = ids-product (fields_of_item w a i) (solutions w rest a) (regular_choices w keeps a i) (ids-choices a i) (ids-solutions rest a)
  ids-solutions (unless from_term vs inner rest) a =
      elim (list_all (λ b. length (solutions w inner b) == 0) (assignments vs w.entities a)) as (λ t. HasDistinctIds (if t then solutions w rest a else [])) [ true ↦ ids-solutions rest a | false ↦ ids-none ]

  same_row : (q : Query) (r s : Row) → In r (rows w q) → In s (rows w q) → r.bindings ≡ s.bindings → map id_shown r.fields ≡ map id_shown s.fields → r ≡ s
  unfolding rows
  same_row q r s i j bindings ids =
      let a = In-flat_map_from (rows_under w q) (ordered w q (candidates w q)) r i in
      let b = In-flat_map_from (rows_under w q) (ordered w q (candidates w q)) s j in
      let x = Extends-from_assignments (visible q) w.entities [] a.0 refl (In-filter_from (λ c. not (passes_over w q c)) (assignments (visible q) w.entities []) a.0 (In-from_ordered w q (candidates w q) a.0 a.1)).0 in
      let y = Extends-from_assignments (visible q) w.entities [] b.0 refl (In-filter_from (λ c. not (passes_over w q c)) (assignments (visible q) w.entities []) b.0 (In-from_ordered w q (candidates w q) b.0 b.1)).0 in
      let m = In-map_from (row_of a.0) (solutions w (top q) a.0) r a.2 in
      let n = In-map_from (row_of b.0) (solutions w (top q) b.0) s b.2 in
      let same : a.0 ≡ b.0 = same_parts a.0 b.0 (same_keys a.0 b.0 x.in_order y.in_order (Extends-binds (visible q) w.entities a.0 b.0 x y)) (ap (λ z. z.bindings) m.2 ∙ bindings ∙ sym (ap (λ z. z.bindings) n.2)) in
      let there : In n.0 (solutions w (top q) a.0) = subst (λ c. In n.0 (solutions w (top q) c)) (sym same) n.1 in
      let fields : m.0 ≡ n.0 = ids-solutions (top q) a.0 m.0 n.0 m.1 there (ap (λ z. map id_shown z.fields) m.2 ∙ ids ∙ sym (ap (λ z. map id_shown z.fields) n.2)) in
      sym m.2 ∙ (λ k. row_of (same k) (fields k)) ∙ n.2

pub rows_are_their_ids : RowsAreTheirIds
rows_are_their_ids w q a b keeps h k bindings ids =
    same_row w keeps q a b (In-from_place (rows w q) h.0 a h.1 h.2) (In-from_place (rows w q) k.0 b k.1 k.2) bindings ids
