-- No row of a query is there twice.
use Rattle.std.proofs.Common.{◌≡◌, ◌≢◌, ℕ, true, false, cond, inl, inr, List, [], ◌∷◌, ◌++◌, length, refl, sym, ap, ◌∙◌, subst, arith}
use Rattle.std.specs.Prelude.{filter, filter_map, map, not, ◌==◌, ◌&&◌, Option, Some, None, is_some, take, if◌then◌else◌, All, AllPairs}
use Rattle.std.specs.List.{list_all, cons_option}
use Rattle.std.specs.Option.{option_map_or}
use Rattle.std.specs.declared.cmp.Ordering.{Ordering}
use Rattle.std.specs.declared.cmp.Ordering.TheVariants.{Equal}
use Rattle.std.specs.Ordering.{nat_cmp, is_lt, ordering_then, eq_by_cmp}
use Rattle.std.specs.Cmp.{nat_cmp_is}
use Rattle.std.specs.FinMap.Entries.{below_all, is_sorted, find, same_entries}
use Rattle.std.specs.Bool.{passes}
use Rattle.std.proofs.lemmas.Cmp.{nat_cmp_total}
use Rattle.std.proofs.lemmas.Bool.{false≢true, true≢false, and_parts, eqb-true, cases_Bool}
use Rattle.std.proofs.lemmas.List.Elements.{All-nil, All-cons}
use Rattle.std.proofs.lemmas.List.Kept.{AllPairs-cons}
use Rattle.std.proofs.lemmas.Option.{same_Some}
use Rattle.ecs_id.specs.Id.{Id, pair, id_cmp, rank, first_of, target_or_zero}
use Rattle.query_meaning.proofs.Lists.{AllPairs-from_Distinct, Distinct-from_AllPairs, In, Distinct, In-filter_from, Distinct-filter, Distinct-flat_map}
use Rattle.query_meaning.proofs.Assignments.{at, binds, same_from_Equal, Extends, Extends-from_assignments, Distinct-assignments}
use Rattle.query_meaning.proofs.StepNames.{repeats-range}
use Rattle.query_meaning.proofs.OrderedAssignments.{Distinct-ordered, In-from_ordered}
use Rattle.query_meaning.proofs.LevelHolding.{In-map_from}
use Rattle.ecs_model.specs.Links.{reaches}
use Rattle.ecs_model.specs.Map.{IsMap, Map, keys}
use Rattle.query_meaning.specs.Laws.{RowsAreDistinct}
use Rattle.ecs_model.specs.rows.Level.{Level, also, done, top, unless}
use Rattle.ecs_model.specs.rows.Rows.{row_of, Assignment, Field, Row, Unset, asked, assignments, candidates, closed_fields, fields_at, fields_of_item, fields_of_term, first_nonempty, hits, keeps_first_hit, matches, meant, ordered, passes_over, product, rows, rows_under, same_entity, shown, shown_fields, solutions, visible}
use Rattle.query_meaning.specs.Variables.{contains}
use Rattle.ecs_model.specs.rows.View.{HasNoRepeats, View}
use Rattle.query_model.specs.Query.{Item, Query, differ, either, equal, may, must}
use Rattle.query_model.specs.declared.query.Term.{Term}

module _ {X : Type 0} where
  Distinct-one : (n : ℕ) (xs : List X) → Distinct xs → Distinct (take 1 xs)
  Distinct-one n [] d = tt
  Distinct-one n (x ∷ xs) d = (λ i. i, tt)

  pub first_nonempty-keeps : (P : List X → Type 0) → P [] → (xss : List (List X)) → ((xs : List X) → In xs xss → P xs) → P (first_nonempty xss)
  first_nonempty-keeps P none [] h = none
  first_nonempty-keeps P none ([] ∷ xss) h = first_nonempty-keeps P none xss (λ xs i. h xs (inr i))
  first_nonempty-keeps P none ((x ∷ xs) ∷ xss) h = h (x ∷ xs) (inl refl)

  pub same_rest : (xs ys zs : List X) → xs ++ ys ≡ xs ++ zs → ys ≡ zs
  same_rest [] ys zs e = e
  same_rest (x ∷ xs) ys zs e = same_rest xs ys zs (let p : x ∷ (xs ++ ys) ≡ x ∷ (xs ++ zs) = e in cc)

  pub same_front : (xs ys us vs : List X) → length xs ≡ length ys → xs ++ us ≡ ys ++ vs → xs ≡ ys
  same_front [] [] us vs n e = refl
  same_front [] (y ∷ ys) us vs n e = absurd (omega arith)
  same_front (x ∷ xs) [] us vs n e = absurd (omega arith)
  same_front (x ∷ xs) (y ∷ ys) us vs n e =
      let p : x ∷ (xs ++ us) ≡ y ∷ (ys ++ vs) = e in
      let heads : x ≡ y = cc in
      let tails : xs ++ us ≡ ys ++ vs = cc in
      let rest : xs ≡ ys = same_front xs ys us vs (omega arith) tails in
      cc

pub Distinct-map : {X Y : Type 0} (f : X → Y) → ((x y : X) → f x ≡ f y → x ≡ y) → (xs : List X) → Distinct xs → Distinct (map f xs)
Distinct-map f same [] d = tt
Distinct-map f same (x ∷ xs) d = (λ i. let r = In-map_from f xs (f x) i in d.0 (subst (λ z. In z xs) (same r.0 x r.2) r.1), Distinct-map f same xs d.1)

-- no list twice, and all of one length
pub record IsRegular {X : Type 0} (xs : List (List X)) : Type 0 where
  pub distinct : Distinct xs
  pub width : ℕ
  pub long : (x : List X) → In x xs → length x ≡ width

pub Distinct-product : {X : Type 0} (xs ys : List (List X)) → IsRegular xs → Distinct ys → Distinct (product xs ys)
Distinct-product xs ys r d =
    Distinct-flat_map (λ x. map (λ y. x ++ y) ys) xs r.distinct (λ x i. Distinct-map (λ y. x ++ y) (same_rest x) ys d)
    (λ x y z i j k l.
    let a = In-map_from (λ u. x ++ u) ys z k in
    let b = In-map_from (λ u. y ++ u) ys z l in
    same_front x y a.0 b.0 (r.long x i ∙ sym (r.long y j)) (a.2 ∙ sym b.2))

-- ---- an assignment is its variables and their entities

marks : Assignment → List (ℕ × Unit {0})
marks a = map (λ e. (e.0, tt)) a

below-marks : (k : ℕ) (a : Assignment) → below_all nat_cmp k (marks a) ≡ below_all nat_cmp k a
unfolding marks
below-marks k [] = refl
below-marks k (e ∷ es) = ap (λ b. is_lt (nat_cmp k e.0) && b) (below-marks k es)

sorted-marks : (a : Assignment) → is_sorted nat_cmp (marks a) ≡ is_sorted nat_cmp a
unfolding marks
sorted-marks [] = refl
sorted-marks (e ∷ es) = let p = below-marks e.0 es in let q = sorted-marks es in λ i. p i && q i

bare : Option ℕ → Option (Unit {0})
bare None = None
bare (Some x) = Some tt

bare_alike : (o p : Option ℕ) → is_some o ≡ is_some p → bare o ≡ bare p
unfolding bare
bare_alike None None e = refl
bare_alike None (Some y) e = absurd (false≢true e)
bare_alike (Some x) None e = absurd (true≢false e)
bare_alike (Some x) (Some y) e = refl

find-marks : (v : ℕ) (a : Assignment) → find nat_cmp v (marks a) ≡ bare (find nat_cmp v a)
unfolding marks bare
find-marks v [] = refl
find-marks v (e ∷ es) = elim (eq_by_cmp nat_cmp v e.0) as (λ b. cond b (Some tt) (find nat_cmp v (marks es)) ≡ bare (cond b (Some e.1) (find nat_cmp v es))) [ true ↦ refl | false ↦ find-marks v es ]

keys-marks : (a : Assignment) → keys (marks a) ≡ keys a
unfolding marks
keys-marks [] = refl
keys-marks (e ∷ es) = ap (λ ks. e.0 ∷ ks) (keys-marks es)

pub same_keys : (a b : Assignment) → IsMap nat_cmp a → IsMap nat_cmp b → ((v : ℕ) → binds a v ≡ binds b v) → keys a ≡ keys b
same_keys a b m n h =
    sym (keys-marks a)
    ∙ ap keys (same_entries nat_cmp nat_cmp_total same_from_Equal (marks a) (marks b) (passes _ (sorted-marks a ∙ m)) (passes _ (sorted-marks b ∙ n))
    (λ v. find-marks v a ∙ bare_alike (at a v) (at b v) (h v) ∙ sym (find-marks v b)))
    ∙ keys-marks b

pub same_parts : (a b : Assignment) → keys a ≡ keys b → map (λ e. e.1) a ≡ map (λ e. e.1) b → a ≡ b
same_parts [] [] k v = refl
same_parts [] (e ∷ es) k v = cc
same_parts (e ∷ es) [] k v = cc
same_parts (e ∷ es) (f ∷ fs) k v =
    let ks : e.0 ∷ keys es ≡ f.0 ∷ keys fs = k in
    let vs : e.1 ∷ map (λ x. x.1) es ≡ f.1 ∷ map (λ x. x.1) fs = v in
    let variables : e.0 ≡ f.0 = cc in
    let entities : e.1 ≡ f.1 = cc in
    let rest = same_parts es fs (let t : keys es ≡ keys fs = cc in t) (let t : map (λ x. x.1) es ≡ map (λ x. x.1) fs = cc in t) in
    λ i. (variables i, entities i) ∷ rest i

pub Extends-binds : (vs es : List ℕ) (b c : Assignment) → Extends vs es [] b → Extends vs es [] c → (v : ℕ) → binds b v ≡ binds c v
Extends-binds vs es b c x y v = elim (cases_Bool (contains vs v)) [
  | inl t ↦ let p = x.own v t in let q = y.own v t in ap is_some p.2 ∙ sym (ap is_some q.2)
  | inr t ↦ ap is_some (x.rest v t ∙ sym (y.rest v t))
]

module _ (w : View) (keeps : HasNoRepeats w) where
  Distinct-ids : (e : ℕ) → Distinct (w.ids e)
  Distinct-ids e = Distinct-from_AllPairs (w.ids e) (keeps.ids e)

  Distinct-hits : (a : Assignment) (t : Term) (m : ℕ) → Distinct (hits w a t m)
  unfolding hits
  Distinct-hits a t m =
      let all = Distinct-filter (matches a t.component t.target) (w.ids m) (Distinct-ids m) in
      elim (keeps_first_hit t) as (λ b. Distinct (if b then take 1 (filter (matches a t.component t.target) (w.ids m)) else filter (matches a t.component t.target) (w.ids m))) [ true ↦ Distinct-one 1 (filter (matches a t.component t.target) (w.ids m)) all | false ↦ all ]

  Distinct-closed : (o : Option ℕ) (s : ℕ) (p : Option ℕ) → Distinct (closed_fields w o s p)
  Distinct-closed None s p = tt
  Distinct-closed (Some r) s None = tt
  Distinct-closed (Some r) s (Some u) = elim (reaches w.ids w.entities r s u) as (λ b. Distinct {X = ℕ × Id} (if b then (s, pair r u) ∷ [] else [])) [ true ↦ (λ i. i, tt) | false ↦ tt ]

  Distinct-fields_at : (a : Assignment) (t : Term) (s : ℕ) → Distinct (fields_at w a t s)
  Distinct-fields_at a t s =
      elim t.closed as (λ b. Distinct (if b then closed_fields w (meant a t.component) s (option_map_or (meant a) t.target None) else first_nonempty (map (λ m. map (λ i. (m, i)) (hits w a t m)) (asked w t s)))) [
        | true ↦ Distinct-closed (meant a t.component) s (option_map_or (meant a) t.target None)
        | false ↦ first_nonempty-keeps Distinct tt (map (λ m. map (λ i. (m, i)) (hits w a t m)) (asked w t s)) (λ xs i.
            let r = In-map_from (λ m. map (λ j. (m, j)) (hits w a t m)) (asked w t s) xs i in
            subst Distinct r.2 (Distinct-map (λ j. (r.0, j)) (λ x y e. ap (λ z. z.1) e) (hits w a t r.0) (Distinct-hits a t r.0)))
      ]

  Distinct-fields : (a : Assignment) (t : Term) → Distinct (fields_of_term w a t)
  unfolding fields_of_term
  Distinct-fields a t = elim (meant a t.source) as (λ o. Distinct (option_map_or (fields_at w a t) o [])) [ None ↦ tt | Some s ↦ Distinct-fields_at a t s ]

  same_shown : (t : Term) (f g : ℕ × Id) → shown w t f ∷ [] ≡ shown w t g ∷ [] → f ≡ g
  same_shown t f g e =
      let source : f.0 ≡ g.0 = cc in
      let id : f.1 ≡ g.1 = cc in
      λ i. (source i, id i)

  regular_shown : (a : Assignment) (t : Term) → IsRegular (shown_fields w a t)
  regular_shown a t = record {
    distinct = Distinct-map (λ f. shown w t f ∷ []) (same_shown t) (fields_of_term w a t) (Distinct-fields a t);
    width = 1;
    long = λ x i. let r = In-map_from (λ f. shown w t f ∷ []) (fields_of_term w a t) x i in ap length (sym r.2);
  }

  regular_none : {X : Type 0} → IsRegular {X = X} []
  regular_none = record { distinct = tt; width = 0; long = λ x i. absurd i }

  regular_one : {X : Type 0} (x : List X) → IsRegular (x ∷ [])
  regular_one x = record { distinct = (λ i. i, tt); width = length x; long = λ y i. elim i [ inl e ↦ ap length (sym e) | inr n ↦ absurd n ] }

  pub regular_choices : (a : Assignment) (i : Item) → IsRegular (fields_of_item w a i)
  unfolding fields_of_item
  regular_choices a (must t) = regular_shown a t
  regular_choices a (may t) = first_nonempty-keeps IsRegular regular_none (shown_fields w a t ∷ ((Unset ∷ []) ∷ []) ∷ []) (λ xs i. elim i [
    | inl e ↦ subst IsRegular e (regular_shown a t)
    | inr j ↦ elim j [ inl e ↦ subst IsRegular e (regular_one (Unset ∷ [])) | inr n ↦ absurd n ]
  ])
  regular_choices a (either ts) = first_nonempty-keeps IsRegular regular_none (map (shown_fields w a) ts) (λ xs i. let r = In-map_from (shown_fields w a) ts xs i in subst IsRegular r.2 (regular_shown a r.0))
  regular_choices a (equal v r) = elim (same_entity w a v r) as (λ b. IsRegular {X = Field} (if b then [] ∷ [] else [])) [ true ↦ regular_one [] | false ↦ regular_none ]
  regular_choices a (differ v r) = elim (same_entity w a v r) as (λ b. IsRegular {X = Field} (if b then [] else [] ∷ [])) [ true ↦ regular_none | false ↦ regular_one [] ]

  pub Distinct-solutions : (l : Level) (a : Assignment) → Distinct (solutions w l a)
  unfolding solutions
  Distinct-solutions done a = (λ i. i, tt)
  Distinct-solutions (also i rest) a = Distinct-product (fields_of_item w a i) (solutions w rest a) (regular_choices a i) (Distinct-solutions rest a)
  Distinct-solutions (unless from_term vs inner rest) a =
      elim (list_all (λ b. length (solutions w inner b) == 0) (assignments vs w.entities a)) as (λ t. Distinct (if t then solutions w rest a else [])) [ true ↦ Distinct-solutions rest a | false ↦ tt ]

  pub Distinct-rows : (q : Query) → Distinct (rows w q)
  unfolding rows
  Distinct-rows q =
      let extends : (a : Assignment) → In a (ordered w q (candidates w q)) → Extends (visible q) w.entities [] a = λ a i.
      Extends-from_assignments (visible q) w.entities [] a refl (In-filter_from (λ b. not (passes_over w q b)) (assignments (visible q) w.entities []) a (In-from_ordered w q (candidates w q) a i)).0 in
      Distinct-flat_map (rows_under w q) (ordered w q (candidates w q))
      (Distinct-ordered w q (candidates w q)
      (Distinct-filter (λ a. not (passes_over w q a)) (assignments (visible q) w.entities [])
      (Distinct-assignments (visible q) w.entities [] (Distinct-from_AllPairs w.entities keeps.entities) (repeats-range 0 (length q.variables)) refl)))
      (λ a i. Distinct-map (row_of a) (λ x y e. ap (λ r. r.fields) e) (solutions w (top q) a) (Distinct-solutions (top q) a))
      (λ a b r i j k l.
      let x = extends a i in
      let y = extends b j in
      let m = In-map_from (row_of a) (solutions w (top q) a) r k in
      let n = In-map_from (row_of b) (solutions w (top q) b) r l in
      same_parts a b (same_keys a b x.in_order y.in_order (Extends-binds (visible q) w.entities a b x y)) (ap (λ z. z.bindings) (m.2 ∙ sym n.2)))

pub rows_are_distinct : RowsAreDistinct
rows_are_distinct w q keeps = AllPairs-from_Distinct (rows w q) (Distinct-rows w keeps q)
