-- The plan of a simple query walks through the shortest list of tables and judges its other items after that, so its probes are bounded by that list and by the number of items; and where it goes through given tables, by these.
use Rattle.std.proofs.Common.{◌≡◌, ℕ, zero, suc, ◌+◌, ◌<◌, ◌≤◌, ◌*◌, inl, inr, Bool, true, false, List, [], ◌∷◌, ◌++◌, length, replicate, refl, sym, ap, ◌∙◌, subst, arith, append-nil, mul_comm}
use Rattle.std.specs.Prelude.{◌==◌, ◌&&◌, filter, flat_map, map, not, is_none, slice_get, slice_index, Option, Some, None, option_map, if◌then◌else◌}
use Rattle.std.specs.List.{Contains, list_all, list_any, range_with_len, sum_by}
use Rattle.std.specs.Option.{option_map_or}
use Rattle.std.proofs.Math.Nat.{mul-le-mul_right}
use Rattle.std.proofs.lemmas.Bool.{and_from, and_parts, cases_Bool, eqb-true, false≢true, not-true}
use Rattle.std.proofs.lemmas.Grind.{flat_map-append}
use Rattle.std.proofs.lemmas.List.{map-append}
use Rattle.std.proofs.lemmas.List.Elements.{All-contains, Contains-append_left, Contains-append_right}
use Rattle.std.proofs.lemmas.List.Folds.{list_all-append}
use Rattle.std.proofs.lemmas.List.FromFn.{length-range_with_len}
use Rattle.std.proofs.lemmas.List.Sums.{count_by-le-length, length-filter, sum_by-append, sum_by-cons}
use Rattle.std.proofs.lemmas.Option.{get_or_from_slice_get, slice_get_within}
use Rattle.ecs_id.specs.declared.TableKey.{TableKey}
use Rattle.id_pattern.specs.declared.Part.TheVariants as part
use Rattle.ecs_model.proofs.Members.{in_flat_map}
use Rattle.ecs_model.specs.rows.Level.{top}
use Rattle.ecs_model.specs.rows.Rows.{level_mentions}
use Rattle.ecs_model.specs.steps.Rules.{prefab, disabled}
use Rattle.query_meaning.proofs.FlatItems.{items_from, items-entries}
use Rattle.query_meaning.specs.Names.{entry_names, name_in, term_names}
use Rattle.query_meaning.specs.Plan.{target_or_any}
use Rattle.query_meaning.specs.Variables.{Entry, simple, group, entries, entry_at, simple_of}
use Rattle.query_meaning.specs.declared.steps.Mode.TheVariants as mode
use Rattle.query_meaning.specs.declared.steps.Step.{Step}
use Rattle.query_meaning.specs.declared.steps.Step.TheVariants.{Deal}
use Rattle.query_model.specs.declared.query.Ref.{Ref}
use Rattle.query_model.specs.declared.query.Ref.TheVariants.{Is, Var, Any, AnyOnce}
use Rattle.query_model.specs.declared.query.Term.{Term}
use Rattle.query_model.specs.Local.{asks_first, asks_one_id, is_direct, is_entity, is_entity_if_written, is_must, is_simple, is_simple_piece}
use Rattle.query_model.specs.Observers.{is_constant, is_constant_target, is_first}
use Rattle.query_model.specs.Query.{must, may, either, equal, differ, Piece, item, opening, closing, Query}
use Rattle.query_plan.proofs.SimpleQueries.{simple_queries_are_led}
use Rattle.query_plan.specs.Plans.{IsPlanned}
use Rattle.query_plan.specs.Simple.{has_terms, is_leading}
use Rattle.plan_steps.specs.Instructions.{cut, cuts, entry_instructions, hit_test, instructions_of, is_fixed, item_takes_this, moves_of, name_of, pattern_of, takes_this, term_test, variable_of, with_cuts}
use Rattle.plan_steps.specs.declared.instruction.Instruction.{Instruction}
use Rattle.plan_steps.specs.declared.instruction.Instruction.TheVariants.{Walk, Match, Keep}
use Rattle.plan_steps.specs.declared.instruction.Lists.TheVariants.{Of}
use Rattle.plan_steps.specs.declared.instruction.Source.TheVariants.{Tables}
use Rattle.plan_steps.specs.declared.instruction.Test.{Test}
use Rattle.plan_steps.specs.declared.instruction.Test.TheVariants.{Hit, HitAbove, Same, Differ, Reaches, Lacks}
use Rattle.plan_steps.specs.Probes.{weight}
use Rattle.plan_steps.specs.Reading.{Reading}
use Rattle.plan_steps.specs.Row.{Row, narrowed, narrowed_part}
use Rattle.plan_steps.specs.TableProbes.{Judged, one, any_of, is_judged_once, judged_weight, judging, walk_and_judge}
use Rattle.plan_steps.specs.Tables.{by_tables, is_shared_test}
use Rattle.plan_steps.specs.Variables.{asks_others, is_other}
use Rattle.plan_steps.specs.Width.{width_of}
use Rattle.plan_steps.proofs.NestedInstructions.{cut_from, split_is}
use Rattle.plan_steps.proofs.TableProbes.{cut_last}
use Rattle.world_query.specs.Answerable.{searched_part, searched_pattern, table_counts, tables_of_item, tables_of_piece}
use Rattle.world_query.specs.Probes.{KeptQueriesStayWithin, SimpleQueriesStayWithin, instructions_by}

-- ---- terms for one id of `$this`

name_is_fixed : (r : Ref) → is_entity r ≡ true → is_constant r ≡ true
name_is_fixed (Is e) h = refl
name_is_fixed (Var u) h = absurd (false≢true h)
name_is_fixed Any h = absurd (false≢true h)
name_is_fixed AnyOnce h = absurd (false≢true h)

target_is_fixed : (o : Option Ref) → is_entity_if_written o ≡ true → is_constant_target o ≡ true
target_is_fixed None h = refl
target_is_fixed (Some r) h = name_is_fixed r h

name_is_other : (u : ℕ) (r : Ref) → is_entity r ≡ true → is_other u r ≡ true
name_is_other u (Is e) h = refl
name_is_other u (Var w) h = absurd (false≢true h)
name_is_other u Any h = absurd (false≢true h)
name_is_other u AnyOnce h = absurd (false≢true h)

target_is_other : (u : ℕ) (o : Option Ref) → is_entity_if_written o ≡ true → option_map_or (is_other u) o true ≡ true
target_is_other u None h = refl
target_is_other u (Some r) h = name_is_other u r h

none_there : (o : Option ℕ) → is_none o ≡ true → o ≡ None
none_there None h = refl
none_there (Some r) h = absurd (false≢true h)

record AsksOne (t : Term) : Type 0 where
  source : is_first t.source ≡ true
  first : is_entity t.component ≡ true
  target : is_entity_if_written t.target ≡ true
  test : term_test t ≡ Hit t.source (pattern_of t)

asks_one : (t : Term) → asks_one_id t ≡ true → AsksOne t
asks_one t h =
    let whole = and_parts (asks_first t && is_entity t.component) (is_entity_if_written t.target) h in
    let half = and_parts (asks_first t) (is_entity t.component) whole.0 in
    let source = and_parts (is_first t.source) (is_direct t) half.0 in
    let stored = and_parts (t.on_source && is_none t.up) (not t.closed) source.1 in
    let plain = and_parts t.on_source (is_none t.up) stored.0 in
    let own : t.on_source ≡ true = plain.0 in
    record {
      source = source.0;
      first = half.1;
      target = whole.1;
      test = (λ k. if not-true t.closed stored.1 k then Reaches (name_of t.component) t.source (target_or_any t) else hit_test (own k) (none_there t.up plain.1 k) t);
    }

fixed : (t : Term) → asks_one_id t ≡ true → is_fixed t ≡ true
fixed t h = and_from _ _ (name_is_fixed t.component (asks_one t h).first) (target_is_fixed t.target (asks_one t h).target)

shared_term : (u : ℕ) (t : Term) → asks_one_id t ≡ true → is_shared_test u None (term_test t) ≡ true
shared_term u t h = ap (is_shared_test u None) (asks_one t h).test ∙ and_from _ _ (name_is_other u t.component (asks_one t h).first) (target_is_other u t.target (asks_one t h).target)

shared_terms : (u : ℕ) (ts : List Term) → list_all asks_one_id ts ≡ true → list_all (is_shared_test u None) (map term_test ts) ≡ true
shared_terms u [] h = refl
shared_terms u (t ∷ ts) h =
    let both = and_parts (asks_one_id t) (list_all asks_one_id ts) h in
    and_from _ _ (shared_term u t both.0) (shared_terms u ts both.1)

-- ---- the items that are judged

abbrev judged_of : Option Entry → List Judged
judged_of (Some (simple level (must t))) = one (term_test t) ∷ []
judged_of (Some (simple level (either ts))) = any_of (map term_test ts) ∷ []
judged_of o = []

-- an item of a simple query, outside all groups
abbrev is_plain : Option Entry → Bool
is_plain None = true
is_plain (Some (simple level i)) = is_simple_piece (item i)
is_plain (Some (group level own inner)) = false

plain_from : (n : ℕ) (ps : List Piece) → list_all is_simple_piece ps ≡ true → (k : ℕ) → is_plain (slice_get (items_from n [] ps) k) ≡ true
plain_from n [] s k = refl
plain_from n (item i ∷ ps) s zero = (and_parts (is_simple_piece (item i)) (list_all is_simple_piece ps) s).0
plain_from n (item i ∷ ps) s (suc k) = plain_from (n + 1) ps (and_parts (is_simple_piece (item i)) (list_all is_simple_piece ps) s).1 k
plain_from n (opening from_term own ∷ ps) s k = absurd (false≢true s)
plain_from n (closing ∷ ps) s k = absurd (false≢true s)

checked : (o : Option Entry) → is_plain o ≡ true → entry_instructions mode.Check o ≡ flat_map judging (judged_of o)
checked None h = refl
checked (Some (simple level (must t))) h = refl
checked (Some (simple level (may t))) h = refl
checked (Some (simple level (either ts))) h = sym (append-nil (judging (any_of (map term_test ts))))
checked (Some (simple level (equal w r))) h = absurd (false≢true h)
checked (Some (simple level (differ w r))) h = absurd (false≢true h)
checked (Some (group level own inner)) h = absurd (false≢true h)

shared_entry : (u : ℕ) (o : Option Entry) → is_plain o ≡ true → list_all (is_judged_once u) (judged_of o) ≡ true
shared_entry u None h = refl
shared_entry u (Some (simple level (must t))) h = and_from _ _ (shared_term u t h) refl
shared_entry u (Some (simple level (may t))) h = refl
shared_entry u (Some (simple level (either ts))) h = and_from _ _ (shared_terms u ts h) refl
shared_entry u (Some (simple level (equal w r))) h = refl
shared_entry u (Some (simple level (differ w r))) h = refl
shared_entry u (Some (group level own inner)) h = refl

light : (t : Test) → weight t ≤ 1
light (Hit s p) = omega arith
light (HitAbove s p r own) = omega arith
light (Same r s) = omega arith
light (Differ r s) = omega arith
light (Reaches r s t) = omega arith
light (Lacks r tag) = omega arith

light_chain : (ts : List Test) → judged_weight (any_of ts) ≤ 1
light_chain [] = omega arith
light_chain (t ∷ ts) = light t

light_entry : (o : Option Entry) → sum_by judged_weight (judged_of o) ≤ 1
light_entry None = omega arith
light_entry (Some (simple level (must t))) = omega (arith, light (term_test t), sum_by-cons judged_weight (one (term_test t)) [])
light_entry (Some (simple level (may t))) = omega arith
light_entry (Some (simple level (either ts))) = omega (arith, light_chain (map term_test ts), sum_by-cons judged_weight (any_of (map term_test ts)) [])
light_entry (Some (simple level (equal w r))) = omega arith
light_entry (Some (simple level (differ w r))) = omega arith
light_entry (Some (group level own inner)) = omega arith

module _ (q : Query) (plain : (k : ℕ) → is_plain (entry_at q k) ≡ true) where
  abbrev judged_at : ℕ → List Judged
  judged_at j = judged_of (entry_at q j)

  all_checked : (js : List ℕ) → moves_of q (map (Deal mode.Check) js) ≡ flat_map judging (flat_map judged_at js)
  all_checked [] = refl
  all_checked (j ∷ js) = (λ k. checked (entry_at q j) (plain j) k ++ all_checked js k) ∙ sym (flat_map-append judging (judged_at j) (flat_map judged_at js))

  all_shared : (u : ℕ) (js : List ℕ) → list_all (is_judged_once u) (flat_map judged_at js) ≡ true
  all_shared u [] = refl
  all_shared u (j ∷ js) = list_all-append (is_judged_once u) (judged_at j) (flat_map judged_at js) ∙ and_from _ _ (shared_entry u (entry_at q j) (plain j)) (all_shared u js)

  all_light : (js : List ℕ) → sum_by judged_weight (flat_map judged_at js) ≤ length js
  all_light [] = omega arith
  all_light (j ∷ js) = omega (arith, sum_by-append judged_weight (judged_at j) (flat_map judged_at js), light_entry (entry_at q j), all_light js)

-- ---- the cuts

kept : (ts : List Test) → map Keep ts ≡ flat_map judging (map one ts)
kept [] = refl
kept (t ∷ ts) = ap (λ ss. Keep t ∷ ss) (kept ts)

-- tests that every entity of a table passes or none, and that are no items
record AreCuts (u : ℕ) (ts : List Test) : Type 0 where
  shared : list_all (is_judged_once u) (map one ts) ≡ true
  none : sum_by judged_weight (map one ts) ≡ 0

no_cuts : (u : ℕ) → AreCuts u []
no_cuts u = record { shared = refl; none = refl }

cut_off : (u : ℕ) (q : Query) (tag : ℕ) → AreCuts u (cut q tag)
cut_off u q tag = elim (level_mentions tag (top q)) as (λ b. AreCuts u (if b then [] else Lacks (Var 0) tag ∷ [])) [ true ↦ no_cuts u | false ↦ record { shared = refl; none = refl } ]

both_cuts : (u : ℕ) (ts us : List Test) → AreCuts u ts → AreCuts u us → AreCuts u (ts ++ us)
both_cuts u ts us a b = record {
  shared = ap (list_all (is_judged_once u)) (map-append one ts us) ∙ list_all-append (is_judged_once u) (map one ts) (map one us) ∙ and_from _ _ a.shared b.shared;
  none = ap (sum_by judged_weight) (map-append one ts us) ∙ sum_by-append judged_weight (map one ts) (map one us) ∙ (λ k. a.none k + b.none k);
}

all_cuts : (u : ℕ) (q : Query) → AreCuts u (cuts q)
all_cuts u q =
    elim q.has_this as (λ b. AreCuts u (if b then cut q prefab ++ cut q disabled else [])) [ true ↦ both_cuts u (cut q prefab) (cut q disabled) (cut_off u q prefab) (cut_off u q disabled) | false ↦ no_cuts u ]

-- ---- the leading term

record Leads (o : Option Entry) : Type 0 where
  level : ℕ
  term : Term
  is : o ≡ Some (simple level (must term))

leads : (o : Option Entry) → is_leading o ≡ true → Leads o
leads None h = absurd (false≢true h)
leads (Some (simple level (must t))) h = record { level = level; term = t; is = refl }
leads (Some (simple level (may t))) h = absurd (false≢true h)
leads (Some (simple level (either ts))) h = absurd (false≢true h)
leads (Some (simple level (equal w r))) h = absurd (false≢true h)
leads (Some (simple level (differ w r))) h = absurd (false≢true h)
leads (Some (group level own inner)) h = absurd (false≢true h)

scanned : (level : ℕ) (t : Term) → asks_one_id t ≡ true → entry_instructions mode.Scan (Some (simple level (must t))) ≡ Walk (variable_of t.source) (Tables (Of (pattern_of t))) ∷ []
scanned level t h = ap (λ b. Walk (variable_of t.source) (Tables (Of (pattern_of t))) ∷ (if b then [] else Match t.source (pattern_of t) ∷ [])) (fixed t h)

-- `$this` has its entity after it
first_takes : (r : Ref) (b : Bool) → is_first r ≡ true → not (is_other 0 r && b) ≡ true
first_takes (Var u) b h = ap (λ y. not (not y && b)) h
first_takes (Is e) b h = absurd (false≢true h)
first_takes Any b h = absurd (false≢true h)
first_takes AnyOnce b h = absurd (false≢true h)

-- the steps of a query that a term leads: `$this` is judged after its items
led_steps : (q : Query) (first : ℕ) (t : Term) (js : List ℕ) → ((k : ℕ) → is_plain (entry_at q k) ≡ true) → entry_instructions mode.Scan (entry_at q first) ≡ Walk (variable_of t.source) (Tables (Of (pattern_of t))) ∷ []
    → takes_this q (Deal mode.Scan first) ≡ true → instructions_of q (Deal mode.Scan first ∷ map (Deal mode.Check) js) ≡ walk_and_judge (variable_of t.source) (pattern_of t) (flat_map (λ j. judged_of (entry_at q j)) js ++ map one (cuts q))
led_steps q first t js plain scan taken =
    let items : List Judged = flat_map (λ j. judged_of (entry_at q j)) js in
    let walk : Instruction = Walk (variable_of t.source) (Tables (Of (pattern_of t))) in
    let checks : List Step = map (Deal mode.Check) js in
    split_is q (Deal mode.Scan first ∷ checks) 0
    ∙ (λ k. scan k ++ (if taken k then with_cuts q (moves_of q checks) else cut_from q checks 0))
    ∙ ap (λ ss. walk ∷ with_cuts q ss) (all_checked q plain js)
    ∙ ap (λ ss. walk ∷ ss) (cut_last q items (all_shared q plain 0 js))
    ∙ (λ k. walk ∷ (flat_map judging items ++ kept (cuts q) k))
    ∙ ap (λ ss. walk ∷ ss) (sym (flat_map-append judging items (map one (cuts q))))

-- ---- its tables

module _ (v : Reading) where
  abbrev tables_told : Option Entry → ℕ
  tables_told (Some (simple level i)) = tables_of_item v i
  tables_told o = 0

  told_from : (n : ℕ) (ps : List Piece) → list_all is_simple_piece ps ≡ true → (k : ℕ) → slice_index (flat_map (tables_of_piece v) ps) k ≡ tables_told (slice_get (items_from n [] ps) k)
  told_from n [] s k = refl
  told_from n (item i ∷ ps) s zero = refl
  told_from n (item i ∷ ps) s (suc k) = told_from (n + 1) ps (and_parts (is_simple_piece (item i)) (list_all is_simple_piece ps) s).1 k
  told_from n (opening from_term own ∷ ps) s k = absurd (false≢true s)
  told_from n (closing ∷ ps) s k = absurd (false≢true s)

-- a name is listed as itself
part_of_name : (row : Row) (r : Ref) → is_entity r ≡ true → ((e : ℕ) → Contains (name_in r) e → 0 < e) → narrowed_part row r ≡ searched_part r
part_of_name row (Is e) h live = elim (cases_Bool (e == 0)) [
  | inl none ↦ let low : 0 < e = live e (0, omega arith, refl) in absurd (omega (arith, eqb-true e 0 none))
  | inr some ↦ ap (λ b. if b then part.Any else part.Is e) some
]
part_of_name row (Var u) h live = absurd (false≢true h)
part_of_name row Any h live = absurd (false≢true h)
part_of_name row AnyOnce h live = absurd (false≢true h)

part_of_target : (row : Row) (o : Option Ref) → is_entity_if_written o ≡ true → ((e : ℕ) → Contains (option_map_or name_in o []) e → 0 < e) → option_map (narrowed_part row) o ≡ option_map searched_part o
part_of_target row None h live = refl
part_of_target row (Some r) h live = ap Some (part_of_name row r h live)

same_pattern : (row : Row) (t : Term) → asks_one_id t ≡ true → ((e : ℕ) → Contains (term_names t) e → 0 < e) → narrowed row (pattern_of t) ≡ searched_pattern t
same_pattern row t h live =
    let own : List ℕ = name_in t.component in
    let aim : List ℕ = option_map_or name_in t.target [] in
    let behind : List ℕ = name_in t.source in
    let first = part_of_name row t.component (asks_one t h).first (λ e c. live e (Contains-append_left (own ++ aim) behind e (Contains-append_left own aim e c))) in
    let target = part_of_target row t.target (asks_one t h).target (λ e c. live e (Contains-append_left (own ++ aim) behind e (Contains-append_right own aim e c))) in
    λ k. record { first = first k; second = target k }

-- ---- the plan

-- the planner's steps are a walk through the tables of one term, and items that are judged of each
record IsLed (q : Query) (lists : List ℕ) (planned : List Step) : Type 0 where
  first : ℕ
  level : ℕ
  term : Term
  items : List Judged
  is : entry_at q first ≡ Some (simple level (must term))
  asks : asks_one_id term ≡ true
  shortest : (j : ℕ) → is_leading (entry_at q j) ≡ true → slice_index lists first ≤ slice_index lists j
  shared : list_all (is_judged_once (variable_of term.source)) items ≡ true
  steps : instructions_by q planned ≡ by_tables (walk_and_judge (variable_of term.source) (pattern_of term) items)
  once : sum_by judged_weight items ≤ length (entries q)

-- of a simple query
record IsSimple (q : Query) : Type 0 where
  has_this : q.has_this ≡ true
  pieces : list_all is_simple_piece q.pieces ≡ true

simple_parts : (q : Query) → is_simple q ≡ true → IsSimple q
simple_parts q s =
    let whole = and_parts (q.has_this && list_all is_simple_piece q.pieces) (list_any is_must q.pieces) s in
    let parts = and_parts q.has_this (list_all is_simple_piece q.pieces) whole.0 in
    record { has_this = parts.0; pieces = parts.1 }

led : (q : Query) (lists : List ℕ) (planned : List Step) → is_simple q ≡ true → list_all has_terms q.pieces ≡ true → IsPlanned q lists planned → IsLed q lists planned
led q lists planned s t by =
    let pieces = (simple_parts q s).pieces in
    let leader = simple_queries_are_led q lists planned s t by in
    let first : ℕ = leader.0 in
    let plain : (k : ℕ) → is_plain (entry_at q k) ≡ true = λ k. ap (λ es. is_plain (slice_get es k)) (sym (items-entries q)) ∙ plain_from 0 q.pieces pieces k in
    let it = leads (entry_at q first) (leader.1).0 in
    let x : Term = it.term in
    let asks : asks_one_id x ≡ true = ap is_plain (sym it.is) ∙ plain first in
    let count : ℕ = length (entries q) in
    let js : List ℕ = filter (λ i. not (first == i)) (range_with_len 0 count) in
    let u : ℕ = variable_of x.source in
    let cut = all_cuts u q in
    let taken = ap (λ o. item_takes_this (simple_of o)) it.is ∙ first_takes x.source (asks_others 0 (pattern_of x)) (asks_one x asks).source in
    let few : length js ≤ count =
    omega (arith, length-filter (λ i. not (first == i)) (range_with_len 0 count), count_by-le-length (λ i. not (first == i)) (range_with_len 0 count), length-range_with_len 0 count) in
    record {
      first = first;
      level = it.level;
      term = x;
      items = flat_map (λ i. judged_of (entry_at q i)) js ++ map one (cuts q);
      is = it.is;
      asks = asks;
      shortest = (leader.1).1;
      shared = list_all-append (is_judged_once u) (flat_map (λ i. judged_of (entry_at q i)) js) (map one (cuts q)) ∙ and_from _ _ (all_shared q plain u js) cut.shared;
      steps = ap (λ ss. by_tables (instructions_of q ss)) leader.2 ∙ ap by_tables (led_steps q first x js plain (ap (entry_instructions mode.Scan) it.is ∙ scanned it.level x asks) taken);
      once = omega (arith, sum_by-append judged_weight (flat_map (λ i. judged_of (entry_at q i)) js) (map one (cuts q)), all_light q plain js, cut.none, few);
    }

-- ---- the promises

pub simple_queries_stay_within : SimpleQueriesStayWithin
simple_queries_stay_within v q planned limit fact names s t by judges j leading =
    let lists : List ℕ = table_counts v q in
    let by_first = led q lists planned s t by in
    let first : ℕ = by_first.first in
    let x : Term = by_first.term in
    let items : List Judged = by_first.items in
    let count : ℕ = length (entries q) in
    let row : Row = replicate (width_of q) 0 in
    let bound : limit ≤ length (v.listed (narrowed row (pattern_of x))) * sum_by judged_weight items = judges (variable_of x.source) (pattern_of x) items by_first.shared by_first.steps in
    let there : Contains (entries q) (simple by_first.level (must x)) = (first, slice_get_within (entries q) first _ by_first.is, get_or_from_slice_get (entries q) first _ _ by_first.is) in
    let live : (e : ℕ) → Contains (term_names x) e → 0 < e =
    λ e c. (fact.links.indexes e (All-contains (Contains v.view.entities) (flat_map entry_names (entries q)) e names (in_flat_map entry_names (entries q) (simple by_first.level (must x)) e there c))).0 in
    let listed : length (v.listed (narrowed row (pattern_of x))) ≡ slice_index lists first =
    ap (λ p. length (v.listed p)) (same_pattern row x by_first.asks live)
    ∙ sym (told_from v 0 q.pieces (simple_parts q s).pieces first ∙ ap (λ es. tables_told v (slice_get es first)) (items-entries q) ∙ ap (tables_told v) by_first.is) in
    let tables : ℕ = slice_index lists first in
    let all : limit ≤ tables * sum_by judged_weight items = subst (λ n. limit ≤ n * sum_by judged_weight items) listed bound in
    let by_items : sum_by judged_weight items * tables ≤ count * tables = mul-le-mul_right tables by_first.once in
    let by_tables' : tables * count ≤ slice_index lists j * count = mul-le-mul_right count (by_first.shortest j leading) in
    omega (arith, all, mul_comm tables (sum_by judged_weight items), by_items, mul_comm count tables, by_tables', mul_comm (slice_index lists j) count)

-- the walk is of the first variable
of_first : (r : Ref) → is_first r ≡ true → (variable_of r == 0) ≡ true
of_first (Var u) h = h
of_first (Is e) h = absurd (false≢true h)
of_first Any h = absurd (false≢true h)
of_first AnyOnce h = absurd (false≢true h)

pub kept_queries_stay_within : KeptQueriesStayWithin
kept_queries_stay_within v q lists planned tables limit s t by judges =
    let by_first = led q lists planned s t by in
    let x : Term = by_first.term in
    let u : ℕ = variable_of x.source in
    let items : List Judged = by_first.items in
    let count : ℕ = length (entries q) in
    let listed : List TableKey = v.listed (narrowed (replicate (width_of q) 0) (pattern_of x)) in
    let bound : limit ≤ length (if q.has_this && u == 0 then tables else listed) * sum_by judged_weight items = judges u (pattern_of x) items by_first.shared by_first.steps in
    let given : (q.has_this && u == 0) ≡ true = and_from q.has_this (u == 0) (simple_parts q s).has_this (of_first x.source (asks_one x by_first.asks).source) in
    let all : limit ≤ length tables * sum_by judged_weight items = subst (λ b. limit ≤ length (if b then tables else listed) * sum_by judged_weight items) given bound in
    let by_items : sum_by judged_weight items * length tables ≤ count * length tables = mul-le-mul_right (length tables) by_first.once in
    omega (arith, all, mul_comm (length tables) (sum_by judged_weight items), by_items)
