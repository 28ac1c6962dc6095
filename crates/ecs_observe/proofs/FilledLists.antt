-- Of the tables of a kept list a run needs those alone that have rows.
use Rattle.std.specs.Prelude.{◌≡◌, ℕ, ◌<◌, ◌≤◌, Bool, true, false, cond, ◌&&◌, if◌then◌else◌, IsTrue, List, [], ◌∷◌, ◌++◌, Option, Some, None, drop, is_some, length, map, nat_lt, option_map, replicate, set, take, unwrap_or}
use Rattle.std.specs.List.{Contains, filter, sum_by}
use Rattle.std.specs.Option.{option_map_or}
use Rattle.std.proofs.Common.{ap, arith, refl, subst, sym, true≢false, ◌∙◌}
use Rattle.std.proofs.lemmas.Bool.Decides.{nat_tests}
use Rattle.ecs_id.specs.declared.EntityId.{EntityId}
use Rattle.ecs_id.specs.declared.TableKey.{TableKey}
use Rattle.ecs_id.specs.Id.{Id}
use Rattle.ecs_model.specs.stored.Tables.{lists_table}
use Rattle.ecs_world.specs.Standing.{Standing}
use Rattle.plan_steps.specs.declared.instruction.Instruction.{Instruction}
use Rattle.plan_steps.specs.declared.instruction.Instruction.TheVariants.{Walk}
use Rattle.plan_steps.specs.declared.instruction.Source.TheVariants.{Heads}
use Rattle.plan_steps.specs.Instructions.{instructions_of}
use Rattle.plan_steps.specs.Kept.{begins_in_tables, judged_with, taken_of}
use Rattle.plan_steps.specs.Made.{made_by}
use Rattle.plan_steps.specs.Probes.{judged}
use Rattle.plan_steps.specs.Reading.{Reading, entities_in, heads_in, indexes}
use Rattle.plan_steps.specs.Row.{Row}
use Rattle.plan_steps.specs.Strategy.{strategy_from}
use Rattle.plan_steps.specs.Tables.{by_tables}
use Rattle.plan_steps.specs.Width.{width_of}
use Rattle.query_cache.specs.Kept.{has_rows, stands}
use Rattle.query_cache.proofs.Filters.{from_filter, rising_filter, to_filter}
use Rattle.query_model.specs.Query.{Query}
use Rattle.query_plan.specs.Plans.{Plan}
use Rattle.table_store.specs.Rows.{rows_in}
use Rattle.table_store.specs.Store.{Store, table_at}
use Rattle.world_facts.specs.Kept.{AreFilledTablesOf, AreTablesOf}
use Rattle.world_facts.specs.Shown.{Shown, reading_of}
use Rattle.world_query.specs.Probes.{StaysInTables}

some_listed : {X : Type 0} (q : Query) (table : Option X) (ids : X → List Id) → IsTrue (option_map_or (lists_table q) (option_map ids table) false) → IsTrue (is_some table)
some_listed q None ids listed = absurd (true≢false (sym listed))
some_listed q (Some t) ids listed = refl

-- a listed table stands
pub listed_stand : (q : Query) (s : Store) (tables : List TableKey) → AreTablesOf q s tables → (k : TableKey) → Contains tables k → IsTrue (stands s k)
listed_stand q s tables are k has = some_listed q (table_at s k) (λ t. t.ids) ((are.listed k).0 has)

positive : (n : ℕ) → 0 < n → nat_lt 0 n ≡ true
positive n some = grind (arith, nat_tests)

pub those_filled : (q : Query) (s : Store) (tables : List TableKey) → AreTablesOf q s tables → AreFilledTablesOf q s (filter (has_rows s) tables)
those_filled q s tables are = record {
  listed = λ k filled. (
    (λ has. (are.listed k).0 (from_filter (has_rows s) tables k has.0 has.1 has.2).0),
    (λ listed. let has = (are.listed k).1 listed in to_filter (has_rows s) tables k has.0 has.1 has.2 (positive (rows_in s k) filled)),
  );
  rising = rising_filter (has_rows s) tables are.rising;
}

-- ---- what a run takes of tables

module _ (v : Reading) (keep : TableKey → Bool) (empty : (k : TableKey) → keep k ≡ false → v.standing k ≡ []) where
  heads_kept : (tables : List TableKey) → heads_in v (filter keep tables) ≡ heads_in v tables
  heads_kept [] = refl
  heads_kept (k ∷ tables) = by (keep k) refl (heads_kept tables)
    where
      by : (b : Bool) → keep k ≡ b → heads_in v (filter keep tables) ≡ heads_in v tables → heads_in v (cond b (k ∷ filter keep tables) (filter keep tables)) ≡ heads_in v (k ∷ tables)
      by true is rest = ap (λ es. take 1 (indexes (v.standing k)) ++ es) rest
      by false is rest = rest ∙ sym (ap (λ (es : List EntityId). take 1 (indexes es) ++ heads_in v tables) (empty k is))

  entities_kept : (tables : List TableKey) → entities_in v (filter keep tables) ≡ entities_in v tables
  entities_kept [] = refl
  entities_kept (k ∷ tables) = by (keep k) refl (entities_kept tables)
    where
      by : (b : Bool) → keep k ≡ b → entities_in v (filter keep tables) ≡ entities_in v tables → entities_in v (cond b (k ∷ filter keep tables) (filter keep tables)) ≡ entities_in v (k ∷ tables)
      by true is rest = ap (λ es. indexes (v.standing k) ++ es) rest
      by false is rest = rest ∙ sym (ap (λ (es : List EntityId). indexes es ++ entities_in v tables) (empty k is))

  taken_kept : (tables : List TableKey) (steps : List Instruction) → taken_of v (filter keep tables) steps ≡ taken_of v tables steps
  taken_kept tables (Walk u (Heads l) ∷ steps) = heads_kept tables
  taken_kept tables steps = entities_kept tables

  pub judged_kept : (has_this : Bool) (tables : List TableKey) (steps : List Instruction) (row : Row) → judged_with v has_this (filter keep tables) steps row ≡ judged_with v has_this tables steps row
  judged_kept has_this tables steps row =
      ap (λ taken. if has_this && begins_in_tables steps then sum_by (judged (made_by v) (strategy_from (drop 1 steps))) (map (set row 0) taken) else judged (made_by v) (strategy_from steps) row)
      (taken_kept tables steps)

-- ---- the probes of a run through the tables of a list that have rows

nobody_among : (es : List EntityId) → nat_lt 0 (length es) ≡ false → es ≡ []
nobody_among [] none = refl
nobody_among (e ∷ es) none = absurd (true≢false (sym (positive (length (e ∷ es)) (omega arith)) ∙ none))

nobody : {X : Type 0} (table : Option X) (entities : X → List EntityId) → nat_lt 0 (unwrap_or (option_map (λ t. length (entities t)) table) 0) ≡ false → option_map_or entities table [] ≡ []
nobody None entities none = refl
nobody (Some t) entities none = nobody_among (entities t) none

pub stays_in_filled : (w : Standing) (p : Plan) (tables : List TableKey) (probes : ℕ) → StaysInTables w p (filter (has_rows w.tables) tables) probes → StaysInTables w p tables probes
stays_in_filled w p tables probes stays =
    let s : Shown = stays.shown in
    let empty : (k : TableKey) → has_rows w.tables k ≡ false → (reading_of s).standing k ≡ [] =
    λ k none. subst (λ (store : Store). option_map_or (λ t. t.entities) (table_at store k) [] ≡ []) (sym stays.links.tables) (nobody (table_at w.tables k) (λ t. t.entities) none) in
    record {
      shown = s;
      world = stays.world;
      links = stays.links;
      lists = stays.lists;
      within = subst (λ n. probes ≤ n) (judged_kept (reading_of s) (has_rows w.tables) empty (p.query).has_this tables (by_tables (instructions_of p.query p.steps)) (replicate (width_of p.query) 0)) stays.within;
    }
