-- The tables that a query lists in a world are kept for it in what is read.
use Rattle.std.proofs.Common.{◌≡◌, ◌≢◌, ◌↔◌, ℕ, ◌<◌, IsTrue, false, List, [], length, get_or, map, Option, Some, None, refl, sym, ap, subst, arith}
use Rattle.std.specs.Prelude.{option_map, unwrap_or}
use Rattle.std.specs.List.{AllPairs, Contains}
use Rattle.std.specs.List.Sorted.{IsStrictlySortedBy}
use Rattle.std.specs.Option.{option_map_or}
use Rattle.std.specs.Ordering.{nat_cmp}
use Rattle.std.proofs.Math.ListN.{get_or-map}
use Rattle.std.proofs.lemmas.List.{length-map}
use Rattle.std.proofs.lemmas.Map.Keys.{below_from_sorted}
use Rattle.ecs_id.specs.declared.TableKey.{TableKey}
use Rattle.ecs_model.specs.stored.Tables.{lists_table}
use Rattle.ecs_table.specs.Archetype.{Archetype}
use Rattle.plan_steps.specs.Reading.{indexes}
use Rattle.query_model.specs.Query.{Query}
use Rattle.table_store.specs.Rows.{rows_in}
use Rattle.table_store.specs.Store.{ids_at, table_at}
use Rattle.world_facts.specs.Kept.{KeepsTables}
use Rattle.world_facts.specs.Shown.{Shown}

-- tables of rising serials are apart
pub apart : (tables : List TableKey) → IsStrictlySortedBy nat_cmp (map (λ k. k.serial) tables) → AllPairs (λ a b. a ≢ b) tables
apart tables rising i j d low high same =
    let serial : TableKey → ℕ = λ k. k.serial in
    let long : j < length (map serial tables) = omega (arith, length-map tables serial, high) in
    let below = below_from_sorted (map serial tables) i j (serial d) rising low long in
    let first : get_or (map serial tables) i (serial d) ≡ serial (get_or tables i d) = get_or-map serial tables i d in
    let second : get_or (map serial tables) j (serial d) ≡ serial (get_or tables j d) = get_or-map serial tables j d in
    let equal : serial (get_or tables i d) ≡ serial (get_or tables j d) = ap serial same in
    omega (arith, below, first, second, equal)

-- where entities stand a table stands, and its ids are those that are read
lists_read : (q : Query) (table : Option Archetype) (e : ℕ) → Contains (indexes (option_map_or (λ t. t.entities) table [])) e
    → option_map_or (lists_table q) (option_map (λ t. t.ids) table) false ≡ lists_table q (unwrap_or (option_map (λ t. t.ids) table) [])
lists_read q None e h = absurd (omega (arith, h.1))
lists_read q (Some t) e h = refl

-- and it has rows
has_rows : (table : Option Archetype) (e : ℕ) → Contains (indexes (option_map_or (λ t. t.entities) table [])) e → 0 < unwrap_or (option_map (λ t. length t.entities) table) 0
has_rows None e h = absurd (omega (arith, h.1))
has_rows (Some t) e h = omega (arith, h.1, length-map t.entities (λ x. x.index))

pub keeps_tables : (s : Shown) → ((s.links).housing).tables ≡ (s.world).tables → KeepsTables s
keeps_tables s same q tables are = record {
  once = apart tables are.rising;
  exactly = λ k e stands.
      let table = table_at ((s.links).housing).tables k in
      let filled = subst (λ store. 0 < rows_in store k) same (has_rows table e stands) in
      let reads = lists_read q table e stands in
      let listed = subst (λ store. Contains tables k ↔ IsTrue (option_map_or (lists_table q) (ids_at store k) false)) (sym same) (are.listed k filled) in
      subst (λ b. Contains tables k ↔ IsTrue b) reads listed;
}
