-- The lists of tables are of the world, so they are equally long in all that is shown of one.
use Rattle.std.proofs.Common.{◌≡◌, ◌↔◌, length, sym, subst}
use Rattle.std.specs.List.{Contains}
use Rattle.std.proofs.lemmas.Map.Made.{is_member-Decides, length-from_same_keys}
use Rattle.ecs_id.specs.declared.TableKey.{TableKey}
use Rattle.id_pattern.specs.declared.Pattern.{Pattern}
use Rattle.component_index.proofs.TableLemmas.{table_eq_equiv}
use Rattle.ecs_archetypes.specs.Scans.{HasMatch}
use Rattle.ecs_archetypes.specs.Linked.{AreListsOf}
use Rattle.ecs_model.proofs.Members.{alike}
use Rattle.ecs_world.specs.Standing.{Standing}
use Rattle.world_facts.specs.Lists.{ListsTables}
use Rattle.world_facts.specs.Shown.{Shown, reading_of}
use Rattle.world_facts.proofs.EntityRows.{same_tables}

pub lists_tables : (s : Shown) → ((s.links).housing).tables ≡ (s.world).tables → AreListsOf (s.links).housing (s.links).lists → ListsTables s
lists_tables s same lists = record {
  listed = λ p k. subst (λ store. Contains ((reading_of s).listed p) k ↔ HasMatch store p k) same (lists.listed p k);
  once = lists.once;
}

-- a table that one list has, the other has
from_list : (a b : Shown) → a.world ≡ b.world → ListsTables a → ListsTables b → (p : Pattern) (k : TableKey) → Contains ((reading_of a).listed p) k → Contains ((reading_of b).listed p) k
from_list a b same xs ys p k h = (ys.listed p k).1 (subst (λ (w : Standing). HasMatch w.tables p k) same ((xs.listed p k).0 h))

pub same_lengths : (a b : Shown) → a.world ≡ b.world → ListsTables a → ListsTables b → (p : Pattern) → length ((reading_of a).listed p) ≡ length ((reading_of b).listed p)
same_lengths a b same xs ys p =
    let first = (reading_of a).listed p in
    let second = (reading_of b).listed p in
    length-from_same_keys table_eq_equiv first second (xs.once p) (ys.once p)
    (λ k.
    let of_first = is_member-Decides same_tables first k in
    let of_second = is_member-Decides same_tables second k in
    alike _ _
    (λ h. of_second.1 (from_list a b same xs ys p k (of_first.0 h)))
    (λ h. of_first.1 (from_list b a (sym same) ys xs p k (of_second.0 h))))
