use Rattle.std.proofs.Common.{◌≡◌, [], ◌∷◌, cond, ap, sym, ◌∙◌, true, false, Some, None}
use Rattle.std.proofs.lemmas.Option.{none-some, same_Some}
use Rattle.ecs_id.specs.Id.{Id, id_eq, id_eq_itself}
use Rattle.ecs_table.proofs.TableIds.{size_of_new}
use Rattle.ecs_table.proofs.Rows.{equal_sizes_from, size_of_appended, size_of_set}
use Rattle.ecs_table.specs.Archetype.{Archetype, HaveEqualSizes, empty_table, no_entity, size_of}
use Rattle.test_store.proofs.tables.append_valued.Goals as goal

abbrev source_of : Id → Id → Archetype
source_of a b = empty_table (a ∷ b ∷ []) (4 ∷ 0 ∷ [])

abbrev target_of : Id → Id → Archetype
target_of a b = empty_table (a ∷ b ∷ []) (4 ∷ 1 ∷ [])

source_size : (a b : Id) → size_of (source_of a b) a ≡ Some 4
source_size a b = size_of_new ((a, 4) ∷ (b, 0) ∷ []) a ∙ ap (λ t. cond t (Some 4) None) (id_eq_itself a)

sizes_agree : (a b d : Id) → HaveEqualSizes (source_of a b) (target_of a d)
sizes_agree a b d i m n e f =
    elim (id_eq i a) as (λ t. cond t (Some 4) None ≡ Some m → cond t (Some 4) (cond (id_eq i d) (Some 1) None) ≡ Some n → m ≡ n) [
      | true ↦ λ x y. same_Some m n (sym x ∙ y)
      | false ↦ λ x y. absurd (none-some m x)
    ] (sym (size_of_new ((a, 4) ∷ (b, 0) ∷ []) i) ∙ e) (sym (size_of_new ((a, 4) ∷ (d, 1) ∷ []) i) ∙ f)

pub set_value-requires-clause-size : goal.set_value-requires-clause-size
set_value-requires-clause-size c =
    let common : Id = c.args.ids.now.common in
    ap (λ (t : Archetype). size_of t common) c.append.ensures ∙ size_of_appended c.reserve.new.self no_entity common
    ∙ ap (λ (t : Archetype). size_of t common) c.in_ok-reserve.ensures.ok ∙ ap (λ (t : Archetype). size_of t common) c.requires.source ∙ source_size common c.args.ids.now.tag

pub returns-clause-sizes : goal.returns-clause-sizes
returns-clause-sizes c =
    let common : Id = c.args.ids.now.common in let tag : Id = c.args.ids.now.tag in let mark : Id = c.args.ids.now.mark in
    equal_sizes_from c.set_value.new.self c.reserve-2.new.self (source_of common tag) (target_of common mark)
    (λ i. ap (λ (t : Archetype). size_of t i) c.set_value.ensures ∙ size_of_set c.append.new.self 0 common (1 ∷ 2 ∷ 3 ∷ 4 ∷ []) i
    ∙ ap (λ (t : Archetype). size_of t i) c.append.ensures ∙ size_of_appended c.reserve.new.self no_entity i
    ∙ ap (λ (t : Archetype). size_of t i) c.in_ok-reserve.ensures.ok ∙ ap (λ (t : Archetype). size_of t i) c.requires.source)
    (λ i. ap (λ (t : Archetype). size_of t i) c.in_ok-reserve-2.ensures.ok ∙ ap (λ (t : Archetype). size_of t i) c.requires.target)
    (sizes_agree common tag mark)
