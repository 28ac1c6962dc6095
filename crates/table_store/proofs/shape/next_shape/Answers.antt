use Rattle.std.proofs.Common.{◌≡◌, ◌++◌, ◌∷◌, [], IsTrue, Result, Ok, Err, OnOk, ℕ, not, filter, map, sym, ap, ◌∙◌}
use Rattle.std.specs.FinMap.{is_sorted}
use Rattle.std.specs.Ordering.{is_lt}
use Rattle.ecs_id.specs.Id.{Id, id_cmp, id_eq}
use Rattle.ecs_table.specs.Archetype.{Archetype}
use Rattle.table_store.specs.Kept.{stepped}
use Rattle.table_store.specs.Store.{Shape, byte_size, shape_of, with_id, without_id}
use Rattle.table_store.proofs.InsertedIds.{filter_cells, joined, put_between}
use Rattle.table_store.proofs.shape.next_shape.Goals as goal

abbrev cell : Archetype → Id → Id × ℕ
cell t i = (i, byte_size t i)

inserted : (t : Archetype) (id : Id) (n : ℕ) (a b c d : Shape) → IsTrue (is_sorted id_cmp (shape_of t)) → a ≡ [] → b ≡ a ++ map (cell t) (filter (λ i. is_lt (id_cmp i id)) t.ids) → c ≡ b ++ (id, n) ∷ [] → d ≡ c ++ map (cell t) (filter (λ i. is_lt (id_cmp id i)) t.ids) → d ≡ with_id (shape_of t) id n
inserted t id n a b c d s e f g h =
    let below : b ≡ filter (λ x. is_lt (id_cmp x.0 id)) (shape_of t) = f ∙ ap (λ (l : Shape). l ++ map (cell t) (filter (λ i. is_lt (id_cmp i id)) t.ids)) e ∙ filter_cells (λ x. is_lt (id_cmp x.0 id)) (cell t) t.ids in
    h ∙ (λ k. (g ∙ ap (λ (l : Shape). l ++ (id, n) ∷ []) below) k ++ filter_cells (λ x. is_lt (id_cmp id x.0)) (cell t) t.ids k) ∙ joined _ (id, n) _ ∙ put_between id n (shape_of t) s

others : (t : Archetype) (id : Id) (a b : Shape) → a ≡ [] → b ≡ a ++ map (cell t) (filter (λ i. not (id_eq i id)) t.ids) → b ≡ without_id (shape_of t) id
others t id a b e f = f ∙ ap (λ (l : Shape). l ++ map (cell t) (filter (λ i. not (id_eq i id)) t.ids)) e ∙ filter_cells (λ x. not (id_eq x.0 id)) (cell t) t.ids

on_ok : {T E P Q : Type 0} (r : Result T E) → (P → Q) → OnOk r P → OnOk r Q
on_ok (Ok x) f h = f h
on_ok (Err x) f h = h

pub returns-in_ok-push-in-Some : goal.returns-in_ok-push-in-Some
returns-in_ok-push-in-Some g c =
    on_ok c.push_above.result (λ above.
    inserted c.args.table.now c.args.id c.in-Some.size c.clear.new.self.items c.push_below.new.cells.items c.push.new.list.items c.push_above.new.cells.items c.requires c.clear.ensures.items c.in_ok-push_below-in-Some.ensures
    (c.in_ok-push-in-Some.ensures.items ∙ ap (λ v. c.push_below.new.cells.items ++ v ∷ []) c.new.ensures) above
    ∙ ap (stepped (shape_of c.args.table.now) c.args.id) (sym c.in-Some.is))
    c.push_above.ensures

pub returns-in-None : goal.returns-in-None
returns-in-None g c =
    on_ok c.push_others.result (λ left. others c.args.table.now c.args.id c.clear.new.self.items c.push_others.new.cells.items c.clear.ensures.items left ∙ ap (stepped (shape_of c.args.table.now) c.args.id) (sym c.in-None.is))
    c.push_others.ensures
