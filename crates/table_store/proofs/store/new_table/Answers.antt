use Rattle.std.proofs.Common.{◌≡◌, ◌++◌, ℕ, List, ◌<◌, ◌≤◌, ◌==◌, length, slice_index, replicate, map, true, sym, ap, subst, ◌∙◌}
use Rattle.std.specs.List.{list_all}
use Rattle.ecs_id.specs.Id.{Id}
use Rattle.ecs_table.specs.Archetype.{Archetype, empty_table}
use Rattle.table_store.specs.Store.{Shape, shaped}
use Rattle.table_store.proofs.Shapes.{no_sizes, small_sizes}
use Rattle.table_store.proofs.FoundTables.{if_ok}
use Rattle.table_store.proofs.store.new_table.Goals as goal

of_tags : (f : Shape) (ids : List Id) (t : Archetype) → list_all (λ c. c.1 == 0) f ≡ true → ids ≡ map (λ c. c.0) f → t ≡ empty_table ids (replicate (length ids) 0) → t ≡ shaped f
of_tags f ids t h e is = is ∙ ap (λ (l : List Id). empty_table l (replicate (length l) 0)) e ∙ ap (empty_table (map (λ c. c.0) f)) (no_sizes f h)

pub returns-then-are_tags : goal.returns-then-are_tags
returns-then-are_tags g c = if_ok _ _ c.of_tags.result (λ t is. of_tags c.args.cells.now c.args.ids.now t (sym c.are_tags.ensures ∙ c.if-are_tags.true) c.requires.ids is) c.of_tags.ensures

pub new-requires-clause-small : goal.new-requires-clause-small
new-requires-clause-small g c = subst (λ (l : List ℕ). (k : ℕ) → k < length l → slice_index l k ≤ 64) (sym (c.as_slice.ensures ∙ c.in_ok-push_sizes.ensures ∙ ap (λ (l : List ℕ). l ++ map (λ p. p.1) c.args.cells.now) c.new-sizes.ensures.items)) (small_sizes c.args.cells.now c.requires.small)
