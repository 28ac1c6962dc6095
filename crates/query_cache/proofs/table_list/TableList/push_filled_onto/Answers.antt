-- What was pushed of a block that was refused is cut off again.
use Rattle.std.specs.List.{Contains}
use Rattle.std.proofs.Common.{IsSome, ap, length, rules, subst, sym, take, vec_len, ◌≡◌, ◌∙◌}
use Rattle.table_store.specs.Store.{table_at}
use Rattle.query_cache.specs.TableList.{Tables, keys_in}
use Rattle.query_cache.proofs.FilledBlocks.{stand_in_one}
use Rattle.query_cache.proofs.TakenTables.{front_of_front, on_err}
use Rattle.query_cache.proofs.table_list.TableList.push_filled_onto.Goals as goal

pub returns-then-is_err-clause-refused : goal.returns-then-is_err-clause-refused
returns-then-is_err-clause-refused g c =
    let old = c.args.keys.now.items in
    let new = c.push_filled_onto.new.keys.items in
    let long : vec_len c.args.keys.now ≡ length old = search rules in
    let front = on_err _ c.push_filled_onto.result (sym c.is_err.ensures.value ∙ c.if-is_err.true) c.push_filled_onto.ensures.front in
    c.truncate.ensures.items ∙ ap (λ n. take n new) (c.len-before.ensures ∙ long) ∙ front_of_front old _ c.loop-block.keys.items new c.loop-block.invariant front

pub push_filled_onto-requires-clause-stand : goal.push_filled_onto-requires-clause-stand
push_filled_onto-requires-clause-stand g c =
    stand_in_one (λ k. IsSome (table_at c.args.store.now k)) c.deref-block-items.result.now c.loop-block.block-index _ c.loop-block-test.true (λ k has.
    c.requires.stand k (subst (λ (list : Tables). Contains list.items k) c.self.view_is (subst (λ bs. Contains (keys_in bs) k) c.deref-block-items.ensures.value has)))
