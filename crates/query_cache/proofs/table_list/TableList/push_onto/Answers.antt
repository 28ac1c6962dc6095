-- What was pushed of a block that was refused is cut off again.
use Rattle.std.proofs.Common.{◌≡◌, ap, length, rules, sym, take, vec_len, ◌∙◌}
use Rattle.query_cache.proofs.TakenTables.{front_of_front, on_err}
use Rattle.query_cache.proofs.table_list.TableList.push_onto.Goals as goal

pub returns-then-is_err-clause-refused : goal.returns-then-is_err-clause-refused
returns-then-is_err-clause-refused g c =
    let old = c.args.keys.now.items in
    let new = c.push_onto.new.keys.items in
    let long : vec_len c.args.keys.now ≡ length old = search rules in
    let front = on_err _ c.push_onto.result (sym c.is_err.ensures.value ∙ c.if-is_err.true) c.push_onto.ensures.front in
    c.truncate.ensures.items ∙ ap (λ n. take n new) (c.len-before.ensures ∙ long) ∙ front_of_front old _ c.loop-block.keys.items new c.loop-block.invariant front
