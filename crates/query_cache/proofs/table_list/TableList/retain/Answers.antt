use Rattle.std.specs.Prelude.{◌==◌, filter, not}
use Rattle.std.proofs.Common.{All, ap, rules, subst, sym, length, ◌≡◌, ◌∙◌}
use Rattle.std.proofs.lemmas.Fn.{filter_same}
use Rattle.std.proofs.lemmas.List.Elements.{All-filter}
use Rattle.query_cache.specs.declared.table_block.Block.{Block}
use Rattle.query_cache.specs.TableList.{IsBlock, keeps, keys_in}
use Rattle.query_cache.proofs.BlockTables.{without_empty, written_back}
use Rattle.query_cache.proofs.table_list.TableList.retain.Goals as goal

pub invariant_of-self : goal.invariant_of-self
invariant_of-self g c =
    let blocks = c.self.inside.blocks in
    let left = c.retain_in.new.blocks in
    let long : length blocks.items ≡ blocks.len = search rules in
    let same : length left ≡ length blocks.items = c.retain_in.ensures.length ∙ ap length c.as_mut_slice.ensures.value in
    let is = filter_same _ (λ (b : Block). not (b.bits == 0)) _ (λ x b f' k. search rules) _ _ c.retain.ensures.filtered in
    subst (All IsBlock) (sym (is ∙ ap (filter (λ (b : Block). not (b.bits == 0))) (written_back left blocks.items blocks.len same long)))
    (All-filter (λ (b : Block). not (b.bits == 0)) IsBlock left c.retain_in.ensures.blocks)

pub returns : goal.returns
returns g c =
    let blocks = c.self.inside.blocks in
    let left = c.retain_in.new.blocks in
    let long : length blocks.items ≡ blocks.len = search rules in
    let same : length left ≡ length blocks.items = c.retain_in.ensures.length ∙ ap length c.as_mut_slice.ensures.value in
    let is = filter_same _ (λ (b : Block). not (b.bits == 0)) _ (λ x b f' k. search rules) _ _ c.retain.ensures.filtered in
    ap keys_in is
    ∙ ap (λ bs. keys_in (filter (λ (b : Block). not (b.bits == 0)) bs)) (written_back left blocks.items blocks.len same long)
    ∙ without_empty left
    ∙ c.retain_in.ensures.keys
    ∙ ap (λ bs. filter (keeps c.args.keep.now) (keys_in bs)) c.as_mut_slice.ensures.value
    ∙ ap (λ s. filter (keeps c.args.keep.now) s.items) c.self.view_is
