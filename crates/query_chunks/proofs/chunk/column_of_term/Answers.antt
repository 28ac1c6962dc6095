use Rattle.std.proofs.Common.{◌≡◌, None, Some, sym, ap, ◌∙◌}
use Rattle.std.specs.Option.{option_map_or}
use Rattle.query_chunks.specs.Asked.{hit as hit_of}
use Rattle.query_chunks.specs.Chunk.{column_of_id, unmet}
use Rattle.query_chunks.proofs.chunk.column_of_term.Goals as goal

pub returns-in-Some : goal.returns-in-Some
returns-in-Some g c =
    let w = c.args.world.now.state in
    let t = c.args.table.now in
    let m = c.args.term.now in
    let found : hit_of t.ids m ≡ Some c.in-Some.id = ap (λ ids. hit_of ids m) (sym c.ids.ensures.value) ∙ sym c.hit.ensures ∙ c.in-Some.is in
    c.column_of_id.ensures ∙ sym (ap (λ o. option_map_or (column_of_id w t m) o unmet) found)

pub returns-in-None : goal.returns-in-None
returns-in-None g c =
    let w = c.args.world.now.state in
    let t = c.args.table.now in
    let m = c.args.term.now in
    let none : hit_of t.ids m ≡ None = ap (λ ids. hit_of ids m) (sym c.ids.ensures.value) ∙ sym c.hit.ensures ∙ c.in-None.is in
    sym (ap (λ o. option_map_or (column_of_id w t m) o unmet) none)
