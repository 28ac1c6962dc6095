use Rattle.std.proofs.Common.{rules, ◌≡◌, Some, None, sym, ◌∙◌}
use Rattle.std.specs.HashMap.{get}
use Rattle.id_pattern.specs.SamePattern.{pattern_eq}
use Rattle.component_index.proofs.ListedLemmas.{Drops-one, gone_at, has_none}
use Rattle.component_index.proofs.lists.unlist.Goals as goal

pub returns-else-is_empty : goal.returns-else-is_empty
returns-else-is_empty g c =
    let list = c.remove.new.self in
    let was : get pattern_eq c.args.lists.now c.args.pattern.now ≡ Some c.in-Some.list.now = sym c.in-Some.ensures.value in
    let holds = c.get_mut.follows.holds list in
    Drops-one c.args.lists.now (c.get_mut.follows.lender list) c.args.pattern.now c.args.key (Some c.in-Some.list.now) was (Some list)
    (holds.3 (search rules)).0 c.remove.ensures

pub returns-then-is_empty : goal.returns-then-is_empty
returns-then-is_empty g c =
    let list = c.remove.new.self in
    let was : get pattern_eq c.args.lists.now c.args.pattern.now ≡ Some c.in-Some.list.now = sym c.in-Some.ensures.value in
    let without = c.get_mut.follows.lender list in
    let holds = c.get_mut.follows.holds list in
    let last = c.swap_remove.new.self in
    let empty = has_none list (c.is_empty.ensures.0 c.if-is_empty.true) in
    Drops-one c.args.lists.now last c.args.pattern.now c.args.key (Some c.in-Some.list.now) was None
    (gone_at c.args.lists.now without last c.args.pattern.now list (holds.3 (search rules)).0 c.swap_remove.ensures.updates.0)
    (λ k. empty k ∙ c.remove.ensures k)
