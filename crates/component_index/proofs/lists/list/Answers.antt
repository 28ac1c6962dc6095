use Rattle.std.proofs.Common.{rules, ◌≡◌, [], Some, unwrap_or, subst, sym, ap, ◌∙◌}
use Rattle.std.specs.HashMap.{get}
use Rattle.id_pattern.specs.SamePattern.{pattern_eq}
use Rattle.component_index.specs.TableList.{has, IsNewOrLast}
use Rattle.component_index.proofs.ListedLemmas.{Adds-one, IsNewest-one}
use Rattle.component_index.proofs.TableLemmas.{has-insert_key, last_inserted}
use Rattle.component_index.proofs.lists.list.Goals as goal

pub insert-requires : goal.insert-requires
insert-requires g c =
    let was : get pattern_eq c.args.lists.now c.args.pattern.now ≡ Some c.in-Some.list.now = sym c.in-Some.ensures.value in
    subst (λ o. IsNewOrLast (unwrap_or o []) c.args.key) was (c.requires c.args.pattern.now)

pub returns-in-Some-clause-listed : goal.returns-in-Some-clause-listed
returns-in-Some-clause-listed g c =
    let list = c.insert.new.self in
    let was : get pattern_eq c.args.lists.now c.args.pattern.now ≡ Some c.in-Some.list.now = sym c.in-Some.ensures.value in
    let holds = c.get_mut.follows.holds list in
    Adds-one c.args.lists.now (c.get_mut.follows.lender list) c.args.pattern.now c.args.key (Some c.in-Some.list.now) was (Some list)
    (holds.3 (search rules)).0 (λ k. ap (λ keys. has keys k) c.in_ok-insert.ensures.inserted ∙ has-insert_key c.in-Some.list.now c.args.key k)

pub returns-in-Some-clause-newest : goal.returns-in-Some-clause-newest
returns-in-Some-clause-newest g c =
    let list = c.insert.new.self in
    let was : get pattern_eq c.args.lists.now c.args.pattern.now ≡ Some c.in-Some.list.now = sym c.in-Some.ensures.value in
    let holds = c.get_mut.follows.holds list in
    let had : IsNewOrLast c.in-Some.list.now c.args.key = subst (λ o. IsNewOrLast (unwrap_or o []) c.args.key) was (c.requires c.args.pattern.now) in
    let last : IsNewOrLast list c.args.key = subst (λ l. IsNewOrLast l c.args.key) (sym c.in_ok-insert.ensures.inserted) (last_inserted c.in-Some.list.now c.args.key had) in
    IsNewest-one c.args.lists.now (c.get_mut.follows.lender list) c.args.pattern.now c.args.key list (holds.3 (search rules)).0 last c.requires
