use Rattle.std.proofs.Common.{rules, ◌≡◌, ℕ, List, cond, Some, None, ap, sym, ◌∙◌}
use Rattle.std.specs.Map.{lookup}
use Rattle.indexmap.specs.IndexMap.{IndexMap}
use Rattle.secret_hashing.specs.declared.Hashing.{Hashing}
use Rattle.watch_index.specs.declared.occasion.Occasion.{Occasion}
use Rattle.watch_index.specs.SameOccasion.{occasion_eq}
use Rattle.watch_index.specs.Listed.{has}
use Rattle.watch_index.proofs.OccasionLists.{Adds-one, Same-one, on_err}
use Rattle.watch_index.proofs.Blocks.{one_has}
use Rattle.watch_index.proofs.lists.list.Goals as goal

pub returns-in-Some-clause-listed : goal.returns-in-Some-clause-listed
returns-in-Some-clause-listed g c =
    let list = c.insert.new.self in
    let was : lookup (occasion_eq c.args.occasion.now) c.args.lists.now.entries ≡ Some c.in-Some.list.now = sym c.in-Some.ensures.value in
    let holds = c.get_mut.follows.holds list in
    Adds-one c.args.lists.now.entries (c.get_mut.follows.lender list).entries c.args.occasion.now c.args.number (Some c.in-Some.list.now) was (Some list)
    (holds.3 (search rules)).0 c.in_ok-insert.ensures.inserted

pub returns-in_err-insert-clause-refused : goal.returns-in_err-insert-clause-refused
returns-in_err-insert-clause-refused g c =
    let list = c.insert.new.self in
    let was : lookup (occasion_eq c.args.occasion.now) c.args.lists.now.entries ≡ Some c.in-Some.list.now = sym c.in-Some.ensures.value in
    let holds = c.get_mut.follows.holds list in
    on_err c.from_residual.result (λ o n out.
    Same-one c.args.lists.now.entries (c.get_mut.follows.lender list).entries c.args.occasion.now c.args.number (Some c.in-Some.list.now) was (Some list)
    (holds.3 (search rules)).0 (λ k. ap (λ ns. has ns k) c.in_err-insert.ensures.refused) o n)

pub returns-clause-listed : goal.returns-clause-listed
returns-clause-listed g c =
    let was : lookup (occasion_eq c.args.occasion.now) c.args.lists.now.entries ≡ None = sym c.in_default.ensures.value in
    Adds-one c.args.lists.now.entries c.insert-2.new.self.entries c.args.occasion.now c.args.number None was (Some c.in_ok-one.field-0)
    (λ q. c.in_ok-insert-2.ensures.updates.0 q
    ∙ ap (λ (m : IndexMap Occasion (List ℕ) Hashing). cond (occasion_eq c.args.occasion.now q) (Some c.in_ok-one.field-0) (lookup (occasion_eq q) m.entries)) c.get_mut.follows.holds-at-none)
    (λ k. ap (λ ns. has ns k) c.in_ok-one.ensures ∙ one_has c.args.number k)
