use Rattle.std.proofs.Common.{◌≡◌, Some, false, subst, sym, ◌∙◌}
use Rattle.std.specs.List.{IsDistinct}
use Rattle.ecs_id.specs.TableKeys.{table_eq}
use Rattle.component_index.specs.TableList.{has, IsPlace}
use Rattle.component_index.proofs.TableLemmas.{Loses-none, Loses-only, Loses-taken, none_once, once-taken, only_has, table_eq_equiv}
use Rattle.component_index.proofs.table_list.Tables.remove.Goals as goal

pub returns-then-names-clause-lost : goal.returns-then-names-clause-lost
returns-then-names-clause-lost g c = rw c.in-One.is (Loses-only c.in-One.only c.key_of-first.result c.args.key c.key_of-first.ensures (table_eq_equiv.symm c.key_of-first.result c.args.key ∙ sym c.names.ensures ∙ c.if-names.true))

pub returns-then-names-clause-once : goal.returns-then-names-clause-once
returns-then-names-clause-once g c = none_once

pub returns-else-names-clause-lost : goal.returns-else-names-clause-lost
returns-else-names-clause-lost g c =
    rw c.in-One.is (Loses-none c.in-One.only c.args.key (only_has c.in-One.only c.key_of-first.result c.args.key c.names.result c.key_of-first.ensures (c.names.ensures ∙ table_eq_equiv.symm c.args.key c.key_of-first.result) ∙ c.if-names.false))

pub returns-else-names-clause-once : goal.returns-else-names-clause-once
returns-else-names-clause-once g c = rw c.in-One.is at c.requires

pub returns-in-Some-clause-lost : goal.returns-in-Some-clause-lost
returns-in-Some-clause-lost g c =
    let ks = c.in-More.keys.items in
    let once : IsDistinct table_eq ks = rw c.in-More.is at c.requires in
    let found : IsPlace ks c.args.key c.place_of.result = subst (λ l. IsPlace l c.args.key c.place_of.result) c.as_slice.ensures.value c.place_of.ensures in
    let is : IsPlace ks c.args.key (Some c.in-Some.place) = subst (IsPlace ks c.args.key) c.in-Some.is found in
    rw c.in-More.is (Loses-taken ks c.swap_remove.new.self.items once c.args.key c.in-Some.place is c.swap_remove.result c.swap_remove.ensures.value c.swap_remove.ensures.items)

pub returns-in-Some-clause-once : goal.returns-in-Some-clause-once
returns-in-Some-clause-once g c =
    let ks = c.in-More.keys.items in
    let once : IsDistinct table_eq ks = rw c.in-More.is at c.requires in
    let found : IsPlace ks c.args.key c.place_of.result = subst (λ l. IsPlace l c.args.key c.place_of.result) c.as_slice.ensures.value c.place_of.ensures in
    let is : IsPlace ks c.args.key (Some c.in-Some.place) = subst (IsPlace ks c.args.key) c.in-Some.is found in
    once-taken ks c.swap_remove.new.self.items once c.args.key c.in-Some.place is c.swap_remove.result c.swap_remove.ensures.value c.swap_remove.ensures.items

pub returns-in_default-clause-lost : goal.returns-in_default-clause-lost
returns-in_default-clause-lost g c =
    let ks = c.in-More.keys.items in
    let found : IsPlace ks c.args.key c.place_of.result = subst (λ l. IsPlace l c.args.key c.place_of.result) c.as_slice.ensures.value c.place_of.ensures in
    let none : has ks c.args.key ≡ false = subst (IsPlace ks c.args.key) c.in_default.is found in
    rw c.in-More.is (Loses-none ks c.args.key none)
