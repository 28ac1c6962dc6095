use Rattle.std.proofs.Common.{◌≤◌, Err, Ok, OnOk, Result, arith, false, ap, length, slice_index_or, subst, ◌∙◌}
use Rattle.table_store.specs.SlotBits.{bits_of}
use Rattle.table_store.proofs.BitLists.{bits_grown, length_bits}
use Rattle.table_store.proofs.slot_bits.SlotBits.reach.Goals as goal

where_ok : {T E : Type 0} (r : Result T E) (A B : Type 0) → (A → B) → OnOk r A → OnOk r B
where_ok (Ok x) A B f h = f h
where_ok (Err e) A B f h = tt

pub returns-clause-within : goal.returns-clause-within
returns-clause-within g c = where_ok c.grow.result _ _ (λ h. omega (arith, h, length_bits c.grow.new.words.items)) c.grow.ensures.within

pub returns-clause-longer : goal.returns-clause-longer
returns-clause-longer g c =
    let old = c.self.inside.words.items in
    let new = c.grow.new.words.items in
    subst (λ l. length l ≤ length (bits_of new)) c.self.view_is (omega (arith, length_bits old, length_bits new, c.grow.ensures.longer))

pub returns-clause-same : goal.returns-clause-same
returns-clause-same g c = λ n. bits_grown c.self.inside.words.items c.grow.new.words.items c.grow.ensures.same n ∙ ap (λ l. slice_index_or l n false) c.self.view_is
