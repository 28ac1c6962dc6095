use Rattle.std.proofs.Common.{rules, ◌≡◌, ℤ, w32, to_z, of_z, inl, sym, subst}
use Rattle.flecsq_c.specs.Tables.{SetsValues, key_of}
use Rattle.flecsq_c.proofs.SetTables.{table_set}
use Rattle.flecsq_c.proofs.tables.set_values.Goals as goal

pub returns-in-Some : goal.returns-in-Some
returns-in-Some c =
    let done = c.set_column.ensures in
    let bytes = c.args.bytes.now in
    let status : to_z w32 (of_z w32 c.column_status.result) ≡ c.column_status.result = search rules in
    let set = table_set c.key.result c.in-Some.id bytes c.args.stepper.now c.set_column.new.self c.column_status.result c.set_column.result done.set done.judged done.unchanged
    c.column_status.ensures in
    subst (λ (s : ℤ). SetsValues (key_of c.args.table.now) c.args.id bytes c.args.stepper.now c.set_column.new.self s) (sym status)
    (subst (λ k. SetsValues k c.args.id bytes c.args.stepper.now c.set_column.new.self c.column_status.result) c.key.ensures (inl (c.in-Some.id, c.in-Some.ensures.value, set)))
