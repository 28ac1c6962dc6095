use Rattle.std.proofs.Common.{◌≡◌, ℕ, ◌+◌, ◌-◌, ◌<◌, length, List, Option, arith, ap, sym, ◌∙◌, slice_index_or, slice_set, map, take, drop, ◌++◌}
use Rattle.std.proofs.lemmas.List.{get_or_default}
use Rattle.std.specs.List.{zip}
use Rattle.ecs_id.specs.Id.{Id}
use Rattle.raw_column.specs.Contents.{Contents, no_values}
use Rattle.raw_column.specs.Places.{Values}
use Rattle.ecs_table.proofs.ColumnLemmas.{paired_done, paired_more, paired_rest, said_option}
use Rattle.ecs_table.specs.Archetype.{replaced, value_of}
use Rattle.ecs_table.proofs.table.copy_values.Goals as goal

pub copy_value-requires-clause-column : goal.copy_value-requires-clause-column
copy_value-requires-clause-column g c =
    let first = c.args.columns.now in let k = c.loop-k.k in let ids = c.args.ids.now in let lt : k < length ids = omega arith in let lt2 : k < length first.columns = omega (arith, c.requires.paired) in
    let f : Id × Values → Values = λ p. replaced (first.len - 1) (value_of c.args.source.now c.args.row p.0) p.1 in
    (paired_rest f ids first.columns c.loop-k.columns.columns k (no_values 0) lt lt2 (ap (λ (v : Contents). v.columns) c.loop-k.invariant)).0

pub copy_value-requires-clause-row : goal.copy_value-requires-clause-row
copy_value-requires-clause-row g c =
    let first = c.args.columns.now in let len : c.loop-k.columns.len ≡ first.len = ap (λ (v : Contents). v.len) c.loop-k.invariant in
    omega (arith, c.len-last.ensures, c.requires.last)

pub loop-k-preserved : goal.loop-k-preserved
loop-k-preserved g c =
    let first = c.args.columns.now in let k = c.loop-k.k in let ids = c.args.ids.now in let lt : k < length ids = omega arith in let lt2 : k < length first.columns = omega (arith, c.requires.paired) in
    let value : Id → Option (List ℕ) = value_of c.args.source.now c.args.row in let cs = c.loop-k.columns.columns in let last : ℕ = first.len - 1 in
    let f : Id × Values → Values = λ p. replaced last (value p.0) p.1 in let done = ap (λ (v : Contents). v.columns) c.loop-k.invariant in
    let i : Id = c.index-ids-k.result in let x = slice_index_or cs k (no_values 0) in
    let within : k < length cs = (paired_rest f ids first.columns cs k (no_values 0) lt lt2 done).0 in
    let at : c.len-last.result - 1 ≡ last = ap (λ n. n - 1) c.len-last.ensures in
    let said = said_option c.value_from-next.result.1 (value i) c.value_from-next.ensures in
    let new = paired_more f ids first.columns cs k i x lt lt2 done c.index-ids-k.is (get_or_default cs k (no_values 0) x within) in
    c.copy_value.ensures ∙ (λ j. record c.loop-k.columns { columns = slice_set cs k (replaced (at j) (said j) x) }) ∙ ap (λ l. record c.loop-k.columns { columns = l }) new
    ∙ ap (λ (v : Contents). record v { columns = map f (take (k + 1) (zip ids first.columns)) ++ drop (k + 1) first.columns }) c.loop-k.invariant

pub returns : goal.returns
returns g c =
    let first = c.args.columns.now in
    let f : Id × Values → Values = λ p. replaced (first.len - 1) (value_of c.args.source.now c.args.row p.0) p.1 in
    c.loop-k.invariant ∙ ap (λ l. record first { columns = l }) (sym (ap (λ (v : Contents). v.columns) c.loop-k.invariant) ∙ paired_done f c.args.ids.now first.columns c.loop-k.columns.columns c.loop-k.k c.requires.paired (omega (arith, c.requires.paired)) (ap (λ (v : Contents). v.columns) c.loop-k.invariant))
